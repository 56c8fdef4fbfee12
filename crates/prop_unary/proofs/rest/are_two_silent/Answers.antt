use Rattle.std.proofs.Common.{rules}
use Rattle.prop_unary.proofs.rest.are_two_silent.Goals as goal

pub returns-then-is_silent_unordered : goal.returns-then-is_silent_unordered
returns-then-is_silent_unordered c = λ best told. (c.is_silent_unordered.ensures best (search rules), c.is_silent_behind.ensures best told)
