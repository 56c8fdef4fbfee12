use Rattle.std.proofs.Common.{rules}
use Rattle.refute_seq.proofs.KindReading.{no_head, not_end_said}
use Rattle.refute_seq.proofs.spelling.not_end.Goals as goal

pub returns-in_default-clause-none : goal.returns-in_default-clause-none
returns-in_default-clause-none c = λ w valid same.
    no_head c.args.c c.args.side c.args.i _ _ _ (search rules) (search rules) (search rules) c.in_default.ensures.none (not_end_said w c.args.c c.args.side c.args.i c.args.numbers.now valid same).0
