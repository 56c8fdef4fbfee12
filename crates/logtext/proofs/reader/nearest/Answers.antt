use Rattle.std.proofs.Common.{sym}
use Rattle.std.proofs.lemmas.List.{take_all}
use Rattle.logtext.specs.Entries.{line_limit}
use Rattle.logtext.proofs.reader.nearest.Goals as goal

pub returns-then-rest-le-LINE_LIMIT : goal.returns-then-rest-le-LINE_LIMIT
returns-then-rest-le-LINE_LIMIT c = sym (take_all line_limit c.args.rest.now c.if-rest-le-LINE_LIMIT.true)
