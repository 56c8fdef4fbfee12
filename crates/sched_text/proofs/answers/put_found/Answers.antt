use Rattle.std.proofs.Common.{◌≡◌, Some, rules, ap, sym, SFits, w64}
use Rattle.std.proofs.lemmas.Int.{to_z-of_z}
use Rattle.textline.specs.Lines.{line}
use Rattle.sched_text.specs.Answers.{unfinished_words}
use Rattle.sched_text.proofs.Printing.{«as»}
use Rattle.sched_text.proofs.answers.put_found.Goals as goal

pub returns-in-None : goal.returns-in-None
returns-in-None g c = «as» c.put_text.ensures (ap (λ b. line (unfinished_words c.args.model.now b)) (sym c.in-None.is))

pub returns-in-Some : goal.returns-in-Some
returns-in-Some g c =
    let fits : SFits w64 c.in-Some.v = search rules in
    let is : c.args.best ≡ Some c.in-Some.v = search rules in
    «as» (simp to_z-of_z at c.put_valued.ensures) (ap (λ b. line (unfinished_words c.args.model.now b)) (sym is))
