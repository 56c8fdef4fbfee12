use Rattle.std.proofs.Common.{◌≡◌, drop, Ok, Err, refl, sym, subst, rules}
use Rattle.logtext.specs.declared.entry.Entry.TheVariants.{Head, Step, Finish}
use Rattle.replay.specs.declared.reading.NextLine.TheVariants.{Wrong, Missing}
use Rattle.replay.specs.code.Pieces.{FindsLine}
use Rattle.replay.specs.code.Turns.{Turns}
use Rattle.replay.proofs.Spelt.{Spellings}
use Rattle.replay.proofs.Judged.{none_wrong, head_wrong}
use Rattle.replay.proofs.Feeding.{found_entry}
use Rattle.replay.proofs.Shown.{shown}
use Rattle.replay.proofs.replaying.take_line.Goals as goal

pub returns-in_err-entry-clause-turns : goal.returns-in_err-entry-clause-turns
returns-in_err-entry-clause-turns g c = λ start fed place reading fits.
    let is : c.from_residual.result ≡ Err c.in_err-entry.field-0.0 = search rules in
    subst (λ r. Turns g.X.Refuter.refuting g.X.Witness.Numbers.numbers g.X.Witness.Numbers.is_valid g.V.Watcher.noted c.args.model.now c.args.version start (g.D.Desk.state c.next_line.new.desk) fed place r c.next_line.new.lines c.args.kernel.now c.args.kernel.now c.args.watcher.now c.args.watcher.now) (sym is) (c.in_err-entry.ensures.finds start fed place reading fits)

pub returns-in-Wrong-clause-turns : goal.returns-in-Wrong-clause-turns
returns-in-Wrong-clause-turns g c = λ start fed place reading fits.
    let laws : Spellings g.X.Witness.Numbers.numbers g.X.Witness.Numbers.is_valid = record { told = c.spelling_is_determined.ensures.told; ends = c.spelling_is_determined.ensures.ends } in
    let found : FindsLine g.X.Witness.Numbers.numbers g.X.Witness.Numbers.is_valid start (g.D.Desk.state c.next_line.new.desk) fed place (Ok Wrong) c.next_line.new.lines =
    subst (λ f. FindsLine g.X.Witness.Numbers.numbers g.X.Witness.Numbers.is_valid start (g.D.Desk.state c.next_line.new.desk) fed place (Ok f) c.next_line.new.lines) c.in-Wrong.is (c.in_ok-entry.ensures.finds start fed place reading fits) in
    (found.0, found.1, none_wrong g.X.Refuter.refuting g.X.Witness.Numbers.numbers g.X.Witness.Numbers.is_valid laws c.args.model.now c.args.version c.args.kernel.now (drop place found.0) found.2 found.3)

pub returns-in-Missing-clause-turns : goal.returns-in-Missing-clause-turns
returns-in-Missing-clause-turns g c = λ start fed place reading fits.
    let found : FindsLine g.X.Witness.Numbers.numbers g.X.Witness.Numbers.is_valid start (g.D.Desk.state c.next_line.new.desk) fed place (Ok Missing) c.next_line.new.lines =
    subst (λ f. FindsLine g.X.Witness.Numbers.numbers g.X.Witness.Numbers.is_valid start (g.D.Desk.state c.next_line.new.desk) fed place (Ok f) c.next_line.new.lines) c.in-Missing.is (c.in_ok-entry.ensures.finds start fed place reading fits) in
    (found.0, found.1, found.2, found.3, found.4, refl, refl)

pub returns-in-Beyond-clause-turns : goal.returns-in-Beyond-clause-turns
returns-in-Beyond-clause-turns g c = λ start fed place reading fits.
    subst (λ f. FindsLine g.X.Witness.Numbers.numbers g.X.Witness.Numbers.is_valid start (g.D.Desk.state c.next_line.new.desk) fed place (Ok f) c.next_line.new.lines) c.in-Beyond.is (c.in_ok-entry.ensures.finds start fed place reading fits)

pub returns-in-Head-clause-turns : goal.returns-in-Head-clause-turns
returns-in-Head-clause-turns g c = λ start fed place reading fits.
    let laws : Spellings g.X.Witness.Numbers.numbers g.X.Witness.Numbers.is_valid = record { told = c.spelling_is_determined.ensures.told; ends = c.spelling_is_determined.ensures.ends } in
    let found = found_entry g.X.Refuter.refuting g.X.Witness.Numbers.numbers g.X.Witness.Numbers.is_valid start (g.D.Desk.state c.next_line.new.desk) fed place c.next_line.new.lines c.in_ok-entry.field-0 c.in-Line.entry (Head c.in-Head.field-0) (c.in_ok-entry.ensures.finds start fed place reading fits) c.in-Line.is c.in-Head.is in
    (found.0, found.1, head_wrong g.X.Refuter.refuting g.X.Witness.Numbers.numbers g.X.Witness.Numbers.is_valid laws c.args.model.now c.args.version c.args.kernel.now found.0 place found.2.0 c.in-Head.field-0 found.2.1)

pub returns-in-Step-clause-turns : goal.returns-in-Step-clause-turns
returns-in-Step-clause-turns g c = λ start fed place reading fits.
    let laws : Spellings g.X.Witness.Numbers.numbers g.X.Witness.Numbers.is_valid = record { told = c.spelling_is_determined.ensures.told; ends = c.spelling_is_determined.ensures.ends } in
    let found = found_entry g.X.Refuter.refuting g.X.Witness.Numbers.numbers g.X.Witness.Numbers.is_valid start (g.D.Desk.state c.next_line.new.desk) fed place c.next_line.new.lines c.in_ok-entry.field-0 c.in-Line.entry (Step c.in-Step.line) (c.in_ok-entry.ensures.finds start fed place reading fits) c.in-Line.is c.in-Step.is in
    shown g.X.Refuter.refuting g.X.Witness.Numbers.numbers g.X.Witness.Numbers.is_valid g.V.Watcher.noted laws c.args.model.now c.args.version start (g.D.Desk.state c.next_line.new.desk) fed place c.next_line.new.lines c.args.kernel.now c.show_line.new.kernel c.args.watcher.now c.show_line.new.watcher c.in-Step.line c.show_line.result found c.show_line.ensures.shows

pub returns-in-Finish-clause-turns : goal.returns-in-Finish-clause-turns
returns-in-Finish-clause-turns g c = λ start fed place reading fits.
    let found = found_entry g.X.Refuter.refuting g.X.Witness.Numbers.numbers g.X.Witness.Numbers.is_valid start (g.D.Desk.state c.next_line.new.desk) fed place c.next_line.new.lines c.in_ok-entry.field-0 c.in-Line.entry Finish (c.in_ok-entry.ensures.finds start fed place reading fits) c.in-Line.is c.in-Finish.is in
    (found.0, found.1, (found.2.0, found.2.1, refl, refl, found.2.2))
