use Rattle.std.proofs.Common.{◌≡◌, [], Ok, Err, sym, subst, arith, rules}
use Rattle.replay.specs.declared.reading.NextLine.TheVariants.{Line, Wrong, Missing, Beyond}
use Rattle.replay.specs.code.Pieces.{FindsLine}
use Rattle.replay.specs.code.Turns.{FindsHead}
use Rattle.replay.proofs.Spelt.{Spellings}
use Rattle.replay.proofs.Feeding.{reading_none, held}
use Rattle.replay.proofs.Desk.{HeadAnswer, head_found, no_head_wrong, no_head_missing}
use Rattle.replay.proofs.replaying.take_head.Goals as goal

pub returns-in_err-entry-clause-head : goal.returns-in_err-entry-clause-head
returns-in_err-entry-clause-head g c =
    let is : c.from_residual.result ≡ Err c.in_err-entry.field-0.0 = search rules in
    let old = g.D.Desk.state c.args.desk.now in
    subst (λ r. FindsHead g.X.Witness.Numbers.numbers g.X.Witness.Numbers.is_valid old (g.D.Desk.state c.next_line.new.desk) r c.next_line.new.lines) (sym is) (c.in_err-entry.ensures.finds old [] 0 (reading_none g.X.Refuter.refuting g.X.Witness.Numbers.numbers g.X.Witness.Numbers.is_valid old) (held g.X.Refuter.refuting g.X.Witness.Numbers.numbers g.X.Witness.Numbers.is_valid c.args.lines.now 0 [] 0 c.requires.nothing))

pub returns-in-Line-clause-head : goal.returns-in-Line-clause-head
returns-in-Line-clause-head g c =
    let old = g.D.Desk.state c.args.desk.now in
    let now = g.D.Desk.state c.next_line.new.desk in
    let laws : Spellings g.X.Witness.Numbers.numbers g.X.Witness.Numbers.is_valid = record { told = c.spelling_is_determined.ensures.told; ends = c.spelling_is_determined.ensures.ends } in
    let found : FindsLine g.X.Witness.Numbers.numbers g.X.Witness.Numbers.is_valid old now [] 0 (Ok (Line c.in-Line.entry)) c.next_line.new.lines = subst (λ f. FindsLine g.X.Witness.Numbers.numbers g.X.Witness.Numbers.is_valid old now [] 0 (Ok f) c.next_line.new.lines) c.in-Line.is (c.in_ok-entry.ensures.finds old [] 0 (reading_none g.X.Refuter.refuting g.X.Witness.Numbers.numbers g.X.Witness.Numbers.is_valid old) (held g.X.Refuter.refuting g.X.Witness.Numbers.numbers g.X.Witness.Numbers.is_valid c.args.lines.now 0 [] 0 c.requires.nothing)) in
    subst (HeadAnswer g.X.Refuter.refuting g.X.Witness.Numbers.numbers g.X.Witness.Numbers.is_valid (λ (s : Unit {0}) l. s) tt old now c.next_line.new.lines) (sym c.version_in.ensures) (head_found g.X.Refuter.refuting g.X.Witness.Numbers.numbers g.X.Witness.Numbers.is_valid (λ (s : Unit {0}) l. s) tt laws old now c.next_line.new.lines found.0 found.2.0 c.in-Line.entry found.1 found.2.1 found.2.2)

pub returns-in-Wrong-clause-head : goal.returns-in-Wrong-clause-head
returns-in-Wrong-clause-head g c =
    let old = g.D.Desk.state c.args.desk.now in
    let now = g.D.Desk.state c.next_line.new.desk in
    let laws : Spellings g.X.Witness.Numbers.numbers g.X.Witness.Numbers.is_valid = record { told = c.spelling_is_determined.ensures.told; ends = c.spelling_is_determined.ensures.ends } in
    let found : FindsLine g.X.Witness.Numbers.numbers g.X.Witness.Numbers.is_valid old now [] 0 (Ok Wrong) c.next_line.new.lines = subst (λ f. FindsLine g.X.Witness.Numbers.numbers g.X.Witness.Numbers.is_valid old now [] 0 (Ok f) c.next_line.new.lines) c.in-Wrong.is (c.in_ok-entry.ensures.finds old [] 0 (reading_none g.X.Refuter.refuting g.X.Witness.Numbers.numbers g.X.Witness.Numbers.is_valid old) (held g.X.Refuter.refuting g.X.Witness.Numbers.numbers g.X.Witness.Numbers.is_valid c.args.lines.now 0 [] 0 c.requires.nothing)) in
    (found.0, found.1, no_head_wrong g.X.Refuter.refuting g.X.Witness.Numbers.numbers g.X.Witness.Numbers.is_valid (λ (s : Unit {0}) l. s) tt laws now found.0 found.2 found.3)

pub returns-in-Missing-clause-head : goal.returns-in-Missing-clause-head
returns-in-Missing-clause-head g c =
    let old = g.D.Desk.state c.args.desk.now in
    let now = g.D.Desk.state c.next_line.new.desk in
    let laws : Spellings g.X.Witness.Numbers.numbers g.X.Witness.Numbers.is_valid = record { told = c.spelling_is_determined.ensures.told; ends = c.spelling_is_determined.ensures.ends } in
    let found : FindsLine g.X.Witness.Numbers.numbers g.X.Witness.Numbers.is_valid old now [] 0 (Ok Missing) c.next_line.new.lines = subst (λ f. FindsLine g.X.Witness.Numbers.numbers g.X.Witness.Numbers.is_valid old now [] 0 (Ok f) c.next_line.new.lines) c.in-Missing.is (c.in_ok-entry.ensures.finds old [] 0 (reading_none g.X.Refuter.refuting g.X.Witness.Numbers.numbers g.X.Witness.Numbers.is_valid old) (held g.X.Refuter.refuting g.X.Witness.Numbers.numbers g.X.Witness.Numbers.is_valid c.args.lines.now 0 [] 0 c.requires.nothing)) in
    (found.0, found.1, no_head_missing g.X.Refuter.refuting g.X.Witness.Numbers.numbers g.X.Witness.Numbers.is_valid (λ (s : Unit {0}) l. s) tt laws now found.0 found.2 found.3)

pub returns-in-Beyond-clause-head : goal.returns-in-Beyond-clause-head
returns-in-Beyond-clause-head g c =
    let old = g.D.Desk.state c.args.desk.now in
    let now = g.D.Desk.state c.next_line.new.desk in
    let found : FindsLine g.X.Witness.Numbers.numbers g.X.Witness.Numbers.is_valid old now [] 0 (Ok Beyond) c.next_line.new.lines = subst (λ f. FindsLine g.X.Witness.Numbers.numbers g.X.Witness.Numbers.is_valid old now [] 0 (Ok f) c.next_line.new.lines) c.in-Beyond.is (c.in_ok-entry.ensures.finds old [] 0 (reading_none g.X.Refuter.refuting g.X.Witness.Numbers.numbers g.X.Witness.Numbers.is_valid old) (held g.X.Refuter.refuting g.X.Witness.Numbers.numbers g.X.Witness.Numbers.is_valid c.args.lines.now 0 [] 0 c.requires.nothing)) in
    absurd (omega (arith, found.2.short, found.3))
