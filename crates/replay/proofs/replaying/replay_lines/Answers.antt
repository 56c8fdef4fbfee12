use Rattle.std.proofs.Common.{◌≡◌, ◌+◌, ◌<◌, ◌-◌, true, false, length, drop, Ok, Err, sym, subst, ◌∙◌, arith, rules}
use Rattle.logtext.specs.declared.entry.Entry.TheVariants.{Finish}
use Rattle.logtext.specs.Judgement.{log_limit}
use Rattle.replay.specs.declared.fault.ReplayFault.TheVariants.{Refused}
use Rattle.replay.specs.declared.replaying.Turn.TheVariants.{Stepped, Ended, Wrong, Missing, Beyond}
use Rattle.replay.specs.code.Pieces.{GoesOn}
use Rattle.replay.specs.code.Endings.{Ends}
use Rattle.replay.specs.declared.replaying.Ending.TheVariants.{Whole, Cut}
use Rattle.replay.specs.code.Turns.{Turns, IsWrong, fault_of_read}
use Rattle.replay.proofs.Spelt.{Spellings}
use Rattle.replay.proofs.Feeding.{reading_taken}
use Rattle.replay.proofs.Desk.{judging_first, judging_more, reached_on, same_version, room, held_place, Falls, gives_both_up, ends_well, cut_well, is_too_long, refuses_behind, refuses_wrong}
use Rattle.replay.proofs.replaying.replay_lines.Goals as goal

pub lines-init : goal.lines-init
lines-init g c = record {
  judging = λ start begun. judging_first g.X.Refuter.refuting g.X.Witness.Numbers.numbers g.X.Witness.Numbers.is_valid g.V.Watcher.noted c.args.watcher.now c.args.model.now c.args.version start (g.D.Desk.state c.args.desk.now) c.args.lines.now c.args.kernel.now c.requires.opening begun;
  ready = c.requires.ready;
  opened = c.requires.opened;
  limit = c.requires.limit;
}

pub take_line-requires-clause-nodes : goal.take_line-requires-clause-nodes
take_line-requires-clause-nodes g c =
    let judging = c.lines.invariant.judging c.requires.begun.0 c.requires.begun.1 in
    let small = room g.X.Refuter.refuting g.X.Witness.Numbers.numbers g.X.Witness.Numbers.is_valid g.V.Watcher.noted c.args.watcher.now c.args.model.now c.args.version c.requires.begun.0 (g.D.Desk.state c.lines.desk) c.lines.lines c.lines.line c.lines.kernel c.lines.watcher judging c.lines.invariant.limit in
    omega (arith, small.0)

pub overflow_add-line : goal.overflow_add-line
overflow_add-line g c =
    let judging = c.lines.invariant.judging c.requires.begun.0 c.requires.begun.1 in
    let small = room g.X.Refuter.refuting g.X.Witness.Numbers.numbers g.X.Witness.Numbers.is_valid g.V.Watcher.noted c.args.watcher.now c.args.model.now c.args.version c.requires.begun.0 (g.D.Desk.state c.lines.desk) c.lines.lines c.lines.line c.lines.kernel c.lines.watcher judging c.lines.invariant.limit in
    omega (arith, small.1)

pub overflow_add-result : goal.overflow_add-result
overflow_add-result g c =
    let judging = c.lines.invariant.judging c.requires.begun.0 c.requires.begun.1 in
    let small = room g.X.Refuter.refuting g.X.Witness.Numbers.numbers g.X.Witness.Numbers.is_valid g.V.Watcher.noted c.args.watcher.now c.args.model.now c.args.version c.requires.begun.0 (g.D.Desk.state c.lines.desk) c.lines.lines c.lines.line c.lines.kernel c.lines.watcher judging c.lines.invariant.limit in
    omega (arith, small.1)

pub returns-in_err-take_line-clause-ends : goal.returns-in_err-take_line-clause-ends
returns-in_err-take_line-clause-ends g c = λ start begun.
    let is : c.from_residual.result ≡ Err (fault_of_read c.in_err-take_line.field-0.0) = search rules in
    let judging = c.lines.invariant.judging start begun in
    subst (λ r. Ends g.X.Refuter.refuting g.X.Witness.Numbers.numbers g.X.Witness.Numbers.is_valid g.V.Watcher.noted c.args.model.now r c.take_line.new.kernel c.args.watcher.now c.take_line.new.watcher start (g.D.Desk.state c.take_line.new.desk)) (sym is)
    (gives_both_up g.X.Refuter.refuting g.X.Witness.Numbers.numbers g.X.Witness.Numbers.is_valid g.V.Watcher.noted c.args.watcher.now c.args.model.now log_limit c.in_err-take_line.field-0.0 start (g.D.Desk.state c.take_line.new.desk) (omega arith) (c.in_err-take_line.ensures.turns start judging.fed judging.place judging.reading judging.fits) c.take_line.new.watcher)

pub lines-smaller : goal.lines-smaller
lines-smaller g c =
    let start = c.requires.begun.0 in
    let begun = c.requires.begun.1 in
    let judging = c.lines.invariant.judging start begun in
    let turned : Turns g.X.Refuter.refuting g.X.Witness.Numbers.numbers g.X.Witness.Numbers.is_valid g.V.Watcher.noted c.args.model.now c.args.version start (g.D.Desk.state c.take_line.new.desk) judging.fed judging.place (Ok Stepped) c.take_line.new.lines c.lines.kernel c.take_line.new.kernel c.lines.watcher c.take_line.new.watcher =
    subst (λ t. Turns g.X.Refuter.refuting g.X.Witness.Numbers.numbers g.X.Witness.Numbers.is_valid g.V.Watcher.noted c.args.model.now c.args.version start (g.D.Desk.state c.take_line.new.desk) judging.fed judging.place (Ok t) c.take_line.new.lines c.lines.kernel c.take_line.new.kernel c.lines.watcher c.take_line.new.watcher) c.in-Stepped.is
    (c.in_ok-take_line.ensures.turns start judging.fed judging.place judging.reading judging.fits) in
    let before : c.lines.lines.count - length c.lines.lines.rest ≡ judging.place = held_place g.X.Refuter.refuting g.X.Witness.Numbers.numbers g.X.Witness.Numbers.is_valid g.V.Watcher.noted c.args.watcher.now c.lines.lines judging.fed judging.place judging.fits judging.reading.within in
    let after : c.take_line.new.lines.count - length c.take_line.new.lines.rest ≡ turned.2.0 = held_place g.X.Refuter.refuting g.X.Witness.Numbers.numbers g.X.Witness.Numbers.is_valid g.V.Watcher.noted c.args.watcher.now c.take_line.new.lines turned.0 turned.2.0 turned.2.6 turned.2.2.within in
    let smaller : log_limit - (c.take_line.new.lines.count - length c.take_line.new.lines.rest) < log_limit - (c.lines.lines.count - length c.lines.lines.rest) = omega (arith, before, after, turned.2.2.further, turned.2.2.within, turned.1.few) in
    smaller

pub lines-preserved : goal.lines-preserved
lines-preserved g c = record {
  judging = λ start begun.
      let laws : Spellings g.X.Witness.Numbers.numbers g.X.Witness.Numbers.is_valid = record { told = c.spelling_is_determined.ensures.told; ends = c.spelling_is_determined.ensures.ends } in
      let judging = c.lines.invariant.judging start begun in
      let turned : Turns g.X.Refuter.refuting g.X.Witness.Numbers.numbers g.X.Witness.Numbers.is_valid g.V.Watcher.noted c.args.model.now c.args.version start (g.D.Desk.state c.take_line.new.desk) judging.fed judging.place (Ok Stepped) c.take_line.new.lines c.lines.kernel c.take_line.new.kernel c.lines.watcher c.take_line.new.watcher =
      subst (λ t. Turns g.X.Refuter.refuting g.X.Witness.Numbers.numbers g.X.Witness.Numbers.is_valid g.V.Watcher.noted c.args.model.now c.args.version start (g.D.Desk.state c.take_line.new.desk) judging.fed judging.place (Ok t) c.take_line.new.lines c.lines.kernel c.take_line.new.kernel c.lines.watcher c.take_line.new.watcher) c.in-Stepped.is
      (c.in_ok-take_line.ensures.turns start judging.fed judging.place judging.reading judging.fits) in
      judging_more g.X.Refuter.refuting g.X.Witness.Numbers.numbers g.X.Witness.Numbers.is_valid g.V.Watcher.noted c.args.watcher.now laws c.args.model.now c.args.version start (g.D.Desk.state c.lines.desk) (g.D.Desk.state c.take_line.new.desk) c.lines.lines c.take_line.new.lines turned.0 turned.2.0 c.lines.line turned.2.1 c.lines.kernel c.take_line.new.kernel c.lines.watcher c.take_line.new.watcher judging turned.1 turned.2.2 turned.2.3 turned.2.4 turned.2.5 turned.2.6;
  ready = c.in_ok-take_line.ensures.ready;
  opened = c.in_ok-take_line.ensures.opened;
  limit = c.in_ok-take_line.ensures.limit;
}

pub returns-in_err-goes_on-in-Ended-clause-ends : goal.returns-in_err-goes_on-in-Ended-clause-ends
returns-in_err-goes_on-in-Ended-clause-ends g c = λ start begun.
    let is : c.from_residual-in_err-goes_on-in-Ended.result ≡ Err (fault_of_read c.in_err-goes_on-in-Ended.field-0.0) = search rules in
    let laws : Spellings g.X.Witness.Numbers.numbers g.X.Witness.Numbers.is_valid = record { told = c.spelling_is_determined.ensures.told; ends = c.spelling_is_determined.ensures.ends } in
    let judging = c.lines.invariant.judging start begun in
    let turned : Turns g.X.Refuter.refuting g.X.Witness.Numbers.numbers g.X.Witness.Numbers.is_valid g.V.Watcher.noted c.args.model.now c.args.version start (g.D.Desk.state c.take_line.new.desk) judging.fed judging.place (Ok Ended) c.take_line.new.lines c.lines.kernel c.take_line.new.kernel c.lines.watcher c.take_line.new.watcher =
    subst (λ t. Turns g.X.Refuter.refuting g.X.Witness.Numbers.numbers g.X.Witness.Numbers.is_valid g.V.Watcher.noted c.args.model.now c.args.version start (g.D.Desk.state c.take_line.new.desk) judging.fed judging.place (Ok t) c.take_line.new.lines c.lines.kernel c.take_line.new.kernel c.lines.watcher c.take_line.new.watcher) c.in-Ended.is
    (c.in_ok-take_line.ensures.turns start judging.fed judging.place judging.reading judging.fits) in
    let taken = reading_taken g.X.Refuter.refuting g.X.Witness.Numbers.numbers g.X.Witness.Numbers.is_valid laws start (g.D.Desk.state c.take_line.new.desk) turned.0 judging.place turned.2.0 Finish turned.1.reading turned.2.1 in
    subst (λ r. Ends g.X.Refuter.refuting g.X.Witness.Numbers.numbers g.X.Witness.Numbers.is_valid g.V.Watcher.noted c.args.model.now r c.take_line.new.kernel c.args.watcher.now c.take_line.new.watcher start (g.D.Desk.state c.goes_on.new.desk)) (sym is)
    (gives_both_up g.X.Refuter.refuting g.X.Witness.Numbers.numbers g.X.Witness.Numbers.is_valid g.V.Watcher.noted c.args.watcher.now c.args.model.now (log_limit + 1) c.in_err-goes_on-in-Ended.field-0.0 start (g.D.Desk.state c.goes_on.new.desk) (omega arith) (c.in_err-goes_on-in-Ended.ensures start turned.0 turned.2.0 taken turned.2.4) c.take_line.new.watcher)

pub returns-then-branch-clause-ends : goal.returns-then-branch-clause-ends
returns-then-branch-clause-ends g c = λ start begun.
    let laws : Spellings g.X.Witness.Numbers.numbers g.X.Witness.Numbers.is_valid = record { told = c.spelling_is_determined.ensures.told; ends = c.spelling_is_determined.ensures.ends } in
    let judging = c.lines.invariant.judging start begun in
    let turned : Turns g.X.Refuter.refuting g.X.Witness.Numbers.numbers g.X.Witness.Numbers.is_valid g.V.Watcher.noted c.args.model.now c.args.version start (g.D.Desk.state c.take_line.new.desk) judging.fed judging.place (Ok Ended) c.take_line.new.lines c.lines.kernel c.take_line.new.kernel c.lines.watcher c.take_line.new.watcher =
    subst (λ t. Turns g.X.Refuter.refuting g.X.Witness.Numbers.numbers g.X.Witness.Numbers.is_valid g.V.Watcher.noted c.args.model.now c.args.version start (g.D.Desk.state c.take_line.new.desk) judging.fed judging.place (Ok t) c.take_line.new.lines c.lines.kernel c.take_line.new.kernel c.lines.watcher c.take_line.new.watcher) c.in-Ended.is
    (c.in_ok-take_line.ensures.turns start judging.fed judging.place judging.reading judging.fits) in
    let so_far = reached_on g.X.Refuter.refuting g.X.Witness.Numbers.numbers g.X.Witness.Numbers.is_valid g.V.Watcher.noted c.args.watcher.now c.args.model.now start (g.D.Desk.state c.take_line.new.desk) judging.fed turned.0 judging.place c.lines.line c.lines.kernel judging.reached turned.1 in
    let taken = reading_taken g.X.Refuter.refuting g.X.Witness.Numbers.numbers g.X.Witness.Numbers.is_valid laws start (g.D.Desk.state c.take_line.new.desk) turned.0 judging.place turned.2.0 Finish turned.1.reading turned.2.1 in
    let behind : c.place-behind.result ≡ turned.2.0 = c.place-behind.ensures ∙ held_place g.X.Refuter.refuting g.X.Witness.Numbers.numbers g.X.Witness.Numbers.is_valid g.V.Watcher.noted c.args.watcher.now c.take_line.new.lines turned.0 turned.2.0 turned.2.4 turned.2.1.within in
    let goes : GoesOn start (g.D.Desk.state c.goes_on.new.desk) turned.0 turned.2.0 (Ok true) =
    subst (λ b. GoesOn start (g.D.Desk.state c.goes_on.new.desk) turned.0 turned.2.0 (Ok b)) c.if-branch.true (c.in_ok-goes_on-in-Ended.ensures start turned.0 turned.2.0 taken turned.2.4) in
    subst (λ p. Falls g.X.Refuter.refuting g.X.Witness.Numbers.numbers g.X.Witness.Numbers.is_valid g.V.Watcher.noted c.args.watcher.now c.args.model.now (Refused (c.lines.line + 1) p) c.take_line.new.watcher start (g.D.Desk.state c.goes_on.new.desk)) (sym behind)
    (refuses_behind g.X.Refuter.refuting g.X.Witness.Numbers.numbers g.X.Witness.Numbers.is_valid g.V.Watcher.noted c.args.watcher.now laws c.args.model.now start (g.D.Desk.state c.goes_on.new.desk) turned.0 goes.0 judging.place turned.2.0 c.lines.line c.lines.kernel goes.1 turned.1.few goes.2 so_far turned.2.1 goes.3 c.take_line.new.watcher)

pub returns-in-Ended-clause-ends : goal.returns-in-Ended-clause-ends
returns-in-Ended-clause-ends g c = λ start begun.
    let laws : Spellings g.X.Witness.Numbers.numbers g.X.Witness.Numbers.is_valid = record { told = c.spelling_is_determined.ensures.told; ends = c.spelling_is_determined.ensures.ends } in
    let judging = c.lines.invariant.judging start begun in
    let turned : Turns g.X.Refuter.refuting g.X.Witness.Numbers.numbers g.X.Witness.Numbers.is_valid g.V.Watcher.noted c.args.model.now c.args.version start (g.D.Desk.state c.take_line.new.desk) judging.fed judging.place (Ok Ended) c.take_line.new.lines c.lines.kernel c.take_line.new.kernel c.lines.watcher c.take_line.new.watcher =
    subst (λ t. Turns g.X.Refuter.refuting g.X.Witness.Numbers.numbers g.X.Witness.Numbers.is_valid g.V.Watcher.noted c.args.model.now c.args.version start (g.D.Desk.state c.take_line.new.desk) judging.fed judging.place (Ok t) c.take_line.new.lines c.lines.kernel c.take_line.new.kernel c.lines.watcher c.take_line.new.watcher) c.in-Ended.is
    (c.in_ok-take_line.ensures.turns start judging.fed judging.place judging.reading judging.fits) in
    let taken = reading_taken g.X.Refuter.refuting g.X.Witness.Numbers.numbers g.X.Witness.Numbers.is_valid laws start (g.D.Desk.state c.take_line.new.desk) turned.0 judging.place turned.2.0 Finish turned.1.reading turned.2.1 in
    let ends : GoesOn start (g.D.Desk.state c.goes_on.new.desk) turned.0 turned.2.0 (Ok false) =
    subst (λ b. GoesOn start (g.D.Desk.state c.goes_on.new.desk) turned.0 turned.2.0 (Ok b)) c.if-branch.false (c.in_ok-goes_on-in-Ended.ensures start turned.0 turned.2.0 taken turned.2.4) in
    let same = ends_well g.X.Refuter.refuting g.X.Witness.Numbers.numbers g.X.Witness.Numbers.is_valid g.V.Watcher.noted c.args.watcher.now laws c.args.model.now c.args.version start (g.D.Desk.state c.lines.desk) (g.D.Desk.state c.take_line.new.desk) (g.D.Desk.state c.goes_on.new.desk) c.lines.lines turned.0 turned.2.0 c.lines.line c.lines.kernel c.lines.watcher judging turned.1 turned.2.1 ends in
    subst (λ k. Ends g.X.Refuter.refuting g.X.Witness.Numbers.numbers g.X.Witness.Numbers.is_valid g.V.Watcher.noted c.args.model.now (Ok Whole) k c.args.watcher.now c.take_line.new.watcher start (g.D.Desk.state c.goes_on.new.desk)) (sym turned.2.2)
    (subst (λ w. Ends g.X.Refuter.refuting g.X.Witness.Numbers.numbers g.X.Witness.Numbers.is_valid g.V.Watcher.noted c.args.model.now (Ok Whole) c.lines.kernel c.args.watcher.now w start (g.D.Desk.state c.goes_on.new.desk)) (sym turned.2.3) same)

pub returns-in-Wrong-clause-ends : goal.returns-in-Wrong-clause-ends
returns-in-Wrong-clause-ends g c = λ start begun.
    let laws : Spellings g.X.Witness.Numbers.numbers g.X.Witness.Numbers.is_valid = record { told = c.spelling_is_determined.ensures.told; ends = c.spelling_is_determined.ensures.ends } in
    let judging = c.lines.invariant.judging start begun in
    let turned : Turns g.X.Refuter.refuting g.X.Witness.Numbers.numbers g.X.Witness.Numbers.is_valid g.V.Watcher.noted c.args.model.now c.args.version start (g.D.Desk.state c.take_line.new.desk) judging.fed judging.place (Ok Wrong) c.take_line.new.lines c.lines.kernel c.take_line.new.kernel c.lines.watcher c.take_line.new.watcher =
    subst (λ t. Turns g.X.Refuter.refuting g.X.Witness.Numbers.numbers g.X.Witness.Numbers.is_valid g.V.Watcher.noted c.args.model.now c.args.version start (g.D.Desk.state c.take_line.new.desk) judging.fed judging.place (Ok t) c.take_line.new.lines c.lines.kernel c.take_line.new.kernel c.lines.watcher c.take_line.new.watcher) c.in-Wrong.is
    (c.in_ok-take_line.ensures.turns start judging.fed judging.place judging.reading judging.fits) in
    let at : c.place-at.result ≡ judging.place = c.place-at.ensures ∙ held_place g.X.Refuter.refuting g.X.Witness.Numbers.numbers g.X.Witness.Numbers.is_valid g.V.Watcher.noted c.args.watcher.now c.lines.lines judging.fed judging.place judging.fits judging.reading.within in
    let so_far = reached_on g.X.Refuter.refuting g.X.Witness.Numbers.numbers g.X.Witness.Numbers.is_valid g.V.Watcher.noted c.args.watcher.now c.args.model.now start (g.D.Desk.state c.take_line.new.desk) judging.fed turned.0 judging.place c.lines.line c.lines.kernel judging.reached turned.1 in
    subst (λ p. Falls g.X.Refuter.refuting g.X.Witness.Numbers.numbers g.X.Witness.Numbers.is_valid g.V.Watcher.noted c.args.watcher.now c.args.model.now (Refused c.lines.line p) c.take_line.new.watcher start (g.D.Desk.state c.take_line.new.desk)) (sym at)
    (refuses_wrong g.X.Refuter.refuting g.X.Witness.Numbers.numbers g.X.Witness.Numbers.is_valid g.V.Watcher.noted c.args.watcher.now laws c.args.model.now start (g.D.Desk.state c.take_line.new.desk) turned.0 judging.place c.lines.line c.lines.kernel turned.1.reading turned.1.few so_far (subst (λ v. IsWrong g.X.Refuter.refuting g.X.Witness.Numbers.numbers g.X.Witness.Numbers.is_valid c.args.model.now v c.lines.kernel (drop judging.place turned.0)) (sym (same_version g.X.Refuter.refuting g.X.Witness.Numbers.numbers g.X.Witness.Numbers.is_valid g.V.Watcher.noted c.args.watcher.now c.args.model.now start (g.D.Desk.state c.take_line.new.desk) judging.fed turned.0 judging.place c.lines.line c.lines.kernel judging.reached turned.1 ∙ judging.of_version)) turned.2) c.take_line.new.watcher)

pub returns-in-Missing-clause-ends : goal.returns-in-Missing-clause-ends
returns-in-Missing-clause-ends g c = λ start begun.
    let laws : Spellings g.X.Witness.Numbers.numbers g.X.Witness.Numbers.is_valid = record { told = c.spelling_is_determined.ensures.told; ends = c.spelling_is_determined.ensures.ends } in
    let judging = c.lines.invariant.judging start begun in
    let turned : Turns g.X.Refuter.refuting g.X.Witness.Numbers.numbers g.X.Witness.Numbers.is_valid g.V.Watcher.noted c.args.model.now c.args.version start (g.D.Desk.state c.take_line.new.desk) judging.fed judging.place (Ok Missing) c.take_line.new.lines c.lines.kernel c.take_line.new.kernel c.lines.watcher c.take_line.new.watcher =
    subst (λ t. Turns g.X.Refuter.refuting g.X.Witness.Numbers.numbers g.X.Witness.Numbers.is_valid g.V.Watcher.noted c.args.model.now c.args.version start (g.D.Desk.state c.take_line.new.desk) judging.fed judging.place (Ok t) c.take_line.new.lines c.lines.kernel c.take_line.new.kernel c.lines.watcher c.take_line.new.watcher) c.in-Missing.is
    (c.in_ok-take_line.ensures.turns start judging.fed judging.place judging.reading judging.fits) in
    let at : c.place-at.result ≡ judging.place = c.place-at.ensures ∙ held_place g.X.Refuter.refuting g.X.Witness.Numbers.numbers g.X.Witness.Numbers.is_valid g.V.Watcher.noted c.args.watcher.now c.lines.lines judging.fed judging.place judging.fits judging.reading.within in
    let ends = cut_well g.X.Refuter.refuting g.X.Witness.Numbers.numbers g.X.Witness.Numbers.is_valid g.V.Watcher.noted c.args.watcher.now laws c.args.model.now c.args.version start (g.D.Desk.state c.lines.desk) (g.D.Desk.state c.take_line.new.desk) c.lines.lines turned.0 c.lines.line c.lines.kernel c.lines.watcher judging turned.1 turned.2 turned.3 turned.4 in
    subst (λ k. Ends g.X.Refuter.refuting g.X.Witness.Numbers.numbers g.X.Witness.Numbers.is_valid g.V.Watcher.noted c.args.model.now (Ok (Cut c.lines.line c.place-at.result)) k c.args.watcher.now c.take_line.new.watcher start (g.D.Desk.state c.take_line.new.desk)) (sym turned.5)
    (subst (λ w. Ends g.X.Refuter.refuting g.X.Witness.Numbers.numbers g.X.Witness.Numbers.is_valid g.V.Watcher.noted c.args.model.now (Ok (Cut c.lines.line c.place-at.result)) c.lines.kernel c.args.watcher.now w start (g.D.Desk.state c.take_line.new.desk)) (sym turned.6)
    (subst (λ p. Ends g.X.Refuter.refuting g.X.Witness.Numbers.numbers g.X.Witness.Numbers.is_valid g.V.Watcher.noted c.args.model.now (Ok (Cut c.lines.line p)) c.lines.kernel c.args.watcher.now c.lines.watcher start (g.D.Desk.state c.take_line.new.desk)) (sym at) ends))

pub returns-in-Beyond-clause-ends : goal.returns-in-Beyond-clause-ends
returns-in-Beyond-clause-ends g c = λ start begun.
    let judging = c.lines.invariant.judging start begun in
    let turned : Turns g.X.Refuter.refuting g.X.Witness.Numbers.numbers g.X.Witness.Numbers.is_valid g.V.Watcher.noted c.args.model.now c.args.version start (g.D.Desk.state c.take_line.new.desk) judging.fed judging.place (Ok Beyond) c.take_line.new.lines c.lines.kernel c.take_line.new.kernel c.lines.watcher c.take_line.new.watcher =
    subst (λ t. Turns g.X.Refuter.refuting g.X.Witness.Numbers.numbers g.X.Witness.Numbers.is_valid g.V.Watcher.noted c.args.model.now c.args.version start (g.D.Desk.state c.take_line.new.desk) judging.fed judging.place (Ok t) c.take_line.new.lines c.lines.kernel c.take_line.new.kernel c.lines.watcher c.take_line.new.watcher) c.in-Beyond.is
    (c.in_ok-take_line.ensures.turns start judging.fed judging.place judging.reading judging.fits) in
    let so_far = reached_on g.X.Refuter.refuting g.X.Witness.Numbers.numbers g.X.Witness.Numbers.is_valid g.V.Watcher.noted c.args.watcher.now c.args.model.now start (g.D.Desk.state c.take_line.new.desk) judging.fed turned.0 judging.place c.lines.line c.lines.kernel judging.reached turned.1 in
    is_too_long g.X.Refuter.refuting g.X.Witness.Numbers.numbers g.X.Witness.Numbers.is_valid g.V.Watcher.noted c.args.watcher.now c.args.model.now start (g.D.Desk.state c.take_line.new.desk) turned.0 judging.place c.lines.line c.lines.kernel turned.1.reading turned.3 so_far turned.2 c.take_line.new.watcher
