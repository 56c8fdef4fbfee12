use Rattle.kernel.specs.Fit.{is_fit_slot}
use Rattle.logtext.specs.Spelling.{slot_words}
use Rattle.logtext.specs.code.Reads.{BeginsSlot}
use Rattle.logtext.specs.laws.Told.{slot_told, slot_starts}
use Rattle.logtext.proofs.Rows.{row_fails}
use Rattle.logtext.proofs.solution.read_slots.Goals as goal

pub returns-in-Err : goal.returns-in-Err
returns-in-Err c =
    row_fails slot_words is_fit_slot BeginsSlot slot_told slot_starts c.loop-slot.slots c.args.words.now c.loop-slot.words c.next_slot.new.words c.next_slot.new.words c.in-Err.fault c.loop-slot.invariant.fit c.loop-slot.invariant.same c.in-Err.ensures
