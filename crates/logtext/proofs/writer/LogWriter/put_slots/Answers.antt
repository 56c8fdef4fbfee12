use Rattle.std.proofs.Common.{refl}
use Rattle.logtext.specs.Spelling.{slot_words}
use Rattle.logtext.proofs.Spaced.{none_so_far, one_more, stops_at}
use Rattle.logtext.proofs.writer.LogWriter.put_slots.Goals as goal

pub loop-slot-init : goal.loop-slot-init
loop-slot-init g c = none_so_far slot_words c.args.slots.now

pub returns-in_err-put_slot : goal.returns-in_err-put_slot
returns-in_err-put_slot g c = stops_at slot_words c.args.slots.now c.loop-slot.slot-index _ _ c.loop-slot-test.true refl c.from_residual.ensures.0 c.loop-slot.invariant c.in_err-put_slot.ensures

pub loop-slot-preserved : goal.loop-slot-preserved
loop-slot-preserved g c = one_more slot_words c.args.slots.now c.loop-slot.slot-index _ _ c.loop-slot-test.true refl c.loop-slot.invariant c.in_ok-put_slot.ensures
