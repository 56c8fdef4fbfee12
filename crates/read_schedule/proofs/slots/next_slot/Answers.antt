use Rattle.std.proofs.Common.{sym, ◌∙◌}
use Rattle.sched_model.specs.Domain.{fits_def}
use Rattle.read_schedule.specs.code.Rows.{slot_row}
use Rattle.read_schedule.specs.code.Reads.{is_spelled}
use Rattle.read_schedule.proofs.spelling.Taken.{unread, unfit}
use Rattle.read_schedule.proofs.spelling.Spelled.{slots_told}
use Rattle.read_schedule.proofs.slots.next_slot.Goals as goal

pub returns-in_default : goal.returns-in_default
returns-in_default c = λ v fits. c.in_default.ensures.1 (slot_row 0 c.args.d.now v)

pub returns-in_default-read_words : goal.returns-in_default-read_words
returns-in_default-read_words c = unread (slot_row 0 c.args.d.now) is_spelled (fits_def c.args.d.now) (slots_told c.args.d.now c.requires.def c.requires.name) c.args.lines.now c.in-Some.line.now c.next.new.self c.in-Some.ensures c.in_default-read_words.ensures

pub returns : goal.returns
returns c = unfit (slot_row 0 c.args.d.now) is_spelled (fits_def c.args.d.now) (slots_told c.args.d.now c.requires.def c.requires.name) c.args.lines.now c.in-Some.line.now c.next.new.self c.in-Some-read_words.slot c.in-Some.ensures c.in-Some-read_words.ensures (sym c.fits.ensures ∙ c.if-fits.false)
