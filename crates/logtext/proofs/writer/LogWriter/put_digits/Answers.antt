use Rattle.std.proofs.Common.{refl}
use Rattle.logtext.proofs.Digits.{no_bytes, byte_more, byte_stops, all_bytes}
use Rattle.logtext.proofs.writer.LogWriter.put_digits.Goals as goal

pub loop-digit-init : goal.loop-digit-init
loop-digit-init g c = no_bytes c.args.digits.now

pub returns-in_err-put : goal.returns-in_err-put
returns-in_err-put g c = byte_stops c.args.digits.now c.loop-digit.digit-index _ _ c.loop-digit-test.true refl c.from_residual.ensures.0 c.loop-digit.invariant c.in_err-put.ensures

pub loop-digit-preserved : goal.loop-digit-preserved
loop-digit-preserved g c = byte_more c.args.digits.now c.loop-digit.digit-index _ _ c.loop-digit-test.true refl c.loop-digit.invariant c.in_ok-put.ensures

pub returns : goal.returns
returns g c = all_bytes c.args.digits.now c.loop-digit.digit-index c.loop-digit-test.false c.loop-digit.invariant
