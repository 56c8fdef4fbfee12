use Rattle.std.proofs.Common.{◌∙◌}
use Rattle.gatherer.specs.laws.Gathering.{goes_on_as, stops}
use Rattle.logtext.proofs.writer.LogWriter.put_number.Goals as goal

pub returns-in_err-put : goal.returns-in_err-put
returns-in_err-put g c = stops (g.I.Integer.text c.args.n) c.from_residual.ensures.0 c.in_err-put.ensures

pub returns : goal.returns
returns g c = goes_on_as (g.I.Integer.text c.args.n) (c.as_bytes.ensures.value ∙ c.format.ensures.text) c.in_ok-put.ensures c.put_digits.ensures
