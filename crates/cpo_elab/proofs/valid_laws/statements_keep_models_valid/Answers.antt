use Rattle.std.proofs.Common.{refl}
use Rattle.cpo_elab.proofs.judging.Calendars.{stage_kept}
use Rattle.cpo_elab.proofs.judging.Valid.{valid_written}
use Rattle.cpo_elab.proofs.valid_laws.statements_keep_models_valid.Goals as goal

pub returns : goal.returns
returns c = record { statements = stage_kept; written = λ st k d valid none. valid_written st.model d valid (st, k, refl, none) }
