-- When a region is quiet, whoever looks: what is derived is derived to the end.
use Rattle.std.specs.Prelude.{ℤ, Bool, false, Option}
use Rattle.sched_model.specs.Data.{Data}
use Rattle.region.specs.declared.types.Guess.{Guess}
use Rattle.region.specs.Cells.{Region}
use Rattle.findings.specs.Found.{IsQuiet}
use Rattle.refute_basic.specs.Listed.{lists, is_derived as is_derived_basic}
use Rattle.refute_hier.specs.Listed.{lists as lists_hier, is_derived as is_derived_hier}
use Rattle.refute_seq.specs.Listed.{lists as lists_seq, is_derived as is_derived_seq}
use Rattle.refute_cumul.specs.Listed.{lists as lists_cumul, is_derived as is_derived_cumul}
use Rattle.refute_state.specs.Listed.{lists as lists_state, is_derived as is_derived_state}
use Rattle.kernel.specs.declared.types.Witness.{Witness}
use Rattle.kernel.specs.declared.types.Witness.TheVariants.{Basic, Hier, Seq, Cumul, State, Extra}
use Rattle.kernel.specs.declared.no_extra.NoWitness.{NoWitness}
use Rattle.engine.specs.Plain.{refutes_plain}

-- facts are derived by each kind but LEAF; the extra witnesses of a plain log refute nothing
abbrev pub is_derived : Data → Witness NoWitness → Bool
is_derived m (Basic w) = is_derived_basic w
is_derived m (Hier w) = is_derived_hier w
is_derived m (Seq w) = is_derived_seq w
is_derived m (Cumul w) = is_derived_cumul w
is_derived m (State w) = is_derived_state w
is_derived m (Extra w) = false

-- the guesses under which a witness is asked, as its row lists them
abbrev pub lists_all : Data → Witness NoWitness → Guess → Bool
lists_all m (Basic w) g = lists m w g
lists_all m (Hier w) g = lists_hier m w g
lists_all m (Seq w) g = lists_seq m w g
lists_all m (Cumul w) g = lists_cumul m w g
lists_all m (State w) g = lists_state m w g
lists_all m (Extra w) g = false

-- no witness of a kind that derives refutes the region, nor refutes it under an open end guess that its row lists
abbrev pub IsQuietRegion : Data → Region → Option ℤ → Type 0
IsQuietRegion m r best = IsQuiet refutes_plain lists_all is_derived m r best
