-- A propagator is quiet where each two and each three demands of its state function are silent.
use Rattle.std.specs.Prelude.{◌≡◌, ℕ, ℤ, true, List, Option}
use Rattle.std.proofs.Common.{subst}
use Rattle.base_laws.specs.laws.Truth.{all_three, three_true}
use Rattle.sched_model.specs.Data.{Data}
use Rattle.region.specs.Cells.{Region}
use Rattle.region.specs.laws.Lists.{both_true, true_both}
use Rattle.refute_state.specs.declared.witness.StateWitness.{StateWitness}
use Rattle.refute_state.specs.declared.witness.StateWitness.TheVariants.{State, State3}
use Rattle.refute_state.specs.code.Gathered.{demands_at, demands_of}
use Rattle.prop_state.specs.code.Tasks.{IsSilent, quiet, looks_after}
use Rattle.prop_state.specs.code.Walks.{EachTwo, EachThree}
use Rattle.prop_state.specs.laws.Unwatched.{listed}

pub demands_quiet : (m : Data) (k : ℕ) (r : Region) (best : Option ℤ) (cs : List ℕ) → cs ≡ demands_of m k → EachTwo m r best k cs cs → EachThree m r best k cs cs cs → quiet m k r best
demands_quiet m k r best cs is two three = record { unrefuted = λ w guess mine asked. at w mine guess asked }
  where
    at : (w : StateWitness) → looks_after m k w ≡ true → IsSilent m r best w
    at (State c1 c2) mine =
        let own = both_true (demands_at m k c1) (demands_at m k c2) mine in
        subst (λ ds. EachTwo m r best k ds ds) is two c1 (listed m k c1 own.0) c2 (listed m k c2 own.1) own.0 own.1
    at (State3 c1 c2 c3) mine =
        let own = three_true (demands_at m k c1) (demands_at m k c2) (demands_at m k c3) mine in
        subst (λ ds. EachThree m r best k ds ds ds) is three c1 (listed m k c1 own.0) c3 (listed m k c3 own.2) c2 (listed m k c2 own.1) own.0 own.1 own.2

-- where it is quiet its witnesses are silent
pub silent_two : (m : Data) (k c1 c2 : ℕ) (r : Region) (best : Option ℤ) → demands_at m k c1 ≡ true → demands_at m k c2 ≡ true → quiet m k r best → IsSilent m r best (State c1 c2)
silent_two m k c1 c2 r best one other still guess asked = still.unrefuted (State c1 c2) guess (true_both (demands_at m k c1) (demands_at m k c2) one other) asked

pub silent_three : (m : Data) (k c1 c2 c3 : ℕ) (r : Region) (best : Option ℤ) → demands_at m k c1 ≡ true → demands_at m k c2 ≡ true → demands_at m k c3 ≡ true → quiet m k r best → IsSilent m r best (State3 c1 c2 c3)
silent_three m k c1 c2 c3 r best one mid other still guess asked = still.unrefuted (State3 c1 c2 c3) guess (all_three (demands_at m k c1) (demands_at m k c2) (demands_at m k c3) one mid other) asked
