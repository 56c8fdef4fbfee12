-- Each witness of these kinds has one propagator that looks after it, or it refutes nothing.
use Rattle.std.specs.Prelude.{◌≡◌, ℕ, ◌<◌, pos, Bool, true, false, Option, Some, None, length, slice_get, option_and_then, nat_eq}
use Rattle.std.proofs.Common.{refl, sym, ap, subst, ◌∙◌, inl, inr}
use Rattle.std.proofs.lemmas.Bool.{true≢false}
use Rattle.std.proofs.lemmas.Bool.Decides.{nat_tests}
use Rattle.std.proofs.Common.{arith}
use Rattle.base_laws.specs.laws.Truth.{all_three, four_true}
use Rattle.sched_model.specs.declared.types.Constraint.{Constraint}
use Rattle.sched_model.specs.declared.types.Constraint.TheVariants.{AlwaysEqual, AlwaysNoState}
use Rattle.sched_model.specs.Words.{passes}
use Rattle.sched_model.specs.Data.{Data}
use Rattle.sched_model.specs.Valid.{IsValid, is_constraint}
use Rattle.sched_model.specs.laws.Listed.{valid_at}
use Rattle.region.specs.Looks.{Seen}
use Rattle.region.specs.laws.Lists.{true_both}
use Rattle.refute_state.specs.declared.demand.Demand.{Demand}
use Rattle.refute_state.specs.declared.witness.StateWitness.{StateWitness}
use Rattle.refute_state.specs.declared.witness.StateWitness.TheVariants.{State, State3}
use Rattle.refute_state.specs.Demands.{demand_of, demand_at, of_one, same_state}
use Rattle.refute_state.specs.code.Gathered.{demands_at}
use Rattle.refute_state.specs.OnState.{refutes}
use Rattle.refute_state.specs.laws.Canonical.{function_there}
use Rattle.refute_state.specs.laws.Rowed.{two_rowed, three_rowed, pair_parts, parts}
use Rattle.prop_state.specs.code.Tasks.{size_of, is_own, looks_after}
use Rattle.base_laws.specs.laws.Numbers.{turned_number}

-- a witness that refutes is of demands of one state function of the model
itself : (n : ℕ) → nat_eq n n ≡ true
itself n = grind (arith, nat_tests)

pub demand_here : (m : Data) (g c : ℕ) (d : Demand) → demand_at m c ≡ Some d → nat_eq d.g.0 g ≡ true → demands_at m g c ≡ true
demand_here m g c d is of = ap (passes (λ e. nat_eq e.g.0 g)) is ∙ of

function_of : (m : Data) (c : ℕ) (d : Demand) → IsValid m → demand_at m c ≡ Some d → d.g.0 < length m.states
function_of m c d valid is = at (slice_get m.constraints c) refl is
  where
    of_kind : (e : Constraint) → is_constraint m e ≡ true → demand_of e ≡ Some d → d.g.0 < length m.states
    of_kind (AlwaysEqual g x v i j) fits h = let same : g ≡ d.g = cc in subst (λ f. f.0 < length m.states) same (function_there m (AlwaysEqual g x v i j) g fits x v i j (inl refl))
    of_kind (AlwaysNoState g x) fits h = let same : g ≡ d.g = cc in subst (λ f. f.0 < length m.states) same (function_there m (AlwaysNoState g x) g fits x (pos 0) false false (inr refl))
    of_kind e fits h = cc

    at : (o : Option Constraint) → slice_get m.constraints c ≡ o → option_and_then demand_of o ≡ Some d → d.g.0 < length m.states
    at None there h = cc
    at (Some e) there h = of_kind e (valid_at m m.constraints c e valid refl there) h

pub record HasOwner (m : Data) (w : StateWitness) : Type 0 where
  pub owner : ℕ
  pub within : owner < size_of m
  pub owns : looks_after m owner w ≡ true

pub owned : (m : Data) (l : Seen) (w : StateWitness) → IsValid m → refutes m l w ≡ true → HasOwner m w
owned m l (State c1 c2) valid h =
    let t = two_rowed m l c1 c2 h in
    let p = pair_parts m l.region t.first t.second t.row in
    let g = t.first.g.0 in
    record {
      owner = g;
      within = function_of m c1 t.first valid t.one;
      owns = true_both (demands_at m g c1) (demands_at m g c2) (demand_here m g c1 t.first t.one (itself g)) (demand_here m g c2 t.second t.other (turned_number g t.second.g.0 p.one));
    }
owned m l (State3 c1 c2 c3) valid h =
    let t = three_rowed m l c1 c2 c3 h in
    let p = parts m l.region t.first t.second t.third t.row in
    let g = t.first.g.0 in
    let s = four_true (of_one t.first t.second) (of_one t.first t.third) (same_state t.first.state t.third.state) _ p.states in
    record {
      owner = g;
      within = function_of m c1 t.first valid t.one;
      owns = all_three (demands_at m g c1) (demands_at m g c2) (demands_at m g c3) (demand_here m g c1 t.first t.one (itself g)) (demand_here m g c2 t.second t.mid (turned_number g t.second.g.0 s.0)) (demand_here m g c3 t.third t.other (turned_number g t.third.g.0 s.1));
    }

pub unowned : (m : Data) (l : Seen) (w : StateWitness) → IsValid m → is_own w ≡ true → ((k : ℕ) → k < size_of m → looks_after m k w ≡ false) → refutes m l w ≡ false
unowned m l w valid own none = by_case (refutes m l w) refl
  where
    by_case : (b : Bool) → refutes m l w ≡ b → refutes m l w ≡ false
    by_case false is = is
    by_case true is = let o = owned m l w valid is in absurd (true≢false (sym o.owns ∙ none o.owner o.within))
