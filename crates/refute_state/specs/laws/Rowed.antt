-- What the rows say where they hold.
use Rattle.std.specs.Prelude.{◌≡◌, ℕ, pos, Bool, true, not, Option, Some, None, nat_eq, nat_lt}
use Rattle.std.proofs.Common.{refl, sym}
use Rattle.std.proofs.lemmas.Bool.{true≢false}
use Rattle.sched_model.specs.Words.{passes}
use Rattle.sched_model.specs.Data.{Data}
use Rattle.region.specs.Cells.{Region}
use Rattle.region.specs.Looks.{Seen}
use Rattle.region.specs.laws.Lists.{both_true}
use Rattle.refute_state.specs.declared.demand.Demand.{Demand}
use Rattle.refute_state.specs.declared.witness.StateWitness.TheVariants.{State, State3}
use Rattle.refute_state.specs.Witness.{is_valid}
use Rattle.refute_state.specs.Demands.{demand_at, of_demand, of_one, demand_gap}
use Rattle.refute_state.specs.Times.{is_long, is_late}
use Rattle.refute_state.specs.State.{cant_share, state_pair, state_row}
use Rattle.refute_state.specs.State3.{other_between, state_triple, state3_row}
use Rattle.refute_state.specs.OnState.{refutes}
use Rattle.refute_state.specs.laws.Never.{six_true, seven_true}

-- a row of a demand
pub record IsRowed (o : Option Demand) (row : Demand → Bool) : Type 0 where
  pub demand : Demand
  pub is : o ≡ Some demand
  pub holds : row demand ≡ true

pub rowed : (o : Option Demand) (row : Demand → Bool) → passes row o ≡ true → IsRowed o row
rowed None row h = absurd (true≢false (sym h))
rowed (Some d) row h = record { demand = d; is = refl; holds = h }

-- what STATE and STATE3 say where they refute
pub record TwoRowed (m : Data) (r : Region) (c1 c2 : ℕ) : Type 0 where
  pub first : Demand
  pub second : Demand
  pub one : demand_at m c1 ≡ Some first
  pub other : demand_at m c2 ≡ Some second
  pub row : state_pair m r first second ≡ true

pub two_rowed : (m : Data) (l : Seen) (c1 c2 : ℕ) → refutes m l (State c1 c2) ≡ true → TwoRowed m l.region c1 c2
two_rowed m l c1 c2 h =
    let row = (both_true (is_valid (State c1 c2)) (state_row m l c1 c2) h).1 in
    let p = rowed (demand_at m c1) (λ a. of_demand m c2 (λ b. state_pair m l.region a b)) (both_true (nat_lt c1 c2) _ row).1 in
    let q = rowed (demand_at m c2) (λ b. state_pair m l.region p.demand b) p.holds in
    record { first = p.demand; second = q.demand; one = p.is; other = q.is; row = q.holds }

pub record ThreeRowed (m : Data) (r : Region) (c1 c2 c3 : ℕ) : Type 0 where
  pub first : Demand
  pub second : Demand
  pub third : Demand
  pub one : demand_at m c1 ≡ Some first
  pub mid : demand_at m c2 ≡ Some second
  pub other : demand_at m c3 ≡ Some third
  pub apart : not (nat_eq c1 c3) ≡ true
  pub row : state_triple m r first second third ≡ true

pub three_rowed : (m : Data) (l : Seen) (c1 c2 c3 : ℕ) → refutes m l (State3 c1 c2 c3) ≡ true → ThreeRowed m l.region c1 c2 c3
three_rowed m l c1 c2 c3 h =
    let row = (both_true (is_valid (State3 c1 c2 c3)) (state3_row m l c1 c2 c3) h).1 in
    let two = both_true (not (nat_eq c1 c3)) (of_demand m c1 (λ a. of_demand m c2 (λ x. of_demand m c3 (λ b. state_triple m l.region a x b)))) row in
    let p = rowed (demand_at m c1) (λ a. of_demand m c2 (λ x. of_demand m c3 (λ b. state_triple m l.region a x b))) two.1 in
    let q = rowed (demand_at m c2) (λ x. of_demand m c3 (λ b. state_triple m l.region p.demand x b)) p.holds in
    let s = rowed (demand_at m c3) (λ b. state_triple m l.region p.demand q.demand b) q.holds in
    record { first = p.demand; second = q.demand; third = s.demand; one = p.is; mid = q.is; other = s.is; apart = two.0; row = s.holds }

-- what the row of three says, one by one
pub record Parts (m : Data) (r : Region) (a x b : Demand) : Type 0 where
  pub states : other_between a x b ≡ true
  pub first : is_long r a.x ≡ true
  pub second : is_long r x.x ≡ true
  pub third : is_long r b.x ≡ true
  pub before : is_late r x.x (pos 0) a.x ≡ true
  pub behind : is_late r b.x (pos 0) x.x ≡ true
  pub near : is_late r a.x (demand_gap m a b) b.x ≡ true

pub parts : (m : Data) (r : Region) (a x b : Demand) → state_triple m r a x b ≡ true → Parts m r a x b
parts m r a x b h =
    let p = seven_true (other_between a x b) (is_long r a.x) (is_long r x.x) (is_long r b.x) (is_late r x.x (pos 0) a.x) (is_late r b.x (pos 0) x.x) (is_late r a.x (demand_gap m a b) b.x) h in
    record { states = p.0; first = p.1; second = p.2; third = p.3; before = p.4; behind = p.5; near = p.6 }

-- the same of two
pub record PairParts (m : Data) (r : Region) (a b : Demand) : Type 0 where
  pub one : of_one a b ≡ true
  pub first : is_long r a.x ≡ true
  pub second : is_long r b.x ≡ true
  pub forward : is_late r a.x (demand_gap m a b) b.x ≡ true
  pub backward : is_late r b.x (demand_gap m b a) a.x ≡ true
  pub apart : cant_share r a b ≡ true

pub pair_parts : (m : Data) (r : Region) (a b : Demand) → state_pair m r a b ≡ true → PairParts m r a b
pair_parts m r a b h =
    let p = six_true (of_one a b) (is_long r a.x) (is_long r b.x) (is_late r a.x (demand_gap m a b) b.x) (is_late r b.x (demand_gap m b a) a.x) (cant_share r a b) h in
    record { one = p.0; first = p.1; second = p.2; forward = p.3; backward = p.4; apart = p.5 }
