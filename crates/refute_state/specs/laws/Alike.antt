-- The rows read no more than the bounds and the presence of the intervals that they speak of, which are present and not empty
-- where a row holds.
use Rattle.std.specs.Prelude.{◌≡◌, ℕ, Bool, not, ◌&&◌, Option, Some, None, nat_eq, nat_lt}
use Rattle.std.proofs.Common.{refl, ap}
use Rattle.sched_model.specs.Words.{passes}
use Rattle.sched_model.specs.Data.{Data}
use Rattle.region.specs.Cells.{Region, bounds_of}
use Rattle.region.specs.Looks.{Seen}
use Rattle.refute_state.specs.declared.demand.Demand.{Demand}
use Rattle.refute_state.specs.Demands.{demand_at, of_demand}
use Rattle.refute_state.specs.State.{state_pair, state_row}
use Rattle.refute_state.specs.State3.{state_triple, state3_row}

-- two regions show the same of the interval of a demand
abbrev pub SameTimes : Region → Region → Demand → Type 0
SameTimes r q d = bounds_of r d.x ≡ bounds_of q d.x

abbrev pub SameAt : Data → Region → Region → ℕ → Type 0
SameAt m r q c = (d : Demand) → demand_at m c ≡ Some d → SameTimes r q d

pair_alike : (m : Data) (r q : Region) (a b : Demand) → SameTimes r q a → SameTimes r q b → state_pair m r a b ≡ state_pair m q a b
pair_alike m r q a b one other = rw (one, other) refl

triple_alike : (m : Data) (r q : Region) (a x b : Demand) → SameTimes r q a → SameTimes r q x → SameTimes r q b → state_triple m r a x b ≡ state_triple m q a x b
triple_alike m r q a x b one mid other = rw (one, mid, other) refl

-- rows of a demand that are the same of it
passes_alike : (p q : Demand → Bool) (o : Option Demand) → ((d : Demand) → o ≡ Some d → p d ≡ q d) → passes p o ≡ passes q o
passes_alike p q None h = refl
passes_alike p q (Some d) h = h d refl

pub state_alike : (m : Data) (l k : Seen) (c1 c2 : ℕ) → SameAt m l.region k.region c1 → SameAt m l.region k.region c2 → state_row m l c1 c2 ≡ state_row m k c1 c2
state_alike m l k c1 c2 one other = ap (λ b. nat_lt c1 c2 && b)
    (passes_alike (λ a. of_demand m c2 (λ b. state_pair m l.region a b)) (λ a. of_demand m c2 (λ b. state_pair m k.region a b)) (demand_at m c1) (λ a is.
    passes_alike (λ b. state_pair m l.region a b) (λ b. state_pair m k.region a b) (demand_at m c2) (λ b too. pair_alike m l.region k.region a b (one a is) (other b too))))

pub state3_alike : (m : Data) (l k : Seen) (c1 c2 c3 : ℕ) → SameAt m l.region k.region c1 → SameAt m l.region k.region c2 → SameAt m l.region k.region c3 → state3_row m l c1 c2 c3 ≡ state3_row m k c1 c2 c3
state3_alike m l k c1 c2 c3 one mid other = ap (λ b. not (nat_eq c1 c3) && b)
    (passes_alike (λ a. of_demand m c2 (λ x. of_demand m c3 (λ b. state_triple m l.region a x b))) (λ a. of_demand m c2 (λ x. of_demand m c3 (λ b. state_triple m k.region a x b))) (demand_at m c1) (λ a is.
    passes_alike (λ x. of_demand m c3 (λ b. state_triple m l.region a x b)) (λ x. of_demand m c3 (λ b. state_triple m k.region a x b)) (demand_at m c2) (λ x too.
    passes_alike (λ b. state_triple m l.region a x b) (λ b. state_triple m k.region a x b) (demand_at m c3) (λ b last. triple_alike m l.region k.region a x b (one a is) (mid x too) (other b last)))))
