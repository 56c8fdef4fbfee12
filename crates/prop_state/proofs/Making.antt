-- The lists of a table, one after the other.
use Rattle.std.specs.Prelude.{◌≡◌, ℕ, zero, suc, ◌+◌, ◌<◌, ◌≤◌, true, false, List, [], ◌∷◌, ◌++◌, length, drop, Some, None}
use Rattle.std.proofs.Common.{◌≢◌, refl, sym, ap, subst, ◌∙◌, arith, get_or, inl, inr, set, append_assoc}
use Rattle.std.proofs.lemmas.Bool.{true≢false, cases_eq}
use Rattle.std.proofs.lemmas.List.{get_or-set_same, get_or-set_other, get_or_default, length_push, at_drop_more}
use Rattle.sched_base.specs.declared.ids.Itv.{Itv}
use Rattle.sched_model.specs.Data.{Data}
use Rattle.base_laws.specs.laws.Places.{each_pushed}
use Rattle.refute_state.specs.declared.demand.Demand.{Demand}
use Rattle.refute_state.specs.Demands.{demand_at}
use Rattle.refute_state.specs.code.Gathered.{demands_at, demands_of}
use Rattle.prop_state.specs.code.Tasks.{interval_in, intervals_at}
use Rattle.prop_state.specs.code.Tables.{AreDemands, AreIntervals, HasRoom}
use Rattle.prop_state.specs.declared.demands.Named.{Named}
use Rattle.prop_state.specs.code.Walks.{EachOf, IsNamed}
use Rattle.prop_state.specs.laws.Unwatched.{few_demands}
use Rattle.refute_state.specs.laws.Settled.{In}
use Rattle.region.specs.Cells.{Region}

pub no_demands : (m : Data) → AreDemands m 0 []
no_demands m = record { size = refl; each = λ k below. absurd (omega (arith, below)) }

pub more_demands : (m : Data) (n : ℕ) (t : List (List ℕ)) (v : List ℕ) → AreDemands m n t → v ≡ demands_of m n → AreDemands m (n + 1) (t ++ v ∷ [])
more_demands m n t v so_far is = record { size = length_push t v ∙ ap (λ k. k + 1) so_far.size; each = each_pushed (demands_of m) n t v so_far.size so_far.each is }

pub all_demands : (m : Data) (k n : ℕ) (t : List (List ℕ)) → k ≡ n → AreDemands m k t → AreDemands m n t
all_demands m k n t same each = subst (λ (i : ℕ). AreDemands m i t) same each

pub no_intervals : (m : Data) → AreIntervals m 0 []
no_intervals m = record { size = refl; each = λ k below. absurd (omega (arith, below)) }

pub more_intervals : (m : Data) (n : ℕ) (t : List (List Itv)) (v : List Itv) → AreIntervals m n t → v ≡ intervals_at m (demands_of m n) → AreIntervals m (n + 1) (t ++ v ∷ [])
more_intervals m n t v so_far is = record { size = length_push t v ∙ ap (λ k. k + 1) so_far.size; each = each_pushed (λ k. intervals_at m (demands_of m k)) n t v so_far.size so_far.each is }

pub all_intervals : (m : Data) (k n : ℕ) (t : List (List Itv)) → k ≡ n → AreIntervals m k t → AreIntervals m n t
all_intervals m k n t same each = subst (λ (i : ℕ). AreIntervals m i t) same each

-- the intervals of some demands, one after the other
pub skip_interval : (m : Data) (cs : List ℕ) (i d : ℕ) (xs whole : List Itv) → xs ++ intervals_at m (drop i cs) ≡ whole → i < length cs → None ≡ demand_at m (get_or cs i d) → xs ++ intervals_at m (drop (i + 1) cs) ≡ whole
skip_interval m cs i d xs whole before within is =
    ap (λ o. xs ++ (interval_in o ++ intervals_at m (drop (i + 1) cs))) is
    ∙ sym (at_drop_more (λ ds. xs ++ intervals_at m ds) cs i d within)
    ∙ before

pub add_interval : (m : Data) (cs : List ℕ) (i d : ℕ) (e : Demand) (xs ys whole : List Itv) → xs ++ intervals_at m (drop i cs) ≡ whole → i < length cs → Some e ≡ demand_at m (get_or cs i d) → ys ≡ xs ++ e.x ∷ [] → ys ++ intervals_at m (drop (i + 1) cs) ≡ whole
add_interval m cs i d e xs ys whole before within is made =
    ap (λ zs. zs ++ intervals_at m (drop (i + 1) cs)) made
    ∙ append_assoc xs (e.x ∷ []) (intervals_at m (drop (i + 1) cs))
    ∙ ap (λ o. xs ++ (interval_in o ++ intervals_at m (drop (i + 1) cs))) is
    ∙ sym (at_drop_more (λ ds. xs ++ intervals_at m ds) cs i d within)
    ∙ before

-- room for the demands of each
pub room_for_each : (m : Data) (n c : ℕ) (t : List (List ℕ)) → AreDemands m n t → length m.constraints ≤ c → HasRoom t c
room_for_each m n c t each enough k below = (let few = subst (λ (l : List ℕ). length l ≤ length m.constraints) (sym (each.each k (subst (λ (i : ℕ). k < i) each.size below))) (few_demands m k) in omega (arith, few, enough))

pub noted_more : (m : Data) (r : Region) (k i e : ℕ) (cs : List ℕ) (ns : List Named) (v : Named) → i < length cs → i < length ns → ((j : ℕ) → j < i → (c : ℕ) (n : Named) → IsNamed m r k (get_or cs j c) (get_or ns j n)) → IsNamed m r k (get_or cs i e) v
    → (j : ℕ) → j < i + 1 → (c : ℕ) (n : Named) → IsNamed m r k (get_or cs j c) (get_or (set ns i v) j n)
noted_more m r k i e cs ns v listed within before here j below c n = elim (cases_eq j i) [
  | inl same ↦ subst (λ (l : ℕ). IsNamed m r k (get_or cs l c) (get_or (set ns i v) l n)) (sym same)
      (subst (IsNamed m r k (get_or cs i c)) (sym (get_or-set_same ns i v n within)) (subst (λ d. IsNamed m r k d v) (get_or_default cs i e c listed) here))
  | inr other ↦ (let apart : j ≢ i = other in subst (IsNamed m r k (get_or cs j c)) (sym (get_or-set_other ns i j v n other)) (before j (omega (arith, apart, below)) c n))
]

in_list : (cs : List ℕ) (i d : ℕ) → i < length cs → In cs (get_or cs i d)
in_list [] i d within = absurd (omega (arith, within))
in_list (c ∷ cs) zero d within = inl refl
in_list (c ∷ cs) (suc i) d within = inr (in_list cs i d (omega (arith, within)))

pub never_other : (m : Data) (k i d : ℕ) (cs : List ℕ) → i < length cs → EachOf (λ c. demands_at m k c ≡ true) cs → demands_at m k (get_or cs i d) ≡ false → ⊥
never_other m k i d cs within each off = true≢false (sym (each (get_or cs i d) (in_list cs i d within)) ∙ off)
