-- What a search over the constraints finds.
use Rattle.std.specs.Prelude.{◌≡◌, ℕ, ◌+◌, ◌<◌, ◌≤◌, ℤ, Bool, true, not, List, [], ◌∷◌, length, Option, Some, None, IsTrue, slice_get, nat_lt}
use Rattle.std.specs.List.{list_all, Contains}
use Rattle.std.proofs.Common.{refl, sym, ap, ◌∙◌, subst, inl, inr, arith, get_or}
use Rattle.std.proofs.lemmas.Bool.{true≢false, and_parts, and_from, cases_eq}
use Rattle.std.proofs.lemmas.List.{get_or_default}
use Rattle.std.proofs.lemmas.Option.{slice_get_within}
use Rattle.sched_model.specs.declared.types.Part.{Part}
use Rattle.sched_model.specs.declared.types.Constraint.{Constraint}
use Rattle.sched_model.specs.Words.{passes, is_empty, adjacent}
use Rattle.sched_model.specs.Bounds.{is_number}
use Rattle.sched_model.specs.Data.{Data, parts_of}
use Rattle.sched_model.specs.Valid.{IsValid}
use Rattle.sched_model.specs.laws.Small.{number_fits}
use Rattle.region.specs.Cells.{Region}
use Rattle.region.specs.Looks.{Seen, IsRegionOf}
use Rattle.refute_cumul.specs.laws.Levels.{valid_parts}
use Rattle.task_sets.specs.Times.{is_task_set}
use Rattle.task_sets.specs.laws.Ects.{up_from, keep, all_from}
use Rattle.task_sets.specs.laws.Cuts.{task_set_of, no_task_set}
use Rattle.refute_energy.specs.declared.witness.EnergyWitness.{EnergyWitness}
use Rattle.refute_seq.specs.Witness.{is_number_set}
use Rattle.refute_energy.specs.Witness.{is_valid}
use Rattle.refute_energy.specs.Energy.{is_bar_at, overflows, energy_of, energy_row}
use Rattle.refute_energy.specs.OnEnergy.{refutes}
use Rattle.refute_energy.specs.laws.Bars.{bars_below}
use Rattle.energy_pass.specs.declared.rows.Row.{Row}
use Rattle.energy_pass.specs.declared.rows.Cut.{Cut}
use Rattle.energy_pass.specs.code.Rows.{AreRows, GivesOver}
use Rattle.prop_energy.specs.declared.bounds.Bound.{Bound}
use Rattle.prop_energy.specs.code.Rows.{rows_of, is_in_at}
use Rattle.prop_energy.specs.code.Found.{GivesOverload, GivesSet, FoundBy}
use Rattle.prop_energy.proofs.Cutting.{are_rows, set_cuts, cut_overflows}
use Rattle.prop_energy.specs.code.Bounds.{bounds_from, IsBoundIn}
use Rattle.refute_energy.specs.laws.Few.{parts_few, short_set}
use Rattle.prop_energy.proofs.Bounding.{has_bound, of_bound, in_list, is_bound}
use Rattle.sched_model.specs.laws.Limits.{limits_of}
use Rattle.envelope.specs.code.Bars.{IsCapacity}

pub rows_fit : (m : Data) (l : Seen) (b : Bound) (rows : List Row) → IsValid m → IsRegionOf m l.region → rows ≡ rows_of l.region (parts_of m b.f) → AreRows rows
rows_fit m l b rows valid of is = subst AreRows (sym is) (are_rows m l.region (parts_of m b.f) valid of (valid_parts m b.f valid) (parts_few m b.f valid))

pub no_set : (m : Data) (l : Seen) (b : Bound) (rows : List Row) (c : ℤ) → IsValid m → IsRegionOf m l.region → rows ≡ rows_of l.region (parts_of m b.f) → c ≡ b.hi → GivesOver rows c None → GivesSet m l b.f b.hi None
no_set m l b rows c valid of is same none s over =
    let cut = set_cuts m l.region (parts_of m b.f) b.hi s valid of (valid_parts m b.f valid) over in
    subst (λ z. GivesOver z b.hi None) is (subst (λ z. GivesOver rows z None) same none) cut.0 cut.1 cut.2

pub a_set : (m : Data) (l : Seen) (b : Bound) (rows : List Row) (c : ℤ) (cut : Cut) (s : List ℕ) → IsCapacity b.hi → rows ≡ rows_of l.region (parts_of m b.f) → c ≡ b.hi → GivesOver rows c (Some cut)
    → s ≡ keep (is_in_at l.region (parts_of m b.f) cut.start cut.end) (up_from 0 (length (parts_of m b.f))) → GivesSet m l b.f b.hi (Some s)
a_set m l b rows c cut s capacity is same over set =
    subst (λ z. overflows l.region (parts_of m b.f) b.hi z ≡ true) (sym set)
    (cut_overflows m l.region (parts_of m b.f) b.hi cut.start cut.end capacity.0 (subst (λ z. GivesOver z b.hi (Some cut)) is (subst (λ z. GivesOver rows z (Some cut)) same over)))

-- a set of places of parts is one that a log may hold
numbers_in : (m : Data) (r : Region) (is : List Part) (s : List ℕ) → length is ≤ 100000 → is_task_set (is_bar_at r is) s ≡ true → is_number_set s ≡ true
numbers_in m r is [] few h = refl
numbers_in m r is (x ∷ xs) few h =
    let set = task_set_of (is_bar_at r is) x xs h in
    and_from (adjacent nat_lt (x ∷ xs)) (list_all is_number (x ∷ xs)) set.rises (all_from is_number (x ∷ xs) (λ k here. number_fits k (let low = bars_below r is k (set.inside k here) in omega (arith, low, few))))

some_in : (t : ℕ → Bool) (s : List ℕ) → is_task_set t s ≡ true → not (is_empty s) ≡ true
some_in t [] h = absurd (no_task_set t h)
some_in t (x ∷ xs) h = refl

pub set_refutes : (m : Data) (l : Seen) (b : Bound) (s : List ℕ) → IsValid m → IsBoundIn m b → GivesSet m l b.f b.hi (Some s) → refutes m l (record { c = record { 0 = b.c }; parts = s }) ≡ true
set_refutes m l b s valid of set =
    let bound = is_bound m b of valid in
    let task = (and_parts (is_task_set (is_bar_at l.region (parts_of m b.f)) s) _ set).0 in
    let few = parts_few m b.f valid in
    let size = short_set l.region (parts_of m b.f) s few task in
    let limits = (limits_of m valid.limits).constraints in
    let within = slice_get_within m.constraints b.c of.constraint of.there in
    and_from _ _
    (and_from _ _ (and_from _ _ (and_from _ _ (number_fits b.c (omega (arith, within, limits))) (numbers_in m l.region (parts_of m b.f) s few task)) (some_in _ s task)) (number_fits (2 + length s) (omega (arith, size))))
    (ap (passes (energy_of m l.region s)) of.there ∙ (bound.row l.region s ∙ set))

row_of_witness : (m : Data) (l : Seen) (w : EnergyWitness) → IsTrue (refutes m l w) → energy_row m l w.c.0 w.parts ≡ true
row_of_witness m l w h = (and_parts (is_valid w) (energy_row m l w.c.0 w.parts) h).1

pub no_set_none : (m : Data) (l : Seen) (b : Bound) → IsValid m → IsBoundIn m b → GivesSet m l b.f b.hi None → FoundBy m l b None
no_set_none m l b valid of none w same h =
    none w.parts (sym ((is_bound m b of valid).row l.region w.parts) ∙ (sym (ap (passes (energy_of m l.region w.parts)) (ap (slice_get m.constraints) same ∙ of.there)) ∙ row_of_witness m l w h))

-- nothing was found of the first bounds
abbrev pub Tried : Data → Seen → List Bound → ℕ → Type 0
Tried m l bounds k = (j : ℕ) (d : Bound) → j < k → FoundBy m l (get_or bounds j d) None

pub tried_none : (m : Data) (l : Seen) (bounds : List Bound) → Tried m l bounds 0
tried_none m l bounds j d within = absurd (omega (arith, within))

pub tried_more : (m : Data) (l : Seen) (bounds : List Bound) (k : ℕ) (b : Bound) (o : Option EnergyWitness) → k < length bounds → b ≡ get_or bounds k b → o ≡ None → FoundBy m l b o → Tried m l bounds k → Tried m l bounds (k + 1)
tried_more m l bounds k b o within is none found before j d low = elim (cases_eq j k) [
  | inl same ↦ subst (λ i. FoundBy m l (get_or bounds i d) None) (sym same) (subst (λ x. FoundBy m l x None) (is ∙ get_or_default bounds k b d within) (subst (FoundBy m l b) none found))
  | inr other ↦ before j d (omega (arith, low, other))
]

-- and of all of them
pub nothing_found : (m : Data) (l : Seen) (bounds : List Bound) (k : ℕ) → bounds ≡ bounds_from m 0 m.constraints → length bounds ≤ k → Tried m l bounds k → GivesOverload m l.region None
nothing_found m l bounds k are all tried best w h = by_item (slice_get m.constraints w.c.0) refl
  where
    row : energy_row m l w.c.0 w.parts ≡ true
    row = row_of_witness m l w h

    by_item : (o : Option Constraint) → slice_get m.constraints w.c.0 ≡ o → ⊥
    by_item None is = absurd (true≢false (sym row ∙ ap (passes (energy_of m l.region w.parts)) is))
    by_item (Some d) is =
        let some = has_bound m w.c.0 l.region w.parts d (sym (ap (passes (energy_of m l.region w.parts)) is) ∙ row) in
        let b = some.0 in
        let there = subst (λ bs. Contains bs b) (sym are) (in_list m w.c.0 d b is some.1) in
        let low : there.0 < k = omega (arith, there.1, all) in
        let found = subst (λ x. FoundBy m l x None) there.2 (tried there.0 b low) in
        found w (sym (ap (λ (x : Bound). x.c) (of_bound m w.c.0 d b some.1).made)) h

-- one that was found refutes, whatever the best value
pub found_any : (m : Data) (l : Seen) (b : Bound) (o : Option EnergyWitness) → (o ≡ None → ⊥) → FoundBy m l b o → GivesOverload m l.region o
found_any m l b None some found = absurd (some refl)
found_any m l b (Some w) some found = λ best. found

-- the same by an answer that is told
pub no_set_as : (m : Data) (l : Seen) (b : Bound) (rows : List Row) (c : ℤ) (o : Option Cut) → IsValid m → IsRegionOf m l.region → rows ≡ rows_of l.region (parts_of m b.f) → c ≡ b.hi → GivesOver rows c o → o ≡ None → GivesSet m l b.f b.hi None
no_set_as m l b rows c o valid of is same gives none = no_set m l b rows c valid of is same (subst (λ p. GivesOver rows c p) none gives)

pub a_set_as : (m : Data) (l : Seen) (b : Bound) (rows : List Row) (c : ℤ) (o : Option Cut) (cut : Cut) (s : List ℕ) → IsCapacity b.hi → rows ≡ rows_of l.region (parts_of m b.f) → c ≡ b.hi → GivesOver rows c o → o ≡ Some cut
    → s ≡ keep (is_in_at l.region (parts_of m b.f) cut.start cut.end) (up_from 0 (length (parts_of m b.f))) → GivesSet m l b.f b.hi (Some s)
a_set_as m l b rows c o cut s capacity is same gives some set = a_set m l b rows c cut s capacity is same (subst (λ p. GivesOver rows c p) some gives) set

pub few_of : (m : Data) (b : Bound) (ps : List Part) → IsValid m → ps ≡ parts_of m b.f → length ps ≤ 100000
few_of m b ps valid is = subst (λ (qs : List Part). length qs ≤ 100000) (sym is) (parts_few m b.f valid)

pub no_set_none_as : (m : Data) (l : Seen) (b : Bound) (o : Option (List ℕ)) → IsValid m → IsBoundIn m b → GivesSet m l b.f b.hi o → o ≡ None → FoundBy m l b None
no_set_none_as m l b o valid of gives none = no_set_none m l b valid of (subst (λ p. GivesSet m l b.f b.hi p) none gives)

pub set_refutes_as : (m : Data) (l : Seen) (b : Bound) (o : Option (List ℕ)) (s : List ℕ) → IsValid m → IsBoundIn m b → GivesSet m l b.f b.hi o → o ≡ Some s → refutes m l (record { c = record { 0 = b.c }; parts = s }) ≡ true
set_refutes_as m l b o s valid of gives some = set_refutes m l b s valid of (subst (λ p. GivesSet m l b.f b.hi p) some gives)
