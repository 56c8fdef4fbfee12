-- The lists that a table gives have what is watched.
use Rattle.std.specs.Prelude.{◌≡◌, ℕ, zero, suc, ◌+◌, ◌<◌, ◌≤◌, ◌-◌, Bool, true, false, ◌||◌, List, [], ◌∷◌, length, Option, Some, None, slice_get, nat_eq}
use Rattle.std.proofs.Common.{refl, sym, ap, subst, ◌∙◌, arith, get_or, take, drop}
use Rattle.sched_base.specs.declared.ids.Itv.{Itv}
use Rattle.sched_model.specs.declared.types.Constraint.{Constraint}
use Rattle.sched_model.specs.declared.types.Constraint.TheVariants.{Logic}
use Rattle.sched_model.specs.declared.types.Objective.{Objective}
use Rattle.sched_model.specs.Data.{Data, has}
use Rattle.region.specs.declared.types.CellName.{CellName}
use Rattle.region.specs.declared.types.CellName.TheVariants as cell
use Rattle.region.specs.laws.OneSequence.{same_self, same_is}
use Rattle.findings.specs.code.Reads.{reads_cell}
use Rattle.hull_tree.specs.code.Trees.{Tree}
use Rattle.refute_basic.specs.declared.witness.BasicWitness.TheVariants as basic
use Rattle.refute_basic.specs.laws.Hulls.{logic_names, objective_names}
use Rattle.prop_basic.specs.code.Tasks.{reads_of, watching, is_cell_of, logic_of, objective_of}
use Rattle.prop_basic.specs.code.Tables.{Fits, names_in, tree_at, Table, IsFor}
use Rattle.prop_basic.proofs.Asked.{obj_is, size_is, expr_is}

cell_more : (xs ys : List Itv) (b : Bool) → ((x : Itv) → has xs x ≡ true → has ys x ≡ true) → (c : CellName) → reads_cell (record { intervals = xs; pairs = []; best = b }) c ≡ true → is_cell_of ys c ≡ true
cell_more xs ys b more (cell.Presence x) h = add (more x (alone (has xs x) h))
  where
    alone : (p : Bool) → (p || false) ≡ true → p ≡ true
    alone true h = refl
    alone false h = h

    add : has ys x ≡ true → (has ys x || false) ≡ true
    add h = ap (λ p. p || false) h
cell_more xs ys b more (cell.StartMin x) h = more x h
cell_more xs ys b more (cell.StartMax x) h = more x h
cell_more xs ys b more (cell.EndMin x) h = more x h
cell_more xs ys b more (cell.EndMax x) h = more x h
cell_more xs ys b more (cell.Order p x y) h = cc

fit_objective : (o : Option Objective) (t : Option Tree) → Fits (objective_of o) t → (x : Itv) → has (objective_names o) x ≡ true → has (names_in t) x ≡ true
fit_objective None t fits x h = cc
fit_objective (Some o) (Some t) fits x h = fits.names x h
fit_objective (Some o) None fits x h = absurd fits

fit_logic : (o : Option Constraint) (t : Option Tree) → Fits (logic_of o) t → (x : Itv) → has (logic_names o) x ≡ true → has (names_in t) x ≡ true
fit_logic None t fits x h = cc
fit_logic (Some (Logic e)) (Some t) fits x h = fits.names x h
fit_logic (Some (Logic e)) None fits x h = absurd fits
fit_logic (Some other) t fits x h = cc

pub watched_objective : (m : Data) (t : Table) (k : ℕ) (xs : List Itv) (tree : Option Tree) → k ≡ 0 → xs ≡ names_in tree → tree ≡ t.objective → IsFor t m → (c : CellName) → watching m k c ≡ true → is_cell_of xs c ≡ true
watched_objective m t k xs tree first is at for_it c h =
    cell_more (objective_names m.objective) xs true (λ x here. ap (λ ys. has ys x) is ∙ fit_objective m.objective tree (subst (Fits (objective_of m.objective)) (sym at) for_it.objective) x here) c
    (ap (λ w. reads_cell (reads_of m w) c) (obj_is m k first) ∙ h)

one_there : (xs : List Itv) (i n : ℕ) (d : Itv) → n ≡ 1 → i < length xs → has (take n (drop i xs)) (get_or xs i d) ≡ true
one_there [] i n d one within = absurd (omega (arith, within))
one_there (x ∷ xs) zero n d one within = subst (λ j. has (take j (x ∷ xs)) x ≡ true) (sym one) (ap (λ b. b || false) (same_self x))
one_there (x ∷ xs) (suc i) n d one within = one_there xs i n d one (omega (arith, within))

pub watched_size : (m : Data) (t : Table) (k n i : ℕ) (xs : List Itv) → (k ≡ 0 → ⊥) → xs ≡ t.intervals → n ≡ 1 → i ≡ k - 1 → i < length xs → IsFor t m → (c : CellName) → watching m k c ≡ true → is_cell_of (take n (drop i xs)) c ≡ true
watched_size m t k n i xs some is one at within for_it c h =
    let size = for_it.intervals.size in
    let below : i < length m.intervals = omega (arith, within, ap length is, size) in
    let here : get_or xs i (itv_at i) ≡ itv_at i = ap (λ ys. get_or ys i (itv_at i)) is ∙ for_it.intervals.each i (itv_at i) below in
    cell_more (itv_at i ∷ []) (take n (drop i xs)) false (λ x there. subst (λ z. has (take n (drop i xs)) z ≡ true) (here ∙ sym (same_is x (itv_at i) (alone x there))) (one_there xs i n (itv_at i) one within)) c
    (ap (λ j. reads_cell (reads_of m (basic.Size j)) c) at ∙ ap (λ w. reads_cell (reads_of m w) c) (size_is m k (length m.intervals) some refl (omega (arith, below, at, k_some k some))) ∙ h)
  where
    itv_at : ℕ → Itv
    itv_at j = record { 0 = j }

    k_some : (k : ℕ) → (k ≡ 0 → ⊥) → 0 < k
    k_some zero h = absurd (h refl)
    k_some (suc k) h = omega arith

    alone : (x : Itv) → has (itv_at i ∷ []) x ≡ true → nat_eq x.0 i ≡ true
    alone x h = by_case (nat_eq x.0 i) h
      where
        by_case : (b : Bool) → (b || false) ≡ true → b ≡ true
        by_case true h = refl
        by_case false h = h

pub watched_constraint : (m : Data) (t : Table) (k n : ℕ) (xs : List Itv) (tree : Option Tree) → (k ≡ 0 → ⊥) → n ≡ length t.intervals → n ≤ k - 1 → k < suc (length m.intervals + length m.constraints) → xs ≡ names_in tree → tree ≡ tree_at t.trees (k - 1 - n) → IsFor t m
    → (c : CellName) → watching m k c ≡ true → is_cell_of xs c ≡ true
watched_constraint m t k n xs tree some size past within is at for_it c h =
    let same : n ≡ length m.intervals = size ∙ for_it.intervals.size in
    let more = k_some k some in
    let i = k - 1 - n in
    cell_more (logic_names (slice_get m.constraints i)) xs false
    (λ x here. ap (λ ys. has ys x) is ∙ fit_logic (slice_get m.constraints i) tree (subst (Fits (logic_of (slice_get m.constraints i))) (sym at) (for_it.trees.each i (omega (arith, past, within, same, more)))) x here) c
    (ap (λ w. reads_cell (reads_of m w) c) (expr_is m k n some same (omega (arith, past, more))) ∙ h)
  where
    k_some : (k : ℕ) → (k ≡ 0 → ⊥) → 0 < k
    k_some zero h = absurd (h refl)
    k_some (suc k) h = omega arith
