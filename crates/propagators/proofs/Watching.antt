-- The lists of intervals and of sequences name what is watched.
use Rattle.std.specs.Prelude.{◌≡◌, ℕ, zero, suc, ◌-◌, Bool, true, false, List, [], length, IsTrue, nat_eq, nat_lt, cond}
use Rattle.std.specs.List.{list_any}
use Rattle.std.proofs.Common.{refl, sym, ◌∙◌}
use Rattle.sched_base.specs.declared.ids.Itv.{Itv}
use Rattle.sched_base.specs.declared.ids.Seq.{Seq}
use Rattle.sched_model.specs.Data.{Data, has}
use Rattle.region.specs.declared.types.CellName.{CellName}
use Rattle.region.specs.declared.types.CellName.TheVariants as cell
use Rattle.findings.specs.code.Reads.{reads_cell}
use Rattle.refute_basic.specs.declared.witness.BasicWitness.TheVariants.{Size, Expr}
use Rattle.prop_basic.specs.code.Tasks.{reads_of, watching, is_cell_of}
use Rattle.prop_temporal.specs.code.Tasks.{watching as watching_walks, is_bound, has_sequence}
use Rattle.prop_hier.specs.code.Tasks.{watching as watching_hier, is_bound as is_bound_hier, is_cell_of as is_cell_of_hier}
use Rattle.prop_unary.specs.code.Tasks.{watching as watching_unary, is_bound as is_bound_unary, is_bound_of}
use Rattle.prop_cumul.specs.code.Tasks.{watching as watching_cumul, is_cell_of as is_cell_of_cumul}
use Rattle.prop_state.specs.code.Tasks.{watching as watching_state, is_bound as is_bound_state, is_bound_of as is_bound_of_state}
use Rattle.prop_sets.specs.code.Tasks.{watching as watching_sets, is_bound as is_bound_sets, is_bound_of as is_bound_of_sets}
use Rattle.engine.specs.code.Watched.{names_presence, names_bound, names_order}
use Rattle.base_laws.specs.laws.Truth.{alone}

pub presence_named : (xs : List Itv) (c : CellName) → IsTrue (is_cell_of xs c) → names_presence xs c
presence_named xs (cell.Presence x) h = alone (has xs x) h
presence_named xs (cell.StartMin x) h = tt
presence_named xs (cell.StartMax x) h = tt
presence_named xs (cell.EndMin x) h = tt
presence_named xs (cell.EndMax x) h = tt
presence_named xs (cell.Order p x y) h = tt

pub bound_named : (xs : List Itv) (c : CellName) → IsTrue (is_cell_of xs c) → names_bound xs c
bound_named xs (cell.Presence x) h = tt
bound_named xs (cell.StartMin x) h = h
bound_named xs (cell.StartMax x) h = h
bound_named xs (cell.EndMin x) h = h
bound_named xs (cell.EndMax x) h = h
bound_named xs (cell.Order p x y) h = tt

-- the same where lists are told for presences, for bounds and for orders apart
pub presence_equal : (m : Data) (k : ℕ) (xs : List Itv) → ((x : Itv) → watching_walks m k (cell.Presence x) ≡ is_cell_of xs (cell.Presence x)) → (c : CellName) → IsTrue (watching_walks m k c) → names_presence xs c
presence_equal m k xs same (cell.Presence x) h = presence_named xs (cell.Presence x) (sym (same x) ∙ h)
presence_equal m k xs same (cell.StartMin x) h = tt
presence_equal m k xs same (cell.StartMax x) h = tt
presence_equal m k xs same (cell.EndMin x) h = tt
presence_equal m k xs same (cell.EndMax x) h = tt
presence_equal m k xs same (cell.Order p x y) h = tt

pub bound_equal : (m : Data) (k : ℕ) (xs : List Itv) → ((c : CellName) → is_bound c ≡ true → watching_walks m k c ≡ is_cell_of xs c) → (c : CellName) → IsTrue (watching_walks m k c) → names_bound xs c
bound_equal m k xs same (cell.Presence x) h = tt
bound_equal m k xs same (cell.StartMin x) h = sym (same (cell.StartMin x) refl) ∙ h
bound_equal m k xs same (cell.StartMax x) h = sym (same (cell.StartMax x) refl) ∙ h
bound_equal m k xs same (cell.EndMin x) h = sym (same (cell.EndMin x) refl) ∙ h
bound_equal m k xs same (cell.EndMax x) h = sym (same (cell.EndMax x) refl) ∙ h
bound_equal m k xs same (cell.Order p x y) h = tt

pub order_equal : (m : Data) (k : ℕ) (ps : List Seq) → ((p : Seq) (x y : Itv) → watching_walks m k (cell.Order p x y) ≡ has_sequence ps p) → (c : CellName) → IsTrue (watching_walks m k c) → names_order ps c
order_equal m k ps same (cell.Presence x) h = tt
order_equal m k ps same (cell.StartMin x) h = tt
order_equal m k ps same (cell.StartMax x) h = tt
order_equal m k ps same (cell.EndMin x) h = tt
order_equal m k ps same (cell.EndMax x) h = tt
order_equal m k ps same (cell.Order p x y) h = sym (same p x y) ∙ h

-- and where they are told for each cell
pub presence_each : (m : Data) (k : ℕ) (xs : List Itv) → ((x : Itv) → IsTrue (watching_unary m k (cell.Presence x)) → IsTrue (has xs x)) → (c : CellName) → IsTrue (watching_unary m k c) → names_presence xs c
presence_each m k xs each (cell.Presence x) h = each x h
presence_each m k xs each (cell.StartMin x) h = tt
presence_each m k xs each (cell.StartMax x) h = tt
presence_each m k xs each (cell.EndMin x) h = tt
presence_each m k xs each (cell.EndMax x) h = tt
presence_each m k xs each (cell.Order p x y) h = tt

pub bound_each : (m : Data) (k : ℕ) (xs : List Itv) → ((c : CellName) → is_bound_unary c ≡ true → IsTrue (watching_unary m k c) → IsTrue (is_bound_of xs c)) → (c : CellName) → IsTrue (watching_unary m k c) → names_bound xs c
bound_each m k xs each (cell.Presence x) h = tt
bound_each m k xs each (cell.StartMin x) h = each (cell.StartMin x) refl h
bound_each m k xs each (cell.StartMax x) h = each (cell.StartMax x) refl h
bound_each m k xs each (cell.EndMin x) h = each (cell.EndMin x) refl h
bound_each m k xs each (cell.EndMax x) h = each (cell.EndMax x) refl h
bound_each m k xs each (cell.Order p x y) h = tt

pub order_each : (m : Data) (k : ℕ) (ps : List Seq) → ((p : Seq) (x y : Itv) → IsTrue (watching_unary m k (cell.Order p x y)) → IsTrue (list_any (λ q. nat_eq p.0 q.0) ps)) → (c : CellName) → IsTrue (watching_unary m k c) → names_order ps c
order_each m k ps each (cell.Presence x) h = tt
order_each m k ps each (cell.StartMin x) h = tt
order_each m k ps each (cell.StartMax x) h = tt
order_each m k ps each (cell.EndMin x) h = tt
order_each m k ps each (cell.EndMax x) h = tt
order_each m k ps each (cell.Order p x y) h = each p x y h

pub no_orders : (m : Data) (k : ℕ) (c : CellName) → IsTrue (watching m k c) → names_order [] c
no_orders m k (cell.Presence x) h = tt
no_orders m k (cell.StartMin x) h = tt
no_orders m k (cell.StartMax x) h = tt
no_orders m k (cell.EndMin x) h = tt
no_orders m k (cell.EndMax x) h = tt
no_orders m zero (cell.Order p x y) h = h
no_orders m (suc i) (cell.Order p x y) h = by_case (nat_lt i (length m.intervals)) h
  where
    by_case : (b : Bool) → IsTrue (reads_cell (reads_of m (cond b (Size i) (Expr (i - length m.intervals)))) (cell.Order p x y)) → names_order [] (cell.Order p x y)
    by_case true h = h
    by_case false h = h

-- and where orders are watched too
pub hier_presences : (m : Data) (k : ℕ) (xs : List Itv) → ((x : Itv) → watching_hier m k (cell.Presence x) ≡ has xs x) → (c : CellName) → IsTrue (watching_hier m k c) → names_presence xs c
hier_presences m k xs same (cell.Presence x) h = sym (same x) ∙ h
hier_presences m k xs same (cell.StartMin x) h = tt
hier_presences m k xs same (cell.StartMax x) h = tt
hier_presences m k xs same (cell.EndMin x) h = tt
hier_presences m k xs same (cell.EndMax x) h = tt
hier_presences m k xs same (cell.Order p x y) h = tt

pub hier_bounds : (m : Data) (k : ℕ) (xs : List Itv) → ((c : CellName) → is_bound_hier c ≡ true → watching_hier m k c ≡ is_cell_of_hier xs c) → (c : CellName) → IsTrue (watching_hier m k c) → names_bound xs c
hier_bounds m k xs same (cell.Presence x) h = tt
hier_bounds m k xs same (cell.StartMin x) h = sym (same (cell.StartMin x) refl) ∙ h
hier_bounds m k xs same (cell.StartMax x) h = sym (same (cell.StartMax x) refl) ∙ h
hier_bounds m k xs same (cell.EndMin x) h = sym (same (cell.EndMin x) refl) ∙ h
hier_bounds m k xs same (cell.EndMax x) h = sym (same (cell.EndMax x) refl) ∙ h
hier_bounds m k xs same (cell.Order p x y) h = tt

pub hier_orders : (m : Data) (k : ℕ) (ps : List Seq) → ((p : Seq) (x y : Itv) → watching_hier m k (cell.Order p x y) ≡ list_any (λ q. nat_eq p.0 q.0) ps) → (c : CellName) → IsTrue (watching_hier m k c) → names_order ps c
hier_orders m k ps same (cell.Presence x) h = tt
hier_orders m k ps same (cell.StartMin x) h = tt
hier_orders m k ps same (cell.StartMax x) h = tt
hier_orders m k ps same (cell.EndMin x) h = tt
hier_orders m k ps same (cell.EndMax x) h = tt
hier_orders m k ps same (cell.Order p x y) h = sym (same p x y) ∙ h

pub cumul_presences : (m : Data) (k : ℕ) (xs : List Itv) → ((c : CellName) → watching_cumul m k c ≡ is_cell_of_cumul xs c) → (c : CellName) → IsTrue (watching_cumul m k c) → names_presence xs c
cumul_presences m k xs same c h = presence_named xs c (sym (same c) ∙ h)

pub cumul_bounds : (m : Data) (k : ℕ) (xs : List Itv) → ((c : CellName) → watching_cumul m k c ≡ is_cell_of_cumul xs c) → (c : CellName) → IsTrue (watching_cumul m k c) → names_bound xs c
cumul_bounds m k xs same c h = bound_named xs c (sym (same c) ∙ h)

pub cumul_orders : (m : Data) (k : ℕ) (c : CellName) → IsTrue (watching_cumul m k c) → names_order [] c
cumul_orders m k (cell.Presence x) h = tt
cumul_orders m k (cell.StartMin x) h = tt
cumul_orders m k (cell.StartMax x) h = tt
cumul_orders m k (cell.EndMin x) h = tt
cumul_orders m k (cell.EndMax x) h = tt
cumul_orders m k (cell.Order p x y) h = h

pub state_presences : (m : Data) (k : ℕ) (xs : List Itv) → ((x : Itv) → IsTrue (watching_state m k (cell.Presence x)) → IsTrue (has xs x)) → (c : CellName) → IsTrue (watching_state m k c) → names_presence xs c
state_presences m k xs each (cell.Presence x) h = each x h
state_presences m k xs each (cell.StartMin x) h = tt
state_presences m k xs each (cell.StartMax x) h = tt
state_presences m k xs each (cell.EndMin x) h = tt
state_presences m k xs each (cell.EndMax x) h = tt
state_presences m k xs each (cell.Order p x y) h = tt

pub state_bounds : (m : Data) (k : ℕ) (xs : List Itv) → ((c : CellName) → is_bound_state c ≡ true → IsTrue (watching_state m k c) → IsTrue (is_bound_of_state xs c)) → (c : CellName) → IsTrue (watching_state m k c) → names_bound xs c
state_bounds m k xs each (cell.Presence x) h = tt
state_bounds m k xs each (cell.StartMin x) h = each (cell.StartMin x) refl h
state_bounds m k xs each (cell.StartMax x) h = each (cell.StartMax x) refl h
state_bounds m k xs each (cell.EndMin x) h = each (cell.EndMin x) refl h
state_bounds m k xs each (cell.EndMax x) h = each (cell.EndMax x) refl h
state_bounds m k xs each (cell.Order p x y) h = tt

pub state_orders : (m : Data) (k : ℕ) (c : CellName) → IsTrue (watching_state m k c) → names_order [] c
state_orders m k (cell.Presence x) h = tt
state_orders m k (cell.StartMin x) h = tt
state_orders m k (cell.StartMax x) h = tt
state_orders m k (cell.EndMin x) h = tt
state_orders m k (cell.EndMax x) h = tt
state_orders m k (cell.Order p x y) h = h

pub sets_presences : (m : Data) (k : ℕ) (xs : List Itv) → ((x : Itv) → IsTrue (watching_sets m k (cell.Presence x)) → IsTrue (has xs x)) → (c : CellName) → IsTrue (watching_sets m k c) → names_presence xs c
sets_presences m k xs each (cell.Presence x) h = each x h
sets_presences m k xs each (cell.StartMin x) h = tt
sets_presences m k xs each (cell.StartMax x) h = tt
sets_presences m k xs each (cell.EndMin x) h = tt
sets_presences m k xs each (cell.EndMax x) h = tt
sets_presences m k xs each (cell.Order p x y) h = tt

pub sets_bounds : (m : Data) (k : ℕ) (xs : List Itv) → ((c : CellName) → is_bound_sets c ≡ true → IsTrue (watching_sets m k c) → IsTrue (is_bound_of_sets xs c)) → (c : CellName) → IsTrue (watching_sets m k c) → names_bound xs c
sets_bounds m k xs each (cell.Presence x) h = tt
sets_bounds m k xs each (cell.StartMin x) h = each (cell.StartMin x) refl h
sets_bounds m k xs each (cell.StartMax x) h = each (cell.StartMax x) refl h
sets_bounds m k xs each (cell.EndMin x) h = each (cell.EndMin x) refl h
sets_bounds m k xs each (cell.EndMax x) h = each (cell.EndMax x) refl h
sets_bounds m k xs each (cell.Order p x y) h = tt

pub sets_orders : (m : Data) (k : ℕ) (c : CellName) → IsTrue (watching_sets m k c) → names_order [] c
sets_orders m k (cell.Presence x) h = tt
sets_orders m k (cell.StartMin x) h = tt
sets_orders m k (cell.StartMax x) h = tt
sets_orders m k (cell.EndMin x) h = tt
sets_orders m k (cell.EndMax x) h = tt
sets_orders m k (cell.Order p x y) h = h
