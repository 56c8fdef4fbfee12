-- The lists that a table gives have what is watched.
use Rattle.std.specs.Prelude.{◌≡◌, ℕ, Bool, true, false, ◌||◌, List, []}
use Rattle.std.proofs.Common.{refl, sym, ap, ◌∙◌}
use Rattle.std.proofs.lemmas.Bool.{true≢false}
use Rattle.sched_base.specs.declared.ids.Itv.{Itv}
use Rattle.sched_base.specs.declared.ids.Seq.{Seq}
use Rattle.sched_model.specs.Data.{Data, has}
use Rattle.region.specs.declared.types.CellName.{CellName}
use Rattle.region.specs.declared.types.CellName.TheVariants as cell
use Rattle.prop_temporal.specs.code.Tasks.{watching, is_cell_of, is_bound, is_of_walks, has_sequence}
use Rattle.prop_temporal.specs.code.Tables.{Table, IsFor}

or_nothing : (b : Bool) → (b || false) ≡ b
or_nothing true = refl
or_nothing false = refl

-- walks watch the presences of the optional intervals, the orders of the sequences without overlap, and no bounds
pub presences_watched : (m : Data) (t : Table) (k : ℕ) (xs : List Itv) → k ≡ 0 → xs ≡ t.optionals → IsFor t m → (x : Itv) → watching m k (cell.Presence x) ≡ is_cell_of xs (cell.Presence x)
presences_watched m t k xs first is for_it x = ap (λ i. watching m i (cell.Presence x)) first ∙ sym (or_nothing (has xs x) ∙ ap (λ ys. has ys x) is ∙ for_it.optionals.each x)

pub orders_watched : (m : Data) (t : Table) (k : ℕ) (ps : List Seq) → k ≡ 0 → ps ≡ t.sequences → IsFor t m → (p : Seq) (x y : Itv) → watching m k (cell.Order p x y) ≡ has_sequence ps p
orders_watched m t k ps first is for_it p x y = ap (λ i. watching m i (cell.Order p x y)) first ∙ sym (ap (λ qs. has_sequence qs p) is ∙ for_it.sequences.each p)

no_bounds : (m : Data) (c : CellName) → is_bound c ≡ true → is_of_walks m c ≡ is_cell_of [] c
no_bounds m (cell.Presence x) h = absurd (true≢false (sym h))
no_bounds m (cell.StartMin x) h = refl
no_bounds m (cell.StartMax x) h = refl
no_bounds m (cell.EndMin x) h = refl
no_bounds m (cell.EndMax x) h = refl
no_bounds m (cell.Order p x y) h = absurd (true≢false (sym h))

pub no_bounds_watched : (m : Data) (k : ℕ) → k ≡ 0 → (c : CellName) → is_bound c ≡ true → watching m k c ≡ is_cell_of [] c
no_bounds_watched m k first c h = ap (λ i. watching m i c) first ∙ no_bounds m c h
