-- The row of a part.
use Rattle.std.specs.Prelude.{◌≡◌, ℕ, zero, suc, ◌<◌, ◌≤◌, ℤ, if◌then◌else◌, List, [], ◌∷◌, length, Some, None, slice_get}
use Rattle.std.proofs.Common.{sym, ap, arith, get_or}
use Rattle.sched_base.specs.declared.ids.Itv.{Itv}
use Rattle.sched_model.specs.declared.types.Shape.TheVariants.{PulseOf}
use Rattle.sched_model.specs.declared.types.Part.{Part}
use Rattle.region.specs.Cells.{Region}
use Rattle.region.specs.laws.Present.{none_there}
use Rattle.refute_energy.specs.Energy.{bar_of}
use Rattle.prop_energy.specs.code.Rows.{row_by, row_of, counts_row, is_in, is_in_at}

pub row_past : (r : Region) (x : Itv) (h : ℤ) → length r.bounds ≤ x.0 → None ≡ row_of r (PulseOf x h)
row_past r x h beyond = ap (λ b. if b then Some (row_by (bar_of r (PulseOf x h))) else None) (none_there r x beyond)

-- by the part that is read at a place
pub in_by_row : (r : Region) (is : List Part) (start end : ℤ) (k : ℕ) (i : Part) → k < length is → i ≡ get_or is k i → counts_row start end (row_of r i.shape) ≡ is_in_at r is start end k
in_by_row r is start end k i within read = ap (is_in r start end) (sym (got is k i within read))
  where
    got : (is : List Part) (k : ℕ) (i : Part) → k < length is → i ≡ get_or is k i → slice_get is k ≡ Some i
    got [] k i within read = absurd (omega (arith, within))
    got (j ∷ js) zero i within read = ap (λ x. Some x) (sym read)
    got (j ∷ js) (suc k) i within read = got js k i (omega (arith, within)) read
