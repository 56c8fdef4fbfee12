-- When rows complete, in order.
use Rattle.std.specs.Prelude.{◌≡◌, ℕ, ◌<◌, ◌≤◌, pos, ◌≤ℤ◌, Bool, true, nat_eq, List, length, slice_index_or, All}
use Rattle.std.specs.List.{list_any}
use Rattle.energy_pass.specs.declared.rows.Row.{Row}
use Rattle.energy_pass.specs.declared.ends.End.{End}
use Rattle.energy_pass.specs.code.Rows.{row_at}

abbrev pub end_at : List End → ℕ → End
end_at es i = slice_index_or es i (record { lct = pos 0; place = 0 })

-- the row at a place is among these ends
abbrev pub is_among : List End → ℕ → Bool
is_among es k = list_any (λ e. nat_eq e.place k) es

-- an end of a row
pub record IsEnd (rows : List Row) (n : ℕ) (e : End) : Type 0 where
  pub within : e.place < n
  pub lct : e.lct ≡ (row_at rows e.place).lct

-- those of the first n rows
pub record HasEnds (rows : List Row) (n : ℕ) (es : List End) : Type 0 where
  pub each : All (IsEnd rows n) es
  pub all : (k : ℕ) → k < n → is_among es k ≡ true

abbrev pub IsByEnd : List End → Type 0
IsByEnd es = (j k : ℕ) → j ≤ k → k < length es → (end_at es j).lct ≤ℤ (end_at es k).lct

pub record AreEnds (rows : List Row) (es : List End) : Type 0 where
  pub has : HasEnds rows (length rows) es
  pub by_end : IsByEnd es
