-- The tree over rows.
use Rattle.std.specs.Prelude.{◌≡◌, ℕ, ℤ, ◌≤ℤ◌, ◌<ℤ◌, Bool, true, false, List, ◌∷◌, map}
use Rattle.envelope.specs.declared.bars.Bar.{Bar}
use Rattle.envelope.specs.code.Bars.{Bars, is_on, IsChosen, reach_of}
use Rattle.energy_pass.specs.declared.rows.Row.{Row}

abbrev pub bar_of : Row → Bar
bar_of r = record { est = r.est; energy = r.energy }

pub record Fits (t : Bars) (rows : List Row) (c : ℤ) : Type 0 where
  pub bars : t.bars ≡ map bar_of rows
  pub capacity : t.capacity ≡ c

abbrev pub IsOff : Bars → Type 0
IsOff t = (k : ℕ) → is_on t k ≡ false

abbrev pub FullAt : Bars → ℤ → Bool → Type 0
FullAt t z true = (k : ℕ) × (ks : List ℕ) × IsChosen t (k ∷ ks) × (z <ℤ reach_of t k ks)
FullAt t z false = (k : ℕ) (ks : List ℕ) → IsChosen t (k ∷ ks) → reach_of t k ks ≤ℤ z
