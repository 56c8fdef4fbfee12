-- What the code reads of a bar, and of a set of bars as one.
use Rattle.std.specs.Prelude.{◌≡◌, ◌^◌, ℤ, pos, neg_ℤ, ◌≤ℤ◌, List}
use Rattle.task_sets.specs.Times.{Times, set_est, set_lct, set_p}
use Rattle.refute_energy.specs.declared.bars.Bar.{Bar}

pub record Shows (t : Times) (b : Bar) : Type 0 where
  pub est : b.est ≡ t.est
  pub lct : b.lct ≡ t.lct
  pub energy : b.energy ≡ t.p

pub record ShowsSet (ts : List Times) (b : Bar) : Type 0 where
  pub est : b.est ≡ set_est ts
  pub lct : b.lct ≡ set_lct ts
  pub energy : b.energy ≡ set_p ts

abbrev pub IsInRange : ℤ → Type 0
IsInRange t = (neg_ℤ (pos 1000000000) ≤ℤ t) × (t ≤ℤ pos 1000000000)

pub record IsNear (b : Bar) : Type 0 where
  pub est : IsInRange b.est
  pub lct : IsInRange b.lct
  pub low : neg_ℤ (pos (2 ^ 94)) ≤ℤ b.energy
  pub high : b.energy ≤ℤ pos (2 ^ 94)
