-- What the passes answer says of the rows under a guess on one of them.
use Rattle.std.specs.Prelude.{List, None, false, nat_eq, true, ℕ, ℤ, ◌≡◌, ◌≤ℤ◌}
use Rattle.task_sets.specs.laws.Moved.{IsGuessed}
use Rattle.task_sets.specs.Times.{IsSized, Times, detect_row, ect_at, edge_row, lst_at}
use Rattle.theta_passes.specs.code.Edge.{IsFound, PassOrNone}
use Rattle.theta_passes.specs.code.Late.{IsLateRow, LatePass}
use Rattle.theta_passes.specs.code.Over.{NoOverloads}
use Rattle.theta_passes.specs.code.Rows.{is_candidate, row_at, times_at, with_candidate}
use Rattle.theta_passes.specs.declared.rows.Row.{Row}

-- e is the look under a guess on i, with the latest start that the row of i has
pub record IsEdgeLook (rows : List Row) (i : ℕ) (e : ℕ → Times) : Type 0 where
  pub same : IsGuessed (times_at rows) e
  pub start : lst_at (times_at rows) i ≡ lst_at e i

-- the same with the numbers that are asked about i
pub record IsLateLook (rows : List Row) (i : ℕ) (e : ℕ → Times) : Type 0 where
  pub same : IsGuessed (times_at rows) e
  pub others : (y : ℕ) → nat_eq y i ≡ false → lst_at (times_at rows) y ≡ lst_at e y
  pub reach : ect_at e i ≡ (row_at rows i).reach
  pub bar : lst_at e i ≡ (row_at rows i).bar

-- under any guess of the row: i starts no earlier than the row's number at the latest, and ends no later than it at the earliest
pub record IsUnder (rows : List Row) (i : ℕ) (e : ℕ → Times) (bar : ℤ) : Type 0 where
  pub same : IsGuessed (times_at rows) e
  pub start : bar ≤ℤ lst_at e i

pub record IsLateUnder (rows : List Row) (i : ℕ) (e : ℕ → Times) : Type 0 where
  pub same : IsGuessed (times_at rows) e
  pub others : (y : ℕ) → nat_eq y i ≡ false → lst_at (times_at rows) y ≡ lst_at e y
  pub reach : ect_at e i ≤ℤ (row_at rows i).reach
  pub bar : (row_at rows i).bar ≤ℤ lst_at e i

abbrev pub QuietEdges : Type 0
QuietEdges = (rows : List Row) (i : ℕ) (e : ℕ → Times) (s u v : List ℕ) → IsSized (times_at rows) → NoOverloads rows → PassOrNone rows None → is_candidate rows i ≡ true → IsUnder rows i e (lst_at (times_at rows) i)
    → edge_row e (with_candidate rows i) i s u v ≡ true → ⊥

abbrev pub FoundEdge : Type 0
FoundEdge = (rows : List Row) (i : ℕ) (e : ℕ → Times) → IsSized (times_at rows) → NoOverloads rows → IsFound rows i → IsEdgeLook rows i e
    → (s : List ℕ) × (u : List ℕ) × (v : List ℕ) × (edge_row e (with_candidate rows i) i s u v ≡ true)

abbrev pub QuietDetects : Type 0
QuietDetects = (rows : List Row) (i : ℕ) (e : ℕ → Times) (s : List ℕ) → IsSized (times_at rows) → LatePass rows None → is_candidate rows i ≡ true → IsLateUnder rows i e
    → detect_row e (with_candidate rows i) i s ≡ true → ⊥

abbrev pub FoundDetect : Type 0
FoundDetect = (rows : List Row) (i : ℕ) (e : ℕ → Times) (z : ℤ) → IsSized (times_at rows) → is_candidate rows i ≡ true → IsLateRow rows i z → IsLateLook rows i e
    → (s : List ℕ) × (detect_row e (with_candidate rows i) i s ≡ true)
