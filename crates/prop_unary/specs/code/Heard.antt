-- The places of those of whom the numbers leave something to find.
use Rattle.std.specs.Prelude.{◌≡◌, ℕ, ◌<◌, true, false, List, ℤ, Option}
use Rattle.sched_base.specs.declared.ids.Itv.{Itv}
use Rattle.sched_model.specs.Data.{Data}
use Rattle.region.specs.declared.types.OrderCell.TheVariants.{Unknown, Forward}
use Rattle.region.specs.Cells.{Region}
use Rattle.prop_unary.specs.declared.disjunctive.Disjunctive.{Disjunctive}
use Rattle.prop_unary.specs.code.Rows.{has_word, member_at}
use Rattle.prop_unary.specs.code.Silence.{AreSilentWhere}

-- each of the first so many places that is in no set
abbrev pub EachOutside : (Itv → Type 0) → List Itv → ℕ → ℕ → Type 0
EachOutside P xs n set = (k : ℕ) → k < n → has_word set k ≡ false → P (member_at xs k)

-- of the first so many members they are among these, and of the others nothing is found behind a member
pub record AreHeard (m : Data) (r : Region) (d : Disjunctive) (a : Itv) (xs : List Itv) (n set : ℕ) : Type 0 where
  pub within : (k : ℕ) → has_word set k ≡ true → k < n
  pub told : (best : Option ℤ) → EachOutside (AreSilentWhere m r best d Forward a) xs n set
  pub free : (best : Option ℤ) → EachOutside (AreSilentWhere m r best d Unknown a) xs n set
