-- What is remembered of members of which nothing was found: the numbers that their rows are made of.
use Rattle.std.specs.Prelude.{◌≡◌, ℕ, ◌<◌, pos, Bool, List, [], length, Option, Some, None, slice_index_or}
use Rattle.sched_base.specs.declared.ids.Itv.{Itv}
use Rattle.region.specs.declared.types.Bounds.{Bounds}
use Rattle.region.specs.Cells.{Region, bounds_of}
use Rattle.region.specs.Looks.{est_in, lct_in, lst_in, ect_in}
use Rattle.theta_passes.specs.declared.rows.Presence.TheVariants as is
use Rattle.prop_sets.specs.declared.known.Numbers.{Numbers}
use Rattle.prop_sets.specs.code.Rows.{row_presence, member_at, AreMoments}
use Rattle.prop_sets.specs.code.Reordered.{IsReordered}
use Rattle.prop_sets.specs.code.Sides.{IsSideQuiet}

abbrev pub numbers_of : Bounds → Numbers
numbers_of c = record { presence = row_presence c.presence; est = est_in c; lct = lct_in c; lst = lst_in c; ect = ect_in c; p = c.pmin }

abbrev pub no_numbers : Numbers
no_numbers = record { presence = is.Absent; est = pos 0; lct = pos 0; lst = pos 0; ect = pos 0; p = pos 0 }

abbrev pub numbers_at : List Numbers → ℕ → Numbers
numbers_at ns k = slice_index_or ns k no_numbers

-- those of the first members in a region
pub record AreNumbers (r : Region) (ms : List Itv) (n : ℕ) (ns : List Numbers) : Type 0 where
  pub size : length ns ≡ n
  pub each : (k : ℕ) → k < n → numbers_at ns k ≡ numbers_of (bounds_of r (member_at ms k))
  pub moments : (k : ℕ) → k < n → AreMoments (numbers_at ns k)

-- a round finds nothing of members on either side, in some order of them
pub record IsStill (later : Bool) (r : Region) (ms : List Itv) : Type 0 where
  pub xs : List Itv
  pub ys : List Itv
  pub first_order : IsReordered ms xs
  pub second_order : IsReordered ms ys
  pub first : IsSideQuiet later 0 r xs
  pub second : IsSideQuiet later 1 r ys

-- members with these numbers are still
pub record IsKnown (later : Bool) (ms : List Itv) (ns : List Numbers) : Type 0 where
  pub region : Region
  pub numbers : AreNumbers region ms (length ms) ns
  pub still : IsStill later region ms

abbrev pub IfKnown : Bool → List Itv → Option (List Numbers) → Type 0
IfKnown later ms None = Unit {0}
IfKnown later ms (Some ns) = IsKnown later ms ns

pub record AreKnown (later : Bool) (members : List (List Itv)) (known : List (Option (List Numbers))) : Type 0 where
  pub size : length known ≡ length members
  pub each : (k : ℕ) → k < length members → IfKnown later (slice_index_or members k []) (slice_index_or known k None)

pub record AreUnknown (n : ℕ) (known : List (Option (List Numbers))) : Type 0 where
  pub size : length known ≡ n
  pub each : (k : ℕ) → slice_index_or known k None ≡ None
