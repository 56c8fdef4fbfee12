-- Pieces of text: items with a sign between them, calls, and the names of things.
use Rattle.std.specs.Prelude.{ℕ, ◌+◌, ℤ, List, [], ◌∷◌, ◌++◌, map, codes, slice_get, option_map, unwrap_or}
use Rattle.std.specs.Fmt.{signed_decimal}
use Rattle.sched_base.specs.declared.ids.Itv.{Itv}
use Rattle.sched_base.specs.declared.ids.Mat.{Mat}
use Rattle.sched_base.specs.declared.ids.Stf.{Stf}
use Rattle.sched_model.specs.Data.{Data}
use Rattle.textline.specs.Lines.{Bytes}

-- the items in order, with a sign between each two
abbrev pub between : Bytes → List Bytes → Bytes
between s [] = []
between s (x ∷ []) = x
between s (x ∷ y ∷ xs) = x ++ s ++ between s (y ∷ xs)

abbrev pub commas : List Bytes → Bytes
commas items = between (codes ",") items

-- items in square brackets
abbrev pub listed : List Bytes → Bytes
listed items = codes "[" ++ commas items ++ codes "]"

abbrev pub bracketed : Bytes → Bytes
bracketed text = codes "(" ++ text ++ codes ")"

-- a word and its arguments
abbrev pub call : Bytes → List Bytes → Bytes
call word items = word ++ bracketed (commas items)

-- the texts of the pairs at each place, one behind the other; f is told the place, which is i for the first
abbrev pub at_places : {X Y : Type 0} → (ℕ → X → Y → Bytes) → ℕ → List X → List Y → Bytes
at_places f i (x ∷ xs) (y ∷ ys) = f i x y ++ at_places f (i + 1) xs ys
at_places f i _ _ = []

abbrev pub range_text : ℤ → ℤ → Bytes
range_text lo hi = signed_decimal lo ++ codes ".." ++ signed_decimal hi

-- names by their ids
abbrev pub interval_name : Data → Itv → Bytes
interval_name m x = unwrap_or (option_map (λ d. d.name) (slice_get m.intervals x.0)) []

abbrev pub matrix_name : Data → Mat → Bytes
matrix_name m x = unwrap_or (option_map (λ d. d.name) (slice_get m.matrices x.0)) []

abbrev pub state_name : Data → Stf → Bytes
state_name m g = unwrap_or (option_map (λ d. d.name) (slice_get m.states g.0)) []

abbrev pub interval_names : Data → List Itv → List Bytes
interval_names m xs = map (interval_name m) xs
