-- Pieces of a page: numbers behind what stands before them, names without signs of the markup, and labels.
use Rattle.std.specs.Prelude.{ℕ, ◌+◌, ℤ, List, [], ◌∷◌, ◌++◌, codes, if◌then◌else◌, nat_eq}
use Rattle.std.specs.List.{flat_map}
use Rattle.std.specs.Fmt.{decimal, signed_decimal}
use Rattle.textline.specs.Lines.{Bytes}

-- a number, and a count, with what stands before it
abbrev pub number : Bytes → ℤ → Bytes
number before z = before ++ signed_decimal z

abbrev pub count : Bytes → ℕ → Bytes
count before n = before ++ decimal n

-- the signs that markup has a use for are spelled by its entities
abbrev pub escaped_byte : ℕ → Bytes
escaped_byte b = if nat_eq b 38 then codes "&amp;" else if nat_eq b 60 then codes "&lt;" else if nat_eq b 62 then codes "&gt;" else if nat_eq b 34 then codes "&quot;" else if nat_eq b 39 then codes "&#39;" else b ∷ []

abbrev pub escaped : Bytes → Bytes
escaped name = flat_map escaped_byte name

-- a text in a box, of which no more is seen than stands inside it
abbrev pub box_open : ℕ → ℕ → ℕ → ℕ → Bytes
box_open x y width height = count (codes "<svg x='") x ++ count (codes "' y='") y ++ count (codes "' width='") width ++ count (codes "' height='") height ++ codes "'>"

abbrev pub label : ℕ → ℕ → ℕ → ℕ → Bytes → Bytes
label x y width height name = box_open x y width height ++ codes "<text x='3' y='50%' dy='.35em'>" ++ escaped name ++ codes "</text></svg>\n"

-- the same in a frame
abbrev pub framed : ℕ → ℕ → ℕ → ℕ → Bytes → Bytes
framed x y width height name =
    box_open x y width height ++ codes "<rect class='o' y='10%' width='100%' height='80%'/><text x='3' y='50%' dy='.35em'>" ++ escaped name ++ codes "</text></svg>\n"

-- what f makes of each item at its place, one behind the other; the first place is i
abbrev pub numbered : {X Y : Type 0} → (ℕ → X → List Y) → ℕ → List X → List Y
numbered f i [] = []
numbered f i (x ∷ xs) = f i x ++ numbered f (i + 1) xs

-- a group whose places are counted from this one
abbrev pub group : ℕ → ℕ → Bytes
group x y = count (codes "<g transform='translate(") x ++ count (codes " ") y ++ codes ")'>\n"

-- A drawing in units of its own, which is stretched to a width of 1000 and this height: from left to right it has the
-- moments from this one on, as many as its width, and from top to bottom so many units.
abbrev pub view : ℤ → ℤ → ℕ → ℤ → Bytes
view left top width units = number [] left ++ number (codes " ") top ++ count (codes " ") width ++ number (codes " ") units ++ codes "'>\n"

abbrev pub scaled : ℕ → ℤ → ℤ → ℕ → ℤ → Bytes
scaled height left top width units = count (codes "<svg width='1000' height='") height ++ codes "' preserveAspectRatio='none' viewBox='" ++ view left top width units
