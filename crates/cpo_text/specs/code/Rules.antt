-- The grammar read from left to right: what each rule takes from the front of some words. Between the spelling and the reader.
use Rattle.std.specs.Prelude.{ℕ, zero, suc, ◌==◌, Bool, true, false, if◌then◌else◌, List, [], ◌∷◌, ◌++◌, length, codes, bytes_eq, Option, Some, None}
use Rattle.std.specs.List.{list_any}
use Rattle.cpo_text.specs.Words.{Word, is_sign}
use Rattle.cpo_text.specs.Words.Word.{name, number, large, sign}
use Rattle.cpo_text.specs.Spelling.{ivarg_sort}
use Rattle.cpo_text.specs.declared.tree.Int.{Int}
use Rattle.cpo_text.specs.declared.tree.Range.{Range}
use Rattle.cpo_text.specs.declared.tree.Ivarg.{Ivarg}
use Rattle.cpo_text.specs.declared.tree.Ivarg.TheVariants.{Optional, Start, End, Size}
use Rattle.cpo_text.specs.declared.tree.Definition.{Definition}
use Rattle.cpo_text.specs.declared.tree.Definition.TheVariants.{IntervalVar}
use Rattle.cpo_text.specs.declared.tree.Temporal.{Temporal}
use Rattle.cpo_text.specs.declared.tree.Constrained.{Constrained}
use Rattle.cpo_text.specs.declared.tree.Constrained.TheVariants.{Between}

-- a tree and the words behind it
abbrev pub Found : Type 0 → Type 0
Found X = Option (X × List Word)

abbrev pub bound : {X Y : Type 0} → Found X → (X → List Word → Found Y) → Found Y
bound None f = None
bound (Some p) f = f p.0 p.1

-- the words behind a sign, if they begin with it
abbrev pub behind : List ℕ → List Word → Option (List Word)
behind s [] = None
behind s (w ∷ ws) = if is_sign s w then Some ws else None

abbrev pub if_behind : {X : Type 0} → Option (List Word) → (List Word → Found X) → Found X → Found X
if_behind None f g = g
if_behind (Some ws) f g = f ws

abbrev pub if_found : {X Y : Type 0} → Found X → (X → List Word → Found Y) → Found Y → Found Y
if_found None f g = g
if_found (Some p) f g = f p.0 p.1

abbrev pub with_rest : {X : Type 0} → Option X → List Word → Found X
with_rest None ws = None
with_rest (Some x) ws = Some (x, ws)

-- what stands beside a word in a table
abbrev pub find_word : {X : Type 0} → List (List ℕ × X) → List ℕ → Option X
find_word [] n = None
find_word (p ∷ ps) n = if bytes_eq n p.0 then Some p.1 else find_word ps n

-- a sign of a table
abbrev pub sign_in : {X : Type 0} → List (List ℕ × X) → List Word → Found X
sign_in table [] = None
sign_in table (sign s ∷ ws) = with_rest (find_word table s) ws
sign_in table (w ∷ ws) = None

abbrev pub name_at : List Word → Found (List ℕ)
name_at (name n ∷ ws) = Some (n, ws)
name_at _ = None

abbrev pub word_of : List ℕ → Found (List ℕ) → Option (List Word)
word_of n None = None
word_of n (Some p) = if bytes_eq p.0 n then Some p.1 else None

-- the words behind a name, if they begin with it
unfoldable pub behind_word : List ℕ → List Word → Option (List Word)
behind_word n ws = word_of n (name_at ws)

abbrev pub size_at : List Word → Found (Option ℕ)
size_at (number n ∷ ws) = Some (Some n, ws)
size_at (large ∷ ws) = Some (None, ws)
size_at _ = None

unfoldable pub signed_at : Bool → List Word → Found Int
signed_at minus ws = bound (size_at ws) (λ n r. Some (record { minus = minus; size = n }, r))

unfoldable pub int_at : List Word → Found Int
int_at ws = if_behind (behind (codes "-") ws) (signed_at true) (signed_at false ws)

-- this, with a sign behind it
abbrev pub ended_at : {X : Type 0} → X → List ℕ → List Word → Found X
ended_at x s ws = if_behind (behind s ws) (λ r. Some (x, r)) None

-- a name, or a number, with a sign behind it
unfoldable pub name_before : List ℕ → List Word → Found (List ℕ)
name_before s ws = bound (name_at ws) (λ a r. if_behind (behind s r) (λ r2. Some (a, r2)) None)

unfoldable pub int_before : List ℕ → List Word → Found Int
int_before s ws = bound (int_at ws) (λ i r. if_behind (behind s r) (λ r2. Some (i, r2)) None)

-- behind a sign, or none
unfoldable pub int_behind : List ℕ → List Word → Found (Option Int)
int_behind s ws = if_behind (behind s ws) (λ r. bound (int_at r) (λ i r2. Some (Some i, r2))) (Some (None, ws))

unfoldable pub range_at : List Word → Found Range
range_at ws = bound (int_at ws) (λ a r. bound (int_behind (codes "..") r) (λ b r2. Some (record { from = a; to = b }, r2)))

unfoldable pub given_at : List Word → Found Range
given_at ws = if_behind (behind (codes "=") ws) range_at None

unfoldable pub ivarg_of : List ℕ → List Word → Found Ivarg
ivarg_of n ws = if bytes_eq n (codes "optional") then Some (Optional, ws)
    else (if bytes_eq n (codes "start") then bound (given_at ws) (λ r rest. Some (Start r, rest))
    else (if bytes_eq n (codes "end") then bound (given_at ws) (λ r rest. Some (End r, rest))
    else (if bytes_eq n (codes "size") then bound (given_at ws) (λ r rest. Some (Size r, rest)) else None)))

unfoldable pub ivarg_at : List Word → Found Ivarg
ivarg_at ws = bound (name_at ws) ivarg_of

abbrev pub has_sort : Ivarg → List Ivarg → Bool
has_sort a args = list_any (λ b. ivarg_sort b == ivarg_sort a) args

-- arguments of an interval, where these of them are read already
abbrev pub ivargs_more : ℕ → List Ivarg → List Word → Found (List Ivarg)
ivargs_more zero seen ws = None
ivargs_more (suc f) seen ws = bound (ivarg_at ws) (λ a r. if has_sort a seen then None
    else if_behind (behind (codes ",") r) (ivargs_more f (seen ++ a ∷ [])) (Some (seen ++ a ∷ [], r)))

unfoldable pub ivargs_at : List Ivarg → List Word → Found (List Ivarg)
ivargs_at seen ws = ivargs_more (length ws) seen ws

unfoldable pub interval_at : List Word → Found Definition
interval_at ws = if_behind (behind (codes "(") ws) (λ r. if_behind (behind (codes ")") r) (λ r2. Some (IntervalVar [], r2))
    (bound (ivargs_at [] r) (λ args r2. if_behind (behind (codes ")") r2) (λ r3. Some (IntervalVar args, r3)) None))) None

unfoldable pub between_at : Temporal → List Word → Found Constrained
between_at t ws = if_behind (behind (codes "(") ws) (λ r. bound (name_at r) (λ a r2. if_behind (behind (codes ",") r2) (λ r3. bound (name_at r3) (λ b r4.
    bound (int_behind (codes ",") r4) (λ z r5. if_behind (behind (codes ")") r5) (λ r6. Some (Between t a b z, r6)) None))) None)) None

-- a name in round brackets
unfoldable pub enclosed_at : List Word → Found (List ℕ)
enclosed_at ws = if_behind (behind (codes "(") ws) (λ r. bound (name_at r) (λ a r2. if_behind (behind (codes ")") r2) (λ r3. Some (a, r3)) None)) None
