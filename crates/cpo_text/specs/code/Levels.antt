-- Expressions read from left to right, by levels. Between the spelling and the reader: the fuel bounds how often rules call rules.
use Rattle.std.specs.Prelude.{ℕ, zero, suc, if◌then◌else◌, List, [], ◌∷◌, ◌++◌, map, codes, bytes_eq, Option, Some, None}
use Rattle.cpo_text.specs.Words.{Word}
use Rattle.cpo_text.specs.Words.Word.{name, number, large, sign, quoted}
use Rattle.cpo_text.specs.Expressions.{link_sign}
pub use Rattle.cpo_text.specs.code.Rules.{if_found, with_rest}
use Rattle.cpo_text.specs.code.Rules.{Found, bound, behind, if_behind, name_at, int_behind, enclosed_at}
use Rattle.cpo_text.specs.declared.expression.Measure.{Measure}
use Rattle.cpo_text.specs.declared.expression.Measure.TheVariants.{StartOf, EndOf, SizeOf, LengthOf}
use Rattle.cpo_text.specs.declared.expression.Gather.{Gather}
use Rattle.cpo_text.specs.declared.expression.Gather.TheVariants as gather
use Rattle.cpo_text.specs.declared.expression.Link.{Link}
use Rattle.cpo_text.specs.declared.expression.Link.TheVariants.{Times, And, Or}
use Rattle.cpo_text.specs.declared.expression.Comparison.{Comparison}
use Rattle.cpo_text.specs.declared.expression.Comparison.TheVariants.{Equal, NotEqual, AtMost, AtLeast, Below, Above}
use Rattle.cpo_text.specs.declared.expression.Logic.{Logic, roll-Logic}
use Rattle.cpo_text.specs.declared.expression.Logic.TheOpen.{Logic-F as tree}

-- what is read: an expression of a level, or the operands behind the first
pub data Task : Type 0 where
  logic : Task
  chain : Link → Task
  unit : Task
  sum : Task
  term : Task
  atom : Task
  more : Link → Task
  terms : Task
  items : Task

-- an operand of a link
abbrev pub inner : Link → Task
inner Times = atom
inner And = unit
inner Or = chain And

abbrev pub Trees : Type 0
Trees = Found (List Logic)

-- one operand is itself
abbrev pub node : (List Logic → Logic) → List Logic → List Logic
node f [] = []
node f (x ∷ []) = x ∷ []
node f (x ∷ y ∷ xs) = f (x ∷ y ∷ xs) ∷ []

abbrev pub paired : (Logic → Logic → Logic) → List Logic → List Logic → List Logic
paired f (x ∷ []) (y ∷ []) = f x y ∷ []
paired f xs ys = []

abbrev pub lit : Option ℕ → Logic
lit n = roll-Logic (tree.Lit n)

abbrev pub group : Logic → Logic
group e = roll-Logic (tree.Group e)

abbrev pub presence : List ℕ → Logic
presence a = roll-Logic (tree.PresenceOf a)

abbrev pub gathered : Gather → List Logic → Logic
gathered g es = roll-Logic (tree.Gathered g es)

abbrev pub linked : Link → List Logic → Logic
linked l es = roll-Logic (tree.Linked l es)

abbrev pub neg : Logic → Logic
neg e = roll-Logic (tree.Neg e)

abbrev pub total : List Logic → Logic
total es = roll-Logic (tree.Sum es)

abbrev pub compare : Comparison → Logic → Logic → Logic
compare op a b = roll-Logic (tree.Compare op a b)

abbrev pub negation : Logic → Logic
negation e = roll-Logic (tree.Not e)

abbrev pub implies : Logic → Logic → Logic
implies a b = roll-Logic (tree.Implies a b)

abbrev pub comparison_of : List ℕ → Option Comparison
comparison_of s = if bytes_eq s (codes "==") then Some Equal else (if bytes_eq s (codes "!=") then Some NotEqual
    else (if bytes_eq s (codes "<=") then Some AtMost else (if bytes_eq s (codes ">=") then Some AtLeast
    else (if bytes_eq s (codes "<") then Some Below else (if bytes_eq s (codes ">") then Some Above else None)))))

unfoldable pub comparison_at : List Word → Found Comparison
comparison_at [] = None
comparison_at (sign s ∷ ws) = with_rest (comparison_of s) ws
comparison_at (w ∷ ws) = None

abbrev pub measure_of : List ℕ → Option Measure
measure_of n = if bytes_eq n (codes "startOf") then Some StartOf else (if bytes_eq n (codes "endOf") then Some EndOf
    else (if bytes_eq n (codes "sizeOf") then Some SizeOf else (if bytes_eq n (codes "lengthOf") then Some LengthOf else None)))

abbrev pub gather_of : List ℕ → Option Gather
gather_of n = if bytes_eq n (codes "max") then Some gather.Max else (if bytes_eq n (codes "min") then Some gather.Min
    else (if bytes_eq n (codes "sum") then Some gather.Sum else None))

unfoldable pub measured_at : Measure → List Word → Trees
measured_at m ws = if_behind (behind (codes "(") ws) (λ r. bound (name_at r) (λ a r2. bound (int_behind (codes ",") r2) (λ d r3.
    if_behind (behind (codes ")") r3) (λ r4. Some (roll-Logic (tree.Measured m a d) ∷ [], r4)) None))) None

-- the greatest or least of none is none
abbrev pub gathered_none : Gather → List Word → Trees
gathered_none gather.Sum ws = if_behind (behind (codes ")") ws) (λ r. Some (gathered gather.Sum [] ∷ [], r)) None
gathered_none g ws = None

-- these, from the closing bracket on
abbrev pub gathered_some : Gather → List Logic → List Word → Trees
gathered_some g es ws = if_behind (behind (codes "]") ws) (λ r. if_behind (behind (codes ")") r) (λ r2. Some (gathered g es ∷ [], r2)) None) None

-- behind the bracket, with a reader of the items
abbrev pub gathered_behind : Gather → (List Word → Trees) → List Word → Trees
gathered_behind g read ws = if_behind (behind (codes "]") ws) (gathered_none g) (bound (read ws) (gathered_some g))

unfoldable pub gathered_at : Gather → (List Word → Trees) → List Word → Trees
gathered_at g read ws = if_behind (behind (codes "(") ws) (λ r. if_behind (behind (codes "[") r) (gathered_behind g read) None) None

abbrev pub by_gather : Option Gather → (List Word → Trees) → List Word → Trees
by_gather None read ws = None
by_gather (Some g) read ws = gathered_at g read ws

abbrev pub by_measure : Option Measure → Option Gather → (List Word → Trees) → List Word → Trees
by_measure None g read ws = by_gather g read ws
by_measure (Some m) g read ws = measured_at m ws

-- the presence of an interval, behind its word
abbrev pub presence_at : List Word → Trees
presence_at ws = bound (enclosed_at ws) (λ a r. Some (presence a ∷ [], r))

-- what begins with a call word
unfoldable pub call_of : List ℕ → (List Word → Trees) → List Word → Trees
call_of n read ws = if bytes_eq n (codes "presenceOf") then presence_at ws
    else by_measure (measure_of n) (gather_of n) read ws

-- behind the bracket, with a reader of the whole expression in it
unfoldable pub grouped_at : (List Word → Trees) → List Word → Trees
grouped_at whole ws = bound (whole ws) (λ a r. if_behind (behind (codes ")") r) (λ r2. Some (map group a, r2)) None)

-- with readers of what stands in round and in square brackets
abbrev pub atom_of : (List Word → Trees) → (List Word → Trees) → List Word → Trees
atom_of whole list [] = None
atom_of whole list (number n ∷ ws) = Some (lit (Some n) ∷ [], ws)
atom_of whole list (large ∷ ws) = Some (lit None ∷ [], ws)
atom_of whole list (sign s ∷ ws) = if bytes_eq (codes "(") s then grouped_at whole ws else None
atom_of whole list (name n ∷ ws) = call_of n list ws
atom_of whole list (quoted ∷ ws) = None

abbrev pub read : ℕ → Task → List Word → Trees
read zero task ws = None
read (suc f) logic ws = bound (read f (chain Or) ws) (λ a r. if_behind (behind (codes "=>") r) (λ r2. bound (read f logic r2) (λ b r3. Some (paired implies a b, r3))) (Some (a, r)))
read (suc f) (chain l) ws = bound (read f (inner l) ws) (λ a r. bound (read f (more l) r) (λ b r2. Some (node (linked l) (a ++ b), r2)))
read (suc f) unit ws = if_behind (behind (codes "!") ws) (λ r. bound (read f unit r) (λ a r2. Some (map negation a, r2)))
    (bound (read f sum ws) (λ a r. if_found (comparison_at r) (λ op r2. bound (read f sum r2) (λ b r3. Some (paired (compare op) a b, r3))) (Some (a, r))))
read (suc f) sum ws = bound (read f term ws) (λ a r. bound (read f terms r) (λ b r2. Some (node total (a ++ b), r2)))
read (suc f) term ws = if_behind (behind (codes "-") ws) (λ r. bound (read f (chain Times) r) (λ a r2. Some (map neg a, r2))) (read f (chain Times) ws)
read (suc f) atom ws = atom_of (read f logic) (read f items) ws
read (suc f) (more l) ws = if_behind (behind (link_sign l) ws) (λ r. bound (read f (inner l) r) (λ a r2. bound (read f (more l) r2) (λ b r3. Some (a ++ b, r3)))) (Some ([], ws))
read (suc f) terms ws = if_behind (behind (codes "+") ws) (λ r. bound (read f (chain Times) r) (λ a r2. bound (read f terms r2) (λ b r3. Some (a ++ b, r3))))
    (if_behind (behind (codes "-") ws) (λ r. bound (read f (chain Times) r) (λ a r2. bound (read f terms r2) (λ b r3. Some (map neg a ++ b, r3)))) (Some ([], ws)))
read (suc f) items ws = bound (read f logic ws) (λ a r. if_behind (behind (codes ",") r) (λ r2. bound (read f items r2) (λ b r3. Some (a ++ b, r3))) (Some (a, r)))

-- with these in front
abbrev pub in_front : List Logic → Trees → Trees
in_front front found = bound found (λ es r. Some (front ++ es, r))
