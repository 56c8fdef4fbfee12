-- What a write to one node does to the row of nodes.
use Rattle.std.proofs.Common.{◌≡◌, ℕ, zero, suc, ◌<◌, List, [], ◌∷◌, Some, length, get_or, set, refl, ap, arith, slice_get, lit<, Option, None}
use Rattle.std.specs.Ptr.{Ptr}
use Rattle.kept.proofs.Indices.{index_place}
use Rattle.iqueue.specs.declared.node.Node.{Node}
use Rattle.iqueue.specs.contracts.node.Node.{the_row}
use Rattle.iqueue.specs.code.Links.{spot, number, changed, waits, next_to, prev_to, next_of, prev_of}

pub number_spot : (base : Ptr) (k : ℕ) → number base (spot base k) ≡ k
number_spot base k = index_place the_row base k (lit< tt)

pub set_changed : (f : Node → Node) (ns : List Node) (i : ℕ) (n : Node) → n ≡ get_or ns i n → set ns i (f n) ≡ changed f ns i
set_changed f [] i n is = refl
set_changed f (m ∷ ns) zero n is = ap (λ x. f x ∷ ns) is
set_changed f (m ∷ ns) (suc i) n is = ap (λ x. m ∷ x) (set_changed f ns i n is)

pub set_other : (ns : List Node) (i j : ℕ) (n : Node) → (j ≡ i → ⊥) → slice_get (set ns i n) j ≡ slice_get ns j
set_other [] i j n other = refl
set_other (m ∷ ns) zero zero n other = absurd (other refl)
set_other (m ∷ ns) zero (suc j) n other = refl
set_other (m ∷ ns) (suc i) zero n other = refl
set_other (m ∷ ns) (suc i) (suc j) n other = set_other ns i j n (λ same. other (ap (λ x. suc x) same))

pub set_same : (ns : List Node) (i : ℕ) (n : Node) → i < length ns → slice_get (set ns i n) i ≡ Some n
set_same [] i n within = absurd (omega (arith, within))
set_same (m ∷ ns) zero n within = refl
set_same (m ∷ ns) (suc i) n within = set_same ns i n (omega (arith, within))

pub changed_other : (f : Node → Node) (ns : List Node) (i j : ℕ) → (j ≡ i → ⊥) → slice_get (changed f ns i) j ≡ slice_get ns j
changed_other f [] i j other = refl
changed_other f (m ∷ ns) zero zero other = absurd (other refl)
changed_other f (m ∷ ns) zero (suc j) other = refl
changed_other f (m ∷ ns) (suc i) zero other = refl
changed_other f (m ∷ ns) (suc i) (suc j) other = changed_other f ns i j (λ same. other (ap (λ x. suc x) same))

pub changed_same : (f : Node → Node) (ns : List Node) (i : ℕ) (n : Node) → slice_get ns i ≡ Some n → slice_get (changed f ns i) i ≡ Some (f n)
changed_same f [] i n is = cc
changed_same f (m ∷ ns) zero n is = let same : m ≡ n = cc in rw same refl
changed_same f (m ∷ ns) (suc i) n is = changed_same f ns i n is

pub changed_length : (f : Node → Node) (ns : List Node) (i : ℕ) → length (changed f ns i) ≡ length ns
changed_length f [] i = refl
changed_length f (m ∷ ns) zero = refl
changed_length f (m ∷ ns) (suc i) = ap (λ x. suc x) (changed_length f ns i)

pub changed_waits : (f : Node → Node) → ((n : Node) → (f n).is_linked ≡ n.is_linked) → (ns : List Node) (i j : ℕ) → waits (slice_get (changed f ns i) j) ≡ waits (slice_get ns j)
changed_waits f keeps [] i j = refl
changed_waits f keeps (m ∷ ns) zero zero = keeps m
changed_waits f keeps (m ∷ ns) zero (suc j) = refl
changed_waits f keeps (m ∷ ns) (suc i) zero = refl
changed_waits f keeps (m ∷ ns) (suc i) (suc j) = changed_waits f keeps ns i j

pub next_number : (d : Option Ptr) (n : Node) → (next_to d n).number ≡ n.number
next_number None n = refl
next_number (Some p) n = refl

pub next_linked : (d : Option Ptr) (n : Node) → (next_to d n).is_linked ≡ n.is_linked
next_linked None n = refl
next_linked (Some p) n = refl

pub next_keeps : (d : Option Ptr) (n : Node) → prev_of (next_to d n) ≡ prev_of n
next_keeps None n = refl
next_keeps (Some p) n = refl

pub next_is : (d : Option Ptr) (n : Node) → next_of (next_to d n) ≡ d
next_is None n = refl
next_is (Some p) n = refl

pub prev_number : (d : Option Ptr) (n : Node) → (prev_to d n).number ≡ n.number
prev_number None n = refl
prev_number (Some p) n = refl

pub prev_linked : (d : Option Ptr) (n : Node) → (prev_to d n).is_linked ≡ n.is_linked
prev_linked None n = refl
prev_linked (Some p) n = refl

pub prev_keeps : (d : Option Ptr) (n : Node) → next_of (prev_to d n) ≡ next_of n
prev_keeps None n = refl
prev_keeps (Some p) n = refl

pub prev_is : (d : Option Ptr) (n : Node) → prev_of (prev_to d n) ≡ d
prev_is None n = refl
prev_is (Some p) n = refl
