-- Reading the witnesses of the kinds of sets: what their numbers say, and what is made of them.
use Rattle.std.specs.Prelude.{◌≡◌, ℕ, ◌+◌, ℤ, pos, true, ◌&&◌, List, [], ◌∷◌, ◌++◌, Option, Some, None, drop, length, IsTrue, IfSome, IfNone}
use Rattle.std.proofs.Common.{refl, sym, ap, subst, ◌∙◌, ◌≤◌, arith, get_or, length-append}
use Rattle.base_laws.specs.laws.Truth.{three_true, all_three}
use Rattle.sched_model.specs.Bounds.{is_number}
use Rattle.refute_seq.specs.declared.spelling.Head.{Head}
use Rattle.refute_seq.specs.declared.witness.SeqWitness.{SeqWitness}
use Rattle.refute_seq.specs.declared.witness.SeqWitness.TheVariants.{Pair, Triple, Overload, Edge, NotEnd, Detect}
use Rattle.refute_seq.specs.Witness.{set_numbers, numbers_of, is_number_set, is_valid}
use Rattle.refute_seq.specs.laws.SetNumbers.{set_count, set_split}

abbrev pub is_head : Head → Type 0
is_head f = IsTrue (is_number f.c && is_number f.side && is_number f.i)

-- the numbers are a set, behind k others
pub record OneSet (k : ℕ) (numbers : List ℤ) : Type 0 where
  pub set : List ℕ
  pub numbers_are : set_numbers set ≡ numbers
  pub is : is_number_set set ≡ true
  pub count : is_number (k + length numbers) ≡ true

-- three numbers, and sets behind
pub record Headed (c side i : ℤ) : Type 0 where
  pub head : Head
  pub is : is_head head
  pub first : c ≡ pos head.c
  pub second : side ≡ pos head.side
  pub third : i ≡ pos head.i

pub record ThreeSets (numbers : List ℤ) : Type 0 where
  pub s : List ℕ
  pub u : List ℕ
  pub v : List ℕ
  pub numbers_are : set_numbers s ++ (set_numbers u ++ set_numbers v) ≡ numbers
  pub first : is_number_set s ≡ true
  pub second : is_number_set u ≡ true
  pub third : is_number_set v ≡ true
  pub count : is_number (4 + length numbers) ≡ true

one_set : (k n : ℕ) (s : List ℕ) (numbers : List ℤ) → n ≡ k + 1 → set_numbers s ≡ numbers → is_number_set s ≡ true → is_number (n + length s) ≡ true → OneSet k numbers
one_set k n s numbers more is set count = record { set = s; numbers_are = is; is = set; count = ap is_number (longer (length numbers) (length s) (ap (λ (zs : List ℤ). length zs) (sym is) ∙ set_count s)) ∙ count }
  where
    longer : (a b : ℕ) → a ≡ 1 + b → k + a ≡ n + b
    longer a b h = omega (arith, h, more)

head_of : (k n d j : ℕ) (c side i : ℤ) (zs numbers : List ℤ) → IsTrue (is_number n && is_number d && is_number j) → pos k ∷ pos n ∷ pos d ∷ pos j ∷ zs ≡ pos k ∷ c ∷ side ∷ i ∷ numbers → Headed c side i
head_of k n d j c side i zs numbers valid same = record { head = record { c = n; side = d; i = j }; is = valid; first = cc; second = cc; third = cc }

rest_of : (k n d j : ℕ) (c side i : ℤ) (zs numbers : List ℤ) → pos k ∷ pos n ∷ pos d ∷ pos j ∷ zs ≡ pos k ∷ c ∷ side ∷ i ∷ numbers → zs ≡ numbers
rest_of k n d j c side i zs numbers same = cc

pub not_end_said : (w : SeqWitness) (c side i : ℤ) (numbers : List ℤ) → IsTrue (is_valid w) → numbers_of w ≡ pos 4 ∷ c ∷ side ∷ i ∷ numbers → Headed c side i × OneSet 4 numbers
not_end_said (NotEnd n d j s) c side i numbers valid same =
    let three = three_true (is_number n && is_number d && is_number j) (is_number_set s) (is_number (5 + length s)) valid in
    (head_of 4 n d j c side i (set_numbers s) numbers three.0 same, one_set 4 5 s numbers refl (rest_of 4 n d j c side i (set_numbers s) numbers same) three.1 three.2)
not_end_said (Pair n a b k) c side i numbers valid same = cc
not_end_said (Triple p x y z) c side i numbers valid same = cc
not_end_said (Overload n s) c side i numbers valid same = cc
not_end_said (Edge n d j s u v) c side i numbers valid same = cc
not_end_said (Detect n d j s) c side i numbers valid same = cc

pub detect_said : (w : SeqWitness) (c side i : ℤ) (numbers : List ℤ) → IsTrue (is_valid w) → numbers_of w ≡ pos 5 ∷ c ∷ side ∷ i ∷ numbers → Headed c side i × OneSet 4 numbers
detect_said (Detect n d j s) c side i numbers valid same =
    let three = three_true (is_number n && is_number d && is_number j) (is_number_set s) (is_number (5 + length s)) valid in
    (head_of 5 n d j c side i (set_numbers s) numbers three.0 same, one_set 4 5 s numbers refl (rest_of 5 n d j c side i (set_numbers s) numbers same) three.1 three.2)
detect_said (Pair n a b k) c side i numbers valid same = cc
detect_said (Triple p x y z) c side i numbers valid same = cc
detect_said (Overload n s) c side i numbers valid same = cc
detect_said (Edge n d j s u v) c side i numbers valid same = cc
detect_said (NotEnd n d j s) c side i numbers valid same = cc

three_count : (s u v : List ℕ) (numbers : List ℤ) → set_numbers s ++ (set_numbers u ++ set_numbers v) ≡ numbers → 4 + length numbers ≡ 7 + length s + length u + length v
three_count s u v numbers is =
    let long = ap (λ (zs : List ℤ). length zs) is in
    omega (arith, long, set_count s, set_count u, set_count v, length-append (set_numbers s) (set_numbers u ++ set_numbers v), length-append (set_numbers u) (set_numbers v))

pub edge_said : (w : SeqWitness) (c side i : ℤ) (numbers : List ℤ) → IsTrue (is_valid w) → numbers_of w ≡ pos 3 ∷ c ∷ side ∷ i ∷ numbers → Headed c side i × ThreeSets numbers
edge_said (Edge n d j s u v) c side i numbers valid same =
    let last = three_true (is_number n && is_number d && is_number j && is_number_set s && is_number_set u) (is_number_set v) (is_number (7 + length s + length u + length v)) valid in
    let front = three_true (is_number n && is_number d && is_number j) (is_number_set s) (is_number_set u) last.0 in
    let rest = rest_of 3 n d j c side i (set_numbers s ++ (set_numbers u ++ set_numbers v)) numbers same in (
      head_of 3 n d j c side i (set_numbers s ++ (set_numbers u ++ set_numbers v)) numbers front.0 same,
      record { s = s; u = u; v = v; numbers_are = rest; first = front.1; second = front.2; third = last.1; count = ap is_number (three_count s u v numbers rest) ∙ last.2 },
    )
edge_said (Pair n a b k) c side i numbers valid same = cc
edge_said (Triple p x y z) c side i numbers valid same = cc
edge_said (Overload n s) c side i numbers valid same = cc
edge_said (NotEnd n d j s) c side i numbers valid same = cc
edge_said (Detect n d j s) c side i numbers valid same = cc

-- what is made of a set
made_count : (k n : ℕ) (s : List ℕ) (numbers : List ℤ) → n ≡ k + 1 → set_numbers s ≡ numbers → true ≡ is_number (k + length numbers) → is_number (n + length s) ≡ true
made_count k n s numbers more is count = ap is_number (longer (length numbers) (length s) (ap (λ (zs : List ℤ). length zs) (sym is) ∙ set_count s)) ∙ sym count
  where
    longer : (a b : ℕ) → a ≡ 1 + b → n + b ≡ k + a
    longer a b h = omega (arith, h, more)

-- where the head has three small numbers
pub record HeadIs (c side i : ℤ) (f : Head) : Type 0 where
  pub first : c ≡ pos f.c
  pub second : side ≡ pos f.side
  pub third : i ≡ pos f.i
  pub small : is_head f

pub detect_made : (c side i : ℤ) (f : Head) (s : List ℕ) (numbers : List ℤ) → HeadIs c side i f → set_numbers s ≡ numbers → IsTrue (is_number_set s) → true ≡ is_number (4 + length numbers)
    → (numbers_of (Detect f.c f.side f.i s) ≡ pos 5 ∷ c ∷ side ∷ i ∷ numbers) × IsTrue (is_valid (Detect f.c f.side f.i s))
detect_made c side i f s numbers h read set count =
    (rw (h.first, h.second, h.third, read) refl, all_three (is_number f.c && is_number f.side && is_number f.i) (is_number_set s) (is_number (5 + length s)) h.small set (made_count 4 5 s numbers refl read count))

pub edge_made : (c side i : ℤ) (f : Head) (s u v : List ℕ) (numbers : List ℤ) → HeadIs c side i f → set_numbers s ++ (set_numbers u ++ set_numbers v) ≡ numbers → IsTrue (is_number_set s) → IsTrue (is_number_set u) → IsTrue (is_number_set v)
    → true ≡ is_number (4 + length numbers) → (numbers_of (Edge f.c f.side f.i s u v) ≡ pos 3 ∷ c ∷ side ∷ i ∷ numbers) × IsTrue (is_valid (Edge f.c f.side f.i s u v))
edge_made c side i f s u v numbers h read one two three count = (
  rw (h.first, h.second, h.third, read) refl,
  all_three (is_number f.c && is_number f.side && is_number f.i && is_number_set s && is_number_set u) (is_number_set v) (is_number (7 + length s + length u + length v))
      (all_three (is_number f.c && is_number f.side && is_number f.i) (is_number_set s) (is_number_set u) h.small one two) three
      (ap is_number (sym (three_count s u v numbers read)) ∙ sym count),
)

-- what an answer says
pub none_of : {X P : Type 0} (o : Option X) → o ≡ None → IfNone o P → P
none_of None is h = h
none_of (Some x) is h = cc

pub some_of : (P : List ℕ → Type 0) (o : Option (List ℕ)) (x : List ℕ) → o ≡ Some x → IfSome o P → P x
some_of P None x is h = cc
some_of P (Some y) x is h = let same : y ≡ x = cc is in subst P same h

-- no head, no second set, no third
pub no_head : (c side i d e j : ℤ) → d ≡ c → e ≡ side → j ≡ i → ((f : Head) → is_head f → d ≡ pos f.c → e ≡ pos f.side → j ≡ pos f.i → ⊥) → Headed c side i → ⊥
no_head c side i d e j first second third none h = none h.head h.is (first ∙ h.first) (second ∙ h.second) (third ∙ h.third)

second_part : (s : List ℕ) (numbers parts : List ℤ) → set_numbers s ++ drop (1 + length s) numbers ≡ numbers → parts ≡ drop (1 + length s) numbers → (h : ThreeSets numbers) → set_numbers h.u ++ set_numbers h.v ≡ parts
second_part s numbers parts whole is h = sym (set_split s h.s (drop (1 + length s) numbers) (set_numbers h.u ++ set_numbers h.v) (whole ∙ sym h.numbers_are)).1 ∙ sym is

pub no_second : (s : List ℕ) (numbers parts : List ℤ) → set_numbers s ++ drop (1 + length s) numbers ≡ numbers → parts ≡ drop (1 + length s) numbers
    → ((t : List ℕ) (rest : List ℤ) → IsTrue (is_number_set t) → set_numbers t ++ rest ≡ parts → ⊥) → ThreeSets numbers → ⊥
no_second s numbers parts whole is none h = none h.u (set_numbers h.v) h.second (second_part s numbers parts whole is h)

pub no_third : (s u : List ℕ) (numbers parts last : List ℤ) → set_numbers s ++ drop (1 + length s) numbers ≡ numbers → parts ≡ drop (1 + length s) numbers → set_numbers u ++ drop (1 + length u) parts ≡ parts → last ≡ drop (1 + length u) parts
    → ((t : List ℕ) → IsTrue (is_number_set t) → set_numbers t ≡ last → ⊥) → ThreeSets numbers → ⊥
no_third s u numbers parts last whole is rest end none h =
    none h.v h.third (sym (set_split u h.u (drop (1 + length u) parts) (set_numbers h.v) (rest ∙ sym (second_part s numbers parts whole is h))).1 ∙ sym end)

pub three_read : (s u v : List ℕ) (numbers parts last : List ℤ) → set_numbers s ++ drop (1 + length s) numbers ≡ numbers → parts ≡ drop (1 + length s) numbers → set_numbers u ++ drop (1 + length u) parts ≡ parts → last ≡ drop (1 + length u) parts
    → set_numbers v ≡ last → set_numbers s ++ (set_numbers u ++ set_numbers v) ≡ numbers
three_read s u v numbers parts last whole is rest end third =
    ap (λ zs. set_numbers s ++ (set_numbers u ++ zs)) (third ∙ end) ∙ ap (λ zs. set_numbers s ++ zs) (rest ∙ is) ∙ whole

-- three numbers in front
pub front_three : (xs : List ℤ) (a b d : ℤ) (zs : List ℤ) → 3 ≤ length xs → a ≡ get_or xs 0 (pos 0) → b ≡ get_or xs 1 (pos 0) → d ≡ get_or xs 2 (pos 0) → zs ≡ drop 3 xs → a ∷ b ∷ d ∷ zs ≡ xs
front_three [] a b d zs long first second third rest = absurd (omega (arith, long))
front_three (x ∷ []) a b d zs long first second third rest = absurd (omega (arith, long))
front_three (x ∷ y ∷ []) a b d zs long first second third rest = absurd (omega (arith, long))
front_three (x ∷ y ∷ z ∷ xs) a b d zs long first second third rest = rw (first, second, third, rest) refl

long_of : (k n d j : ℕ) (zs rest : List ℤ) → pos k ∷ pos n ∷ pos d ∷ pos j ∷ zs ≡ pos k ∷ rest → 3 ≤ length rest
long_of k n d j zs rest same = let whole = ap (λ (ys : List ℤ). length ys) same in omega (arith, whole)

pub edge_long : (w : SeqWitness) (rest : List ℤ) → numbers_of w ≡ pos 3 ∷ rest → 3 ≤ length rest
edge_long (Edge n d j s u v) rest same = long_of 3 n d j (set_numbers s ++ (set_numbers u ++ set_numbers v)) rest same
edge_long (Pair n a b k) rest same = cc
edge_long (Triple p x y z) rest same = cc
edge_long (Overload n s) rest same = cc
edge_long (NotEnd n d j s) rest same = cc
edge_long (Detect n d j s) rest same = cc

pub not_end_long : (w : SeqWitness) (rest : List ℤ) → numbers_of w ≡ pos 4 ∷ rest → 3 ≤ length rest
not_end_long (NotEnd n d j s) rest same = long_of 4 n d j (set_numbers s) rest same
not_end_long (Pair n a b k) rest same = cc
not_end_long (Triple p x y z) rest same = cc
not_end_long (Overload n s) rest same = cc
not_end_long (Edge n d j s u v) rest same = cc
not_end_long (Detect n d j s) rest same = cc

pub detect_long : (w : SeqWitness) (rest : List ℤ) → numbers_of w ≡ pos 5 ∷ rest → 3 ≤ length rest
detect_long (Detect n d j s) rest same = long_of 5 n d j (set_numbers s) rest same
detect_long (Pair n a b k) rest same = cc
detect_long (Triple p x y z) rest same = cc
detect_long (Overload n s) rest same = cc
detect_long (Edge n d j s u v) rest same = cc
detect_long (NotEnd n d j s) rest same = cc
