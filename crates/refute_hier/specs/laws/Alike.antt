-- The rows look at no more than the bounds of the interval of a constraint and of its parts, or than the presence and the
-- orders of the members that a relation compares.
use Rattle.std.specs.Prelude.{◌≡◌, ℕ, zero, suc, ◌+◌, ℤ, true, ◌&&◌, ◌||◌, List, [], ◌∷◌, Option, Some, None, slice_get}
use Rattle.std.proofs.Common.{refl, sym, ap, cond, ◌∙◌}
use Rattle.std.proofs.lemmas.Bool.{or_left, or_right}
use Rattle.std.proofs.lemmas.List.Sums.{sum_by-cons}
use Rattle.sched_base.specs.declared.ids.Itv.{Itv}
use Rattle.sched_base.specs.declared.ids.Seq.{Seq}
use Rattle.sched_model.specs.declared.types.Constraint.{Constraint}
use Rattle.sched_model.specs.declared.types.Constraint.TheVariants as constraint
use Rattle.sched_model.specs.Words.{passes}
use Rattle.sched_model.specs.Data.{Data, same, has}
use Rattle.region.specs.Cells.{Region, bounds_of, says_present, says_absent}
use Rattle.region.specs.Looks.{Seen}
use Rattle.region.specs.laws.OneSequence.{same_self}
use Rattle.refute_basic.specs.laws.Alike.{SameTwo, stand_alike}
use Rattle.refute_hier.specs.declared.parts.Role.{Role}
use Rattle.refute_hier.specs.declared.parts.Role.TheVariants.{IsThere, StartsBefore, EndsAfter, Clashes, MayStart, MayEnd, MayMatch}
use Rattle.refute_hier.specs.Parts.{plays, plays_in, is_there, is_away, at_part, some_part, part_count}
use Rattle.refute_hier.specs.Span.{span_case, span_of, span_row}
use Rattle.refute_hier.specs.Alt.{alt_case, alt_of, alt_row}
use Rattle.refute_hier.specs.Sync.{sync_case, sync_of, sync_row}
use Rattle.refute_hier.specs.SeqRel.{seqrel_of, seqrel_row}
use Rattle.refute_hier.specs.Listed.{family_of}

-- the same is known of each of these intervals in two regions
abbrev pub SameEach : Region → Region → List Itv → Type 0
SameEach r q xs = (x : Itv) → has xs x ≡ true → bounds_of r x ≡ bounds_of q x

first_same : (r q : Region) (x : Itv) (xs : List Itv) → SameEach r q (x ∷ xs) → bounds_of r x ≡ bounds_of q x
first_same r q x xs each = each x (or_left (same x x) (has xs x) (same_self x))

rest_same : (r q : Region) (x : Itv) (xs : List Itv) → SameEach r q (x ∷ xs) → SameEach r q xs
rest_same r q x xs each y here = each y (or_right (same y x) (has xs y) here)

role_same : (r q : Region) (role : Role) (a b : Itv) → bounds_of r a ≡ bounds_of q a → bounds_of r b ≡ bounds_of q b → plays_in r role a b ≡ plays_in q role a b
role_same r q role a b whole part = ap (λ c. plays role c (bounds_of r b)) whole ∙ ap (plays role (bounds_of q a)) part

pub at_part_alike : (r q : Region) (role : Role) (a : Itv) (bs : List Itv) (i : ℕ) → bounds_of r a ≡ bounds_of q a → SameEach r q bs → at_part r role a bs i ≡ at_part q role a bs i
at_part_alike r q role a [] i whole each = refl
at_part_alike r q role a (b ∷ bs) zero whole each = role_same r q role a b whole (first_same r q b bs each)
at_part_alike r q role a (b ∷ bs) (suc i) whole each = at_part_alike r q role a bs i whole (rest_same r q b bs each)

pub some_part_alike : (r q : Region) (role : Role) (a : Itv) (bs : List Itv) → bounds_of r a ≡ bounds_of q a → SameEach r q bs → some_part r role a bs ≡ some_part q role a bs
some_part_alike r q role a [] whole each = refl
some_part_alike r q role a (b ∷ bs) whole each =
    ap (λ p. p || some_part r role a bs) (role_same r q role a b whole (first_same r q b bs each)) ∙ ap (λ p. plays_in q role a b || p) (some_part_alike r q role a bs whole (rest_same r q b bs each))

pub part_count_alike : (r q : Region) (role : Role) (a : Itv) (bs : List Itv) → bounds_of r a ≡ bounds_of q a → SameEach r q bs → part_count r role a bs ≡ part_count q role a bs
part_count_alike r q role a [] whole each = refl
part_count_alike r q role a (b ∷ bs) whole each =
    sum_by-cons (λ x. cond (plays_in r role a x) 1 0) b bs
    ∙ ap (λ p. cond p 1 0 + part_count r role a bs) (role_same r q role a b whole (first_same r q b bs each))
    ∙ ap (λ n. cond (plays_in q role a b) 1 0 + n) (part_count_alike r q role a bs whole (rest_same r q b bs each))
    ∙ sym (sum_by-cons (λ x. cond (plays_in q role a x) 1 0) b bs)

pub there_alike : (r q : Region) (a : Itv) → bounds_of r a ≡ bounds_of q a → is_there r a ≡ is_there q a
there_alike r q a whole = ap (λ c. says_present c.presence) whole

pub away_alike : (r q : Region) (a : Itv) → bounds_of r a ≡ bounds_of q a → is_away r a ≡ is_away q a
away_alike r q a whole = ap (λ c. says_absent c.presence) whole

span_case_alike : (r q : Region) (k i : ℕ) (a : Itv) (bs : List Itv) → SameEach r q (a ∷ bs) → span_case r k i a bs ≡ span_case q k i a bs
span_case_alike r q k i a bs each =
    let whole = first_same r q a bs each in
    let parts = rest_same r q a bs each in
    rw (
      away_alike r q a whole,
      there_alike r q a whole,
      at_part_alike r q IsThere a bs i whole parts,
      some_part_alike r q MayStart a bs whole parts,
      some_part_alike r q MayEnd a bs whole parts,
      at_part_alike r q StartsBefore a bs i whole parts,
      at_part_alike r q EndsAfter a bs i whole parts,
    ) refl

alt_case_alike : (r q : Region) (k i j : ℕ) (n : ℤ) (a : Itv) (bs : List Itv) → SameEach r q (a ∷ bs) → alt_case r k i j n a bs ≡ alt_case q k i j n a bs
alt_case_alike r q k i j n a bs each =
    let whole = first_same r q a bs each in
    let parts = rest_same r q a bs each in
    rw (
      away_alike r q a whole,
      there_alike r q a whole,
      at_part_alike r q IsThere a bs i whole parts,
      at_part_alike r q IsThere a bs j whole parts,
      part_count_alike r q MayMatch a bs whole parts,
      part_count_alike r q IsThere a bs whole parts,
      at_part_alike r q Clashes a bs i whole parts,
    ) refl

sync_case_alike : (r q : Region) (i : ℕ) (a : Itv) (bs : List Itv) → SameEach r q (a ∷ bs) → sync_case r i a bs ≡ sync_case q i a bs
sync_case_alike r q i a bs each =
    let whole = first_same r q a bs each in
    rw (there_alike r q a whole, at_part_alike r q Clashes a bs i whole (rest_same r q a bs each)) refl

-- each row looks at the interval of its constraint and the parts alone
pub span_alike : (m : Data) (l k : Seen) (c n i : ℕ) → SameEach l.region k.region (family_of (slice_get m.constraints c)) → span_row m l c n i ≡ span_row m k c n i
span_alike m l k c n i each = at (slice_get m.constraints c) each
  where
    at : (o : Option Constraint) → SameEach l.region k.region (family_of o) → passes (span_of l.region n i) o ≡ passes (span_of k.region n i) o
    at None each = refl
    at (Some (constraint.Span a parts)) each = span_case_alike l.region k.region n i a parts each
    at (Some other) each = refl

pub alt_alike : (m : Data) (l k : Seen) (c n i j : ℕ) → SameEach l.region k.region (family_of (slice_get m.constraints c)) → alt_row m l c n i j ≡ alt_row m k c n i j
alt_alike m l k c n i j each = at (slice_get m.constraints c) each
  where
    at : (o : Option Constraint) → SameEach l.region k.region (family_of o) → passes (alt_of l.region n i j) o ≡ passes (alt_of k.region n i j) o
    at None each = refl
    at (Some (constraint.Alternative a parts count)) each = alt_case_alike l.region k.region n i j count a parts each
    at (Some other) each = refl

pub sync_alike : (m : Data) (l k : Seen) (c i : ℕ) → SameEach l.region k.region (family_of (slice_get m.constraints c)) → sync_row m l c i ≡ sync_row m k c i
sync_alike m l k c i each = at (slice_get m.constraints c) each
  where
    at : (o : Option Constraint) → SameEach l.region k.region (family_of o) → passes (sync_of l.region i) o ≡ passes (sync_of k.region i) o
    at None each = refl
    at (Some (constraint.Synchronize a parts)) each = sync_case_alike l.region k.region i a parts each
    at (Some other) each = refl

-- SEQREL reads how each two members stand that the relation compares, beside one more
abbrev pub SameRelated : Region → Region → Itv → Option Constraint → Type 0
SameRelated r q x (Some (constraint.First p a)) = SameTwo r q p x a
SameRelated r q x (Some (constraint.Last p a)) = SameTwo r q p a x
SameRelated r q x (Some (constraint.Before p a b)) = SameTwo r q p b a
SameRelated r q x (Some (constraint.Prev p a b)) = SameTwo r q p b a × SameTwo r q p a x × SameTwo r q p x b
SameRelated r q x _ = Unit {0}

prev_alike : (r q : Region) (p : Seq) (a b x : Itv) → SameTwo r q p b a × SameTwo r q p a x × SameTwo r q p x b → seqrel_of r x (constraint.Prev p a b) ≡ seqrel_of q x (constraint.Prev p a b)
prev_alike r q p a b x h = rw (stand_alike r q p b a h.0, stand_alike r q p a x h.1, stand_alike r q p x b h.2) refl

pub seqrel_alike : (m : Data) (l k : Seen) (c x : ℕ) → SameRelated l.region k.region (record { 0 = x }) (slice_get m.constraints c) → seqrel_row m l c x ≡ seqrel_row m k c x
seqrel_alike m l k c x each = at (slice_get m.constraints c) each
  where
    one : Itv
    one = record { 0 = x }

    at : (o : Option Constraint) → SameRelated l.region k.region one o → passes (seqrel_of l.region one) o ≡ passes (seqrel_of k.region one) o
    at None h = refl
    at (Some (constraint.First p a)) h = stand_alike l.region k.region p one a h
    at (Some (constraint.Last p a)) h = stand_alike l.region k.region p a one h
    at (Some (constraint.Before p a b)) h = ap (λ t. same one b && t) (stand_alike l.region k.region p b a h)
    at (Some (constraint.Prev p a b)) h = prev_alike l.region k.region p a b one h
    at (Some other) h = refl
