-- What becomes of the constraints of a valid model depends on the places of its sequences and functions alone.
use Rattle.std.proofs.Common.{◌≡◌, ℕ, Bool, true, false, ◌&&◌, List, [], ◌∷◌, map, length, nat_lt, refl, ap}
use Rattle.std.specs.List.{list_all}
use Rattle.std.proofs.lemmas.Bool.{and_parts}
use Rattle.base_laws.specs.laws.Truth.{three_true}
use Rattle.sched_base.specs.declared.ids.Itv.{Itv}
use Rattle.sched_base.specs.declared.ids.Seq.{Seq}
use Rattle.sched_model.specs.declared.types.Constraint.{Constraint}
use Rattle.sched_model.specs.declared.types.Constraint.TheVariants.{Temporal, Logic, Span, Alternative, Synchronize, NoOverlap, First, Last, Before, Prev, CumulIn, AlwaysEqual, AlwaysNoState}
use Rattle.sched_model.specs.Data.{Data, has, members_of}
use Rattle.sched_model.specs.Valid.{is_constraint, is_seq, is_member, is_window, is_small}
use Rattle.cpo_elab.specs.NamedFirst.{new_seq, renumbered}

-- two ways to place the first n things
abbrev pub Agree : ℕ → (ℕ → ℕ) → (ℕ → ℕ) → Type 0
Agree n f g = (i : ℕ) → nat_lt i n ≡ true → f i ≡ g i

seq_alike : (m : Data) (f g : ℕ → ℕ) → Agree (length m.sequences) f g → (p : Seq) → is_seq m p ≡ true → new_seq f p ≡ new_seq g p
seq_alike m f g agree p there = λ i. record { 0 = agree p.0 there i }

first_of_five : (p q r s t : Bool) → (p && q && r && s && t) ≡ true → p ≡ true
first_of_five true q r s t h = refl
first_of_five false q r s t h = cc

seq_of_member : (m : Data) (p : Seq) (x : Itv) → is_member m p x ≡ true → is_seq m p ≡ true
seq_of_member m p x h = (and_parts (is_seq m p) (has (members_of m p) x) h).0

constraint_alike : (m : Data) (f g k j : ℕ → ℕ) → Agree (length m.sequences) f g → Agree (length m.cumuls) k j → (c : Constraint) → is_constraint m c ≡ true → renumbered f k c ≡ renumbered g j c
constraint_alike m f g k j seqs cums (Temporal from to equal a b z) h = refl
constraint_alike m f g k j seqs cums (Logic x) h = refl
constraint_alike m f g k j seqs cums (Span a parts) h = refl
constraint_alike m f g k j seqs cums (Alternative a parts n) h = refl
constraint_alike m f g k j seqs cums (Synchronize a parts) h = refl
constraint_alike m f g k j seqs cums (NoOverlap p matrix direct) h = ap (λ q. NoOverlap q matrix direct) (seq_alike m f g seqs p (and_parts (is_seq m p) _ h).0)
constraint_alike m f g k j seqs cums (First p a) h = ap (λ q. First q a) (seq_alike m f g seqs p (seq_of_member m p a h))
constraint_alike m f g k j seqs cums (Last p a) h = ap (λ q. Last q a) (seq_alike m f g seqs p (seq_of_member m p a h))
constraint_alike m f g k j seqs cums (Before p a b) h = ap (λ q. Before q a b) (seq_alike m f g seqs p (seq_of_member m p a (three_true (is_member m p a) (is_member m p b) _ h).0))
constraint_alike m f g k j seqs cums (Prev p a b) h = ap (λ q. Prev q a b) (seq_alike m f g seqs p (seq_of_member m p a (three_true (is_member m p a) (is_member m p b) _ h).0))
constraint_alike m f g k j seqs cums (CumulIn c w lo hi) h =
    let there = first_of_five (nat_lt c.0 (length m.cumuls)) (is_window m w) (is_small lo) (is_small hi) _ h in
    λ i. CumulIn (record { 0 = cums c.0 there i }) w lo hi
constraint_alike m f g k j seqs cums (AlwaysEqual s a v start end) h = refl
constraint_alike m f g k j seqs cums (AlwaysNoState s a) h = refl

pub constraints_alike : (m : Data) (f g k j : ℕ → ℕ) → Agree (length m.sequences) f g → Agree (length m.cumuls) k j → (cs : List Constraint) → list_all (is_constraint m) cs ≡ true
    → map (renumbered f k) cs ≡ map (renumbered g j) cs
constraints_alike m f g k j seqs cums [] all = refl
constraints_alike m f g k j seqs cums (c ∷ cs) all =
    let parts = and_parts (is_constraint m c) _ all in
    λ i. constraint_alike m f g k j seqs cums c parts.0 i ∷ constraints_alike m f g k j seqs cums cs parts.1 i

constraint_same : (c : Constraint) → renumbered (λ i. i) (λ i. i) c ≡ c
constraint_same (Temporal from to equal a b z) = refl
constraint_same (Logic x) = refl
constraint_same (Span a parts) = refl
constraint_same (Alternative a parts n) = refl
constraint_same (Synchronize a parts) = refl
constraint_same (NoOverlap p matrix direct) = refl
constraint_same (First p a) = refl
constraint_same (Last p a) = refl
constraint_same (Before p a b) = refl
constraint_same (Prev p a b) = refl
constraint_same (CumulIn c w lo hi) = refl
constraint_same (AlwaysEqual s a v start end) = refl
constraint_same (AlwaysNoState s a) = refl

pub constraints_same : (cs : List Constraint) → map (renumbered (λ i. i) (λ i. i)) cs ≡ cs
constraints_same [] = refl
constraints_same (c ∷ cs) = λ i. constraint_same c i ∷ constraints_same cs i
