-- From the rows of a constraint to its propagator.
use Rattle.std.specs.Prelude.{◌≡◌, ℕ, ℤ, false, List, Option, Some, None, IfNone, IfSome, slice_get}
use Rattle.std.proofs.Common.{sym, subst, ap, ◌∙◌}
use Rattle.sched_base.specs.declared.ids.Itv.{Itv}
use Rattle.sched_model.specs.declared.types.Constraint.{Constraint}
use Rattle.sched_model.specs.Data.{Data}
use Rattle.region.specs.declared.types.Guess.{Guess}
use Rattle.region.specs.Cells.{Region}
use Rattle.region.specs.Looks.{Seen, IsRegionOf, seen_at}
use Rattle.findings.specs.Found.{IsFound, IsFinding}
use Rattle.refute_hier.specs.declared.witness.HierWitness.{HierWitness}
use Rattle.refute_hier.specs.Hier.{refutes}
use Rattle.refute_hier.specs.declared.family.Kind.{Kind}
use Rattle.refute_hier.specs.code.Rows.{is_family, IsWitness}
use Rattle.prop_hier.specs.code.Rows.{refutes_under}
use Rattle.prop_hier.specs.code.Ready.{AreParts}
use Rattle.prop_hier.specs.code.Related.{AreSilent}
use Rattle.prop_hier.specs.code.Tables.{intervals_of}
use Rattle.prop_hier.specs.code.Tasks.{quiet}
use Rattle.prop_hier.specs.laws.Relations.{quiet_related, silent_related}
use Rattle.refute_hier.specs.laws.Parts.{IsFamily}
use Rattle.prop_hier.specs.laws.Quiet.{Unrefuted, unrefuted_from, finding_from}

pub parts_of : (m : Data) (c : ℕ) (kind : Kind) (a : Itv) (bs : List Itv) → IsFamily m c kind a bs → AreParts bs
parts_of m c kind a bs of = record { distinct = of.distinct; few = of.few.parts }

pub if_none : {X : Type 0} {P Q : Type 0} (o : Option X) → (P → Q) → IfNone o P → IfNone o Q
if_none None f p = f p
if_none (Some x) f p = tt

pub if_some : {X : Type 0} {P Q : Type 0} (o : Option X) → (Q → P) → IfSome o (λ x. P → ⊥) → IfSome o (λ x. Q → ⊥)
if_some None f p = tt
if_some (Some x) f p = λ q. p (f q)

-- a constraint that is none on an interval and its parts, by what is found of its relation
pub constraint_at : (m : Data) (cs : List Constraint) (c : ℕ) (d : Constraint) → cs ≡ m.constraints → Some d ≡ slice_get cs c → slice_get m.constraints c ≡ Some d
constraint_at m cs c d same at = ap (λ ds. slice_get ds c) (sym same) ∙ sym at

pub quiet_listed : (m : Data) (c : ℕ) (r : Region) (best : Option ℤ) (d : Constraint) (xs : List Itv) → IsRegionOf m r → slice_get m.constraints c ≡ Some d → is_family d ≡ false → xs ≡ intervals_of m (slice_get m.constraints c) → AreSilent m r best d c xs → quiet m c r best
quiet_listed m c r best d xs of is none listed silent = quiet_related m c r best d of is none (subst (AreSilent m r best d c) (listed ∙ ap (intervals_of m) is) silent)

pub silent_listed : (m : Data) (c : ℕ) (r : Region) (best : Option ℤ) (d : Constraint) (xs : List Itv) → slice_get m.constraints c ≡ Some d → xs ≡ intervals_of m (slice_get m.constraints c) → quiet m c r best → AreSilent m r best d c xs
silent_listed m c r best d xs is listed still = subst (AreSilent m r best d c) (sym (listed ∙ ap (intervals_of m) is)) (silent_related m c r best d is still)

pub none_is : {X : Type 0} {P : Type 0} (o : Option X) → P → IfNone o P
none_is None p = p
none_is (Some x) p = tt

pub busy_from : (m : Data) (c : ℕ) (r : Region) (best : Option ℤ) (kind : Kind) (a : Itv) (bs : List Itv) → IsFamily m c kind a bs → (Unrefuted kind r a bs → ⊥) → quiet m c r best → ⊥
busy_from m c r best kind a bs of busy still = busy (unrefuted_from m c r best kind a bs of still)

pub found_from : (m : Data) (c : ℕ) (r : Region) (best : Option ℤ) (kind : Kind) (a : Itv) (bs : List Itv) (w : HierWitness) (guess : Option Guess) (l : Seen) → IsFamily m c kind a bs → l ≡ seen_at r best guess
    → IsFound (refutes_under kind r a bs) r guess → IsWitness kind l.region a bs c w → IsFinding refutes m r best (record { guess = guess; witness = w })
found_from m c r best kind a bs w guess l of shown found one = finding_from m r best kind a bs c w guess of.is found (subst (λ k. IsWitness kind k.region a bs c w) shown one)
