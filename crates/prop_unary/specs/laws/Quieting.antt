-- The propagator of a constraint is quiet where PAIR of each two members is silent.
use Rattle.std.specs.Prelude.{◌≡◌, ℕ, ◌+◌, ◌<◌, ℤ, Bool, true, false, ◌&&◌, length, Option, slice_get}
use Rattle.std.proofs.Common.{refl, sym, ap, subst, ◌∙◌, arith}
use Rattle.std.proofs.lemmas.Option.{slice_get_within}
use Rattle.sched_base.specs.declared.ids.Itv.{Itv}
use Rattle.sched_base.specs.declared.ids.Seq.{Seq}
use Rattle.sched_model.specs.Data.{Data, has, members_of}
use Rattle.region.specs.Cells.{Region}
use Rattle.region.specs.Looks.{IsRegionOf, seen_at}
use Rattle.region.specs.laws.Lists.{both_true}
use Rattle.region.specs.laws.Narrowing.{looked_stays}
use Rattle.findings.specs.laws.Kept.{asked_admits}
use Rattle.refute_seq.specs.declared.witness.SeqWitness.{SeqWitness}
use Rattle.refute_seq.specs.declared.witness.SeqWitness.TheVariants.{Pair, Triple, Overload, Edge, NotEnd, Detect}
use Rattle.refute_seq.specs.Listed.{lists}
use Rattle.prop_unary.specs.declared.disjunctive.Disjunctive.{Disjunctive}
use Rattle.prop_unary.specs.code.Tasks.{IsSilent, quiet, is_own, looks_after, sequence_in}
use Rattle.prop_unary.specs.code.Silence.{IsDisjunctive, AreSilent}
use Rattle.prop_unary.specs.code.Circles.{EachOf}
use Rattle.prop_unary.specs.laws.Members.{are_members, are_two, strangers}
use Rattle.prop_unary.specs.laws.Owners.{pair_owned, triple_owned, owns_pair, owns_triple}

-- a witness of others than members is silent
pub strangers_silent : (m : Data) (r : Region) (best : Option ℤ) (w : SeqWitness) → IsRegionOf m r → is_own w ≡ true → are_members m w ≡ false → IsSilent m r best w
strangers_silent m r best w of own none guess asked = strangers m (seen_at r best guess) w (looked_stays guess m r (asked_admits (lists m w) r guess asked) of) own none

pub by_members : (m : Data) (r : Region) (best : Option ℤ) (w : SeqWitness) → IsRegionOf m r → is_own w ≡ true → (are_members m w ≡ true → IsSilent m r best w) → IsSilent m r best w
by_members m r best w of own silent = by_case (are_members m w) refl
  where
    by_case : (t : Bool) → are_members m w ≡ t → IsSilent m r best w
    by_case true is = silent is
    by_case false is = strangers_silent m r best w of own is

-- so the propagator of a constraint, and that of a sequence, is quiet where the witnesses of members are silent
pub constraint_quiet : (m : Data) (c : ℕ) (r : Region) (best : Option ℤ) → IsRegionOf m r → c < length m.constraints
    → ((a b : Itv) (k : ℕ) → are_two m (sequence_in (slice_get m.constraints c)) a b ≡ true → IsSilent m r best (Pair c a.0 b.0 k)) → quiet m c r best
constraint_quiet m c r best of within silent = record { unrefuted = λ w guess mine asked. at w mine guess asked }
  where
    named : (c e a b k : ℕ) → c ≡ e → ((a b : Itv) (k : ℕ) → are_two m (sequence_in (slice_get m.constraints c)) a b ≡ true → IsSilent m r best (Pair c a.0 b.0 k)) → IsSilent m r best (Pair e a b k)
    named c e a b k same silent = subst (λ (i : ℕ). IsSilent m r best (Pair i a b k)) same (by_members m r best (Pair c a b k) of refl (silent (record { 0 = a }) (record { 0 = b }) k))

    at : (w : SeqWitness) → looks_after m c w ≡ true → IsSilent m r best w
    at (Pair e a b k) mine = named c e a b k (pair_owned m c e a b k mine).0 silent
    at (Triple p x y z) mine = let other = (triple_owned m c p x y z mine).0 in absurd (omega (arith, other, within))
    at (Overload e s) mine = cc
    at (Edge e side i s u v) mine = cc
    at (NotEnd e side i s) mine = cc
    at (Detect e side i s) mine = cc

pub sequence_quiet : (m : Data) (p : Seq) (r : Region) (best : Option ℤ) → IsRegionOf m r
    → ((x y z : Itv) → has (members_of m p) x ≡ true → has (members_of m p) y ≡ true → has (members_of m p) z ≡ true → IsSilent m r best (Triple p.0 x.0 y.0 z.0)) → quiet m (length m.constraints + p.0) r best
sequence_quiet m p r best of silent = record { unrefuted = λ w guess mine asked. at w mine guess asked }
  where
    members : (x y z : Itv) → are_members m (Triple p.0 x.0 y.0 z.0) ≡ true → IsSilent m r best (Triple p.0 x.0 y.0 z.0)
    members x y z here =
        let two = both_true (has (members_of m p) x && has (members_of m p) y) (has (members_of m p) z) here in
        let one = both_true (has (members_of m p) x) (has (members_of m p) y) two.0 in
        silent x y z one.0 one.1 two.1

    named : (q x y z : ℕ) → p.0 ≡ q → IsSilent m r best (Triple q x y z)
    named q x y z same = subst (λ (i : ℕ). IsSilent m r best (Triple i x y z)) same (by_members m r best (Triple p.0 x y z) of refl (members (record { 0 = x }) (record { 0 = y }) (record { 0 = z })))

    at : (w : SeqWitness) → looks_after m (length m.constraints + p.0) w ≡ true → IsSilent m r best w
    at (Pair c a b k) mine =
        let two = pair_owned m (length m.constraints + p.0) c a b k mine in
        let same = two.0 in
        let less = two.1 in
        absurd (omega (arith, same, less))
    at (Triple q x y z) mine = let same = (triple_owned m (length m.constraints + p.0) q x y z mine).0 in named q x y z (omega (arith, same))
    at (Overload c s) mine = cc
    at (Edge c side i s u v) mine = cc
    at (NotEnd c side i s) mine = cc
    at (Detect c side i s) mine = cc

-- which is so of a constraint without overlap where it is of each two of the list, and of others always
pub pairs_quiet : (m : Data) (r : Region) (best : Option ℤ) (d : Disjunctive) → IsRegionOf m r → IsDisjunctive m d → EachOf (λ a. EachOf (AreSilent m r best d a) (members_of m d.p)) (members_of m d.p) → quiet m d.c r best
pairs_quiet m r best d of is each = constraint_quiet m d.c r best of (slice_get_within m.constraints d.c _ is) (λ a b k two.
    let both = both_true (has (members_of m d.p) a) (has (members_of m d.p) b) (sym (ap (λ o. are_two m (sequence_in o) a b) is) ∙ two) in
    each a both.0 b both.1 k)

-- where a propagator is quiet its witnesses are silent
pub pair_silent : (m : Data) (c a b k : ℕ) (r : Region) (best : Option ℤ) → c < length m.constraints → quiet m c r best → IsSilent m r best (Pair c a b k)
pair_silent m c a b k r best within still guess asked = still.unrefuted (Pair c a b k) guess (owns_pair m c a b k within) asked

pub triple_silent : (m : Data) (p x y z : ℕ) (r : Region) (best : Option ℤ) → p < length m.sequences → quiet m (length m.constraints + p) r best → IsSilent m r best (Triple p x y z)
triple_silent m p x y z r best within still guess asked = still.unrefuted (Triple p x y z) guess (owns_triple m p x y z within) asked
