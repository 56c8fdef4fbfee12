-- What was asked is silent, and what is silent finds nothing.
use Rattle.std.specs.Prelude.{◌≡◌, ℕ, ◌+◌, ◌<◌, ℤ, true, false, ◌&&◌, ◌||◌, List, length, Option, Some, None, is_none, is_some, IfNone, IfSome}
use Rattle.std.proofs.Common.{refl, sym, ap, subst, ◌∙◌}
use Rattle.std.proofs.lemmas.Bool.{true≢false, or_left, or_right}
use Rattle.std.proofs.lemmas.Option.{slice_get_within}
use Rattle.base_laws.specs.laws.Numbers.{differs as different}
use Rattle.sched_base.specs.declared.ids.Itv.{Itv}
use Rattle.sched_base.specs.declared.ids.Seq.{Seq}
use Rattle.sched_model.specs.Data.{Data, same, members_of}
use Rattle.region.specs.declared.types.OrderCell.{OrderCell}
use Rattle.region.specs.declared.types.OrderCell.TheVariants.{Unknown, Forward, Backward}
use Rattle.region.specs.declared.types.Guess.{Guess}
use Rattle.region.specs.declared.types.Guess.TheVariants.{Present, Before}
use Rattle.region.specs.Orders.{order_in}
use Rattle.region.specs.Cells.{Region, bounds_of, cells_of, is_there}
use Rattle.region.specs.Guesses.{admits, topic}
use Rattle.region.specs.Looks.{IsRegionOf, seen_at}
use Rattle.region.specs.laws.Lists.{both_true, true_both}
use Rattle.region.specs.laws.OneSequence.{same_self}
use Rattle.findings.specs.Ends.{is_open_end, is_end}
use Rattle.refute_seq.specs.declared.witness.SeqWitness.TheVariants.{Pair, Triple}
use Rattle.refute_seq.specs.OnSequence.{refutes}
use Rattle.refute_seq.specs.declared.witness.SeqWitness.{SeqWitness}
use Rattle.refute_seq.specs.Standing.{precedes}
use Rattle.refute_seq.specs.Listed.{lists, asks_order}
use Rattle.region.specs.declared.types.Topic.TheVariants.{Two}
use Rattle.prop_unary.specs.laws.Under.{asks_itself}
use Rattle.prop_unary.specs.laws.Circles.{circles_quiet}
use Rattle.prop_unary.specs.declared.disjunctive.Disjunctive.{Disjunctive}
use Rattle.prop_unary.specs.code.Tasks.{IsSilent, quiet}
use Rattle.prop_unary.specs.code.Silence.{IsDisjunctive, is_silent_two, reach, AreSilent, AreSilentWhere}
use Rattle.prop_unary.specs.code.Circles.{EachOf, SilentBehind, SilentAround, SilentAt}
use Rattle.prop_unary.specs.laws.Silence.{silent_pair, silent_itself, backward_pair}
use Rattle.prop_unary.specs.laws.Quieting.{pairs_quiet, pair_silent, triple_silent}

-- of a pair
pub busy_pair : (m : Data) (r : Region) (best : Option ℤ) (d : Disjunctive) (a b : Itv) (k : ℕ) → IsDisjunctive m d → (IsSilent m r best (Pair d.c a.0 b.0 k) → ⊥) → quiet m d.c r best → ⊥
busy_pair m r best d a b k is busy still = busy (pair_silent m d.c a.0 b.0 k r best (slice_get_within m.constraints d.c _ is) still)

pub silent_same : (m : Data) (r : Region) (best : Option ℤ) (d : Disjunctive) (o : OrderCell) (a b : Itv) → IsDisjunctive m d → a.0 ≡ b.0 → AreSilentWhere m r best d o a b
silent_same m r best d o a b is same told = silent_itself m r best d a b is (ap (λ n. record { 0 = n }) same)

pub silent_told : (m : Data) (r : Region) (best : Option ℤ) (d : Disjunctive) (a b : Itv) → AreSilent m r best d a b → AreSilentWhere m r best d Forward a b
silent_told m r best d a b silent told = silent

pub open_told : (m : Data) (r : Region) (best : Option ℤ) (d : Disjunctive) (a b : Itv) → order_in (cells_of r d.p) a b ≡ Forward → AreSilentWhere m r best d Unknown a b
open_told m r best d a b told unknown = absurd (apart (sym told ∙ unknown))
  where
    apart : Forward ≡ Unknown → ⊥
    apart h = cc

pub silent_tested : (m : Data) (r : Region) (best : Option ℤ) (d : Disjunctive) (o : OrderCell) (a b : Itv) → IsDisjunctive m d → (a.0 ≡ b.0 → ⊥) → is_silent_two o (bounds_of r a) (bounds_of r b) (reach m d.p d.matrix a b) ≡ true → AreSilentWhere m r best d o a b
silent_tested m r best d o a b is apart test told =
    silent_pair m r best d a b is (different a.0 b.0 apart) (subst (λ u. is_silent_two u (bounds_of r a) (bounds_of r b) (reach m d.p d.matrix a b) ≡ true) (sym told) test)

pub no_matrix : {X : Type 0} (o : Option X) → is_none o ≡ true → is_some o ≡ false
no_matrix None h = refl
no_matrix (Some x) h = cc

-- of each two
abbrev pub EachTwo : Data → Region → Option ℤ → Disjunctive → OrderCell → List Itv → Type 0
EachTwo m r best d o ms = EachOf (λ a. EachOf (AreSilentWhere m r best d o a) ms) ms

pub quiet_pairs : (m : Data) (r : Region) (best : Option ℤ) (d : Disjunctive) (ms : List Itv) → IsRegionOf m r → IsDisjunctive m d → ms ≡ members_of m d.p → EachTwo m r best d Forward ms → EachTwo m r best d Unknown ms → quiet m d.c r best
quiet_pairs m r best d ms of is listed forward unknown =
    pairs_quiet m r best d of is (subst (λ xs. EachOf (λ a. EachOf (AreSilent m r best d a) xs) xs) listed (λ a one b other. by_order a b (order_in (cells_of r d.p) a b) refl (forward a one b other) (unknown a one b other)))
  where
    by_order : (a b : Itv) (o : OrderCell) → order_in (cells_of r d.p) a b ≡ o → AreSilentWhere m r best d Forward a b → AreSilentWhere m r best d Unknown a b → AreSilent m r best d a b
    by_order a b Forward told f u = f told
    by_order a b Unknown told f u = u told
    by_order a b Backward told f u = backward_pair m r best d a b is told

-- the same of an answer
pub none_to : {X P Q : Type 0} (o : Option X) → (P → Q) → IfNone o P → IfNone o Q
none_to None f p = f p
none_to (Some x) f p = tt

pub some_to : {X P Q : Type 0} (o : Option X) → (P → Q) → IfSome o (λ x. P) → IfSome o (λ x. Q)
some_to None f p = tt
some_to (Some x) f p = f p

-- of three
pub busy_guess : (m : Data) (r : Region) (best : Option ℤ) (w : SeqWitness) (g : Guess) → lists m w g ≡ true → is_end r (topic g) ≡ true → (admits r g && refutes m (seen_at r best (Some g)) w) ≡ true → IsSilent m r best w → ⊥
busy_guess m r best w g listed end h silent =
    let two = both_true (admits r g) (refutes m (seen_at r best (Some g)) w) h in
    true≢false (sym two.1 ∙ silent (Some g) (true_both (lists m w g) (is_open_end r g) listed (true_both (admits r g) (is_end r (topic g)) two.0 end)))

pub busy_plain : (m : Data) (r : Region) (best : Option ℤ) (w : SeqWitness) → refutes m (seen_at r best None) w ≡ true → IsSilent m r best w → ⊥
busy_plain m r best w h silent = true≢false (sym h ∙ silent None refl)

pub listed_first : (m : Data) (p : Seq) (x y z : Itv) → lists m (Triple p.0 x.0 y.0 z.0) (Present x) ≡ true
listed_first m p x y z = or_left (same x x) _ (same_self x)

pub listed_third : (m : Data) (p : Seq) (x y z : Itv) → lists m (Triple p.0 x.0 y.0 z.0) (Present z) ≡ true
listed_third m p x y z = or_right (same z x) _ (or_right (same z y) _ (or_left (same z z) false (same_self z)))

pub listed_before : (m : Data) (p : Seq) (x y z : Itv) → lists m (Triple p.0 x.0 y.0 z.0) (Before p z x) ≡ true
listed_before m p x y z = or_right (asks_order p x y (Two p z x) || asks_order p y z (Two p z x)) (asks_order p z x (Two p z x)) (asks_itself p z x)

pub busy_triple : (m : Data) (r : Region) (best : Option ℤ) (p : Seq) (x y z : Itv) → p.0 < length m.sequences → (IsSilent m r best (Triple p.0 x.0 y.0 z.0) → ⊥) → quiet m (length m.constraints + p.0) r best → ⊥
busy_triple m r best p x y z within busy still = busy (triple_silent m p.0 x.0 y.0 z.0 r best within still)

-- who isn't asked
pub not_behind : (m : Data) (r : Region) (best : Option ℤ) (p : Seq) (x y z : Itv) → precedes r p y z ≡ false → SilentBehind m r best p x y z
not_behind m r best p x y z off told = absurd (true≢false (sym told ∙ off))

pub not_around : (m : Data) (r : Region) (best : Option ℤ) (p : Seq) (ms : List Itv) (y x : Itv) → precedes r p x y ≡ false → SilentAround m r best p ms y x
not_around m r best p ms y x off told = absurd (true≢false (sym told ∙ off))

pub not_there : (m : Data) (r : Region) (best : Option ℤ) (p : Seq) (ms : List Itv) (y : Itv) → is_there r y ≡ false → SilentAt m r best p ms y
not_there m r best p ms y off told = absurd (true≢false (sym told ∙ off))

pub quiet_circles : (m : Data) (r : Region) (best : Option ℤ) (p : Seq) (ms : List Itv) → IsRegionOf m r → ms ≡ members_of m p → EachOf (SilentAt m r best p ms) ms → quiet m (length m.constraints + p.0) r best
quiet_circles m r best p ms of listed each = circles_quiet m r best p of (subst (λ xs. EachOf (SilentAt m r best p xs) xs) listed each)
