-- What a witness of members looks at, and that it is silent alike where this is.
use Rattle.std.specs.Prelude.{◌≡◌, ℤ, true, ◌&&◌, IsTrue, [], ◌∷◌, length, Option, Some, None, slice_get, nat_eq, nat_lt}
use Rattle.std.proofs.Common.{inl, inr, refl, sym, ap, subst, ◌∙◌, arith}
use Rattle.std.proofs.lemmas.Bool.Decides.{nat_tests}
use Rattle.sched_base.specs.declared.ids.Itv.{Itv}
use Rattle.sched_base.specs.declared.ids.Seq.{Seq}
use Rattle.sched_model.specs.declared.types.Constraint.{Constraint}
use Rattle.sched_model.specs.declared.types.Constraint.TheVariants as constraint
use Rattle.sched_model.specs.Data.{Data, same, has, members_of}
use Rattle.region.specs.declared.types.Topic.{Topic}
use Rattle.region.specs.declared.types.Topic.TheVariants.{One, Two}
use Rattle.region.specs.declared.types.Guess.{Guess}
use Rattle.region.specs.declared.types.Guess.TheVariants.{Present, Absent, StartLe, StartGe, EndLe, EndGe, Before}
use Rattle.region.specs.Cells.{Region, bounds_of, says_maybe}
use Rattle.region.specs.Guesses.{admits, topic}
use Rattle.region.specs.Looks.{IsRegionOf}
use Rattle.region.specs.laws.Lists.{both_true, true_both}
use Rattle.region.specs.laws.Narrowing.{as_many_bounds}
use Rattle.region.specs.laws.OneSequence.{same_is, has_cases}
use Rattle.base_laws.specs.laws.Truth.{three_true}
use Rattle.findings.specs.Ends.{is_open_end, is_end, is_asked}
use Rattle.findings.specs.code.Reads.{AreAlike, LooksOnlyAt, is_among}
use Rattle.findings.specs.laws.Alike.{admits_alike}
use Rattle.findings.specs.laws.Kept.{asked_admits, asked_alike, refuted_alike}
use Rattle.findings.specs.laws.Members.{first_paired, second_paired}
use Rattle.refute_seq.specs.declared.witness.SeqWitness.{SeqWitness}
use Rattle.refute_seq.specs.declared.witness.SeqWitness.TheVariants.{Pair, Triple, Overload, Edge, NotEnd, Detect}
use Rattle.refute_seq.specs.Witness.{is_valid}
use Rattle.refute_seq.specs.Listed.{lists, asks_order, asks_pair, asks_circle}
use Rattle.refute_seq.specs.OnSequence.{refutes}
use Rattle.refute_seq.specs.laws.Alike.{SameTwo, SameRead, pair_alike, triple_alike}
use Rattle.prop_unary.specs.code.Tasks.{IsSilent, sequence_in, reads_pair, reads_triple, reads_of, pairs_of}
use Rattle.prop_unary.specs.laws.Pairs.{has_two}
use Rattle.prop_unary.specs.laws.Members.{are_two, are_members}
use Rattle.prop_unary.specs.laws.Silence.{of_either}
use Rattle.prop_unary.specs.laws.Circles.{listed_three, order_listed}

-- PAIR
same_read : (m : Data) (r q : Region) (a b : Itv) (o : Option Constraint) → are_two m (sequence_in o) a b ≡ true → AreAlike (reads_pair m (sequence_in o)) r q → SameRead m r q a b o
same_read m r q a b (Some (constraint.NoOverlap p matrix direct)) two alike =
    let here = both_true (has (members_of m p) a) (has (members_of m p) b) two in
    record {
      first = alike.bounds a here.0;
      second = alike.bounds b here.1;
      order = alike.orders p a b (has_two m p a b here.0 here.1);
      between = λ direct z one. record {
        presence = ap (λ c. c.presence) (alike.bounds z one);
        before = alike.orders p z a (has_two m p z a one here.0);
        behind = alike.orders p b z (has_two m p b z here.1 one);
      };
    }
same_read m r q a b None two alike = tt
same_read m r q a b (Some other) two alike = tt

-- TRIPLE
same_two : (m : Data) (r q : Region) (p : Seq) (x y : Itv) → has (members_of m p) x ≡ true → has (members_of m p) y ≡ true → AreAlike (reads_triple m p) r q → SameTwo r q p x y
same_two m r q p x y one other alike =
    let pair = has_two m p x y one other in
    record { first = alike.presences x (first_paired (pairs_of m p) p x y pair); second = alike.presences y (second_paired (pairs_of m p) p x y pair); order = alike.orders p x y pair }

pub looks : (m : Data) (w : SeqWitness) → are_members m w ≡ true → LooksOnlyAt refutes m w (reads_of m w)
looks m (Pair c a b n) two l k of also alike best =
    ap (λ t. is_valid (Pair c a b n) && t) (pair_alike m l k c a b n (same_read m l.region k.region (record { 0 = a }) (record { 0 = b }) (slice_get m.constraints c) two alike))
looks m (Triple s x y z) three l k of also alike best =
    let p : Seq = record { 0 = s } in
    let u : Itv = record { 0 = x } in
    let v : Itv = record { 0 = y } in
    let w : Itv = record { 0 = z } in
    let here = three_true (has (members_of m p) u) (has (members_of m p) v) (has (members_of m p) w) three in
    ap (λ t. is_valid (Triple s x y z) && t)
    (triple_alike l k s x y z (same_two m l.region k.region p u v here.0 here.1 alike, same_two m l.region k.region p v w here.1 here.2 alike, same_two m l.region k.region p w u here.2 here.0 alike))
looks m (Overload c s) here l k of also alike best = cc
looks m (Edge c side i s u v) here l k of also alike best = cc
looks m (NotEnd c side i s) here l k of also alike best = cc
looks m (Detect c side i s) here l k of also alike best = cc

-- what is asked of PAIR in one region is asked in one that is alike
topic_is : (p : Seq) (x y : Itv) (t : Topic) → asks_order p x y t ≡ true → t ≡ Two p x y
topic_is p x y (One z c) h = cc
topic_is p x y (Two q u v) h =
    let three = both_true (nat_eq p.0 q.0 && same x u) (same y v) h in
    let two = both_true (nat_eq p.0 q.0) (same x u) three.0 in
    same_topic p q x u y v (same_seq p q two.0) (same_is x u two.1) (same_is y v three.1)
  where
    same_seq : (p q : Seq) → nat_eq p.0 q.0 ≡ true → p ≡ q
    same_seq p q h = let e : p.0 ≡ q.0 = grind (arith, nat_tests) in ap (λ n. record { 0 = n }) e

    same_topic : (p q : Seq) (x u y v : Itv) → p ≡ q → x ≡ u → y ≡ v → Two q u v ≡ Two p x y
    same_topic p q x u y v e f g = rw (e, f, g) refl

pair_among : (m : Data) (a b : Itv) (o : Option Constraint) (t : Topic) → are_two m (sequence_in o) a b ≡ true → asks_pair o a b t ≡ true → is_among (reads_pair m (sequence_in o)).intervals (reads_pair m (sequence_in o)).pairs t ≡ true
pair_among m a b (Some (constraint.NoOverlap p matrix direct)) (One z k) two asks =
    let here = both_true (has (members_of m p) a) (has (members_of m p) b) two in
    elim (has_cases (same a z) (same b z) (of_either p a b z k asks)) [
      | inl first ↦ subst (λ (y : Itv). has (members_of m p) y ≡ true) (same_is a z first) here.0
      | inr second ↦ subst (λ (y : Itv). has (members_of m p) y ≡ true) (same_is b z second) here.1
    ]
pair_among m a b (Some (constraint.NoOverlap p matrix direct)) (Two q u v) two asks =
    let here = both_true (has (members_of m p) a) (has (members_of m p) b) two in
    subst (λ t. is_among (members_of m p) (pairs_of m p) t ≡ true) (sym (topic_is p a b (Two q u v) asks)) (has_two m p a b here.0 here.1)
pair_among m a b None t two asks = cc
pair_among m a b (Some other) t two asks = cc

-- and of TRIPLE, of whose guesses none is on a bound
present_open : (m : Data) (r q : Region) (u : Itv) → IsRegionOf m r → IsRegionOf m q → (bounds_of r u).presence ≡ (bounds_of q u).presence → admits q (Present u) ≡ true → admits r (Present u) ≡ true
present_open m r q u of also alike free = ap (λ n. nat_lt u.0 n && says_maybe (bounds_of r u).presence) (sym (as_many_bounds m r of) ∙ as_many_bounds m q also) ∙ ap (λ p. nat_lt u.0 (length q.bounds) && says_maybe p) alike ∙ free

record AreThree (m : Data) (p : Seq) (x y z : Itv) : Type 0 where
  first : has (members_of m p) x ≡ true
  second : has (members_of m p) y ≡ true
  third : has (members_of m p) z ≡ true

one_of_three : (m : Data) (p : Seq) (x y z u : Itv) → AreThree m p x y z → has (x ∷ y ∷ z ∷ []) u ≡ true → has (members_of m p) u ≡ true
one_of_three m p x y z u are h = elim (listed_three x y z u h) [
  | inl e ↦ subst (λ (w : Itv). has (members_of m p) w ≡ true) (sym e) are.first
  | inr (inl e) ↦ subst (λ (w : Itv). has (members_of m p) w ≡ true) (sym e) are.second
  | inr (inr e) ↦ subst (λ (w : Itv). has (members_of m p) w ≡ true) (sym e) are.third
]

circle_open : (m : Data) (r q : Region) (p : Seq) (x y z : Itv) (g : Guess) → IsRegionOf m r → IsRegionOf m q → AreThree m p x y z → AreAlike (reads_triple m p) r q → asks_circle p x y z (topic g) ≡ true → admits q g ≡ true → (admits r g ≡ true) × (is_end r (topic g) ≡ true)
circle_open m r q p x y z (Present u) of also are alike listed free =
    let here = one_of_three m p x y z u are listed in
    (present_open m r q u of also (alike.presences u (first_paired (pairs_of m p) p u u (has_two m p u u here here))) free, refl)
circle_open m r q p x y z (Before s u v) of also are alike listed free = (
  admits_alike m (reads_triple m p) (Two s u v) r q of also (elim (order_listed p x y z s u v listed) [
    | inl e ↦ subst (λ h. is_among [] (pairs_of m p) (topic h) ≡ true) (sym e) (has_two m p x y are.first are.second)
    | inr (inl e) ↦ subst (λ h. is_among [] (pairs_of m p) (topic h) ≡ true) (sym e) (has_two m p y z are.second are.third)
    | inr (inr e) ↦ subst (λ h. is_among [] (pairs_of m p) (topic h) ≡ true) (sym e) (has_two m p z x are.third are.first)
  ]) alike ∙ free,
  refl,
)
circle_open m r q p x y z (Absent u) of also are alike listed free = cc
circle_open m r q p x y z (StartLe u t) of also are alike listed free = cc
circle_open m r q p x y z (StartGe u t) of also are alike listed free = cc
circle_open m r q p x y z (EndLe u t) of also are alike listed free = cc
circle_open m r q p x y z (EndGe u t) of also are alike listed free = cc

asked_back : (m : Data) (w : SeqWitness) (r q : Region) (guess : Option Guess) → are_members m w ≡ true → IsRegionOf m r → IsRegionOf m q → AreAlike (reads_of m w) r q → is_asked (lists m w) q guess ≡ true → is_asked (lists m w) r guess ≡ true
asked_back m (Pair c a b k) r q guess two of also alike asked =
    asked_alike m (reads_of m (Pair c a b k)) (lists m (Pair c a b k)) guess r q of also (λ g listed. pair_among m (record { 0 = a }) (record { 0 = b }) (slice_get m.constraints c) (topic g) two listed) alike asked
asked_back m (Triple p x y z) r q None three of also alike asked = refl
asked_back m (Triple p x y z) r q (Some g) three of also alike asked =
    let s : Seq = record { 0 = p } in
    let u : Itv = record { 0 = x } in
    let v : Itv = record { 0 = y } in
    let w : Itv = record { 0 = z } in
    let here = three_true (has (members_of m s) u) (has (members_of m s) v) (has (members_of m s) w) three in
    let two = both_true (lists m (Triple p x y z) g) (is_open_end q g) asked in
    let both = circle_open m r q s u v w g of also (record { first = here.0; second = here.1; third = here.2 }) alike two.0 (both_true (admits q g) (is_end q (topic g)) two.1).0 in
    true_both (lists m (Triple p x y z) g) (is_open_end r g) two.0 (true_both (admits r g) (is_end r (topic g)) both.0 both.1)
asked_back m (Overload c s) r q guess here of also alike asked = cc
asked_back m (Edge c side i s u v) r q guess here of also alike asked = cc
asked_back m (NotEnd c side i s) r q guess here of also alike asked = cc
asked_back m (Detect c side i s) r q guess here of also alike asked = cc

-- so it stays silent
pub silent_kept : (m : Data) (w : SeqWitness) (r q : Region) (b c : Option ℤ) → are_members m w ≡ true → IsRegionOf m r → IsRegionOf m q → AreAlike (reads_of m w) r q → (IsTrue (reads_of m w).best → b ≡ c) → IsSilent m r b w → IsSilent m q c w
silent_kept m w r q b c here of also alike best silent guess asked =
    let before = asked_back m w r q guess here of also alike asked in
    sym (refuted_alike refutes m w (reads_of m w) r q b c guess (looks m w here) of also alike best (asked_admits (lists m w) r guess before) (asked_admits (lists m w) q guess asked)) ∙ silent guess before
