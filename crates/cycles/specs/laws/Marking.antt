-- Reading the walk of a node until a point comes again, as it does where the walk has as many arcs as there are points.
use Rattle.std.specs.Prelude.{◌≡◌, ℕ, zero, suc, ◌<◌, ◌≤◌, Bool, true, false, ◌||◌, List, [], ◌∷◌, ◌++◌, get_or, slice_set, length, nat_eq}
use Rattle.std.specs.List.{IsDistinct, AllByRecursion}
use Rattle.std.proofs.Common.{inl, inr, refl, sym, ap, subst, ◌∙◌, arith}
use Rattle.std.proofs.lemmas.Bool.Decides.{nat_tests}
use Rattle.std.proofs.lemmas.List.{get_or-set_same, get_or-set_other, length-set}
use Rattle.std.proofs.lemmas.Map.Steps.{length-le_from_distinct_below}
use Rattle.refute_basic.specs.declared.edge.Arc.{Arc}
use Rattle.cycles.specs.declared.node.Node.{Node}
use Rattle.cycles.specs.code.Search.{Search, node_at, IsSearch}
use Rattle.cycles.specs.code.Ways.{Reach, Reach.there, Reach.further, is_in, AreDistinct, IsMark, IsMarked}
use Rattle.cycles.specs.laws.Pushed.{same_or_not}
use Rattle.std.proofs.lemmas.Bool.{or_parts}

none_same : (p : ℕ) (ps : List ℕ) → is_in p ps ≡ false → AllByRecursion (λ q. nat_eq p q ≡ false) ps
none_same p [] h = tt
none_same p (q ∷ ps) h = let two = or_parts (nat_eq p q) (is_in p ps) h in (two.0, none_same p ps two.1)

distinct : (ps : List ℕ) → AreDistinct ps → IsDistinct nat_eq ps
unfolding IsDistinct
distinct [] h = tt
distinct (p ∷ ps) h = (none_same p ps h.0, distinct ps h.1)

-- one more step of a walk at its end
pub reach_more : (nodes : List Node) (n y k : ℕ) → n ≤ y → y < length nodes → Reach nodes n y k → Reach nodes n (node_at nodes y).next k
reach_more nodes n y k some within there = further some within there
reach_more nodes n y k some within (further from less rest) = further from less (reach_more nodes n y _ some within rest)

pub marked_first : (nodes : List Node) (n k : ℕ) (seen : List ℕ) → k < length nodes → length seen ≡ n → ((v : ℕ) → get_or seen v 0 ≡ 0) → IsMarked nodes n k seen k
marked_first nodes n k seen within room none = record {
  within = within;
  room = room;
  marks = λ v less some. absurd (some (none v));
  points = [];
  distinct = tt;
  below = λ q h. absurd (no_truth h);
  marked = λ q h. absurd (no_truth h);
  size = omega arith;
}
  where
    no_truth : false ≡ true → ⊥
    no_truth h = cc

-- a point that isn't marked is none of those that came
unmarked : (seen : List ℕ) (q : ℕ) (b : Bool) → (b ≡ true → get_or seen q 0 ≡ 0 → ⊥) → get_or seen q 0 ≡ 0 → b ≡ false
unmarked seen q true marked none = absurd (marked refl none)
unmarked seen q false marked none = refl

same_point : (q p : ℕ) → nat_eq q p ≡ true → q ≡ p
same_point q p h = grind (arith, nat_tests)

either : {Z : Type 0} (q p : ℕ) (b : Bool) → (nat_eq q p || b) ≡ true → (q ≡ p → Z) → (b ≡ true → Z) → Z
either {Z = Z} q p b h first rest = by_case (nat_eq q p) refl h
  where
    by_case : (c : Bool) → nat_eq q p ≡ c → (c || b) ≡ true → Z
    by_case true is h = first (same_point q p is)
    by_case false is h = rest h

pub marked_more : (arcs : List Arc) (n : ℕ) (s : Search) (k : ℕ) (seen : List ℕ) (y : ℕ) → IsSearch arcs n s → n ≤ y → 0 < y → get_or seen (node_at s.nodes y).point 0 ≡ 0 → IsMarked s.nodes n k seen y
    → IsMarked s.nodes n k (slice_set seen (node_at s.nodes y).point y) (node_at s.nodes y).next
marked_more arcs n s k seen y is some more_than_0 none m =
    let link = is.links y some m.within in
    let p = (node_at s.nodes y).point in
    let less : p < n = is.points y m.within in
    let here : get_or (slice_set seen p y) p 0 ≡ y = get_or-set_same seen p y 0 (omega (arith, less, m.room)) in
    let elsewhere : (v : ℕ) → (v ≡ p → ⊥) → get_or (slice_set seen p y) v 0 ≡ get_or seen v 0 = λ v other. get_or-set_other seen p v y 0 other in
    record {
      within = omega (arith, link.next, m.within);
      room = length-set seen p y ∙ m.room;
      marks = λ v v_less marked. elim (same_or_not v p) [
        | inl e ↦ subst (IsMark s.nodes n (node_at s.nodes y).next v) (sym (ap (λ (u : ℕ). get_or (slice_set seen p y) u 0) e ∙ here)) (record { some = some; within = m.within; on = there; point = sym e })
        | inr other ↦ subst (IsMark s.nodes n (node_at s.nodes y).next v) (sym (elsewhere v other)) (on v (m.marks v v_less (λ h. marked (elsewhere v other ∙ h))))
      ];
      points = p ∷ m.points;
      distinct = (unmarked seen p (is_in p m.points) (m.marked p) none, m.distinct);
      below = λ q h. either q p (is_in q m.points) h (λ e. subst (λ (u : ℕ). u < n) (sym e) less) (m.below q);
      marked = λ q h. elim (same_or_not q p) [
        | inl e ↦ λ zero. absurd (omega (arith, more_than_0, sym here ∙ ap (λ (u : ℕ). get_or (slice_set seen p y) u 0) (sym e) ∙ zero))
        | inr other ↦ λ zero. either q p (is_in q m.points) h other (λ came. m.marked q came (sym (elsewhere q other) ∙ zero))
      ];
      size = omega (arith, m.size, link.len);
    }
  where
    on : (v : ℕ) → IsMark s.nodes n y v (get_or seen v 0) → IsMark s.nodes n (node_at s.nodes y).next v (get_or seen v 0)
    on v mark = record { some = mark.some; within = mark.within; on = reach_more s.nodes n y _ some m.within mark.on; point = mark.point }

-- where the walk ends, each of its points came once, and they are few
pub marked_end : (arcs : List Arc) (n : ℕ) (s : Search) (k : ℕ) (seen : List ℕ) (y : ℕ) → IsSearch arcs n s → y < n → get_or seen (node_at s.nodes y).point 0 ≡ 0 → IsMarked s.nodes n k seen y → (node_at s.nodes k).len < n
marked_end arcs n s k seen y is first none m =
    let p = (node_at s.nodes y).point in
    let new : is_in p m.points ≡ false = unmarked seen p (is_in p m.points) (m.marked p) none in
    let few = length-le_from_distinct_below (p ∷ m.points) n (distinct (p ∷ m.points) (new, m.distinct)) (λ q h. either q p (is_in q m.points) h (λ e. subst (λ (u : ℕ). u < n) (sym e) (is.points y m.within)) (m.below q)) in
    omega (arith, few, m.size, is.starts y first)

-- more points that aren't seen
pub blank_more : (seen : List ℕ) → ((v : ℕ) → get_or seen v 0 ≡ 0) → (v : ℕ) → get_or (seen ++ 0 ∷ []) v 0 ≡ 0
blank_more [] none zero = refl
blank_more [] none (suc v) = refl
blank_more (x ∷ xs) none zero = none 0
blank_more (x ∷ xs) none (suc v) = blank_more xs (λ u. none (suc u)) v
