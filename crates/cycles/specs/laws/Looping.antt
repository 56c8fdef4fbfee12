-- The arcs between two nodes of one point are a closed walk, and it gains what the later node is above the earlier.
use Rattle.std.specs.Prelude.{◌≡◌, ℕ, ◌<◌, ◌≤◌, ℤ, pos, ◌+ℤ◌, ◌<ℤ◌, true, List, [], ◌∷◌, ◌++◌, length, nat_eq}
use Rattle.std.proofs.Common.{refl, sym, ap, subst, ◌∙◌, arith}
use Rattle.std.proofs.lemmas.Int.{ints}
use Rattle.std.proofs.lemmas.List.{length_push}
use Rattle.refute_basic.specs.declared.edge.Arc.{Arc}
use Rattle.cycles.specs.code.Walks.{arc_at, picked, leads, is_closed, total, IsGain}
use Rattle.cycles.specs.code.Search.{Search, node_at, IsSearch}
use Rattle.cycles.specs.code.Ways.{Reach, Reach.there, Reach.further, IsLoop, IsRead, IsReading}
use Rattle.cycles.specs.laws.Walking.{same_nat, leads_more, total_more, picked_more, places_more}
use Rattle.std.proofs.lemmas.Bool.{and_parts}

-- walks lead to earlier nodes
pub reach_falls : (arcs : List Arc) (n : ℕ) (s : Search) (to k : ℕ) → IsSearch arcs n s → Reach s.nodes n to k → to ≤ k
reach_falls arcs n s to k is there = omega arith
reach_falls arcs n s to k is (further some within rest) = omega (arith, reach_falls arcs n s to _ is rest, (is.links k some within).next)

pub read_more : (arcs : List Arc) (n : ℕ) (s : Search) (from to : ℕ) (walk : List ℕ) (y : ℕ) → IsSearch arcs n s
    → IsReading arcs s.nodes n from to walk y → IsRead arcs s.nodes from (walk ++ (node_at s.nodes y).via ∷ []) (node_at s.nodes y).next
read_more arcs n s from to walk y is reading =
    let t = reading.read in
    let link = is.links y reading.some reading.within in
    let b = arc_at arcs (node_at s.nodes y).via in
    let grown = picked_more arcs walk (node_at s.nodes y).via in
    record {
      places = places_more arcs walk (node_at s.nodes y).via t.places link.via;
      leads = subst (λ (bs : List Arc). leads (node_at s.nodes from).point bs (node_at s.nodes (node_at s.nodes y).next).point ≡ true) (sym grown)
          (leads_more (picked arcs walk) b (node_at s.nodes from).point (node_at s.nodes (node_at s.nodes y).next).point (subst (λ (p : ℕ). leads (node_at s.nodes from).point (picked arcs walk) p ≡ true) link.tail t.leads) (sym link.head));
      value = sums (total (picked arcs (walk ++ (node_at s.nodes y).via ∷ []))) (total (picked arcs walk)) b.weight (node_at s.nodes (node_at s.nodes y).next).value (node_at s.nodes y).value _
          (ap total grown ∙ total_more (picked arcs walk) b) link.value t.value;
      few = omega (arith, length_push walk (node_at s.nodes y).via, t.few, link.len);
    }
  where
    sums : (t' t w v' v r : ℤ) → t' ≡ t +ℤ w → v ≡ w +ℤ v' → t +ℤ v ≡ r → t' +ℤ v' ≡ r
    sums t' t w v' v r e f g = omega (arith, ints, e, f, g)

-- where the next node is not the last one, the walk goes on
pub reads_on : (arcs : List Arc) (n : ℕ) (s : Search) (from to : ℕ) (walk : List ℕ) (y : ℕ) → IsSearch arcs n s
    → ((node_at s.nodes y).next ≡ to → ⊥) → IsReading arcs s.nodes n from to walk y → IsReading arcs s.nodes n from to (walk ++ (node_at s.nodes y).via ∷ []) (node_at s.nodes y).next
reads_on arcs n s from to walk y is other reading = by_case (node_at s.nodes y).next reading.on other (read_more arcs n s from to walk y is reading)
  where
    by_case : (z : ℕ) → Reach s.nodes n to z → (z ≡ to → ⊥) → IsRead arcs s.nodes from (walk ++ (node_at s.nodes y).via ∷ []) z → IsReading arcs s.nodes n from to (walk ++ (node_at s.nodes y).via ∷ []) z
    by_case z there other read = absurd (other refl)
    by_case z (further some within rest) other read = record { read = read; some = some; within = within; on = rest }

closes : (bs : List Arc) (from to : ℕ) → 0 < length bs → leads from bs to ≡ true → to ≡ from → is_closed bs ≡ true
closes [] from to some lead e = absurd (omega (arith, some))
closes (b ∷ bs) from to some lead e =
    let two = and_parts (nat_eq from b.tail) (leads b.head bs to) lead in
    subst (λ (p : ℕ). leads b.head bs p ≡ true) (e ∙ same_nat from b.tail two.0) two.1

pub read_gains : (arcs : List Arc) (n : ℕ) (s : Search) (from to : ℕ) (walk : List ℕ) → IsSearch arcs n s → IsLoop s.nodes n from to → 0 < length walk → IsRead arcs s.nodes from walk to → IsGain arcs n walk
read_gains arcs n s from to walk is loops some t = record {
  places = t.places;
  closed = closes (picked arcs walk) (node_at s.nodes from).point (node_at s.nodes to).point (counted walk some) t.leads loops.same;
  positive = gains (total (picked arcs walk)) (node_at s.nodes to).value (node_at s.nodes from).value t.value
      (is.rising to from (omega (arith, reach_falls arcs n s to _ is loops.on, (is.links from loops.some loops.within).next)) loops.within loops.same);
  few = omega (arith, t.few, is.few from loops.within);
}
  where
    counted : (is : List ℕ) → 0 < length is → 0 < length (picked arcs is)
    counted [] h = h
    counted (j ∷ is) h = omega arith

    gains : (t v r : ℤ) → t +ℤ v ≡ r → v <ℤ r → pos 0 <ℤ t
    gains t v r e l = omega (arith, ints, e, l)
