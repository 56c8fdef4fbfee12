-- An order that is guessed isn't told either way, nor is it one of an interval before itself.
use Rattle.std.specs.Prelude.{◌≡◌, true, ◌&&◌, nat_eq}
use Rattle.std.proofs.Common.{sym, ap, ◌∙◌, inl, inr}
use Rattle.std.proofs.lemmas.Bool.{true≢false}
use Rattle.sched_base.specs.declared.ids.Itv.{Itv}
use Rattle.sched_base.specs.declared.ids.Seq.{Seq}
use Rattle.sched_model.specs.Data.{Data, same}
use Rattle.region.specs.declared.types.Topic.TheVariants.{Two}
use Rattle.region.specs.Orders.{says_unknown}
use Rattle.region.specs.Cells.{Region, cells_of}
use Rattle.region.specs.Guesses.{admits_topic, assumed}
use Rattle.region.specs.Looks.{IsRegionOf}
use Rattle.region.specs.laws.Lists.{both_true}
use Rattle.region.specs.laws.OneSequence.{IsOpen, open_turned, same_self}
use Rattle.region.specs.laws.Pairs.{paired}
use Rattle.refute_basic.specs.Standing.{precedes}
use Rattle.prop_unary.specs.laws.Under.{precedes_under, order_forward}

-- an order that is open isn't told either way
open_untold : (r : Region) (p : Seq) (x y : Itv) → IsOpen (cells_of r p) x y → precedes r p x y ≡ true → ⊥
open_untold r p x y is_open h = true≢false (sym is_open.unknown ∙ ap says_unknown (order_forward r p x y h))

-- where the second is guessed to stand before the first, the first isn't told to stand before the second
pub not_turned : (m : Data) (r : Region) (p : Seq) (x y : Itv) → IsRegionOf m r → admits_topic r (Two p y x) ≡ true → precedes (assumed (Two p y x) r) p x y ≡ true → ⊥
not_turned m r p x y of free h =
    let is_open = (paired r p y x free).is_open in
    elim (precedes_under m r (Two p y x) p x y of free h) [
      | inl before ↦ open_untold r p x y (open_turned (cells_of r p) y x is_open) before
      | inr asks ↦ true≢false (sym (both_true (nat_eq p.0 p.0 && same x y) (same y x) asks).1 ∙ is_open.apart)
    ]

-- and nobody is guessed to stand before itself
pub not_itself : (r : Region) (p : Seq) (x : Itv) → admits_topic r (Two p x x) ≡ true → ⊥
not_itself r p x free = true≢false (sym (same_self x) ∙ (paired r p x x free).is_open.apart)
