-- Two members of a sequence stand alike in regions that tell the same of them.
use Rattle.std.specs.Prelude.{◌≡◌, Bool, true, false}
use Rattle.std.proofs.Common.{refl, sym, ap, ◌∙◌}
use Rattle.sched_base.specs.declared.ids.Itv.{Itv}
use Rattle.sched_base.specs.declared.ids.Seq.{Seq}
use Rattle.region.specs.Orders.{known_order, order_in, says_forward}
use Rattle.region.specs.Cells.{Region, bounds_of, cells_of, is_there, says_present}
use Rattle.refute_basic.specs.Standing.{precedes, stand}

-- the same is known of the presence of an interval, or of the order of two, in two regions
abbrev pub SamePresence : Region → Region → Itv → Type 0
SamePresence r q x = (bounds_of r x).presence ≡ (bounds_of q x).presence

abbrev pub SameOrder : Region → Region → Seq → Itv → Itv → Type 0
SameOrder r q p x y = order_in (cells_of r p) x y ≡ order_in (cells_of q p) x y

there_alike : (r q : Region) (x : Itv) → SamePresence r q x → is_there r x ≡ is_there q x
there_alike r q x h = ap says_present h

forward_is : (b c : Bool) → b ≡ says_forward (known_order b c)
forward_is true c = refl
forward_is false true = refl
forward_is false false = refl

pub precedes_alike : (r q : Region) (p : Seq) (x y : Itv) → SameOrder r q p x y → precedes r p x y ≡ precedes q p x y
precedes_alike r q p x y h = forward_is (precedes r p x y) (precedes r p y x) ∙ ap says_forward h ∙ sym (forward_is (precedes q p x y) (precedes q p y x))

-- two members are as present, and stand alike
pub record SameTwo (r q : Region) (p : Seq) (x y : Itv) : Type 0 where
  pub first : SamePresence r q x
  pub second : SamePresence r q y
  pub order : SameOrder r q p x y

pub stand_alike : (r q : Region) (p : Seq) (x y : Itv) → SameTwo r q p x y → stand r p x y ≡ stand q p x y
stand_alike r q p x y h = rw (there_alike r q x h.first, there_alike r q y h.second, precedes_alike r q p x y h.order) refl
