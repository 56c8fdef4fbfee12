-- Heights that fall along all arcs of a region are ready.
use Rattle.std.specs.Prelude.{◌≡◌, ◌*◌, ℤ, Bool, true, List, length}
use Rattle.std.proofs.Common.{subst}
use Rattle.sched_model.specs.Data.{Data}
use Rattle.region.specs.Cells.{Region}
use Rattle.region.specs.Looks.{Seen}
use Rattle.refute_basic.specs.laws.Walks.{AllLose}
use Rattle.prop_temporal.specs.code.Heights.{IsReady, height_in}

pub made_ready : (m : Data) (r : Region) (l s : Seen) (hs zs : List ℤ) (held : Bool) → length hs ≡ 2 * length r.bounds → zs ≡ hs → l ≡ s → s.region ≡ r → (held ≡ true → AllLose m l.region (height_in zs))
    → IsReady m r (record { heights = hs; held = held })
made_ready m r l s hs zs held size same look of fall = record {
  size = size;
  keep = λ yes. subst (λ (q : Region). AllLose m q (height_in hs)) of (subst (λ (t : Seen). AllLose m t.region (height_in hs)) look (subst (λ (xs : List ℤ). AllLose m l.region (height_in xs)) same (fall yes)));
}
