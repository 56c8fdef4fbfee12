-- What stands at least of a shape, and the cases of POINT, one by one.
use Rattle.std.specs.Prelude.{◌≡◌, ℕ, ℤ, Bool, true, false, List}
use Rattle.std.proofs.Common.{sym, ap, ◌∙◌}
use Rattle.sched_base.specs.declared.ids.Itv.{Itv}
use Rattle.sched_model.specs.declared.types.Part.{Part}
use Rattle.sched_model.specs.declared.types.Shape.{Shape}
use Rattle.sched_model.specs.declared.types.Shape.TheVariants.{Step, PulseOf, StepAtStart, StepAtEnd}
use Rattle.region.specs.declared.types.Bounds.{Bounds}
use Rattle.region.specs.Cells.{Region}
use Rattle.refute_cumul.specs.code.Loads.{start_in, end_in, pulse_in, standing, is_over}
use Rattle.refute_cumul.specs.Point.{leaves}
use Rattle.refute_cumul.specs.laws.Loads.{leaves_is}

pub pulse_arm : (minus : Bool) (c : Bounds) (s z : Shape) (x : Itv) (h : ℤ) → s ≡ PulseOf x h → z ≡ pulse_in minus c h → z ≡ standing minus c s
pulse_arm minus c s z x h is same = same ∙ sym (ap (standing minus c) is)

pub start_arm : (minus : Bool) (c : Bounds) (s z : Shape) (x : Itv) (h u : ℤ) → s ≡ StepAtStart x h → u ≡ start_in minus c → z ≡ Step u h → z ≡ standing minus c s
start_arm minus c s z x h u is first same = same ∙ ap (λ y. Step y h) first ∙ sym (ap (standing minus c) is)

pub end_arm : (minus : Bool) (c : Bounds) (s z : Shape) (x : Itv) (h u : ℤ) → s ≡ StepAtEnd x h → u ≡ end_in minus c → z ≡ Step u h → z ≡ standing minus c s
end_arm minus c s z x h u is first same = same ∙ ap (λ y. Step y h) first ∙ sym (ap (standing minus c) is)

pub leaves_above : (r : Region) (is : List Part) (lo hi t : ℤ) (u : ℕ) (b : Bool) → u ≡ 0 → b ≡ is_over r is lo hi false t → b ≡ leaves r is lo hi u t
leaves_above r is lo hi t u b zero' h = h ∙ leaves_is r is lo hi false t ∙ ap (λ v. leaves r is lo hi v t) (sym zero')

pub leaves_below : (r : Region) (is : List Part) (lo hi t : ℤ) (u : ℕ) (b : Bool) → u ≡ 1 → b ≡ is_over r is lo hi true t → b ≡ leaves r is lo hi u t
leaves_below r is lo hi t u b one h = h ∙ leaves_is r is lo hi true t ∙ ap (λ v. leaves r is lo hi v t) (sym one)
