use Rattle.std.proofs.Common.{◌≡◌, ◌⊎◌, List, ℕ, subst, true, false}
use Rattle.std.specs.Prelude.{IfSome}
use Rattle.task_sets.specs.Times.{has}
use Rattle.prop_sets.proofs.Shown.{over_shown}
use Rattle.prop_sets.proofs.passes.shown_overload.Goals as goal

pub returns : goal.returns
returns c = over_shown c.args.rows.now c.args.with c.in_ok-set.set.items c.place_in-place.result c.requires.found c.in_ok-set.ensures
    (subst (λ (l : List ℕ). has l c.place_in-place.result ≡ true) c.deref.ensures.value c.place_in-place.ensures.there)
    (subst (λ (l : List ℕ). IfSome c.args.with (λ k. (c.place_in-place.result ≡ k) ⊎ (has l k ≡ false))) c.deref.ensures.value c.place_in-place.ensures.which)
