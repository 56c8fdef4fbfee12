use Rattle.std.proofs.Common.{◌≡◌, ℕ, ℤ, true, List, [], get_or, subst, sym, ap, ◌∙◌, rules}
use Rattle.std.proofs.lemmas.List.{get_or_default}
use Rattle.region.specs.Guesses.{with_guess}
use Rattle.region.specs.Looks.{Seen}
use Rattle.prop_temporal.specs.code.Heights.{Kept, OwnKeep}
use Rattle.prop_temporal.specs.laws.Quieting.{present_at}
use Rattle.prop_temporal.specs.laws.Elsewhere.{calm}
use Rattle.prop_temporal.proofs.walks.Walks.is_calm.Goals as goal

pub returns-clause-calm : goal.returns-clause-calm
returns-clause-calm c = λ yes.
    let m = c.args.model.now in
    let r = c.args.region.now.region in
    let inside : c.self.inside.held ≡ true = search rules in
    let held : c.args.self.now.held ≡ true = sym (ap (λ (w : Kept). w.held) c.self.view_is) ∙ inside in
    let heights : c.deref.result.now ≡ c.args.self.now.heights = c.deref.ensures.value ∙ ap (λ (w : Kept). w.heights) c.self.view_is in
    let constraints : c.as_slice-constraints.result.now ≡ get_or c.args.touching.now c.args.n [] = c.as_slice-constraints.ensures ∙ c.index-touching-n.is ∙ get_or_default c.args.touching.now c.args.n c.index-touching-n.result [] c.requires.within in
    calm m r c.args.best (record { 0 = c.args.n }) c.args.touching.now c.args.self.now.heights c.requires.of c.requires.touching c.requires.admitted
    (c.requires.ready.keep held)
    (subst (λ (hs : List ℤ). OwnKeep m (with_guess (present_at c.args.n) r) c.args.n (get_or c.args.touching.now c.args.n []) hs) heights
    (subst (λ (cs : List ℕ). OwnKeep m (with_guess (present_at c.args.n) r) c.args.n cs c.deref.result.now) constraints
    (subst (λ (l : Seen). OwnKeep m l.region c.args.n c.as_slice-constraints.result.now c.deref.result.now) c.look-look.ensures.value (c.in_ok-calm.ensures yes))))
