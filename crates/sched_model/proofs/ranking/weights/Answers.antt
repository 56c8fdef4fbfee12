use Rattle.std.proofs.Common.{rules, ◌≡◌, ◌∙◌, ◌+◌, ◌++◌, ◌∷◌, [], sym, ap, subst, drop, option_map, to_z, of_z}
use Rattle.std.specs.Int.{w64}
use Rattle.std.proofs.lemmas.List.{take_rest}
use Rattle.sched_model.specs.code.Ranks.{front_weight, weights_of}
use Rattle.sched_model.proofs.Building.{weights_turn}
use Rattle.sched_model.proofs.ranking.weights.Goals as goal

pub loop-i-preserved : goal.loop-i-preserved
loop-i-preserved c =
    let m = c.args.model.now in
    let es = c.args.es.now in
    let e : to_z w64 (of_z w64 c.in-Some.w) ≡ c.in-Some.w = search rules in
    subst (λ xs. option_map (λ ws. xs ++ ws) (weights_of m (drop (c.loop-i.i + 1) es)) ≡ weights_of m es) (sym (c.in_ok-push.ensures.items ∙ ap (λ z. c.loop-i.found.items ++ z ∷ []) e))
    (weights_turn m c.loop-i.found.items es c.loop-i.i _ _ c.loop-i.invariant c.loop-i-test.true (c.in-Some.ensures ∙ ap (front_weight m) (take_rest es c.loop-i.i)))
