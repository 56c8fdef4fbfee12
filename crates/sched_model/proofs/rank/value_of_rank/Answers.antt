use Rattle.std.proofs.Common.{rules, ◌≡◌, ◌∙◌, sym, ap, subst, ◌+◌, ◌<◌, drop, to_z, of_z}
use Rattle.std.specs.Prelude.{nat_abs}
use Rattle.std.specs.Int.{w64, int_gap}
use Rattle.std.proofs.lemmas.List.{take_rest}
use Rattle.sched_model.specs.Hull.{hull_of}
use Rattle.sched_model.specs.code.Ranks.{weight_of}
use Rattle.sched_model.proofs.Digits.{hull_missing, some_weight, place_is}
use Rattle.sched_model.proofs.rank.value_of_rank.Goals as goal

pub unreachable-requires : goal.unreachable-requires
unreachable-requires c = hull_missing c.args.model.now c.args.criteria.now c.args.i _ c.requires.hulls c.requires.there (ap (hull_of c.args.model.now) (sym c.index-criteria-i.is) ∙ sym c.hull.ensures ∙ c.in_default.is)

pub in_range-requires : goal.in_range-requires
in_range-requires c =
    let e : to_z w64 (of_z w64 c.in-Some-weight.weight) ≡ c.in-Some-weight.weight = search rules in
    subst (λ z. 0 < nat_abs z) (sym e) (some_weight c.args.model.now (drop (c.args.i + 1) c.args.criteria.now) c.in-Some-weight.weight (c.in-Some-weight.ensures ∙ ap (weight_of c.args.model.now) (take_rest c.args.criteria.now (c.args.i + 1))))

pub returns : goal.returns
returns c =
    let value : to_z w64 (of_z w64 c.in_range.result) ≡ c.in_range.result = search rules in
    let low : to_z w64 (of_z w64 c.args.low) ≡ c.args.low = search rules in
    let v : to_z w64 (of_z w64 c.args.v) ≡ c.args.v = search rules in
    let above = c.above.ensures ∙ ap (λ x. int_gap x (to_z w64 (of_z w64 c.args.v))) low ∙ ap (int_gap c.args.low) v in
    value ∙ place_is c.args.model.now c.args.criteria.now c.args.low c.args.v c.args.i _ c.in-Some.r c.in-Some-weight.weight c.in_range.result c.above.result c.requires.there c.requires.hulls
    (c.in-Some.ensures ∙ ap (hull_of c.args.model.now) c.index-criteria-i.is) (c.in-Some-weight.ensures ∙ ap (weight_of c.args.model.now) (take_rest c.args.criteria.now (c.args.i + 1))) above (search rules)
