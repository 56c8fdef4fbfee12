use Rattle.std.proofs.Common.{◌+◌, ap, sym, ◌∙◌, refl, length, flat_map, arith}
use Rattle.std.proofs.lemmas.List.{at_drop_all}
use Rattle.cpo_elab.specs.Elaborated.{plain_parts, parts_signed}
use Rattle.cpo_elab.specs.code.Drafts.{capped}
use Rattle.cpo_elab.proofs.adding.Capped.{plus_more, first_parts, parts_turn}
use Rattle.cpo_elab.proofs.counts.parts_count.Goals as goal

pub loop-s-init : goal.loop-s-init
loop-s-init c = (length (plain_parts c.args.draft.now c.args.c.now.first.part), c.part_count-total.ensures, sym (first_parts c.args.draft.now c.args.c.now.first _ c.args.c.now.more refl))

pub loop-s-preserved : goal.loop-s-preserved
loop-s-preserved c =
    let test = rw c.as_slice-s-items.ensures at c.loop-s-test.true in
    let item = rw c.as_slice-s-items.ensures at c.s-item.is in
    let turn = parts_turn c.args.draft.now c.args.c.now.more c.loop-s.s-index c.s-item.result test item in (
      c.loop-s.invariant.0 + length (plain_parts c.args.draft.now c.s-item.result.part),
      plus_more _ _ c.loop-s.invariant.0 (length (plain_parts c.args.draft.now c.s-item.result.part)) _ c.loop-s.invariant.1 c.part_count.ensures c.plus-total.ensures,
      omega (arith, c.loop-s.invariant.2, turn),
    )

pub returns : goal.returns
returns c =
    let test = rw c.as_slice-s-items.ensures at c.loop-s-test.false in
    let end = at_drop_all (λ ys. length (flat_map (parts_signed c.args.draft.now) ys)) c.args.c.now.more c.loop-s.s-index test in
    c.loop-s.invariant.1 ∙ ap capped (omega (arith, c.loop-s.invariant.2, end))
