use Rattle.std.proofs.Common.{◌≡◌, refl, sym, arith, ◌∙◌}
use Rattle.cpo_text.specs.Runs.{ended}
use Rattle.cpo_text.specs.code.Lexing.{tokens_from}
use Rattle.cpo_text.proofs.pieces.Walks.{part_of}
use Rattle.cpo_text.proofs.pieces.Scans.{turn_of, reach_turn, count_turn, rest_at_end, bad_here, none_ended}
use Rattle.cpo_text.proofs.scan.scan.Goals as goal

pub returns-in-None-clause-err : goal.returns-in-None-clause-err
returns-in-None-clause-err c =
    let zero = none_ended c.args.text.now _ c.loop-at.at c.split_at.ensures.back c.in-None.ensures in
    let count : c.loop-at.ended ≡ ended (tokens_from 0 c.args.text.now) = omega (arith, zero, c.loop-at.invariant.count) in
    (rw count refl, sym c.loop-at.invariant.reach ∙ bad_here c.args.text.now _ c.loop-at.at c.split_at.ensures.back c.in-None.ensures, c.loop-at-test.true)

pub split_at-requires-in-Some : goal.split_at-requires-in-Some
split_at-requires-in-Some c = let part = part_of _ _ _ (sym c.in-Some.ensures) in part.within

pub loop-at-smaller : goal.loop-at-smaller
loop-at-smaller c = let part = part_of _ _ _ (sym c.in-Some.ensures) in omega arith

pub loop-at-preserved : goal.loop-at-preserved
loop-at-preserved c =
    let part = part_of _ _ _ (sym c.in-Some.ensures) in
    let turn = turn_of c.args.text.now _ _ c.loop-at.at _ _ c.split_at.ensures.back c.in-Some.ensures c.split_at-in-Some.ensures.front in
    record {
      reach = sym (reach_turn _ _ _ _ _ turn) ∙ c.loop-at.invariant.reach;
      count = omega (arith, count_turn _ _ _ _ _ turn, c.semicolons-ended.ensures.count, c.loop-at.invariant.count);
      within = omega (arith, c.split_at.ensures.back_len);
      few = omega (arith, c.semicolons-ended.ensures.most, part.some);
    }

pub returns-clause-ok : goal.returns-clause-ok
returns-clause-ok c = sym c.loop-at.invariant.reach ∙ rest_at_end c.args.text.now c.loop-at.at c.loop-at-test.false
