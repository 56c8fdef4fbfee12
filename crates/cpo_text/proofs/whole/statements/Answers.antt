use Rattle.std.proofs.Common.{◌-◌, ◌∙◌, length, suc, refl, ap, arith}
use Rattle.cpo_text.specs.code.Places.{left}
use Rattle.cpo_text.specs.Reads.{told_limit}
use Rattle.cpo_text.proofs.stating.Forms.{readings_start, readings_turn, length-push, readings_on, readings_end, readings_full, behind_fewer}
use Rattle.cpo_text.proofs.whole.statements.Goals as goal

pub loop-token-init : goal.loop-token-init
loop-token-init c =
    let none = ap length c.requires.none in
    record { room = omega arith; rest = λ n more enough rest. readings_start n _ _ _ more c.requires.none (omega arith) (c.onto-here.ensures ∙ c.start.ensures) rest }

pub loop-token-smaller : goal.loop-token-smaller
loop-token-smaller c = behind_fewer _ _ _ _ c.in-Some.ensures.tokens (c.onto-here-in-Some.ensures ∙ c.in_ok-form.ensures.behind)

pub loop-token-preserved : goal.loop-token-preserved
loop-token-preserved c =
    let size = length-push _ _ _ c.in_ok-push.ensures.ok in
    record {
      room = omega arith;
      rest = λ n more enough rest.
          readings_on _ _ _ _ more c.in_ok-push.ensures.ok
          (c.loop-token.invariant.rest (suc n) _ (omega arith) (readings_turn n _ _ _ _ _ more c.in-Some.ensures.tokens (c.onto-here-in-Some.ensures ∙ c.in_ok-form.ensures.behind) refl c.in_ok-form.ensures.form rest));
    }

pub returns-then-len-ge-TOLD_LIMIT : goal.returns-then-len-ge-TOLD_LIMIT
returns-then-len-ge-TOLD_LIMIT c = readings_full _ (left c.loop-token.here) _ (c.loop-token.invariant.rest 0 _ (omega arith))

pub returns : goal.returns
returns c =
    let room = c.loop-token.invariant.room in
    readings_end _ (told_limit - length c.loop-token.readings) _ _ c.in_default.ensures.tokens (c.loop-token.invariant.rest _ _ (omega arith))
