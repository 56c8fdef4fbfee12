use Rattle.std.proofs.Common.{[], ◌∷◌, refl}
use Rattle.logtext.specs.Spelling.{member_word}
use Rattle.logtext.proofs.Spaced.{all_put, as_map, last_word, none_so_far, one_more, stops_at}
use Rattle.logtext.proofs.writer.LogWriter.put_members.Goals as goal

pub loop-x-init : goal.loop-x-init
loop-x-init g c = none_so_far (λ x. member_word x ∷ []) c.args.members.now

pub returns-in_err-put_number : goal.returns-in_err-put_number
returns-in_err-put_number g c =
    as_map member_word c.args.members.now
    (stops_at (λ x. member_word x ∷ []) c.args.members.now c.loop-x.x-index _ _ c.loop-x-test.true refl c.from_residual.ensures.0 c.loop-x.invariant (last_word c.in_err-put_number.ensures))

pub loop-x-preserved : goal.loop-x-preserved
loop-x-preserved g c = one_more (λ x. member_word x ∷ []) c.args.members.now c.loop-x.x-index _ _ c.loop-x-test.true refl c.loop-x.invariant (last_word c.in_ok-put_number.ensures)

pub returns : goal.returns
returns g c = as_map member_word c.args.members.now (all_put (λ x. member_word x ∷ []) c.args.members.now c.loop-x.x-index c.loop-x-test.false c.loop-x.invariant)
