use Rattle.std.specs.Prelude.{codes, ◌∷◌, []}
use Rattle.std.specs.Fmt.{decimal}
use Rattle.reasons.proofs.Pushed.{seven}
use Rattle.reasons.proofs.texts.push_refusal.Goals as goal

pub returns : goal.returns
returns c =
    seven _ _ _ _ _ (codes "model refused ") (decimal c.args.r.number) (codes " statement ") (decimal c.args.r.statement) (codes " at ") (decimal c.args.r.at) (10 ∷ [])
    (rw c.from.ensures at c.in_ok-push_told.ensures) (rw c.from-2.ensures at c.in_ok-push_told-2.ensures) c.in_ok-push_told-3.ensures c.in_ok-extend_from_slice.ensures.items
