use Rattle.std.specs.Prelude.{codes, ◌∷◌, []}
use Rattle.std.specs.Fmt.{decimal}
use Rattle.base_laws.specs.laws.Lists.{three_in_row}
use Rattle.given_files.proofs.telling.refusal_text.Goals as goal

pub returns : goal.returns
returns c = three_in_row (codes "model refused ") (decimal c.args.r.number) (codes " statement ") (decimal c.args.r.statement) (codes " at ") (decimal c.args.r.at) (10 ∷ []) _ _ _ _ _
    c.new-bytes.ensures.items (rw c.from.ensures at c.in_ok-push_told.ensures) (rw c.from-2.ensures at c.in_ok-push_told-2.ensures) c.in_ok-push_told-3.ensures c.in_ok-extend_from_slice.ensures.items
