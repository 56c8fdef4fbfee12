use Rattle.std.proofs.Common.{◌≡◌, ℕ, List, [], ◌∷◌, ◌++◌, ap, ◌∙◌, rules}
use Rattle.std.specs.Prelude.{slice_set}
use Rattle.std.proofs.lemmas.List.{get_or_read}
use Rattle.engine.specs.code.Noted.{noted_at}
use Rattle.engine.proofs.Noting.{noted_push}
use Rattle.engine.proofs.watchers.note.Goals as goal

pub returns : goal.returns
returns c =
    let lists = c.pad.new.lists.items in
    let value : c.index_mut.result.now ≡ noted_at lists c.args.at = get_or_read lists _ _ (search rules) c.index_mut.ensures.value [] in
    noted_push c.args.lists.now.items lists (slice_set lists c.args.at c.push.new.self) c.args.at c.args.k c.in_ok-pad.ensures.same (search rules)
    (ap (λ (l : List ℕ). slice_set lists c.args.at l) (c.in_ok-push.ensures.ok ∙ ap (λ (l : List ℕ). l ++ c.args.k ∷ []) value))
