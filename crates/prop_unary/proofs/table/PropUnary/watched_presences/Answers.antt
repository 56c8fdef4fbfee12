use Rattle.std.proofs.Common.{◌≡◌, ◌∙◌, ◌<◌, [], length, slice_index_or, ap, arith, rules}
use Rattle.std.proofs.lemmas.List.{get_or_default}
use Rattle.prop_unary.specs.code.Tasks.{size_of}
use Rattle.prop_unary.proofs.Watching.{presence_watched}
use Rattle.prop_unary.proofs.table.PropUnary.watched_presences.Goals as goal

pub returns : goal.returns
returns c = λ m of.
    let one = c.requires.1.members.size in
    let other = of.members.size in
    let below = c.requires.2 in
    let within : c.args.k < size_of m = omega (arith, one, other, below) in
    let size : length c.self.inside.members.items ≡ length c.args.self.now.members = ap (λ t. length t.members) c.self.view_is in
    let at : c.index.result.now ≡ slice_index_or c.args.self.now.members c.args.k [] =
    c.index.ensures ∙ get_or_default c.self.inside.members.items c.args.k c.index.result.now [] (omega (arith, size, within, other)) ∙ ap (λ t. slice_index_or t.members c.args.k []) c.self.view_is in
    let read : c.as_slice.result.now ≡ c.index.result.now = search rules in
    presence_watched m c.args.k c.as_slice.result.now (read ∙ at ∙ of.members.each c.args.k within)
