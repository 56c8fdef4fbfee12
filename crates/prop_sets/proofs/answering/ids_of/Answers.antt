use Rattle.std.proofs.Common.{◌≡◌, [], ◌∷◌, ◌++◌, sym, subst, rules}
use Rattle.prop_sets.proofs.Naming.{ArePicked, first_next, next_picked}
use Rattle.prop_sets.proofs.answering.ids_of.Goals as goal

pub loop-x-init : goal.loop-x-init
loop-x-init c =
    let ms = c.args.members.now in
    let set = c.args.set.now in
    let empty : c.new-ids.result ≡ [] = search rules in
    subst (λ l. ArePicked ms set c.args.n c.next_id-x.result l) (sym empty) (first_next ms set c.args.n c.next_id-x.result c.next_id-x.ensures)

pub loop-x-preserved : goal.loop-x-preserved
loop-x-preserved c =
    let ms = c.args.members.now in
    let set = c.args.set.now in
    let pushed : c.push.new.self ≡ c.loop-x.ids ++ c.loop-x.x ∷ [] = search rules in
    subst (λ l. ArePicked ms set c.args.n c.next_id-x-in-loop-x.result l) (sym pushed)
    (next_picked ms set c.loop-x.ids c.args.n c.loop-x.x c.next_id-x-in-loop-x.result c.loop-x-test.true c.next_id-x-in-loop-x.ensures c.loop-x.invariant)
