use Rattle.std.proofs.Common.{◌≡◌, ◌<◌, ◌≤◌, ◌+◌, sym, ap, subst, arith, inl, inr, get_or}
use Rattle.prop_sets.specs.code.Busy.{IsNextOf, name_at}
use Rattle.prop_sets.proofs.Naming.{one_nearer, one_farther}
use Rattle.prop_sets.proofs.answering.sooner.Goals as goal

pub returns-then-id-next : goal.returns-then-id-next
returns-then-id-next c = λ n old.
    let ms = c.args.members.now in
    let set = c.args.set.now in
    let same : c.member_at-id.result.0 ≡ name_at ms (get_or set c.args.j 0) = ap (λ i. i.0) c.member_at-id.ensures in
    subst (λ z. IsNextOf ms set (c.args.j + 1) c.args.from n z) (sym same)
    (one_nearer ms set c.args.j 0 c.args.from n c.args.next c.requires (subst (λ z. c.args.from ≤ z) same c.if-from-id.true) (subst (λ z. z < c.args.next) same c.if-id-next.true) old)

pub returns-else-from-id : goal.returns-else-from-id
returns-else-from-id c = λ n old.
    let ms = c.args.members.now in
    let set = c.args.set.now in
    let same : c.member_at-id.result.0 ≡ name_at ms (get_or set c.args.j 0) = ap (λ i. i.0) c.member_at-id.ensures in
    one_farther ms set c.args.j 0 c.args.from n c.args.next c.requires (λ a b. elim c.else-from-id.either [
      | inl both ↦ omega (arith, both.1, b, same)
      | inr low ↦ omega (arith, low, a, same)
    ]) old
