use Rattle.std.proofs.Common.{◌≡◌, ◌+◌, true, false, not, length, get_or, sym, ap, ◌∙◌, arith}
use Rattle.std.specs.List.{count_by}
use Rattle.std.proofs.lemmas.List.{length_push}
use Rattle.std.proofs.lemmas.List.Sums.{count_by_more_yes, count_by_more_no}
use Rattle.cpo_elab.proofs.named.Tables.{room, pushed_named, pushed_other}
use Rattle.cpo_elab.proofs.named_first.new_places.Goals as goal

pub loop-item-preserved-then-is_named : goal.loop-item-preserved-then-is_named
loop-item-preserved-then-is_named g c =
    let p = g.T.MayHaveName.is_named in
    let xs = c.args.items.now in
    let n = c.loop-item.item-index in
    let before = c.loop-item.invariant in
    let holds : p c.item-item.result ≡ true = sym c.is_named.ensures ∙ c.if-is_named.true in
    let here = sym (ap p c.item-item.is) ∙ holds in
    let put = c.in_ok-push.ensures.ok in
    record {
      named = ap (λ k. k + 1) before.named ∙ sym (count_by_more_yes p xs n c.item-item.result c.loop-item-test.true here);
      others = before.others ∙ ap (λ k. count_by p xs + k) (sym (count_by_more_no (λ x. not (p x)) xs n c.item-item.result c.loop-item-test.true (ap not here)));
      long = ap length put ∙ length_push c.loop-item.places c.loop-item.named ∙ ap (λ k. k + 1) before.long;
      same = λ i below. ap (λ ys. get_or ys i 0) put ∙ pushed_named p xs c.loop-item.places n c.loop-item.named c.item-item.result c.loop-item-test.true c.item-item.is holds before.long before.same before.named i below;
    }

pub overflow_add-others : goal.overflow_add-others
overflow_add-others g c =
    let fails : g.T.MayHaveName.is_named c.item-item.result ≡ false = sym c.is_named.ensures ∙ c.if-is_named.false in
    omega (arith, room g.T.MayHaveName.is_named c.args.items.now c.loop-item.item-index c.item-item.result c.loop-item-test.true c.item-item.is fails, c.loop-item.invariant.others, c.requires)

pub loop-item-preserved : goal.loop-item-preserved
loop-item-preserved g c =
    let p = g.T.MayHaveName.is_named in
    let xs = c.args.items.now in
    let n = c.loop-item.item-index in
    let before = c.loop-item.invariant in
    let fails : p c.item-item.result ≡ false = sym c.is_named.ensures ∙ c.if-is_named.false in
    let here = sym (ap p c.item-item.is) ∙ fails in
    let more = count_by_more_yes (λ x. not (p x)) xs n c.item-item.result c.loop-item-test.true (ap not here) in
    let put = c.in_ok-push-2.ensures.ok in
    record {
      named = before.named ∙ sym (count_by_more_no p xs n c.item-item.result c.loop-item-test.true here);
      others = omega (arith, before.others, more);
      long = ap length put ∙ length_push c.loop-item.places c.loop-item.others ∙ ap (λ k. k + 1) before.long;
      same = λ i below. ap (λ ys. get_or ys i 0) put ∙ pushed_other p xs c.loop-item.places n c.loop-item.others c.item-item.result c.loop-item-test.true c.item-item.is fails before.long before.same before.others i below;
    }
