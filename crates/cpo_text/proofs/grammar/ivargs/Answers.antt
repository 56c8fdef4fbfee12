use Rattle.std.proofs.Common.{◌≡◌, false, sym, ap, rules, ◌∙◌}
use Rattle.std.specs.Prelude.{Err}
use Rattle.cpo_text.specs.code.Rules.{has_sort}
use Rattle.cpo_text.proofs.listing.Ivargs.{ivargs_fault, ivargs_smaller, ivargs_twice, ivargs_last, ivargs_next}
use Rattle.cpo_text.proofs.grammar.ivargs.Goals as goal

pub returns-in_err-arg : goal.returns-in_err-arg
returns-in_err-arg c =
    let is : c.from_residual.result ≡ Err c.in_err-arg.field-0.0 = search rules in
    rw is (ivargs_fault c.in_err-arg.field-0.0 _ _ _ c.in_err-arg.ensures c.loop-args.invariant)

pub returns-then-has_sort : goal.returns-then-has_sort
returns-then-has_sort c = sym c.loop-args.invariant ∙ ivargs_twice _ _ _ _ c.in_ok-arg.ensures (ap (has_sort c.in_ok-arg.arg) (sym c.as_slice.ensures) ∙ sym c.if-has_sort.ensures)

pub loop-args-smaller : goal.loop-args-smaller
loop-args-smaller c = ivargs_smaller _ _ _ _ c.in_ok-arg.ensures (sym c.in-Some.ensures)

pub loop-args-preserved : goal.loop-args-preserved
loop-args-preserved c =
    let fresh : has_sort c.in_ok-arg.arg c.loop-args.args ≡ false = ap (has_sort c.in_ok-arg.arg) (sym c.as_slice.ensures) ∙ sym c.if-has_sort.ensures in
    rw c.in_ok-push.ensures.ok (sym (ivargs_next _ _ _ _ _ c.in_ok-arg.ensures fresh (sym c.in-Some.ensures)) ∙ c.loop-args.invariant)

pub returns-in-None : goal.returns-in-None
returns-in-None c =
    let fresh : has_sort c.in_ok-arg.arg c.loop-args.args ≡ false = ap (has_sort c.in_ok-arg.arg) (sym c.as_slice.ensures) ∙ sym c.if-has_sort.ensures in
    rw c.in_ok-push.ensures.ok (sym c.loop-args.invariant ∙ ivargs_last _ _ _ _ c.in_ok-arg.ensures fresh (sym c.in-None.ensures))
