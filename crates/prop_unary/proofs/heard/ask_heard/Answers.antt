use Rattle.std.proofs.Common.{◌≡◌, true, false, rules}
use Rattle.prop_unary.proofs.Asked.{none_to, open_told, silent_told}
use Rattle.prop_unary.proofs.heard.ask_heard.Goals as goal

pub returns-then-not-is_told-clause-none : goal.returns-then-not-is_told-clause-none
returns-then-not-is_told-clause-none c = let off : c.is_told.result ≡ false = search rules in c.is_told.ensures.other c.args.best off

pub returns-then-not-is_told-clause-free : goal.returns-then-not-is_told-clause-free
returns-then-not-is_told-clause-free c = c.is_told.ensures.free c.args.best

pub returns-clause-none : goal.returns-clause-none
returns-clause-none c = none_to c.ask_forward.result (silent_told c.args.model.now c.args.region.now.region c.args.best c.args.d.now c.args.first.member c.args.second.member) c.ask_forward.ensures.none

pub returns-clause-free : goal.returns-clause-free
returns-clause-free c =
    let on : c.is_told.result ≡ true = search rules in
    none_to c.ask_forward.result
    (λ silent closed. ((c.is_told.ensures.free c.args.best closed).0, open_told c.args.model.now c.args.region.now.region c.args.best c.args.d.now c.args.first.member c.args.second.member (c.is_told.ensures.told on)))
    c.ask_forward.ensures.none
