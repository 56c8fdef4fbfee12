use Rattle.std.proofs.Common.{◌≡◌, true, rules}
use Rattle.region.specs.Guesses.{admits}
use Rattle.prop_cumul.specs.laws.Asking.{busy_under}
use Rattle.prop_cumul.proofs.Raising.{if_some_so}
use Rattle.prop_cumul.proofs.side.ask_end.Goals as goal

pub returns-clause-busy : goal.returns-clause-busy
returns-clause-busy c =
    let m = c.args.at.now.model.now in
    let r = c.args.at.now.region.now.region in
    let opened : admits r c.args.g ≡ true = search rules in
    if_some_so c.ask_under.result (λ f h. busy_under m r c.args.at.now.best c.args.at.now.c c.args.x c.args.g c.requires.end c.requires.named opened h) c.ask_under.ensures.busy
