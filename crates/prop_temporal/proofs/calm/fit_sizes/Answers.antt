use Rattle.std.proofs.Common.{◌≡◌, ◌+ℤ◌, ◌-ℤ◌, pos, ◌&&◌, not, int_lt, false, sym, ap, ◌∙◌, rules}
use Rattle.prop_temporal.proofs.calm.fit_sizes.Goals as goal

pub returns : goal.returns
returns c =
    let first : int_lt c.args.start (c.args.least +ℤ c.args.end) ≡ false = search rules in
    let second : c.is_late-2.result ≡ int_lt c.args.end ((pos 0 -ℤ c.args.greatest) +ℤ c.args.start) = search rules in
    ap not second ∙ sym (ap (λ b. not b && not (int_lt c.args.end ((pos 0 -ℤ c.args.greatest) +ℤ c.args.start))) first)
