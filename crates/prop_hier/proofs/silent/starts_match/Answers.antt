use Rattle.std.proofs.Common.{◌≡◌, ◌&&◌, ap, ◌∙◌, rules}
use Rattle.std.specs.Prelude.{int_le}
use Rattle.prop_hier.proofs.silent.starts_match.Goals as goal

pub returns : goal.returns
returns c =
    let a = c.args.a in
    let b = c.args.b in
    let first : c.is_between.result ≡ (int_le a.smin b.smin && int_le b.smin b.smax) = search rules in
    let second : c.is_until.result ≡ int_le b.smax c.last_start.result = search rules in
    ap (λ p. p && c.is_until.result) first ∙ ap (λ q. int_le a.smin b.smin && int_le b.smin b.smax && q) (second ∙ ap (int_le b.smax) c.last_start.ensures)
