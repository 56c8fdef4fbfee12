use Rattle.std.proofs.Common.{◌≡◌, ◌&&◌, ap, ◌∙◌, rules}
use Rattle.std.specs.Prelude.{int_le}
use Rattle.prop_hier.proofs.silent.ends_match.Goals as goal

pub returns : goal.returns
returns c =
    let a = c.args.a in
    let b = c.args.b in
    let first : c.is_between.result ≡ (int_le c.first_end.result b.emin && int_le b.emin b.emax) = search rules in
    let second : c.is_until.result ≡ int_le b.emax a.emax = search rules in
    ap (λ p. p && c.is_until.result) first ∙ ap (λ q. int_le c.first_end.result b.emin && int_le b.emin b.emax && q) second ∙ ap (λ e. int_le e b.emin && int_le b.emin b.emax && int_le b.emax a.emax) c.first_end.ensures
