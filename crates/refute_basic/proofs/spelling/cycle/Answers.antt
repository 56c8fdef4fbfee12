use Rattle.std.proofs.Common.{◌≡◌, rules, ap, sym, ◌∙◌, w64, of_z, pos, length}
use Rattle.refute_basic.proofs.Numbered.{other_count}
use Rattle.refute_basic.proofs.spelling.cycle.Goals as goal

pub returns-then-count-length_of-clause-none : goal.returns-then-count-length_of-clause-none
returns-then-count-length_of-clause-none c = λ w valid e.
    let counted : c.length_of.result ≡ pos (length c.in-Some.arcs) = search rules in
    other_count c.in-Some.arcs c.args.count c.args.numbers.now w (search rules) (λ same. c.if-count-length_of.true (ap (of_z w64) (same ∙ sym counted))) e
