use Rattle.std.proofs.Common.{◌≡◌, ◌∙◌, sym, IsTrue}
use Rattle.logtext.proofs.Witnesses.{value_fails, no_value, if_none}
use Rattle.logtext.proofs.step.read_value.Goals as goal

pub returns-in-Err : goal.returns-in-Err
returns-in-Err g c =
    let laws = g.met.W.Numbers in
    value_fails g.W.Numbers.numbers g.W.Numbers.is_valid (record { few = laws.few; small = laws.small; apart = laws.told_apart }) c.args.words.now c.args.numbers.now.items c.read_numbers.new.numbers.items c.in-Err.fault c.in-Err.ensures

pub returns-in_default : goal.returns-in_default
returns-in_default g c =
    let laws = g.met.W.Numbers in
    no_value g.W.Numbers.numbers g.W.Numbers.is_valid (record { few = laws.few; small = laws.small; apart = laws.told_apart }) c.args.words.now c.args.numbers.now.items c.read_numbers.new.numbers.items c.in-Ok.field-0 c.in-Ok.ensures
    (λ w valid same. if_none ((w : _) → IsTrue (g.W.Numbers.is_valid w) → g.W.Numbers.numbers w ≡ c.as_slice.result.now → ⊥) c.in_ok-w.field-0 c.in_default.is c.in_ok-w.ensures.none w valid (same ∙ sym c.as_slice.ensures.value))
