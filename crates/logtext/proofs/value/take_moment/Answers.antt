use Rattle.std.proofs.Common.{◌≡◌, w64, rules, arith, sym, ap, ◌∙◌, false}
use Rattle.std.proofs.lemmas.Int.{ints, to_z-of_z}
use Rattle.sched_model.specs.Valid.{is_small}
use Rattle.logtext.proofs.Values.{far_moment}
use Rattle.logtext.proofs.value.take_moment.Goals as goal

pub returns : goal.returns
returns c =
    let far : is_small c.in-Some.t ≡ false = ap is_small (sym (to_z-of_z w64 c.in-Some.t (search rules))) ∙ sym c.if-is_small.ensures in
    far_moment c.in_ok-word.word.now c.in-Some.t c.args.words.now c.next.new.self c.in_ok-word.ensures c.in-Some.ensures (omega (arith, ints)) far
