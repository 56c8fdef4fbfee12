use Rattle.std.proofs.Common.{◌≡◌, w64, rules, arith, sym, ap, ◌∙◌, false}
use Rattle.std.proofs.lemmas.Int.{ints, to_z-of_z}
use Rattle.sched_model.specs.Bounds.{is_small}
use Rattle.read_schedule.proofs.spelling.Numbers.{far_number}
use Rattle.read_schedule.proofs.words.take_number.Goals as goal

pub returns : goal.returns
returns c =
    let far : is_small c.in-Some.z ≡ false = ap is_small (sym (to_z-of_z w64 c.in-Some.z (search rules))) ∙ sym c.if-is_small.ensures in
    far_number c.in_ok-word.word.now c.in-Some.z c.args.words.now c.next.new.self c.in_ok-word.ensures c.in-Some.ensures (omega (arith, ints)) far
