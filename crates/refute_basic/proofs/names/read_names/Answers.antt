use Rattle.std.proofs.lemmas.List.{length-take-le}
use Rattle.refute_basic.proofs.Numbered.{split_of, read_next, named_next, no_name_next, no_name_left}
use Rattle.refute_basic.proofs.names.read_names.Goals as goal

pub returns-in_default-clause-none : goal.returns-in_default-clause-none
returns-in_default-clause-none c = λ all h same. no_name_next c.args.numbers.now c.loop-left.left.now _ _ c.loop-left.arcs all c.loop-left.invariant.whole (split_of c.loop-left.left.now) (length-take-le 4 c.loop-left.left.now c.loop-left-test.true) c.in_default.ensures.none h same

pub loop-left-preserved : goal.loop-left-preserved
loop-left-preserved c = record {
  whole = read_next c.args.numbers.now c.loop-left.left.now _ _ c.loop-left.arcs c.push.new.self c.in-Some.name c.in_ok-push.ensures.ok c.loop-left.invariant.whole (split_of c.loop-left.left.now) c.in-Some.ensures.some.0;
  named = named_next c.loop-left.arcs c.push.new.self c.in-Some.name c.in_ok-push.ensures.ok c.loop-left.invariant.named c.in-Some.ensures.some.1;
}

pub returns-then-left-gt0-clause-none : goal.returns-then-left-gt0-clause-none
returns-then-left-gt0-clause-none c = λ all h same. no_name_left c.args.numbers.now c.loop-left.left.now c.loop-left.arcs all c.loop-left.invariant.whole c.loop-left-test.false c.if-left-gt0.true h same
