use Rattle.std.proofs.Common.{rules, ◌≡◌, ℕ, ◌+◌, ◌<◌, false, None, Some, length, sym, subst, ap, arith}
use Rattle.cycles.specs.declared.node.Node.{Node}
use Rattle.cycles.specs.code.Walks.{arc_at}
use Rattle.cycles.specs.code.Search.{Search, IsShort, IsBehind, is_late, node_at, turn_of}
use Rattle.cycles.specs.laws.Behind.{if_some, behind_round, still_next}
use Rattle.cycles.proofs.search.Search.round.Goals as goal

pub loop-turn-preserved-in_default : goal.loop-turn-preserved-in_default
loop-turn-preserved-in_default c =
    let idle = rw c.in_default.is at c.in_ok-k.ensures.none in
    let turn : turn_of c.args.backwards (length c.args.arcs.now) c.place-i.result ≡ c.loop-turn.turn = c.place-i.ensures.turn in
    record {
      search = c.in_ok-k.ensures.search;
      short = subst (IsShort c.args.n) (sym idle.0) c.loop-turn.invariant.short;
      behind = λ k first. subst (λ (t : ℕ). IsBehind c.args.arcs.now c.args.backwards k (t + 1) c.relax.new.self) turn
          (c.in_ok-k.ensures.behind c.args.backwards k (subst (λ (t : ℕ). IsBehind c.args.arcs.now c.args.backwards k t c.loop-turn.self) (sym turn) (c.loop-turn.invariant.behind k first)));
      none = λ e j below less. subst (λ (s : Search). is_late s (arc_at c.args.arcs.now j) ≡ false) (sym idle.0)
          (still_next c.args.arcs.now c.loop-turn.self c.args.backwards c.place-i.result c.place-i.ensures.below idle.1 (λ i within earlier. c.loop-turn.invariant.none e i within (omega (arith, earlier, turn))) j below (omega (arith, less, turn)));
      some = λ k e. subst (λ (s : Search). k < length s.nodes) (sym idle.0) (c.loop-turn.invariant.some k e);
    }

pub loop-turn-preserved : goal.loop-turn-preserved
loop-turn-preserved c =
    let turn : turn_of c.args.backwards (length c.args.arcs.now) c.place-i.result ≡ c.loop-turn.turn = c.place-i.ensures.turn in
    let within : c.in-Some.k < length c.relax.new.self.nodes = rw c.in-Some.is at c.in_ok-k.ensures.some in
    let short : (node_at c.relax.new.self.nodes c.in-Some.k).len < c.args.n → IsShort c.args.n c.relax.new.self = rw c.in-Some.is at c.in_ok-k.ensures.short in
    let same : c.node.result ≡ node_at c.relax.new.self.nodes c.in-Some.k = search rules in
    record {
      search = c.in_ok-k.ensures.search;
      short = short (omega (arith, ap (λ (y : Node). y.len) same, c.if-node-n.false));
      behind = λ k first. subst (λ (t : ℕ). IsBehind c.args.arcs.now c.args.backwards k (t + 1) c.relax.new.self) turn
          (c.in_ok-k.ensures.behind c.args.backwards k (subst (λ (t : ℕ). IsBehind c.args.arcs.now c.args.backwards k t c.loop-turn.self) (sym turn) (c.loop-turn.invariant.behind k first)));
      none = λ e. absurd (no_none c.in-Some.k e);
      some = λ k e. subst (λ (i : ℕ). i < length c.relax.new.self.nodes) (the_same c.in-Some.k k e) within;
    }
  where
    no_none : (k : ℕ) → Some k ≡ None → ⊥
    no_none k e = cc

    the_same : (i k : ℕ) → Some i ≡ Some k → i ≡ k
    the_same i k e = cc

pub returns-clause-behind : goal.returns-clause-behind
returns-clause-behind c = if_some c.loop-turn.newest _ (λ k less r first b. behind_round c.args.arcs.now c.loop-turn.self c.args.backwards b r c.loop-turn.turn (omega (arith, c.loop-turn-test.false, c.loop-turn.auto.turn-end)) (c.loop-turn.invariant.behind r (first c.args.backwards)))
