use Rattle.std.proofs.Common.{false, length, arith}
use Rattle.cycles.specs.laws.Behind.{behind_first, still_at_end, heights_kept}
use Rattle.cycles.proofs.gain.GainSearch.find.Goals as goal

pub loop-r-init : goal.loop-r-init
loop-r-init c = record {
  search = c.in_ok-begin.ensures.search c.args.arcs.now;
  short = c.in_ok-begin.ensures.short;
  behind = λ b. behind_first c.args.arcs.now c.begin.new.self b;
}

pub returns-in_default-clause-none : goal.returns-in_default-clause-none
returns-in_default-clause-none c = heights_kept c.args.arcs.now c.round.new.self (rw c.in_default.is at c.in_ok-k.ensures.none)

pub loop-r-preserved : goal.loop-r-preserved
loop-r-preserved c =
    let less = rw c.in_default-2.is at c.in_ok-from.ensures.none in
    record {
      search = c.in_ok-k.ensures.search;
      short = (rw c.in-Some.is at c.in_ok-k.ensures.short) less;
      behind = (rw c.in-Some.is at c.in_ok-k.ensures.behind) less c.loop-r.r c.loop-r.invariant.behind;
    }

pub returns-clause-none : goal.returns-clause-none
returns-clause-none c = heights_kept c.args.arcs.now c.loop-r.self.search
    (still_at_end c.args.arcs.now (length c.args.first.now) c.loop-r.r c.loop-r.self.search c.loop-r.invariant.short c.requires (omega (arith, c.loop-r-test.false, c.loop-r.auto.r-end)) (c.loop-r.invariant.behind false))
