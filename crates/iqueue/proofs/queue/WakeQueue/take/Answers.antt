use Rattle.std.proofs.Common.{◌<◌, ap, sym, subst}
use Rattle.iqueue.proofs.Members.{first_below, first_and_rest}
use Rattle.iqueue.proofs.queue.WakeQueue.take.Goals as goal

pub unwake-requires : goal.unwake-requires
unwake-requires c = subst (λ q. c.in_ok-number.number < q.below) (sym c.first.ensures.same) (first_below c.args.self.now.below c.in_ok-number.number c.args.self.now.list c.first.ensures.distinct c.in_ok-number.ensures.first)

pub returns-clause-first : goal.returns-clause-first
returns-clause-first c = rw (c.unwake.ensures, c.first.ensures.same) (ap (λ ks. record { below = c.args.self.now.below; list = ks }) (first_and_rest c.in_ok-number.number c.args.self.now.list c.in_ok-number.ensures.first))
