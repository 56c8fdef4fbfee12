use Rattle.std.proofs.Common.{◌≡◌, sym, ap, rules}
use Rattle.region.specs.Guesses.{with_fact}
use Rattle.kernel.specs.laws.Pending.{pending_kept}
use Rattle.kernel.proofs.Waiting.{newest, no_newest, newest_next, with_room, where_none, where_some}
use Rattle.kernel.proofs.pending.Pending.next.Goals as goal

pub returns-in_err-g-clause-none : goal.returns-in_err-g-clause-none
returns-in_err-g-clause-none c = where_none c.from_residual.result (sym (no_newest c.args.region.now c.args.self.now c.pop.new.self.items c.requires (search rules) (search rules)))

pub learn-requires : goal.learn-requires
learn-requires c = (newest c.args.region.now c.undo.new.self c.args.self.now c.pop.new.self.items c.in_ok-g.g c.requires c.undo.ensures.region c.undo.ensures.spare (search rules)).admits_it

pub returns-clause-pending : goal.returns-clause-pending
returns-clause-pending c =
    let is = newest c.args.region.now c.undo.new.self c.args.self.now c.pop.new.self.items c.in_ok-g.g c.requires c.undo.ensures.region c.undo.ensures.spare (search rules) in
    let learnt : c.learn.new.self ≡ record c.undo.new.self { region = with_fact c.in_ok-g.g c.undo.new.self.region; spare = c.learn.new.self.spare } = with_room c.learn.result c.undo.new.self.spare c.learn.ensures.given is.spare c.learn.ensures.ok in
    pending_kept c.undo.new.self c.learn.new.self c.pop.new.self.items (ap (λ h. h.saved) learnt) (ap (λ h. h.promised) learnt) is.others

pub returns-clause-next : goal.returns-clause-next
returns-clause-next c =
    let is = newest c.args.region.now c.undo.new.self c.args.self.now c.pop.new.self.items c.in_ok-g.g c.requires c.undo.ensures.region c.undo.ensures.spare (search rules) in
    let learnt : c.learn.new.self ≡ record c.undo.new.self { region = with_fact c.in_ok-g.g c.undo.new.self.region; spare = c.learn.new.self.spare } = with_room c.learn.result c.undo.new.self.spare c.learn.ensures.given is.spare c.learn.ensures.ok in
    where_some c.ok.result (newest_next c.args.region.now c.undo.new.self c.learn.new.self c.args.self.now c.pop.new.self.items c.in_ok-g.g is (ap (λ h. h.region) learnt) (ap (λ h. h.saved) learnt))
