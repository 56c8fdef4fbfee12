use Rattle.std.proofs.Common.{subst}
use Rattle.refute_basic.specs.declared.arc_name.ArcName.{ArcName}
use Rattle.prop_temporal.specs.code.Shown.{Tries}
use Rattle.prop_temporal.specs.laws.Collecting.{of_interval}
use Rattle.prop_temporal.proofs.shown.Shown.try_interval.Goals as goal

pub returns : goal.returns
returns c = of_interval c.args.model.now c.args.look.now.region c.args.x c.args.self.now c.try_name.new.self c.try_name-2.new.self
    (subst (λ (i : ArcName). Tries c.args.model.now c.args.look.now.region i c.args.self.now c.try_name.new.self) c.named.ensures.value c.in_ok-try_name.ensures)
    (subst (λ (i : ArcName). Tries c.args.model.now c.args.look.now.region i c.try_name.new.self c.try_name-2.new.self) c.named-2.ensures.value c.in_ok-try_name-2.ensures)
