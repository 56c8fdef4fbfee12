use Rattle.std.proofs.Common.{◌≡◌, sym, subst, rules, to_z, of_z, w64}
use Rattle.sched_model.specs.declared.types.Shape.TheVariants.{Pulse, Step}
use Rattle.prop_cumul.specs.code.Extra.{IsUnmoved, IsStillOf}
use Rattle.prop_cumul.proofs.Raising.{pulse_still, step_still}
use Rattle.prop_cumul.proofs.extra.next_of.Goals as goal

pub returns-in-Pulse : goal.returns-in-Pulse
returns-in-Pulse c =
    let same : to_z w64 (of_z w64 c.earlier-in-Pulse.result) ≡ c.earlier-in-Pulse.result = search rules in
    let is : c.args.part.shape ≡ Pulse c.in-Pulse.u c.in-Pulse.v c.in-Pulse.h = search rules in
    let second : IsUnmoved c.args.a c.in-Pulse.v c.args.to c.earlier.result = search rules in
    let first : IsUnmoved c.args.a c.in-Pulse.u c.earlier.result c.earlier-in-Pulse.result = search rules in
    subst (λ n. IsStillOf c.args.part c.args.a c.args.to n) (sym same)
    (pulse_still c.args.part c.in-Pulse.u c.in-Pulse.v c.in-Pulse.h c.args.a c.args.to c.earlier.result c.earlier-in-Pulse.result is second first)

pub returns-in-Step : goal.returns-in-Step
returns-in-Step c =
    let same : to_z w64 (of_z w64 c.earlier-in-Step.result) ≡ c.earlier-in-Step.result = search rules in
    let is : c.args.part.shape ≡ Step c.in-Step.u c.in-Step.h = search rules in
    let first : IsUnmoved c.args.a c.in-Step.u c.args.to c.earlier-in-Step.result = search rules in
    subst (λ n. IsStillOf c.args.part c.args.a c.args.to n) (sym same)
    (step_still c.args.part c.in-Step.u c.in-Step.h c.args.a c.args.to c.earlier-in-Step.result is first)
