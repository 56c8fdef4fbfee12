use Rattle.std.proofs.Common.{◌≡◌, ◌-ℤ◌, pos, Bool, refl, true, false, not, ◌||◌, ap, ◌∙◌, rules}
use Rattle.region.specs.Cells.{bounds_of}
use Rattle.prop_temporal.specs.code.Silence.{is_in_time}
use Rattle.prop_temporal.specs.laws.Silence.{forth_told, back_told}
use Rattle.prop_temporal.proofs.silence.is_silent_pair.Goals as goal

pub returns-then-d-eq0 : goal.returns-then-d-eq0
returns-then-d-eq0 c = λ yes.
    let r = c.args.region.now.region in
    let in_time : is_in_time (bounds_of r c.args.a) c.args.from (bounds_of r c.args.b) c.args.to c.args.z ≡ true = search (rules, yes) in
    forth_told r c.args.d c.args.from c.args.to c.args.equal c.args.a c.args.b c.args.z (search rules) (search rules) in_time

pub returns : goal.returns
returns c = λ yes.
    let r = c.args.region.now.region in
    let in_time : is_in_time (bounds_of r c.args.b) c.args.to (bounds_of r c.args.a) c.args.from (pos 0 -ℤ c.args.z) ≡ true = search (rules, yes) in
    back_told r c.args.d c.args.from c.args.to c.args.equal c.args.a c.args.b c.args.z (search rules) (search rules) (ap (λ b. not c.args.equal || b) in_time ∙ or_true (not c.args.equal))
  where
    or_true : (b : Bool) → (b || true) ≡ true
    or_true true = refl
    or_true false = refl
