-- A log of the version that is written may hold the lines that a search writes.
use Rattle.std.specs.Prelude.{◌≡◌, ℕ, ◌+◌, ◌≤◌, Bool, true, false, not, nat_eq, if◌then◌else◌, List, [], ◌∷◌}
use Rattle.std.proofs.Common.{refl, arith}
use Rattle.std.proofs.lemmas.Bool.Decides.{nat_tests}
use Rattle.std.specs.List.{list_all}
use Rattle.sched_model.specs.Data.{Data}
use Rattle.region.specs.laws.Lists.{true_both}
use Rattle.kernel.specs.Steps.{LogState, is_restart, restarts_in}
use Rattle.logtext.specs.Logs.{PlainLine, MayHold, may_hold}
use Rattle.logtext.specs.declared.version.Version.TheVariants.{One, Two}
use Rattle.restart_rules.specs.Restarts.{Limits}
use Rattle.solver.specs.Versions.{version_of}
use Rattle.solver.specs.Written.{IsWritten}

-- where none begins anew, one of the first version
none_begins : (b : Bool) (n : ℕ) → (if b then n + 1 else n) ≤ 0 → (not b ≡ true) × (n ≤ 0)
none_begins true n few = absurd (omega (arith, few))
none_begins false n few = (refl, few)

held_by_one : (lines : List PlainLine) → restarts_in lines ≤ 0 → MayHold One lines
held_by_one [] few = refl
held_by_one (line ∷ lines) few =
    let none = none_begins (is_restart line) (restarts_in lines) few in
    true_both (may_hold One line) (list_all (may_hold One) lines) none.0 (held_by_one lines none.1)

-- and one of the second whatever there is
held_by_two : (lines : List PlainLine) → MayHold Two lines
held_by_two [] = refl
held_by_two (line ∷ lines) = true_both (may_hold Two line) (list_all (may_hold Two) lines) refl (held_by_two lines)

held_by : (restarts : ℕ) (lines : List PlainLine) (b : Bool) → nat_eq restarts 0 ≡ b → restarts_in lines ≤ restarts → MayHold (if b then One else Two) lines
held_by restarts lines true none few = let zero : restarts ≤ 0 = grind (arith, nat_tests, none) in held_by_one lines (omega (arith, few, zero))
held_by restarts lines false some few = held_by_two lines

pub written_held : (m : Data) (limits : Limits) (lines : List PlainLine) (s : LogState) → IsWritten m limits lines s → MayHold (version_of limits.restarts) lines
written_held m limits lines s is = held_by limits.restarts lines (nat_eq limits.restarts 0) refl is.seldom
