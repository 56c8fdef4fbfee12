use Rattle.std.proofs.Common.{◌≡◌, rules, pos, length}
use Rattle.refute_energy.proofs.Reading.{other_size, none_read, made, none_valid}
use Rattle.refute_energy.proofs.spelling.with_members.Goals as goal

pub returns-then-not-is_size-clause-none : goal.returns-then-not-is_size-clause-none
returns-then-not-is_size-clause-none c = λ w valid same. other_size w c.args.c c.args.size c.args.members.now (search rules) valid same

pub returns-in_default-2-clause-none : goal.returns-in_default-2-clause-none
returns-in_default-2-clause-none c = λ w valid same. none_read w c.args.c c.args.size c.args.members.now c.in_ok-parts.field-0 c.in_default-2.is c.in_ok-parts.ensures.none valid same

pub returns-then-not-valid-clause-none : goal.returns-then-not-valid-clause-none
returns-then-not-valid-clause-none c = λ w valid same.
    let sized : c.args.size ≡ pos (length c.args.members.now) = search rules in
    let is : c.args.c ≡ pos c.in-Some.c = search rules in
    none_valid (record { c = record { 0 = c.in-Some.c }; parts = c.in-Some-2.parts }) w _
    (made c.in-Some.c c.in-Some-2.parts c.args.c c.args.size c.args.members.now c.in_ok-parts.field-0 is sized c.in-Some-2.is c.in_ok-parts.ensures.some) (search rules) valid same

pub returns-clause-some : goal.returns-clause-some
returns-clause-some c =
    let sized : c.args.size ≡ pos (length c.args.members.now) = search rules in
    let is : c.args.c ≡ pos c.in-Some.c = search rules in
    (made c.in-Some.c c.in-Some-2.parts c.args.c c.args.size c.args.members.now c.in_ok-parts.field-0 is sized c.in-Some-2.is c.in_ok-parts.ensures.some, search rules)
