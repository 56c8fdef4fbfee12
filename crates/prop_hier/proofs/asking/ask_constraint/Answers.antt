use Rattle.prop_hier.specs.laws.Quiet.{quiet_from}
use Rattle.prop_hier.proofs.Asked.{parts_of, none_is, busy_from, found_from, constraint_at, quiet_listed, silent_listed}
use Rattle.prop_hier.proofs.asking.ask_constraint.Goals as goal
use Rattle.refute_hier.specs.laws.Parts.{listed}

-- a constraint of another kind
pub ask_relation-requires-clause-is : goal.ask_relation-requires-clause-is
ask_relation-requires-clause-is c = constraint_at c.args.model.now c.constraints.result.now c.args.c c.in_ok-constraint.constraint.now c.constraints.ensures.list c.in_ok-constraint.ensures

pub returns-in_err-found-clause-none : goal.returns-in_err-found-clause-none
returns-in_err-found-clause-none c =
    let is = constraint_at c.args.model.now c.constraints.result.now c.args.c c.in_ok-constraint.constraint.now c.constraints.ensures.list c.in_ok-constraint.ensures in
    none_is _ (quiet_listed c.args.model.now c.args.c c.args.region.now.region c.args.best c.in_ok-constraint.constraint.now c.args.members.now c.requires.of is c.in_default.ensures.none c.requires.members c.in_err-found.ensures.none)

pub returns-in_default-clause-busy : goal.returns-in_default-clause-busy
returns-in_default-clause-busy c =
    let is = constraint_at c.args.model.now c.constraints.result.now c.args.c c.in_ok-constraint.constraint.now c.constraints.ensures.list c.in_ok-constraint.ensures in
    λ still. c.in_ok-found.ensures.busy (silent_listed c.args.model.now c.args.c c.args.region.now.region c.args.best c.in_ok-constraint.constraint.now c.args.members.now is c.requires.members still)

pub returns-in_err-guess-clause-none : goal.returns-in_err-guess-clause-none
returns-in_err-guess-clause-none c =
    let of = listed c.args.model.now c.constraints.result.now c.args.c c.in_ok-constraint.constraint.now c.in-Some.family.kind c.in-Some.family.a c.in-Some.family.parts.now c.constraints.ensures.valid c.constraints.ensures.list c.in_ok-constraint.ensures c.in-Some.ensures.some in
    none_is _ (quiet_from c.args.model.now c.args.c c.args.region.now.region c.args.best c.in-Some.family.kind c.in-Some.family.a c.in-Some.family.parts.now of.is c.in_err-guess.ensures.none)

pub ask_family-requires-clause-parts : goal.ask_family-requires-clause-parts
ask_family-requires-clause-parts c =
    parts_of c.args.model.now c.args.c c.in-Some.family.kind c.in-Some.family.a c.in-Some.family.parts.now
    (listed c.args.model.now c.constraints.result.now c.args.c c.in_ok-constraint.constraint.now c.in-Some.family.kind c.in-Some.family.a c.in-Some.family.parts.now c.constraints.ensures.valid c.constraints.ensures.list c.in_ok-constraint.ensures c.in-Some.ensures.some)

pub find_witness-requires : goal.find_witness-requires
find_witness-requires c =
    (listed c.args.model.now c.constraints.result.now c.args.c c.in_ok-constraint.constraint.now c.in-Some.family.kind c.in-Some.family.a c.in-Some.family.parts.now c.constraints.ensures.valid c.constraints.ensures.list c.in_ok-constraint.ensures c.in-Some.ensures.some).few.parts

pub returns-clause-some : goal.returns-clause-some
returns-clause-some c =
    let of = listed c.args.model.now c.constraints.result.now c.args.c c.in_ok-constraint.constraint.now c.in-Some.family.kind c.in-Some.family.a c.in-Some.family.parts.now c.constraints.ensures.valid c.constraints.ensures.list c.in_ok-constraint.ensures c.in-Some.ensures.some in
    found_from c.args.model.now c.args.c c.args.region.now.region c.args.best c.in-Some.family.kind c.in-Some.family.a c.in-Some.family.parts.now _ _ _ of c.look.ensures.value c.in_ok-guess.ensures.some c.in_ok-witness.ensures.some

pub returns-clause-busy : goal.returns-clause-busy
returns-clause-busy c =
    let of = listed c.args.model.now c.constraints.result.now c.args.c c.in_ok-constraint.constraint.now c.in-Some.family.kind c.in-Some.family.a c.in-Some.family.parts.now c.constraints.ensures.valid c.constraints.ensures.list c.in_ok-constraint.ensures c.in-Some.ensures.some in
    busy_from c.args.model.now c.args.c c.args.region.now.region c.args.best c.in-Some.family.kind c.in-Some.family.a c.in-Some.family.parts.now of c.in_ok-guess.ensures.busy
