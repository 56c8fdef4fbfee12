use Rattle.std.proofs.Common.{◌∙◌, ◌<◌, ap, length, subst}
use Rattle.prop_hier.specs.code.Asked.{AskedFirst}
use Rattle.prop_hier.specs.code.Counts.{counts_of}
use Rattle.prop_hier.specs.code.Rows.{refutes_under}
use Rattle.prop_hier.proofs.Asked.{if_none}
use Rattle.prop_hier.proofs.Members.{all_asked, all_behind, members_before, members_behind, place_within}
use Rattle.prop_hier.proofs.asking.ask_family.Goals as goal

pub ask_some-requires-clause-counts : goal.ask_some-requires-clause-counts
ask_some-requires-clause-counts c = c.count_parts-counts.ensures ∙ ap (λ l. counts_of c.args.family.now.kind l.region c.args.family.now.a c.args.family.now.parts.now) c.look.ensures.value

pub ask_some-requires-clause-members : goal.ask_some-requires-clause-members
ask_some-requires-clause-members c = members_behind c.args.members.now c.args.family.now.parts.now c.args.family.now.a c.place_in-from.result _ c.requires.members

pub ask_some-requires-2-clause-counts : goal.ask_some-requires-2-clause-counts
ask_some-requires-2-clause-counts c = c.count_parts-counts.ensures ∙ ap (λ l. counts_of c.args.family.now.kind l.region c.args.family.now.a c.args.family.now.parts.now) c.look.ensures.value

pub ask_some-requires-2-clause-members : goal.ask_some-requires-2-clause-members
ask_some-requires-2-clause-members c = members_before c.args.members.now c.args.family.now.parts.now c.args.family.now.a c.place_in-from.result c.requires.members

pub returns-clause-none : goal.returns-clause-none
returns-clause-none c =
    let test = refutes_under c.args.family.now.kind c.args.region.now.region c.args.family.now.a c.args.family.now.parts.now in
    let within : c.place_in-from.result < length c.args.members.now = place_within c.args.members.now c.args.family.now.parts.now c.args.family.now.a c.place_in-from.result c.requires.members c.place_in-from.ensures.within in
    let behind = subst (λ zs. AskedFirst test c.args.region.now.region zs (length zs)) (all_behind c.args.members.now c.place_in-from.result) c.in_default.ensures.none in
    if_none c.ask_some-2.result (λ h. all_asked test c.args.region.now.region c.args.members.now c.args.family.now.parts.now c.args.family.now.a c.place_in-from.result c.requires.members within behind h) c.ask_some-2.ensures.none
