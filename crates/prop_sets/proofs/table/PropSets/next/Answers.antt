use Rattle.std.proofs.Common.{◌≡◌, ◌∙◌, ◌<◌, [], length, slice_index_or, ap, sym, subst, arith, rules, refl, Option, Some, None, List}
use Rattle.std.specs.Prelude.{IfNone}
use Rattle.std.proofs.lemmas.List.{get_or_default}
use Rattle.sched_base.specs.declared.ids.Itv.{Itv}
use Rattle.sched_model.specs.Data.{members_of}
use Rattle.findings.specs.code.Tables.{members_in}
use Rattle.prop_sets.specs.declared.known.Numbers.{Numbers}
use Rattle.prop_sets.specs.code.Tasks.{quiet, sequence_at}
use Rattle.prop_sets.specs.code.Known.{AreKnown, AreNumbers, IsStill}
use Rattle.prop_sets.specs.laws.Known.{known_at, known_set, still_again, still_quiet}
use Rattle.prop_sets.proofs.table.PropSets.next.Goals as goal

pub returns-then-is_remembered-clause-none : goal.returns-then-is_remembered-clause-none
returns-then-is_remembered-clause-none c =
    let m = c.args.model.now in
    let k = c.args.k in
    let size : length c.self.inside.members.items ≡ length c.args.self.now.members = ap (λ t. length t.members) c.self.view_is in
    let all = c.requires.of.members.size in
    let below = c.requires.below in
    let within : k < length c.self.inside.members.items = omega (arith, size, all, below) in
    let known = c.self.invariant.1 in
    let as_many = known.size in
    let sequence : sequence_at m k ≡ Some c.in-Some.p = search rules in
    let ms = slice_index_or c.self.inside.members.items k [] in
    let read : c.as_slice-members.result.now ≡ c.index.result.now = search rules in
    let at : c.as_slice-members.result.now ≡ ms = read ∙ c.index.ensures ∙ get_or_default c.self.inside.members.items k c.index.result.now [] within in
    let members : ms ≡ members_of m c.in-Some.p = ap (λ t. slice_index_or t.members k []) c.self.view_is ∙ c.requires.of.members.each k below ∙ ap (members_in m) sequence in
    let same : slice_index_or c.self.inside.known.items k None ≡ Some c.deref-2.result.now
    = sym (c.index-2.ensures ∙ get_or_default c.self.inside.known.items k c.index-2.result.now None (omega (arith, within, as_many))) ∙ c.is_remembered.ensures c.if-is_remembered.true in
    let numbers = subst (λ (ns : List Numbers). AreNumbers c.args.region.now.region c.as_slice-members.result.now (length c.as_slice-members.result.now) ns) (sym c.deref-2.ensures.value) c.in_ok-numbers_in.ensures in
    let later = c.self.inside.later in
    subst (λ t. quiet t m k c.args.region.now.region c.args.best) (ap (λ t. t.later) c.self.view_is)
    (still_quiet later m k c.in-Some.p c.args.region.now.region c.args.best ms c.sequences.ensures.valid c.requires.region sequence members
    (still_again later c.args.region.now.region ms c.deref-2.result.now (known_at later c.self.inside.members.items c.self.inside.known.items k c.deref-2.result.now within same known)
    (subst (λ (zs : List Itv). AreNumbers c.args.region.now.region zs (length zs) c.deref-2.result.now) at numbers)))

pub returns-in_default-3-clause-none : goal.returns-in_default-3-clause-none
returns-in_default-3-clause-none c =
    let m = c.args.model.now in
    let sequence : sequence_at m c.args.k ≡ Some c.in-Some.p = search rules in
    let later = c.self.inside.later in
    subst (λ t. quiet t m c.args.k c.args.region.now.region c.args.best) (ap (λ t. t.later) c.self.view_is)
    (still_quiet later m c.args.k c.in-Some.p c.args.region.now.region c.args.best (members_of m c.in-Some.p) c.sequences.ensures.valid c.requires.region sequence refl
    (subst (λ o. IfNone o (IsStill later c.args.region.now.region (members_of m c.in-Some.p))) c.in_default-3.is c.in_ok-found-2.ensures.none))

pub invariant_of-self-in_default-3 : goal.invariant_of-self-in_default-3
invariant_of-self-in_default-3 c =
    let m = c.args.model.now in
    let k = c.args.k in
    let r = c.args.region.now.region in
    let later = c.self.inside.later in
    let all_members = c.self.inside.members.items in
    let size : length all_members ≡ length c.args.self.now.members = ap (λ t. length t.members) c.self.view_is in
    let all = c.requires.of.members.size in
    let below = c.requires.below in
    let within : k < length all_members = omega (arith, size, all, below) in
    let sequence : sequence_at m k ≡ Some c.in-Some.p = search rules in
    let ms = slice_index_or all_members k [] in
    let read : c.as_slice-members.result.now ≡ c.index.result.now = search rules in
    let at : c.as_slice-members.result.now ≡ ms = read ∙ c.index.ensures ∙ get_or_default all_members k c.index.result.now [] within in
    let members : ms ≡ members_of m c.in-Some.p = ap (λ t. slice_index_or t.members k []) c.self.view_is ∙ c.requires.of.members.each k below ∙ ap (members_in m) sequence in
    let ns = c.numbers_in.new.list.items in
    let still = subst (λ o. IfNone o (IsStill later r (members_of m c.in-Some.p))) c.in_default-3.is c.in_ok-found-2.ensures.none in (
      c.self.invariant.0,
      subst (λ (ks : List (Option (List Numbers))). AreKnown later all_members ks) (sym c.remember.ensures)
          (known_set later all_members c.self.inside.known.items k ns within (record {
            region = r;
            numbers = subst (λ (zs : List Itv). AreNumbers r zs (length zs) ns) at c.in_ok-numbers_in.ensures;
            still = subst (λ (zs : List Itv). IsStill later r zs) (sym members) still;
          }) c.self.invariant.1),
    )
