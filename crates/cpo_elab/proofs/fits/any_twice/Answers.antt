use Rattle.std.proofs.Common.{rules, nat_eq, ap, ◌∙◌}
use Rattle.std.specs.List.{list_any}
use Rattle.sched_model.specs.Valid.{are_distinct}
use Rattle.cpo_elab.specs.Named.{itv_of}
use Rattle.base_laws.specs.laws.Truth.{not_away}
use Rattle.cpo_elab.proofs.named.Distinct.{itvs, twice_in, more_in, distinct_more, not_there, pushed_key}
use Rattle.cpo_elab.proofs.fits.any_twice.Goals as goal

pub returns-then-not-branch : goal.returns-then-not-branch
returns-then-not-branch c =
    let is = c.itv_of-a.ensures ∙ ap (itv_of c.args.draft.now) c.as_slice.ensures in
    let there = not_away c.in_ok-insert.field-0 (list_any (nat_eq c.itv_of-a.result.0) c.loop-name.seen.keys) c.in_ok-insert.ensures.added (search rules) in
    twice_in c.args.draft.now c.args.names.now c.loop-name.name-index c.name-item.result c.itv_of-a.result c.loop-name.seen.keys c.loop-name-test.true c.name-item.is is c.loop-name.invariant.same there

pub loop-name-preserved : goal.loop-name-preserved
loop-name-preserved c =
    let is = c.itv_of-a.ensures ∙ ap (itv_of c.args.draft.now) c.as_slice.ensures in
    let absent = not_there c.in_ok-insert.field-0 (list_any (nat_eq c.itv_of-a.result.0) c.loop-name.seen.keys) c.in_ok-insert.ensures.added (search rules) in
    let pushed = pushed_key (list_any (nat_eq c.itv_of-a.result.0) c.loop-name.seen.keys) c.loop-name.seen.keys c.insert.new.self.keys c.itv_of-a.result.0 absent c.in_ok-insert.ensures.keys in
    record {
      distinct = ap (λ ks. are_distinct (itvs ks)) pushed ∙ distinct_more c.loop-name.seen.keys c.itv_of-a.result c.loop-name.invariant.distinct absent;
      same = more_in c.args.draft.now c.args.names.now c.loop-name.name-index c.name-item.result c.itv_of-a.result c.loop-name.seen.keys c.insert.new.self.keys c.loop-name-test.true c.name-item.is is c.loop-name.invariant.same pushed;
    }
