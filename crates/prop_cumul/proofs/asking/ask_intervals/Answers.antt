use Rattle.std.proofs.Common.{◌≡◌, ◌∙◌, ◌<◌, length, get_or, inl, inr, sym, ap, subst, rules, arith}
use Rattle.std.specs.List.{filter}
use Rattle.std.proofs.lemmas.List.{get_or_default}
use Rattle.base_laws.specs.laws.Numbers.{below_or_last}
use Rattle.sched_base.specs.declared.ids.Itv.{Itv}
use Rattle.sched_model.specs.Data.{parts_of}
use Rattle.prop_cumul.specs.code.Tables.{is_of}
use Rattle.prop_cumul.specs.code.Asking.{IsQuietOn}
use Rattle.prop_cumul.specs.laws.Asking.{few_of, each_quiet}
use Rattle.prop_cumul.proofs.asking.ask_intervals.Goals as goal

pub ask_interval-requires-clause-few : goal.ask_interval-requires-clause-few
ask_interval-requires-clause-few c =
    let d : Itv = record { 0 = 0 } in
    let same : c.as_slice.result.now ≡ filter (is_of (get_or c.args.task.now.intervals c.loop-i.i d)) (parts_of c.args.side.now.model.now c.args.side.now.bound.f) = search rules in
    few_of c.args.side.now.model.now c.args.side.now.bound (get_or c.args.task.now.intervals c.loop-i.i d) c.as_slice.result.now c.requires.ready.bound.valid same

pub loop-i-preserved : goal.loop-i-preserved
loop-i-preserved c j d h =
    let e : Itv = record { 0 = 0 } in
    let quiet : IsQuietOn c.args.side.now.model.now c.args.side.now.region.now.region c.args.side.now.bound c.args.side.now.below (get_or c.args.task.now.intervals c.loop-i.i e) = search rules in
    let size : length c.as_slice-intervals.result.now ≡ length c.args.task.now.intervals = ap length c.as_slice-intervals.ensures in
    let test = c.loop-i-test.true in
    let within : c.loop-i.i < length c.args.task.now.intervals = omega (arith, size, test) in
    elim (below_or_last j c.loop-i.i h) [
      | inl old ↦ c.loop-i.invariant j d old
      | inr last ↦ subst (IsQuietOn c.args.side.now.model.now c.args.side.now.region.now.region c.args.side.now.bound c.args.side.now.below)
          (get_or_default c.args.task.now.intervals c.loop-i.i e d within ∙ ap (λ n. get_or c.args.task.now.intervals n d) (sym last)) quiet
    ]

pub returns-clause-none : goal.returns-clause-none
returns-clause-none c = each_quiet c.args.side.now.model.now c.args.side.now.region.now.region c.args.side.now.bound c.args.side.now.below c.args.task.now.intervals (λ j d h. c.loop-i.invariant j d (let all = c.loop-i-test.false in let size : length c.as_slice-intervals.result.now ≡ length c.args.task.now.intervals = ap length c.as_slice-intervals.ensures in omega (arith, h, all, size)))
