use Rattle.std.proofs.Common.{◌∙◌, ◌++◌, ap, append-nil}
use Rattle.base_laws.specs.laws.Items.{all_push}
use Rattle.std.specs.List.{list_all}
use Rattle.sched_model.specs.Valid.{is_itv}
use Rattle.sched_text.specs.Pieces.{interval_names}
use Rattle.read_schedule.proofs.spelling.Names.{named_one, named_none, member_more, no_member}
use Rattle.read_schedule.proofs.orders.read_members.Goals as goal

pub returns-in_default : goal.returns-in_default
returns-in_default c =
    let none = c.in_default.ensures in
    (c.loop-word.invariant.fit, c.loop-word.invariant.same ∙ ap (λ ws. interval_names c.args.model.now c.loop-word.order ++ ws) none.0 ∙ append-nil (interval_names c.args.model.now c.loop-word.order))

pub returns-in_default-find : goal.returns-in_default-find
returns-in_default-find c = λ v fit e.
    no_member c.args.model.now c.loop-word.order v c.in-Some.word.now c.args.words.now c.loop-word.words c.next.new.self c.loop-word.invariant.same c.in-Some.ensures
    (named_none c.args.model.now c.args.index.now c.in-Some.word.now c.requires c.in_default-find.ensures) fit e

pub loop-word-preserved : goal.loop-word-preserved
loop-word-preserved c =
    let one = named_one c.args.model.now c.args.index.now c.in-Some.word.now c.in-Some-find.x c.requires c.in-Some-find.ensures in
    record {
      fit = ap (list_all (is_itv c.args.model.now)) c.in_ok-push.ensures.ok ∙ all_push (is_itv c.args.model.now) c.loop-word.order c.in-Some-find.x c.loop-word.invariant.fit one.0;
      same = member_more c.args.model.now c.loop-word.order c.push.new.self c.in-Some-find.x c.in-Some.word.now c.args.words.now c.loop-word.words c.next.new.self c.loop-word.invariant.same c.in-Some.ensures one.1 c.in_ok-push.ensures.ok;
    }
