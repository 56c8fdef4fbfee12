use Rattle.std.proofs.Common.{◌≡◌, ◌+◌, ◌-◌, ◌<◌, ◌≤◌, length, drop, subst, rules, arith, SFits, w64, length-drop}
use Rattle.std.specs.Fmt.{signed_decimal}
use Rattle.std.proofs.lemmas.Int.{to_z-of_z}
use Rattle.logtext.specs.code.Reads.{moment_words}
use Rattle.logtext.proofs.Spaced.{SoFar, all_put, as_map, item_behind, last_word, none_so_far, one_more, stops_at}
use Rattle.logtext.proofs.writer.LogWriter.put_numbers.Goals as goal

pub loop-i-init : goal.loop-i-init
loop-i-init g c =
    let zs = drop c.args.from (g.W.Numbers.numbers c.args.w.now) in
    let none : 0 ≡ c.args.from - c.args.from = omega arith in
    record {
      above = omega arith;
      put = subst (λ j. SoFar moment_words zs j c.args.self.now c.args.self.now (g.D.Desk.state c.args.desk.now) (g.D.Desk.state c.args.desk.now)) none (none_so_far moment_words zs);
    }

pub returns-in_err-put_number : goal.returns-in_err-put_number
returns-in_err-put_number g c =
    let below : c.loop-i.i < length (g.W.Numbers.numbers c.args.w.now) = omega arith in
    let item = item_behind (g.W.Numbers.numbers c.args.w.now) c.args.from c.loop-i.i c.number.result c.loop-i.invariant.above below c.number.ensures in
    let fits : SFits w64 c.number.result = search rules in
    as_map signed_decimal (drop c.args.from (g.W.Numbers.numbers c.args.w.now)) {kept = c.put_number.new.self} {t = g.D.Desk.state c.put_number.new.desk}
    (stops_at moment_words (drop c.args.from (g.W.Numbers.numbers c.args.w.now)) (c.loop-i.i - c.args.from) c.number.result c.number.result {kept = c.put_number.new.self} {v = g.D.Desk.state c.put_number.new.desk} item.0 item.1 c.from_residual.ensures.0 c.loop-i.invariant.put (last_word (simp to_z-of_z at c.in_err-put_number.ensures)))

pub loop-i-preserved : goal.loop-i-preserved
loop-i-preserved g c =
    let below : c.loop-i.i < length (g.W.Numbers.numbers c.args.w.now) = omega arith in
    let item = item_behind (g.W.Numbers.numbers c.args.w.now) c.args.from c.loop-i.i c.number.result c.loop-i.invariant.above below c.number.ensures in
    let next : c.loop-i.i - c.args.from + 1 ≡ c.loop-i.i + 1 - c.args.from = omega (arith, c.loop-i.invariant.above) in
    let fits : SFits w64 c.number.result = search rules in
    record {
      above = omega (arith, c.loop-i.invariant.above);
      put = subst (λ j. SoFar moment_words (drop c.args.from (g.W.Numbers.numbers c.args.w.now)) j c.args.self.now c.put_number.new.self (g.D.Desk.state c.args.desk.now) (g.D.Desk.state c.put_number.new.desk)) next
          (one_more moment_words (drop c.args.from (g.W.Numbers.numbers c.args.w.now)) (c.loop-i.i - c.args.from) c.number.result c.number.result item.0 item.1 c.loop-i.invariant.put (last_word (simp to_z-of_z at c.in_ok-put_number.ensures)));
    }

pub returns : goal.returns
returns g c =
    let zs = drop c.args.from (g.W.Numbers.numbers c.args.w.now) in
    let past : length zs ≤ c.loop-i.i - c.args.from = omega (arith, length-drop c.args.from (g.W.Numbers.numbers c.args.w.now)) in as_map signed_decimal zs (all_put moment_words zs (c.loop-i.i - c.args.from) past c.loop-i.invariant.put)
