use Rattle.std.proofs.Common.{◌≡◌, ◌+ℤ◌, true, false, not, ◌||◌, ◌&&◌, int_le, sym, ap, ◌∙◌, rules}
use Rattle.region.specs.Cells.{says_present}
use Rattle.prop_temporal.specs.code.Silence.{earliest_in, latest_in, highest_in, lowest_in}
use Rattle.prop_temporal.specs.laws.Silence.{in_time_told}
use Rattle.prop_temporal.proofs.silence.is_in_time.Goals as goal

pub returns-then-is_in_time_of_second : goal.returns-then-is_in_time_of_second
returns-then-is_in_time_of_second c =
    let yes : c.is_in_time_of_second.result ≡ true = search rules in
    let second : c.is_in_time_of_second.result ≡ (not (says_present c.args.c.presence) || int_le (earliest_in c.args.from c.args.c +ℤ c.args.z) (lowest_in c.args.to c.args.d)) = search rules in
    let first : c.is_in_time_of_first.result ≡ (not (says_present c.args.d.presence) || int_le (highest_in c.args.from c.args.c +ℤ c.args.z) (latest_in c.args.to c.args.d)) = search rules in
    in_time_told c.args.c c.args.from c.args.d c.args.to c.args.z c.is_in_time_of_second.result c.is_in_time_of_first.result second first yes

pub returns-else-is_in_time_of_second : goal.returns-else-is_in_time_of_second
returns-else-is_in_time_of_second c =
    let no : c.is_in_time_of_second.result ≡ false = search rules in
    let second : c.is_in_time_of_second.result ≡ (not (says_present c.args.c.presence) || int_le (earliest_in c.args.from c.args.c +ℤ c.args.z) (lowest_in c.args.to c.args.d)) = search rules in
    no ∙ sym (ap (λ b. b && (not (says_present c.args.d.presence) || int_le (highest_in c.args.from c.args.c +ℤ c.args.z) (latest_in c.args.to c.args.d))) (sym second ∙ no))
