use Rattle.std.proofs.Common.{◌≡◌, true, rules, to_z, of_z, w64}
use Rattle.region.specs.Cells.{says_present}
use Rattle.prop_cumul.proofs.Calming.{lower_is, room_apart, room_whole}
use Rattle.prop_cumul.proofs.calm.has_room.Goals as goal

pub returns-then-ne : goal.returns-then-ne
returns-then-ne c on =
    let from : to_z w64 (of_z w64 c.args.s.from) ≡ c.args.s.from = search rules in
    let to : to_z w64 (of_z w64 c.args.s.to) ≡ c.args.s.to = search rules in
    let h : to_z w64 (of_z w64 c.args.h) ≡ c.args.h = search rules in
    let low = lower_is c.args.profile.now.levels c.args.calm c.args.s.from c.args.s.to c.args.h _ _ _ from to h (c.stays_lower.ensures on) in
    room_whole c.args.profile.now.levels c.args.calm c.args.s c.args.presence c.args.h low

pub returns-then-stays_lower : goal.returns-then-stays_lower
returns-then-stays_lower c on =
    let from : to_z w64 (of_z w64 c.args.s.from) ≡ c.args.s.from = search rules in
    let to : to_z w64 (of_z w64 c.args.s.to) ≡ c.args.s.to = search rules in
    let since : to_z w64 (of_z w64 c.args.s.kept_from) ≡ c.args.s.kept_from = search rules in
    let until : to_z w64 (of_z w64 c.args.s.kept_to) ≡ c.args.s.kept_to = search rules in
    let h : to_z w64 (of_z w64 c.args.h) ≡ c.args.h = search rules in
    let there : says_present c.args.presence ≡ true = search rules in
    let before = lower_is c.args.profile.now.levels c.args.calm c.args.s.from c.args.s.kept_from c.args.h _ _ _ from since h (c.stays_lower-2.ensures (search rules)) in
    let behind = lower_is c.args.profile.now.levels c.args.calm c.args.s.kept_to c.args.s.to c.args.h _ _ _ until to h (c.stays_lower-then-stays_lower.ensures on) in
    room_apart c.args.profile.now.levels c.args.calm c.args.s c.args.presence c.args.h there before behind
