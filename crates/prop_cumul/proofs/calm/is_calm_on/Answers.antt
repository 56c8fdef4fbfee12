use Rattle.std.proofs.Common.{◌≡◌, false, get_or, length, sym, subst, rules, to_z, of_z, w64}
use Rattle.std.specs.Prelude.{Some, pos}
use Rattle.sched_model.specs.declared.types.Part.{Part}
use Rattle.sched_model.specs.declared.types.Shape.TheVariants.{Pulse}
use Rattle.region.specs.Cells.{bounds_of}
use Rattle.refute_cumul.specs.code.Loads.{is_minus}
use Rattle.prop_cumul.specs.code.Calm.{HasRoomAround, IsCalm, height_of, stretch_of}
use Rattle.prop_cumul.proofs.Raising.{one_alone}
use Rattle.prop_cumul.proofs.Calming.{calm_quiet}
use Rattle.prop_cumul.proofs.calm.is_calm_on.Goals as goal

pub returns : goal.returns
returns c on =
    let m = c.args.at.now.model.now in
    let r = c.args.at.now.region.now.region in
    let b = c.args.at.now.bound in
    let below = c.args.at.now.below in
    let p = c.args.at.now.profile.now in
    let d : Part = record { minus = false; shape = Pulse (pos 0) (pos 0) (pos 0) } in
    let i = get_or c.args.parts.now 0 d in
    let one : length c.args.parts.now ≡ 1 = search rules in
    let lies : IsCalm b below p.levels c.in-Some.calm = search rules in
    let high : height_of c.args.x i.shape ≡ Some c.in-Some-height_of.h = search rules in
    let here : c.bounds-c.result ≡ bounds_of r c.args.x = search rules in
    let around : c.stretch_of-s.result ≡ stretch_of (is_minus below i.minus) i.shape c.bounds-c.result c.in-Some.calm.to = search rules in
    let same : to_z w64 (of_z w64 c.in-Some-height_of.h) ≡ c.in-Some-height_of.h = search rules in
    let room = subst (λ s. HasRoomAround p.levels c.in-Some.calm s c.bounds-c.result.presence c.in-Some-height_of.h) around (subst (λ z. HasRoomAround p.levels c.in-Some.calm c.stretch_of-s.result c.bounds-c.result.presence z) same (c.has_room.ensures on)) in
    calm_quiet m r b below p c.args.x c.args.parts.now i c.in-Some.calm c.in-Some-height_of.h c.requires.ready.of c.requires.ready.profile lies c.requires.parts (sym (one_alone c.args.parts.now d one)) high
    (subst (λ k. HasRoomAround p.levels c.in-Some.calm (stretch_of (is_minus below i.minus) i.shape k c.in-Some.calm.to) k.presence c.in-Some-height_of.h) here room)
