use Rattle.std.proofs.Common.{rules, refl, subst, arith, ◌≡◌, ◌+◌, ◌-◌, ℤ, to_z, of_z, w64}
use Rattle.theta_passes.specs.code.Rows.{row_at}
use Rattle.theta_passes.specs.code.Witnesses.{FullAt}
use Rattle.theta_passes.proofs.shown.Showing.{full_is, ended_is, told_none, one_told, none_told}
use Rattle.theta_passes.proofs.witnesses.full_cut.Goals as goal

pub loop-m-init : goal.loop-m-init
loop-m-init c = record { none = none_told c.args.rows.now c.args.with; known = tt; most = omega arith }

pub loop-m-preserved-then-is_told : goal.loop-m-preserved-then-is_told
loop-m-preserved-then-is_told c =
    let rows = c.args.rows.now in
    let some = c.loop-m-test.true in
    let most = c.loop-m.invariant.most in
    let next : (c.loop-m.m - 1) + 1 ≡ c.loop-m.m = omega (arith, some) in
    let end : ℤ = to_z w64 (of_z w64 (row_at rows (c.loop-m.m - 1)).lct) in
    record {
      none = one_told rows c.args.with (c.loop-m.m - 1) c.loop-m.m end next (search rules) (told_none rows c.args.with end c.loop-m.known (search rules) c.loop-m.invariant.known) c.loop-m.invariant.none;
      known = c.loop-m.invariant.known;
      most = omega (arith, most);
    }

pub returns-in-Some : goal.returns-in-Some
returns-in-Some c =
    let rows = c.args.rows.now in
    let end : ℤ = to_z w64 (of_z w64 (row_at rows (c.loop-m.m - 1)).lct) in
    subst (FullAt rows c.args.with end) c.in-Some.is (full_is rows c.args.with end c.cut_top-top.result c.full_by.result c.requires.near c.requires.sorted c.requires.low (search rules) c.cut_top-top.ensures)

pub loop-m-preserved : goal.loop-m-preserved
loop-m-preserved c =
    let rows = c.args.rows.now in
    let some = c.loop-m-test.true in
    let most = c.loop-m.invariant.most in
    let next : (c.loop-m.m - 1) + 1 ≡ c.loop-m.m = omega (arith, some) in
    let end : ℤ = to_z w64 (of_z w64 (row_at rows (c.loop-m.m - 1)).lct) in
    let full = full_is rows c.args.with end c.cut_top-top.result c.full_by.result c.requires.near c.requires.sorted c.requires.low (search rules) c.cut_top-top.ensures in
    record {
      none = one_told rows c.args.with (c.loop-m.m - 1) c.loop-m.m end next (search rules) (subst (FullAt rows c.args.with end) c.in_default.is full) c.loop-m.invariant.none;
      known = ended_is rows c.args.with end end c.cut_top-top.result c.told_by-known.result c.requires.near c.requires.sorted c.requires.low refl (search rules) c.cut_top-top.ensures;
      most = omega (arith, most);
    }

pub returns : goal.returns
returns c = λ j below.
    let over = c.loop-m-test.false in
    c.loop-m.invariant.none j (omega (arith, over)) below
