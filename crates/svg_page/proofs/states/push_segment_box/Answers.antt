use Rattle.std.proofs.Common.{◌≡◌, SFits, w64, rules}
use Rattle.std.specs.Int.RustNames.{unsigned_abs}
use Rattle.std.proofs.lemmas.Int.{to_z-of_z}
use Rattle.svg_page.proofs.Rows.{three}
use Rattle.svg_page.proofs.states.push_segment_box.Goals as goal

pub returns : goal.returns
returns c =
    let fits_p : SFits w64 c.args.s.p = search rules in
    let fits_q : SFits w64 c.args.s.q = search rules in
    let fits_v : SFits w64 c.args.s.v = search rules in
    let state : c.unsigned_abs.result ≡ unsigned_abs c.args.s.v = search rules in
    three _ _ _ _ _ _ _ _ (rw (c.from.ensures, state) at (simp to_z-of_z at c.in_ok-push_outline.ensures)) (simp to_z-of_z at c.in_ok-push_number.ensures) (simp to_z-of_z at c.push_told.ensures)
