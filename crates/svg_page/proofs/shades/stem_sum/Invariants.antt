use Rattle.std.proofs.Common.{◌≡◌, ◌≤◌, ◌*◌, None, drop}
use Rattle.svg_page.specs.Shades.{stem_sum}
use Rattle.svg_page.proofs.shades.stem_sum.Given as goal

abbrev pub invariant-loop-b : goal.invariant-loop-b
invariant-loop-b l = record {
  same : stem_sum l.found l.total (drop l.b-index l.name) ≡ stem_sum None 0 l.name;
  few : l.total ≤ 255 * l.b-index;
}
