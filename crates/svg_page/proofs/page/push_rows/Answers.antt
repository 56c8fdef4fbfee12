use Rattle.svg_page.proofs.Rows.{four}
use Rattle.svg_page.proofs.page.push_rows.Goals as goal

pub returns : goal.returns
returns c = four _ _ _ _ _ _ _ _ _ _ (rw c.scale_of.ensures at c.in_ok-push_scaled.ensures) c.in_ok-push_bars.ensures c.in_ok-push.ensures c.push_bar_names.ensures
