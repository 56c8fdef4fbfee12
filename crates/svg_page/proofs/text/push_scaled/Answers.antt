use Rattle.svg_page.proofs.Rows.{three}
use Rattle.svg_page.proofs.text.push_scaled.Goals as goal

pub returns : goal.returns
returns c = three _ _ _ _ _ _ _ _ c.in_ok-push_count.ensures c.in_ok-push.ensures c.push_view.ensures
