use Rattle.svg_page.proofs.Rows.{four}
use Rattle.svg_page.proofs.text.push_framed.Goals as goal

pub returns : goal.returns
returns c = four _ _ _ _ _ _ _ _ _ _ c.in_ok-push_box.ensures c.in_ok-push.ensures c.in_ok-push_name.ensures c.push-2.ensures
