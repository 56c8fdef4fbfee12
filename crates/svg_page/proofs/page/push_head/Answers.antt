use Rattle.svg_page.proofs.Rows.{four}
use Rattle.svg_page.proofs.page.push_head.Goals as goal

pub returns : goal.returns
returns c = four _ _ _ _ _ _ _ _ _ _ (rw c.page_height.ensures at c.in_ok-push_count.ensures) (rw c.letter_size.ensures at c.in_ok-push_count-2.ensures) c.in_ok-push.ensures c.push_style.ensures
