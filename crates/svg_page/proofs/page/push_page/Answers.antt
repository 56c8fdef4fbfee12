use Rattle.svg_page.proofs.Rows.{five}
use Rattle.svg_page.proofs.page.push_page.Goals as goal

pub returns : goal.returns
returns c =
    five _ _ _ _ _ _ _ _ _ _ _ _ (rw c.counts_of-counts.ensures at c.in_ok-push_head.ensures)
    (rw (c.drawings_height.ensures.value, c.counts_of-counts.ensures, c.frame_of-frame.ensures) at c.in_ok-push_chart.ensures)
    c.in_ok-push_margin.ensures
    (rw c.frame_of-frame.ensures at c.in_ok-push_below.ensures)
    c.push.ensures
