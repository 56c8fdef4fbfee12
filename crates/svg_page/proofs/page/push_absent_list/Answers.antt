use Rattle.svg_page.proofs.Rows.{five}
use Rattle.svg_page.proofs.page.push_absent_list.Goals as goal

pub returns : goal.returns
returns c = five _ _ _ _ _ _ _ _ _ _ _ _ c.in_ok-push_count.ensures c.in_ok-push.ensures c.in_ok-push_group.ensures c.in_ok-push_absent_names.ensures c.push-2.ensures
