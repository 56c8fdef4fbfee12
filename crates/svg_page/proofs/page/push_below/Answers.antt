use Rattle.svg_page.proofs.Rows.{six}
use Rattle.svg_page.proofs.page.push_below.Goals as goal

pub returns : goal.returns
returns c =
    six _ _ _ _ _ _ _ _ _ _ _ _ _ _ (rw c.down_to.ensures.value at c.in_ok-push_group.ensures) c.in_ok-push_cumuls.ensures (rw c.cumuls.ensures.list at c.in_ok-push_group-2.ensures) c.in_ok-push_states.ensures (rw c.states.ensures.list at c.in_ok-push_group-3.ensures) c.push_absent_list.ensures
