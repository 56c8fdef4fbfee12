use Rattle.std.proofs.Common.{rules}
use Rattle.energy_pass.proofs.Ending.{sorted_taken}
use Rattle.energy_pass.proofs.ends.fill_ends.Goals as goal

pub returns : goal.returns
returns c = sorted_taken c.args.rows.now c.all_ends.new.ends.items c.sort_ends.new.ends _ c.all_ends.new.ends.len (search rules) c.in_ok-all_ends.ensures (search rules) c.sort_ends.ensures.by_end
