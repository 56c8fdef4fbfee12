use Rattle.std.proofs.Common.{◌≤◌, subst, sym}
use Rattle.region.proofs.Frames.{triangle, few_pairs}
use Rattle.region.proofs.frame.pair_count.Goals as goal

pub returns : goal.returns
returns c = record { value = triangle c.args.j; few = subst (λ n. n ≤ 125000) (sym (triangle c.args.j)) (few_pairs c.args.j c.requires) }
