use Rattle.std.proofs.Common.{rules, ◌≡◌, [], ◌∷◌, ◌++◌}
use Rattle.cycles.specs.laws.Marking.{blank_more}
use Rattle.cycles.proofs.search.blank.Goals as goal

pub loop-preserved : goal.loop-preserved
loop-preserved c =
    let grown : c.push.new.self.items ≡ c.loop.seen.items ++ 0 ∷ [] = search rules in
    (search rules, rw grown (blank_more c.loop.seen.items c.loop.invariant.1))
