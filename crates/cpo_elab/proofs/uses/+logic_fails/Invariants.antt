use Rattle.std.proofs.Common.{◌≡◌, map, drop}
use Rattle.std.specs.List.{list_any}
use Rattle.cpo_elab.specs.Named.{some_in_logic}
use Rattle.cpo_elab.specs.code.Drafts.{fails}
use Rattle.cpo_elab.proofs.uses.+logic_fails.Given as goal

abbrev pub invariant-any_logic_fails-loop-part : goal.invariant-any_logic_fails-loop-part
invariant-any_logic_fails-loop-part l = list_any (λ b. b) (map (some_in_logic (fails l.stage l.asked)) (drop l.part-index l.parts)) ≡ list_any (λ b. b) (map (some_in_logic (fails l.stage l.asked)) l.parts)
