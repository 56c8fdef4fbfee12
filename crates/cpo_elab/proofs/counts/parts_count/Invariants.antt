use Rattle.std.proofs.Common.{◌≡◌, ◌+◌, ℕ, drop, flat_map, length}
use Rattle.cpo_elab.specs.Elaborated.{parts_signed, parts_in}
use Rattle.cpo_elab.specs.code.Drafts.{capped}
use Rattle.cpo_elab.proofs.counts.parts_count.Given as goal

abbrev pub invariant-loop-s : goal.invariant-loop-s
invariant-loop-s l = (x : ℕ) × (l.total ≡ capped x) × (x + length (flat_map (parts_signed l.draft) (drop l.s-index l.c.more)) ≡ length (parts_in l.draft l.c))
