-- Expressions read on from their first operand: what each level makes of it and of what stands behind it.
use Rattle.std.specs.Prelude.{ℕ, ◌-◌, ◌++◌, map, codes, Some, None}
use Rattle.cpo_text.specs.code.Rules.{bound, behind, if_behind, if_found}
use Rattle.cpo_text.specs.code.Levels.{Trees, read, node, paired, group, linked, total, compare, implies, comparison_at}
use Rattle.cpo_text.specs.code.Levels.Task.{logic, sum, more, terms}
use Rattle.cpo_text.specs.declared.expression.Link.{Link}
use Rattle.cpo_text.specs.declared.expression.Link.TheVariants.{Times, And, Or}

abbrev pub linked_on : ℕ → Link → Trees → Trees
linked_on f l found = bound found (λ a r. bound (read f (more l) r) (λ b r2. Some (node (linked l) (a ++ b), r2)))

abbrev pub total_on : ℕ → Trees → Trees
total_on f found = bound found (λ a r. bound (read f terms r) (λ b r2. Some (node total (a ++ b), r2)))

abbrev pub compared_on : ℕ → Trees → Trees
compared_on f found = bound found (λ a r. if_found (comparison_at r) (λ op r2. bound (read f sum r2) (λ b r3. Some (paired (compare op) a b, r3))) (Some (a, r)))

abbrev pub implied_on : ℕ → Trees → Trees
implied_on f found = bound found (λ a r. if_behind (behind (codes "=>") r) (λ r2. bound (read f logic r2) (λ b r3. Some (paired implies a b, r3))) (Some (a, r)))

-- an atom up through all levels, each with the fuel that is left where an expression with so much comes to it
unfoldable pub all_on : ℕ → Trees → Trees
all_on f found = implied_on (f - 1) (linked_on (f - 2) Or (linked_on (f - 3) And (compared_on (f - 4) (total_on (f - 5) (linked_on (f - 7) Times found)))))

-- in round brackets
abbrev pub grouped_on : Trees → Trees
grouped_on found = bound found (λ a r. if_behind (behind (codes ")") r) (λ r2. Some (map group a, r2)) None)
