-- The canonical statements of a valid model are as few as a text may have.
use Rattle.std.proofs.Common.{◌≤◌, List, [], ◌∷◌, ◌++◌, map, filter_map, length, Option, Some, None, option_map, arith}
use Rattle.std.specs.List.{cons_option}
use Rattle.std.specs.Option.{option_to_list}
use Rattle.std.proofs.lemmas.List.{length-append, length-map}
use Rattle.sched_model.specs.Data.{Data}
use Rattle.sched_model.specs.Valid.{IsValid}
use Rattle.sched_model.specs.laws.Limits.{limits_of}
use Rattle.cpo_text.specs.declared.tree.Statement.TheVariants.{Constrain}
use Rattle.cpo_elab.specs.Judged.{statement_limit}
use Rattle.read_back.specs.Trees.{interval_tree, matrix_tree, sequence_tree, cumul_tree, state_tree, constraint_tree, objective_tree, canonical_statements}

at_most_all : {X Y : Type 0} (f : X → Option Y) (xs : List X) → length (filter_map f xs) ≤ length xs
at_most_all f [] = omega arith
at_most_all f (x ∷ xs) = by (f x) (at_most_all f xs) where
  by : (o : Option _) → length (filter_map f xs) ≤ length xs → length (cons_option o (filter_map f xs)) ≤ length (x ∷ xs)
  by None h = omega arith
  by (Some y) h = omega arith

at_most_one : {X Y : Type 0} (f : X → Y) (o : Option X) → length (map f (option_to_list o)) ≤ 1
at_most_one f None = omega arith
at_most_one f (Some x) = omega arith

pub few_statements : (m : Data) → IsValid m → length (canonical_statements m) ≤ statement_limit
few_statements m valid =
    let l = limits_of m valid.limits in
    let a = map interval_tree m.intervals in
    let b = map matrix_tree m.matrices in
    let c = filter_map (λ d. option_map (sequence_tree m d) d.name) m.sequences in
    let d = filter_map (λ d. option_map (cumul_tree m d) d.name) m.cumuls in
    let e = map (state_tree m) m.states in
    let f = map (λ c. Constrain (constraint_tree m c)) m.constraints in
    let g = map (objective_tree m) (option_to_list m.objective) in
    let sequences = at_most_all (λ d. option_map (sequence_tree m d) d.name) m.sequences in
    let cumuls = at_most_all (λ d. option_map (cumul_tree m d) d.name) m.cumuls in
    let objective = at_most_one (objective_tree m) m.objective in
    omega (
      arith,
      l.intervals,
      l.matrices,
      l.sequences,
      l.cumuls,
      l.states,
      l.constraints,
      sequences,
      cumuls,
      objective,
      length-map m.intervals interval_tree,
      length-map m.matrices matrix_tree,
      length-map m.states (state_tree m),
      length-map m.constraints (λ c. Constrain (constraint_tree m c)),
      length-append (a ++ b ++ c ++ d ++ e ++ f) g,
      length-append (a ++ b ++ c ++ d ++ e) f,
      length-append (a ++ b ++ c ++ d) e,
      length-append (a ++ b ++ c) d,
      length-append (a ++ b) c,
      length-append a b,
    )
