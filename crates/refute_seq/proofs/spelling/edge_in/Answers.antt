use Rattle.std.specs.Prelude.{◌≡◌, ◌∷◌, pos, IsTrue, IfOk, IfSome, IfNone}
use Rattle.std.proofs.Common.{subst, rules, arith}
use Rattle.std.proofs.lemmas.List.{take_rest}
use Rattle.refute_seq.specs.declared.witness.SeqWitness.{SeqWitness}
use Rattle.refute_seq.specs.Witness.{numbers_of, is_valid}
use Rattle.refute_seq.proofs.KindReading.{front_three, edge_long}
use Rattle.refute_seq.proofs.spelling.edge_in.Goals as goal

pub returns-then-rest-lt3-clause-none : goal.returns-then-rest-lt3-clause-none
returns-then-rest-lt3-clause-none c = λ w valid same. let long = edge_long w c.args.rest.now same in omega (arith, long)

pub returns-clause-some : goal.returns-clause-some
returns-clause-some c = subst (λ zs. IfOk c.edge.result (λ o. IfSome o (λ w. (numbers_of w ≡ pos 3 ∷ zs) × IsTrue (is_valid w)))) (front_three c.args.rest.now _ _ _ _ (omega arith) (search rules) (search rules) (search rules) (take_rest c.args.rest.now 3)) c.edge.ensures.some

pub returns-clause-none : goal.returns-clause-none
returns-clause-none c = subst (λ zs. IfOk c.edge.result (λ o. IfNone o ((w : SeqWitness) → IsTrue (is_valid w) → numbers_of w ≡ pos 3 ∷ zs → ⊥))) (front_three c.args.rest.now _ _ _ _ (omega arith) (search rules) (search rules) (search rules) (take_rest c.args.rest.now 3)) c.edge.ensures.none
