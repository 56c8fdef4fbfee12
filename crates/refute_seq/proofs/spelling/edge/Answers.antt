use Rattle.std.specs.Prelude.{◌≡◌, ◌+◌, ◌++◌, ◌∷◌, pos, drop, length, IsTrue, true}
use Rattle.std.proofs.Common.{rules, sym, subst}
use Rattle.sched_model.specs.Bounds.{is_number}
use Rattle.refute_seq.specs.declared.witness.SeqWitness.{SeqWitness}
use Rattle.refute_seq.specs.Witness.{numbers_of, is_valid, set_numbers, is_number_set}
use Rattle.refute_seq.proofs.KindReading.{HeadIs, no_head, no_second, no_third, three_read, none_of, some_of, edge_said, edge_made}
use Rattle.refute_seq.proofs.spelling.edge.Goals as goal

pub returns-in_default-clause-none : goal.returns-in_default-clause-none
returns-in_default-clause-none c = λ w valid same.
    no_head c.args.c c.args.side c.args.i _ _ _ (search rules) (search rules) (search rules) c.in_default.ensures.none (edge_said w c.args.c c.args.side c.args.i c.args.numbers.now valid same).0

pub returns-in_default-3-clause-none : goal.returns-in_default-3-clause-none
returns-in_default-3-clause-none c = λ w valid same.
    let s = c.in-Some-2.s in
    let first = some_of (λ t. (set_numbers t ++ drop (1 + length t) c.args.numbers.now ≡ c.args.numbers.now) × IsTrue (is_number_set t)) c.in_ok-s.field-0 s c.in-Some-2.is c.in_ok-s.ensures.some in
    let parts : c.behind-parts.result.now ≡ drop (1 + length s) c.args.numbers.now = search rules in
    no_second s c.args.numbers.now c.behind-parts.result.now first.0 parts (none_of c.in_ok-u.field-0 c.in_default-3.is c.in_ok-u.ensures.none) (edge_said w c.args.c c.args.side c.args.i c.args.numbers.now valid same).1

pub returns-in_default-4-clause-none : goal.returns-in_default-4-clause-none
returns-in_default-4-clause-none c = λ w valid same.
    let s = c.in-Some-2.s in
    let u = c.in-Some-3.u in
    let first = some_of (λ t. (set_numbers t ++ drop (1 + length t) c.args.numbers.now ≡ c.args.numbers.now) × IsTrue (is_number_set t)) c.in_ok-s.field-0 s c.in-Some-2.is c.in_ok-s.ensures.some in
    let second = some_of (λ t. (set_numbers t ++ drop (1 + length t) c.behind-parts.result.now ≡ c.behind-parts.result.now) × IsTrue (is_number_set t)) c.in_ok-u.field-0 u c.in-Some-3.is c.in_ok-u.ensures.some in
    let parts : c.behind-parts.result.now ≡ drop (1 + length s) c.args.numbers.now = search rules in
    let last : c.behind.result.now ≡ drop (1 + length u) c.behind-parts.result.now = search rules in
    no_third s u c.args.numbers.now c.behind-parts.result.now c.behind.result.now first.0 parts second.0 last (none_of c.in_ok-v.field-0 c.in_default-4.is c.in_ok-v.ensures.none) (edge_said w c.args.c c.args.side c.args.i c.args.numbers.now valid same).1

pub returns-clause-some : goal.returns-clause-some
returns-clause-some c =
    let s = c.in-Some-2.s in
    let u = c.in-Some-3.u in
    let v = c.in-Some-4.v in
    let first = some_of (λ t. (set_numbers t ++ drop (1 + length t) c.args.numbers.now ≡ c.args.numbers.now) × IsTrue (is_number_set t)) c.in_ok-s.field-0 s c.in-Some-2.is c.in_ok-s.ensures.some in
    let second = some_of (λ t. (set_numbers t ++ drop (1 + length t) c.behind-parts.result.now ≡ c.behind-parts.result.now) × IsTrue (is_number_set t)) c.in_ok-u.field-0 u c.in-Some-3.is c.in_ok-u.ensures.some in
    let third = some_of (λ t. (set_numbers t ≡ c.behind.result.now) × IsTrue (is_number_set t)) c.in_ok-v.field-0 v c.in-Some-4.is c.in_ok-v.ensures.some in
    let parts : c.behind-parts.result.now ≡ drop (1 + length s) c.args.numbers.now = search rules in
    let last : c.behind.result.now ≡ drop (1 + length u) c.behind-parts.result.now = search rules in
    let head : HeadIs c.args.c c.args.side c.args.i c.in-Some.f = record { first = search rules; second = search rules; third = search rules; small = search rules } in
    let count : true ≡ is_number (4 + length c.args.numbers.now) = search rules in
    subst (λ (w : SeqWitness). (numbers_of w ≡ pos 3 ∷ c.args.c ∷ c.args.side ∷ c.args.i ∷ c.args.numbers.now) × IsTrue (is_valid w)) (sym c.in_ok-witness.ensures)
    (edge_made c.args.c c.args.side c.args.i c.in-Some.f s u v c.args.numbers.now head (three_read s u v c.args.numbers.now c.behind-parts.result.now c.behind.result.now first.0 parts second.0 last third.0) first.1 second.1 third.1 count)
