-- The constraints of a calendar are such as a text can write: a negative number has its minus, and no interval is multiplied.
use Rattle.std.proofs.Common.{◌≡◌, ℤ, pos, neg_ℤ, Bool, true, false, not, ◌&&◌, List, [], ◌∷◌, map, cond, refl, sym, subst, ◌∙◌, arith, append_assoc, append-nil}
use Rattle.std.specs.Prelude.{int_lt, int_le}
use Rattle.std.proofs.lemmas.Int.{ints}
use Rattle.std.proofs.lemmas.Bool.{and_from}
use Rattle.sched_base.specs.declared.ids.Itv.{Itv}
use Rattle.sched_model.specs.declared.types.Expr.{Expr, roll-Expr}
use Rattle.sched_model.specs.declared.types.Expr.TheOpen.{Expr-F as expr}
use Rattle.sched_model.specs.declared.types.Expr.TheFolds.{fold-Expr, fold-roll-Expr}
use Rattle.sched_model.specs.declared.types.CompareOp.{CompareOp}
use Rattle.sched_model.specs.declared.types.CompareOp.TheVariants as op
use Rattle.sched_model.specs.Data.{Data, with_constraint}
use Rattle.calendar.specs.declared.step.Pair.{Pair}
use Rattle.calendar.specs.declared.rules.Demand.{Demand}
use Rattle.calendar.specs.declared.rules.Demand.TheVariants.{Start, Extent}
use Rattle.calendar.specs.Rules.{number_of, start_as, end_as, is_empty_of, rule_of, with_constraints}
use Rattle.cpo_elab.specs.declared.factors.Factor.{Factor}
use Rattle.cpo_elab.specs.declared.factors.Factor.TheVariants.{Free, Named}
use Rattle.cpo_elab.specs.Judged.{is_crowded}
use Rattle.read_back.specs.Written.{written_step, factor_step, factor, is_written}
use Rattle.read_back.proofs.written.Fine.{Fine}
use Rattle.read_back.proofs.written.Stated.{constraint_more}

record Plain (f : Factor) (e : Expr) : Type 0 where
  written : fold-Expr Bool written_step e ≡ true
  factor : factor e ≡ f

number_plain : (z : ℤ) → Plain Free (number_of z)
number_plain z = by_case (int_lt z (pos 0)) refl
  where
    low : (z : ℤ) → int_lt z (pos 0) ≡ true → int_le (pos 0) (neg_ℤ z) ≡ true
    low z h = grind (arith, ints)

    high : (z : ℤ) → int_lt z (pos 0) ≡ false → int_le (pos 0) z ≡ true
    high z h = grind (arith, ints)

    by_case : (b : Bool) → int_lt z (pos 0) ≡ b → Plain Free (cond b (roll-Expr (expr.Neg (roll-Expr (expr.Lit (neg_ℤ z))))) (roll-Expr (expr.Lit z)))
    by_case true is = record {
      written = fold-roll-Expr Bool written_step (expr.Neg (roll-Expr (expr.Lit (neg_ℤ z)))) ∙ fold-roll-Expr Bool written_step (expr.Lit (neg_ℤ z)) ∙ low z is;
      factor = fold-roll-Expr Factor factor_step (expr.Neg (roll-Expr (expr.Lit (neg_ℤ z)))) ∙ fold-roll-Expr Factor factor_step (expr.Lit (neg_ℤ z));
    }
    by_case false is = record {
      written = fold-roll-Expr Bool written_step (expr.Lit z) ∙ high z is;
      factor = fold-roll-Expr Factor factor_step (expr.Lit z);
    }

compare_plain : (o : CompareOp) (a b : Expr) → Plain Named a → Plain Free b → Plain Named (roll-Expr (expr.Compare o a b))
compare_plain o a b p q = record {
  written = fold-roll-Expr Bool written_step (expr.Compare o a b) ∙ and_from (fold-Expr Bool written_step a) (fold-Expr Bool written_step b) p.written q.written;
  factor = fold-roll-Expr Factor factor_step (expr.Compare o a b) ∙ (λ i. factor_step (expr.Compare o (p.factor i) (q.factor i)));
}

start_plain : (o : CompareOp) (x : Itv) (z : ℤ) → Plain Named (start_as o x z)
start_plain o x z = compare_plain o (roll-Expr (expr.StartOf x (pos 0))) (number_of z)
    (record { written = fold-roll-Expr Bool written_step (expr.StartOf x (pos 0)); factor = fold-roll-Expr Factor factor_step (expr.StartOf x (pos 0)) }) (number_plain z)

end_plain : (o : CompareOp) (x : Itv) (z : ℤ) → Plain Named (end_as o x z)
end_plain o x z = compare_plain o (roll-Expr (expr.EndOf x (pos 0))) (number_of z)
    (record { written = fold-roll-Expr Bool written_step (expr.EndOf x (pos 0)); factor = fold-roll-Expr Factor factor_step (expr.EndOf x (pos 0)) }) (number_plain z)

empty_plain : (x : Itv) → Plain Named (is_empty_of x)
empty_plain x = compare_plain op.Eq (roll-Expr (expr.SizeOf x (pos 0))) (roll-Expr (expr.Lit (pos 0)))
    (record { written = fold-roll-Expr Bool written_step (expr.SizeOf x (pos 0)); factor = fold-roll-Expr Factor factor_step (expr.SizeOf x (pos 0)) })
    (record { written = fold-roll-Expr Bool written_step (expr.Lit (pos 0)); factor = fold-roll-Expr Factor factor_step (expr.Lit (pos 0)) })

two_plain : (a b : Expr) → Plain Named a → Plain Named b → Plain Named (roll-Expr (expr.Or (a ∷ b ∷ [])))
two_plain a b p q = record {
  written = fold-roll-Expr Bool written_step (expr.Or (a ∷ b ∷ [])) ∙ (λ i. written_step (expr.Or (p.written i ∷ q.written i ∷ [])));
  factor = fold-roll-Expr Factor factor_step (expr.Or (a ∷ b ∷ [])) ∙ (λ i. factor_step (expr.Or (p.factor i ∷ q.factor i ∷ [])));
}

three_plain : (a b c : Expr) → Plain Named a → Plain Named b → Plain Named c → Plain Named (roll-Expr (expr.Or (a ∷ b ∷ c ∷ [])))
three_plain a b c p q r = record {
  written = fold-roll-Expr Bool written_step (expr.Or (a ∷ b ∷ c ∷ [])) ∙ (λ i. written_step (expr.Or (p.written i ∷ q.written i ∷ r.written i ∷ [])));
  factor = fold-roll-Expr Factor factor_step (expr.Or (a ∷ b ∷ c ∷ [])) ∙ (λ i. factor_step (expr.Or (p.factor i ∷ q.factor i ∷ r.factor i ∷ [])));
}

present_plain : (x : Itv) (e : Expr) → Plain Named e → Plain Named (roll-Expr (expr.Implies (roll-Expr (expr.PresenceOf x)) e))
present_plain x e p = record {
  written = fold-roll-Expr Bool written_step (expr.Implies (roll-Expr (expr.PresenceOf x)) e) ∙ (λ i. written_step (expr.Implies (fold-roll-Expr Bool written_step (expr.PresenceOf x) i) (p.written i)));
  factor = fold-roll-Expr Factor factor_step (expr.Implies (roll-Expr (expr.PresenceOf x)) e) ∙ (λ i. factor_step (expr.Implies (fold-roll-Expr Factor factor_step (expr.PresenceOf x) i) (p.factor i)));
}

written_plain : (m : Data) (e : Expr) → Plain Named e → (fold-Expr Bool written_step e && not (is_crowded (factor e))) ≡ true
written_plain m e p = (λ i. p.written i && not (is_crowded (p.factor i)))

rule_written : (m : Data) (demand : Demand) (x : Itv) (r : Pair) → is_written m (rule_of demand x r) ≡ true
rule_written m Start x r = written_plain m _ (present_plain x _ (two_plain (start_as op.Lt x r.t) (start_as op.Ge x r.v) (start_plain op.Lt x r.t) (start_plain op.Ge x r.v)))
rule_written m Extent x r = written_plain m _ (present_plain x _ (three_plain (is_empty_of x) (end_as op.Le x r.t) (start_as op.Ge x r.v) (empty_plain x) (end_plain op.Le x r.t) (start_plain op.Ge x r.v)))

rule_fine : (m : Data) (demand : Demand) (x : Itv) (r : Pair) → Fine m → Fine (with_constraint (rule_of demand x r) m)
rule_fine m Start x r before = constraint_more m (rule_of Start x r) before (rule_written m Start x r) (refl, refl)
rule_fine m Extent x r before = constraint_more m (rule_of Extent x r) before (rule_written m Extent x r) (refl, refl)

-- the model with the constraints of a calendar is as a text can write it
pub rules_fine : (m : Data) (demand : Demand) (x : Itv) (rs : List Pair) → Fine m → Fine (with_constraints (map (rule_of demand x) rs) m)
rules_fine m demand x [] before = subst (λ cs. Fine (record m { constraints = cs })) (sym (append-nil m.constraints)) before
rules_fine m demand x (r ∷ rs) before =
    subst (λ cs. Fine (record m { constraints = cs })) (append_assoc m.constraints (rule_of demand x r ∷ []) (map (rule_of demand x) rs))
    (rules_fine (with_constraint (rule_of demand x r) m) demand x rs (rule_fine m demand x r before))
