-- Where no set overloads on one side, none does on the other.
use Rattle.std.specs.Prelude.{◌≡◌, ℕ, Bool, true, false, List, [], ◌∷◌, length, Option, Some, None}
use Rattle.std.proofs.Common.{refl, sym, subst, ◌∙◌, inl, inr}
use Rattle.std.proofs.lemmas.Bool.{true≢false}
use Rattle.sched_base.specs.declared.ids.Itv.{Itv}
use Rattle.sched_base.specs.declared.ids.Seq.{Seq}
use Rattle.sched_model.specs.Data.{Data}
use Rattle.region.specs.Cells.{Region}
use Rattle.task_sets.specs.Times.{has, overload_row}
use Rattle.task_sets.specs.laws.Sums.{has_first}
use Rattle.theta_passes.specs.declared.rows.Row.{Row}
use Rattle.theta_passes.specs.code.Rows.{times_at}
use Rattle.theta_passes.specs.code.Over.{NoOverloads, Overfull}
use Rattle.theta_passes.specs.code.Witnesses.{members_of}
use Rattle.prop_sets.specs.code.Tasks.{sequence_at}
use Rattle.prop_sets.specs.code.Given.{IsOf, IsRowed}
use Rattle.prop_sets.specs.code.Busy.{IsOverFound, ids_of}
use Rattle.prop_sets.specs.code.Sides.{NoEdge}
use Rattle.prop_sets.specs.laws.Silent.{IsEased, room_by_edge, overload_silent}
use Rattle.prop_sets.proofs.Asking.{busy_overload}
use Rattle.prop_sets.proofs.Shown.{set_of_one, over_shown}

pub none_turned : (m : Data) (c d : ℕ) (p q : Seq) (r : Region) (xs ys : List Itv) (back chosen early : Bool) (rows : List Row) → c ≡ d → IsOf m c p r xs → NoEdge 0 r xs → IsRowed m d q r ys back chosen early rows → NoOverloads rows
none_turned m c d p q r xs ys back chosen early rows same of edge rowed = record {
  alone = λ s is. none None (s, is) s is;
  with_i = λ i s candidate is. none (Some i) (candidate, s, is) s is;
}
  where
    eased : IsEased m d p r
    eased = record { valid = of.valid; of = of.of; sequence = subst (λ n. sequence_at m n ≡ Some p) same of.sequence; xs = xs; members = of.members; room = room_by_edge r xs edge }

    shown : (s : List ℕ) (k : ℕ) → IsOverFound rows k s → ⊥
    shown s k found =
        let busy = busy_overload m d q r None ys back chosen early rows k s rowed found in
        true≢false (sym busy.refuted ∙ overload_silent m d p r None (ids_of ys s (length m.intervals)) eased busy.guess busy.asked)

    one : (i x : ℕ) (s : List ℕ) (found : Overfull rows (Some i)) → overload_row (times_at rows) (members_of rows (Some i)) (x ∷ s) ≡ true → (b : Bool) → has (x ∷ s) i ≡ b → ⊥
    one i x s found is true here = shown (x ∷ s) i (over_shown rows (Some i) (x ∷ s) i found is here (inl refl))
    one i x s found is false off = shown (x ∷ s) x (over_shown rows (Some i) (x ∷ s) x found is (has_first x s) (inr off))

    none : (with : Option ℕ) → Overfull rows with → (s : List ℕ) → overload_row (times_at rows) (members_of rows with) s ≡ true → ⊥
    none with found [] is = let some = set_of_one rows with [] is in none_there some.0 some.1 some.2
      where
        none_there : (y : ℕ) (ys : List ℕ) → [] ≡ y ∷ ys → ⊥
        none_there y ys e = cc
    none None found (x ∷ s) is = shown (x ∷ s) x (over_shown rows None (x ∷ s) x found is (has_first x s) tt)
    none (Some i) found (x ∷ s) is = one i x s found is (has (x ∷ s) i) refl
