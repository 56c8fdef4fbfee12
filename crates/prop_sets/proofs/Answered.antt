-- What is answered of a witness that refutes where it is asked.
use Rattle.std.specs.Prelude.{◌≡◌, ℕ, ℤ, Bool, true, false, nat_eq, List, [], ◌∷◌, Option, Some}
use Rattle.std.proofs.Common.{refl, sym, subst, ◌∙◌, arith}
use Rattle.std.proofs.lemmas.Bool.{true≢false}
use Rattle.std.proofs.lemmas.Bool.Decides.{nat_tests}
use Rattle.sched_base.specs.declared.ids.Itv.{Itv}
use Rattle.sched_model.specs.Data.{Data}
use Rattle.region.specs.Cells.{Region}
use Rattle.region.specs.Looks.{seen_at}
use Rattle.region.specs.laws.Lists.{true_both}
use Rattle.findings.specs.Ends.{is_open_end}
use Rattle.findings.specs.code.Likely.{end_guess}
use Rattle.findings.specs.code.Reads.{IsUnrefuted}
use Rattle.refute_seq.specs.declared.witness.SeqWitness.{SeqWitness}
use Rattle.refute_seq.specs.declared.witness.SeqWitness.TheVariants.{Overload, Edge, NotEnd, Detect}
use Rattle.refute_seq.specs.OnSequence.{refutes}
use Rattle.prop_sets.specs.code.Rows.{member_at, side_of}
use Rattle.prop_sets.specs.code.Tasks.{looks_after, quiet}
use Rattle.prop_sets.specs.code.Busy.{IsBusy, name_at, ids_of, likely_pushed}

pub never_unrefuted : (m : Data) (r : Region) (best : Option ℤ) (i : Itv) (w : SeqWitness) → IsBusy m r best i w → IsUnrefuted refutes m r best w (i ∷ []) [] → ⊥
never_unrefuted m r best i w busy none = true≢false (sym busy.refuted ∙ none busy.guess busy.on)

pub never_quiet : (later : Bool) (m : Data) (c : ℕ) (r : Region) (best : Option ℤ) (i : Itv) (w : SeqWitness) → looks_after later m c w ≡ true → IsBusy m r best i w → quiet later m c r best → ⊥
never_quiet later m c r best i w mine busy still = true≢false (sym busy.refuted ∙ still.unrefuted w busy.guess mine busy.asked)

-- each constraint is its own propagator's
pub itself : (c : ℕ) → nat_eq c c ≡ true
itself c = grind (arith, nat_tests)

-- that it is pushed is what the row asks about
pub never_told : (m : Data) (c : ℕ) (r : Region) (best : Option ℤ) (back : Bool) (i : Itv) (s : List ℕ) → is_open_end r (end_guess r (likely_pushed back i)) ≡ true → refutes m (seen_at r best (Some (end_guess r (likely_pushed back i)))) (Detect c (side_of back) i.0 s) ≡ true
    → quiet false m c r best → ⊥
never_told m c r best true i s there refuted still = true≢false (sym refuted ∙ still.unrefuted (Detect c (side_of true) i.0 s) (Some (end_guess r (likely_pushed true i))) (itself c) (true_both _ _ (true_both _ _ (itself i.0) refl) there))
never_told m c r best false i s there refuted still = true≢false (sym refuted ∙ still.unrefuted (Detect c (side_of false) i.0 s) (Some (end_guess r (likely_pushed false i))) (itself c) (true_both _ _ (true_both _ _ (itself i.0) refl) there))

-- the member and the sets as they are made
pub overload_by : (m : Data) (r : Region) (best : Option ℤ) (c k n : ℕ) (i : Itv) (xs : List Itv) (set s : List ℕ) → i ≡ member_at xs k → s ≡ ids_of xs set n → IsBusy m r best (member_at xs k) (Overload c (ids_of xs set n)) → IsBusy m r best i (Overload c s)
overload_by m r best c k n i xs set s is ids busy = subst (λ l. IsBusy m r best i (Overload c l)) (sym ids) (subst (λ j. IsBusy m r best j (Overload c (ids_of xs set n))) (sym is) busy)

pub detect_by : (m : Data) (r : Region) (best : Option ℤ) (c k n a b : ℕ) (i : Itv) (xs : List Itv) (set s : List ℕ) → i ≡ member_at xs k → a ≡ b → s ≡ ids_of xs set n → IsBusy m r best (member_at xs k) (Detect c b (name_at xs k) (ids_of xs set n)) → IsBusy m r best i (Detect c a i.0 s)
detect_by m r best c k n a b i xs set s is side ids busy = subst (λ l. IsBusy m r best i (Detect c a i.0 l)) (sym ids) (subst (λ d. IsBusy m r best i (Detect c d i.0 (ids_of xs set n))) (sym side) (subst (λ j. IsBusy m r best j (Detect c b j.0 (ids_of xs set n))) (sym is) busy))

pub not_end_by : (m : Data) (r : Region) (best : Option ℤ) (c k n a b : ℕ) (i : Itv) (xs : List Itv) (set s : List ℕ) → i ≡ member_at xs k → a ≡ b → s ≡ ids_of xs set n → IsBusy m r best (member_at xs k) (NotEnd c b (name_at xs k) (ids_of xs set n)) → IsBusy m r best i (NotEnd c a i.0 s)
not_end_by m r best c k n a b i xs set s is side ids busy = subst (λ l. IsBusy m r best i (NotEnd c a i.0 l)) (sym ids) (subst (λ d. IsBusy m r best i (NotEnd c d i.0 (ids_of xs set n))) (sym side) (subst (λ j. IsBusy m r best j (NotEnd c b j.0 (ids_of xs set n))) (sym is) busy))

pub edge_by : (m : Data) (r : Region) (best : Option ℤ) (c k n a b : ℕ) (i : Itv) (xs : List Itv) (set part late s u v : List ℕ) → i ≡ member_at xs k → a ≡ b → s ≡ ids_of xs set n → u ≡ ids_of xs part n → v ≡ ids_of xs late n
    → IsBusy m r best (member_at xs k) (Edge c b (name_at xs k) (ids_of xs set n) (ids_of xs part n) (ids_of xs late n)) → IsBusy m r best i (Edge c a i.0 s u v)
edge_by m r best c k n a b i xs set part late s u v is side first second third busy =
    subst (λ l. IsBusy m r best i (Edge c a i.0 l u v)) (sym first)
    (subst (λ l. IsBusy m r best i (Edge c a i.0 (ids_of xs set n) l v)) (sym second)
    (subst (λ l. IsBusy m r best i (Edge c a i.0 (ids_of xs set n) (ids_of xs part n) l)) (sym third)
    (subst (λ d. IsBusy m r best i (Edge c d i.0 (ids_of xs set n) (ids_of xs part n) (ids_of xs late n))) (sym side)
    (subst (λ j. IsBusy m r best j (Edge c b j.0 (ids_of xs set n) (ids_of xs part n) (ids_of xs late n))) (sym is) busy))))
