-- Lists of watchers grow by one propagator.
use Rattle.std.proofs.Common.{◌≡◌, inl, inr, ℕ, zero, suc, ◌+◌, ◌<◌, Bool, true, false, ◌||◌, List, [], ◌∷◌, ◌++◌, length, take, get_or, set, sym, ap, subst, arith, ◌∙◌}
use Rattle.std.specs.Prelude.{IsTrue, All, nat_eq, if◌then◌else◌}
use Rattle.std.specs.List.{list_any}
use Rattle.std.proofs.lemmas.Bool.Decides.{nat_tests}
use Rattle.std.proofs.lemmas.Bool.{true≢false, or_left}
use Rattle.std.proofs.lemmas.List.{get_or-set_same, get_or-set_other}
use Rattle.std.proofs.lemmas.List.Elements.{All-append}
use Rattle.iqueue.specs.code.Queue.{is_in}
use Rattle.iqueue.specs.laws.Ends.{in_end, in_push}
use Rattle.sched_base.specs.declared.ids.Itv.{Itv}
use Rattle.sched_base.specs.declared.ids.Seq.{Seq}
use Rattle.region.specs.declared.types.CellName.{CellName}
use Rattle.region.specs.declared.types.CellName.TheVariants.{Presence, StartMin, StartMax, EndMin, EndMax, Order}
use Rattle.findings.specs.laws.Members.{any_more}
use Rattle.engine.specs.code.Watched.{names_presence, names_bound, names_order}
use Rattle.engine.specs.code.Watching.{Watching, watchers_of}
use Rattle.engine.specs.code.Noted.{noted_at, IsPadded, Noted, AreListed}
use Rattle.base_laws.specs.laws.Numbers.{below_or_last, same_or_not}

below_push : (n k : ℕ) (ks : List ℕ) → k < n → All (λ j. j < n) ks → All (λ j. j < n) (ks ++ k ∷ [])
below_push n k ks less all = All-append (λ j. j < n) ks (k ∷ []) all (one n k less)
  where
    one : (n k : ℕ) → k < n → All (λ j. j < n) (k ∷ [])
    one n k less zero d within = less
    one n k less (suc i) d within = absurd (omega (arith, within))

-- a number noted in one list
abbrev itself : ℕ → ℕ
itself n = n

pub noted_push : (old lists new : List (List ℕ)) (at k : ℕ) → IsPadded old lists → at < length lists → new ≡ set lists at (noted_at lists at ++ k ∷ []) → Noted k (λ (n : ℕ). n) (at ∷ []) old new
noted_push old lists new at k padded within is = record {
  kept = λ i j h. let here = subst (λ l. is_in j l ≡ true) (sym (padded i)) h in same_or_not i at
      (λ e. subst (λ l. is_in j l ≡ true) (sym (there i e)) (in_push k j (noted_at lists at) (subst (λ y. is_in j (noted_at lists y) ≡ true) e here)))
      (λ other. subst (λ l. is_in j l ≡ true) (sym (elsewhere i other)) here);
  noted = λ i one. subst (λ l. is_in k l ≡ true) (sym (there i (only i at one))) (in_end k (noted_at lists at));
  below = λ n less all i. let here = subst (All (λ j. j < n)) (sym (padded i)) (all i) in same_or_not i at
      (λ e. subst (All (λ j. j < n)) (sym (there i e)) (below_push n k (noted_at lists at) less (subst (λ y. All (λ j. j < n) (noted_at lists y)) e here)))
      (λ other. subst (All (λ j. j < n)) (sym (elsewhere i other)) here);
}
  where
    only : (i j : ℕ) → (nat_eq i j || false) ≡ true → i ≡ j
    only i j h = grind (arith, nat_tests)

    there : (i : ℕ) → i ≡ at → noted_at new i ≡ noted_at lists at ++ k ∷ []
    there i e = ap (λ l. noted_at l i) is ∙ ap (noted_at (set lists at (noted_at lists at ++ k ∷ []))) e ∙ get_or-set_same lists at (noted_at lists at ++ k ∷ []) [] within

    elsewhere : (i : ℕ) → (i ≡ at → ⊥) → noted_at new i ≡ noted_at lists i
    elsewhere i other = ap (λ l. noted_at l i) is ∙ get_or-set_other lists at i (noted_at lists at ++ k ∷ []) [] other

next : (n : ℕ) → n + 1 ≡ suc n
next n = omega arith

pub noted_more : {X : Type 0} (k : ℕ) (place : X → ℕ) (xs : List X) (n : ℕ) (x : X) (a b c : List (List ℕ)) → Noted k place (take n xs) a b → n < length xs → x ≡ get_or xs n x → Noted k (λ (n : ℕ). n) (place x ∷ []) b c → Noted k place (take (n + 1) xs) a c
noted_more k place xs n x a b c before within is now = record {
  kept = λ i j h. now.kept i j (before.kept i j h);
  noted = λ i one. elim (any_more (λ y. nat_eq i (place y)) xs n x within is (subst (λ m. list_any (λ y. nat_eq i (place y)) (take m xs) ≡ true) (next n) one)) [
    | inl e ↦ now.noted i (or_left (nat_eq i (place x)) false e)
    | inr e ↦ now.kept i k (before.noted i e)
  ];
  below = λ m less all. now.below m less (before.below m less all);
}

below_more : (n : ℕ) (ks : List ℕ) → All (λ k. k < n) ks → All (λ k. k < n + 1) ks
below_more n ks all i d within = omega (arith, all i d within)

record IsPushed (b : Bool) (k : ℕ) (ks new : List ℕ) : Type 0 where
  kept : (j : ℕ) → is_in j ks ≡ true → is_in j new ≡ true
  has : b ≡ true → is_in k new ≡ true
  below : (n : ℕ) → k < n → All (λ j. j < n) ks → All (λ j. j < n) new

push_chosen : (b : Bool) (k : ℕ) (ks new : List ℕ) → new ≡ (if b then ks ++ k ∷ [] else ks) → IsPushed b k ks new
push_chosen true k ks new is = record {
  kept = λ j h. subst (λ l. is_in j l ≡ true) (sym is) (in_push k j ks h);
  has = λ h. subst (λ l. is_in k l ≡ true) (sym is) (in_end k ks);
  below = λ n less all. subst (All (λ j. j < n)) (sym is) (below_push n k ks less all);
}
push_chosen false k ks new is = record {
  kept = λ j h. subst (λ l. is_in j l ≡ true) (sym is) h;
  has = λ h. absurd (true≢false (sym h));
  below = λ n less all. subst (All (λ j. j < n)) (sym is) all;
}

-- a propagator was noted at the presences, the bounds and the orders of its lists
pub record AreNoted (k : ℕ) (xs ys : List Itv) (ps : List Seq) (old new : Watching) : Type 0 where
  pub presences : Noted k (λ x. x.0) xs old.by_presence new.by_presence
  pub bounds : Noted k (λ y. y.0) ys old.by_bound new.by_bound
  pub orders : Noted k (λ p. p.0) ps old.by_sequence new.by_sequence

watched_kept : (k : ℕ) (xs ys : List Itv) (ps : List Seq) (old new : Watching) → AreNoted k xs ys ps old new
    → (c : CellName) (j : ℕ) → is_in j (watchers_of old c) ≡ true → is_in j (watchers_of new c) ≡ true
watched_kept k xs ys ps old new are (Presence x) j h = are.presences.kept x.0 j h
watched_kept k xs ys ps old new are (StartMin x) j h = are.bounds.kept x.0 j h
watched_kept k xs ys ps old new are (StartMax x) j h = are.bounds.kept x.0 j h
watched_kept k xs ys ps old new are (EndMin x) j h = are.bounds.kept x.0 j h
watched_kept k xs ys ps old new are (EndMax x) j h = are.bounds.kept x.0 j h
watched_kept k xs ys ps old new are (Order p x y) j h = are.orders.kept p.0 j h

watched_noted : (k : ℕ) (xs ys : List Itv) (ps : List Seq) (old new : Watching) → AreNoted k xs ys ps old new
    → (c : CellName) → names_presence xs c → names_bound ys c → names_order ps c → is_in k (watchers_of new c) ≡ true
watched_noted k xs ys ps old new are (Presence x) h b o = are.presences.noted x.0 h
watched_noted k xs ys ps old new are (StartMin x) h b o = are.bounds.noted x.0 b
watched_noted k xs ys ps old new are (StartMax x) h b o = are.bounds.noted x.0 b
watched_noted k xs ys ps old new are (EndMin x) h b o = are.bounds.noted x.0 b
watched_noted k xs ys ps old new are (EndMax x) h b o = are.bounds.noted x.0 b
watched_noted k xs ys ps old new are (Order p x y) h b o = are.orders.noted p.0 o

pub listed_more : (k : ℕ) (watching : ℕ → CellName → Bool) (watching_best : ℕ → Bool) (xs ys : List Itv) (ps : List Seq) (b : Bool) (old new : Watching)
    → AreListed k watching watching_best old → AreNoted k xs ys ps old new
    → ((c : CellName) → IsTrue (watching k c) → names_presence xs c) → ((c : CellName) → IsTrue (watching k c) → names_bound ys c) → ((c : CellName) → IsTrue (watching k c) → names_order ps c)
    → b ≡ watching_best k → new.by_best ≡ (if b then old.by_best ++ k ∷ [] else old.by_best)
    → AreListed (k + 1) watching watching_best new
listed_more k watching watching_best xs ys ps b old new are noted there bounded ordered asked best =
    let pushed = push_chosen b k old.by_best new.by_best best in
    record {
      cells = λ j c less watched. elim (below_or_last j k less) [
        | inl before ↦ watched_kept k xs ys ps old new noted c j (are.cells j c before watched)
        | inr e ↦ let it = subst (λ i. watching i c ≡ true) e watched in
            subst (λ i. is_in i (watchers_of new c) ≡ true) (sym e) (watched_noted k xs ys ps old new noted c (there c it) (bounded c it) (ordered c it))
      ];
      best = λ j less watched. elim (below_or_last j k less) [
        | inl before ↦ pushed.kept j (are.best j before watched)
        | inr e ↦ subst (λ i. is_in i new.by_best ≡ true) (sym e) (pushed.has (asked ∙ subst (λ i. watching_best i ≡ true) e watched))
      ];
      below = record {
        by_presence = noted.presences.below (k + 1) (omega arith) (λ i. below_more k (noted_at old.by_presence i) (are.below.by_presence i));
        by_bound = noted.bounds.below (k + 1) (omega arith) (λ i. below_more k (noted_at old.by_bound i) (are.below.by_bound i));
        by_sequence = noted.orders.below (k + 1) (omega arith) (λ i. below_more k (noted_at old.by_sequence i) (are.below.by_sequence i));
        by_best = pushed.below (k + 1) (omega arith) (below_more k old.by_best are.below.by_best);
      };
    }
