-- What is fixed stays fixed in each part of a region, and after each fact.
use Rattle.std.proofs.Common.{◌≡◌, ℕ, ◌<◌, ℤ, Bool, true, false, List, length, Option, refl, sym, subst, ◌∙◌, arith, true≢false}
use Rattle.std.specs.Prelude.{nat_lt, not, ◌&&◌, int_le, int_lt}
use Rattle.std.specs.Ordering.{int_eq}
use Rattle.std.proofs.lemmas.Int.{ints}
use Rattle.sched_base.specs.declared.ids.Itv.{Itv}
use Rattle.sched_model.specs.Words.{◌implies◌}
use Rattle.sched_model.specs.Data.{Data}
use Rattle.region.specs.declared.types.Bounds.{Bounds}
use Rattle.region.specs.declared.types.Presence.{Presence}
use Rattle.region.specs.declared.types.Presence.TheVariants as presence
use Rattle.region.specs.declared.types.Claim.{Claim}
use Rattle.region.specs.declared.types.Claim.TheVariants.{Present, Absent, StartLe, StartGe, EndLe, EndGe}
use Rattle.region.specs.declared.types.Topic.{Topic}
use Rattle.region.specs.declared.types.Topic.TheVariants.{One, Two}
use Rattle.region.specs.declared.types.Guess.{Guess}
use Rattle.region.specs.Cells.{Region, bounds_of, is_fixed, is_there, says_absent, says_present, says_maybe}
use Rattle.region.specs.Claims.{is_open_at, guessed, denied}
use Rattle.region.specs.Guesses.{topic, admits, admits_topic, splits, is_ready, with_guess, with_fact, with_bounds, with_order, assumed, refused}
use Rattle.region.specs.laws.Lists.{both_true, length-changed_at}
use Rattle.region.specs.laws.Intervals.{bounds_elsewhere}
use Rattle.region.specs.laws.Narrowing.{splitting}
use Rattle.region.specs.laws.Pairs.{both_stay}
use Rattle.kernel.specs.declared.types.Witness.{Witness}
use Rattle.kernel.specs.declared.types.Line.{Line}
use Rattle.kernel.specs.Derives.{Derives, stays, learns}
use Rattle.region.specs.Looks.{Refuting}
use Rattle.solver.specs.code.OpenIntervals.{HoldsOpen}

-- no claim is unfixed at the bounds of an interval that is fixed
presence_fixed : (p : Presence) (b : Bool) → says_maybe p ≡ true → (not (says_maybe p) && b) ≡ true → ⊥
presence_fixed presence.Maybe b unfixed fixed = cc
presence_fixed presence.Present b unfixed fixed = cc
presence_fixed presence.Absent b unfixed fixed = cc

bound_fixed : (p : Presence) (a b e f : ℤ) (q : Bool) → (not (says_absent p) && q) ≡ true → (not (says_maybe p) && (says_present p implies (int_eq a b && int_eq e f))) ≡ true → (a ≡ b) × (e ≡ f)
bound_fixed presence.Maybe a b e f q unfixed fixed = cc
bound_fixed presence.Absent a b e f q unfixed fixed = cc
bound_fixed presence.Present a b e f q unfixed fixed = (grind (arith, ints), grind (arith, ints))

apart : (a b t : ℤ) (p : Bool) → (p && int_le a t && int_lt t b) ≡ true → a ≡ b → ⊥
apart a b t true h same = grind (arith, ints)
apart a b t false h same = cc

apart_after : (a b t : ℤ) (p : Bool) → (p && int_lt a t && int_le t b) ≡ true → a ≡ b → ⊥
apart_after a b t true h same = grind (arith, ints)
apart_after a b t false h same = cc

assoc : (p q r : Bool) → (p && q && r) ≡ true → (p && (q && r)) ≡ true
assoc true q r h = h
assoc false q r h = cc

pub open_unfixed : (k : Claim) (c : Bounds) → is_open_at k c ≡ true → is_fixed c ≡ true → ⊥
open_unfixed Present c unfixed fixed = presence_fixed c.presence _ unfixed fixed
open_unfixed Absent c unfixed fixed = presence_fixed c.presence _ unfixed fixed
open_unfixed (StartLe t) c unfixed fixed = apart c.smin c.smax t (not (says_absent c.presence)) unfixed (bound_fixed c.presence c.smin c.smax c.emin c.emax (int_le c.smin t && int_lt t c.smax) (assoc (not (says_absent c.presence)) (int_le c.smin t) (int_lt t c.smax) unfixed) fixed).0
open_unfixed (StartGe t) c unfixed fixed = apart_after c.smin c.smax t (not (says_absent c.presence)) unfixed (bound_fixed c.presence c.smin c.smax c.emin c.emax (int_lt c.smin t && int_le t c.smax) (assoc (not (says_absent c.presence)) (int_lt c.smin t) (int_le t c.smax) unfixed) fixed).0
open_unfixed (EndLe t) c unfixed fixed = apart c.emin c.emax t (not (says_absent c.presence)) unfixed (bound_fixed c.presence c.smin c.smax c.emin c.emax (int_le c.emin t && int_lt t c.emax) (assoc (not (says_absent c.presence)) (int_le c.emin t) (int_lt t c.emax) unfixed) fixed).1
open_unfixed (EndGe t) c unfixed fixed = apart_after c.emin c.emax t (not (says_absent c.presence)) unfixed (bound_fixed c.presence c.smin c.smax c.emin c.emax (int_lt c.emin t && int_le t c.emax) (assoc (not (says_absent c.presence)) (int_lt c.emin t) (int_le t c.emax) unfixed) fixed).1

-- the bounds of whatever is fixed are the same, of as many intervals
pub record KeepsFixed (r q : Region) : Type 0 where
  pub size : length q.bounds ≡ length r.bounds
  pub same : (x : Itv) → is_fixed (bounds_of r x) ≡ true → bounds_of q x ≡ bounds_of r x

pub keeps_all : (r : Region) → KeepsFixed r r
keeps_all r = record { size = refl; same = λ x fixed. refl }

pub keeps_on : {r q s : Region} → KeepsFixed r q → KeepsFixed q s → KeepsFixed r s
keeps_on first second = record {
  size = second.size ∙ first.size;
  same = λ x fixed. second.same x (subst (λ b. is_fixed b ≡ true) (sym (first.same x fixed)) fixed) ∙ first.same x fixed;
}

changed_one : (r : Region) (x : Itv) (k : Claim) (f : Bounds → Bounds) → admits_topic r (One x k) ≡ true → KeepsFixed r (with_bounds x f r)
changed_one r x k f h = record {
  size = length-changed_at x.0 f r.bounds;
  same = λ y fixed. bounds_elsewhere x y f r (λ same. open_unfixed k (bounds_of r x) (both_true (nat_lt x.0 (length r.bounds)) (is_open_at k (bounds_of r x)) h).1
      (subst (λ (n : ℕ). is_fixed (bounds_of r (record { 0 = n })) ≡ true) same fixed));
}

refused_keeps : (r : Region) (t : Topic) → admits_topic r t ≡ true → KeepsFixed r (refused t r)
refused_keeps r (One x k) h = changed_one r x k (denied k) h
refused_keeps r (Two p x y) h = record { size = refl; same = λ z fixed. refl }

assumed_keeps : (r : Region) (t : Topic) → admits_topic r t ≡ true → is_ready r t ≡ true → KeepsFixed r (assumed t r)
assumed_keeps r (One x k) h ready = changed_one r x k (guessed k) h
assumed_keeps r (Two p x y) h ready =
    let two = both_true (is_there r x) (is_there r y) ready in
    subst (λ (q : Region). KeepsFixed r (with_order p x y q)) (sym (both_stay r x y two.0 two.1)) (record { size = refl; same = λ z fixed. refl })

pub fact_keeps : (r : Region) (g : Guess) → admits r g ≡ true → KeepsFixed r (with_fact g r)
fact_keeps r g h = refused_keeps r (topic g) h

pub guess_keeps : (r : Region) (g : Guess) → splits r g ≡ true → KeepsFixed r (with_guess g r)
guess_keeps r g h = let two = splitting r g h in assumed_keeps r (topic g) two.0 two.1

pub derives_keep : {W : Type 0} {refutes : Refuting (Witness W)} {m : Data} {best : Option ℤ} {r q : Region} {lines : List (Line W)} → Derives refutes m best r lines q → KeepsFixed r q
derives_keep {r = r} stays = keeps_all r
derives_keep {r = r} (learns {g = g} first rest) = keeps_on (fact_keeps r g first.admitted) (derives_keep rest)

-- so what may be unfixed of the whole is all that may be of a part
unfixed_before : (r q : Region) (x : Itv) (b : Bool) → KeepsFixed r q → is_fixed (bounds_of q x) ≡ false → is_fixed (bounds_of r x) ≡ b → b ≡ false
unfixed_before r q x false keeps unfixed is = refl
unfixed_before r q x true keeps unfixed is = absurd (true≢false (sym (subst (λ b. is_fixed b ≡ true) (sym (keeps.same x is)) is) ∙ unfixed))

pub holds_part : {r q : Region} (list : List ℕ) (count : ℕ) → KeepsFixed r q → HoldsOpen r list count → HoldsOpen q list count
holds_part {r} {q} list count keeps holds x within unfixed =
    holds x (subst (λ n. x.0 < n) keeps.size within) (let before = unfixed_before r q x (is_fixed (bounds_of r x)) keeps unfixed refl in before)
