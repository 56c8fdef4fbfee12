-- The newest region that waits behind the saves.
use Rattle.std.proofs.Common.{◌≡◌, ℕ, ◌<◌, List, [], ◌∷◌, ◌++◌, Option, Some, None, Result, Ok, Err, refl, sym, ap, subst, ◌∙◌, arith, true≢false}
use Rattle.std.specs.Prelude.{IsTrue, All, IsOk, OnOk, IfSome, IfNone}
use Rattle.std.proofs.lemmas.List.Elements.{All-push, All-nil, All-cons, All-head, All-tail}
use Rattle.region.specs.declared.types.Guess.{Guess}
use Rattle.region.specs.Cells.{Region}
use Rattle.region.specs.Guesses.{with_fact, admits, splits}
use Rattle.region.specs.code.Held.{Held, Regains}
use Rattle.region.specs.laws.Narrowing.{splitting}
use Rattle.kernel.specs.code.Pending.{ArePending, AreOpen, after_saved}

all_front : {X : Type 0} (P : X → Type 0) (xs : List X) (y : X) → All P (xs ++ y ∷ []) → All P xs
all_front P [] y h = All-nil P
all_front P (x ∷ xs) y h = All-cons P x xs (All-head P x (xs ++ y ∷ []) h) (all_front P xs y (All-tail P x (xs ++ y ∷ []) h))

all_last : {X : Type 0} (P : X → Type 0) (xs : List X) (y : X) → All P (xs ++ y ∷ []) → P y
all_last P [] y h = All-head P y [] h
all_last P (x ∷ xs) y h = all_last P xs y (All-tail P x (xs ++ y ∷ []) h)

-- the last saved region admits the last guess, and the others go together
open_last : (saved : List Region) (gs : List Guess) (r : Region) (g : Guess) → AreOpen (saved ++ r ∷ []) (gs ++ g ∷ []) → IsTrue (admits r g) × AreOpen saved gs
open_last [] [] r g h = (h.0, tt)
open_last (s ∷ ss) (k ∷ ks) r g h = let rest = open_last ss ks r g h.1 in (rest.0, (h.0, rest.1))
open_last [] (k ∷ []) r g h = absurd h.1
open_last [] (k ∷ l ∷ ks) r g h = absurd h.1
open_last (s ∷ []) [] r g h = absurd h.1
open_last (s ∷ t ∷ ss) [] r g h = absurd h.1

open_push : (saved : List Region) (gs : List Guess) (r : Region) (g : Guess) → AreOpen saved gs → IsTrue (admits r g) → AreOpen (saved ++ r ∷ []) (gs ++ g ∷ [])
open_push [] [] r g h here = (here, tt)
open_push (s ∷ ss) (k ∷ ks) r g h here = (h.0, open_push ss ks r g h.1 here)
open_push [] (k ∷ ks) r g h here = absurd h
open_push (s ∷ ss) [] r g h here = absurd h

after_last : (saved : List Region) (gs : List Guess) (r : Region) (g : Guess) → AreOpen saved gs → after_saved (saved ++ r ∷ []) (gs ++ g ∷ []) ≡ with_fact g r ∷ after_saved saved gs
after_last [] [] r g h = refl
after_last (s ∷ ss) (k ∷ ks) r g h = ap (λ xs. xs ++ with_fact k s ∷ []) (after_last ss ks r g h.1)
after_last [] (k ∷ ks) r g h = absurd h
after_last (s ∷ ss) [] r g h = absurd h

none_waits : (saved : List Region) → AreOpen saved [] → after_saved saved [] ≡ []
none_waits [] h = refl
none_waits (s ∷ ss) h = absurd h

-- a save with its guess is put on the stack
pub put_pending : (old new : Held) (gs gs' : List Guess) (g : Guess) (k : ℕ) → ArePending old gs → IsTrue (splits old.region g)
    → new.saved ≡ old.saved ++ old.region ∷ [] → new.promised ≡ old.promised ++ k ∷ [] → 0 < k → gs' ≡ gs ++ g ∷ [] → ArePending new gs'
put_pending old new gs gs' g k pending split saved promised some guesses = record {
  guesses = rw (saved, guesses) (open_push old.saved gs old.region g pending.guesses (splitting old.region g split).0);
  room = rw promised (All-push (λ n. 0 < n) old.promised k pending.room some);
}

pub put_next : (old new : Held) (gs gs' : List Guess) (g : Guess) → ArePending old gs
    → new.saved ≡ old.saved ++ old.region ∷ [] → gs' ≡ gs ++ g ∷ [] → after_saved new.saved gs' ≡ with_fact g old.region ∷ after_saved old.saved gs
put_next old new gs gs' g pending saved guesses = rw (saved, guesses) (after_last old.saved gs old.region g pending.guesses)

-- what is known after the newest save is taken from the stack
pub record Newest (old new : Held) (gs gs' : List Guess) (g : Guess) : Type 0 where
  pub admits_it : IsTrue (admits new.region g)
  pub others : ArePending new gs'
  pub spare : 0 < new.spare
  pub next : with_fact g new.region ∷ after_saved new.saved gs' ≡ after_saved old.saved gs

regained : (old new : Held) → All (λ n. 0 < n) old.promised → Regains old new → All (λ n. 0 < n) new.promised × (0 < new.spare)
regained old new room back =
    let room' = subst (All (λ n. 0 < n)) back.1 room in
    let last = all_last (λ n. 0 < n) new.promised back.0 room' in
    (all_front (λ n. 0 < n) new.promised back.0 room', omega (arith, last, back.2))

pub newest : (old new : Held) (gs gs' : List Guess) (g : Guess) → ArePending old gs
    → old.saved ≡ new.saved ++ new.region ∷ [] → Regains old new → gs ≡ gs' ++ g ∷ [] → Newest old new gs gs' g
newest old new gs gs' g pending saved back guesses =
    let both = open_last new.saved gs' new.region g (subst (λ xs. AreOpen xs (gs' ++ g ∷ [])) saved (subst (AreOpen old.saved) guesses pending.guesses)) in
    let left = regained old new pending.room back in
    record {
      admits_it = both.0;
      others = record { guesses = both.1; room = left.0 };
      spare = left.1;
      next = sym (ap (λ xs. after_saved xs gs) saved ∙ ap (after_saved (new.saved ++ new.region ∷ [])) guesses ∙ after_last new.saved gs' new.region g both.1);
    }

pub no_newest : (old : Held) (gs gs' : List Guess) → ArePending old gs → gs ≡ gs' ++ [] → gs' ≡ [] → [] ≡ after_saved old.saved gs
no_newest old gs gs' pending is none = let empty : gs ≡ [] = is ∙ ap (λ xs. xs ++ []) none in
    sym (ap (after_saved old.saved) empty ∙ none_waits old.saved (subst (AreOpen old.saved) empty pending.guesses))

-- where there was room, it was used
pub with_room : {T E P : Type 0} (r : Result T E) (n : ℕ) → (0 < n → IsOk r) → 0 < n → OnOk r P → P
with_room (Ok x) n given room is = is
with_room (Err e) n given room is = absurd (true≢false (sym (given room)))

-- what holds in any case holds of an answer, and where there is none
pub where_some : {A : Type 0} {X : Type 0} (o : Option A) → X → IfSome o (λ a. X)
where_some None is = tt
where_some (Some a) is = is

pub where_none : {A : Type 0} {X : Type 0} (o : Option A) → X → IfNone o X
where_none None is = is
where_none (Some a) is = tt

-- the newest region that waits takes the fact
pub newest_next : (old new after : Held) (gs gs' : List Guess) (g : Guess) → Newest old new gs gs' g → after.region ≡ with_fact g new.region → after.saved ≡ new.saved
    → after.region ∷ after_saved after.saved gs' ≡ after_saved old.saved gs
newest_next old new after gs gs' g is region saved = rw (region, saved) is.next
