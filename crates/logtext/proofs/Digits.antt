-- Bytes put one by one.
use Rattle.std.proofs.Common.{◌≡◌, ℕ, ◌+◌, ◌<◌, ◌≤◌, [], ◌∷◌, ◌++◌, length, take, drop, get_or, sym, ap, ◌∙◌, subst, append-nil}
use Rattle.std.proofs.lemmas.List.{at_drop_more, take-append-drop, take_all, take_more}
use Rattle.std.specs.Prelude.{Ok, Err, IsErr}
use Rattle.sched_base.specs.declared.desk.Failed.{Failed}
use Rattle.sched_base.specs.State.{State}
use Rattle.textline.specs.Lines.{Bytes}
use Rattle.sched_base.specs.declared.desk.Port.TheVariants.{Log}
use Rattle.gatherer.specs.code.Gathering.{Gathers}
use Rattle.gatherer.specs.laws.Gathering.{Answer, goes_on, holds, stops}

-- the bytes before place i were put
abbrev pub BytesSoFar : Bytes → ℕ → Bytes → Bytes → State → State → Type 0
BytesSoFar xs i held kept s t = Gathers Log (take i xs) (Ok tt) held kept s t

pub no_bytes : (xs : Bytes) {held : Bytes} {s : State} → BytesSoFar xs 0 held held s s
no_bytes xs {held = held} = holds (sym (append-nil held))

pub byte_more : (xs : Bytes) (i x d : ℕ) {u : Unit {0}} {held mid kept : Bytes} {s t v : State} → i < length xs → x ≡ get_or xs i d → BytesSoFar xs i held mid s t → Gathers Log (x ∷ []) (Ok u) mid kept t v → BytesSoFar xs (i + 1) held kept s v
byte_more xs i x d {u} {held} {mid} {kept} {s} {t} {v} within is before put =
    subst (λ (bs : Bytes). Gathers Log bs (Ok tt) held kept s v) (ap (λ y. take i xs ++ y ∷ []) is ∙ sym (take_more xs i d within)) (goes_on before put)

pub byte_stops : (xs : Bytes) (i x d : ℕ) {r : Answer} {e : Failed} {held mid kept : Bytes} {s t v : State} → i < length xs → x ≡ get_or xs i d → IsErr r → BytesSoFar xs i held mid s t → Gathers Log (x ∷ []) (Err e) mid kept t v → Gathers Log xs r held kept s v
byte_stops xs i x d {r} {e} {held} {mid} {kept} {s} {t} {v} within is failed before put =
    subst (λ (bs : Bytes). Gathers Log bs r held kept s v) (sym split) (goes_on before (stops (drop (i + 1) xs) failed put))
  where
    split : xs ≡ take i xs ++ (x ∷ drop (i + 1) xs)
    split = sym (take-append-drop i xs) ∙ ap (λ ys. take i xs ++ ys) (at_drop_more (λ ys. ys) xs i d within ∙ ap (λ y. y ∷ drop (i + 1) xs) (sym is))

pub all_bytes : (xs : Bytes) (i : ℕ) {held kept : Bytes} {s t : State} → length xs ≤ i → BytesSoFar xs i held kept s t → Gathers Log xs (Ok tt) held kept s t
all_bytes xs i {held} {kept} {s} {t} past before = subst (λ (bs : Bytes). Gathers Log bs (Ok tt) held kept s t) (take_all i xs past) before
