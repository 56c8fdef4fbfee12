-- Words put one after another, each with a space before it.
use Rattle.std.proofs.Common.{◌≡◌, ℕ, ◌+◌, ◌-◌, ◌<◌, ◌≤◌, List, [], ◌∷◌, ◌++◌, length, map, take, drop, get_or, slice_get, sym, ap, ◌∙◌, subst, arith, append-nil, length-drop}
use Rattle.std.proofs.lemmas.Grind.{flat_map-append}
use Rattle.std.proofs.lemmas.List.Concat.{flat_map_single}
use Rattle.std.proofs.lemmas.List.{at_drop_more, flat_map_more, get_or-drop, take-append-drop, take_all, take_more}
use Rattle.std.proofs.lemmas.Option.{get_or_from_slice_get}
use Rattle.std.specs.Prelude.{Some, Ok, Err, IsErr}
use Rattle.std.specs.List.{flat_map}
use Rattle.sched_base.specs.declared.desk.Failed.{Failed}
use Rattle.sched_base.specs.State.{State}
use Rattle.textline.specs.Lines.{Bytes, line, spaced}
use Rattle.textline.specs.laws.Spaced.{spaced_append, line_is}
use Rattle.sched_base.specs.declared.desk.Port.TheVariants.{Log}
use Rattle.gatherer.specs.code.Gathering.{Gathers}
use Rattle.gatherer.specs.laws.Gathering.{Answer, goes_on, holds, stops}

-- the only word
pub last_word : {w : Bytes} {r : Answer} {held kept : Bytes} {s t : State} → Gathers Log (32 ∷ w) r held kept s t → Gathers Log (spaced (w ∷ [])) r held kept s t
unfolding spaced
last_word {w} {r} {held} {kept} {s} {t} put = subst (λ (bs : Bytes). Gathers Log (32 ∷ bs) r held kept s t) (sym (append-nil w)) put

-- a word, and those behind it
pub first_word : {w : Bytes} (ws : List Bytes) {u : Unit {0}} {r : Answer} {held mid kept : Bytes} {s t v : State} → Gathers Log (32 ∷ w) (Ok u) held mid s t → Gathers Log (spaced ws) r mid kept t v → Gathers Log (spaced (w ∷ ws)) r held kept s v
unfolding spaced
first_word ws first others = goes_on first others

pub no_word : {w : Bytes} (ws : List Bytes) {r : Answer} {e : Failed} {held kept : Bytes} {s t : State} → IsErr r → Gathers Log (32 ∷ w) (Err e) held kept s t → Gathers Log (spaced (w ∷ ws)) r held kept s t
unfolding spaced
no_word ws failed first = stops (spaced ws) failed first

-- words, and those behind them
pub words_on : (vs ws : List Bytes) {u : Unit {0}} {r : Answer} {held mid kept : Bytes} {s t v : State} → Gathers Log (spaced vs) (Ok u) held mid s t → Gathers Log (spaced ws) r mid kept t v → Gathers Log (spaced (vs ++ ws)) r held kept s v
words_on vs ws first others = rw (spaced_append vs ws) (goes_on first others)

pub words_stop : (vs ws : List Bytes) {r : Answer} {e : Failed} {held kept : Bytes} {s t : State} → IsErr r → Gathers Log (spaced vs) (Err e) held kept s t → Gathers Log (spaced (vs ++ ws)) r held kept s t
words_stop vs ws failed first = rw (spaced_append vs ws) (stops (spaced ws) failed first)

-- the words of the items before i were put
abbrev pub SoFar : {X : Type 0} → (X → List Bytes) → List X → ℕ → Bytes → Bytes → State → State → Type 0
SoFar f xs i held kept s t = Gathers Log (spaced (flat_map f (take i xs))) (Ok tt) held kept s t

flat_map_take : {X : Type 0} (f : X → List Bytes) (xs : List X) (i : ℕ) (d : X) → i < length xs → flat_map f (take i xs) ++ f (get_or xs i d) ≡ flat_map f (take (i + 1) xs)
flat_map_take f xs i d within = flat_map_more f [] (take i xs) (get_or xs i d) ∙ ap (flat_map f) (sym (take_more xs i d within))

split_at : {X : Type 0} (f : X → List Bytes) (xs : List X) (i : ℕ) (x d : X) → i < length xs → x ≡ get_or xs i d → flat_map f xs ≡ flat_map f (take i xs) ++ (f x ++ flat_map f (drop (i + 1) xs))
split_at f xs i x d within is =
    ap (flat_map f) (sym (take-append-drop i xs))
    ∙ flat_map-append f (take i xs) (drop i xs)
    ∙ ap (λ ws. flat_map f (take i xs) ++ ws) (at_drop_more (flat_map f) xs i d within ∙ ap (λ y. f y ++ flat_map f (drop (i + 1) xs)) (sym is))

pub none_so_far : {X : Type 0} (f : X → List Bytes) (xs : List X) {held : Bytes} {s : State} → SoFar f xs 0 held held s s
unfolding spaced
none_so_far f xs {held = held} = holds (sym (append-nil held))

pub one_more : {X : Type 0} (f : X → List Bytes) (xs : List X) (i : ℕ) (x d : X) {u : Unit {0}} {held mid kept : Bytes} {s t v : State} → i < length xs → x ≡ get_or xs i d
    → SoFar f xs i held mid s t → Gathers Log (spaced (f x)) (Ok u) mid kept t v → SoFar f xs (i + 1) held kept s v
one_more f xs i x d {u} {held} {mid} {kept} {s} {t} {v} within is before put =
    subst (λ ws. Gathers Log (spaced ws) (Ok tt) held kept s v)
    (ap (λ y. flat_map f (take i xs) ++ f y) is ∙ flat_map_take f xs i d within)
    (words_on _ _ before put)

pub stops_at : {X : Type 0} (f : X → List Bytes) (xs : List X) (i : ℕ) (x d : X) {r : Answer} {e : Failed} {held mid kept : Bytes} {s t v : State} → i < length xs → x ≡ get_or xs i d
    → IsErr r → SoFar f xs i held mid s t → Gathers Log (spaced (f x)) (Err e) mid kept t v → Gathers Log (spaced (flat_map f xs)) r held kept s v
stops_at f xs i x d {r} {e} {held} {mid} {kept} {s} {t} {v} within is failed before put =
    subst (λ ws. Gathers Log (spaced ws) r held kept s v) (sym (split_at f xs i x d within is)) (words_on _ _ before (words_stop _ _ failed put))

pub all_put : {X : Type 0} (f : X → List Bytes) (xs : List X) (i : ℕ) {held kept : Bytes} {s t : State} → length xs ≤ i → SoFar f xs i held kept s t → Gathers Log (spaced (flat_map f xs)) (Ok tt) held kept s t
all_put f xs i {held} {kept} {s} {t} past before = subst (λ ys. Gathers Log (spaced (flat_map f ys)) (Ok tt) held kept s t) (take_all i xs past) before

-- an item among those from a place on
pub item_behind : {X : Type 0} (xs : List X) (from i : ℕ) (x : X) → from ≤ i → i < length xs → slice_get xs i ≡ Some x → (i - from < length (drop from xs)) × (x ≡ get_or (drop from xs) (i - from) x)
item_behind xs from i x above within is =
    let same : from + (i - from) ≡ i = omega (arith, above) in
    (omega (arith, above, within, length-drop from xs), sym (get_or-drop from xs (i - from) x ∙ ap (λ k. get_or xs k x) same ∙ get_or_from_slice_get xs i x x is))

-- a word for each item
pub as_map : {X : Type 0} (f : X → Bytes) (xs : List X) {r : Answer} {held kept : Bytes} {s t : State} → Gathers Log (spaced (flat_map (λ x. f x ∷ []) xs)) r held kept s t → Gathers Log (spaced (map f xs)) r held kept s t
as_map f xs {r} {held} {kept} {s} {t} put = subst (λ ws. Gathers Log (spaced ws) r held kept s t) (flat_map_single f xs) put

-- the letter of a line, its other words, and the line feed
pub no_letter : {c : Bytes} (ws : List Bytes) {r : Answer} {e : Failed} {held kept : Bytes} {s t : State} → IsErr r → Gathers Log c (Err e) held kept s t → Gathers Log (line (c ∷ ws)) r held kept s t
no_letter {c} ws failed put = rw (line_is c ws) (stops (spaced ws ++ 10 ∷ []) failed put)

pub no_words : {c : Bytes} (ws : List Bytes) {u : Unit {0}} {r : Answer} {e : Failed} {held mid kept : Bytes} {s t v : State} → IsErr r → Gathers Log c (Ok u) held mid s t → Gathers Log (spaced ws) (Err e) mid kept t v
    → Gathers Log (line (c ∷ ws)) r held kept s v
no_words {c} ws failed first put = rw (line_is c ws) (goes_on first (stops (10 ∷ []) failed put))

pub ends_line : {c : Bytes} (ws : List Bytes) {u u' : Unit {0}} {r : Answer} {held mid some kept : Bytes} {s t v w : State} → Gathers Log c (Ok u) held mid s t → Gathers Log (spaced ws) (Ok u') mid some t v → Gathers Log (10 ∷ []) r some kept v w
    → Gathers Log (line (c ∷ ws)) r held kept s w
ends_line {c} ws first words last = rw (line_is c ws) (goes_on first (goes_on words last))
