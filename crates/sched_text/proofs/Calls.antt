-- Calls printed piece by piece: the word and its bracket, the first argument, the others, and the end.
use Rattle.std.proofs.Common.{◌≡◌, ◌∙◌, Bool, true, false, if◌then◌else◌, List, [], ◌∷◌, ◌++◌, codes, append-nil, sym, ap, append_assoc}
use Rattle.sched_base.specs.State.{State}
use Rattle.textline.specs.Lines.{Bytes}
use Rattle.sched_text.specs.declared.page.Page.{Page}
use Rattle.sched_text.specs.Pieces.{commas, call}
use Rattle.sched_text.specs.code.Printing.{Prints}
use Rattle.sched_text.proofs.Printing.{both, «as»}

-- a word, a bracket and some arguments were printed
pub record Opened (word : Bytes) (items : List Bytes) (old new : Page) (s t : State) : Type 0 where
  pub is : Prints (word ++ (codes "(" ++ commas items)) old new s t

last_item : (x : Bytes) (xs : List Bytes) (y : Bytes) → commas (x ∷ (xs ++ y ∷ [])) ≡ commas (x ∷ xs) ++ (codes "," ++ y)
last_item x [] y = append_assoc x (codes ",") y
last_item x (z ∷ xs) y = ap (λ t. (x ++ codes ",") ++ t) (last_item z xs y) ∙ sym (append_assoc (x ++ codes ",") (commas (z ∷ xs)) (codes "," ++ y))

inside : (word text more : Bytes) → (word ++ (codes "(" ++ text)) ++ more ≡ word ++ (codes "(" ++ (text ++ more))
inside word text more = append_assoc word (codes "(" ++ text) more

pub opened : (word : Bytes) {old new : Page} {s t : State} → Prints (word ++ codes "(") old new s t → Opened word [] old new s t
opened word is = record { is = is }

pub first : {word x : Bytes} {old mid new : Page} {s t u : State} → Opened word [] old mid s t → Prints x mid new t u → Opened word (x ∷ []) old new s u
first {word} {x} o item = record { is = «as» (both o.is item) (inside word [] x) }

pub more : {word x : Bytes} {xs : List Bytes} {y : Bytes} {old mid new : Page} {s t u : State} → Opened word (x ∷ xs) old mid s t → Prints (codes "," ++ y) mid new t u → Opened word (x ∷ (xs ++ y ∷ [])) old new s u
more {word} {x} {xs} {y} o item = record { is = «as» (both o.is item) (inside word (commas (x ∷ xs)) (codes "," ++ y) ∙ ap (λ t. word ++ (codes "(" ++ t)) (sym (last_item x xs y))) }

-- one argument more, or none
pub perhaps : {word x : Bytes} {xs : List Bytes} (y : Bytes) (none : Bool) {old mid new : Page} {s t u : State} → Opened word (x ∷ xs) old mid s t → Prints (if none then [] else codes "," ++ y) mid new t u
    → Opened word (x ∷ (xs ++ (if none then [] else y ∷ []))) old new s u
perhaps {word} {x} {xs} y true o item = record { is = «as» (both o.is item) (append-nil _ ∙ ap (λ ys. word ++ (codes "(" ++ commas (x ∷ ys))) (sym (append-nil xs))) }
perhaps y false o item = more o item

pub closed : {word : Bytes} {items : List Bytes} {old mid new : Page} {s t u : State} → Opened word items old mid s t → Prints (codes ")") mid new t u → Prints (call word items) old new s u
closed {word} {items} o end = «as» (both o.is end) (inside word (commas items) (codes ")"))
