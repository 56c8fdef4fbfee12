-- An assignment in the domain does what some sentences ask exactly where all constraints that are made of them hold.
use Rattle.std.specs.Prelude.{◌≡◌, ◌↔◌, true, IsTrue, All, List, [], ◌∷◌, ◌++◌, flat_map}
use Rattle.std.specs.List.{list_all}
use Rattle.std.proofs.lemmas.Bool.{and_parts}
use Rattle.std.proofs.lemmas.List.Elements.{All-nil, All-cons, All-head, All-tail, All-append}
use Rattle.sched_model.specs.declared.types.Assignment.{Assignment}
use Rattle.sched_model.specs.Data.{Data}
use Rattle.sched_model.specs.Domain.{is_in_domain}
use Rattle.sched_model.specs.Sentences.{Holds}
use Rattle.sched_model.specs.Valid.{IsValid}
use Rattle.calendar.specs.Sentence.{Sentence, Meets, made_of, is_over_steps}
use Rattle.calendar.specs.Sentence.Sentence.{Plain, Calendar}
use Rattle.calendar.specs.laws.Meaning.{rules_say_it}

front : {X : Type 0} (P : X → Type 0) (xs ys : List X) → All P (xs ++ ys) → All P xs
front P [] ys h = All-nil P
front P (x ∷ xs) ys h = All-cons P x xs (All-head P x (xs ++ ys) h) (front P xs ys (All-tail P x (xs ++ ys) h))

behind : {X : Type 0} (P : X → Type 0) (xs ys : List X) → All P (xs ++ ys) → All P ys
behind P [] ys h = h
behind P (x ∷ xs) ys h = behind P xs ys (All-tail P x (xs ++ ys) h)

-- of one sentence
one : (m : Data) (a : Assignment) (s : Sentence) → IsValid m → IsTrue (is_in_domain m a) → is_over_steps s ≡ true → All (Holds m a) (made_of s) ↔ Meets m a s
one m a (Plain c) valid domain steps = (λ h. All-head (Holds m a) c [] h, λ h. All-cons (Holds m a) c [] h (All-nil (Holds m a)))
one m a (Calendar demand x ps) valid domain steps = rules_say_it m demand x ps valid steps a domain

there : (m : Data) (a : Assignment) (ss : List Sentence) → IsValid m → IsTrue (is_in_domain m a) → list_all is_over_steps ss ≡ true → All (Holds m a) (flat_map made_of ss) → All (Meets m a) ss
there m a [] valid domain steps h = All-nil (Meets m a)
there m a (s ∷ ss) valid domain steps h =
    let both = and_parts (is_over_steps s) (list_all is_over_steps ss) steps in
    All-cons (Meets m a) s ss ((one m a s valid domain both.0).0 (front (Holds m a) (made_of s) (flat_map made_of ss) h)) (there m a ss valid domain both.1 (behind (Holds m a) (made_of s) (flat_map made_of ss) h))

back : (m : Data) (a : Assignment) (ss : List Sentence) → IsValid m → IsTrue (is_in_domain m a) → list_all is_over_steps ss ≡ true → All (Meets m a) ss → All (Holds m a) (flat_map made_of ss)
back m a [] valid domain steps h = All-nil (Holds m a)
back m a (s ∷ ss) valid domain steps h =
    let both = and_parts (is_over_steps s) (list_all is_over_steps ss) steps in
    All-append (Holds m a) (made_of s) (flat_map made_of ss) ((one m a s valid domain both.0).1 (All-head (Meets m a) s ss h)) (back m a ss valid domain both.1 (All-tail (Meets m a) s ss h))

pub sentences_met : (m : Data) (a : Assignment) (ss : List Sentence) → IsValid m → IsTrue (is_in_domain m a) → list_all is_over_steps ss ≡ true → All (Holds m a) (flat_map made_of ss) ↔ All (Meets m a) ss
sentences_met m a ss valid domain steps = (there m a ss valid domain steps, back m a ss valid domain steps)
