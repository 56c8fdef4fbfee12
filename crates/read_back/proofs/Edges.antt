-- What the chunks at the ends of two texts are decides whether the texts may stand beside one another.
use Rattle.std.proofs.Common.{◌≡◌, ℕ, Bool, true, false, not, ◌||◌, ◌==◌, List, [], ◌∷◌, ◌++◌, refl, arith}
use Rattle.std.proofs.lemmas.Bool.Decides.{nat_tests}
use Rattle.cpo_text.specs.Tokens.{is_sign_pair}
use Rattle.read_back.specs.Says.{Chunk, Chunk as chunk, makes_pair, is_apart}
use Rattle.read_back.proofs.Joined.{meet}

-- what an end of a text may stand beside: anything, any sign, or any word
pub data Edge : Type 0 where
  Free : Edge
  Signs : Edge
  Words : Edge

abbrev pub meets : Edge → Edge → Bool
meets Signs Signs = false
meets Words Words = false
meets a b = true

-- some pair of signs begins with this byte, or ends with it
abbrev pub opens_pair : ℕ → Bool
opens_pair a = a == 46 || a == 61 || a == 33 || a == 60 || a == 62 || a == 38 || a == 124

abbrev pub closes_pair : ℕ → Bool
closes_pair b = b == 46 || b == 61 || b == 38 || b == 124 || b == 62

-- a sign makes no pair with what follows, or with what precedes
abbrev pub is_closed : List ℕ → Bool
is_closed [] = true
is_closed (a ∷ []) = not (opens_pair a)
is_closed (a ∷ b ∷ s) = true

abbrev pub is_clear : List ℕ → Bool
is_clear [] = true
is_clear (b ∷ s) = not (closes_pair b)

abbrev pub fits_back : Edge → Chunk → Bool
fits_back Free (chunk.name n) = false
fits_back Free (chunk.number n) = false
fits_back Free (chunk.sign s) = is_closed s
fits_back Free (chunk.blank b) = true
fits_back Signs (chunk.name n) = true
fits_back Signs (chunk.number n) = true
fits_back Signs (chunk.sign s) = is_closed s
fits_back Signs (chunk.blank b) = true
fits_back Words (chunk.name n) = false
fits_back Words (chunk.number n) = false
fits_back Words (chunk.sign s) = true
fits_back Words (chunk.blank b) = true

abbrev pub fits_front : Edge → Chunk → Bool
fits_front Free (chunk.name n) = false
fits_front Free (chunk.number n) = false
fits_front Free (chunk.sign s) = is_clear s
fits_front Free (chunk.blank b) = true
fits_front Signs (chunk.name n) = true
fits_front Signs (chunk.number n) = true
fits_front Signs (chunk.sign s) = is_clear s
fits_front Signs (chunk.blank b) = true
fits_front Words (chunk.name n) = false
fits_front Words (chunk.number n) = false
fits_front Words (chunk.sign s) = true
fits_front Words (chunk.blank b) = true

opens_none : (a b : ℕ) → not (opens_pair a) ≡ true → not (is_sign_pair a b) ≡ true
opens_none a b h = grind (arith, nat_tests)

closes_none : (a b : ℕ) → not (closes_pair b) ≡ true → not (is_sign_pair a b) ≡ true
closes_none a b h = grind (arith, nat_tests)

closed_apart : (s t : List ℕ) → is_closed s ≡ true → not (makes_pair s t) ≡ true
closed_apart [] t h = refl
closed_apart (a ∷ []) [] h = refl
closed_apart (a ∷ []) (b ∷ bs) h = opens_none a b h
closed_apart (a ∷ b ∷ s) t h = refl

clear_apart : (s t : List ℕ) → is_clear t ≡ true → not (makes_pair s t) ≡ true
clear_apart [] t h = refl
clear_apart (a ∷ []) [] h = refl
clear_apart (a ∷ []) (b ∷ bs) h = closes_none a b h
clear_apart (a ∷ b ∷ s) t h = refl

pub free_behind : (c d : Chunk) → fits_back Free c ≡ true → is_apart c d ≡ true
free_behind (chunk.name n) d h = cc
free_behind (chunk.number n) d h = cc
free_behind (chunk.sign s) (chunk.name k) h = refl
free_behind (chunk.sign s) (chunk.number k) h = refl
free_behind (chunk.sign s) (chunk.sign t) h = closed_apart s t h
free_behind (chunk.sign s) (chunk.blank b) h = refl
free_behind (chunk.blank b) d h = refl

pub free_before : (c d : Chunk) → fits_front Free d ≡ true → is_apart c d ≡ true
free_before c (chunk.name n) h = cc
free_before c (chunk.number n) h = cc
free_before (chunk.name n) (chunk.sign s) h = refl
free_before (chunk.number n) (chunk.sign s) h = refl
free_before (chunk.sign s) (chunk.sign t) h = clear_apart s t h
free_before (chunk.blank b) (chunk.sign s) h = refl
free_before (chunk.name n) (chunk.blank b) h = refl
free_before (chunk.number n) (chunk.blank b) h = refl
free_before (chunk.sign s) (chunk.blank b) h = refl
free_before (chunk.blank b) (chunk.blank d) h = refl

-- a word, or a sign that makes no pair with what follows, before a sign
word_sign : (c d : Chunk) → fits_back Signs c ≡ true → fits_front Words d ≡ true → is_apart c d ≡ true
word_sign c (chunk.name n) h k = cc
word_sign c (chunk.number n) h k = cc
word_sign (chunk.name n) (chunk.sign s) h k = refl
word_sign (chunk.number n) (chunk.sign s) h k = refl
word_sign (chunk.sign s) (chunk.sign t) h k = closed_apart s t h
word_sign (chunk.blank b) (chunk.sign s) h k = refl
word_sign (chunk.name n) (chunk.blank b) h k = refl
word_sign (chunk.number n) (chunk.blank b) h k = refl
word_sign (chunk.sign s) (chunk.blank b) h k = refl
word_sign (chunk.blank b) (chunk.blank d) h k = refl

sign_word : (c d : Chunk) → fits_back Words c ≡ true → fits_front Signs d ≡ true → is_apart c d ≡ true
sign_word (chunk.name n) d h k = cc
sign_word (chunk.number n) d h k = cc
sign_word (chunk.sign s) (chunk.name n) h k = refl
sign_word (chunk.sign s) (chunk.number n) h k = refl
sign_word (chunk.sign s) (chunk.sign t) h k = clear_apart s t k
sign_word (chunk.sign s) (chunk.blank b) h k = refl
sign_word (chunk.blank b) d h k = refl

edges_apart : (a b : Edge) (c d : Chunk) → meets a b ≡ true → fits_back a c ≡ true → fits_front b d ≡ true → is_apart c d ≡ true
edges_apart Free b c d m h k = free_behind c d h
edges_apart Signs Free c d m h k = free_before c d k
edges_apart Signs Signs c d m h k = cc
edges_apart Signs Words c d m h k = word_sign c d h k
edges_apart Words Free c d m h k = free_before c d k
edges_apart Words Signs c d m h k = sign_word c d h k
edges_apart Words Words c d m h k = cc

-- the first of some chunks, and the last
abbrev pub begins : Edge → List Chunk → Bool
begins a [] = false
begins a (c ∷ cs) = fits_front a c

abbrev pub ends : Edge → List Chunk → Bool
ends a [] = false
ends a (c ∷ []) = fits_back a c
ends a (c ∷ d ∷ ds) = ends a (d ∷ ds)

pub begins_more : (a : Edge) (cs ds : List Chunk) → begins a cs ≡ true → begins a (cs ++ ds) ≡ true
begins_more a [] ds h = cc
begins_more a (c ∷ cs) ds h = h

pub ends_more : (a : Edge) (cs ds : List Chunk) → ends a ds ≡ true → ends a (cs ++ ds) ≡ true
ends_more a [] ds h = h
ends_more a (c ∷ []) [] h = cc
ends_more a (c ∷ []) (d ∷ ds) h = h
ends_more a (c ∷ b ∷ cs) ds h = ends_more a (b ∷ cs) ds h

-- where edges that may meet are at the seam, the chunks there may stand beside one another
pub seam : (a b : Edge) (cs ds : List Chunk) → meets a b ≡ true → ends a cs ≡ true → begins b ds ≡ true → meet cs ds ≡ true
seam a b [] ds m e f = refl
seam a b (c ∷ []) [] m e f = refl
seam a b (c ∷ []) (d ∷ ds) m e f = edges_apart a b c d m e f
seam a b (c ∷ x ∷ cs) ds m e f = seam a b (x ∷ cs) ds m e f
