-- Texts with a blank between them, or a sign that makes no pair, say the words of both.
use Rattle.std.proofs.Common.{◌≡◌, ℕ, true, List, [], ◌∷◌, ◌++◌, refl}
use Rattle.std.specs.Prelude.{IsTrue}
use Rattle.std.proofs.lemmas.List.{append_assoc}
use Rattle.cpo_text.specs.Words.{Word}
use Rattle.read_back.specs.Says.{Says, Chunk, chunk_bytes, chunk_words, is_chunk, is_apart}
use Rattle.read_back.specs.Says.Chunk.{sign, blank}
use Rattle.read_back.proofs.Joined.{meet, says_joined, a_chunk}
use Rattle.read_back.proofs.Edges.{Edge.{Free}, fits_front, fits_back, free_behind, free_before}

-- it may stand between any two chunks
pub record IsNeutral (c : Chunk) : Type 0 where
  pub chunk : IsTrue (is_chunk c)
  pub before : (d : Chunk) → IsTrue (is_apart c d)
  pub behind : (d : Chunk) → IsTrue (is_apart d c)

neutral : (c : Chunk) → IsTrue (is_chunk c) → IsTrue (fits_front Free c) → IsTrue (fits_back Free c) → IsNeutral c
neutral c is front back = record { chunk = is; before = λ d. free_behind c d back; behind = λ d. free_before d c front }

pub space : IsNeutral (blank 32)
space = neutral (blank 32) refl refl refl

pub line_feed : IsNeutral (blank 10)
line_feed = neutral (blank 10) refl refl refl

pub open_round : IsNeutral (sign (40 ∷ []))
open_round = neutral (sign (40 ∷ [])) refl refl refl

pub close_round : IsNeutral (sign (41 ∷ []))
close_round = neutral (sign (41 ∷ [])) refl refl refl

pub plus : IsNeutral (sign (43 ∷ []))
plus = neutral (sign (43 ∷ [])) refl refl refl

pub comma : IsNeutral (sign (44 ∷ []))
comma = neutral (sign (44 ∷ [])) refl refl refl

pub minus : IsNeutral (sign (45 ∷ []))
minus = neutral (sign (45 ∷ [])) refl refl refl

pub semicolon : IsNeutral (sign (59 ∷ []))
semicolon = neutral (sign (59 ∷ [])) refl refl refl

pub open_square : IsNeutral (sign (91 ∷ []))
open_square = neutral (sign (91 ∷ [])) refl refl refl

pub close_square : IsNeutral (sign (93 ∷ []))
close_square = neutral (sign (93 ∷ [])) refl refl refl

meets_behind : (c : Chunk) (ds : List Chunk) → IsNeutral c → meet (c ∷ []) ds ≡ true
meets_behind c [] neutral = refl
meets_behind c (d ∷ ds) neutral = neutral.before d

meets_before : (cs : List Chunk) (c : Chunk) (ds : List Chunk) → IsNeutral c → meet cs (c ∷ ds) ≡ true
meets_before [] c ds neutral = refl
meets_before (b ∷ []) c ds neutral = neutral.behind b
meets_before (a ∷ b ∷ bs) c ds neutral = meets_before (b ∷ bs) c ds neutral

pub across : (c : Chunk) {a b : List ℕ} {ws vs : List Word} → IsNeutral c → Says a ws → Says b vs → Says (a ++ (chunk_bytes c ++ b)) (ws ++ (chunk_words c ++ vs))
across c neutral first second =
    says_joined first (says_joined (a_chunk c neutral.chunk) second (meets_behind c second.chunks neutral)) (meets_before first.chunks c second.chunks neutral)

-- the same where the text is joined from the left
pub along : (c : Chunk) {a b : List ℕ} {ws vs : List Word} → IsNeutral c → Says a ws → Says b vs → Says ((a ++ chunk_bytes c) ++ b) (ws ++ (chunk_words c ++ vs))
along c {a} {b} neutral first second = rw (append_assoc a (chunk_bytes c) b) (across c neutral first second)
