-- Two texts that say words say those of both, one behind the other, where the chunks at the seam may stand beside one another.
use Rattle.std.proofs.Common.{◌≡◌, ◌∙◌, ℕ, Bool, true, List, [], ◌∷◌, ◌++◌, refl, sym, ap₂, append-nil}
use Rattle.std.specs.Prelude.{IsTrue, nat_le}
use Rattle.std.specs.Fmt.{decimal}
use Rattle.std.proofs.lemmas.Grind.{flat_map-append}
use Rattle.std.proofs.lemmas.Bool.{and_parts, and_from}
use Rattle.base_laws.specs.laws.Items.{all_append}
use Rattle.cpo_text.specs.Words.{Word, Word as word}
use Rattle.cpo_text.specs.Tokens.{literal_limit}
use Rattle.read_back.specs.Says.{Says, Chunk, Chunk as chunk, chunk_bytes, chunk_words, is_chunk, is_apart, are_apart}

-- the last of some chunks may stand beside the first of others
abbrev pub meet : List Chunk → List Chunk → Bool
meet [] ds = true
meet (c ∷ []) [] = true
meet (c ∷ []) (d ∷ ds) = is_apart c d
meet (c ∷ b ∷ cs) ds = meet (b ∷ cs) ds

pub apart_joined : (cs ds : List Chunk) → are_apart cs ≡ true → are_apart ds ≡ true → meet cs ds ≡ true → are_apart (cs ++ ds) ≡ true
apart_joined [] ds first second seam = second
apart_joined (c ∷ []) [] first second seam = refl
apart_joined (c ∷ []) (d ∷ ds) first second seam = and_from (is_apart c d) (are_apart (d ∷ ds)) seam second
apart_joined (c ∷ b ∷ cs) ds first second seam =
    let parts = and_parts (is_apart c b) (are_apart (b ∷ cs)) first in
    and_from (is_apart c b) (are_apart (b ∷ cs ++ ds)) parts.0 (apart_joined (b ∷ cs) ds parts.1 second seam)

abbrev pub says_joined : {t u : List ℕ} {v w : List Word} → (x : Says t v) → (y : Says u w) → meet x.chunks y.chunks ≡ true → Says (t ++ u) (v ++ w)
says_joined x y seam = record {
  chunks = x.chunks ++ y.chunks;
  spelt = ap₂ (λ t u. t ++ u) x.spelt y.spelt ∙ sym (flat_map-append chunk_bytes x.chunks y.chunks);
  said = ap₂ (λ v w. v ++ w) x.said y.said ∙ sym (flat_map-append chunk_words x.chunks y.chunks);
  are = all_append is_chunk x.chunks y.chunks x.are y.are;
  apart = apart_joined x.chunks y.chunks x.apart y.apart seam;
}

-- no chunk, and one

abbrev pub nothing : Says [] []
nothing = record { chunks = []; spelt = refl; said = refl; are = refl; apart = refl }

abbrev pub a_chunk : (c : Chunk) → is_chunk c ≡ true → Says (chunk_bytes c) (chunk_words c)
a_chunk c is = record { chunks = c ∷ []; spelt = sym (append-nil (chunk_bytes c)); said = sym (append-nil (chunk_words c)); are = and_from (is_chunk c) true is refl; apart = refl }

pub a_name : (n : List ℕ) → IsTrue (is_chunk (chunk.name n)) → Says n (word.name n ∷ [])
a_name n is = a_chunk (chunk.name n) is

pub a_number : (n : ℕ) → IsTrue (nat_le n literal_limit) → Says (decimal n) (word.number n ∷ [])
a_number n is = a_chunk (chunk.number n) is
