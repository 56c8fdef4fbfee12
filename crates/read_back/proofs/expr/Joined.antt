-- Texts whose ends are known say the words of all, one behind the other: in brackets, in lists and in calls.
use Rattle.std.proofs.Common.{◌≡◌, ◌∙◌, ℕ, ℤ, pos, negsuc, suc, true, ◌||◌, nat_le, List, [], ◌∷◌, ◌++◌, codes, refl, ap, append_assoc, append-nil, subst}
use Rattle.std.specs.Fmt.{decimal, signed_decimal}
use Rattle.std.proofs.lemmas.Bool.{or_right}
use Rattle.sched_model.specs.Bounds.{is_small}
use Rattle.cpo_text.specs.Words.{Word, Word as word, between, square, round, call}
use Rattle.sched_model.specs.Words.{is_empty}
use Rattle.cpo_text.specs.Tokens.{literal_limit}
use Rattle.cpo_text.specs.Parts.{int_words}
use Rattle.sched_text.specs.Pieces as pieces
use Rattle.read_back.specs.Trees.{int_tree}
use Rattle.read_back.specs.Says.{Says, Chunk, Chunk as chunk, chunk_bytes, chunk_words, is_sign, is_chunk}
use Rattle.read_back.proofs.Numbers.{small_literal}
use Rattle.read_back.proofs.Joined.{meet, says_joined, nothing, a_chunk}
use Rattle.read_back.proofs.Edges.{Edge, Edge.{Free, Signs, Words}, meets, fits_front, fits_back, begins, ends, begins_more, ends_more, seam}

-- the text says the words, and its ends may stand beside these
pub record Joins (front back : Edge) (text : List ℕ) (words : List Word) : Type 0 where
  pub says : Says text words
  pub first : begins front says.chunks ≡ true
  pub last : ends back says.chunks ≡ true

pub join : {a b c d : Edge} {t u : List ℕ} {v w : List Word} → meets b c ≡ true → Joins a b t v → Joins c d u w → Joins a d (t ++ u) (v ++ w)
join {a = a} {b = b} {c = c} {d = d} m x y = record {
  says = says_joined x.says y.says (seam b c x.says.chunks y.says.chunks m x.last y.first);
  first = begins_more a x.says.chunks y.says.chunks x.first;
  last = ends_more d x.says.chunks y.says.chunks y.last;
}

-- three one behind the other
pub join_three : {a b c d e f : Edge} {t u v : List ℕ} {x y z : List Word} → meets b c ≡ true → meets d e ≡ true → Joins a b t x → Joins c d u y → Joins e f v z → Joins a f (t ++ u ++ v) (x ++ (y ++ z))
join_three {a = a} {f = f} {t = t} {u = u} {v = v} {x = x} {y = y} {z = z} m n p q r = subst (λ ws. Joins a f (t ++ u ++ v) ws) (append_assoc x y z) (join n (join m p q) r)

-- One chunk.

one : (a b : Edge) (c : Chunk) → is_chunk c ≡ true → fits_front a c ≡ true → fits_back b c ≡ true → Joins a b (chunk_bytes c) (chunk_words c)
one a b c is front back = record { says = a_chunk c is; first = front; last = back }

pub said_name : (n : List ℕ) → is_chunk (chunk.name n) ≡ true → Joins Signs Signs n (word.name n ∷ [])
said_name n is = one Signs Signs (chunk.name n) is refl refl

said_number : (n : ℕ) → nat_le n literal_limit ≡ true → Joins Signs Signs (decimal n) (word.number n ∷ [])
said_number n is = one Signs Signs (chunk.number n) is refl refl

pub said_sign : (a b : Edge) (s : List ℕ) → is_sign s ≡ true → fits_front a (chunk.sign s) ≡ true → fits_back b (chunk.sign s) ≡ true → Joins a b s (word.sign s ∷ [])
said_sign a b s is front back = one a b (chunk.sign s) is front back

-- what may stand beside anything may stand beside a sign
pub loose_front : (b : Edge) {t : List ℕ} {w : List Word} → Joins Free b t w → Joins Signs b t w
loose_front b x = record { says = x.says; first = weaker x.says.chunks x.first; last = x.last } where
  weaker : (cs : List Chunk) → begins Free cs ≡ true → begins Signs cs ≡ true
  weaker [] h = cc
  weaker (chunk.name n ∷ cs) h = refl
  weaker (chunk.number n ∷ cs) h = refl
  weaker (chunk.sign s ∷ cs) h = h
  weaker (chunk.blank c ∷ cs) h = refl

pub loose_back : (a : Edge) {t : List ℕ} {w : List Word} → Joins a Free t w → Joins a Signs t w
loose_back a x = record { says = x.says; first = x.first; last = weaker x.says.chunks x.last } where
  weaker : (cs : List Chunk) → ends Free cs ≡ true → ends Signs cs ≡ true
  weaker [] h = cc
  weaker (chunk.name n ∷ []) h = refl
  weaker (chunk.number n ∷ []) h = refl
  weaker (chunk.sign s ∷ []) h = h
  weaker (chunk.blank c ∷ []) h = refl
  weaker (c ∷ d ∷ ds) h = weaker (d ∷ ds) h

-- a number with its sign
pub said_int : (z : ℤ) → is_small z ≡ true → Joins Signs Signs (signed_decimal z) (int_words (int_tree z))
said_int (pos n) h = said_number n (small_literal (pos n) h)
said_int (negsuc n) h = join refl (said_sign Signs Words (codes "-") refl refl refl) (said_number (suc n) (small_literal (negsuc n) h))

-- Several texts.

-- each text says the words at its place
abbrev pub AllJoin : Edge → Edge → List (List ℕ) → List (List Word) → Type 0
AllJoin a b [] [] = Unit {0}
AllJoin a b [] (w ∷ ws) = ⊥
AllJoin a b (t ∷ ts) [] = ⊥
AllJoin a b (t ∷ ts) (w ∷ ws) = Joins a b t w × AllJoin a b ts ws

-- with a sign between each two
pub between_join : (s : List ℕ) → is_sign s ≡ true → (t : List ℕ) (ts : List (List ℕ)) (w : List Word) (ws : List (List Word)) → AllJoin Signs Signs (t ∷ ts) (w ∷ ws)
    → Joins Signs Signs (pieces.between s (t ∷ ts)) (between s (w ∷ ws))
between_join s is t [] w [] x = x.0
between_join s is t [] w (v ∷ ws) x = absurd x.1
between_join s is t (u ∷ ts) w [] x = absurd x.1
between_join s is t (u ∷ ts) w (v ∷ ws) x = join_three refl refl x.0 (said_sign Words Words s is refl refl) (between_join s is u ts v ws x.1)

-- in brackets
pub round_join : {t : List ℕ} {w : List Word} → Joins Signs Signs t w → Joins Free Free (pieces.bracketed t) (round w)
round_join x = join refl (said_sign Free Free (codes "(") refl refl refl) (join refl x (said_sign Free Free (codes ")") refl refl refl))

-- a list in square brackets, which may be empty
pub square_join : (ts : List (List ℕ)) (ws : List (List Word)) → AllJoin Signs Signs ts ws → Joins Free Free (pieces.listed ts) (square ws)
square_join [] [] x = join refl (said_sign Free Free (codes "[") refl refl refl) (said_sign Free Free (codes "]") refl refl refl)
square_join [] (w ∷ ws) x = absurd x
square_join (t ∷ ts) [] x = absurd x
square_join (t ∷ ts) (w ∷ ws) x =
    join refl (said_sign Free Free (codes "[") refl refl refl) (join refl (between_join (codes ",") refl t ts w ws x) (said_sign Free Free (codes "]") refl refl refl))

-- a call with arguments
pub call_join : (n : List ℕ) → is_chunk (chunk.name n) ≡ true → (t : List ℕ) (ts : List (List ℕ)) (w : List Word) (ws : List (List Word)) → AllJoin Signs Signs (t ∷ ts) (w ∷ ws)
    → Joins Signs Free (pieces.call n (t ∷ ts)) (call n (w ∷ ws))
call_join n is t ts w ws x = join refl (said_name n is) (round_join (between_join (codes ",") refl t ts w ws x))

-- Texts that may be empty.

-- the text says the words, and its ends, if it has any, may stand beside these
pub record MayJoin (front back : Edge) (text : List ℕ) (words : List Word) : Type 0 where
  pub says : Says text words
  pub first : (is_empty says.chunks || begins front says.chunks) ≡ true
  pub last : (is_empty says.chunks || ends back says.chunks) ≡ true

pub none_join : (a b : Edge) → MayJoin a b [] []
none_join a b = record { says = nothing; first = refl; last = refl }

pub some_join : {a b : Edge} {t : List ℕ} {w : List Word} → Joins a b t w → MayJoin a b t w
some_join x = record { says = x.says; first = or_right _ _ x.first; last = or_right _ _ x.last }

-- something, and then what may be empty
pub join_may : {a b c : Edge} {t u : List ℕ} {v w : List Word} → meets b c ≡ true → Joins a b t v → MayJoin c b u w → Joins a b (t ++ u) (v ++ w)
join_may {a = a} {b = b} {c = c} m x y = record {
  says = says_joined x.says y.says (stand x.says.chunks y.says.chunks x.last y.first);
  first = begins_more a x.says.chunks y.says.chunks x.first;
  last = end x.says.chunks y.says.chunks x.last y.last;
} where
  none : (cs : List Chunk) → meet cs [] ≡ true
  none [] = refl
  none (x ∷ []) = refl
  none (x ∷ z ∷ cs) = none (z ∷ cs)

  stand : (cs ds : List Chunk) → ends b cs ≡ true → (is_empty ds || begins c ds) ≡ true → meet cs ds ≡ true
  stand cs [] e f = none cs
  stand cs (d ∷ ds) e f = seam b c cs (d ∷ ds) m e f

  end : (cs ds : List Chunk) → ends b cs ≡ true → (is_empty ds || ends b ds) ≡ true → ends b (cs ++ ds) ≡ true
  end cs [] h k = ap (ends b) (append-nil cs) ∙ h
  end cs (d ∷ ds) h k = ends_more b cs (d ∷ ds) k
