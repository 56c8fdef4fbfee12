-- The pieces that are computed from place to place are the pieces of a text, and the only ones.
use Rattle.std.proofs.Common.{◌≡◌, ℕ, zero, suc, ◌+◌, ◌-◌, ◌<◌, ◌≤◌, List, [], ◌∷◌, length, take, drop, Option, Some, None, refl, sym, ap, subst, ◌∙◌, arith, length-drop}
use Rattle.cpo_text.specs.declared.piece.Piece.{Piece}
use Rattle.cpo_text.specs.Tokens.{NonePiece, ArePieces, put, word_of}
use Rattle.cpo_text.specs.code.Lexing.{piece_at, pieces_from, pieces, rest_from, rest, tokens_from}
use Rattle.cpo_text.proofs.pieces.Covers.{front_of, longest_of, none_of, within_of, only_longest}

pieces_skip : (bs : List ℕ) (n : ℕ) → n ≤ length bs → pieces_from bs n ≡ pieces_from (drop n bs) 0
pieces_skip [] zero within = refl
pieces_skip [] (suc n) within = absurd (omega arith)
pieces_skip (b ∷ bs) zero within = refl
pieces_skip (b ∷ bs) (suc n) within = pieces_skip bs n (omega arith)

rest_skip : (bs : List ℕ) (n : ℕ) → n ≤ length bs → rest_from bs n ≡ rest_from (drop n bs) 0
rest_skip [] zero within = refl
rest_skip [] (suc n) within = absurd (omega arith)
rest_skip (b ∷ bs) zero within = refl
rest_skip (b ∷ bs) (suc n) within = rest_skip bs n (omega arith)

-- so many bytes, at least one and no more than there are
pub record IsPart (bs : List ℕ) (n : ℕ) : Type 0 where
  pub some : 0 < n
  pub within : n ≤ length bs

pub part_of : (bs : List ℕ) (p : Piece) (n : ℕ) → piece_at bs ≡ Some (p, n) → IsPart bs n
part_of bs p n e = let f = front_of bs (p, n) e in record { some = f.1; within = within_of bs p n f.0 }

pieces_turn : (bs : List ℕ) (p : Piece) (n : ℕ) → piece_at bs ≡ Some (p, n) → 0 < n → n ≤ length bs → pieces_from bs 0 ≡ (p, n) ∷ pieces_from (drop n bs) 0
pieces_turn bs p zero e some within = absurd (omega arith)
pieces_turn [] p (suc n) e some within = absurd (omega arith)
pieces_turn (b ∷ bs) p (suc n) e some within = let size : suc n - 1 ≡ n = omega arith in rw e (rw size (ap (λ ps. (p, suc n) ∷ ps) (pieces_skip bs n (omega arith))))

rest_turn : (bs : List ℕ) (p : Piece) (n : ℕ) → piece_at bs ≡ Some (p, n) → 0 < n → n ≤ length bs → rest_from bs 0 ≡ rest_from (drop n bs) 0
rest_turn bs p zero e some within = absurd (omega arith)
rest_turn [] p (suc n) e some within = absurd (omega arith)
rest_turn (b ∷ bs) p (suc n) e some within = let size : suc n - 1 ≡ n = omega arith in rw e (rw size (rest_skip bs n (omega arith)))

pub pieces_step : (bs : List ℕ) (p : Piece) (n : ℕ) → piece_at bs ≡ Some (p, n) → pieces bs ≡ (p, n) ∷ pieces (drop n bs)
unfolding pieces
pieces_step bs p n e = let part = part_of bs p n e in pieces_turn bs p n e part.some part.within

pub rest_step : (bs : List ℕ) (p : Piece) (n : ℕ) → piece_at bs ≡ Some (p, n) → rest bs ≡ rest (drop n bs)
unfolding rest
rest_step bs p n e = let part = part_of bs p n e in rest_turn bs p n e part.some part.within

pub pieces_stop : (bs : List ℕ) → piece_at bs ≡ None → pieces bs ≡ []
unfolding pieces
pieces_stop [] e = refl
pieces_stop (b ∷ bs) e = rw e refl

pub rest_stop : (bs : List ℕ) → piece_at bs ≡ None → rest bs ≡ bs
unfolding rest
rest_stop [] e = refl
rest_stop (b ∷ bs) e = rw e refl

pub at_end : piece_at [] ≡ None
unfolding piece_at
at_end = refl

pub tokens_step : (at : ℕ) (bs : List ℕ) (p : Piece) (n : ℕ) → piece_at bs ≡ Some (p, n) → tokens_from at bs ≡ put at (word_of p (take n bs)) (tokens_from (at + n) (drop n bs))
unfolding tokens_from
tokens_step at bs p n e = rw (pieces_step bs p n e) refl

pub tokens_stop : (at : ℕ) (bs : List ℕ) → piece_at bs ≡ None → tokens_from at bs ≡ []
unfolding tokens_from
tokens_stop at bs e = rw (pieces_stop bs e) refl

-- a place and what was computed of it
abbrev Computed : List ℕ → Type 0
Computed bs = ArePieces bs (pieces bs) (rest bs) × (piece_at (rest bs) ≡ None)

computed_more : (bs : List ℕ) (p : Piece) (n : ℕ) → piece_at bs ≡ Some (p, n) → Computed (drop n bs) → Computed bs
computed_more bs p n e h = rw (pieces_step bs p n e, rest_step bs p n e) ((longest_of bs (p, n) e, h.0), h.1)

computed_stop : (bs : List ℕ) → piece_at bs ≡ None → Computed bs
computed_stop bs e = rw (pieces_stop bs e, rest_stop bs e) (refl, e)

computed_by : (f : ℕ) (bs : List ℕ) → length bs ≤ f → Computed bs
computed_by zero [] short = computed_stop [] at_end
computed_by zero (b ∷ bs) short = absurd (omega arith)
computed_by (suc f) bs short = decided (computed_by f) (piece_at bs) refl
  where
    decided : ((cs : List ℕ) → length cs ≤ f → Computed cs) → (o : Option (Piece × ℕ)) → piece_at bs ≡ o → Computed bs
    decided more None e = computed_stop bs e
    decided more (Some q) e = let part = part_of bs q.0 q.1 e in computed_more bs q.0 q.1 e (more (drop q.1 bs) (omega (arith, part.some, part.within, length-drop q.1 bs)))

pub pieces_are : (bs : List ℕ) → ArePieces bs (pieces bs) (rest bs)
pieces_are bs = (computed_by (length bs) bs (omega arith)).0

pub rest_none : (bs : List ℕ) → piece_at (rest bs) ≡ None
rest_none bs = (computed_by (length bs) bs (omega arith)).1

no_piece : (bs : List ℕ) → NonePiece bs → piece_at bs ≡ None
no_piece bs none = decided (piece_at bs) refl
  where
    decided : (o : Option (Piece × ℕ)) → piece_at bs ≡ o → piece_at bs ≡ None
    decided None e = e
    decided (Some q) e = absurd (none q.0 q.1 (front_of bs q e).0)

pub pieces_only : (bs : List ℕ) (ps : List (Piece × ℕ)) (r : List ℕ) → ArePieces bs ps r → NonePiece r → (ps ≡ pieces bs) × (r ≡ rest bs)
pieces_only bs [] r h none = let stop = no_piece bs (subst NonePiece (sym h) none) in (sym (pieces_stop bs stop), sym h ∙ sym (rest_stop bs stop))
pieces_only bs (p ∷ ps) r h none =
    let here = only_longest bs p.0 p.1 h.0 in
    let more = pieces_only (drop p.1 bs) ps r h.1 none in
    (ap (λ xs. p ∷ xs) more.0 ∙ sym (pieces_step bs p.0 p.1 here), more.1 ∙ sym (rest_step bs p.0 p.1 here))

-- nothing begins at the end
pub none_at_end : NonePiece []
none_at_end = none_of [] at_end
