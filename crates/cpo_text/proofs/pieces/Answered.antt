-- What the scan finds is what a text has.
use Rattle.std.proofs.Common.{◌≡◌, ℕ, ◌+◌, ◌<◌, ◌≤◌, List, [], length, drop, refl, subst}
use Rattle.cpo_text.specs.declared.text.Refusal.{Refusal}
use Rattle.cpo_text.specs.Tokens.{ArePieces, NonePiece, HasTokens, HasBadByte}
use Rattle.cpo_text.specs.Runs.{ended}
use Rattle.cpo_text.specs.code.Lexing.{pieces, rest, tokens_from}
use Rattle.cpo_text.specs.Reads.{IsRefused}
use Rattle.cpo_text.specs.Reads.IsRefused.{bad_byte}
use Rattle.cpo_text.proofs.pieces.Covers.{none_of}
use Rattle.cpo_text.proofs.pieces.Walks.{pieces_are, rest_none}

pub has_tokens : (text : List ℕ) → rest text ≡ [] → HasTokens text (tokens_from 0 text)
unfolding tokens_from
has_tokens text done = record { pieces = pieces text; whole = subst (ArePieces text (pieces text)) done (pieces_are text); are = refl }

pub has_bad_byte : (text : List ℕ) (at : ℕ) → rest text ≡ drop at text → at < length text → HasBadByte text (tokens_from 0 text) at
unfolding tokens_from
has_bad_byte text at is within = record {
  pieces = pieces text;
  before = subst (ArePieces text (pieces text)) is (pieces_are text);
  are = refl;
  within = within;
  none = subst NonePiece is (none_of (rest text) (rest_none text));
}

pub refused : (text : List ℕ) (r : Refusal) → length text ≤ 16777216 → r ≡ record { number = 1; statement = 1 + ended (tokens_from 0 text); at = r.at } → rest text ≡ drop r.at text → r.at < length text → IsRefused text r
refused text r short is place within = bad_byte (tokens_from 0 text) r.at short (has_bad_byte text r.at place within) is
