-- What is left of a text at a place that the reader has reached.
use Rattle.std.specs.Prelude.{List, [], ◌∷◌, drop, Option, Some, None}
use Rattle.cpo_text.specs.Words.{Word, size_word}
use Rattle.cpo_text.specs.Words.Word.{name, sign, quoted}
use Rattle.cpo_text.specs.Tokens.{Token}
use Rattle.cpo_text.specs.code.Lexing.{tokens_from}
use Rattle.cpo_text.specs.declared.place.Place.{Place}
use Rattle.cpo_text.specs.declared.word.Word.{Word as Said}
use Rattle.cpo_text.specs.declared.word.Word.TheVariants as said
use Rattle.cpo_text.specs.declared.word.Token.{Token as Read}

abbrev pub said_word : Said → Word
said_word (said.Name b) = name b.now
said_word (said.Number v) = size_word v
said_word (said.Sign b) = sign b.now
said_word said.Quoted = quoted

-- the tokens from a place on
unfoldable pub left : Place → List Token
left p = tokens_from p.at (drop p.at p.text.now)

abbrev pub read_token : Read → Token
read_token t = record { at = t.at; word = said_word t.word }

-- the token that was read, and what is left behind it
abbrev pub in_front : Option (Read × Place) → List Token
in_front None = []
in_front (Some x) = read_token x.0 ∷ left x.1
