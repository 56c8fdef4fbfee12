use Rattle.cpo_text.proofs.pieces.Determined.{pieces_determined, tokens_determined, bad_byte_determined, every_text, not_both, statements_determined, grammar_decided, readings_determined}
use Rattle.cpo_text.proofs.pieces.Pieces.{each_byte}
use Rattle.cpo_text.proofs.laws.reading_is_determined.Goals as goal

pub returns : goal.returns
returns c = record {
  pieces = pieces_determined;
  bytes = each_byte;
  tokens = tokens_determined;
  bad_byte = bad_byte_determined;
  every_text = every_text;
  not_both = not_both;
  statements = statements_determined;
  grammar = grammar_decided;
  readings = readings_determined;
}
