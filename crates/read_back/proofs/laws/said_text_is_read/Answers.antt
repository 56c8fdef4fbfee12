use Rattle.read_back.proofs.lex.Reads.{said_is_read}
use Rattle.read_back.proofs.laws.said_text_is_read.Goals as goal

pub returns : goal.returns
returns c = said_is_read
