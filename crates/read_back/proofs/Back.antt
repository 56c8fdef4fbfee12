-- The canonical text of a model that some text deserves deserves it too: the steps put together.
use Rattle.std.proofs.Common.{sym}
use Rattle.cpo_elab.specs.Deserves.{judgement}
use Rattle.sched_text.specs.Canonical.{canonical_text}
use Rattle.read_back.specs.Trees.{canonical_statements}
use Rattle.read_back.proofs.judge.Few.{few_statements}
use Rattle.read_back.specs.Laws.{DeservedAreWritten, CanonicalIsSaid, SaidIsRead, CanonicalIsJudged, ReadsBack}

pub reads_back : DeservedAreWritten → CanonicalIsSaid → SaidIsRead → CanonicalIsJudged → ReadsBack
reads_back written said is_read judged text m deserved within =
    let known = written text m deserved in
    let says = said m known.0 known.1 in
    let read = is_read (canonical_text m) (canonical_statements m) says.0 says.1 within.shallow within.bytes (few_statements m known.0) in
    judgement read.0 read.1 (sym (judged m read.0.statements known.0 known.1 read.2))
