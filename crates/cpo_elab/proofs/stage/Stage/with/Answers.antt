use Rattle.std.proofs.Common.{refl}
use Rattle.cpo_elab.proofs.judging.Calendars.{sentence_named, sentence_there, sentence_limits}
use Rattle.cpo_elab.proofs.stage.Stage.with.Goals as goal

pub with_sentence-requires-clause-known : goal.with_sentence-requires-clause-known
with_sentence-requires-clause-known c = sentence_named c.args.self c.args.s.now c.in-Forbid.word c.in-Forbid.a c.in-Forbid.f _ c.in-Forbid.is c.as_slice-in-Forbid-2.ensures c.requires.clear

pub with_sentence-requires-clause-there : goal.with_sentence-requires-clause-there
with_sentence-requires-clause-there c = sentence_there c.args.self c.args.s.now c.in-Forbid.word c.in-Forbid.a c.in-Forbid.f _ c.in-Forbid.is c.as_slice-in-Forbid.ensures c.requires.clear

pub with_sentence-requires-clause-limits : goal.with_sentence-requires-clause-limits
with_sentence-requires-clause-limits c =
    sentence_limits c.args.self c.args.s.now c.in-Forbid.word _ c.in-Forbid.a c.in-Forbid.f _ _ c.in-Forbid.is refl c.as_slice-in-Forbid.ensures c.as_slice-in-Forbid-2.ensures c.requires.clear
