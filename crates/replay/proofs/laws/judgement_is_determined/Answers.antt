use Rattle.replay.proofs.Spelt.{Spellings}
use Rattle.replay.proofs.Determined.{one_verdict, one_line, not_both, never_too_long, whole_law, means_law}
use Rattle.replay.proofs.laws.judgement_is_determined.Goals as goal

pub returns : goal.returns
returns g c =
    let laws : Spellings g.X.Witness.Numbers.numbers g.X.Witness.Numbers.is_valid = record { told = c.spelling_is_determined.ensures.told; ends = c.spelling_is_determined.ensures.ends } in
    record {
      one_verdict = one_verdict g.X.Refuter.refuting g.X.Witness.Numbers.numbers g.X.Witness.Numbers.is_valid laws;
      one_line = one_line g.X.Refuter.refuting g.X.Witness.Numbers.numbers g.X.Witness.Numbers.is_valid laws;
      not_both = not_both g.X.Refuter.refuting g.X.Witness.Numbers.numbers g.X.Witness.Numbers.is_valid laws;
      never_too_long = never_too_long g.X.Refuter.refuting g.X.Witness.Numbers.numbers g.X.Witness.Numbers.is_valid laws;
      whole = whole_law g.X.Refuter.refuting g.X.Witness.Numbers.numbers g.X.Witness.Numbers.is_valid;
      means = means_law g.X.Refuter.refuting g.X.Witness.Numbers.numbers g.X.Witness.Numbers.is_valid c.loses_nothing.ensures.verdict;
    }
