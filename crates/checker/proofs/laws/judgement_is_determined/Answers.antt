use Rattle.checker.proofs.laws.judgement_is_determined.Goals as goal

pub returns : goal.returns
returns c = record {
  one_verdict = c.judgement_is_determined.ensures.one_verdict;
  one_line = c.judgement_is_determined.ensures.one_line;
  not_both = c.judgement_is_determined.ensures.not_both;
  never_too_long = c.judgement_is_determined.ensures.never_too_long;
  whole = c.judgement_is_determined.ensures.whole;
  means = c.judgement_is_determined.ensures.means;
}
