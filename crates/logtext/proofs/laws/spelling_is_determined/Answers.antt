use Rattle.logtext.specs.laws.Ends.{entry_ends}
use Rattle.logtext.specs.laws.Entries.{AreTold, entry_told}
use Rattle.logtext.proofs.laws.spelling_is_determined.Goals as goal

pub returns : goal.returns
returns g c =
    let laws = g.met.X.Witness.Numbers in
    let told : AreTold g.X.Witness.Numbers.numbers g.X.Witness.Numbers.is_valid = record { few = laws.few; small = laws.small; apart = laws.told_apart } in
    record {
      told = entry_told g.X.Witness.Numbers.numbers g.X.Witness.Numbers.is_valid told;
      ends = entry_ends g.X.Witness.Numbers.numbers g.X.Witness.Numbers.is_valid told;
    }
