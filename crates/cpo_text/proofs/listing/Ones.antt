-- A reader of lists that is to find one.
use Rattle.std.proofs.Common.{List, Result, Ok, Err, ap}
use Rattle.cpo_text.specs.code.Rules.{Found}
use Rattle.cpo_text.specs.code.Gives.{Gives, GivesOne}
use Rattle.cpo_text.specs.code.Statements.{one_of}
use Rattle.cpo_text.specs.declared.place.Place.{Place}
use Rattle.cpo_text.specs.declared.fault.Fault.{Fault}
use Rattle.cpo_text.specs.declared.fault.Fault.TheVariants.{Outside, NoMemory}

pub gives_one : {X : Type 0} (r : Result (X × Place) Fault) (found : Found (List X)) → GivesOne r found → Gives r (one_of found)
gives_one (Ok x) found h = ap one_of h
gives_one (Err Outside) found h = ap one_of h
gives_one (Err NoMemory) found h = tt
