-- What a reading function answers: the tree that its rule takes and the place behind it, unless memory ran out.
use Rattle.std.specs.Prelude.{◌≡◌, ℕ, List, [], ◌∷◌, Option, Some, None, Result, Ok, Err, ⊤}
use Rattle.std.specs.Borrow.{Bor}
use Rattle.cpo_text.specs.Words.{Word}
use Rattle.cpo_text.specs.Runs.{words_of}
use Rattle.cpo_text.specs.code.Places.{left}
use Rattle.cpo_text.specs.code.Rules.{Found}
use Rattle.cpo_text.specs.declared.place.Place.{Place}
use Rattle.cpo_text.specs.declared.fault.Fault.{Fault}
use Rattle.cpo_text.specs.declared.fault.Fault.TheVariants.{Outside, NoMemory}

-- the words from a place on
unfoldable pub ahead : Place → List Word
ahead p = words_of (left p)

abbrev pub Gives : {X : Type 0} → Result (X × Place) Fault → Found X → Type 0
Gives (Ok x) found = found ≡ Some (x.0, ahead x.1)
Gives (Err Outside) found = found ≡ None
Gives (Err NoMemory) found = ⊤

-- of a reader of lists that is to find one
abbrev pub GivesOne : {X : Type 0} → Result (X × Place) Fault → Found (List X) → Type 0
GivesOne (Ok x) found = found ≡ Some (x.0 ∷ [], ahead x.1)
GivesOne (Err Outside) found = found ≡ None
GivesOne (Err NoMemory) found = ⊤

abbrev pub GivesName : Result (Bor (List ℕ) × Place) Fault → Found (List ℕ) → Type 0
GivesName (Ok x) found = found ≡ Some (x.0.now, ahead x.1)
GivesName (Err Outside) found = found ≡ None
GivesName (Err NoMemory) found = ⊤

abbrev pub GivesPlace : Result Place Fault → Option (List Word) → Type 0
GivesPlace (Ok p) found = found ≡ Some (ahead p)
GivesPlace (Err Outside) found = found ≡ None
GivesPlace (Err NoMemory) found = ⊤
