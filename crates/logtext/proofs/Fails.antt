-- A fault that is handed on.
use Rattle.std.proofs.Common.{Bool, List, Err}
use Rattle.textline.specs.Lines.{Bytes}
use Rattle.logtext.specs.declared.entry.EntryFault.{EntryFault}
use Rattle.logtext.specs.declared.entry.EntryFault.TheVariants.{Bad, NoMemory}
use Rattle.logtext.specs.code.Reads.{NoneStands, Reads}

pub fails : {A B : Type 0} (f : A → List Bytes) (fit : A → Bool) (g : B → List Bytes) (hit : B → Bool) (ws after old new : List Bytes) (r : EntryFault) → Reads f fit ws after (Err r) → (NoneStands f fit ws → NoneStands g hit old) → Reads g hit old new (Err r)
fails f fit g hit ws after old new Bad none more = more none
fails f fit g hit ws after old new NoMemory none more = tt
