-- What the arguments of an interval leave as it is.
use Rattle.std.proofs.Common.{◌≡◌, List, [], ◌∷◌, refl}
use Rattle.sched_model.specs.declared.types.IntervalDef.{IntervalDef}
use Rattle.cpo_text.specs.declared.tree.Ivarg.{Ivarg}
use Rattle.cpo_text.specs.declared.tree.Ivarg.TheVariants.{Optional, Start, End, Size}
use Rattle.cpo_elab.specs.Elaborated.{with_ivarg, with_ivargs}

-- the name stays
pub name_kept : (d : IntervalDef) (args : List Ivarg) → (with_ivargs d args).name ≡ d.name
name_kept d [] = refl
name_kept d (Optional ∷ rest) = name_kept (with_ivarg d Optional) rest
name_kept d (Start r ∷ rest) = name_kept (with_ivarg d (Start r)) rest
name_kept d (End r ∷ rest) = name_kept (with_ivarg d (End r)) rest
name_kept d (Size r ∷ rest) = name_kept (with_ivarg d (Size r)) rest
