-- One step of a walk through the parts.
use Rattle.std.specs.Prelude.{◌≡◌, ℕ, zero, suc, ◌+◌, ◌<◌, Bool, false, ◌||◌, List, [], ◌∷◌, length, slice_get, drop}
use Rattle.std.specs.List.{list_any}
use Rattle.std.proofs.Common.{sym, ap, ◌∙◌, arith, add-one}
use Rattle.sched_base.specs.declared.ids.Itv.{Itv}
use Rattle.sched_model.specs.Words.{passes}
use Rattle.region.specs.Cells.{Region}
use Rattle.refute_hier.specs.declared.parts.Role.{Role}
use Rattle.refute_hier.specs.Parts.{plays_in, at_part}

next_at : {X : Type 0} (test : X → Bool) (xs : List X) (i : ℕ) → i < length xs → passes test (slice_get xs i) ≡ false → list_any test (drop (suc i) xs) ≡ list_any test (drop i xs)
next_at test [] i within h = absurd (omega (arith, within))
next_at test (x ∷ xs) zero within h = sym (ap (λ b. b || list_any test xs) h)
next_at test (x ∷ xs) (suc i) within h = next_at test xs i (omega (arith, within)) h

pub none_so_far : (r : Region) (role : Role) (a : Itv) (bs : List Itv) (i : ℕ) (b : Bool) → at_part r role a bs i ≡ false → i < length bs → list_any (plays_in r role a) (drop i bs) ≡ b → list_any (plays_in r role a) (drop (i + 1) bs) ≡ b
none_so_far r role a bs i b h within before = rw add-one (next_at (plays_in r role a) bs i within h ∙ before)
