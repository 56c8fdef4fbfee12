-- A quiet propagator stays quiet where nothing that it watches changes.
use Rattle.std.specs.Prelude.{◌≡◌, ℕ, zero, suc, ℤ, Bool, true, false, ◌-◌, length, Option, IsTrue, nat_lt, nat_eq, cond}
use Rattle.std.proofs.Common.{refl, sym, subst}
use Rattle.sched_model.specs.Data.{Data}
use Rattle.region.specs.declared.types.CellName.{CellName}
use Rattle.region.specs.Cells.{Region}
use Rattle.region.specs.Guesses.{SameCell}
use Rattle.region.specs.Looks.{IsRegionOf}
use Rattle.refute_basic.specs.declared.witness.BasicWitness.TheVariants.{Size, Expr}
use Rattle.prop_basic.specs.code.Tasks.{reads_of, witness_at, watching, watching_best, quiet, IsSilent}
use Rattle.prop_basic.specs.laws.Owners.{owned, owns}
use Rattle.prop_basic.specs.laws.Silent.{silent_kept}

best_watched : (m : Data) (k : ℕ) → (reads_of m (witness_at m k)).best ≡ true → nat_eq k 0 ≡ true
best_watched m zero h = refl
best_watched m (suc i) h = by_case (nat_lt i (length m.intervals)) h
  where
    by_case : (b : Bool) → (reads_of m (cond b (Size i) (Expr (i - length m.intervals)))).best ≡ true → nat_eq (suc i) 0 ≡ true
    by_case true h = cc
    by_case false h = cc

pub unwatched : (m : Data) (k : ℕ) (r q : Region) (b c : Option ℤ) → IsRegionOf m r → IsRegionOf m q → ((cell : CellName) → IsTrue (watching m k cell) → SameCell cell r q) → (IsTrue (watching_best m k) → b ≡ c) → quiet m k r b → quiet m k q c
unwatched m k r q b c of also cells best still = record {
  unrefuted = λ w guess mine asked.
      let is = owned m k w mine in
      let silent : IsSilent m r b w = λ g h. still.unrefuted w g mine h in
      subst (IsSilent m q c) (sym is) (silent_kept m (witness_at m k) r q b c (owns m k) of also cells (λ h. best (best_watched m k h)) (subst (IsSilent m r b) is silent)) guess asked;
}
