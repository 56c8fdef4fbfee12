-- Whom a change wakes.
use Rattle.std.specs.Prelude.{◌≡◌, ℕ, ℤ, true, IsTrue, Option}
use Rattle.std.proofs.Common.{refl, sym, ap, subst, ◌∙◌}
use Rattle.std.proofs.lemmas.Bool.{true≢false}
use Rattle.iqueue.specs.code.Queue.{is_in}
use Rattle.sched_model.specs.Data.{Data}
use Rattle.region.specs.declared.types.CellName.{CellName}
use Rattle.region.specs.declared.types.CellName.TheVariants.{Presence, StartMin, StartMax, EndMin, EndMax, Order}
use Rattle.region.specs.Cells.{Region}
use Rattle.region.specs.Guesses.{SameCell, turned}
use Rattle.region.specs.Looks.{IsRegionOf}
use Rattle.wake_levels.specs.code.Waking.{is_awake}
use Rattle.wake_levels.specs.code.Calm.{WakesEach}
use Rattle.engine.specs.declared.propagator.Propagator.{Ghosts}
use Rattle.engine.specs.code.Changes.{AreSameBut}
use Rattle.engine.specs.code.Watching.{Watching, watchers_of}
use Rattle.engine.specs.code.Engines.{EngineValue, IsFor, IsCalm}
use Rattle.base_laws.specs.laws.Truth.{fails_before}

-- the law that quiet stays where nothing watched changes
abbrev pub Unwatched : {P : Type 0} → Ghosts P → Type 0
Unwatched p = (m : Data) (k : ℕ) (r q : Region) (b c : Option ℤ) → IsRegionOf m r → IsRegionOf m q → ((cell : CellName) → IsTrue (p.watching m k cell) → SameCell cell r q) → (IsTrue (p.watching_best m k) → b ≡ c) → p.quiet m k r b → p.quiet m k q c

turned_watchers : (w : Watching) (c : CellName) → watchers_of w (turned c) ≡ watchers_of w c
turned_watchers w (Presence x) = refl
turned_watchers w (StartMin x) = refl
turned_watchers w (StartMax x) = refl
turned_watchers w (EndMin x) = refl
turned_watchers w (EndMax x) = refl
turned_watchers w (Order p x y) = refl

-- nor do other notes of the propagators
pub told_for : {P : Type 0} (p : Ghosts P) (m : Data) (old new : EngineValue P) → new ≡ record old { propagators = new.propagators } → ((d : Data) → p.is_of old.propagators d → p.is_of new.propagators d) → IsFor p m old → IsFor p m new
told_for p m old new same kept is = subst (IsFor p m) (sym same) (record { of = kept m is.of; below = is.below; cells = is.cells; best = is.best })

pub told_calm : {P : Type 0} (p : Ghosts P) (m : Data) (r : Region) (best : Option ℤ) (old new : EngineValue P) → new ≡ record old { propagators = new.propagators } → IsCalm p m r best old → IsCalm p m r best new
told_calm p m r best old new same calm = subst (IsCalm p m r best) (sym same) calm

-- who watches the cell that changed is awake
pub calm_after : {P : Type 0} (p : Ghosts P) → Unwatched p → (cell : CellName) (old new : EngineValue P) → WakesEach (watchers_of old.watching cell) old.waking new.waking
    → (m : Data) (r q : Region) (best : Option ℤ) → IsFor p m old → IsRegionOf m r → IsRegionOf m q → AreSameBut cell r q → IsCalm p m r best old → IsCalm p m q best new
calm_after p unwatched cell old new wakes m r q best is of also others calm k within asleep =
    unwatched m k r q best best of also (λ c watched. others c (λ e. awake c watched (ap (watchers_of old.watching) e)) (λ e. awake c watched (ap (watchers_of old.watching) e ∙ turned_watchers old.watching cell)))
    (λ watched. refl) (calm k within (fails_before (is_awake old.waking k) (is_awake new.waking k) (wakes.kept k) asleep))
  where
    awake : (c : CellName) → IsTrue (p.watching m k c) → watchers_of old.watching c ≡ watchers_of old.watching cell → ⊥
    awake c watched e = true≢false (sym (wakes.woken k (subst (λ ks. is_in k ks ≡ true) e (is.cells k c within watched))) ∙ asleep)
