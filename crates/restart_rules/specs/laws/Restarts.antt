-- Lines put behind others meet the restart rule, and there are as many restarts as it says at most.
use Rattle.std.specs.Prelude.{◌≡◌, ℕ, ◌+◌, ◌≤◌, ◌<◌, Bool, true, false, List, [], ◌∷◌, ◌++◌, nat_lt, nat_eq, ◌*◌, ◌^◌, if◌then◌else◌}
use Rattle.std.proofs.Common.{refl, sym, subst, ◌∙◌, arith}
use Rattle.std.proofs.lemmas.Bool.{and_parts, ltb-true}
use Rattle.sched_model.specs.Data.{Data}
use Rattle.region.specs.Looks.{Refuting}
use Rattle.kernel.specs.declared.types.Witness.{Witness}
use Rattle.kernel.specs.declared.types.Line.{Line}
use Rattle.kernel.specs.declared.types.Line.TheVariants.{Derive, Fail, Split, Sol, Restart}
use Rattle.kernel.specs.Steps.{LogState, Steps, done, more, is_restart, restarts_in}
use Rattle.kernel.specs.laws.Outcomes.{same_ok}
use Rattle.restart_rules.specs.Restarts.{Limits, Stretch, stretch_after, is_over, is_due, RestartsFrom, first_stretch}
use Rattle.restart_rules.specs.code.Stretches.{stretch_in}

pub restarts_on : {W : Type 0} {refutes : Refuting (Witness W)} (m : Data) (l : Limits) (k : Stretch) {s t : LogState} {xs : List (Line W)} (ys : List (Line W)) → Steps refutes m s xs t
    → RestartsFrom refutes m l k s xs → RestartsFrom refutes m l (stretch_in k xs) t ys → RestartsFrom refutes m l k s (xs ++ ys)
restarts_on m l k ys done first rest = rest
restarts_on {refutes = refutes} m l k ys (more {s} {t} {u} {line} {lines} is others) first rest =
    (first.0, λ v h. subst (λ (w : LogState). RestartsFrom refutes m l (stretch_after line k) w (lines ++ ys)) (same_ok t v (sym is ∙ h)) (restarts_on m l (stretch_after line k) ys others (first.1 t is) rest))

pub stretch_on : {W : Type 0} (k : Stretch) (xs ys : List (Line W)) → stretch_in k (xs ++ ys) ≡ stretch_in (stretch_in k xs) ys
stretch_on k [] ys = refl
stretch_on k (x ∷ xs) ys = stretch_on (stretch_after x k) xs ys

-- a line that is none and isn't due, and one that is and is
pub plain_next : {W : Type 0} (refutes : Refuting (Witness W)) (m : Data) (l : Limits) (k : Stretch) (s : LogState) (line : Line W) → is_restart line ≡ false → is_due l k s ≡ false → RestartsFrom refutes m l k s (line ∷ [])
plain_next refutes m l k s line plain none = (plain ∙ sym none, λ t h. tt)

pub restart_next : {W : Type 0} (refutes : Refuting (Witness W)) (m : Data) (l : Limits) (k : Stretch) (s : LogState) → is_due l k s ≡ true → RestartsFrom refutes m l k s (Restart ∷ [])
restart_next refutes m l k s due = (sym due, λ t h. tt)

-- as many restarts as there may be
due_left : (l : Limits) (k : Stretch) (s : LogState) → is_due l k s ≡ true → k.restarts < l.restarts
due_left l k s due = ltb-true _ _ (and_parts (nat_lt k.restarts l.restarts) (nat_eq k.closed (100 * 2 ^ k.restarts)) (and_parts _ (is_over l.restarts k) due).1).0

raised : {W : Type 0} (line : Line W) (k : Stretch) → (stretch_after line k).restarts ≡ (if is_restart line then k.restarts + 1 else k.restarts)
raised (Derive g w) k = refl
raised (Fail w) k = refl
raised (Split g) k = refl
raised (Sol a) k = refl
raised Restart k = refl

within_limit : {W : Type 0} (l : Limits) (k : Stretch) (s : LogState) (line : Line W) → is_restart line ≡ is_due l k s → k.restarts ≤ l.restarts → (stretch_after line k).restarts ≤ l.restarts
within_limit l k s (Derive g w) is few = few
within_limit l k s (Fail w) is few = few
within_limit l k s (Split g) is few = few
within_limit l k s (Sol a) is few = few
within_limit l k s Restart is few = omega (arith, due_left l k s (sym is))

counted : (b : Bool) (k n r most : ℕ) → r ≡ (if b then k + 1 else k) → r + n ≤ most → k + (if b then n + 1 else n) ≤ most
counted true k n r most is h = omega (arith, is, h)
counted false k n r most is h = omega (arith, is, h)

few_from : {W : Type 0} {refutes : Refuting (Witness W)} (m : Data) (l : Limits) (k : Stretch) {s t : LogState} {lines : List (Line W)} → Steps refutes m s lines t → RestartsFrom refutes m l k s lines
    → k.restarts ≤ l.restarts → k.restarts + restarts_in lines ≤ l.restarts
few_from m l k done meets few = omega (arith, few)
few_from m l k (more {s} {t} {u} {line} {lines} is rest) meets few =
    counted (is_restart line) k.restarts (restarts_in lines) (stretch_after line k).restarts l.restarts (raised line k)
    (few_from m l (stretch_after line k) rest (meets.1 t is) (within_limit l k s line meets.0 few))

-- so a log that meets the rule begins anew as often as it may at most
pub few_restarts : {W : Type 0} {refutes : Refuting (Witness W)} (m : Data) (l : Limits) {s t : LogState} {lines : List (Line W)} → Steps refutes m s lines t → RestartsFrom refutes m l first_stretch s lines → restarts_in lines ≤ l.restarts
few_restarts m l steps meets = let few = few_from m l first_stretch steps meets (omega arith) in omega (arith, few)
