-- Two folds of an expression, one after the other.
use Rattle.std.proofs.Common.{◌≡◌, List, refl, ap}
use Rattle.std.proofs.lemmas.Simd.{map-map}
use Rattle.cpo_text.specs.declared.expression.Logic.{Logic}
use Rattle.cpo_text.specs.declared.expression.Logic.TheOpen.{Logic-F}
use Rattle.cpo_text.specs.declared.expression.Logic.TheOpen.Logic-F.{Lit, Group, PresenceOf, Measured, Gathered, Linked, Neg, Sum, Compare, Not, Implies}
use Rattle.cpo_text.specs.declared.expression.Logic.TheFolds.{map-Logic}

-- what is taken of each child that is kept beside its proof is taken of the child
pub composed : (P : Logic → Type 0) (A : Type 0) (f : Logic → A) (y : Logic-F ((e : Logic) × P e)) → map-Logic Logic A f (map-Logic ((e : Logic) × P e) Logic (λ p. p.0) y) ≡ map-Logic ((e : Logic) × P e) A (λ p. f p.0) y
composed P A f (Lit n) = refl
composed P A f (Group p) = refl
composed P A f (PresenceOf a) = refl
composed P A f (Measured how a d) = refl
composed P A f (Gathered g ps) = ap (λ (xs : List A). Gathered g xs) (map-map f (λ p. p.0) ps)
composed P A f (Linked l ps) = ap (λ (xs : List A). Linked l xs) (map-map f (λ p. p.0) ps)
composed P A f (Neg p) = refl
composed P A f (Sum ps) = ap (λ (xs : List A). Sum xs) (map-map f (λ p. p.0) ps)
composed P A f (Compare op p q) = refl
composed P A f (Not p) = refl
composed P A f (Implies p q) = refl
