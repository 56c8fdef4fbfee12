-- Step functions, and the ranges of moments at which they are 0. Moments are whole numbers from -H to H.
use Rattle.std.specs.Prelude.{◌≡◌, ℤ, pos, neg_ℤ, ◌+ℤ◌, ◌-ℤ◌, ◌≤ℤ◌, ◌<ℤ◌, Bool, true, ◌&&◌, if◌then◌else◌, List, [], ◌∷◌, fold, length, int_le, int_lt, nat_le, All}
use Rattle.std.specs.Ordering.{int_eq}
use Rattle.std.specs.List.{list_all, list_any}
use Rattle.sched_model.specs.Words.{pairwise}
use Rattle.sched_model.specs.Bounds.{is_moment, is_amount}
use Rattle.sched_model.specs.Data.{horizon}
use Rattle.calendar.specs.declared.step.Pair.{Pair}

-- the value of the last pair whose moment isn't later, and 0 before the first
abbrev pub value_from : ℤ → List Pair → ℤ → ℤ
value_from v ps t = fold (λ v p. if int_le p.t t then p.v else v) v ps

abbrev pub value_at : List Pair → ℤ → ℤ
value_at ps t = value_from (pos 0) ps t

-- each moment is later than the one before
abbrev pub rises : List Pair → Bool
rises ps = pairwise (λ p q. int_lt p.t q.t) ps

abbrev pub are_steps : List Pair → Bool
are_steps ps = rises ps && list_all (λ p. is_moment p.t && is_amount p.v) ps && nat_le (length ps) 1000

-- a range of moments, from t on and before v
abbrev pub range : ℤ → ℤ → Pair
range from until = record { t = from; v = until }

-- in front of others, if it has a moment
abbrev pub put : ℤ → ℤ → List Pair → List Pair
put from until rs = if int_lt from until then range from until ∷ rs else rs

-- of a stretch on which the function is v, if that is 0
abbrev pub ended : ℤ → ℤ → ℤ → List Pair
ended v from until = if int_eq v (pos 0) then put from until [] else []

-- the ranges at which the function is 0, of one that is v from a moment on
abbrev pub closed_from : ℤ → ℤ → List Pair → List Pair
closed_from from v [] = ended v from (horizon +ℤ pos 1)
closed_from from v (p ∷ ps) = if int_eq v (pos 0)
    then (if int_eq p.v (pos 0) then closed_from from (pos 0) ps else put from p.t (closed_from p.t p.v ps))
    else closed_from p.t p.v ps

abbrev pub closed_of : List Pair → List Pair
closed_of ps = closed_from (neg_ℤ horizon) (pos 0) ps

-- In the subject's own words.

-- a moment of a range
abbrev pub has_moment : ℤ → Pair → Bool
has_moment t r = int_le r.t t && int_lt t r.v

abbrev pub Inside : Pair → ℤ → Type 0
Inside r t = (r.t ≤ℤ t) × (t <ℤ r.v)

-- a range with a moment, at which the function is 0, and that is as long as it can be
pub record IsClosed (ps : List Pair) (r : Pair) : Type 0 where
  pub some : r.t <ℤ r.v
  pub from : neg_ℤ horizon ≤ℤ r.t
  pub until : r.v ≤ℤ (horizon +ℤ pos 1)
  pub zero : (t : ℤ) → Inside r t → value_at ps t ≡ pos 0
  pub before : neg_ℤ horizon <ℤ r.t → value_at ps (r.t -ℤ pos 1) ≡ pos 0 → ⊥
  pub behind : r.v <ℤ (horizon +ℤ pos 1) → value_at ps r.v ≡ pos 0 → ⊥

-- all of them, one behind the other
pub record AreClosed (ps rs : List Pair) : Type 0 where
  pub each : All (IsClosed ps) rs
  pub none_missed : (t : ℤ) → is_moment t ≡ true → value_at ps t ≡ pos 0 → list_any (has_moment t) rs ≡ true
  pub order : pairwise (λ r q. int_le r.v q.t) rs ≡ true
