-- Of which intervals a look knows something.
use Rattle.std.specs.Prelude.{◌≡◌, ℕ, zero, suc, [], ◌∷◌, ◌<◌, ◌≤◌, ℤ, List, length, Option, Some, None, slice_get}
use Rattle.std.proofs.Common.{refl, sym, ap, ◌∙◌, arith}
use Rattle.std.proofs.lemmas.Option.{slice_get_past}
use Rattle.sched_base.specs.declared.ids.Itv.{Itv}
use Rattle.sched_model.specs.declared.types.IntervalDef.{IntervalDef}
use Rattle.sched_model.specs.Data.{Data}
use Rattle.sched_model.specs.Ranges.{Ends}
use Rattle.region.specs.declared.types.Bounds.{Bounds}
use Rattle.region.specs.Cells.{Region, bounds_of}
use Rattle.region.specs.Looks.{HasMoments}
use Rattle.region.specs.Looks.{IsRegionOf, is_narrowed}
use Rattle.region.specs.laws.Lists.{placewise-length}
use Rattle.look_hull.specs.LookHull.{unless_empty, unless_absent, range_of_listed, interval_look}
use Rattle.look_hull.specs.code.Known.{KnownAs}

pub listed_past : (m : Data) (r : Region) (n : ℕ) → IsRegionOf m r → length r.bounds ≤ n → slice_get m.intervals n ≡ None
listed_past m r n of past = slice_get_past m.intervals n (let same = placewise-length is_narrowed m.intervals r.bounds of.bounds in omega (arith, same, past))

pub listed_within : (m : Data) (r : Region) (x : Itv) (c : Bounds) → IsRegionOf m r → x.0 < length r.bounds → c ≡ bounds_of r x → HasMoments c → KnownAs m r x c
listed_within m r x c of within is moments = record {
  bounds = is;
  moments = moments;
  listed = λ none. omega (arith, within, placewise-length is_narrowed m.intervals r.bounds of.bounds, none_past m.intervals x.0 none);
}
  where
    none_past : (xs : List IntervalDef) (n : ℕ) → slice_get xs n ≡ None → length xs ≤ n
    none_past [] n h = omega arith
    none_past (y ∷ ys) zero h = cc
    none_past (y ∷ ys) (suc n) h = let past = none_past ys n h in omega (arith, past)

pub look_unlisted : (m : Data) (r : Region) (f : Bounds → Ends) (x : Itv) (d : ℤ) → slice_get m.intervals x.0 ≡ None → (let e : Ends = (d, d) in e) ≡ interval_look m r f x d
look_unlisted m r f x d is = sym (ap (λ o. range_of_listed f d o (bounds_of r x)) is)

pub look_listed : (m : Data) (r : Region) (f : Bounds → Ends) (x : Itv) (d : ℤ) (c : Bounds) (e : Ends) → KnownAs m r x c → e ≡ f c → unless_absent c.presence d e ≡ interval_look m r f x d
look_listed m r f x d c e known range = by_case (slice_get m.intervals x.0) refl
  where
    by_case : (o : Option IntervalDef) → slice_get m.intervals x.0 ≡ o → unless_absent c.presence d e ≡ range_of_listed f d o (bounds_of r x)
    by_case None is = absurd (known.listed is)
    by_case (Some i) is = ap (unless_absent c.presence d) range ∙ ap (λ b. unless_absent b.presence d (f b)) known.bounds

pub unless_empty_by : (a b p q a' b' p' q' : ℤ) (e : Ends) → e ≡ unless_empty (a, b) (p, q) → a ≡ a' → b ≡ b' → p ≡ p' → q ≡ q' → e ≡ unless_empty (a', b') (p', q')
unless_empty_by a b p q a' b' p' q' e is h i j k = is ∙ ap (λ z. unless_empty (z, b) (p, q)) h ∙ ap (λ z. unless_empty (a', z) (p, q)) i ∙ ap (λ z. unless_empty (a', b') (z, q)) j ∙ ap (λ z. unless_empty (a', b') (p', z)) k
