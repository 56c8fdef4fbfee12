-- What a write does to a region that is kept as numbers.
use Rattle.std.specs.Prelude.{◌≡◌, ℕ, zero, suc, ◌*◌, ◌≤◌, ℤ, true, ◌&&◌, List, [], ◌∷◌, map, take, drop, length, nat_eq, slice_set, Result, Ok, Err, IfOk, OnOk, OnErr}
use Rattle.std.specs.List.{list_all}
use Rattle.std.proofs.Common.{refl, sym, ap, subst, ◌∙◌, arith}
use Rattle.std.proofs.lemmas.List.{length-map, length-drop}
use Rattle.std.proofs.lemmas.Bool.Decides.{nat_tests}
use Rattle.sched_base.specs.declared.ids.Itv.{Itv}
use Rattle.sched_model.specs.Data.{Data}
use Rattle.sched_model.specs.Valid.{is_moment, pair_count}
use Rattle.trail.specs.code.Trail.{Trail}
use Rattle.region.specs.declared.types.Topic.{Topic}
use Rattle.region.specs.declared.types.Topic.TheVariants.{One, Two}
use Rattle.region.specs.Cells.{Region, no_sequence}
use Rattle.region.specs.Guesses.{assumed, refused, assumed_cell, refused_cell, admits_topic, is_ready}
use Rattle.region.specs.Looks.{IsRegionOf, has_pairs}
use Rattle.region.specs.code.Held.{Held, IsHeldOf}
use Rattle.region.specs.code.Flat.{Form, AreCells, IsKept, region_from, orders_from, order_from, pairs_from, pairs_in, number_place, assumed_number, refused_number}
use Rattle.region.specs.laws.Lists.{both_true, true_both, all-at}
use Rattle.region.specs.laws.Pairs.{paired}
use Rattle.region.specs.laws.Narrowing.{HasPairs}
use Rattle.region.proofs.Places.{assumed_written, refused_written, pairs_more}
use Rattle.region.proofs.Moments.{cells_written, assumed_moment, refused_moment}

pub on_ok : {T E P Q : Type 0} → (r : Result T E) → (P → Q) → OnOk r P → OnOk r Q
on_ok (Ok v) f p = f p
on_ok (Err e) f p = p

pub if_ok : {T E : Type 0} {P Q : T → Type 0} → (r : Result T E) → ((v : T) → P v → Q v) → IfOk r P → IfOk r Q
if_ok (Ok v) f p = f v p
if_ok (Err e) f p = p

pub either_way : {T E P Q R : Type 0} → (r : Result T E) → (P → R) → (Q → R) → OnOk r P → OnErr r Q → R
either_way (Ok v) f g p q = f p
either_way (Err e) f g p q = g q

-- the view
abbrev pub held_from : Form → Trail → Held
held_from f t = record { region = region_from f t.list; saved = map (region_from f) t.saved; promised = t.promised; spare = t.spare }

-- a trail of which one cell was written
abbrev pub IsWritten : Trail → Trail → ℕ → ℤ → Type 0
IsWritten t t' i v = t' ≡ record t { list = slice_set t.list i v; spare = t'.spare }

pub kept_written : (f : Form) (t t' : Trail) (i : ℕ) (v : ℤ) → IsKept f t → is_moment v ≡ true → IsWritten t t' i v → IsKept f t'
kept_written f t t' i v kept here is = subst (IsKept f) (sym is) (record { list = cells_written f t.list i v kept.list here; saved = kept.saved })

view_written : (f : Form) (t t' : Trail) (i : ℕ) (v : ℤ) (r : Region) → IsWritten t t' i v → region_from f (slice_set t.list i v) ≡ r
    → held_from f t' ≡ record (held_from f t) { region = r; spare = t'.spare }
view_written f t t' i v r is at = ap (held_from f) is ∙ ap (λ q. let h : Held = record { region = q; saved = map (region_from f) t.saved; promised = t.promised; spare = t'.spare } in h) at

-- the write of a topic that is ready, and of a fact
pub assumed_kept : (f : Form) (t t' : Trail) (s : Topic) (i : ℕ) (v : ℤ) → IsKept f t → (admits_topic (region_from f t.list) s && is_ready (region_from f t.list) s) ≡ true → v ≡ assumed_number f s → IsWritten t t' i v → IsKept f t'
assumed_kept f t t' s i v kept h number is = kept_written f t t' i v kept (ap is_moment number ∙ assumed_moment f t.list s kept.list (both_true _ (is_ready (region_from f t.list) s) h).0) is

pub refused_kept : (f : Form) (t t' : Trail) (s : Topic) (i : ℕ) (v : ℤ) → IsKept f t → admits_topic (region_from f t.list) s ≡ true → v ≡ refused_number f s → IsWritten t t' i v → IsKept f t'
refused_kept f t t' s i v kept h number is = kept_written f t t' i v kept (ap is_moment number ∙ refused_moment f t.list s kept.list h) is

pub assumed_view : (f : Form) (t t' : Trail) (s : Topic) (i : ℕ) (v : ℤ) → IsKept f t → (admits_topic (region_from f t.list) s && is_ready (region_from f t.list) s) ≡ true → i ≡ number_place f (assumed_cell s) → v ≡ assumed_number f s
    → IsWritten t t' i v → held_from f t' ≡ record (held_from f t) { region = assumed s (region_from f t.list); spare = t'.spare }
assumed_view f t t' s i v kept h place number is =
    let two = both_true (admits_topic (region_from f t.list) s) (is_ready (region_from f t.list) s) h in
    view_written f t t' i v (assumed s (region_from f t.list)) is
    (ap (λ n. region_from f (slice_set t.list n v)) place ∙ ap (λ z. region_from f (slice_set t.list (number_place f (assumed_cell s)) z)) number ∙ assumed_written f t.list s kept.list two.0 two.1)

pub refused_view : (f : Form) (t t' : Trail) (s : Topic) (i : ℕ) (v : ℤ) → IsKept f t → admits_topic (region_from f t.list) s ≡ true → i ≡ number_place f (refused_cell s) → v ≡ refused_number f s
    → IsWritten t t' i v → held_from f t' ≡ record (held_from f t) { region = refused s (region_from f t.list); spare = t'.spare }
refused_view f t t' s i v kept h place number is =
    view_written f t t' i v (refused s (region_from f t.list)) is
    (ap (λ n. region_from f (slice_set t.list n v)) place ∙ ap (λ z. region_from f (slice_set t.list (number_place f (refused_cell s)) z)) number ∙ refused_written f t.list s kept.list h)

-- the sequences of a region that is kept have a cell for each pair
pub all_taken : (n : ℕ) (ns : List ℤ) → n ≤ length ns → length (take n ns) ≡ n
all_taken zero ns room = refl
all_taken (suc n) [] room = absurd (omega (arith, room))
all_taken (suc n) (x ∷ xs) room = ap suc (all_taken n xs (omega (arith, room)))

all_pairs : (mss : List (List Itv)) (ns : List ℤ) → pairs_in mss ≤ length ns → list_all has_pairs (orders_from mss ns) ≡ true
all_pairs [] ns room = refl
all_pairs (ms ∷ mss) ns room =
    true_both (nat_eq (length (pairs_from (pair_count (length ms)) ns)) (pair_count (length ms))) _
    (equal _ _ (length-map (take (pair_count (length ms)) ns) order_from ∙ all_taken (pair_count (length ms)) ns (omega (arith, room, pairs_more ms mss))))
    (all_pairs mss (drop (pair_count (length ms)) ns) (omega (arith, room, pairs_more ms mss, length-drop (pair_count (length ms)) ns)))
  where
    equal : (n k : ℕ) → n ≡ k → nat_eq n k ≡ true
    equal n k e = grind (arith, nat_tests, e)

pub kept_pairs : (f : Form) (cells : List ℤ) (t : Topic) → AreCells f cells → admits_topic (region_from f cells) t ≡ true → HasPairs (region_from f cells) t
kept_pairs f cells (One x c) are h = tt
kept_pairs f cells (Two p x y) are h =
    all-at has_pairs (region_from f cells).orders p.0 no_sequence (all_pairs f.members (drop (5 * length f.sizes) cells) (omega (arith, are.count, length-drop (5 * length f.sizes) cells))) (paired (region_from f cells) p x y h).within

-- a region stays one of its models, with those that were saved
pub held_changed : (m : Data) (old new : Held) (r : Region) → new ≡ record old { region = r; spare = new.spare } → (IsRegionOf m old.region → IsRegionOf m r) → IsHeldOf m old → IsHeldOf m new
held_changed m old new r is keeps of = subst (IsHeldOf m) (sym is) (record { region = keeps of.region; saved = of.saved })

pub held_same : (m : Data) (old new : Held) → new ≡ old → IsHeldOf m old → IsHeldOf m new
held_same m old new is of = subst (IsHeldOf m) (sym is) of

-- nothing was saved
pub none_saved : {X Y : Type 0} (h : X → Y) (xs : List X) → map h xs ≡ [] → xs ≡ []
none_saved h [] e = refl
none_saved h (x ∷ xs) e = absurd (omega (arith, ap length e))
