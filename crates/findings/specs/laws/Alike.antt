-- Regions that are alike where a witness reads, before and under a guess.
use Rattle.std.specs.Prelude.{◌≡◌, ℕ, zero, suc, ◌≤◌, Bool, true, false, not, ◌&&◌, IsTrue, List, [], ◌∷◌, length, nat_eq, nat_lt, if◌then◌else◌}
use Rattle.std.proofs.Common.{refl, sym, ap, subst, ◌∙◌, arith, get_or}
use Rattle.std.proofs.lemmas.Bool.Decides.{nat_tests}
use Rattle.std.proofs.lemmas.List.{get_or_past}
use Rattle.std.proofs.lemmas.Bool.{or_left, or_right}
use Rattle.base_laws.specs.laws.Numbers.{other_number}
use Rattle.sched_base.specs.declared.ids.Itv.{Itv}
use Rattle.sched_base.specs.declared.ids.Seq.{Seq}
use Rattle.sched_model.specs.Data.{Data, same, has}
use Rattle.region.specs.declared.types.Bounds.{Bounds}
use Rattle.region.specs.declared.types.Presence.{Presence}
use Rattle.region.specs.declared.types.OrderCell.{OrderCell}
use Rattle.region.specs.declared.types.OrderCell.TheVariants.{Forward, Backward}
use Rattle.region.specs.declared.types.Claim.{Claim}
use Rattle.region.specs.declared.types.Claim.TheVariants.{Present, Absent, StartLe, StartGe, EndLe, EndGe}
use Rattle.region.specs.declared.types.Topic.{Topic}
use Rattle.region.specs.declared.types.Topic.TheVariants.{One, Two}
use Rattle.region.specs.declared.types.Guess.{Guess}
use Rattle.region.specs.declared.types.CellName.{CellName}
use Rattle.region.specs.declared.types.CellName.TheVariants as cell
use Rattle.region.specs.Orders.{order_in, says_unknown}
use Rattle.region.specs.Cells.{Region, bounds_of, cells_of, unknown, says_absent}
use Rattle.region.specs.Claims.{guessed, as_present, is_open_at}
use Rattle.region.specs.Guesses.{admits, admits_topic, assumed, topic, with_guess, with_bounds, changed_at, SameCell}
use Rattle.region.specs.Looks.{IsRegionOf}
use Rattle.region.specs.laws.Lists.{length-changed_at}
use Rattle.region.specs.laws.OneSequence.{order_told}
use Rattle.region.specs.laws.Pairs.{IsPaired, paired, pairs_at, cells_there, cells_elsewhere}
use Rattle.region.specs.laws.Narrowing.{as_many, members_are, as_many_bounds}
use Rattle.region.specs.laws.Standing.{SameFive, same_bounds}
use Rattle.findings.specs.Ends.{is_end_at, is_end, is_open_end}
use Rattle.findings.specs.code.Reads.{Reads, AreAlike, reads_cell, is_among, is_paired}
use Rattle.findings.specs.laws.Members.{first_paired, second_paired}

-- what is made of an element by one function, where it depends on one thing of the element
changed_alike : {X Y : Type 0} (h : X → Y) (f : X → X) → ((a b : X) → h a ≡ h b → h (f a) ≡ h (f b)) → (n i : ℕ) (xs ys : List X) (d : X) → length xs ≡ length ys
    → h (get_or xs i d) ≡ h (get_or ys i d) → h (get_or (changed_at n f xs) i d) ≡ h (get_or (changed_at n f ys) i d)
changed_alike h f keeps n i [] [] d size same = same
changed_alike h f keeps n i [] (y ∷ ys) d size same = absurd (omega (arith, size))
changed_alike h f keeps n i (x ∷ xs) [] d size same = absurd (omega (arith, size))
changed_alike h f keeps zero zero (x ∷ xs) (y ∷ ys) d size same = keeps x y same
changed_alike h f keeps zero (suc i) (x ∷ xs) (y ∷ ys) d size same = same
changed_alike h f keeps (suc n) zero (x ∷ xs) (y ∷ ys) d size same = same
changed_alike h f keeps (suc n) (suc i) (x ∷ xs) (y ∷ ys) d size same = changed_alike h f keeps n i xs ys d (omega (arith, size)) same

same_size : (m : Data) (r q : Region) → IsRegionOf m r → IsRegionOf m q → length r.bounds ≡ length q.bounds
same_size m r q of also = sym (as_many_bounds m r of) ∙ as_many_bounds m q also

-- the bounds of an interval under a guess, or one thing of them, by those before
bounds_kept : {Y : Type 0} (h : Bounds → Y) (x z : Itv) (f : Bounds → Bounds) (r q : Region) → ((a b : Bounds) → h a ≡ h b → h (f a) ≡ h (f b)) → length r.bounds ≡ length q.bounds
    → h (bounds_of r z) ≡ h (bounds_of q z) → h (bounds_of (with_bounds x f r) z) ≡ h (bounds_of (with_bounds x f q) z)
bounds_kept h x z f r q keeps size same = changed_alike h f keeps x.0 z.0 r.bounds q.bounds unknown size same

size_kept : (x : Itv) (f : Bounds → Bounds) (r q : Region) → length r.bounds ≡ length q.bounds → length (with_bounds x f r).bounds ≡ length (with_bounds x f q).bounds
size_kept x f r q size = length-changed_at x.0 f r.bounds ∙ size ∙ sym (length-changed_at x.0 f q.bounds)

under : {Y : Type 0} (h : Bounds → Y) (t : Topic) (z : Itv) (r q : Region) → ((c : Claim) (a b : Bounds) → h a ≡ h b → h (guessed c a) ≡ h (guessed c b)) → length r.bounds ≡ length q.bounds
    → h (bounds_of r z) ≡ h (bounds_of q z) → h (bounds_of (assumed t r) z) ≡ h (bounds_of (assumed t q) z)
under h (One x c) z r q keeps size same = bounds_kept h x z (guessed c) r q (keeps c) size same
under h (Two p x y) z r q keeps size same =
    bounds_kept h x z as_present (with_bounds y as_present r) (with_bounds y as_present q) (keeps Present) (size_kept y as_present r q size) (bounds_kept h y z as_present r q (keeps Present) size same)

presence_under : (c : Claim) (a b : Bounds) → a.presence ≡ b.presence → (guessed c a).presence ≡ (guessed c b).presence
presence_under Present a b same = refl
presence_under Absent a b same = refl
presence_under (StartLe t) a b same = refl
presence_under (StartGe t) a b same = refl
presence_under (EndLe t) a b same = refl
presence_under (EndGe t) a b same = refl

-- the order of two under a guess, by that before
abbrev told_order_in : Itv → Itv → Itv → Itv → OrderCell → OrderCell
told_order_in x y a b o = if same x a && same y b then Forward else if same x b && same y a then Backward else o

order_there : (m : Data) (p : Seq) (x y a b : Itv) (r : Region) → IsRegionOf m r → IsPaired r p x y → order_in (cells_of (assumed (Two p x y) r) p) a b ≡ told_order_in x y a b (order_in (cells_of r p) a b)
order_there m p x y a b r of pair =
    ap (λ s. order_in s a b) (cells_there p x y (with_bounds x as_present (with_bounds y as_present r)) pair.within) ∙ order_told (cells_of r p) x y a b (pairs_at m r p of pair.within) pair.is_open

order_elsewhere : (p u : Seq) (x y a b : Itv) (r : Region) → (u.0 ≡ p.0 → ⊥) → order_in (cells_of (assumed (Two p x y) r) u) a b ≡ order_in (cells_of r u) a b
order_elsewhere p u x y a b r other = ap (λ s. order_in s a b) (cells_elsewhere p u x y (with_bounds x as_present (with_bounds y as_present r)) other)

abbrev numbered : ℕ → Seq
numbered i = record { 0 = i }

order_under : (m : Data) (t : Topic) (u : Seq) (a b : Itv) (r q : Region) → IsRegionOf m r → IsRegionOf m q → admits_topic r t ≡ true → admits_topic q t ≡ true
    → order_in (cells_of r u) a b ≡ order_in (cells_of q u) a b → order_in (cells_of (assumed t r) u) a b ≡ order_in (cells_of (assumed t q) u) a b
order_under m (One x c) u a b r q of also here there same = same
order_under m (Two p x y) u a b r q of also here there same = by_case (nat_eq u.0 p.0) refl
  where
    same_number : (i j : ℕ) → nat_eq i j ≡ true → i ≡ j
    same_number i j h = grind (arith, nat_tests)

    at_one : (u : Seq) → u ≡ p → order_in (cells_of r u) a b ≡ order_in (cells_of q u) a b → order_in (cells_of (assumed (Two p x y) r) u) a b ≡ order_in (cells_of (assumed (Two p x y) q) u) a b
    at_one u e k = rw e (order_there m p x y a b r of (paired r p x y here) ∙ ap (told_order_in x y a b) (subst (λ v. order_in (cells_of r v) a b ≡ order_in (cells_of q v) a b) e k)
        ∙ sym (order_there m p x y a b q also (paired q p x y there)))

    by_case : (d : Bool) → nat_eq u.0 p.0 ≡ d → order_in (cells_of (assumed (Two p x y) r) u) a b ≡ order_in (cells_of (assumed (Two p x y) q) u) a b
    by_case true e = at_one u (ap numbered (same_number u.0 p.0 e)) same
    by_case false e = order_elsewhere p u x y a b r (other_number u.0 p.0 e) ∙ same ∙ sym (order_elsewhere p u x y a b q (other_number u.0 p.0 e))

-- alike regions are alike under each guess that both admit
pub alike_under : (m : Data) (reads : Reads) (g : Guess) (r q : Region) → IsRegionOf m r → IsRegionOf m q → admits r g ≡ true → admits q g ≡ true → AreAlike reads r q → AreAlike reads (with_guess g r) (with_guess g q)
alike_under m reads g r q of also here there alike = record {
  bounds = λ z one. under (λ (c : Bounds). c) (topic g) z r q (λ c a b e. ap (guessed c) e) (same_size m r q of also) (alike.bounds z one);
  presences = λ z one. under (λ c. c.presence) (topic g) z r q presence_under (same_size m r q of also) (alike.presences z one);
  orders = λ p x y one. order_under m (topic g) p x y r q of also here there (alike.orders p x y one);
}

-- what is asked of one is asked of the other
abbrev is_open_pair : Itv → Itv → Bool → List Itv → OrderCell → Bool → Presence → Bool → Presence → Bool
is_open_pair x y within ms o first p second q = within && (has ms x && has ms y && not (same x y) && says_unknown o) && (first && not (says_absent p)) && (second && not (says_absent q))

same_test : (x y : Itv) (v w a b c d : Bool) (ms ns : List Itv) (o u : OrderCell) (p q s t : Presence) → v ≡ w → ms ≡ ns → o ≡ u → a ≡ b → p ≡ q → c ≡ d → s ≡ t → is_open_pair x y v ms o a p c s ≡ is_open_pair x y w ns u b q d t
same_test x y v w a b c d ms ns o u p q s t e f g h i j k = rw (e, f, g, h, i, j, k) refl

pub admits_alike : (m : Data) (reads : Reads) (t : Topic) (r q : Region) → IsRegionOf m r → IsRegionOf m q → is_among reads.intervals reads.pairs t ≡ true → AreAlike reads r q → admits_topic r t ≡ admits_topic q t
admits_alike m reads (One x c) r q of also one alike = ap (λ n. nat_lt x.0 n && is_open_at c (bounds_of r x)) (same_size m r q of also) ∙ ap (λ b. nat_lt x.0 (length q.bounds) && is_open_at c b) (alike.bounds x one)
admits_alike m reads (Two p x y) r q of also one alike =
    let size = same_size m r q of also in
    let rows : length r.orders ≡ length q.orders = as_many m r of ∙ sym (as_many m q also) in
    same_test x y (nat_lt p.0 (length r.orders)) (nat_lt p.0 (length q.orders)) (nat_lt x.0 (length r.bounds)) (nat_lt x.0 (length q.bounds)) (nat_lt y.0 (length r.bounds)) (nat_lt y.0 (length q.bounds))
    (cells_of r p).members (cells_of q p).members (order_in (cells_of r p) x y) (order_in (cells_of q p) x y) (bounds_of r x).presence (bounds_of q x).presence (bounds_of r y).presence (bounds_of q y).presence
    (ap (nat_lt p.0) rows) (members_are m r p of ∙ sym (members_are m q p also)) (alike.orders p x y one)
    (ap (nat_lt x.0) size) (alike.presences x (first_paired reads.pairs p x y one)) (ap (nat_lt y.0) size) (alike.presences y (second_paired reads.pairs p x y one))

end_alike : (reads : Reads) (t : Topic) (r q : Region) → is_among reads.intervals reads.pairs t ≡ true → AreAlike reads r q → is_end r t ≡ is_end q t
end_alike reads (One x c) r q one alike = ap (is_end_at c) (alike.bounds x one)
end_alike reads (Two p x y) r q one alike = refl

pub open_end_alike : (m : Data) (reads : Reads) (g : Guess) (r q : Region) → IsRegionOf m r → IsRegionOf m q → is_among reads.intervals reads.pairs (topic g) ≡ true → AreAlike reads r q → is_open_end r g ≡ is_open_end q g
open_end_alike m reads g r q of also one alike = ap (λ b. b && is_end r (topic g)) (admits_alike m reads (topic g) r q of also one alike) ∙ ap (λ b. admits q g && b) (end_alike reads (topic g) r q one alike)

-- regions of one model with the same cells are alike
bounds_alike : (m : Data) (r q : Region) (x : Itv) → IsRegionOf m r → IsRegionOf m q → SameFive x r q → bounds_of r x ≡ bounds_of q x
bounds_alike m r q x of also five = by_case (nat_lt x.0 (length m.intervals)) refl
  where
    by_case : (b : Bool) → nat_lt x.0 (length m.intervals) ≡ b → bounds_of r x ≡ bounds_of q x
    by_case true is = same_bounds m r q x of also (grind (arith, nat_tests)) five
    by_case false is =
        let past : length m.intervals ≤ x.0 = grind (arith, nat_tests) in
        let here : bounds_of r x ≡ unknown = get_or_past r.bounds x.0 unknown (omega (arith, past, as_many_bounds m r of)) in
        let there : bounds_of q x ≡ unknown = get_or_past q.bounds x.0 unknown (omega (arith, past, as_many_bounds m q also)) in
        here ∙ sym there

pub alike_from_cells : (m : Data) (reads : Reads) (r q : Region) → IsRegionOf m r → IsRegionOf m q → ((c : CellName) → IsTrue (reads_cell reads c) → SameCell c r q) → AreAlike reads r q
alike_from_cells m reads r q of also cells = record {
  bounds = λ x one. bounds_alike m r q x of also (record {
    presence = cells (cell.Presence x) (or_left (has reads.intervals x) (is_paired reads.pairs x) one);
    smin = cells (cell.StartMin x) one;
    smax = cells (cell.StartMax x) one;
    emin = cells (cell.EndMin x) one;
    emax = cells (cell.EndMax x) one;
  });
  presences = λ x one. cells (cell.Presence x) (or_right (has reads.intervals x) (is_paired reads.pairs x) one);
  orders = λ p x y one. cells (cell.Order p x y) one;
}
