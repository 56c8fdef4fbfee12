-- In a settled region of which no TRIPLE refutes, the present members of each sequence stand in a row, and this is an order
-- that the region allows.
use Rattle.std.specs.Prelude.{◌≡◌, ℕ, ◌<◌, Bool, true, false, ◌&&◌, ◌||◌, List, [], nat_lt, slice_index_or}
use Rattle.std.specs.List.{list_all, filter}
use Rattle.std.proofs.Common.{refl, sym, subst, ap, ◌∙◌, arith}
use Rattle.std.proofs.lemmas.Bool.{true≢false, not_from_false, false_from_ne_true}
use Rattle.std.proofs.lemmas.Bool.Decides.{nat_tests}
use Rattle.std.proofs.Math.ListN.{get_or-map}
use Rattle.base_laws.specs.laws.Truth.{all_three}
use Rattle.sched_base.specs.declared.ids.Itv.{Itv}
use Rattle.sched_base.specs.declared.ids.Seq.{Seq}
use Rattle.sched_model.specs.declared.types.Assignment.{Assignment}
use Rattle.sched_model.specs.Words.{pairwise}
use Rattle.sched_model.specs.Data.{Data, has}
use Rattle.sched_model.specs.Valid.{IsValid}
use Rattle.sched_model.specs.Value.{is_present, order_of}
use Rattle.region.specs.declared.types.OrderCell.{OrderCell}
use Rattle.region.specs.declared.types.OrderCell.TheVariants.{Unknown, Forward, Backward}
use Rattle.region.specs.Orders.{SequenceCells, says_forward, says_backward, cell_at, before_at, place_of, is_before, may_precede, allows_order, AllowsOrder}
use Rattle.region.specs.Cells.{Region, cells_of, no_sequence, is_there, is_settled}
use Rattle.region.specs.Looks.{Seen, IsRegionOf}
use Rattle.region.specs.laws.Lists.{both_true, true_both}
use Rattle.region.specs.laws.Orderly.{Lists, differ, each_all, pair_stood, pairs_stood, allows_tested}
use Rattle.region.specs.laws.Narrowing.{members_are, as_many}
use Rattle.region.specs.laws.Pinned.{IsSettledTo, pinned}
use Rattle.refute_seq.specs.declared.witness.SeqWitness.{SeqWitness}
use Rattle.refute_seq.specs.declared.witness.SeqWitness.TheVariants.{Triple}
use Rattle.sched_model.specs.Bounds.{is_number}
use Rattle.refute_seq.specs.Witness.{is_valid}
use Rattle.refute_seq.specs.Standing.{precedes, stand}
use Rattle.refute_seq.specs.Triple.{triple_row}
use Rattle.refute_seq.specs.OnSequence.{refutes}
use Rattle.refute_seq.specs.Listed.{is_derived}
use Rattle.refute_seq.specs.code.Order.{settled_order, settled_orders}
use Rattle.refute_seq.specs.laws.Known.{member_is, members_once, interval_number, sequence_number, IsHere, here_within, either_way}
use Rattle.refute_seq.specs.laws.Placed.{IsOrder, IsRow, all_rows, has_ordered, has_kept, once_kept}
use Rattle.refute_seq.specs.laws.Settled.{IsOrdered}

-- two don't both stand before each other
one_way_at : (cs : List OrderCell) (i j : ℕ) → before_at cs i j ≡ true → before_at cs j i ≡ true → ⊥
one_way_at cs i j a b = decided (nat_lt i j) (nat_lt j i) (cell_at cs i j) (cell_at cs j i) refl refl a b
  where
    not_both : (i j : ℕ) → nat_lt i j ≡ true → nat_lt j i ≡ true → ⊥
    not_both i j h k = grind (arith, nat_tests, h, k)

    decided : (s t : Bool) (c d : OrderCell) → nat_lt i j ≡ s → nat_lt j i ≡ t → ((s && says_forward c) || (t && says_backward d)) ≡ true → ((t && says_forward d) || (s && says_backward c)) ≡ true → ⊥
    decided true true c d h k x y = not_both i j h k
    decided true false Unknown d h k x y = cc
    decided true false Forward d h k x y = cc
    decided true false Backward d h k x y = cc
    decided false true c Unknown h k x y = cc
    decided false true c Forward h k x y = cc
    decided false true c Backward h k x y = cc
    decided false false c d h k x y = cc

pub one_way : (s : SequenceCells) (x y : Itv) → is_before s x y ≡ true → is_before s y x ≡ true → ⊥
one_way s x y h k = one_way_at s.cells (place_of s.members x) (place_of s.members y) h k

-- a settled look at a region of a valid model that no witness of two members or of three refutes
pub record IsSettledLook (m : Data) (l : Seen) : Type 0 where
  pub valid : IsValid m
  pub of : IsRegionOf m l.region
  pub settled : is_settled l.region ≡ true
  pub none : (w : SeqWitness) → is_derived w ≡ true → refutes m l w ≡ false

abbrev present : Region → Seq → List Itv
present r p = filter (is_there r) (cells_of r p).members

here_of : (r : Region) (p : Seq) (x : Itv) → has (present r p) x ≡ true → IsHere r p x
here_of r p x h =
    let two = both_true (has (cells_of r p).members x) (is_there r x) (sym (has_kept (is_there r) (cells_of r p).members x) ∙ h) in
    record { here = two.0; there = two.1 }

number_of : (m : Data) (l : Seen) (p : Seq) (x : Itv) → IsSettledLook m l → IsHere l.region p x → is_number x.0 ≡ true
number_of m l p x ok of = interval_number m x ok.valid (member_is m p x ok.valid (subst (λ ms. has ms x ≡ true) (members_are m l.region p ok.of) of.here))

no_circle : (m : Data) (l : Seen) (p : Seq) (x y z : Itv) → IsSettledLook m l → IsHere l.region p x → IsHere l.region p y → IsHere l.region p z → precedes l.region p x y ≡ true → precedes l.region p y z ≡ true → precedes l.region p z x ≡ true → ⊥
no_circle m l p x y z ok one other third f g h =
    true≢false (sym (true_both (is_valid (Triple p.0 x.0 y.0 z.0)) (triple_row l p.0 x.0 y.0 z.0)
    (true_both (is_number p.0 && is_number x.0 && is_number y.0) (is_number z.0)
    (all_three (is_number p.0) (is_number x.0) (is_number y.0) (sequence_number m p ok.valid (subst (λ n. p.0 < n) (as_many m l.region ok.of) (here_within l.region p x one.here))) (number_of m l p x ok one) (number_of m l p y ok other))
    (number_of m l p z ok third))
    (all_three (stand l.region p x y) (stand l.region p y z) (stand l.region p z x) (told x y one other f) (told y z other third g) (told z x third one h)))
    ∙ ok.none (Triple p.0 x.0 y.0 z.0) refl)
  where
    told : (u w : Itv) → IsHere l.region p u → IsHere l.region p w → precedes l.region p u w ≡ true → stand l.region p u w ≡ true
    told u w a b is = all_three (is_there l.region u) (is_there l.region w) (precedes l.region p u w) a.there b.there is

is_order : (m : Data) (l : Seen) (p : Seq) → IsSettledLook m l → IsOrder (precedes l.region p) (present l.region p)
is_order m l p ok = record {
  total = λ x y one other apart. either_way l.region p x y ok.settled (here_of l.region p x one) (here_of l.region p y other) apart;
  one_way = λ x y. one_way (cells_of l.region p) x y;
  no_circle = λ x y z one other third. no_circle m l p x y z ok (here_of l.region p x one) (here_of l.region p y other) (here_of l.region p z third);
}

-- so its order is a row of the present members
is_row : (m : Data) (l : Seen) (p : Seq) → IsSettledLook m l → IsRow (precedes l.region p) (present l.region p) (settled_order l.region (cells_of l.region p))
is_row m l p ok =
    let ms = present l.region p in
    all_rows (precedes l.region p) ms [] ms (is_order m l p ok) (record { members = refl; once = refl; rows = refl })
    (each_all (has ms) ms (λ x here. here))
    (once_kept (is_there l.region) (cells_of l.region p).members (subst (λ xs. pairwise differ xs ≡ true) (sym (members_are m l.region p ok.of)) (members_once m p ok.valid)))
    (each_all (λ y. list_all (differ y) []) ms (λ x here. refl))

pub has_settled_in : (r : Region) (s : SequenceCells) (x : Itv) → has (settled_order r s) x ≡ (has s.members x && is_there r x)
has_settled_in r s x = has_ordered (is_before s) [] (filter (is_there r) s.members) x ∙ nothing_else (has (filter (is_there r) s.members) x) ∙ has_kept (is_there r) s.members x
  where
    nothing_else : (b : Bool) → (b || false) ≡ b
    nothing_else true = refl
    nothing_else false = refl

pub has_settled : (r : Region) (p : Seq) (x : Itv) → has (settled_order r (cells_of r p)) x ≡ (has (cells_of r p).members x && is_there r x)
has_settled r p x = has_settled_in r (cells_of r p) x

-- which an assignment with that order lists, as the region allows
pub settled_lists : (m : Data) (l : Seen) (a : Assignment) (p : Seq) → IsSettledLook m l → IsSettledTo m l.region a → Lists (cells_of l.region p).members a (settled_order l.region (cells_of l.region p))
settled_lists m l a p ok to = record {
  once = (is_row m l p ok).once;
  members = λ x here. let two = both_true (has ms x) (is_there l.region x) (sym (has_settled l.region p x) ∙ here) in (two.0, shows x two.0 ∙ two.1);
  all = λ x here there. has_settled l.region p x ∙ true_both (has ms x) (is_there l.region x) here (sym (shows x here) ∙ there);
}
  where
    ms : List Itv
    ms = (cells_of l.region p).members

    shows : (x : Itv) → has ms x ≡ true → is_present a x ≡ is_there l.region x
    shows x here = (pinned m l.region a x to (member_is m p x ok.valid (subst (λ xs. has xs x ≡ true) (members_are m l.region p ok.of) here))).there

pub settled_allows : (m : Data) (l : Seen) (p : Seq) → IsSettledLook m l → allows_order (cells_of l.region p) (settled_order l.region (cells_of l.region p)) ≡ true
settled_allows m l p ok =
    let s = cells_of l.region p in
    let xs = settled_order l.region s in
    pairs_stood (may_precede s) xs (λ x y h. not_from_false (is_before s y x) (false_from_ne_true (is_before s y x) (λ back. one_way s x y (pair_stood (precedes l.region p) xs x y (is_row m l p ok).rows h) back)))

pub settled_ordered : (m : Data) (l : Seen) (a : Assignment) (p : Seq) → IsSettledLook m l → IsSettledTo m l.region a → order_of a p ≡ settled_order l.region (cells_of l.region p) → IsOrdered m l.region a p
settled_ordered m l a p ok to is =
    let s = cells_of l.region p in
    let lists = settled_lists m l a p ok to in
    record {
      to = to;
      lists = subst (Lists s.members a) (sym is) lists;
      allows = subst (AllowsOrder s a) (sym is) (allows_tested s a (settled_order l.region s) lists (settled_allows m l p ok));
    }

-- the assignment with all the settled orders
pub orders_settled : (r : Region) (a : Assignment) (p : Seq) → a.orders ≡ settled_orders r → order_of a p ≡ settled_order r (cells_of r p)
orders_settled r a p is = ap (λ (xss : List (List Itv)). slice_index_or xss p.0 []) is ∙ get_or-map (settled_order r) r.orders p.0 no_sequence
