-- Arcs are collected one name after another, and what they show.
use Rattle.std.specs.Prelude.{◌≡◌, ℕ, zero, suc, ◌+◌, ◌*◌, ◌<◌, ◌≤◌, ℤ, pos, ◌+ℤ◌, ◌≤ℤ◌, ◌<ℤ◌, Bool, true, false, ◌&&◌, List, [], ◌∷◌, ◌++◌, length, map, get_or, Option, Some, None, option_and_then, if◌then◌else◌, slice_get, nat_eq, nat_lt, nat_le, int_lt}
use Rattle.std.specs.List.{list_all}
use Rattle.std.proofs.Common.{inl, inr, refl, sym, ap, subst, ◌∙◌, arith, take}
use Rattle.std.proofs.lemmas.Bool.{true≢false}
use Rattle.std.proofs.lemmas.Int.{ints}
use Rattle.std.proofs.lemmas.Bool.Decides.{nat_tests}
use Rattle.std.proofs.lemmas.List.{get_or_append_left, get_or_push, length_push, take_all}
use Rattle.sched_base.specs.declared.ids.Itv.{Itv}
use Rattle.sched_model.specs.declared.types.Constraint.{Constraint}
use Rattle.sched_model.specs.declared.types.Constraint.TheVariants.{NoOverlap}
use Rattle.sched_model.specs.declared.types.End.TheVariants.{Start, Finish}
use Rattle.sched_model.specs.Data.{Data, has, same, gap}
use Rattle.region.specs.Cells.{Region, is_there}
use Rattle.sched_model.specs.Valid.{IsValid}
use Rattle.sched_model.specs.laws.Limits.{limits_of}
use Rattle.region.specs.Looks.{Seen, IsRegionOf}
use Rattle.region.specs.laws.Lists.{both_true, true_both}
use Rattle.region.specs.laws.Narrowing.{as_many_bounds}
use Rattle.refute_basic.specs.declared.edge.Arc.{Arc as Edge}
use Rattle.cycles.specs.code.Walks.{no_arc, picked, are_places, total, IsGain, HasHeights}
use Rattle.cycles.specs.code.Search.{IsOn}
use Rattle.refute_basic.specs.declared.arc_name.ArcName.{ArcName}
use Rattle.refute_basic.specs.declared.witness.BasicWitness.TheVariants.{Cycle}
use Rattle.refute_basic.specs.Witness.{is_name, is_valid}
use Rattle.refute_basic.specs.Basic.{refutes}
use Rattle.refute_basic.specs.Cycle.{itv, edge, edge_if, along, plain_edge_of, edge_of, closes, cycle_row}
use Rattle.refute_basic.specs.Standing.{precedes}
use Rattle.refute_basic.specs.laws.Walks.{AllLose, none_closes}
use Rattle.prop_temporal.specs.code.Heights.{AllKeep}
use Rattle.prop_temporal.specs.laws.Walked.{AreOf, AreOf.none, AreOf.one, closes_led}
use Rattle.prop_temporal.specs.code.Shown.{Shown, name, no_name, name_at, IsAmong, AreShown, HasTried, Tries, TriesAll, IsOfConstraint, IsOfInterval, IsOfPrecedence, IsOfOrder, IsOfOrderFrom, IsOfSide, IsOfSideOf, member_name}
use Rattle.prop_temporal.specs.code.Members.{members_at, told_in}
use Rattle.prop_temporal.specs.laws.Named.{ordered, tried_all}
use Rattle.prop_temporal.specs.laws.Kinds.{precedence_names, interval_names, side_next, side_among, order_next, order_among}
use Rattle.base_laws.specs.laws.Numbers.{below_or_last}
use Rattle.sched_model.specs.Bounds.{is_number}

abbrev pub empty : Shown
empty = record { names = []; arcs = [] }

pub none_tried : (m : Data) (r : Region) → HasTried m r 0 0 empty
none_tried m r i e tried is = elim tried [ inl h ↦ absurd (omega (arith, h.1)) | inr h ↦ absurd (omega (arith, h.1)) ]

clash : (o : Option Edge) (e : Edge) → o ≡ None → o ≡ Some e → ⊥
clash o e h k = cc

inner : (e d : Edge) → Some e ≡ Some d → e ≡ d
inner e d h = cc

pub not_shown : (m : Data) (r : Region) (i : ArcName) (s : Shown) → None ≡ edge_of m r i → Tries m r i s s
not_shown m r i s not = record {
  shown = λ are. are;
  grows = λ e is. is;
  has = λ e is. absurd (clash (edge_of m r i) e (sym not) is);
}

among_more : (arcs : List Edge) (e d : Edge) → IsAmong arcs d → IsAmong (arcs ++ e ∷ []) d
among_more arcs e d is = record { at = is.at; within = omega (arith, is.within, length_push arcs e); is = get_or_append_left arcs (e ∷ []) no_arc is.at is.within ∙ is.is }

among_last : (arcs : List Edge) (e : Edge) → IsAmong (arcs ++ e ∷ []) e
among_last arcs e = record { at = length arcs; within = omega (arith, length_push arcs e); is = get_or_push arcs e no_arc (length arcs) refl }

not_along : (m : Data) (r : Region) (o : Option Constraint) (a b : Itv) → told_in r o a b ≡ false → option_and_then (along m r a b) o ≡ None
not_along m r None a b off = refl
not_along m r (Some (NoOverlap p matrix direct)) a b off = off_last (is_there r a && is_there r b) (precedes r p a b) (edge Finish a (if direct then pos 0 else gap m p matrix a b) Start b) off
  where
    off_last : (x y : Bool) (e : Edge) → y ≡ false → edge_if (x && y) e ≡ None
    off_last true y e off = ap (λ c. edge_if c e) off
    off_last false y e off = refl
not_along m r (Some c) a b off = refl

-- an arc of two members whose order isn't told is none
pub not_told : (m : Data) (r : Region) (i : ArcName) (s : Shown) → i.kind ≡ 3 → told_in r (slice_get m.constraints i.x) (itv i.y) (itv i.z) ≡ false → Tries m r i s s
not_told m r i s kind off = not_shown m r i s (sym (taken (nat_eq i.kind 3) (three i.kind kind) ∙ not_along m r (slice_get m.constraints i.x) (itv i.y) (itv i.z) off))
  where
    three : (n : ℕ) → n ≡ 3 → nat_eq n 3 ≡ true
    three n is = grind (arith, nat_tests)

    taken : (b : Bool) → b ≡ true → (if b then option_and_then (along m r (itv i.y) (itv i.z)) (slice_get m.constraints i.x) else plain_edge_of m r i) ≡ option_and_then (along m r (itv i.y) (itv i.z)) (slice_get m.constraints i.x)
    taken true is = refl
    taken false is = cc

pub one_shown : (m : Data) (r : Region) (i : ArcName) (s : Shown) (e : Edge) → Some e ≡ edge_of m r i → is_name i ≡ true → IsOn (2 * length r.bounds) e → Tries m r i s (record { names = s.names ++ i ∷ []; arcs = s.arcs ++ e ∷ [] })
one_shown m r i s e is valid on = record {
  shown = λ are. record {
    size = omega (arith, are.size, length_push s.arcs e, length_push s.names i);
    are = λ k less. elim (below_or_last k (length s.arcs) (omega (arith, less, length_push s.arcs e))) [
      | inl h ↦ ap (edge_of m r) (get_or_append_left s.names (i ∷ []) no_name k (omega (arith, h, are.size))) ∙ are.are k h ∙ ap (λ (d : Edge). Some d) (sym (get_or_append_left s.arcs (e ∷ []) no_arc k h))
      | inr same ↦ ap (edge_of m r) (get_or_push s.names i no_name k (are.size ∙ sym same)) ∙ sym is ∙ ap (λ (d : Edge). Some d) (sym (get_or_push s.arcs e no_arc k (sym same)))
    ];
    valid = λ k less. elim (below_or_last k (length s.arcs) (omega (arith, less, length_push s.arcs e))) [
      | inl h ↦ ap is_name (get_or_append_left s.names (i ∷ []) no_name k (omega (arith, h, are.size))) ∙ are.valid k h
      | inr same ↦ ap is_name (get_or_push s.names i no_name k (are.size ∙ sym same)) ∙ valid
    ];
    on = λ k less. elim (below_or_last k (length s.arcs) (omega (arith, less, length_push s.arcs e))) [
      | inl h ↦ subst (IsOn (2 * length r.bounds)) (sym (get_or_append_left s.arcs (e ∷ []) no_arc k h)) (are.on k h)
      | inr same ↦ subst (IsOn (2 * length r.bounds)) (sym (get_or_push s.arcs e no_arc k (sym same))) on
    ];
  };
  grows = λ d is_d. among_more s.arcs e d is_d;
  has = λ d is_d. subst (IsAmong (s.arcs ++ e ∷ [])) (inner e d (is ∙ is_d)) (among_last s.arcs e);
}

-- no walk refutes where its row fails
pub row_fails : (m : Data) (l : Seen) (is : List ArcName) → cycle_row m l is ≡ false → refutes m l (Cycle is) ≡ false
row_fails m l is h = by_case (is_valid (Cycle is)) h
  where
    by_case : (b : Bool) → cycle_row m l is ≡ false → (b && cycle_row m l is) ≡ false
    by_case true h = h
    by_case false h = refl

-- where heights serve the arcs that are shown, no walk refutes
pub all_lose : (m : Data) (r : Region) (h : ℕ → ℤ) (s : Shown) → HasTried m r (length m.constraints) (length r.bounds) s → AllKeep h s.arcs → AllLose m r h
all_lose m r h s tried keep i e shown =
    let among = tried i e (tried_all m r i e shown) shown in
    subst (λ (d : Edge). (d.weight +ℤ h d.head) ≤ℤ h d.tail) among.is (keep among.at among.within)

pub lose_refute_none : (m : Data) (l : Seen) (h : ℕ → ℤ) → AllLose m l.region h → (is : List ArcName) → refutes m l (Cycle is) ≡ false
lose_refute_none m l h lose is = row_fails m l is (by_case (cycle_row m l is) refl)
  where
    by_case : (b : Bool) → cycle_row m l is ≡ b → cycle_row m l is ≡ false
    by_case false h = h
    by_case true h = absurd (none_closes m l.region _ is lose (both_true (nat_le (length is) 4000) (closes m l.region is) h).1)

pub heights_refute_none : (m : Data) (l : Seen) (s : Shown) → HasTried m l.region (length m.constraints) (length l.region.bounds) s → HasHeights s.arcs → (is : List ArcName) → refutes m l (Cycle is) ≡ false
heights_refute_none m l s tried has = lose_refute_none m l has.height (all_lose m l.region has.height s tried has.keeps)

-- a gain along them refutes, by their names
are_of : (m : Data) (r : Region) (s : Shown) (ks : List ℕ) → AreShown m r s → are_places s.arcs ks ≡ true → AreOf m r (map (name_at s.names) ks) (picked s.arcs ks)
are_of m r s [] are places = none
are_of m r s (k ∷ ks) are places =
    let two = both_true (nat_lt k (length s.arcs)) (are_places s.arcs ks) places in
    one (are.are k (below k (length s.arcs) two.0)) (are_of m r s ks are two.1)
  where
    below : (k n : ℕ) → nat_lt k n ≡ true → k < n
    below k n h = grind (arith, nat_tests)

pub gain_closes : (m : Data) (l : Seen) (n : ℕ) (s : Shown) (ks : List ℕ) → AreShown m l.region s → n ≤ 4000 → IsGain s.arcs n ks → cycle_row m l (map (name_at s.names) ks) ≡ true
gain_closes m l n s ks are most gain =
    true_both _ _ (short (map (name_at s.names) ks) (omega (arith, gain.few, most, as_many ks)))
    (closes_led m l.region (map (name_at s.names) ks) (picked s.arcs ks) (are_of m l.region s ks are gain.places) gain.closed (lt (total (picked s.arcs ks)) gain.positive))
  where
    as_many : (ks : List ℕ) → length (map (name_at s.names) ks) ≡ length ks
    as_many [] = refl
    as_many (k ∷ ks) = ap suc (as_many ks)

    short : (is : List ArcName) → length is ≤ 4000 → nat_le (length is) 4000 ≡ true
    short is h = grind (arith, nat_tests)

    lt : (t : ℤ) → pos 0 <ℤ t → int_lt (pos 0) t ≡ true
    lt t h = grind (arith, ints)

-- and a log may hold these names
names_valid : (s : Shown) (ks : List ℕ) → ((k : ℕ) → k < length s.arcs → is_name (name_at s.names k) ≡ true) → are_places s.arcs ks ≡ true → list_all is_name (map (name_at s.names) ks) ≡ true
names_valid s [] valid places = refl
names_valid s (k ∷ ks) valid places =
    let two = both_true (nat_lt k (length s.arcs)) (are_places s.arcs ks) places in
    true_both (is_name (name_at s.names k)) _ (valid k (below k (length s.arcs) two.0)) (names_valid s ks valid two.1)
  where
    below : (k n : ℕ) → nat_lt k n ≡ true → k < n
    below k n h = grind (arith, nat_tests)

few_numbers : (is : List ArcName) → nat_le (length is) 4000 ≡ true → is_number (2 + 4 * length is) ≡ true
few_numbers is h = grind (arith, nat_tests)

pub gain_refutes : (m : Data) (l : Seen) (n : ℕ) (s : Shown) (ks : List ℕ) → AreShown m l.region s → n ≤ 4000 → IsGain s.arcs n ks → refutes m l (Cycle (map (name_at s.names) ks)) ≡ true
gain_refutes m l n s ks are most gain =
    let row = gain_closes m l n s ks are most gain in
    true_both _ _ (true_both _ _ (few_numbers (map (name_at s.names) ks) (both_true _ _ row).0) (names_valid s ks are.valid gain.places)) row

pub fewer_tried : (m : Data) (r : Region) (u x n : ℕ) (s : Shown) → n ≤ x → HasTried m r u x s → HasTried m r u n s
fewer_tried m r u x n s less before i e tried is = elim tried [
  | inl h ↦ before i e (inl h) is
  | inr h ↦ before i e (inr (h.0, omega (arith, less, h.1))) is
]

pub fewer_constraints : (m : Data) (r : Region) (u x n : ℕ) (s : Shown) → n ≤ u → HasTried m r u x s → HasTried m r n x s
fewer_constraints m r u x n s less before i e tried is = elim tried [
  | inl h ↦ before i e (inl (h.0, omega (arith, less, h.1))) is
  | inr h ↦ before i e (inr h) is
]

pub place_below : (arcs : List Edge) (ks : List ℕ) (k : ℕ) → are_places arcs ks ≡ true → k < length ks → get_or ks k 0 < length arcs
place_below arcs [] k places less = absurd (omega (arith, less))
place_below arcs (j ∷ ks) zero places less = at j (length arcs) (both_true (nat_lt j (length arcs)) (are_places arcs ks) places).0
  where
    at : (j n : ℕ) → nat_lt j n ≡ true → j < n
    at j n h = grind (arith, nat_tests)
place_below arcs (j ∷ ks) (suc k) places less = place_below arcs ks k (both_true (nat_lt j (length arcs)) (are_places arcs ks) places).1 (omega (arith, less))

-- the two names of a precedence, and those of an interval
pub of_precedence : (m : Data) (r : Region) (u : ℕ) (s t w : Shown) → Tries m r (name 0 u 0) s t → Tries m r (name 0 u 1) t w → TriesAll m r (IsOfPrecedence u) s w
of_precedence m r u s t w first second = record {
  shown = λ are. second.shown (first.shown are);
  grows = λ e is. second.grows e (first.grows e is);
  has = λ j e of h. elim (precedence_names m r j e u of h) [
    | inl is ↦ second.grows e (first.has e (ap (edge_of m r) (sym is) ∙ h))
    | inr is ↦ second.has e (ap (edge_of m r) (sym is) ∙ h)
  ];
}

pub of_interval : (m : Data) (r : Region) (x : ℕ) (s t w : Shown) → Tries m r (name 1 x 0) s t → Tries m r (name 2 x 0) t w → TriesAll m r (IsOfInterval x) s w
of_interval m r x s t w first second = record {
  shown = λ are. second.shown (first.shown are);
  grows = λ e is. second.grows e (first.grows e is);
  has = λ j e of h. elim (interval_names m r j e x of h) [
    | inl is ↦ second.grows e (first.has e (ap (edge_of m r) (sym is) ∙ h))
    | inr is ↦ second.has e (ap (edge_of m r) (sym is) ∙ h)
  ];
}

pub side_more : (m : Data) (r : Region) (behind : Bool) (u x : ℕ) (ys : List Itv) (k : ℕ) (y : Itv) (s t w : Shown) → k < length ys → y ≡ get_or ys k y → TriesAll m r (IsOfSideOf behind u x (take k ys)) s t → Tries m r (member_name behind u x y.0) t w
    → TriesAll m r (IsOfSideOf behind u x (take (k + 1) ys)) s w
side_more m r behind u x ys k y s t w within at before last = record {
  shown = λ are. last.shown (before.shown are);
  grows = λ e is. last.grows e (before.grows e is);
  has = λ i e of h. elim (side_next behind u x ys k y i within at of) [
    | inl is ↦ last.has e (ap (edge_of m r) (sym is) ∙ h)
    | inr earlier ↦ last.grows e (before.has i e earlier h)
  ];
}

-- a member that isn't present has none
pub side_past : (m : Data) (r : Region) (behind : Bool) (u x : ℕ) (y : Itv) (s : Shown) → IsRegionOf m r → is_there r y ≡ false → Tries m r (member_name behind u x y.0) s s
side_past m r false u x y s of away = record {
  shown = λ are. are;
  grows = λ e is. is;
  has = λ e is. absurd (true≢false (sym (ordered m r (member_name false u x y.0) e of refl is).also ∙ away));
}
side_past m r true u x y s of away = record {
  shown = λ are. are;
  grows = λ e is. is;
  has = λ e is. absurd (true≢false (sym (ordered m r (member_name true u x y.0) e of refl is).present ∙ away));
}

pub side_all : (m : Data) (r : Region) (behind : Bool) (u x : ℕ) (ys : List Itv) (k : ℕ) (s t : Shown) → IsRegionOf m r → ys ≡ members_at m (slice_get m.constraints u) → length ys ≤ k → TriesAll m r (IsOfSideOf behind u x (take k ys)) s t
    → TriesAll m r (IsOfSide behind u x) s t
side_all m r behind u x ys k s t of are past before = record {
  shown = before.shown;
  grows = before.grows;
  has = λ i e mine h. before.has i e (subst (λ zs. IsOfSideOf behind u x zs i) (sym (take_all k ys past)) (side_among m r behind u x ys i e of are mine h)) h;
}

-- those of each member, one after another; of a member that isn't present there is none
pub order_none : (m : Data) (r : Region) (u : ℕ) (s : Shown) → TriesAll m r (IsOfOrderFrom u []) s s
order_none m r u s = record {
  shown = λ are. are;
  grows = λ e is. is;
  has = λ i e of h. absurd (true≢false (sym of.2));
}

pub order_more : (m : Data) (r : Region) (u : ℕ) (xs : List Itv) (k : ℕ) (x : Itv) (s t w : Shown) → k < length xs → x ≡ get_or xs k x → TriesAll m r (IsOfOrderFrom u (take k xs)) s t → TriesAll m r (IsOfSide false u x.0) t w
    → TriesAll m r (IsOfOrderFrom u (take (k + 1) xs)) s w
order_more m r u xs k x s t w within at before last = record {
  shown = λ are. last.shown (before.shown are);
  grows = λ e is. last.grows e (before.grows e is);
  has = λ i e of h. elim (order_next u xs k x i within at of) [
    | inl here ↦ last.has i e here h
    | inr earlier ↦ last.grows e (before.has i e earlier h)
  ];
}

pub order_past : (m : Data) (r : Region) (u : ℕ) (xs : List Itv) (k : ℕ) (x : Itv) (s t : Shown) → IsRegionOf m r → k < length xs → x ≡ get_or xs k x → is_there r x ≡ false → TriesAll m r (IsOfOrderFrom u (take k xs)) s t
    → TriesAll m r (IsOfOrderFrom u (take (k + 1) xs)) s t
order_past m r u xs k x s t of within at away before = record {
  shown = before.shown;
  grows = before.grows;
  has = λ i e mine h. elim (order_next u xs k x i within at mine) [
    | inl here ↦ absurd (true≢false (sym (ordered m r i e of here.0 h).present ∙ ap (λ n. is_there r (itv n)) here.2 ∙ away))
    | inr earlier ↦ before.has i e earlier h
  ];
}

pub order_all : (m : Data) (r : Region) (u : ℕ) (xs : List Itv) (k : ℕ) (s t : Shown) → IsRegionOf m r → xs ≡ members_at m (slice_get m.constraints u) → length xs ≤ k → TriesAll m r (IsOfOrderFrom u (take k xs)) s t → TriesAll m r (IsOfOrder u) s t
order_all m r u xs k s t of are past before = record {
  shown = before.shown;
  grows = before.grows;
  has = λ i e mine h. before.has i e (subst (λ zs. IsOfOrderFrom u zs i) (sym (take_all k xs past)) (order_among m r u xs i e of are mine h)) h;
}

-- all names of a constraint, and those of one member
pub of_constraint : (m : Data) (r : Region) (u : ℕ) (s t w : Shown) → TriesAll m r (IsOfPrecedence u) s t → TriesAll m r (IsOfOrder u) t w → TriesAll m r (IsOfConstraint u) s w
of_constraint m r u s t w first second = record {
  shown = λ are. second.shown (first.shown are);
  grows = λ e is. second.grows e (first.grows e is);
  has = λ i e of h. elim of.0 [ inl k ↦ second.grows e (first.has i e (k, of.1) h) | inr k ↦ second.has i e (k, of.1) h ];
}

-- those of the next one
pub next_constraint : (m : Data) (r : Region) (u : ℕ) (s w : Shown) → TriesAll m r (IsOfConstraint u) s w → HasTried m r u 0 s → HasTried m r (u + 1) 0 w
next_constraint m r u s w tries before j e tried h = elim tried [
  | inl g ↦ elim (below_or_last j.x u g.1) [
    | inl less ↦ tries.grows e (before j e (inl (g.0, less)) h)
    | inr same ↦ tries.has j e (g.0, same) h
  ]
  | inr g ↦ absurd (omega (arith, g.1))
]

pub next_interval : (m : Data) (r : Region) (u x : ℕ) (s w : Shown) → TriesAll m r (IsOfInterval x) s w → HasTried m r u x s → HasTried m r u (x + 1) w
next_interval m r u x s w tries before j e tried h = elim tried [
  | inl g ↦ tries.grows e (before j e (inl g) h)
  | inr g ↦ elim (below_or_last j.x x g.1) [
    | inl less ↦ tries.grows e (before j e (inr (g.0, less)) h)
    | inr same ↦ tries.has j e (g.0, same) h
  ]
]

-- there are few intervals, and so few points
pub few_bounds : (m : Data) (r : Region) → IsValid m → IsRegionOf m r → length r.bounds ≤ 2000
few_bounds m r valid of = omega (arith, (limits_of m valid.limits).intervals, as_many_bounds m r of)
