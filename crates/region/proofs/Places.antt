-- Reading and writing one number, as what it is of an interval or of two members of a sequence.
use Rattle.std.specs.Prelude.{◌≡◌, ◌⊎◌, ℕ, zero, suc, ◌+◌, ◌*◌, ◌<◌, ◌≤◌, ℤ, pos, ◌+ℤ◌, ◌-ℤ◌, Bool, true, false, not, ◌&&◌, ◌||◌, List, [], ◌∷◌, Option, Some, None, length, map, take, drop, slice_index_or, nat_lt, nat_eq, if◌then◌else◌}
use Rattle.std.proofs.Common.{refl, sym, ap, subst, ◌∙◌, inl, inr, arith, get_or, set}
use Rattle.std.proofs.Math.ListN.{get_or-map}
use Rattle.std.proofs.lemmas.List.{length-drop, drop-set-lt, drop-set-add, drop-drop, get_or-drop, get_or-set_other, take-set-le, length-map}
use Rattle.std.proofs.lemmas.List.Sums.{sum_by-cons}
use Rattle.std.proofs.lemmas.Bool.Decides.{nat_tests}
use Rattle.sched_base.specs.declared.ids.Itv.{Itv}
use Rattle.sched_base.specs.declared.ids.Seq.{Seq}
use Rattle.sched_model.specs.Valid.{pair_count}
use Rattle.sched_model.specs.Data.{same, has}
use Rattle.region.specs.declared.types.Presence.{Presence}
use Rattle.region.specs.declared.types.Presence.TheVariants as presence
use Rattle.region.specs.declared.types.OrderCell.{OrderCell}
use Rattle.region.specs.declared.types.OrderCell.TheVariants.{Unknown, Forward, Backward}
use Rattle.region.specs.declared.types.SizeRange.{SizeRange}
use Rattle.region.specs.declared.types.Claim.{Claim}
use Rattle.region.specs.declared.types.Claim.TheVariants.{Present, Absent, StartLe, StartGe, EndLe, EndGe}
use Rattle.region.specs.declared.types.Guess.{Guess}
use Rattle.region.specs.declared.types.Topic.{Topic}
use Rattle.region.specs.declared.types.Topic.TheVariants.{One, Two}
use Rattle.region.specs.declared.types.CellName.TheVariants.{Order}
use Rattle.region.specs.declared.types.Bounds.{Bounds}
use Rattle.region.specs.Orders.{SequenceCells, order_place, told_order, pair_place, place_of, known_order, order_in, reversed, says_forward, says_backward}
use Rattle.region.specs.Cells.{Region, unknown, no_sequence, bounds_of, cells_of, is_there}
use Rattle.region.specs.Claims.{guessed, denied, as_present, as_absent, is_ready_at, claim_cell, denial_cell}
use Rattle.region.specs.Guesses.{assumed, refused, assumed_cell, refused_cell, admits_topic, is_ready, topic, looked_at, with_bounds, with_order, with_cell, told_before, changed_at}
use Rattle.region.specs.code.Flat.{Form, presence_from, order_from, pairs_from, orders_from, pairs_in, pairs_before, number_at, first_bounds, bounds_from, region_from, members_at, number_place, claim_number, denial_number, order_number, assumed_number, refused_number, IsNamed, AreCells, bounds_under, order_under}
use Rattle.region.specs.laws.Lists.{both_true, changed_at-same, length-changed_at, get_or-changed_at, get_or-changed_other, map-changed_at}
use Rattle.region.specs.laws.OneSequence.{row_above, place_within, places_apart, lower, higher, below_is, open_turned, order_told}
use Rattle.region.specs.laws.Intervals.{ready_present}
use Rattle.region.specs.laws.Pairs.{paired, both_stay, cells_there, cells_elsewhere}
use Rattle.region.specs.laws.Narrowing.{HasPairs, claimed}

pub length-bounds_from : (sizes : List SizeRange) (cells : List ℤ) → length (bounds_from sizes cells) ≡ length sizes
length-bounds_from [] cells = refl
length-bounds_from (size ∷ sizes) cells = ap suc (length-bounds_from sizes (drop 5 cells))

abbrev pub no_size : SizeRange
no_size = record { least = pos 0; greatest = pos 0 }

five_more : (n : ℕ) → 5 * suc n ≡ 5 + 5 * n
five_more n = omega arith

-- the bounds of an interval by its place
pub bounds_at : (sizes : List SizeRange) (cells : List ℤ) (n : ℕ) (d : SizeRange) → n < length sizes → get_or (bounds_from sizes cells) n unknown ≡ first_bounds (get_or sizes n d) (drop (5 * n) cells)
bounds_at [] cells n d within = absurd (omega (arith, within))
bounds_at (size ∷ sizes) cells zero d within = refl
bounds_at (size ∷ sizes) cells (suc n) d within =
    bounds_at sizes (drop 5 cells) n d (omega (arith, within)) ∙ ap (first_bounds (get_or sizes n d)) (drop-drop (5 * n) 5 cells ∙ ap (λ k. drop k cells) (sym (five_more n)))

-- its numbers stand side by side
pub number_from : (cells : List ℤ) (n k : ℕ) → number_at (drop n cells) k ≡ number_at cells (n + k)
number_from cells n k = get_or-drop n cells k (pos 0)

-- a write behind the first interval leaves it
first_kept : (size : SizeRange) (cells : List ℤ) (i : ℕ) (v : ℤ) → 5 ≤ i → first_bounds size (set cells i v) ≡ first_bounds size cells
first_kept size cells i v behind = rw (at 0 (omega (arith, behind)), at 1 (omega (arith, behind)), at 2 (omega (arith, behind)), at 3 (omega (arith, behind)), at 4 (omega (arith, behind))) refl
  where
    at : (k : ℕ) → k < i → number_at (set cells i v) k ≡ number_at cells k
    at k before = get_or-set_other cells i k v (pos 0) (λ e. omega (arith, e, before))

abbrev IsWrite : ℕ → ℤ → (Bounds → Bounds) → Type 0
IsWrite k v f = (size : SizeRange) (a b c d e : ℤ) (rest : List ℤ) → first_bounds size (set (a ∷ b ∷ c ∷ d ∷ e ∷ rest) k v) ≡ f (first_bounds size (a ∷ b ∷ c ∷ d ∷ e ∷ rest))

first_written : (k : ℕ) (v : ℤ) (f : Bounds → Bounds) → IsWrite k v f → (size : SizeRange) (cells : List ℤ) → 5 ≤ length cells → first_bounds size (set cells k v) ≡ f (first_bounds size cells)
first_written k v f write size [] room = absurd (omega (arith, room))
first_written k v f write size (a ∷ []) room = absurd (omega (arith, room))
first_written k v f write size (a ∷ b ∷ []) room = absurd (omega (arith, room))
first_written k v f write size (a ∷ b ∷ c ∷ []) room = absurd (omega (arith, room))
first_written k v f write size (a ∷ b ∷ c ∷ d ∷ []) room = absurd (omega (arith, room))
first_written k v f write size (a ∷ b ∷ c ∷ d ∷ e ∷ rest) room = write size a b c d e rest

-- a write of one number changes the bounds of one interval
pub written_at : (k : ℕ) (v : ℤ) (f : Bounds → Bounds) → k < 5 → IsWrite k v f → (sizes : List SizeRange) (cells : List ℤ) (n : ℕ) → n < length sizes → 5 * length sizes ≤ length cells
    → bounds_from sizes (set cells (5 * n + k) v) ≡ changed_at n f (bounds_from sizes cells)
written_at k v f few write [] cells n within room = absurd (omega (arith, within))
written_at k v f few write (size ∷ sizes) cells zero within room =
    let at : 5 * 0 + k ≡ k = omega arith in
    rw (at, drop-set-lt 5 cells k v few, first_written k v f write size cells (omega (arith, room))) refl
written_at k v f few write (size ∷ sizes) cells (suc n) within room =
    let at : 5 * suc n + k ≡ 5 + (5 * n + k) = omega arith in
    let less : 5 * length sizes ≤ length (drop 5 cells) = omega (arith, room, length-drop 5 cells) in
    rw (at, drop-set-add 5 cells (5 * n + k) v, first_kept size cells (5 + (5 * n + k)) v (omega arith), written_at k v f few write sizes (drop 5 cells) n (omega (arith, within)) less) refl

-- the bounds of an interval from its numbers
pub bounds_read : (sizes : List SizeRange) (cells : List ℤ) (n : ℕ) (p : Presence) (a b e f lo hi : ℤ) → n < length sizes
    → p ≡ presence_from (number_at cells (5 * n)) → a ≡ number_at cells (5 * n + 1) → b ≡ number_at cells (5 * n + 2) → e ≡ number_at cells (5 * n + 3) → f ≡ number_at cells (5 * n + 4)
    → (d : SizeRange) → lo ≡ (get_or sizes n d).least → hi ≡ (get_or sizes n d).greatest
    → record { presence = p; smin = a; smax = b; emin = e; emax = f; pmin = lo; pmax = hi } ≡ get_or (bounds_from sizes cells) n unknown
bounds_read sizes cells n p a b e f lo hi within hp ha hb he hf d hlo hhi =
    let zero_more : 5 * n + 0 ≡ 5 * n = omega arith in
    rw (bounds_at sizes cells n d within, number_from cells (5 * n) 0, zero_more, number_from cells (5 * n) 1, number_from cells (5 * n) 2, number_from cells (5 * n) 3, number_from cells (5 * n) 4, hp, ha, hb, he, hf, hlo, hhi) refl

-- each of its numbers by itself
pub presence_read : (sizes : List SizeRange) (cells : List ℤ) (n : ℕ) → n < length sizes → presence_from (number_at cells (5 * n + 0)) ≡ (get_or (bounds_from sizes cells) n unknown).presence
presence_read sizes cells n within = rw (bounds_at sizes cells n no_size within, number_from cells (5 * n) 0) refl

pub smin_read : (sizes : List SizeRange) (cells : List ℤ) (n : ℕ) → n < length sizes → number_at cells (5 * n + 1) ≡ (get_or (bounds_from sizes cells) n unknown).smin
smin_read sizes cells n within = rw (bounds_at sizes cells n no_size within, number_from cells (5 * n) 1) refl

pub smax_read : (sizes : List SizeRange) (cells : List ℤ) (n : ℕ) → n < length sizes → number_at cells (5 * n + 2) ≡ (get_or (bounds_from sizes cells) n unknown).smax
smax_read sizes cells n within = rw (bounds_at sizes cells n no_size within, number_from cells (5 * n) 2) refl

pub emin_read : (sizes : List SizeRange) (cells : List ℤ) (n : ℕ) → n < length sizes → number_at cells (5 * n + 3) ≡ (get_or (bounds_from sizes cells) n unknown).emin
emin_read sizes cells n within = rw (bounds_at sizes cells n no_size within, number_from cells (5 * n) 3) refl

pub emax_read : (sizes : List SizeRange) (cells : List ℤ) (n : ℕ) → n < length sizes → number_at cells (5 * n + 4) ≡ (get_or (bounds_from sizes cells) n unknown).emax
emax_read sizes cells n within = rw (bounds_at sizes cells n no_size within, number_from cells (5 * n) 4) refl

pub pmin_read : (sizes : List SizeRange) (cells : List ℤ) (n : ℕ) → n < length sizes → (get_or sizes n no_size).least ≡ (get_or (bounds_from sizes cells) n unknown).pmin
pmin_read sizes cells n within = rw (bounds_at sizes cells n no_size within) refl

pub pmax_read : (sizes : List SizeRange) (cells : List ℤ) (n : ℕ) → n < length sizes → (get_or sizes n no_size).greatest ≡ (get_or (bounds_from sizes cells) n unknown).pmax
pmax_read sizes cells n within = rw (bounds_at sizes cells n no_size within) refl

-- a region is its bounds and its orders
pub region_is : (bs cs : List Bounds) (ss ts : List SequenceCells) → bs ≡ cs → ss ≡ ts → (let r : Region = record { bounds = bs; orders = ss } in r) ≡ record { bounds = cs; orders = ts }
region_is bs cs ss ts e h = rw (e, h) refl

-- what is written among the cells of intervals leaves the orders
cell_written : (f : Form) (cells : List ℤ) (x : Itv) (k : ℕ) (v : ℤ) (h : Bounds → Bounds) → k < 5 → IsWrite k v h → x.0 < length f.sizes → 5 * length f.sizes ≤ length cells
    → region_from f (set cells (5 * x.0 + k) v) ≡ with_bounds x h (region_from f cells)
cell_written f cells x k v h few write within room =
    region_is (bounds_from f.sizes (set cells (5 * x.0 + k) v)) (changed_at x.0 h (bounds_from f.sizes cells)) (orders_from f.members (drop (5 * length f.sizes) (set cells (5 * x.0 + k) v))) (orders_from f.members (drop (5 * length f.sizes) cells))
    (written_at k v h few write f.sizes cells x.0 within room)
    (ap (orders_from f.members) (drop-set-lt (5 * length f.sizes) cells (5 * x.0 + k) v (omega (arith, few, within))))

presence_written : (f : Form) (cells : List ℤ) (x : Itv) (v : ℤ) (h : Bounds → Bounds) → IsWrite 0 v h → x.0 < length f.sizes → 5 * length f.sizes ≤ length cells
    → region_from f (set cells (5 * x.0) v) ≡ with_bounds x h (region_from f cells)
presence_written f cells x v h write within room =
    let at : 5 * x.0 ≡ 5 * x.0 + 0 = omega arith in
    ap (λ i. region_from f (set cells i v)) at ∙ cell_written f cells x 0 v h (omega arith) write within room

-- what the fact of a claim writes
denial_written : (f : Form) (cells : List ℤ) (x : Itv) (c : Claim) → 5 * length f.sizes ≤ length cells → x.0 < length f.sizes
    → region_from f (set cells (number_place f (denial_cell x c)) (denial_number c)) ≡ with_bounds x (denied c) (region_from f cells)
denial_written f cells x Present room within = presence_written f cells x (pos 0) as_absent (λ size a b c d e rest. refl) within room
denial_written f cells x Absent room within = presence_written f cells x (pos 1) as_present (λ size a b c d e rest. refl) within room
denial_written f cells x (StartLe t) room within = cell_written f cells x 1 (t +ℤ pos 1) (denied (StartLe t)) (omega arith) (λ size a b c d e rest. refl) within room
denial_written f cells x (StartGe t) room within = cell_written f cells x 2 (t -ℤ pos 1) (denied (StartGe t)) (omega arith) (λ size a b c d e rest. refl) within room
denial_written f cells x (EndLe t) room within = cell_written f cells x 3 (t +ℤ pos 1) (denied (EndLe t)) (omega arith) (λ size a b c d e rest. refl) within room
denial_written f cells x (EndGe t) room within = cell_written f cells x 4 (t -ℤ pos 1) (denied (EndGe t)) (omega arith) (λ size a b c d e rest. refl) within room

-- what a claim that is ready writes, which leaves the presence
made_present : (x : Itv) (h : Bounds → Bounds) (r : Region) → is_ready_at (StartLe (pos 0)) (bounds_of r x) ≡ true
    → ((p : Presence) → h (record (bounds_of r x) { presence = p }) ≡ record (h (bounds_of r x)) { presence = p })
    → with_bounds x h r ≡ with_bounds x (λ c. record (h c) { presence = presence.Present }) r
made_present x h r ready keeps =
    ap (λ bs. record r { bounds = bs }) (changed_at-same x.0 h (λ c. record (h c) { presence = presence.Present }) r.bounds unknown
    (sym (sym (keeps presence.Present) ∙ ap (λ p. h (record (bounds_of r x) { presence = p })) (ready_present (bounds_of r x) ready))))

claim_written : (f : Form) (cells : List ℤ) (x : Itv) (c : Claim) → 5 * length f.sizes ≤ length cells → x.0 < length f.sizes → is_ready_at c (bounds_of (region_from f cells) x) ≡ true
    → region_from f (set cells (number_place f (claim_cell x c)) (claim_number c)) ≡ with_bounds x (guessed c) (region_from f cells)
claim_written f cells x Present room within ready = presence_written f cells x (pos 1) as_present (λ size a b c d e rest. refl) within room
claim_written f cells x Absent room within ready = presence_written f cells x (pos 0) as_absent (λ size a b c d e rest. refl) within room
claim_written f cells x (StartLe t) room within ready = cell_written f cells x 2 t (λ c. record c { smax = t }) (omega arith) (λ size a b c d e rest. refl) within room ∙ made_present x (λ c. record c { smax = t }) (region_from f cells) ready (λ p. refl)
claim_written f cells x (StartGe t) room within ready = cell_written f cells x 1 t (λ c. record c { smin = t }) (omega arith) (λ size a b c d e rest. refl) within room ∙ made_present x (λ c. record c { smin = t }) (region_from f cells) ready (λ p. refl)
claim_written f cells x (EndLe t) room within ready = cell_written f cells x 4 t (λ c. record c { emax = t }) (omega arith) (λ size a b c d e rest. refl) within room ∙ made_present x (λ c. record c { emax = t }) (region_from f cells) ready (λ p. refl)
claim_written f cells x (EndGe t) room within ready = cell_written f cells x 3 t (λ c. record c { emin = t }) (omega arith) (λ size a b c d e rest. refl) within room ∙ made_present x (λ c. record c { emin = t }) (region_from f cells) ready (λ p. refl)

-- a cell of an interval has its place among the first
claim_place : (f : Form) (x : Itv) (c : Claim) → x.0 < length f.sizes → number_place f (claim_cell x c) < 5 * length f.sizes
claim_place f x Present h = omega (arith, h)
claim_place f x Absent h = omega (arith, h)
claim_place f x (StartLe t) h = omega (arith, h)
claim_place f x (StartGe t) h = omega (arith, h)
claim_place f x (EndLe t) h = omega (arith, h)
claim_place f x (EndGe t) h = omega (arith, h)

denial_place : (f : Form) (x : Itv) (c : Claim) → x.0 < length f.sizes → number_place f (denial_cell x c) < 5 * length f.sizes
denial_place f x Present h = omega (arith, h)
denial_place f x Absent h = omega (arith, h)
denial_place f x (StartLe t) h = omega (arith, h)
denial_place f x (StartGe t) h = omega (arith, h)
denial_place f x (EndLe t) h = omega (arith, h)
denial_place f x (EndGe t) h = omega (arith, h)

-- the sequences behind the numbers
pub length-orders_from : (mss : List (List Itv)) (ns : List ℤ) → length (orders_from mss ns) ≡ length mss
length-orders_from [] ns = refl
length-orders_from (ms ∷ mss) ns = ap suc (length-orders_from mss (drop (pair_count (length ms)) ns))

pub members_of : (mss : List (List Itv)) (ns : List ℤ) (p : ℕ) → (get_or (orders_from mss ns) p no_sequence).members ≡ get_or mss p []
members_of [] ns p = refl
members_of (ms ∷ mss) ns zero = refl
members_of (ms ∷ mss) ns (suc p) = members_of mss (drop (pair_count (length ms)) ns) p

pub pairs_more : (ms : List Itv) (mss : List (List Itv)) → pairs_in (ms ∷ mss) ≡ pair_count (length ms) + pairs_in mss
pairs_more ms mss = sum_by-cons (λ ms. pair_count (length ms)) ms mss

pub pairs_room : (mss : List (List Itv)) (p : ℕ) → p < length mss → pairs_before mss p + pair_count (length (get_or mss p [])) ≤ pairs_in mss
pairs_room [] p h = absurd (omega (arith, h))
pairs_room (ms ∷ mss) zero h = omega (arith, pairs_more ms mss)
pairs_room (ms ∷ mss) (suc p) h = omega (arith, pairs_more ms mss, pairs_room mss p (omega (arith, h)))

-- a write of one number changes one cell of one sequence
cells_changed : (n k : ℕ) (ns : List ℤ) (v : ℤ) → k < n → pairs_from n (set ns k v) ≡ changed_at k (λ d. order_from v) (pairs_from n ns)
cells_changed zero k ns v h = absurd (omega (arith, h))
cells_changed (suc n) zero [] v h = refl
cells_changed (suc n) zero (x ∷ xs) v h = refl
cells_changed (suc n) (suc k) [] v h = refl
cells_changed (suc n) (suc k) (x ∷ xs) v h = ap (λ cs. order_from x ∷ cs) (cells_changed n k xs v (omega (arith, h)))

order_written : (mss : List (List Itv)) (ns : List ℤ) (p k : ℕ) (v : ℤ) → p < length mss → k < pair_count (length (get_or mss p []))
    → orders_from mss (set ns (pairs_before mss p + k) v) ≡ changed_at p (with_cell k (order_from v)) (orders_from mss ns)
order_written [] ns p k v within room = absurd (omega (arith, within))
order_written (ms ∷ mss) ns zero k v within room =
    let none : 0 + k ≡ k = omega arith in
    ap (λ i. orders_from (ms ∷ mss) (set ns i v)) none
    ∙ ap (λ cs. record { members = ms; cells = cs } ∷ orders_from mss (drop (pair_count (length ms)) (set ns k v))) (cells_changed (pair_count (length ms)) k ns v room)
    ∙ ap (λ rest. record { members = ms; cells = changed_at k (λ d. order_from v) (pairs_from (pair_count (length ms)) ns) } ∷ orders_from mss rest) (drop-set-lt (pair_count (length ms)) ns k v room)
order_written (ms ∷ mss) ns (suc p) k v within room =
    let n = pair_count (length ms) in
    let e : n + pairs_before mss p + k ≡ n + (pairs_before mss p + k) = omega arith in
    ap (λ i. orders_from (ms ∷ mss) (set ns i v)) e
    ∙ ap (λ front. record { members = ms; cells = map order_from front } ∷ orders_from mss (drop n (set ns (n + (pairs_before mss p + k)) v))) (take-set-le n ns (n + (pairs_before mss p + k)) v (omega arith))
    ∙ ap (λ rest. record { members = ms; cells = pairs_from n ns } ∷ orders_from mss rest) (drop-set-add n ns (pairs_before mss p + k) v)
    ∙ ap (λ ss. record { members = ms; cells = pairs_from n ns } ∷ ss) (order_written mss (drop n ns) p k v (omega (arith, within)) room)

-- and leaves the bounds
bounds_kept : (sizes : List SizeRange) (ns : List ℤ) (j : ℕ) (v : ℤ) → bounds_from sizes (set ns (5 * length sizes + j) v) ≡ bounds_from sizes ns
bounds_kept [] ns j v = refl
bounds_kept (size ∷ sizes) ns j v =
    let e : 5 * suc (length sizes) + j ≡ 5 + (5 * length sizes + j) = omega arith in
    ap (λ i. bounds_from (size ∷ sizes) (set ns i v)) e
    ∙ ap (λ b. b ∷ bounds_from sizes (drop 5 (set ns (5 + (5 * length sizes + j)) v))) (first_kept size ns (5 + (5 * length sizes + j)) v (omega arith))
    ∙ ap (λ ms. first_bounds size ns ∷ bounds_from sizes ms) (drop-set-add 5 ns (5 * length sizes + j) v)
    ∙ ap (λ bs. first_bounds size ns ∷ bs) (bounds_kept sizes (drop 5 ns) j v)

told_number : (i j : ℕ) → order_from (order_number i j) ≡ told_order i j
told_number i j = by_test (nat_lt i j)
  where
    by_test : (b : Bool) → order_from (if b then pos 1 else pos 2) ≡ (if b then Forward else Backward)
    by_test true = refl
    by_test false = refl

-- where the cell of two members stands in its sequence
pair_room : (ms : List Itv) (x y : Itv) → has ms x ≡ true → has ms y ≡ true → same x y ≡ false → order_place (place_of ms x) (place_of ms y) < pair_count (length ms)
pair_room ms x y one other apart = elim (places_apart ms x y one other apart) [
  | inl below ↦ subst (λ b. (if b then pair_place (place_of ms x) (place_of ms y) else pair_place (place_of ms y) (place_of ms x)) < pair_count (length ms)) (sym (lower (place_of ms x) (place_of ms y) below))
      (omega (arith, row_above (place_of ms y) (length ms) (place_within ms y other), below))
  | inr above ↦ subst (λ b. (if b then pair_place (place_of ms x) (place_of ms y) else pair_place (place_of ms y) (place_of ms x)) < pair_count (length ms)) (sym (higher (place_of ms x) (place_of ms y) above))
      (omega (arith, row_above (place_of ms x) (length ms) (place_within ms x one), above))
]

told_written : (f : Form) (cells : List ℤ) (p : Seq) (x y : Itv) → p.0 < length f.members → order_place (place_of (members_at f p) x) (place_of (members_at f p) y) < pair_count (length (members_at f p))
    → region_from f (set cells (number_place f (Order p x y)) (assumed_number f (Two p x y))) ≡ with_order p x y (region_from f cells)
told_written f cells p x y within room =
    region_is (bounds_from f.sizes (set cells (number_place f (Order p x y)) v)) (bounds_from f.sizes cells) (orders_from f.members (drop (5 * length f.sizes) (set cells (number_place f (Order p x y)) v))) (changed_at p.0 (told_before x y) ss)
    (bounds_kept f.sizes cells (pairs_before f.members p.0 + k) v)
    (ap (orders_from f.members) (drop-set-add (5 * length f.sizes) cells (pairs_before f.members p.0 + k) v)
    ∙ order_written f.members ns p.0 k v within room
    ∙ changed_at-same p.0 (with_cell k (order_from v)) (told_before x y) ss no_sequence (at (get_or ss p.0 no_sequence) (members_of f.members ns p.0)))
  where
    k : ℕ
    k = order_place (place_of (members_at f p) x) (place_of (members_at f p) y)

    v : ℤ
    v = order_number (place_of (members_at f p) x) (place_of (members_at f p) y)

    ns : List ℤ
    ns = drop (5 * length f.sizes) cells

    ss : List SequenceCells
    ss = orders_from f.members ns

    at : (s : SequenceCells) → s.members ≡ members_at f p → with_cell (order_place (place_of (members_at f p) x) (place_of (members_at f p) y)) (order_from (order_number (place_of (members_at f p) x) (place_of (members_at f p) y))) s ≡ told_before x y s
    at s e = ap (λ c. with_cell (order_place (place_of (members_at f p) x) (place_of (members_at f p) y)) c s) (told_number (place_of (members_at f p) x) (place_of (members_at f p) y))
        ∙ ap (λ ms. with_cell (order_place (place_of ms x) (place_of ms y)) (told_order (place_of ms x) (place_of ms y)) s) (sym e)

-- a topic that is admitted names what is there
pub named : (f : Form) (cells : List ℤ) (t : Topic) → admits_topic (region_from f cells) t ≡ true → IsNamed f t
named f cells (One x c) h = omega (arith, (claimed (region_from f cells) x c h).within, length-bounds_from f.sizes cells)
named f cells (Two p x y) h =
    let ok = paired (region_from f cells) p x y h in
    let same_members = members_of f.members (drop (5 * length f.sizes) cells) p.0 in
    (omega (arith, ok.within, length-orders_from f.members (drop (5 * length f.sizes) cells)), subst (λ ms. has ms x ≡ true) same_members ok.is_open.one, subst (λ ms. has ms y ≡ true) same_members ok.is_open.other)

pair_there : (f : Form) (cells : List ℤ) (p : Seq) (x y : Itv) → admits_topic (region_from f cells) (Two p x y) ≡ true → order_place (place_of (members_at f p) x) (place_of (members_at f p) y) < pair_count (length (members_at f p))
pair_there f cells p x y h = let n = named f cells (Two p x y) h in pair_room (members_at f p) x y n.1 n.2 (paired (region_from f cells) p x y h).is_open.apart

pair_back : (f : Form) (cells : List ℤ) (p : Seq) (x y : Itv) → admits_topic (region_from f cells) (Two p x y) ≡ true → order_place (place_of (members_at f p) y) (place_of (members_at f p) x) < pair_count (length (members_at f p))
pair_back f cells p x y h = let n = named f cells (Two p x y) h in pair_room (members_at f p) y x n.2 n.1 (open_turned (cells_of (region_from f cells) p) x y (paired (region_from f cells) p x y h).is_open).apart

room_of : (f : Form) (cells : List ℤ) → AreCells f cells → 5 * length f.sizes ≤ length cells
room_of f cells are = omega (arith, are.count)

-- what is written makes the region
pub assumed_written : (f : Form) (cells : List ℤ) (t : Topic) → AreCells f cells → admits_topic (region_from f cells) t ≡ true → is_ready (region_from f cells) t ≡ true
    → region_from f (set cells (number_place f (assumed_cell t)) (assumed_number f t)) ≡ assumed t (region_from f cells)
assumed_written f cells (One x c) are h ready = claim_written f cells x c (room_of f cells are) (named f cells (One x c) h) ready
assumed_written f cells (Two p x y) are h ready =
    let two = both_true (is_there (region_from f cells) x) (is_there (region_from f cells) y) ready in
    told_written f cells p x y (named f cells (Two p x y) h).0 (pair_there f cells p x y h) ∙ ap (with_order p x y) (sym (both_stay (region_from f cells) x y two.0 two.1))

pub refused_written : (f : Form) (cells : List ℤ) (t : Topic) → AreCells f cells → admits_topic (region_from f cells) t ≡ true
    → region_from f (set cells (number_place f (refused_cell t)) (refused_number f t)) ≡ refused t (region_from f cells)
refused_written f cells (One x c) are h = denial_written f cells x c (room_of f cells are) (named f cells (One x c) h)
refused_written f cells (Two p x y) are h = told_written f cells p y x (named f cells (Two p x y) h).0 (pair_back f cells p x y h)

-- a cell has its place
order_within : (f : Form) (cells : List ℤ) (p : Seq) (k : ℕ) → AreCells f cells → p.0 < length f.members → k < pair_count (length (members_at f p)) → 5 * length f.sizes + (pairs_before f.members p.0 + k) < length cells
order_within f cells p k are within room = omega (arith, are.count, pairs_room f.members p.0 within, room)

pub assumed_within : (f : Form) (cells : List ℤ) (t : Topic) → AreCells f cells → admits_topic (region_from f cells) t ≡ true → number_place f (assumed_cell t) < length cells
assumed_within f cells (One x c) are h = omega (arith, claim_place f x c (named f cells (One x c) h), room_of f cells are)
assumed_within f cells (Two p x y) are h = order_within f cells p (order_place (place_of (members_at f p) x) (place_of (members_at f p) y)) are (named f cells (Two p x y) h).0 (pair_there f cells p x y h)

pub refused_within : (f : Form) (cells : List ℤ) (t : Topic) → AreCells f cells → admits_topic (region_from f cells) t ≡ true → number_place f (refused_cell t) < length cells
refused_within f cells (One x c) are h = omega (arith, denial_place f x c (named f cells (One x c) h), room_of f cells are)
refused_within f cells (Two p x y) are h = order_within f cells p (order_place (place_of (members_at f p) y) (place_of (members_at f p) x)) are (named f cells (Two p x y) h).0 (pair_back f cells p x y h)

-- the order of two members, read by their places
read_map : (cells : List ℤ) (k n : ℕ) → k < n → slice_index_or (pairs_from n cells) k Unknown ≡ order_from (number_at cells k)
read_map cells k zero h = absurd (omega (arith, h))
read_map [] k (suc n) h = refl
read_map (x ∷ xs) zero (suc n) h = refl
read_map (x ∷ xs) (suc k) (suc n) h = read_map xs k n (omega (arith, h))

pub pair_read : (mss : List (List Itv)) (ns : List ℤ) (p k : ℕ) → p < length mss → k < pair_count (length (get_or mss p [])) → slice_index_or (get_or (orders_from mss ns) p no_sequence).cells k Unknown ≡ order_from (number_at ns (pairs_before mss p + k))
pair_read [] ns p k within room = absurd (omega (arith, within))
pair_read (ms ∷ mss) ns zero k within room = read_map ns k (pair_count (length ms)) room ∙ ap (λ i. order_from (number_at ns i)) (none k)
  where
    none : (k : ℕ) → k ≡ 0 + k
    none k = omega arith
pair_read (ms ∷ mss) ns (suc p) k within room =
    pair_read mss (drop (pair_count (length ms)) ns) p k (omega (arith, within)) room
    ∙ ap order_from (number_from ns (pair_count (length ms)) (pairs_before mss p + k))
    ∙ ap (λ i. order_from (number_at ns i)) (sum3 (pair_count (length ms)) (pairs_before mss p) k)
  where
    sum3 : (a b c : ℕ) → a + (b + c) ≡ a + b + c
    sum3 a b c = omega arith

-- what the cell says of the lower and the higher one
forward_read : (b e : Bool) (c d : OrderCell) → b ≡ true → e ≡ false → known_order ((b && says_forward c) || (e && says_backward d)) ((e && says_forward d) || (b && says_backward c)) ≡ c
forward_read true false Unknown d p q = refl
forward_read true false Forward d p q = refl
forward_read true false Backward d p q = refl
forward_read true true c d p q = cc
forward_read false e c d p q = cc

backward_read : (b e : Bool) (c d : OrderCell) → b ≡ false → e ≡ true → known_order ((b && says_forward c) || (e && says_backward d)) ((e && says_forward d) || (b && says_backward c)) ≡ reversed d
backward_read false true c Unknown p q = refl
backward_read false true c Forward p q = refl
backward_read false true c Backward p q = refl
backward_read false false c d p q = cc
backward_read true e c d p q = cc

pub order_below : (s : SequenceCells) (x y : Itv) → place_of s.members x < place_of s.members y → order_in s x y ≡ slice_index_or s.cells (order_place (place_of s.members x) (place_of s.members y)) Unknown
order_below s x y below =
    forward_read (nat_lt (place_of s.members x) (place_of s.members y)) (nat_lt (place_of s.members y) (place_of s.members x)) _ _ (lower _ _ below) (higher _ _ below)
    ∙ sym (ap (λ b. slice_index_or s.cells (if b then pair_place (place_of s.members x) (place_of s.members y) else pair_place (place_of s.members y) (place_of s.members x)) Unknown) (lower _ _ below))

pub order_above : (s : SequenceCells) (x y : Itv) → place_of s.members y < place_of s.members x → order_in s x y ≡ reversed (slice_index_or s.cells (order_place (place_of s.members x) (place_of s.members y)) Unknown)
order_above s x y above =
    backward_read (nat_lt (place_of s.members x) (place_of s.members y)) (nat_lt (place_of s.members y) (place_of s.members x)) _ _ (higher _ _ above) (lower _ _ above)
    ∙ sym (ap (λ b. reversed (slice_index_or s.cells (if b then pair_place (place_of s.members x) (place_of s.members y) else pair_place (place_of s.members y) (place_of s.members x)) Unknown)) (higher _ _ above))

-- of one alone nothing is known, nor of others than members
pub order_itself : (s : SequenceCells) (x y : Itv) → place_of s.members x ≡ place_of s.members y → order_in s x y ≡ Unknown
order_itself s x y e = none (nat_lt (place_of s.members x) (place_of s.members y)) (nat_lt (place_of s.members y) (place_of s.members x)) _ _ (equal _ _ e) (equal _ _ (sym e))
  where
    equal : (i j : ℕ) → i ≡ j → nat_lt i j ≡ false
    equal i j e = grind (arith, nat_tests, e)

    none : (b e : Bool) (c d : OrderCell) → b ≡ false → e ≡ false → known_order ((b && says_forward c) || (e && says_backward d)) ((e && says_forward d) || (b && says_backward c)) ≡ Unknown
    none false false c d p q = refl
    none true e c d p q = cc
    none false true c d p q = cc

above_all : (j n : ℕ) → n ≤ j → pair_count n ≤ pair_count j
above_all zero zero h = omega arith
above_all zero (suc n) h = absurd (omega (arith, h))
above_all (suc j) n h = decided (nat_lt j n) refl (λ less. above_all j n less)
  where
    decided : (b : Bool) → nat_lt j n ≡ b → (n ≤ j → pair_count n ≤ pair_count j) → pair_count n ≤ j + pair_count j
    decided true is more = let e : n ≡ suc j = grind (arith, nat_tests, is, h) in subst (λ k. pair_count k ≤ j + pair_count j) (sym e) (omega arith)
    decided false is more = omega (arith, more (grind (arith, nat_tests, is)))

past_end : (cs : List OrderCell) (k : ℕ) → length cs ≤ k → slice_index_or cs k Unknown ≡ Unknown
past_end [] k h = refl
past_end (c ∷ cs) zero h = absurd (omega (arith, h))
past_end (c ∷ cs) (suc k) h = past_end cs k (omega (arith, h))

taken : (n : ℕ) (ns : List ℤ) → length (take n ns) ≤ n
taken zero ns = omega arith
taken (suc n) [] = omega arith
taken (suc n) (x ∷ xs) = omega (arith, taken n xs)

pub length-pairs : (mss : List (List Itv)) (ns : List ℤ) (p : ℕ) → length (get_or (orders_from mss ns) p no_sequence).cells ≤ pair_count (length (get_or mss p []))
length-pairs [] ns p = omega arith
length-pairs (ms ∷ mss) ns zero = subst (λ n. n ≤ pair_count (length ms)) (sym (length-map (take (pair_count (length ms)) ns) order_from)) (taken (pair_count (length ms)) ns)
length-pairs (ms ∷ mss) ns (suc p) = length-pairs mss (drop (pair_count (length ms)) ns) p

pub order_beyond : (s : SequenceCells) (x y : Itv) → length s.cells ≤ pair_count (length s.members) → (length s.members ≤ place_of s.members x) ⊎ (length s.members ≤ place_of s.members y) → order_in s x y ≡ Unknown
order_beyond s x y few one = decided (nat_lt (place_of s.members y) (place_of s.members x)) (nat_lt (place_of s.members x) (place_of s.members y)) refl refl
  where
    highest : (i j n : ℕ) → i < j → (n ≤ i) ⊎ (n ≤ j) → n ≤ j
    highest i j n less (inl h) = omega (arith, less, h)
    highest i j n less (inr h) = h

    swapped : (i j n : ℕ) → (n ≤ i) ⊎ (n ≤ j) → (n ≤ j) ⊎ (n ≤ i)
    swapped i j n (inl h) = inr h
    swapped i j n (inr h) = inl h

    room : (i j : ℕ) → (i < j) ⊎ (j < i) → (length s.members ≤ i) ⊎ (length s.members ≤ j) → length s.cells ≤ order_place i j
    room i j (inl below) h = subst (λ b. length s.cells ≤ (if b then pair_place i j else pair_place j i)) (sym (lower i j below)) (omega (arith, few, above_all j (length s.members) (highest i j (length s.members) below h)))
    room i j (inr above) h = subst (λ b. length s.cells ≤ (if b then pair_place i j else pair_place j i)) (sym (higher i j above)) (omega (arith, few, above_all i (length s.members) (highest j i (length s.members) above (swapped i j (length s.members) h))))

    decided : (b c : Bool) → nat_lt (place_of s.members y) (place_of s.members x) ≡ b → nat_lt (place_of s.members x) (place_of s.members y) ≡ c → order_in s x y ≡ Unknown
    decided true c h k = let above = below_is (place_of s.members y) (place_of s.members x) h in order_above s x y above ∙ ap reversed (past_end s.cells _ (room (place_of s.members x) (place_of s.members y) (inr above) one))
    decided false true h k = let below = below_is (place_of s.members x) (place_of s.members y) k in order_below s x y below ∙ past_end s.cells _ (room (place_of s.members x) (place_of s.members y) (inl below) one)
    decided false false h k = order_itself s x y (grind (arith, nat_tests, h, k))

-- of a look
pub length-assumed : (t : Topic) (r : Region) → length (assumed t r).bounds ≡ length r.bounds
length-assumed (One x c) r = length-changed_at x.0 (guessed c) r.bounds
length-assumed (Two p x y) r = length-changed_at x.0 as_present (changed_at y.0 as_present r.bounds) ∙ length-changed_at y.0 as_present r.bounds

pub orders-assumed : (t : Topic) (r : Region) → length (assumed t r).orders ≡ length r.orders
orders-assumed (One x c) r = refl
orders-assumed (Two p x y) r = length-changed_at p.0 (told_before x y) r.orders

pub look_length : (f : Form) (cells : List ℤ) (guess : Option Guess) → length (looked_at guess (region_from f cells)).bounds ≡ length f.sizes
look_length f cells None = length-bounds_from f.sizes cells
look_length f cells (Some g) = length-assumed (topic g) (region_from f cells) ∙ length-bounds_from f.sizes cells

pub look_sequences : (f : Form) (cells : List ℤ) (guess : Option Guess) → length (looked_at guess (region_from f cells)).orders ≡ length f.members
look_sequences f cells None = length-orders_from f.members (drop (5 * length f.sizes) cells)
look_sequences f cells (Some g) = orders-assumed (topic g) (region_from f cells) ∙ length-orders_from f.members (drop (5 * length f.sizes) cells)

-- the bounds that a topic leaves of an interval
one_under : (x : Itv) (f : Bounds → Bounds) (bs : List Bounds) (n : ℕ) → n < length bs → get_or (changed_at x.0 f bs) n unknown ≡ (if nat_eq x.0 n then f (get_or bs n unknown) else get_or bs n unknown)
one_under x f bs n within = decided (nat_eq x.0 n) refl
  where
    equal : (i j : ℕ) → nat_eq i j ≡ true → i ≡ j
    equal i j h = grind (arith, nat_tests, h)

    differ : (i j : ℕ) → nat_eq i j ≡ false → j ≡ i → ⊥
    differ i j h e = grind (arith, nat_tests, h, e)

    decided : (b : Bool) → nat_eq x.0 n ≡ b → get_or (changed_at x.0 f bs) n unknown ≡ (if b then f (get_or bs n unknown) else get_or bs n unknown)
    decided true h = subst (λ k. get_or (changed_at k f bs) n unknown ≡ f (get_or bs n unknown)) (sym (equal x.0 n h)) (get_or-changed_at n f bs unknown within)
    decided false h = get_or-changed_other x.0 n f bs unknown (differ x.0 n h)

two_under : (a b : Bool) (c : Bounds) → (if a then as_present (if b then as_present c else c) else (if b then as_present c else c)) ≡ (if a || b then as_present c else c)
two_under true true c = refl
two_under true false c = refl
two_under false true c = refl
two_under false false c = refl

pub under_is : (t : Topic) (r : Region) (n : ℕ) → n < length r.bounds → bounds_under t n (get_or r.bounds n unknown) ≡ get_or (assumed t r).bounds n unknown
under_is (One x c) r n within = sym (one_under x (guessed c) r.bounds n within)
under_is (Two p x y) r n within = sym (
    one_under x as_present (changed_at y.0 as_present r.bounds) n (subst (λ k. n < k) (sym (length-changed_at y.0 as_present r.bounds)) within)
    ∙ ap (λ c. if nat_eq x.0 n then as_present c else c) (one_under y as_present r.bounds n within)
    ∙ two_under (nat_eq x.0 n) (nat_eq y.0 n) (get_or r.bounds n unknown))

pub looked_none : (guess : Option Guess) (r : Region) (n : ℕ) → guess ≡ None → get_or r.bounds n unknown ≡ get_or (looked_at guess r).bounds n unknown
looked_none guess r n is = rw is refl

pub looked_some : (guess : Option Guess) (g : Guess) (r : Region) (n : ℕ) → guess ≡ Some g → n < length r.bounds → bounds_under (topic g) n (get_or r.bounds n unknown) ≡ get_or (looked_at guess r).bounds n unknown
looked_some guess g r n is within = rw is (under_is (topic g) r n within)

-- sizes stay as declared
under_pmin : (t : Topic) (n : ℕ) (c : Bounds) → (bounds_under t n c).pmin ≡ c.pmin
under_pmin (One x k) n c = by_test (nat_eq x.0 n) k
  where
    by_test : (b : Bool) (k : Claim) → (if b then guessed k c else c).pmin ≡ c.pmin
    by_test true Present = refl
    by_test true Absent = refl
    by_test true (StartLe t) = refl
    by_test true (StartGe t) = refl
    by_test true (EndLe t) = refl
    by_test true (EndGe t) = refl
    by_test false k = refl
under_pmin (Two p x y) n c = by_test (nat_eq x.0 n || nat_eq y.0 n)
  where
    by_test : (b : Bool) → (if b then as_present c else c).pmin ≡ c.pmin
    by_test true = refl
    by_test false = refl

under_pmax : (t : Topic) (n : ℕ) (c : Bounds) → (bounds_under t n c).pmax ≡ c.pmax
under_pmax (One x k) n c = by_test (nat_eq x.0 n) k
  where
    by_test : (b : Bool) (k : Claim) → (if b then guessed k c else c).pmax ≡ c.pmax
    by_test true Present = refl
    by_test true Absent = refl
    by_test true (StartLe t) = refl
    by_test true (StartGe t) = refl
    by_test true (EndLe t) = refl
    by_test true (EndGe t) = refl
    by_test false k = refl
under_pmax (Two p x y) n c = by_test (nat_eq x.0 n || nat_eq y.0 n)
  where
    by_test : (b : Bool) → (if b then as_present c else c).pmax ≡ c.pmax
    by_test true = refl
    by_test false = refl

pub looked_pmin : (guess : Option Guess) (r : Region) (n : ℕ) → n < length r.bounds → (get_or r.bounds n unknown).pmin ≡ (get_or (looked_at guess r).bounds n unknown).pmin
looked_pmin None r n within = refl
looked_pmin (Some g) r n within = sym (under_pmin (topic g) n (get_or r.bounds n unknown)) ∙ ap (λ c. c.pmin) (under_is (topic g) r n within)

pub looked_pmax : (guess : Option Guess) (r : Region) (n : ℕ) → n < length r.bounds → (get_or r.bounds n unknown).pmax ≡ (get_or (looked_at guess r).bounds n unknown).pmax
looked_pmax None r n within = refl
looked_pmax (Some g) r n within = sym (under_pmax (topic g) n (get_or r.bounds n unknown)) ∙ ap (λ c. c.pmax) (under_is (topic g) r n within)

-- the members of a sequence stay, and its order is as the topic tells
pub members_assumed : (t : Topic) (r : Region) (p : Seq) → (cells_of (assumed t r) p).members ≡ (cells_of r p).members
members_assumed (One x c) r p = refl
members_assumed (Two q x y) r p =
    sym (get_or-map (λ s. s.members) (changed_at q.0 (told_before x y) r.orders) p.0 no_sequence)
    ∙ ap (λ mss. get_or mss p.0 []) (map-changed_at (λ s. s.members) q.0 (told_before x y) r.orders (λ s. refl))
    ∙ get_or-map (λ s. s.members) r.orders p.0 no_sequence

pub look_members : (f : Form) (cells : List ℤ) (guess : Option Guess) (p : Seq) → members_at f p ≡ (cells_of (looked_at guess (region_from f cells)) p).members
look_members f cells None p = sym (members_of f.members (drop (5 * length f.sizes) cells) p.0)
look_members f cells (Some g) p = sym (members_assumed (topic g) (region_from f cells) p ∙ members_of f.members (drop (5 * length f.sizes) cells) p.0)

pub order_is : (t : Topic) (r : Region) (p : Seq) (a b : Itv) → HasPairs r t → admits_topic r t ≡ true → order_under t p a b (order_in (cells_of r p) a b) ≡ order_in (cells_of (assumed t r) p) a b
order_is (One x c) r p a b pairs h = refl
order_is (Two q x y) r p a b pairs h = decided (nat_eq q.0 p.0) refl
  where
    equal : (i j : ℕ) → nat_eq i j ≡ true → j ≡ i
    equal i j h = grind (arith, nat_tests, h)

    differ : (i j : ℕ) → nat_eq i j ≡ false → j ≡ i → ⊥
    differ i j h e = grind (arith, nat_tests, h, e)

    both : Region
    both = with_bounds x as_present (with_bounds y as_present r)

    there : (z : Seq) → z ≡ q → (if same x a && same y b then Forward else if same x b && same y a then Backward else order_in (cells_of r z) a b) ≡ order_in (cells_of (assumed (Two q x y) r) z) a b
    there z e = subst (λ z. (if same x a && same y b then Forward else if same x b && same y a then Backward else order_in (cells_of r z) a b) ≡ order_in (cells_of (assumed (Two q x y) r) z) a b) (sym e)
        (sym (ap (λ s. order_in s a b) (cells_there q x y both (paired r q x y h).within) ∙ order_told (cells_of r q) x y a b pairs (paired r q x y h).is_open))

    decided : (s : Bool) → nat_eq q.0 p.0 ≡ s → (if not s then order_in (cells_of r p) a b else if same x a && same y b then Forward else if same x b && same y a then Backward else order_in (cells_of r p) a b) ≡ order_in (cells_of (assumed (Two q x y) r) p) a b
    decided true is = there p (ap (λ n. record { 0 = n }) (equal q.0 p.0 is))
    decided false is = sym (ap (λ s. order_in s a b) (cells_elsewhere q p x y both (differ q.0 p.0 is)))
