-- The lists of a table name what is watched.
use Rattle.std.specs.Prelude.{◌≡◌, ℕ, ◌-◌, ◌<◌, ◌≤◌, Bool, true, false, List, length, slice_get, Option, Some, None, IsTrue, nat_eq, nat_lt, if◌then◌else◌}
use Rattle.std.specs.List.{list_any}
use Rattle.std.proofs.Common.{inl, inr, sym, subst, arith}
use Rattle.std.proofs.lemmas.Bool.{or_left}
use Rattle.std.proofs.lemmas.Bool.Decides.{nat_tests}
use Rattle.sched_base.specs.declared.ids.Itv.{Itv}
use Rattle.sched_base.specs.declared.ids.Seq.{Seq}
use Rattle.sched_model.specs.Data.{Data, has, members_of}
use Rattle.region.specs.declared.types.CellName.{CellName}
use Rattle.region.specs.declared.types.CellName.TheVariants as cell
use Rattle.region.specs.laws.OneSequence.{has_cases}
use Rattle.findings.specs.code.Reads.{reads_cell, is_paired}
use Rattle.prop_unary.specs.code.Tasks.{sequence_in, sequence_at, reads_pair, reads_triple, pairs_of, watching, is_bound, is_bound_of}
use Rattle.findings.specs.code.Tables.{members_in}
use Rattle.prop_unary.specs.code.Tables.{as_list}
use Rattle.prop_unary.specs.laws.Pairs.{named_member, named_sequence}

-- what a pair of a constraint or a sequence names
pair_presence : (m : Data) (o : Option Seq) (x : Itv) → reads_cell (reads_pair m o) (cell.Presence x) ≡ true → has (members_in m o) x ≡ true
pair_presence m None x h = cc
pair_presence m (Some p) x h = elim (has_cases (has (members_of m p) x) (is_paired (pairs_of m p) x) h) [ inl one ↦ one | inr paired ↦ named_member m p x paired ]

abbrev presence_of : Data → ℕ → Itv → Bool → Type 0
presence_of m k x t =
    reads_cell (if t then reads_pair m (sequence_in (slice_get m.constraints k)) else reads_triple m (record { 0 = k - length m.constraints })) (cell.Presence x) ≡ true
    → has (members_in m (if t then sequence_in (slice_get m.constraints k) else Some (record { 0 = k - length m.constraints }))) x ≡ true

pub presence_watched : (m : Data) (k : ℕ) (xs : List Itv) → xs ≡ members_in m (sequence_at m k) → (x : Itv) → IsTrue (watching m k (cell.Presence x)) → IsTrue (has xs x)
presence_watched m k xs is x h = subst (λ ys. has ys x ≡ true) (sym is) (at (nat_lt k (length m.constraints)) h)
  where
    at : (t : Bool) → presence_of m k x t
    at true h = pair_presence m (sequence_in (slice_get m.constraints k)) x h
    at false h = named_member m (record { 0 = k - length m.constraints }) x h

pair_bound : (m : Data) (o : Option Seq) (c : CellName) → is_bound c ≡ true → reads_cell (reads_pair m o) c ≡ true → is_bound_of (members_in m o) c ≡ true
pair_bound m None (cell.StartMin x) b h = cc
pair_bound m None (cell.StartMax x) b h = cc
pair_bound m None (cell.EndMin x) b h = cc
pair_bound m None (cell.EndMax x) b h = cc
pair_bound m None (cell.Presence x) b h = cc
pair_bound m None (cell.Order p x y) b h = cc
pair_bound m (Some q) (cell.StartMin x) b h = h
pair_bound m (Some q) (cell.StartMax x) b h = h
pair_bound m (Some q) (cell.EndMin x) b h = h
pair_bound m (Some q) (cell.EndMax x) b h = h
pair_bound m (Some q) (cell.Presence x) b h = cc
pair_bound m (Some q) (cell.Order p x y) b h = cc

is_below : (i n : ℕ) → i < n → nat_lt i n ≡ true
is_below i n h = grind (arith, nat_tests)

not_below : (i n : ℕ) → n ≤ i → nat_lt i n ≡ false
not_below i n h = grind (arith, nat_tests)

pub bound_watched : (m : Data) (k : ℕ) (xs : List Itv) → k < length m.constraints → xs ≡ members_in m (sequence_at m k) → (c : CellName) → is_bound c ≡ true → IsTrue (watching m k c) → IsTrue (is_bound_of xs c)
bound_watched m k xs within is c b h = subst (λ ys. is_bound_of ys c ≡ true) (sym is) (at (nat_lt k (length m.constraints)) (is_below k (length m.constraints) within) h)
  where
    at : (t : Bool) → t ≡ true → reads_cell (if t then reads_pair m (sequence_in (slice_get m.constraints k)) else reads_triple m (record { 0 = k - length m.constraints })) c ≡ true
        → is_bound_of (members_in m (if t then sequence_in (slice_get m.constraints k) else Some (record { 0 = k - length m.constraints }))) c ≡ true
    at true e h = pair_bound m (sequence_in (slice_get m.constraints k)) c b h
    at false e h = cc

abbrev has_number : List Seq → Seq → Bool
has_number ps p = list_any (λ q. nat_eq p.0 q.0) ps

pair_order : (m : Data) (o : Option Seq) (p : Seq) (x y : Itv) → reads_cell (reads_pair m o) (cell.Order p x y) ≡ true → has_number (as_list o) p ≡ true
pair_order m None p x y h = cc
pair_order m (Some q) p x y h = or_left (nat_eq p.0 q.0) false (named_sequence m q p x y h)

pub order_watched : (m : Data) (k : ℕ) (ps : List Seq) → ps ≡ as_list (sequence_at m k) → (p : Seq) (x y : Itv) → IsTrue (watching m k (cell.Order p x y)) → IsTrue (list_any (λ q. nat_eq p.0 q.0) ps)
order_watched m k ps is p x y h = subst (λ qs. has_number qs p ≡ true) (sym is) (at (nat_lt k (length m.constraints)) h)
  where
    at : (t : Bool) → reads_cell (if t then reads_pair m (sequence_in (slice_get m.constraints k)) else reads_triple m (record { 0 = k - length m.constraints })) (cell.Order p x y) ≡ true
        → has_number (as_list (if t then sequence_in (slice_get m.constraints k) else Some (record { 0 = k - length m.constraints }))) p ≡ true
    at true h = pair_order m (sequence_in (slice_get m.constraints k)) p x y h
    at false h = or_left (nat_eq p.0 (k - length m.constraints)) false (named_sequence m (record { 0 = k - length m.constraints }) p x y h)
