-- A quiet propagator stays quiet where nothing that it watches changes.
use Rattle.std.specs.Prelude.{◌≡◌, ℕ, ◌+◌, ◌-◌, ◌<◌, ℤ, Bool, true, false, IsTrue, length, Option, Some, None, slice_get, nat_lt, if◌then◌else◌}
use Rattle.std.proofs.Common.{refl, sym, ap, subst, ◌∙◌, arith}
use Rattle.std.proofs.lemmas.Bool.Decides.{nat_tests}
use Rattle.sched_base.specs.declared.ids.Seq.{Seq}
use Rattle.sched_model.specs.Data.{Data}
use Rattle.region.specs.declared.types.CellName.{CellName}
use Rattle.region.specs.Cells.{Region}
use Rattle.region.specs.Guesses.{SameCell}
use Rattle.region.specs.Looks.{IsRegionOf}
use Rattle.findings.specs.code.Reads.{Reads, AreAlike, reads_cell}
use Rattle.findings.specs.laws.Alike.{alike_from_cells}
use Rattle.refute_seq.specs.declared.witness.SeqWitness.{SeqWitness}
use Rattle.refute_seq.specs.declared.witness.SeqWitness.TheVariants.{Pair, Triple, Overload, Edge, NotEnd, Detect}
use Rattle.prop_unary.specs.code.Tasks.{IsSilent, quiet, looks_after, sequence_in, reads_pair, reads_triple, reads_of, reads_at, watching, watching_best}
use Rattle.prop_unary.specs.laws.Owners.{pair_owned, triple_owned, owned_kind}
use Rattle.prop_unary.specs.laws.Quieting.{by_members}
use Rattle.prop_unary.specs.laws.Looking.{silent_kept}

-- a propagator reads what its witnesses do
abbrev chosen_reads : Data → Bool → ℕ → Reads
chosen_reads m t k = if t then reads_pair m (sequence_in (slice_get m.constraints k)) else reads_triple m (record { 0 = k - length m.constraints })

is_below : (i n : ℕ) → i < n → nat_lt i n ≡ true
is_below i n h = grind (arith, nat_tests)

not_below : (i n : ℕ) → nat_lt (n + i) n ≡ false
not_below i n = grind (arith, nat_tests)

pair_reads : (m : Data) (c : ℕ) → c < length m.constraints → reads_pair m (sequence_in (slice_get m.constraints c)) ≡ reads_at m c
pair_reads m c within = sym (ap (λ t. chosen_reads m t c) (is_below c (length m.constraints) within))

triple_reads : (m : Data) (p : ℕ) → reads_triple m (record { 0 = p }) ≡ reads_at m (length m.constraints + p)
triple_reads m p = ap (λ n. reads_triple m (record { 0 = n })) (back p (length m.constraints)) ∙ sym (ap (λ t. chosen_reads m t (length m.constraints + p)) (not_below p (length m.constraints)))
  where
    back : (p n : ℕ) → p ≡ (n + p) - n
    back p n = omega arith

reads_owned : (m : Data) (k : ℕ) (w : SeqWitness) → looks_after m k w ≡ true → reads_of m w ≡ reads_at m k
reads_owned m k (Pair c a b n) mine = let o = pair_owned m k c a b n mine in pair_reads m c o.1 ∙ ap (reads_at m) (sym o.0)
reads_owned m k (Triple p x y z) mine = let o = triple_owned m k p x y z mine in triple_reads m p ∙ ap (reads_at m) (sym o.0)
reads_owned m k (Overload c s) mine = cc
reads_owned m k (Edge c side i s u v) mine = cc
reads_owned m k (NotEnd c side i s) mine = cc
reads_owned m k (Detect c side i s) mine = cc

never_best : (m : Data) (w : SeqWitness) → (reads_of m w).best ≡ false
never_best m (Pair c a b k) = at (sequence_in (slice_get m.constraints c))
  where
    at : (o : Option Seq) → (reads_pair m o).best ≡ false
    at None = refl
    at (Some p) = refl
never_best m (Triple p x y z) = refl
never_best m (Overload c s) = refl
never_best m (Edge c side i s u v) = refl
never_best m (NotEnd c side i s) = refl
never_best m (Detect c side i s) = refl

pub unwatched : (m : Data) (k : ℕ) (r q : Region) (b c : Option ℤ) → IsRegionOf m r → IsRegionOf m q → ((cell : CellName) → IsTrue (watching m k cell) → SameCell cell r q) → (IsTrue (watching_best m k) → b ≡ c) → quiet m k r b → quiet m k q c
unwatched m k r q b c of also cells best still = record { unrefuted = λ w guess mine asked. kept w mine guess asked }
  where
    alike : (w : SeqWitness) → looks_after m k w ≡ true → AreAlike (reads_of m w) r q
    alike w mine = alike_from_cells m (reads_of m w) r q of also (λ cell one. cells cell (subst (λ reads. reads_cell reads cell ≡ true) (reads_owned m k w mine) one))

    unread : {Z : Type 0} (t : Bool) → t ≡ false → t ≡ true → Z
    unread true e h = cc
    unread false e h = cc

    kept : (w : SeqWitness) → looks_after m k w ≡ true → IsSilent m q c w
    kept w mine = by_members m q c w also (owned_kind m k w mine) (λ here. silent_kept m w r q b c here of also (alike w mine) (λ uses. unread (reads_of m w).best (never_best m w) uses) (λ guess asked. still.unrefuted w guess mine asked))
