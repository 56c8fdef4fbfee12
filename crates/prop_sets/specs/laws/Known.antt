-- Members with the same numbers have the same rows, and so nothing is found of them again.
use Rattle.std.specs.Prelude.{◌≡◌, ℕ, zero, suc, ◌<◌, ℤ, Bool, true, false, List, [], length, Option, Some, None}
use Rattle.std.proofs.Common.{refl, sym, ap, subst, ◌∙◌, arith, get_or, set, inl, inr}
use Rattle.std.proofs.lemmas.Bool.{cases_eq}
use Rattle.std.proofs.lemmas.List.{get_or-set_same, get_or-set_other, length-set}
use Rattle.sched_base.specs.declared.ids.Itv.{Itv}
use Rattle.sched_base.specs.declared.ids.Seq.{Seq}
use Rattle.sched_model.specs.Data.{Data, has, members_of}
use Rattle.sched_model.specs.Valid.{IsValid}
use Rattle.region.specs.declared.types.Bounds.{Bounds}
use Rattle.region.specs.Cells.{Region, bounds_of}
use Rattle.region.specs.Looks.{IsRegionOf}
use Rattle.region.specs.Orders.{place_of}
use Rattle.region.specs.laws.OneSequence.{place_within}
use Rattle.theta_passes.specs.declared.rows.Row.{Row}
use Rattle.prop_sets.specs.declared.known.Numbers.{Numbers}
use Rattle.prop_sets.specs.code.Tasks.{quiet, sequence_at}
use Rattle.prop_sets.specs.code.Rows.{chosen_row, row_from, member_at, AreRows, asks_early, asks_late}
use Rattle.prop_sets.specs.code.Reordered.{IsReordered}
use Rattle.prop_sets.specs.code.Sides.{IsSideQuiet, NoFull, NoEdge, NoDetect, NoNotEnd}
use Rattle.prop_sets.specs.code.Known.{numbers_of, AreNumbers, IsStill, IsKnown, IfKnown, AreKnown}
use Rattle.prop_sets.specs.laws.Members.{has_at, has_same}
use Rattle.prop_sets.specs.laws.Placed.{stands_at}
use Rattle.prop_sets.specs.laws.Silent.{sets_quiet}

-- the row from the numbers
pub row_is : (chosen : Bool) (side : ℕ) (early : Bool) (c : Bounds) → chosen_row chosen side early c ≡ row_from chosen side early (numbers_of c)
row_is true side true c = refl
row_is true side false c = refl
row_is false side true c = refl
row_is false side false c = refl

same_row : (chosen : Bool) (side : ℕ) (early : Bool) (c d : Bounds) → numbers_of c ≡ numbers_of d → chosen_row chosen side early c ≡ chosen_row chosen side early d
same_row chosen side early c d same = row_is chosen side early c ∙ ap (row_from chosen side early) same ∙ sym (row_is chosen side early d)

-- of each member of a list, and so of each in another order
abbrev SameNumbers : Region → Region → List Itv → Type 0
SameNumbers r q ms = (x : Itv) → has ms x ≡ true → numbers_of (bounds_of r x) ≡ numbers_of (bounds_of q x)

same_numbers : (r q : Region) (ms : List Itv) (ns : List Numbers) → AreNumbers r ms (length ms) ns → AreNumbers q ms (length ms) ns → SameNumbers r q ms
same_numbers r q ms ns old now x here =
    let k = place_of ms x in
    let low = place_within ms x here in
    let at = stands_at ms x here in
    subst (λ y. numbers_of (bounds_of r y) ≡ numbers_of (bounds_of q y)) at (sym (old.each k low) ∙ now.each k low)

rows_again : (r q : Region) (ms xs : List Itv) (chosen : Bool) (side : ℕ) (early : Bool) (rows : List Row) → SameNumbers r q ms → IsReordered ms xs → AreRows (chosen_row chosen side early) r xs rows → AreRows (chosen_row chosen side early) q xs rows
rows_again r q ms xs chosen side early rows same order are = record {
  size = are.size;
  each = λ k low. are.each k low ∙ same_row chosen side early (bounds_of r (member_at xs k)) (bounds_of q (member_at xs k)) (same (member_at xs k) (sym (has_same ms xs order (member_at xs k)) ∙ has_at xs k low));
}

full_again : (r q : Region) (ms xs : List Itv) (side : ℕ) → SameNumbers r q ms → IsReordered ms xs → NoFull side r xs → NoFull side q xs
full_again r q ms xs side same order h =
    let are = rows_again r q ms xs false side (asks_early side) h.rows same order (record { size = h.are.size; each = h.are.each }) in
    record { rows = h.rows; are = record { size = are.size; each = are.each }; overloads = h.overloads }

edge_again : (r q : Region) (ms xs : List Itv) (side : ℕ) → SameNumbers r q ms → IsReordered ms xs → NoEdge side r xs → NoEdge side q xs
edge_again r q ms xs side same order h =
    let are = rows_again r q ms xs true side (asks_early side) h.rows same order (record { size = h.are.size; each = h.are.each }) in
    record { rows = h.rows; are = record { size = are.size; each = are.each }; overloads = h.overloads; pass = h.pass }

detect_again : (r q : Region) (ms xs : List Itv) (side : ℕ) → SameNumbers r q ms → IsReordered ms xs → NoDetect side r xs → NoDetect side q xs
detect_again r q ms xs side same order h =
    let are = rows_again r q ms xs false side (asks_early side) h.rows same order (record { size = h.are.size; each = h.are.each }) in
    record { rows = h.rows; are = record { size = are.size; each = are.each }; pass = h.pass }

not_end_again : (r q : Region) (ms xs : List Itv) (side : ℕ) → SameNumbers r q ms → IsReordered ms xs → NoNotEnd side r xs → NoNotEnd side q xs
not_end_again r q ms xs side same order h =
    let are = rows_again r q ms xs false side (asks_late side) h.rows same order (record { size = h.are.size; each = h.are.each }) in
    record { rows = h.rows; are = record { size = are.size; each = are.each }; pass = h.pass }

side_again : (later : Bool) (r q : Region) (ms xs : List Itv) (side : ℕ) → SameNumbers r q ms → IsReordered ms xs → IsSideQuiet later side r xs → IsSideQuiet later side q xs
side_again false r q ms xs zero same order still = (full_again r q ms xs 0 same order still.0, detect_again r q ms xs 0 same order still.1)
side_again false r q ms xs (suc n) same order still = detect_again r q ms xs (suc n) same order still
side_again true r q ms xs side same order still = (edge_again r q ms xs side same order still.0, not_end_again r q ms xs side same order still.1)

pub still_again : (later : Bool) (q : Region) (ms : List Itv) (ns : List Numbers) → IsKnown later ms ns → AreNumbers q ms (length ms) ns → IsStill later q ms
still_again later q ms ns known now =
    let same = same_numbers known.region q ms ns known.numbers now in
    let still = known.still in
    record {
      xs = still.xs;
      ys = still.ys;
      first_order = still.first_order;
      second_order = still.second_order;
      first = side_again later known.region q ms still.xs 0 same still.first_order still.first;
      second = side_again later known.region q ms still.ys 1 same still.second_order still.second;
    }

pub still_quiet : (later : Bool) (m : Data) (c : ℕ) (p : Seq) (r : Region) (best : Option ℤ) (ms : List Itv) → IsValid m → IsRegionOf m r → sequence_at m c ≡ Some p → ms ≡ members_of m p → IsStill later r ms → quiet later m c r best
still_quiet later m c p r best ms valid of sequence members still =
    sets_quiet later m c p r best valid of sequence still.xs still.ys (subst (λ zs. IsReordered zs still.xs) members still.first_order) (subst (λ zs. IsReordered zs still.ys) members still.second_order) still.first still.second

-- what is remembered of a list
pub known_at : (later : Bool) (members : List (List Itv)) (known : List (Option (List Numbers))) (k : ℕ) (ns : List Numbers) → k < length members → get_or known k None ≡ Some ns → AreKnown later members known → IsKnown later (get_or members k []) ns
known_at later members known k ns low is h = subst (IfKnown later (get_or members k [])) is (h.each k low)

-- one list more is remembered
pub known_set : (later : Bool) (members : List (List Itv)) (known : List (Option (List Numbers))) (k : ℕ) (ns : List Numbers) → k < length members → IsKnown later (get_or members k []) ns → AreKnown later members known → AreKnown later members (set known k (Some ns))
known_set later members known k ns low mine h = record {
  size = length-set known k (Some ns) ∙ h.size;
  each = λ j within. elim (cases_eq j k) [
    | inl same ↦ subst (λ i. IfKnown later (get_or members i []) (get_or (set known k (Some ns)) i None)) (sym same)
        (subst (IfKnown later (get_or members k [])) (sym (get_or-set_same known k (Some ns) None (let size = h.size in omega (arith, low, size)))) mine)
    | inr other ↦ subst (IfKnown later (get_or members j [])) (sym (get_or-set_other known k j (Some ns) None other)) (h.each j within)
  ];
}
