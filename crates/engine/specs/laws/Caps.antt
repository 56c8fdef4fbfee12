-- Regions of a model have as many cells, and so one cap.
use Rattle.std.specs.Prelude.{◌≡◌, ℕ, ◌+◌, ◌*◌, true, List, [], ◌∷◌, map, length, sum_by, nat_eq}
use Rattle.std.specs.List.{list_all}
use Rattle.std.proofs.Common.{refl, sym, ap, ◌∙◌, arith}
use Rattle.std.proofs.lemmas.Bool.Decides.{nat_tests}
use Rattle.std.proofs.lemmas.List.Sums.{sum_by-cons}
use Rattle.sched_base.specs.declared.ids.Itv.{Itv}
use Rattle.sched_model.specs.Valid.{IsValid, pair_count}
use Rattle.sched_model.specs.Data.{Data}
use Rattle.region.specs.Orders.{SequenceCells}
use Rattle.region.specs.Cells.{Region, root, cell_count}
use Rattle.region.specs.Looks.{IsRegionOf, is_narrowed, has_pairs}
use Rattle.region.specs.Points.{cap_of}
use Rattle.region.specs.laws.Lists.{both_true, placewise-length}
use Rattle.region.specs.laws.Rooted.{root_of}
use Rattle.engine.specs.Runs.{cap_at}

abbrev cells_in : SequenceCells → ℕ
cells_in s = length s.cells

paired : (s : SequenceCells) → has_pairs s ≡ true → cells_in s ≡ pair_count (length s.members)
paired s h = same (length s.cells) (pair_count (length s.members)) h
  where
    same : (i j : ℕ) → nat_eq i j ≡ true → i ≡ j
    same i j h = grind (arith, nat_tests)

same_pairs : (rs qs : List SequenceCells) → map (λ s. s.members) rs ≡ map (λ s. s.members) qs → list_all has_pairs rs ≡ true → list_all has_pairs qs ≡ true → sum_by (λ s. length s.cells) rs ≡ sum_by (λ s. length s.cells) qs
same_pairs [] [] e h k = refl
same_pairs [] (t ∷ qs) e h k = cc
same_pairs (s ∷ rs) [] e h k = cc
same_pairs (s ∷ rs) (t ∷ qs) e h k =
    let members : s.members ≡ t.members = cc in
    let rest : map (λ s. s.members) rs ≡ map (λ s. s.members) qs = cc in
    let first = both_true (has_pairs s) (list_all has_pairs rs) h in
    let second = both_true (has_pairs t) (list_all has_pairs qs) k in
    let here : cells_in s ≡ cells_in t = paired s first.0 ∙ ap (λ (ms : List Itv). pair_count (length ms)) members ∙ sym (paired t second.0) in
    sum_by-cons (λ s. length s.cells) s rs
    ∙ ap (λ n. n + sum_by (λ s. length s.cells) rs) here
    ∙ ap (λ n. length t.cells + n) (same_pairs rs qs rest first.1 second.1)
    ∙ sym (sum_by-cons (λ s. length s.cells) t qs)

same_cells : (m : Data) (r q : Region) → IsRegionOf m r → IsRegionOf m q → cell_count r ≡ cell_count q
same_cells m r q of also =
    let bounds : length r.bounds ≡ length q.bounds = sym (placewise-length is_narrowed m.intervals r.bounds of.bounds) ∙ placewise-length is_narrowed m.intervals q.bounds also.bounds in
    ap (λ n. 5 * n + sum_by (λ s. length s.cells) r.orders) bounds ∙ ap (λ n. 5 * length q.bounds + n) (same_pairs r.orders q.orders (of.members ∙ sym also.members) of.pairs also.pairs)

pub same_cap : (m : Data) (r q : Region) → IsRegionOf m r → IsRegionOf m q → cap_at r ≡ cap_at q
same_cap m r q of also = ap (λ n. 16 * n) (same_cells m r q of also)

-- the cap at a region of a model is the model's
abbrev pub CapIsTheModels : Type 0
CapIsTheModels = (m : Data) (r : Region) → IsValid m → IsRegionOf m r → cap_at r ≡ cap_of m

pub cap_law : CapIsTheModels
cap_law m r valid of = same_cap m r (root m) of (root_of m valid)
