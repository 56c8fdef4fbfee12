-- Where the passes find nothing on either side, no witness of the constraint refutes anything that is asked.
use Rattle.std.specs.Prelude.{◌≡◌, ℕ, suc, Bool, true, false, not, List, map, length, None}
use Rattle.std.proofs.Common.{refl, sym, ap, ◌∙◌, arith}
use Rattle.std.proofs.lemmas.Int.{ints}
use Rattle.sched_base.specs.declared.ids.Itv.{Itv}
use Rattle.sched_model.specs.Data.{has}
use Rattle.region.specs.Cells.{Region, bounds_of, is_there, says_absent}
use Rattle.region.specs.laws.Lists.{both_true}
use Rattle.task_sets.specs.Times.{Times, has as holds, overload_row, edge_row, detect_row, turned}
use Rattle.task_sets.specs.laws.Moved.{IsGuessed}
use Rattle.task_sets.specs.laws.Ects.{up_from, keep}
use Rattle.task_sets.specs.laws.Witnesses.{overload_guessed}
use Rattle.refute_seq.specs.Sets.{times_of}
use Rattle.theta_passes.specs.declared.rows.Row.{Row}
use Rattle.theta_passes.specs.code.Rows.{times_at}
use Rattle.theta_passes.specs.code.Edge.{PassOrNone}
use Rattle.theta_passes.specs.code.Late.{LatePass}
use Rattle.theta_passes.specs.code.Over.{NoOverloads}
use Rattle.theta_passes.specs.code.Rows.{with_candidate}
use Rattle.theta_passes.specs.laws.Quiet.{quiet_edges, quiet_detects}
use Rattle.prop_sets.specs.code.Rows.{asks_early}
use Rattle.prop_sets.specs.laws.Under.{IsSeen, asked_seen}
use Rattle.prop_sets.specs.laws.Named.{image, overload_named, edge_named, detect_named}
use Rattle.prop_sets.specs.laws.Placed.{IsNoted, place, has_task, placed, place_most, at_place, row_is, candidate_at, bar_at, reach_at, rows_sized, is_guessed, placed_sized, others_stay, to_places}

-- over the members of a list
is_open : (b : Bool) → b ≡ false → not b ≡ true
is_open b e = ap not e

back : (d e : ℕ → Times) → IsGuessed d e → IsGuessed e d
back d e h = record { est = λ y. sym (h.est y); lct = λ y. sym (h.lct y); size = λ y. sym (h.size y) }

pub overload_none : (side : ℕ) (chosen early : Bool) (r q : Region) (i : Itv) (xs : List Itv) (rows : List Row) (s : List ℕ) → IsNoted side chosen early r xs rows → NoOverloads rows → has xs i ≡ true → IsSeen r q i early
    → overload_row (turned side (times_of q)) (has_task xs q) s ≡ true → ⊥
overload_none side chosen early r q i xs rows s noted none here h is =
    let e = placed side q xs rows in
    let same = is_guessed side chosen early r q i xs rows noted h in
    let z = keep (holds (map (place xs) s)) (up_from 0 (suc (length xs))) in
    let row = overload_named (turned side (times_of q)) e (has_task xs q) (with_candidate rows (place xs i.0)) (place xs) s z (placed_sized side chosen early r q i xs rows noted h) (to_places side chosen early r q i xs rows noted h)
    (image (place xs) (suc (length xs)) s (λ x on. place_most xs (record { 0 = x }))) is in
    none.with_i (place xs i.0) z (candidate_at side chosen early r xs rows i noted here ∙ is_open (says_absent (bounds_of r i).presence) h.opened)
    (overload_guessed e (times_at rows) (with_candidate rows (place xs i.0)) z (back (times_at rows) e same) row)

pub edge_none : (side : ℕ) (r q : Region) (i : Itv) (xs : List Itv) (rows : List Row) (s u v : List ℕ) → IsNoted side true (asks_early side) r xs rows → NoOverloads rows → PassOrNone rows None → has xs i ≡ true → IsSeen r q i (asks_early side)
    → edge_row (turned side (times_of q)) (has_task xs q) i.0 s u v ≡ true → ⊥
edge_none side r q i xs rows s u v noted none pass here h is =
    let early = asks_early side in
    let e = placed side q xs rows in
    let n = suc (length xs) in
    let sz = keep (holds (map (place xs) s)) (up_from 0 n) in
    let uz = keep (holds (map (place xs) u)) (up_from 0 n) in
    let vz = keep (holds (map (place xs) v)) (up_from 0 n) in
    let at = at_place side q xs rows i here in
    let row = edge_named (turned side (times_of q)) e (has_task xs q) (with_candidate rows (place xs i.0)) (place xs) i.0 s u v sz uz vz (placed_sized side true early r q i xs rows noted h) (to_places side true early r q i xs rows noted h)
    (image (place xs) n s (λ x on. place_most xs (record { 0 = x }))) (image (place xs) n u (λ x on. place_most xs (record { 0 = x }))) (image (place xs) n v (λ x on. place_most xs (record { 0 = x })))
    (ap (λ (t : Times). t.lst) at) (task here h.there) is in
    quiet_edges rows (place xs i.0) e sz uz vz (rows_sized side true early r xs rows noted) none pass (candidate_at side true early r xs rows i noted here ∙ is_open (says_absent (bounds_of r i).presence) h.opened)
    (record {
      same = is_guessed side true early r q i xs rows noted h;
      start =
          let tight = (asked_seen side early r q i (noted.narrow i) h).lst in
          let row = ap (λ (w : Row). w.lst) (row_is side true early r xs rows i noted here) in
          let look = ap (λ (t : Times). t.lst) at in
          omega (arith, ints, tight, row, look);
    }) row
  where
    task : has xs i ≡ true → is_there q i ≡ true → has_task xs q i.0 ≡ true
    task a b = rw (a, b) refl

pub late_none : (side : ℕ) (early : Bool) (r q : Region) (i : Itv) (xs : List Itv) (rows : List Row) (s : List ℕ) → IsNoted side false early r xs rows → LatePass rows None → has xs i ≡ true → IsSeen r q i early
    → detect_row (turned side (times_of q)) (has_task xs q) i.0 s ≡ true → ⊥
late_none side early r q i xs rows s noted pass here h is =
    let e = placed side q xs rows in
    let n = suc (length xs) in
    let z = keep (holds (map (place xs) s)) (up_from 0 n) in
    let at = at_place side q xs rows i here in
    let row = detect_named (turned side (times_of q)) e (has_task xs q) (with_candidate rows (place xs i.0)) (place xs) i.0 s z (placed_sized side false early r q i xs rows noted h) (to_places side false early r q i xs rows noted h)
    (image (place xs) n s (λ x on. place_most xs (record { 0 = x })))
    (λ w on. ap (λ (t : Times). t.lst) (at_place side q xs rows (record { 0 = w }) (both_true (has xs (record { 0 = w })) (is_there q (record { 0 = w })) on).0))
    (ap (λ (t : Times). t.ect) at) (task here h.there) is in
    quiet_detects rows (place xs i.0) e z (rows_sized side false early r xs rows noted) pass (candidate_at side false early r xs rows i noted here ∙ is_open (says_absent (bounds_of r i).presence) h.opened)
    (record {
      same = is_guessed side false early r q i xs rows noted h;
      others = others_stay side early r q i xs rows noted h here;
      reach =
          let tight = (asked_seen side early r q i (noted.narrow i) h).ect in
          let row = reach_at side false early r xs rows i noted here in
          let look = ap (λ (t : Times). t.ect) at in
          omega (arith, ints, tight, row, look);
      bar =
          let tight = (asked_seen side early r q i (noted.narrow i) h).lst in
          let row = bar_at side false early r xs rows i noted here in
          let look = ap (λ (t : Times). t.lst) at in
          omega (arith, ints, tight, row, look);
    }) row
  where
    task : has xs i ≡ true → is_there q i ≡ true → has_task xs q i.0 ≡ true
    task a b = rw (a, b) refl
