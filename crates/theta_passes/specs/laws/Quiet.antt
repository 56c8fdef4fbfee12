-- The passes and the rows, over places, under a guess.
use Rattle.std.specs.Prelude.{Bool, List, false, int_lt, length, nat_eq, not, pos, refl, true, ℕ, ◌||◌, ◌∷◌, ◌≡◌, ◌≤ℤ◌}
use Rattle.std.proofs.Common.{arith, subst, sym}
use Rattle.std.proofs.lemmas.Bool.Decides.{nat_tests}
use Rattle.std.proofs.lemmas.Int.{ints}
use Rattle.base_laws.specs.laws.Truth.{all_three, three_true}
use Rattle.task_sets.specs.laws.Cuts.{IsBelow}
use Rattle.task_sets.specs.laws.Ects.{ect_exists, lt_holds, lt_true}
use Rattle.task_sets.specs.laws.EdgeCuts.{edge_law}
use Rattle.task_sets.specs.laws.Moved.{IsGuessed, ect_alike, edge_guessed, guessed_edge, guessed_late, late_guessed}
use Rattle.task_sets.specs.laws.NotEndCuts.{detect_law}
use Rattle.task_sets.specs.laws.Sums.{has_first}
use Rattle.task_sets.specs.Times.{IsSized, Times, ect_at, has, lst_at, overload_row}
use Rattle.task_sets.specs.laws.Witnesses.{overload_guessed}
use Rattle.theta_passes.specs.code.Late.{before_key}
use Rattle.theta_passes.specs.code.Over.{NoOverloads}
use Rattle.theta_passes.specs.code.Quiet.{FoundDetect, FoundEdge, QuietDetects, QuietEdges}
use Rattle.theta_passes.specs.code.Rows.{is_candidate, is_present, row_at, times_at, with_candidate}
use Rattle.theta_passes.specs.declared.rows.Row.{Row}
use Rattle.theta_passes.specs.laws.Members.{present_below, with_below}

pub guessed_back : (d e : ℕ → Times) → IsGuessed d e → IsGuessed e d
guessed_back d e h = record { est = λ y. sym (h.est y); lct = λ y. sym (h.lct y); size = λ y. sym (h.size y) }

pub sized : (d e : ℕ → Times) → IsGuessed d e → IsSized d → IsSized e
sized d e h valid = record { sizes = λ x. subst (λ p. pos 0 ≤ℤ p) (h.size x) (valid.sizes x) }

pub none_under : (rows : List Row) (i : ℕ) (e : ℕ → Times) → NoOverloads rows → is_candidate rows i ≡ true → IsGuessed (times_at rows) e → (s : List ℕ) → overload_row e (with_candidate rows i) s ≡ true → ⊥
none_under rows i e none one same s over = none.with_i i s one (overload_guessed e (times_at rows) (with_candidate rows i) s (guessed_back (times_at rows) e same) over)

pub itself : (rows : List Row) (i : ℕ) → with_candidate rows i i ≡ true
itself rows i = first (nat_eq i i) (is_present rows i) (self_eq i)
  where
    self_eq : (j : ℕ) → nat_eq j j ≡ true
    self_eq j = grind (arith, nat_tests)

    first : (a b : Bool) → a ≡ true → (a || b) ≡ true
    first true b is = refl
    first false b is = cc

pub found_edge : FoundEdge
found_edge rows i e valid none found look =
    let law = edge_law e (with_candidate rows i) i (length rows) (sized (times_at rows) e look.same valid) (with_below rows i found.0) (none_under rows i e none found.0 look.same) (itself rows i) in
    law.1 (found.1, found.2, found.3, edge_guessed (times_at rows) e (is_present rows) i found.1 found.2 found.3 look.same look.start found.4)

pub found_detect : FoundDetect
found_detect rows i e z valid one late look =
    let law = detect_law e (with_candidate rows i) i (length rows) (sized (times_at rows) e look.same valid) (with_below rows i one) (itself rows i) in
    law.1 (z, late_guessed (times_at rows) e (is_present rows) i (row_at rows i).reach (row_at rows i).bar z look.same look.others look.reach look.bar late.ect late.late)

-- the rows with the latest starts of the look
abbrev started : List Row → (ℕ → Times) → ℕ → Times
started rows e y = record (times_at rows y) { lst = lst_at e y }

pub quiet_edges : QuietEdges
quiet_edges rows i e s u v valid none pass one look row =
    let d = started rows e in
    let alike : IsGuessed d e = record { est = look.same.est; lct = look.same.lct; size = look.same.size } in
    let law = edge_law e (with_candidate rows i) i (length rows) (sized (times_at rows) e look.same valid) (with_below rows i one) (none_under rows i e none one look.same) (itself rows i) in
    let cut = law.0 (s, u, v, row) in
    let found = guessed_edge d e (is_present rows) i cut.0 cut.1 cut.2 alike refl cut.3 in
    pass i cut.0 cut.1 cut.2 one (record {
      member = found.member;
      early = found.early;
      with_i = ect_alike d (times_at rows) _ _ cut.1 (λ y. refl) (λ y. refl) (λ y. refl) found.with_i;
      cut = ect_alike d (times_at rows) _ _ cut.2 (λ y. refl) (λ y. refl) (λ y. refl) found.cut;
      full = found.full;
      late = omega (arith, ints, found.late, look.start);
    })

pub quiet_detects : QuietDetects
quiet_detects rows i e s valid pass one look row =
    let d = times_at rows in
    let law = detect_law e (with_candidate rows i) i (length rows) (sized d e look.same valid) (with_below rows i one) (itself rows i) in
    let late = law.0 (s, row) in
    let h = guessed_late d e (is_present rows) i (ect_at e i) (lst_at e i) late.0 look.same look.others refl refl late.1 in
    let set = h.0.reached in
    let wider : (y : ℕ) → has (set.0 ∷ set.1) y ≡ true → before_key rows i y ≡ true = λ y here.
    let p = three_true (is_present rows y) (not (nat_eq y i)) (int_lt (lst_at d y) (ect_at e i)) (set.2.inside y here) in
    all_three (is_present rows y) (not (nat_eq y i)) _ p.0 p.1 (lt_true (lst_at d y) (row_at rows i).reach (omega (arith, ints, lt_holds (lst_at d y) (ect_at e i) p.2, look.reach))) in
    let below : IsBelow (before_key rows i) (length rows) = λ y on. present_below rows y (three_true (is_present rows y) (not (nat_eq y i)) (int_lt (lst_at d y) (row_at rows i).reach) on).0 in
    let ect = ect_exists d (before_key rows i) (length rows) set.0 valid below (wider set.0 (has_first set.0 set.1)) in
    let is = set.3 in
    pass i ect.0 one (record { ect = ect.1; late = omega (arith, ints, h.1, look.bar, is, ect.1.greatest set.0 set.1 (record { rises = set.2.rises; inside = wider })) })
