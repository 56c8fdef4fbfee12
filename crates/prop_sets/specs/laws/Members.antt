-- The members of a sequence in any order are the same tasks.
use Rattle.std.specs.Prelude.{◌≡◌, ℕ, ◌<◌, true, ◌&&◌, List, [], ◌∷◌, length, map}
use Rattle.std.proofs.Common.{sym, ap, subst, ◌∙◌, arith, zero, suc}
use Rattle.std.proofs.lemmas.Bool.{or_left, or_right}
use Rattle.base_laws.specs.laws.Truth.{same_truth}
use Rattle.sched_base.specs.declared.ids.Itv.{Itv}
use Rattle.sched_base.specs.declared.ids.Seq.{Seq}
use Rattle.sched_model.specs.Data.{Data, has, members_of}
use Rattle.sched_model.specs.Valid.{IsValid}
use Rattle.region.specs.Cells.{Region, is_there}
use Rattle.region.specs.laws.OneSequence.{same_self, place_within, member_at as at_place_of}
use Rattle.region.specs.Orders.{place_of}
use Rattle.task_sets.specs.Times.{Times, is_set, is_task_set, is_overload, is_edge, is_detected, overload_row, edge_row, detect_row, has as holds}
use Rattle.refute_seq.specs.Sets.{is_task}
use Rattle.refute_seq.specs.laws.SetsAlike.{set_same, front_same}
use Rattle.prop_sets.specs.code.Rows.{member_at}
use Rattle.prop_sets.specs.code.Reordered.{IsReordered}
use Rattle.prop_sets.specs.laws.Placed.{has_task}
use Rattle.prop_sets.specs.laws.Distinct.{apart, itv_at}

-- the member at a place is one of the list
pub has_at : (xs : List Itv) (k : ℕ) → k < length xs → has xs (member_at xs k) ≡ true
has_at [] k h = absurd (omega (arith, h))
has_at (x ∷ xs) zero h = or_left _ _ (same_self x)
has_at (x ∷ xs) (suc k) h = or_right _ _ (has_at xs k (omega (arith, h)))

pub has_same : (xs ys : List Itv) → IsReordered xs ys → (x : Itv) → has ys x ≡ has xs x
has_same xs ys h x = same_truth (has ys x) (has xs x) forth back
  where
    forth : has ys x ≡ true → has xs x ≡ true
    forth here =
        let k = place_of ys x in
        let low = place_within ys x here in
        subst (λ y. has xs y ≡ true) (sym (h.at k (record { 0 = 0 }) low) ∙ at_place_of ys x (record { 0 = 0 }) here) (has_at xs (h.to k) (h.low k low))

    back : has xs x ≡ true → has ys x ≡ true
    back here =
        let j = place_of xs x in
        let low = place_within xs x here in
        let k = h.back j in
        subst (λ y. has ys y ≡ true) (h.at k (record { 0 = 0 }) (h.there j low) ∙ ap (member_at xs) (h.found j low) ∙ at_place_of xs x (record { 0 = 0 }) here) (has_at ys k (h.there j low))

-- they stand at one place each
pub those_apart : (m : Data) (p : Seq) (xs : List Itv) → IsValid m → IsReordered (members_of m p) xs → (j k : ℕ) → j < length xs → k < length xs → member_at xs j ≡ member_at xs k → j ≡ k
those_apart m p xs valid h j k a b e =
    sym (h.same j a) ∙ ap h.back (apart m p valid (h.to j) (h.to k) (h.low j a) (h.low k b) (sym (h.at j (record { 0 = 0 }) a) ∙ e ∙ h.at k (record { 0 = 0 }) b)) ∙ h.same k b

-- and are intervals of the model
pub those_low : (m : Data) (p : Seq) (xs : List Itv) → IsValid m → IsReordered (members_of m p) xs → (k : ℕ) → k < length xs → (member_at xs k).0 < length m.intervals
those_low m p xs valid h k a = subst (λ (x : Itv). x.0 < length m.intervals) (sym (h.at k (record { 0 = 0 }) a)) (itv_at m p (h.to k) valid (h.low k a))

-- rows over them are those over the members
tasks_same : (m : Data) (p : Seq) (q : Region) (xs : List Itv) → IsReordered (members_of m p) xs → (n : ℕ) → has_task xs q n ≡ is_task m q p n
tasks_same m p q xs h n = ap (λ b. b && is_there q (record { 0 = n })) (has_same (members_of m p) xs h (record { 0 = n }))

pub overload_those : (m : Data) (p : Seq) (q : Region) (xs : List Itv) (d : ℕ → Times) (s : List ℕ) → IsReordered (members_of m p) xs → overload_row d (has_task xs q) s ≡ overload_row d (is_task m q p) s
overload_those m p q xs d s h = ap (λ b. b && is_overload (map d s)) (set_same (has_task xs q) (is_task m q p) s (tasks_same m p q xs h))

pub edge_those : (m : Data) (p : Seq) (q : Region) (xs : List Itv) (d : ℕ → Times) (i : ℕ) (s u v : List ℕ) → IsReordered (members_of m p) xs → edge_row d (has_task xs q) i s u v ≡ edge_row d (is_task m q p) i s u v
edge_those m p q xs d i s u v h = ap (λ b. b && is_set (holds s) u && is_task_set (holds s) v && is_edge (d i) (map d s) (map d u) (map d v)) (front_same (has_task xs q) (is_task m q p) i s (tasks_same m p q xs h))

pub detect_those : (m : Data) (p : Seq) (q : Region) (xs : List Itv) (d : ℕ → Times) (i : ℕ) (s : List ℕ) → IsReordered (members_of m p) xs → detect_row d (has_task xs q) i s ≡ detect_row d (is_task m q p) i s
detect_those m p q xs d i s h = ap (λ b. b && is_detected (d i) (map d s)) (front_same (has_task xs q) (is_task m q p) i s (tasks_same m p q xs h))
