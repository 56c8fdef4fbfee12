-- Collecting what constraints give.
use Rattle.std.proofs.Common.{◌≡◌, ℕ, ◌+◌, ◌<◌, List, [], ◌∷◌, ◌++◌, length, drop, get_or, refl, sym, ap, ◌∙◌, Option, Some, None, append_assoc, ℤ}
use Rattle.std.specs.List.{filter_map, cons_option, range_with_len}
use Rattle.std.specs.Prelude.{Bool, true, false, ◌&&◌, ◌≤◌, nat_le, map}
use Rattle.std.proofs.Common.{arith}
use Rattle.std.proofs.lemmas.Bool.Decides.{nat_tests}
use Rattle.std.proofs.lemmas.List.FromFn.{map-range_with_len_more}
use Rattle.sched_model.specs.declared.types.Segment.{Segment}
use Rattle.sched_model.specs.Data.{Data}
use Rattle.sched_model.specs.Valid.{IsValid, cell_count, node_total}
use Rattle.std.proofs.lemmas.List.{at_drop_more}
use Rattle.sched_base.specs.declared.ids.Stf.{Stf}
use Rattle.sched_model.specs.declared.types.Slot.{Slot}
use Rattle.sched_model.specs.declared.types.Constraint.{Constraint}
use Rattle.refute_state.specs.declared.stretch.Stretch.{Stretch}
use Rattle.refute_state.specs.code.Canonical.{stretch_of, empty_of}

none_step : {X Y : Type 0} (h : X → Option Y) (cs : List X) (k : ℕ) (d : X) (ys whole : List Y) → ys ++ filter_map h (drop k cs) ≡ whole → k < length cs → None ≡ h (get_or cs k d) → ys ++ filter_map h (drop (k + 1) cs) ≡ whole
none_step h cs k d ys whole before within is =
    ap (λ o. ys ++ cons_option o (filter_map h (drop (k + 1) cs))) is
    ∙ sym (at_drop_more (λ xs. ys ++ filter_map h xs) cs k d within)
    ∙ before

some_step : {X Y : Type 0} (h : X → Option Y) (cs : List X) (k : ℕ) (d : X) (y : Y) (ys zs whole : List Y) → ys ++ filter_map h (drop k cs) ≡ whole → k < length cs → Some y ≡ h (get_or cs k d) → zs ≡ ys ++ y ∷ [] → zs ++ filter_map h (drop (k + 1) cs) ≡ whole
some_step h cs k d y ys zs whole before within is made =
    ap (λ xs. xs ++ filter_map h (drop (k + 1) cs)) made
    ∙ append_assoc ys (y ∷ []) (filter_map h (drop (k + 1) cs))
    ∙ ap (λ o. ys ++ cons_option o (filter_map h (drop (k + 1) cs))) is
    ∙ sym (at_drop_more (λ xs. ys ++ filter_map h xs) cs k d within)
    ∙ before

pub demand_none : (ss : List Slot) (g : Stf) (cs : List Constraint) (k : ℕ) (d : Constraint) (ys whole : List Stretch) → ys ++ filter_map (stretch_of ss g) (drop k cs) ≡ whole → k < length cs → None ≡ stretch_of ss g (get_or cs k d) → ys ++ filter_map (stretch_of ss g) (drop (k + 1) cs) ≡ whole
demand_none ss g = none_step (stretch_of ss g)

pub demand_step : (ss : List Slot) (g : Stf) (cs : List Constraint) (k : ℕ) (d : Constraint) (y : Stretch) (ys zs whole : List Stretch) → ys ++ filter_map (stretch_of ss g) (drop k cs) ≡ whole → k < length cs → Some y ≡ stretch_of ss g (get_or cs k d) → zs ≡ ys ++ y ∷ [] → zs ++ filter_map (stretch_of ss g) (drop (k + 1) cs) ≡ whole
demand_step ss g = some_step (stretch_of ss g)

pub gap_none : (ss : List Slot) (g : Stf) (cs : List Constraint) (k : ℕ) (d : Constraint) (ys whole : List (ℤ × ℤ)) → ys ++ filter_map (empty_of ss g) (drop k cs) ≡ whole → k < length cs → None ≡ empty_of ss g (get_or cs k d) → ys ++ filter_map (empty_of ss g) (drop (k + 1) cs) ≡ whole
gap_none ss g = none_step (empty_of ss g)

pub gap_step : (ss : List Slot) (g : Stf) (cs : List Constraint) (k : ℕ) (d : Constraint) (y : ℤ × ℤ) (ys zs whole : List (ℤ × ℤ)) → ys ++ filter_map (empty_of ss g) (drop k cs) ≡ whole → k < length cs → Some y ≡ empty_of ss g (get_or cs k d) → zs ≡ ys ++ y ∷ [] → zs ++ filter_map (empty_of ss g) (drop (k + 1) cs) ≡ whole
gap_step ss g = some_step (empty_of ss g)

-- a function more
pub function_step : (f : ℕ → List Segment) (n : ℕ) (xs zs : List (List Segment)) (y : List Segment) → xs ≡ map f (range_with_len 0 n) → zs ≡ xs ++ y ∷ [] → y ≡ f n → zs ≡ map f (range_with_len 0 (n + 1))
function_step f n xs zs y before made is = made ∙ ap (λ ys. ys ++ y ∷ []) before ∙ ap (λ z. map f (range_with_len 0 n) ++ z ∷ []) is ∙ sym (map-range_with_len_more f 0 n n (omega arith))

fifth : (a b c d e f g h : Bool) → (a && b && c && d && e && f && g && h) ≡ true → e ≡ true
fifth true true true true true f g h p = refl
fifth true true true true false f g h p = cc
fifth false b c d e f g h p = cc
fifth true false c d e f g h p = cc
fifth true true false d e f g h p = cc
fifth true true true false e f g h p = cc

pub few_states : (m : Data) → IsValid m → length m.states ≤ 200
few_states m valid = below (length m.states) (fifth (nat_le (length m.intervals) 2000) (nat_le (length m.sequences) 200) (nat_le (length m.matrices) 200) (nat_le (length m.cumuls) 2000) (nat_le (length m.states) 200) (nat_le (length m.constraints) 20000) (nat_le (cell_count m) 1000000) (nat_le (node_total m) 100000) valid.limits)
  where
    below : (n : ℕ) → nat_le n 200 ≡ true → n ≤ 200
    below n h = grind (arith, nat_tests, h)
