-- Tasks and groups, one after the other.
use Rattle.std.specs.Prelude.{◌≡◌, ℕ, ◌+◌, ◌<◌, ◌≤◌, Bool, true, false, ◌||◌, List, [], ◌∷◌, ◌++◌, length, Some, slice_get}
use Rattle.std.specs.List.{filter, flat_map}
use Rattle.std.proofs.Common.{refl, sym, ap, subst, ◌∙◌, arith, drop, get_or, inl, inr}
use Rattle.std.proofs.Math.ListN.{get_or-append}
use Rattle.std.proofs.lemmas.List.{get_or_default, at_drop_more, at_drop_all, length-append}
use Rattle.base_laws.specs.laws.Numbers.{below_or_last}
use Rattle.base_laws.specs.laws.Places.{newest, there}
use Rattle.sched_base.specs.declared.ids.Itv.{Itv}
use Rattle.sched_model.specs.declared.types.Part.{Part}
use Rattle.sched_model.specs.declared.types.Window.{Window}
use Rattle.sched_model.specs.declared.types.Constraint.{Constraint}
use Rattle.sched_model.specs.Data.{Data, same, has}
use Rattle.region.specs.laws.OneSequence.{same_is}
use Rattle.refute_cumul.specs.Listed.{shape_names, window_names, names_in}
use Rattle.prop_cumul.specs.declared.task.Task.{Task}
use Rattle.prop_cumul.specs.code.Tables.{is_of, AreGroups, IsTaskOf, AreTasks, no_task}

-- names
has_append : (xs ys : List Itv) (y : Itv) → has (xs ++ ys) y ≡ (has xs y || has ys y)
has_append [] ys y = refl
has_append (x ∷ xs) ys y = ap (λ b. same y x || b) (has_append xs ys y) ∙ regrouped (same y x) (has xs y) (has ys y)
  where
    regrouped : (p q r : Bool) → (p || (q || r)) ≡ ((p || q) || r)
    regrouped true q r = refl
    regrouped false q r = refl

pub there_already : (xs : List Itv) (x : Itv) → has xs x ≡ true → (y : Itv) → has xs y ≡ (has xs y || same y x)
there_already xs x h y = by_case (same y x) refl
  where
    more : (p : Bool) → p ≡ true → p ≡ (p || true)
    more true h = refl
    more false h = cc

    last : (p : Bool) → p ≡ (p || false)
    last true = refl
    last false = refl

    by_case : (b : Bool) → same y x ≡ b → has xs y ≡ (has xs y || b)
    by_case true e = more (has xs y) (subst (λ z. has xs z ≡ true) (sym (same_is y x e)) h)
    by_case false e = last (has xs y)

pub put_there : (xs ys : List Itv) (x : Itv) → ys ≡ xs ++ x ∷ [] → (y : Itv) → has ys y ≡ (has xs y || same y x)
put_there xs ys x is y = ap (λ zs. has zs y) is ∙ has_append xs (x ∷ []) y ∙ ap (λ b. has xs y || b) (last (same y x))
  where
    last : (p : Bool) → (p || false) ≡ p
    last true = refl
    last false = refl

pub names_first : (is : List Part) (w : Window) (xs : List Itv) → xs ≡ window_names w → (y : Itv) → (has xs y || has (flat_map (λ i. shape_names i.shape) is) y) ≡ has (names_in is w) y
names_first is w xs same y = ap (λ zs. has zs y || has (flat_map (λ i. shape_names i.shape) is) y) same ∙ sym (has_append (window_names w) (flat_map (λ i. shape_names i.shape) is) y)

pub names_more : (is : List Part) (k : ℕ) (d : Part) (xs ys : List Itv) (whole : Itv → Bool) → k < length is → ((y : Itv) → (has xs y || has (flat_map (λ i. shape_names i.shape) (drop k is)) y) ≡ whole y) → ((y : Itv) → has ys y ≡ (has xs y || has (shape_names (get_or is k d).shape) y))
    → (y : Itv) → (has ys y || has (flat_map (λ i. shape_names i.shape) (drop (k + 1) is)) y) ≡ whole y
names_more is k d xs ys whole within before more y =
    let rest = flat_map (λ i. shape_names i.shape) (drop (k + 1) is) in
    ap (λ b. b || has rest y) (more y)
    ∙ regrouped (has xs y) (has (shape_names (get_or is k d).shape) y) (has rest y)
    ∙ ap (λ b. has xs y || b) (sym (has_append (shape_names (get_or is k d).shape) rest y) ∙ sym (at_drop_more (λ js. has (flat_map (λ i. shape_names i.shape) js) y) is k d within))
    ∙ before y
  where
    regrouped : (p q r : Bool) → ((p || q) || r) ≡ (p || (q || r))
    regrouped true q r = refl
    regrouped false q r = refl

pub names_last : (is : List Part) (k : ℕ) (xs : List Itv) (whole : Itv → Bool) → length is ≤ k → ((y : Itv) → (has xs y || has (flat_map (λ i. shape_names i.shape) (drop k is)) y) ≡ whole y) → (y : Itv) → has xs y ≡ whole y
names_last is k xs whole past before y = last (has xs y) ∙ sym (at_drop_all (λ js. has xs y || has (flat_map (λ i. shape_names i.shape) js) y) is k past) ∙ before y
  where
    last : (p : Bool) → p ≡ (p || false)
    last true = refl
    last false = refl

-- groups
pub record FirstGroups (xs : List Itv) (is : List Part) (n : ℕ) (groups : List (List Part)) : Type 0 where
  pub size : length groups ≡ n
  pub each : (i : ℕ) (x : Itv) (d : List Part) → i < n → get_or groups i d ≡ filter (is_of (get_or xs i x)) is

pub no_groups : (xs : List Itv) (is : List Part) → FirstGroups xs is 0 []
no_groups xs is = record { size = refl; each = λ i x d h. absurd (omega (arith, h)) }

pub one_group : (xs : List Itv) (is : List Part) (n : ℕ) (gs : List (List Part)) (g : List Part) (e : Itv) → FirstGroups xs is n gs → n < length xs → g ≡ filter (is_of (get_or xs n e)) is → FirstGroups xs is (n + 1) (gs ++ g ∷ [])
one_group xs is n gs g e before within at = record {
  size = length-append gs (g ∷ []) ∙ ap (λ k. k + 1) before.size;
  each = λ i x d h. elim (below_or_last i n h) [
    | inl old ↦ get_or-append gs (g ∷ []) d i (let s = before.size in omega (arith, old, s)) ∙ before.each i x d old
    | inr last ↦ newest i gs g d (last ∙ sym before.size) ∙ at ∙ ap (λ y. filter (is_of y) is) (get_or_default xs n e x within ∙ ap (λ k. get_or xs k x) (sym last))
  ];
}

pub all_groups : (xs : List Itv) (is : List Part) (n : ℕ) (gs : List (List Part)) → FirstGroups xs is n gs → n ≤ length xs → length xs ≤ n → AreGroups xs is gs
all_groups xs is n gs first le ge = record { size = (let s = first.size in omega (arith, s, le, ge)); each = λ i x d h. first.each i x d (omega (arith, h, ge)) }

-- tasks
pub record FirstTasks (m : Data) (cs : List Constraint) (n : ℕ) (tasks : List Task) : Type 0 where
  pub size : length tasks ≡ n
  pub each : (k : ℕ) → k < n → IsTaskOf m (slice_get cs k) (get_or tasks k no_task)

pub no_tasks : (m : Data) (cs : List Constraint) → FirstTasks m cs 0 []
no_tasks m cs = record { size = refl; each = λ k h. absurd (omega (arith, h)) }

pub one_task : (m : Data) (cs : List Constraint) (n : ℕ) (ts : List Task) (t : Task) (d : Constraint) → FirstTasks m cs n ts → n < length cs → d ≡ get_or cs n d → IsTaskOf m (Some d) t → FirstTasks m cs (n + 1) (ts ++ t ∷ [])
one_task m cs n ts t d before within at is = record {
  size = length-append ts (t ∷ []) ∙ ap (λ k. k + 1) before.size;
  each = λ k h. elim (below_or_last k n h) [
    | inl old ↦ subst (IsTaskOf m (slice_get cs k)) (sym (get_or-append ts (t ∷ []) no_task k (let s = before.size in omega (arith, old, s)))) (before.each k old)
    | inr last ↦ subst (IsTaskOf m (slice_get cs k)) (sym (newest k ts t no_task (last ∙ sym before.size)))
        (subst (λ o. IsTaskOf m o t) (sym (ap (slice_get cs) last ∙ there cs n d d within at)) is)
  ];
}

pub all_tasks : (m : Data) (cs : List Constraint) (n : ℕ) (ts : List Task) → FirstTasks m cs n ts → n ≤ length cs → length cs ≤ n → AreTasks m cs ts
all_tasks m cs n ts first le ge = record { size = (let s = first.size in omega (arith, s, le, ge)); each = λ k h. first.each k (omega (arith, h, ge)) }
