-- The tree of rows, and the colours that a pass starts from.
use Rattle.std.specs.Prelude.{◌≡◌, ◌≢◌, ℕ, zero, suc, ◌+◌, ◌<◌, ◌≤◌, true, false, not, List, [], ◌∷◌, ◌++◌, length, map, replicate, slice_index_or, refl}
use Rattle.std.proofs.Common.{arith, sym, subst, inl, inr, ap, ◌∙◌, drop}
use Rattle.std.proofs.lemmas.Int.{ints}
use Rattle.std.proofs.lemmas.Bool.{cases_eq, cases_lt}
use Rattle.std.proofs.lemmas.List.{at_drop_more, at_drop_all, append-nil, append_assoc}
use Rattle.sched_base.specs.declared.ids.TheConstants.{H}
use Rattle.thetatree.specs.declared.leaves.Task.{Task}
use Rattle.thetatree.specs.declared.leaves.Colour.{Colour}
use Rattle.thetatree.specs.declared.leaves.Colour.TheVariants.{Out, White, Gray}
use Rattle.thetatree.specs.code.Leaves.{Leaves, task_in, colour_at, IsSmallTask, AreTasks}
use Rattle.theta_passes.specs.declared.rows.Row.{Row}
use Rattle.theta_passes.specs.declared.rows.Presence.{Presence}
use Rattle.theta_passes.specs.declared.rows.Presence.TheVariants as is
use Rattle.theta_passes.specs.code.Rows.{row_at, says_present, says_absent, task_of, colour_by, IsNearRow, IsByEst, IsBounded, Fits}
use Rattle.theta_passes.specs.code.Edge.{IsStart}
use Rattle.theta_passes.specs.code.Over.{IsFull}

-- the tasks

pub one_made : (rows : List Row) (made more : List Task) (n : ℕ) → more ≡ made ++ (task_of (row_at rows n) ∷ []) → (made ++ map task_of (drop n rows)) ≡ map task_of rows → n < length rows
    → (more ++ map task_of (drop (n + 1) rows)) ≡ map task_of rows
one_made rows made more n is before within =
    ap (λ ts. ts ++ map task_of (drop (n + 1) rows)) is ∙ append_assoc made (task_of (row_at rows n) ∷ []) (map task_of (drop (n + 1) rows))
    ∙ sym (at_drop_more (λ rest. made ++ map task_of rest) rows n (row_at [] 0) within) ∙ before

pub all_made : (rows : List Row) (made : List Task) (n : ℕ) → (made ++ map task_of (drop n rows)) ≡ map task_of rows → length rows ≤ n → made ≡ map task_of rows
all_made rows made n before all = sym (append-nil made) ∙ sym (at_drop_all (λ rest. made ++ map task_of rest) rows n all) ∙ before

pub task_is : (rows : List Row) (k : ℕ) → task_in (map task_of rows) k ≡ task_of (row_at rows k)
task_is [] k = refl
task_is (r ∷ rs) zero = refl
task_is (r ∷ rs) (suc k) = task_is rs k

pub same_many : (rows : List Row) → length (map task_of rows) ≡ length rows
same_many [] = refl
same_many (r ∷ rs) = ap suc (same_many rs)

tasks_fit : (rows : List Row) → length rows ≤ 500 → ((k : ℕ) → IsNearRow (row_at rows k)) → IsByEst rows → AreTasks (map task_of rows)
tasks_fit rows few near sorted =
    let many = same_many rows in
    record {
      few = omega (arith, many, few);
      small = λ k within. let h = near k in subst (λ a. IsSmallTask a) (sym (task_is rows k)) (record { est_from = h.est_from; est_to = h.est_to; p_from = h.p_from; p_to = h.p_to });
      in_order = λ j k before within. let one = ap (λ a. a.est) (task_is rows j) in let two = ap (λ a. a.est) (task_is rows k) in let rises = sorted j k before (omega (arith, within, many)) in omega (arith, ints, one, two, rises);
    }

pub are_tasks : (rows : List Row) (ts : List Task) → length rows ≤ 500 → ((k : ℕ) → IsNearRow (row_at rows k)) → IsByEst rows → ts ≡ map task_of rows → AreTasks ts
are_tasks rows ts few near sorted made = subst AreTasks (sym made) (tasks_fit rows few near sorted)

pub tree_fits : (rows : List Row) (ts : List Task) (t : Leaves) → ts ≡ map task_of rows → t ≡ record { tasks = ts; colours = replicate (length ts) Out } → Fits t rows
tree_fits rows ts t made is =
    subst (λ s. Fits s rows) (sym (is ∙ ap (λ us. record { tasks = us; colours = replicate (length us) Out }) made)) (record {
      size = same_many rows;
      room = length_replicate (length (map task_of rows)) ∙ same_many rows;
      each = task_is rows;
    })
  where
    length_replicate : (n : ℕ) → length (replicate n Out) ≡ n
    length_replicate zero = refl
    length_replicate (suc n) = ap suc (length_replicate n)

-- the colours

pub one_painted : (t s : Leaves) (rows : List Row) (present maybe c : Colour) (n : ℕ) → colour_at s n ≡ c → c ≡ colour_by present maybe (row_at rows n).presence → ((j : ℕ) → j ≢ n → colour_at s j ≡ colour_at t j)
    → ((j : ℕ) → j < n → colour_at t j ≡ colour_by present maybe (row_at rows j).presence) → (j : ℕ) → j < n + 1 → colour_at s j ≡ colour_by present maybe (row_at rows j).presence
one_painted t s rows present maybe c n new is others before j below = elim (cases_eq j n) [
  | inl same ↦ subst (λ k. colour_at s k ≡ colour_by present maybe (row_at rows k).presence) (sym same) (new ∙ is)
  | inr other ↦ others j other ∙ before j (omega (arith, below, other))
]

past : {X : Type 0} (xs : List X) (k : ℕ) (d : X) → length xs ≤ k → slice_index_or xs k d ≡ d
past [] k d all = refl
past (x ∷ xs) zero d all = absurd (omega (arith, all))
past (x ∷ xs) (suc k) d all = past xs k d (omega (arith, all))

pub all_painted : (t : Leaves) (rows : List Row) (present maybe : Colour) (n : ℕ) → Fits t rows → length rows ≤ n → ((j : ℕ) → j < n → colour_at t j ≡ colour_by present maybe (row_at rows j).presence)
    → (k : ℕ) → colour_at t k ≡ colour_by present maybe (row_at rows k).presence
all_painted t rows present maybe n fits all before k = elim (cases_lt k n) [
  | inl below ↦ before k below
  | inr above ↦
      let room = fits.room in
      past t.colours k Out (omega (arith, above, all, room)) ∙ sym (ap (λ r. colour_by present maybe r.presence) (past rows k (row_at [] 0) (omega (arith, above, all))))
]

white_by : (p : Presence) (maybe : Colour) → maybe ≢ White → colour_by White maybe p ≡ White → says_present p ≡ true
white_by is.Present maybe other white = refl
white_by is.Maybe maybe other white = absurd (other white)
white_by is.Absent maybe other white = cc

present_by : (p : Presence) (maybe : Colour) → says_present p ≡ true → colour_by White maybe p ≡ White
present_by is.Present maybe on = refl
present_by is.Maybe maybe on = cc
present_by is.Absent maybe on = cc

gray_by : (p : Presence) → colour_by White Gray p ≡ Gray → not (says_absent p) ≡ true
gray_by is.Present gray = cc
gray_by is.Maybe gray = refl
gray_by is.Absent gray = cc

maybe_by : (p : Presence) → says_present p ≡ false → not (says_absent p) ≡ true → colour_by White Gray p ≡ Gray
maybe_by is.Present off one = cc
maybe_by is.Maybe off one = refl
maybe_by is.Absent off one = cc

out_by : (p : Presence) (c : Colour) → colour_by c Out p ≡ Gray → c ≡ Gray
out_by is.Present c gray = gray
out_by is.Maybe c gray = cc
out_by is.Absent c gray = cc

gray_white : Gray ≢ White
gray_white same = cc

out_white : Out ≢ White
out_white same = cc

pub over_started : (t : Leaves) (rows : List Row) → IsBounded rows → ((k : ℕ) → colour_at t k ≡ colour_by White Gray (row_at rows k).presence) → (k : ℕ) → IsFull t rows H k
over_started t rows bounded painted k = record {
  white = λ on low. painted k ∙ present_by (row_at rows k).presence Gray on;
  gray = λ off one low. painted k ∙ maybe_by (row_at rows k).presence off one;
  whites = λ white. (white_by (row_at rows k).presence Gray gray_white (sym (painted k) ∙ white), bounded k);
  grays = λ gray. (gray_by (row_at rows k).presence (sym (painted k) ∙ gray), bounded k);
}

pub edge_started : (t : Leaves) (rows : List Row) → ((k : ℕ) → colour_at t k ≡ colour_by White Out (row_at rows k).presence) → (k : ℕ) → IsStart t rows k
edge_started t rows painted k = record {
  white = λ on. painted k ∙ present_by (row_at rows k).presence Out on;
  whites = λ white. white_by (row_at rows k).presence Out out_white (sym (painted k) ∙ white);
  grays = λ gray. let clash : White ≡ Gray = out_by (row_at rows k).presence White (sym (painted k) ∙ gray) in cc;
}

pub late_started : (t : Leaves) (rows : List Row) → ((k : ℕ) → colour_at t k ≡ colour_by Out Out (row_at rows k).presence) → (k : ℕ) → colour_at t k ≢ White
late_started t rows painted k white = none (row_at rows k).presence (sym (painted k) ∙ white)
  where
    none : (p : Presence) → colour_by Out Out p ≡ White → ⊥
    none is.Present same = cc
    none is.Maybe same = cc
    none is.Absent same = cc
