-- A model with more in it, and what stays as it is there.
use Rattle.std.proofs.Common.{◌≡◌, ℕ, ℤ, true, ◌&&◌, List, [], ◌∷◌, length, slice_get, get_or, Option, Some, None, is_some, unwrap_or, nat_lt, refl, sym, ap, ◌∙◌}
use Rattle.std.specs.List.{list_all}
use Rattle.std.proofs.lemmas.Option.{unwrap_or-slice_get}
use Rattle.std.proofs.lemmas.Bool.{and_parts, and_from}
use Rattle.base_laws.specs.laws.Truth.{three_true, all_three}
use Rattle.base_laws.specs.laws.Items.{all_weaker}
use Rattle.base_laws.specs.laws.Places.{same_item, within}
use Rattle.sched_base.specs.declared.ids.Itv.{Itv}
use Rattle.sched_base.specs.declared.ids.Seq.{Seq}
use Rattle.sched_base.specs.declared.ids.Cum.{Cum}
use Rattle.sched_base.specs.declared.ids.Stf.{Stf}
use Rattle.sched_base.specs.declared.ids.Mat.{Mat}
use Rattle.sched_model.specs.declared.types.IntervalDef.{IntervalDef}
use Rattle.sched_model.specs.declared.types.SequenceDef.{SequenceDef}
use Rattle.sched_model.specs.declared.types.MatrixDef.{MatrixDef}
use Rattle.sched_model.specs.declared.types.CumulDef.{CumulDef}
use Rattle.sched_model.specs.declared.types.StateDef.{StateDef}
use Rattle.sched_model.specs.declared.types.Shape.{Shape}
use Rattle.sched_model.specs.declared.types.Shape.TheVariants.{Pulse, Step, PulseOf, StepAtStart, StepAtEnd}
use Rattle.sched_model.specs.declared.types.Window.{Window}
use Rattle.sched_model.specs.declared.types.Window.TheVariants.{Always, Moments, During}
use Rattle.sched_model.specs.Words.{passes_if_any}
use Rattle.sched_model.specs.Data.{Data, has, members_of, sequence_of, state_matrix, matrix_of, with_interval, with_matrix, with_sequence, with_cumul, with_state}
use Rattle.sched_model.specs.Valid.{is_amount, is_itv, is_mat, is_seq, is_member, are_parts, are_distinct, is_shape, is_window, is_sequence_def, is_cumul_def, is_state_def}

-- what has an id in m has it in n
pub record Extends (m n : Data) : Type 0 where
  pub itv : (i : ℕ) → nat_lt i (length m.intervals) ≡ true → slice_get n.intervals i ≡ slice_get m.intervals i
  pub mat : (i : ℕ) → nat_lt i (length m.matrices) ≡ true → slice_get n.matrices i ≡ slice_get m.matrices i
  pub seq : (i : ℕ) → nat_lt i (length m.sequences) ≡ true → slice_get n.sequences i ≡ slice_get m.sequences i
  pub cum : (i : ℕ) → nat_lt i (length m.cumuls) ≡ true → slice_get n.cumuls i ≡ slice_get m.cumuls i
  pub stf : (i : ℕ) → nat_lt i (length m.states) ≡ true → slice_get n.states i ≡ slice_get m.states i

pub extends_itself : (m : Data) → Extends m m
extends_itself m = record { itv = λ i h. refl; mat = λ i h. refl; seq = λ i h. refl; cum = λ i h. refl; stf = λ i h. refl }

pub extends_interval : (d : IntervalDef) (m : Data) → Extends m (with_interval d m)
extends_interval d m = record { itv = same_item m.intervals (d ∷ []); mat = λ i h. refl; seq = λ i h. refl; cum = λ i h. refl; stf = λ i h. refl }

pub extends_matrix : (d : MatrixDef) (m : Data) → Extends m (with_matrix d m)
extends_matrix d m = record { itv = λ i h. refl; mat = same_item m.matrices (d ∷ []); seq = λ i h. refl; cum = λ i h. refl; stf = λ i h. refl }

pub extends_sequence : (d : SequenceDef) (m : Data) → Extends m (with_sequence d m)
extends_sequence d m = record { itv = λ i h. refl; mat = λ i h. refl; seq = same_item m.sequences (d ∷ []); cum = λ i h. refl; stf = λ i h. refl }

pub extends_cumul : (d : CumulDef) (m : Data) → Extends m (with_cumul d m)
extends_cumul d m = record { itv = λ i h. refl; mat = λ i h. refl; seq = λ i h. refl; cum = same_item m.cumuls (d ∷ []); stf = λ i h. refl }

pub extends_state : (d : StateDef) (m : Data) → Extends m (with_state d m)
extends_state d m = record { itv = λ i h. refl; mat = λ i h. refl; seq = λ i h. refl; cum = λ i h. refl; stf = same_item m.states (d ∷ []) }

there_still : {X : Type 0} (xs ys : List X) (i : ℕ) → slice_get ys i ≡ slice_get xs i → nat_lt i (length xs) ≡ true → nat_lt i (length ys) ≡ true
there_still xs ys i same there = within ys i ∙ ap is_some same ∙ sym (within xs i) ∙ there

same_slot : {X : Type 0} (xs ys : List X) (i : ℕ) (d : X) → slice_get ys i ≡ slice_get xs i → get_or ys i d ≡ get_or xs i d
same_slot xs ys i d same = sym (unwrap_or-slice_get ys i d) ∙ ap (λ o. unwrap_or o d) same ∙ unwrap_or-slice_get xs i d

-- ids

pub itv_grows : (m n : Data) → Extends m n → (x : Itv) → is_itv m x ≡ true → is_itv n x ≡ true
itv_grows m n more x there = there_still m.intervals n.intervals x.0 (more.itv x.0 there) there

pub mat_grows : (m n : Data) → Extends m n → (x : Mat) → is_mat m x ≡ true → is_mat n x ≡ true
mat_grows m n more x there = there_still m.matrices n.matrices x.0 (more.mat x.0 there) there

pub seq_grows : (m n : Data) → Extends m n → (p : Seq) → is_seq m p ≡ true → is_seq n p ≡ true
seq_grows m n more p there = there_still m.sequences n.sequences p.0 (more.seq p.0 there) there

pub cum_grows : (m n : Data) → Extends m n → (f : Cum) → nat_lt f.0 (length m.cumuls) ≡ true → nat_lt f.0 (length n.cumuls) ≡ true
cum_grows m n more f there = there_still m.cumuls n.cumuls f.0 (more.cum f.0 there) there

pub stf_grows : (m n : Data) → Extends m n → (g : Stf) → nat_lt g.0 (length m.states) ≡ true → nat_lt g.0 (length n.states) ≡ true
stf_grows m n more g there = there_still m.states n.states g.0 (more.stf g.0 there) there

-- what an id stands for

pub same_sequence : (m n : Data) → Extends m n → (p : Seq) → is_seq m p ≡ true → sequence_of n p ≡ sequence_of m p
same_sequence m n more p there = same_slot m.sequences n.sequences p.0 (record { name = None; members = []; types = None }) (more.seq p.0 there)

pub same_state : (m n : Data) → Extends m n → (g : Stf) → nat_lt g.0 (length m.states) ≡ true → state_matrix n g ≡ state_matrix m g
same_state m n more g there = ap (λ d. d.matrix) (same_slot m.states n.states g.0 (record { name = []; matrix = None }) (more.stf g.0 there))

pub same_matrix : (m n : Data) → Extends m n → (o : Option Mat) → passes_if_any (is_mat m) o ≡ true → matrix_of n o ≡ matrix_of m o
same_matrix m n more None there = refl
same_matrix m n more (Some x) there = more.mat x.0 there

pub member_grows : (m n : Data) → Extends m n → (p : Seq) (x : Itv) → is_member m p x ≡ true → is_member n p x ≡ true
member_grows m n more p x h =
    let parts = and_parts (is_seq m p) (has (members_of m p) x) h in
    and_from (is_seq n p) (has (members_of n p) x) (seq_grows m n more p parts.0) (ap (λ d. has d.members x) (same_sequence m n more p parts.0) ∙ parts.1)

-- what is well made stays so

pub parts_grow : (m n : Data) → Extends m n → (xs : List Itv) → are_parts m xs ≡ true → are_parts n xs ≡ true
parts_grow m n more xs h =
    let parts = and_parts (list_all (is_itv m) xs) (are_distinct xs) h in
    and_from _ _ (all_weaker (is_itv m) (is_itv n) (itv_grows m n more) xs parts.0) parts.1

pub sequence_def_grows : (m n : Data) → Extends m n → (d : SequenceDef) → is_sequence_def m d ≡ true → is_sequence_def n d ≡ true
sequence_def_grows m n more d h =
    let parts = three_true (are_parts m d.members) _ _ h in
    all_three (are_parts n d.members) _ _ (parts_grow m n more d.members parts.0) parts.1 parts.2

held_grows : (m n : Data) → Extends m n → (x : Itv) (h : ℤ) → (is_itv m x && is_amount h) ≡ true → (is_itv n x && is_amount h) ≡ true
held_grows m n more x h it = let parts = and_parts (is_itv m x) (is_amount h) it in and_from (is_itv n x) (is_amount h) (itv_grows m n more x parts.0) parts.1

pub shape_grows : (m n : Data) → Extends m n → (s : Shape) → is_shape m s ≡ true → is_shape n s ≡ true
shape_grows m n more (Pulse u v h) it = it
shape_grows m n more (Step u h) it = it
shape_grows m n more (PulseOf x h) it = held_grows m n more x h it
shape_grows m n more (StepAtStart x h) it = held_grows m n more x h it
shape_grows m n more (StepAtEnd x h) it = held_grows m n more x h it

pub cumul_def_grows : (m n : Data) → Extends m n → (f : CumulDef) → is_cumul_def m f ≡ true → is_cumul_def n f ≡ true
cumul_def_grows m n more f h = all_weaker (λ i. is_shape m i.shape) (λ i. is_shape n i.shape) (λ i. shape_grows m n more i.shape) f.parts h

pub state_def_grows : (m n : Data) → Extends m n → (g : StateDef) → is_state_def m g ≡ true → is_state_def n g ≡ true
state_def_grows m n more g h = of g.matrix h where
  of : (o : Option Mat) → passes_if_any (is_mat m) o ≡ true → passes_if_any (is_mat n) o ≡ true
  of None h = refl
  of (Some x) h = mat_grows m n more x h

pub window_grows : (m n : Data) → Extends m n → (w : Window) → is_window m w ≡ true → is_window n w ≡ true
window_grows m n more Always h = refl
window_grows m n more (Moments u v) h = h
window_grows m n more (During x) h = itv_grows m n more x h
