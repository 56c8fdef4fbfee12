-- The statements of the constraints, one after another, lead from the model of the definitions to the one with all constraints.
use Rattle.std.proofs.Common.{◌≡◌, ℕ, ℤ, Bool, true, false, not, ◌||◌, List, [], ◌∷◌, ◌++◌, map, flat_map, length, slice_get, Option, Some, None, is_some, is_none, nat_lt, nat_le, int_le, refl, sym, ap, subst, ◌∙◌}
use Rattle.std.specs.List.{count_by}
use Rattle.std.proofs.lemmas.List.{append_assoc, append-nil}
use Rattle.std.proofs.lemmas.Bool.{and_parts}
use Rattle.base_laws.specs.laws.Places.{none_if_not}
use Rattle.base_laws.specs.laws.Items.{all_at}
use Rattle.sched_base.specs.declared.ids.Seq.{Seq}
use Rattle.sched_base.specs.declared.ids.Cum.{Cum}
use Rattle.sched_base.specs.declared.ids.Mat.{Mat}
use Rattle.sched_model.specs.declared.types.SequenceDef.{SequenceDef}
use Rattle.sched_model.specs.declared.types.CumulDef.{CumulDef}
use Rattle.sched_model.specs.declared.types.Window.{Window}
use Rattle.sched_model.specs.declared.types.Constraint.{Constraint}
use Rattle.sched_model.specs.declared.types.Constraint.TheVariants as constraint
use Rattle.sched_model.specs.Words.{passes, passes_if_any, is_empty}
use Rattle.sched_model.specs.Data.{Data}
use Rattle.sched_model.specs.Valid.{IsValid, is_constraint, is_sequence_def, is_cumul_def, is_seq, is_small, is_window, fits_types}
use Rattle.cpo_text.specs.declared.tree.Statement.TheVariants.{Constrain}
use Rattle.cpo_elab.specs.NamedFirst.{is_named_sequence, is_named_cumul, parted}
use Rattle.read_back.specs.Trees.{constraint_tree}
use Rattle.read_back.specs.Written.{IsWritten, is_written, is_one_bound, sequences_in, cumuls_in}
use Rattle.read_back.specs.Laws.{ExpressionsReturn, FactorsReturn, ExpressionsNameIntervals}
use Rattle.read_back.proofs.Members.{listing}
use Rattle.read_back.proofs.Items.{item_at, item}
use Rattle.read_back.proofs.Truth.{the_other}
use Rattle.read_back.proofs.judge.Frame.{Leads, lead}
use Rattle.read_back.proofs.judge.Limits.{front_to}
use Rattle.read_back.proofs.judge.Middle.{mid, Middle, named_seq, Leaves}
use Rattle.read_back.proofs.judge.Plain.{Place, temporal_stays, span_stays, alternative_stays, synchronize_stays, logic_stays, equal_stays, none_stays}
use Rattle.read_back.proofs.judge.Orders.{first_stays, last_stays, before_stays, prev_stays}
use Rattle.read_back.proofs.judge.Overlaps.{overlap_named, overlap_listed}
use Rattle.read_back.proofs.judge.Functions.{Level, cumul_named, cumul_unnamed}
use Rattle.read_back.proofs.judge.Left.{named, Left, front_left, none_left, named_there, is_named, same_left, used}
use Rattle.base_laws.specs.laws.Truth.{five_true}

-- what holds of the whole model
pub record Whole (m : Data) : Type 0 where
  pub valid : IsValid m
  pub written : IsWritten m
  pub sequences : parted is_named_sequence m.sequences ≡ m.sequences
  pub cumuls : parted is_named_cumul m.cumuls ≡ m.cumuls

abbrev pub sequences_with : Data → List SequenceDef → List SequenceDef
sequences_with m us = named is_named_sequence m.sequences ++ us

abbrev pub cumuls_with : Data → List CumulDef → List CumulDef
cumuls_with m vs = named is_named_cumul m.cumuls ++ vs

abbrev pub LeftSequences : Data → List Constraint → List SequenceDef → Type 0
LeftSequences m ds us = Left is_named_sequence m.sequences (flat_map sequences_in ds) us

abbrev pub LeftCumuls : Data → List Constraint → List CumulDef → Type 0
LeftCumuls m ds vs = Left is_named_cumul m.cumuls (flat_map cumuls_in ds) vs

abbrev pub so_far : Data → List SequenceDef → List CumulDef → List Constraint → Data
so_far m us vs f = mid m (sequences_with m us) (cumuls_with m vs) f

-- the model after a constraint
record Stepped (m : Data) (us : List SequenceDef) (vs : List CumulDef) (f : List Constraint) (con : Constraint) (ds : List Constraint) : Type 0 where
  sequences : List SequenceDef
  cumuls : List CumulDef
  leaves : Leaves (so_far m us vs f) (constraint_tree m con) (so_far m sequences cumuls (f ++ con ∷ []))
  left_sequences : LeftSequences m ds sequences
  left_cumuls : LeftCumuls m ds cumuls

middle_of : (m : Data) (us : List SequenceDef) (vs : List CumulDef) (ds es : List Constraint) → Whole m → LeftSequences m ds us → LeftCumuls m es vs → Middle m (sequences_with m us) (cumuls_with m vs)
middle_of m us vs ds es w ls lc = record {
  sequences = record { rest = ls.rest; is = front_left is_named_sequence m.sequences us ls.rest w.sequences ls.split };
  cumuls = record { rest = lc.rest; is = front_left is_named_cumul m.cumuls vs lc.rest w.cumuls lc.split };
  named_sequences = λ i d name at is. named_there is_named_sequence m.sequences us w.sequences i d at (ap is_some is);
  named_cumuls = λ i d name at is. named_there is_named_cumul m.cumuls vs w.cumuls i d at (ap is_some is);
}

none_of : {X : Type 0} (o : Option X) → is_none o ≡ true → o ≡ None
none_of None h = refl
none_of (Some x) h = cc

-- members that may not overlap

overlap_below : (m : Data) (w : Whole m) (us : List SequenceDef) (vs : List CumulDef) (f : List Constraint) (p : Seq) (o : Option Mat) (direct : Bool) (ds : List Constraint)
    → Place m (sequences_with m us) (cumuls_with m vs) f (constraint.NoOverlap p o direct) → is_constraint m (constraint.NoOverlap p o direct) ≡ true → is_written m (constraint.NoOverlap p o direct) ≡ true
    → nat_le (count_by is_named_sequence m.sequences) p.0 ≡ false → LeftSequences m (constraint.NoOverlap p o direct ∷ ds) us → LeftCumuls m ds vs → Stepped m us vs f (constraint.NoOverlap p o direct) ds
overlap_below m w us vs f p o direct ds here it flag low ls lc =
    let parts = and_parts (is_seq m p) (passes_if_any (fits_types m p) o) it in
    let d = item_at m.sequences p.0 parts.0 in
    let has_name = is_named is_named_sequence m.sequences w.sequences p.0 d.0 d.1 low in
    let q = named_seq m p (ap (passes is_named_sequence) d.1 ∙ has_name) in
    record {
      sequences = us;
      cumuls = vs;
      leaves = overlap_named m (sequences_with m us) (cumuls_with m vs) f p q o direct here parts.1 flag;
      left_sequences = same_left is_named_sequence m.sequences p.0 (flat_map sequences_in ds) us low ls;
      left_cumuls = lc;
    }

overlap_above : (m : Data) (w : Whole m) (us : List SequenceDef) (vs : List CumulDef) (f : List Constraint) (p : Seq) (o : Option Mat) (direct : Bool) (ds : List Constraint)
    → Place m (sequences_with m us) (cumuls_with m vs) f (constraint.NoOverlap p o direct) → is_constraint m (constraint.NoOverlap p o direct) ≡ true → is_written m (constraint.NoOverlap p o direct) ≡ true
    → nat_le (count_by is_named_sequence m.sequences) p.0 ≡ true → LeftSequences m (constraint.NoOverlap p o direct ∷ ds) us → LeftCumuls m ds vs → Stepped m us vs f (constraint.NoOverlap p o direct) ds
overlap_above m w us vs f p o direct ds here it flag high ls lc =
    let parts = and_parts (is_seq m p) (passes_if_any (fits_types m p) o) it in
    let u = used is_named_sequence m.sequences p.0 (flat_map sequences_in ds) us w.sequences high ls in
    let d = u.def in
    let untyped = none_of d.types (the_other (is_named_sequence d) (is_none d.types) (all_at (λ (d : SequenceDef). is_named_sequence d || is_none d.types) m.sequences p.0 d w.written.untyped u.at) u.fails) in
    let l = listing m d (all_at (is_sequence_def m) m.sequences p.0 d w.valid.sequences u.at) in
    record {
      sequences = us ++ d ∷ [];
      cumuls = vs;
      leaves = subst (λ s. Leaves (so_far m us vs f) (constraint_tree m (constraint.NoOverlap p o direct)) (mid m s (cumuls_with m vs) (f ++ constraint.NoOverlap p o direct ∷ []))) (append_assoc (named is_named_sequence m.sequences) us (d ∷ []))
          (overlap_listed m (sequences_with m us) (cumuls_with m vs) f p d o direct here u.at (none_if_not d.name u.fails) untyped l u.place u.more parts.1 flag);
      left_sequences = u.left;
      left_cumuls = lc;
    }

overlap_by : (m : Data) (w : Whole m) (us : List SequenceDef) (vs : List CumulDef) (f : List Constraint) (p : Seq) (o : Option Mat) (direct : Bool) (ds : List Constraint) (b : Bool)
    → Place m (sequences_with m us) (cumuls_with m vs) f (constraint.NoOverlap p o direct) → is_constraint m (constraint.NoOverlap p o direct) ≡ true → is_written m (constraint.NoOverlap p o direct) ≡ true
    → nat_le (count_by is_named_sequence m.sequences) p.0 ≡ b → LeftSequences m (constraint.NoOverlap p o direct ∷ ds) us → LeftCumuls m ds vs → Stepped m us vs f (constraint.NoOverlap p o direct) ds
overlap_by m w us vs f p o direct ds false here it flag h ls lc = overlap_below m w us vs f p o direct ds here it flag h ls lc
overlap_by m w us vs f p o direct ds true here it flag h ls lc = overlap_above m w us vs f p o direct ds here it flag h ls lc

-- functions

level_of : (m : Data) (k : Cum) (x : Window) (lo hi : ℤ) → is_constraint m (constraint.CumulIn k x lo hi) ≡ true → is_one_bound x lo hi ≡ true → (nat_lt k.0 (length m.cumuls) ≡ true) × Level m x lo hi
level_of m k x lo hi it one =
    let parts = five_true (nat_lt k.0 (length m.cumuls)) (is_window m x) (is_small lo) (is_small hi) (int_le lo hi) it in
    (parts.0, record { there = parts.1; low = parts.2; high = parts.3; order = parts.4; one = one })

named_function : (m : Data) (us : List SequenceDef) (vs : List CumulDef) (f : List Constraint) (k : Cum) (x : Window) (lo hi : ℤ) (d : CumulDef) (o : Option (List ℕ))
    → Place m (sequences_with m us) (cumuls_with m vs) f (constraint.CumulIn k x lo hi) → Level m x lo hi → slice_get m.cumuls k.0 ≡ Some d → d.name ≡ o → is_some o ≡ true
    → Leaves (so_far m us vs f) (constraint_tree m (constraint.CumulIn k x lo hi)) (so_far m us vs (f ++ constraint.CumulIn k x lo hi ∷ []))
named_function m us vs f k x lo hi d None here level at is has_name = cc
named_function m us vs f k x lo hi d (Some name) here level at is has_name = cumul_named m (sequences_with m us) (cumuls_with m vs) f k x lo hi d name here level at is

cumul_by : (m : Data) (w : Whole m) (us : List SequenceDef) (vs : List CumulDef) (f : List Constraint) (k : Cum) (x : Window) (lo hi : ℤ) (ds : List Constraint) (b : Bool)
    → Place m (sequences_with m us) (cumuls_with m vs) f (constraint.CumulIn k x lo hi) → is_constraint m (constraint.CumulIn k x lo hi) ≡ true → is_written m (constraint.CumulIn k x lo hi) ≡ true
    → nat_le (count_by is_named_cumul m.cumuls) k.0 ≡ b → LeftSequences m ds us → LeftCumuls m (constraint.CumulIn k x lo hi ∷ ds) vs → Stepped m us vs f (constraint.CumulIn k x lo hi) ds
cumul_by m w us vs f k x lo hi ds false here it one h ls lc =
    let level = level_of m k x lo hi it one in
    let d = item_at m.cumuls k.0 level.0 in
    let has_name = is_named is_named_cumul m.cumuls w.cumuls k.0 d.0 d.1 h in
    record {
      sequences = us;
      cumuls = vs;
      leaves = named_function m us vs f k x lo hi d.0 d.0.name here level.1 d.1 refl has_name;
      left_sequences = ls;
      left_cumuls = same_left is_named_cumul m.cumuls k.0 (flat_map cumuls_in ds) vs h lc;
    }
cumul_by m w us vs f k x lo hi ds true here it one h ls lc =
    let level = level_of m k x lo hi it one in
    let u = used is_named_cumul m.cumuls k.0 (flat_map cumuls_in ds) vs w.cumuls h lc in
    let d = u.def in
    let parts = all_at (is_cumul_def m) m.cumuls k.0 d w.valid.cumuls u.at in
    let some = all_at (λ (f : CumulDef). not (is_empty f.parts)) m.cumuls k.0 d w.written.parts u.at in
    record {
      sequences = us;
      cumuls = vs ++ d ∷ [];
      leaves = subst (λ c. Leaves (so_far m us vs f) (constraint_tree m (constraint.CumulIn k x lo hi)) (mid m (sequences_with m us) c (f ++ constraint.CumulIn k x lo hi ∷ []))) (append_assoc (named is_named_cumul m.cumuls) vs (d ∷ []))
          (cumul_unnamed m (sequences_with m us) (cumuls_with m vs) f k x lo hi d here level.1 u.at (none_if_not d.name u.fails) parts some u.place u.more);
      left_sequences = ls;
      left_cumuls = u.left;
    }

-- any constraint

stays : (m : Data) (us : List SequenceDef) (vs : List CumulDef) (f : List Constraint) (con : Constraint) (ds : List Constraint)
    → Leaves (so_far m us vs f) (constraint_tree m con) (so_far m us vs (f ++ con ∷ [])) → LeftSequences m ds us → LeftCumuls m ds vs → Stepped m us vs f con ds
stays m us vs f con ds leaves ls lc = record { sequences = us; cumuls = vs; leaves = leaves; left_sequences = ls; left_cumuls = lc }

stepped : ExpressionsReturn → FactorsReturn → ExpressionsNameIntervals → (m : Data) → Whole m → (us : List SequenceDef) (vs : List CumulDef) (f : List Constraint) (con : Constraint) (ds : List Constraint)
    → Place m (sequences_with m us) (cumuls_with m vs) f con → is_constraint m con ≡ true → is_written m con ≡ true → LeftSequences m (con ∷ ds) us → LeftCumuls m (con ∷ ds) vs → Stepped m us vs f con ds
stepped return factors name m w us vs f (constraint.Temporal from to equal x y z) ds here it written ls lc =
    stays m us vs f (constraint.Temporal from to equal x y z) ds (temporal_stays m (sequences_with m us) (cumuls_with m vs) f from to equal x y z here it) ls lc
stepped return factors name m w us vs f (constraint.Logic e) ds here it written ls lc =
    stays m us vs f (constraint.Logic e) ds (logic_stays return factors name m (sequences_with m us) (cumuls_with m vs) f e here it written) ls lc
stepped return factors name m w us vs f (constraint.Span x xs) ds here it written ls lc =
    stays m us vs f (constraint.Span x xs) ds (span_stays m (sequences_with m us) (cumuls_with m vs) f x xs here it) ls lc
stepped return factors name m w us vs f (constraint.Alternative x xs k) ds here it written ls lc =
    stays m us vs f (constraint.Alternative x xs k) ds (alternative_stays m (sequences_with m us) (cumuls_with m vs) f x xs k here it) ls lc
stepped return factors name m w us vs f (constraint.Synchronize x xs) ds here it written ls lc =
    stays m us vs f (constraint.Synchronize x xs) ds (synchronize_stays m (sequences_with m us) (cumuls_with m vs) f x xs here it) ls lc
stepped return factors name m w us vs f (constraint.NoOverlap p o direct) ds here it written ls lc =
    overlap_by m w us vs f p o direct ds (nat_le (count_by is_named_sequence m.sequences) p.0) here it written refl ls lc
stepped return factors name m w us vs f (constraint.First p x) ds here it written ls lc =
    stays m us vs f (constraint.First p x) ds (first_stays m (sequences_with m us) (cumuls_with m vs) f p x here written it) ls lc
stepped return factors name m w us vs f (constraint.Last p x) ds here it written ls lc =
    stays m us vs f (constraint.Last p x) ds (last_stays m (sequences_with m us) (cumuls_with m vs) f p x here written it) ls lc
stepped return factors name m w us vs f (constraint.Before p x y) ds here it written ls lc =
    stays m us vs f (constraint.Before p x y) ds (before_stays m (sequences_with m us) (cumuls_with m vs) f p x y here written it) ls lc
stepped return factors name m w us vs f (constraint.Prev p x y) ds here it written ls lc =
    stays m us vs f (constraint.Prev p x y) ds (prev_stays m (sequences_with m us) (cumuls_with m vs) f p x y here written it) ls lc
stepped return factors name m w us vs f (constraint.CumulIn k x lo hi) ds here it written ls lc =
    cumul_by m w us vs f k x lo hi ds (nat_le (count_by is_named_cumul m.cumuls) k.0) here it written refl ls lc
stepped return factors name m w us vs f (constraint.AlwaysEqual g x v i j) ds here it written ls lc =
    stays m us vs f (constraint.AlwaysEqual g x v i j) ds (equal_stays m (sequences_with m us) (cumuls_with m vs) f g x v i j here it) ls lc
stepped return factors name m w us vs f (constraint.AlwaysNoState g x) ds here it written ls lc =
    stays m us vs f (constraint.AlwaysNoState g x) ds (none_stays m (sequences_with m us) (cumuls_with m vs) f g x here it) ls lc

pub walk : ExpressionsReturn → FactorsReturn → ExpressionsNameIntervals → (m : Data) → Whole m → (us : List SequenceDef) (vs : List CumulDef) (f ds : List Constraint) → f ++ ds ≡ m.constraints
    → LeftSequences m ds us → LeftCumuls m ds vs → Leads (so_far m us vs f) (map (λ c. Constrain (constraint_tree m c)) ds) (mid m m.sequences m.cumuls m.constraints)
walk return factors name m w us vs f [] is ls lc =
    let seqs = none_left is_named_sequence m.sequences us w.sequences ls in
    let cums = none_left is_named_cumul m.cumuls vs w.cumuls lc in
    let all = sym (append-nil f) ∙ is in
    λ i. mid m (seqs i) (cums i) (all i)
walk return factors name m w us vs f (con ∷ ds) is ls lc =
    let here : Place m (sequences_with m us) (cumuls_with m vs) f con = record { valid = w.valid; middle = middle_of m us vs (con ∷ ds) (con ∷ ds) w ls lc; front = front_to f ds m.constraints con is } in
    let step = stepped return factors name m w us vs f con ds here (item (is_constraint m) f ds m.constraints con is w.valid.constraints) (item (is_written m) f ds m.constraints con is w.written.constraints) ls lc in
    lead (so_far m us vs f) (so_far m step.sequences step.cumuls (f ++ con ∷ [])) (mid m m.sequences m.cumuls m.constraints) (Constrain (constraint_tree m con)) (map (λ c. Constrain (constraint_tree m c)) ds) step.leaves.0 step.leaves.1
    (walk return factors name m w step.sequences step.cumuls (f ++ con ∷ []) ds (append_assoc f (con ∷ []) ds ∙ is) step.left_sequences step.left_cumuls)
