-- A name that has a number of a sort stands for a thing of that sort.
use Rattle.std.proofs.Common.{◌≡◌, ℕ, true, false, List, [], ◌∷◌, length, Some, nat_lt, refl, sym, ap, ◌∙◌}
use Rattle.std.specs.List.{list_all, list_any}
use Rattle.std.proofs.lemmas.List.{length-map}
use Rattle.std.proofs.lemmas.Bool.{and_from, or_parts}
use Rattle.sched_model.specs.Data.{Data}
use Rattle.sched_model.specs.Valid.{is_itv, is_mat, is_seq}
use Rattle.cpo_elab.specs.declared.names.Sort.TheVariants.{Interval, Matrix, Sequence, State}
use Rattle.cpo_elab.specs.Named.{itv_of, itvs_of, mat_of, seq_of, stf_of}
use Rattle.cpo_elab.specs.Judged.{is_of_other_sort}
use Rattle.cpo_elab.specs.lemmas.Names.{below_names}

pub right_itv : (m : Data) (n : List ℕ) → is_of_other_sort m Interval n ≡ false → is_itv m (itv_of m n) ≡ true
right_itv m n there = sym (ap (nat_lt (itv_of m n).0) (length-map m.intervals (λ d. Some d.name))) ∙ below_names m Interval n there

pub right_mat : (m : Data) (n : List ℕ) → is_of_other_sort m Matrix n ≡ false → is_mat m (mat_of m n) ≡ true
right_mat m n there = sym (ap (nat_lt (mat_of m n).0) (length-map m.matrices (λ d. Some d.name))) ∙ below_names m Matrix n there

pub right_seq : (m : Data) (n : List ℕ) → is_of_other_sort m Sequence n ≡ false → is_seq m (seq_of m n) ≡ true
right_seq m n there = sym (ap (nat_lt (seq_of m n).0) (length-map m.sequences (λ d. d.name))) ∙ below_names m Sequence n there

pub right_stf : (m : Data) (n : List ℕ) → is_of_other_sort m State n ≡ false → nat_lt (stf_of m n).0 (length m.states) ≡ true
right_stf m n there = sym (ap (nat_lt (stf_of m n).0) (length-map m.states (λ d. Some d.name))) ∙ below_names m State n there

pub right_itvs : (m : Data) (ns : List (List ℕ)) → list_any (is_of_other_sort m Interval) ns ≡ false → list_all (is_itv m) (itvs_of m ns) ≡ true
right_itvs m [] right = refl
right_itvs m (n ∷ ns) right =
    let parts = or_parts (is_of_other_sort m Interval n) _ right in
    and_from (is_itv m (itv_of m n)) _ (right_itv m n parts.0) (right_itvs m ns parts.1)
