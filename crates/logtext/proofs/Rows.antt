-- Lists with a count in front, and lists that go on.
use Rattle.std.proofs.Common.{◌≡◌, ℕ, Bool, true, List, ◌∷◌, ◌++◌, ◌&&◌, ◌==◌, length, sym, ◌∙◌, ap, Result, Ok, Err}
use Rattle.std.specs.Fmt.{decimal}
use Rattle.std.specs.List.{list_all, flat_map}
use Rattle.std.proofs.lemmas.List.Concat.{flat_map_single}
use Rattle.sched_base.specs.declared.ids.Itv.{Itv}
use Rattle.sched_model.specs.declared.types.Segment.{Segment}
use Rattle.kernel.specs.Fit.{is_count, is_id, is_fit_segment, is_fit_order, are_fit_segments}
use Rattle.textline.specs.Lines.{Bytes}
use Rattle.textline.specs.laws.Lines.{both_true, true_both}
use Rattle.logtext.specs.declared.entry.EntryFault.{EntryFault}
use Rattle.logtext.specs.declared.entry.EntryFault.TheVariants.{Bad, NoMemory}
use Rattle.logtext.specs.Spelling.{segment_words, member_word}
use Rattle.logtext.specs.code.Reads.{Reads, ReadsRow, ReadsNext, are_so_many, id_words, ids_words, rows_words, counted_ids, counted_segments}
use Rattle.logtext.specs.laws.Leads.{Tells, open_stuck, behind, head_is}
use Rattle.logtext.specs.laws.Told.{count_told}
use Rattle.logtext.proofs.Values.{same_length, length_same}

abbrev counted : {A : Type 0} → (A → List Bytes) → List A → List Bytes
counted f vs = decimal (length vs) ∷ flat_map f vs

abbrev is_fit_list : {A : Type 0} → (A → Bool) → List A → Bool
is_fit_list fit vs = is_count (length vs) && list_all fit vs

counted_reads : {A : Type 0} (f : A → List Bytes) (fit : A → Bool) (old ws new : List Bytes) (n : ℕ) (r : Result (List A) EntryFault) → is_count n ≡ true → old ≡ decimal n ∷ ws → Reads (flat_map f) (are_so_many n fit) ws new r → Reads (counted f) (is_fit_list fit) old new r
counted_reads f fit old ws new n (Ok vs) count is reads =
    let two = both_true (length vs == n) (list_all fit vs) reads.0 in
    let many = length_same vs n two.0 in
    (true_both (is_count (length vs)) (list_all fit vs) (ap is_count (sym many) ∙ count) two.1, is ∙ ap (λ k. decimal k ∷ ws) many ∙ ap (λ xs. decimal (length vs) ∷ xs) reads.1)
counted_reads f fit old ws new n (Err Bad) count is none = λ vs rest ok e.
    let both = sym is ∙ e in
    let two = both_true (is_count (length vs)) (list_all fit vs) ok in
    let many = count_told n (length vs) count two.0 (head_is _ _ _ _ both) in
    none vs rest (true_both (length vs == n) (list_all fit vs) (same_length vs n many) two.1) (behind _ _ _ _ both)
counted_reads f fit old ws new n (Err NoMemory) count is reads = tt

-- values under another name of the same words
renamed : {A : Type 0} (f g : A → List Bytes) (fit : A → Bool) (old new : List Bytes) (r : Result A EntryFault) → ((v : A) → f v ≡ g v) → Reads f fit old new r → Reads g fit old new r
renamed f g fit old new (Ok v) same reads = (reads.0, reads.1 ∙ ap (λ ws. ws ++ new) (same v))
renamed f g fit old new (Err Bad) same none = λ v rest ok e. none v rest ok (e ∙ ap (λ ws. ws ++ rest) (sym (same v)))
renamed f g fit old new (Err NoMemory) same reads = tt

pub order_read : (old ws new : List Bytes) (n : ℕ) (r : Result (List Itv) EntryFault) → is_count n ≡ true → old ≡ decimal n ∷ ws → Reads ids_words (are_so_many n is_id) ws new r → Reads counted_ids is_fit_order old new r
order_read old ws new n r count is reads =
    renamed (counted id_words) counted_ids is_fit_order old new r (λ xs. ap (λ ws. decimal (length xs) ∷ ws) (flat_map_single member_word xs)) (counted_reads id_words is_id old ws new n r count is reads)

pub function_read : (old ws new : List Bytes) (n : ℕ) (r : Result (List Segment) EntryFault) → is_count n ≡ true → old ≡ decimal n ∷ ws → Reads rows_words (are_so_many n is_fit_segment) ws new r → Reads counted_segments are_fit_segments old new r
function_read old ws new n r count is reads = counted_reads segment_words is_fit_segment old ws new n r count is reads

-- a row that comes to a fault
pub row_fails : {A : Type 0} (f : A → List Bytes) (fit : A → Bool) (GoesOn : List Bytes → Type 0) → Tells f fit → ((a : A) (x : List Bytes) → GoesOn (f a ++ x)) → (us : List A) (old words after new : List Bytes) (r : EntryFault) → list_all fit us ≡ true → old ≡ flat_map f us ++ words
    → ReadsNext f fit GoesOn words after (Err r) → ReadsRow f fit GoesOn old new (Err r)
row_fails f fit GoesOn tells starts us old words after new Bad ok is stuck = λ vs rest also ends e. open_stuck f fit GoesOn tells starts us vs words rest ok also stuck.0 stuck.1 ends (sym is ∙ e)
row_fails f fit GoesOn tells starts us old words after new NoMemory ok is stuck = tt
