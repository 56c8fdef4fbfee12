-- What stands in front of words.
use Rattle.std.specs.Prelude.{◌≡◌, ℕ, ◌==◌, ◌&&◌, ℤ, Bool, List, [], ◌∷◌, ◌++◌, ◌⊎◌, ◌<◌, not, length, take, slice_index, map, get_or, codes, Option, Some, None, Result, Ok, Err, IsTrue, ⊤}
use Rattle.std.specs.Fmt.{decimal, signed_decimal}
use Rattle.std.specs.List.{list_all, flat_map}
use Rattle.sched_base.specs.declared.ids.Itv.{Itv}
use Rattle.sched_base.specs.declared.ids.Seq.{Seq}
use Rattle.sched_model.specs.Valid.{is_small}
use Rattle.kernel.specs.Fit.{is_count, is_id}
use Rattle.sched_model.specs.declared.types.Segment.{Segment}
use Rattle.textline.specs.Lines.{Bytes}
use Rattle.logtext.specs.Spelling.{member_word, segment_words}
use Rattle.logtext.specs.declared.entry.EntryFault.{EntryFault}
use Rattle.logtext.specs.declared.entry.EntryFault.TheVariants.{Bad, NoMemory}

-- no fit value's words stand in front
abbrev pub NoneStands : {A : Type 0} → (A → List Bytes) → (A → Bool) → List Bytes → Type 0
NoneStands {A} spelled fit words = (v : A) (rest : List Bytes) → IsTrue (fit v) → words ≡ spelled v ++ rest → ⊥

-- a fit value was taken from the front of words, or none stands there
abbrev pub Takes : {A : Type 0} → (A → List Bytes) → (A → Bool) → List Bytes → List Bytes → Option A → Type 0
Takes spelled fit old new (Some v) = IsTrue (fit v) × (old ≡ spelled v ++ new)
Takes spelled fit old new None = NoneStands spelled fit old

-- the same where memory may be refused
abbrev pub Reads : {A : Type 0} → (A → List Bytes) → (A → Bool) → List Bytes → List Bytes → Result A EntryFault → Type 0
Reads spelled fit old new (Ok v) = IsTrue (fit v) × (old ≡ spelled v ++ new)
Reads spelled fit old new (Err Bad) = NoneStands spelled fit old
Reads spelled fit old new (Err NoMemory) = ⊤

-- the same of all the words
abbrev pub ReadsWhole : {A : Type 0} → (A → List Bytes) → (A → Bool) → List Bytes → Result A EntryFault → Type 0
ReadsWhole spelled fit words (Ok v) = IsTrue (fit v) × (words ≡ spelled v)
ReadsWhole {A} spelled fit words (Err Bad) = (v : A) → IsTrue (fit v) → words ≡ spelled v → ⊥
ReadsWhole spelled fit words (Err NoMemory) = ⊤

-- the same of as many values as go on
abbrev pub ReadsRow : {A : Type 0} → (A → List Bytes) → (A → Bool) → (List Bytes → Type 0) → List Bytes → List Bytes → Result (List A) EntryFault → Type 0
ReadsRow spelled fit GoesOn old new (Ok vs) = IsTrue (list_all fit vs) × (old ≡ flat_map spelled vs ++ new) × (GoesOn new → ⊥)
ReadsRow {A} spelled fit GoesOn old new (Err Bad) = (vs : List A) (rest : List Bytes) → IsTrue (list_all fit vs) → (GoesOn rest → ⊥) → old ≡ flat_map spelled vs ++ rest → ⊥
ReadsRow spelled fit GoesOn old new (Err NoMemory) = ⊤

-- the word stands in front
abbrev pub BeginsWith : Bytes → List Bytes → Type 0
BeginsWith w words = (rest : List Bytes) × (words ≡ w ∷ rest)

abbrev pub BeginsSlot : List Bytes → Type 0
BeginsSlot words = BeginsWith (codes "a") words ⊎ BeginsWith (codes "p") words

-- the words of single values

abbrev pub count_words : ℕ → List Bytes
count_words n = decimal n ∷ []

abbrev pub id_words : Itv → List Bytes
id_words x = decimal x.0 ∷ []

abbrev pub moment_words : ℤ → List Bytes
moment_words t = signed_decimal t ∷ []

abbrev pub bound_words : Itv × ℤ → List Bytes
bound_words b = decimal b.0.0 ∷ signed_decimal b.1 ∷ []

abbrev pub is_fit_bound : Itv × ℤ → Bool
is_fit_bound b = is_id b.0 && is_small b.1

-- a sequence and two intervals
abbrev pub pair_words : Seq × Itv × Itv → List Bytes
pair_words q = decimal q.0.0 ∷ decimal q.1.0 ∷ decimal q.2.0 ∷ []

abbrev pub is_fit_pair : Seq × Itv × Itv → Bool
is_fit_pair q = is_count q.0.0 && is_id q.1 && is_id q.2

-- so many fit values
abbrev pub are_so_many : {A : Type 0} → ℕ → (A → Bool) → List A → Bool
are_so_many n fit vs = length vs == n && list_all fit vs

-- small numbers were put behind those at hand, and all the words spell them; or the words spell none
abbrev pub ReadsNumbers : List Bytes → List ℤ → List ℤ → Result (Unit {0}) EntryFault → Type 0
ReadsNumbers words old new (Ok _) = (zs : List ℤ) × IsTrue (list_all is_small zs) × (new ≡ old ++ zs) × (words ≡ map signed_decimal zs)
ReadsNumbers words old new (Err Bad) = (zs : List ℤ) → IsTrue (list_all is_small zs) → words ≡ map signed_decimal zs → ⊥
ReadsNumbers words old new (Err NoMemory) = ⊤

-- the valid value whose numbers are those at hand and then those that all the words spell, or none
abbrev pub ReadsValue : {W : Type 0} → (W → List ℤ) → (W → Bool) → List ℤ → List Bytes → Result W EntryFault → Type 0
ReadsValue numbers valid front words (Ok w) = IsTrue (valid w) × (zs : List ℤ) × (numbers w ≡ front ++ zs) × (words ≡ map signed_decimal zs)
ReadsValue {W} numbers valid front words (Err Bad) = (w : W) (zs : List ℤ) → IsTrue (valid w) → numbers w ≡ front ++ zs → words ≡ map signed_decimal zs → ⊥
ReadsValue numbers valid front words (Err NoMemory) = ⊤

-- the words behind the word of an extra witness
abbrev pub extra_words : {W : Type 0} → (W → List ℤ) → W → List Bytes
extra_words numbers w = decimal (length (numbers w)) ∷ map signed_decimal (numbers w)

-- the place of a word in a table, or it stands nowhere there
abbrev pub FindsWord : List Bytes → Bytes → Option ℕ → Type 0
FindsWord words w (Some k) = (k < length words) × (w ≡ get_or words k [])
FindsWord words w None = (k : ℕ) → k < length words → w ≡ get_or words k [] → ⊥

-- the words of members and of segments, and with their count in front

abbrev pub ids_words : List Itv → List Bytes
ids_words xs = flat_map id_words xs

abbrev pub rows_words : List Segment → List Bytes
rows_words ss = flat_map segment_words ss

abbrev pub counted_ids : List Itv → List Bytes
counted_ids xs = decimal (length xs) ∷ map member_word xs

abbrev pub counted_segments : List Segment → List Bytes
counted_segments ss = decimal (length ss) ∷ flat_map segment_words ss

-- the next value was read, or none goes on
abbrev pub ReadsNext : {A : Type 0} → (A → List Bytes) → (A → Bool) → (List Bytes → Type 0) → List Bytes → List Bytes → Result (Option A) EntryFault → Type 0
ReadsNext spelled fit GoesOn old new (Ok (Some v)) = IsTrue (fit v) × (old ≡ spelled v ++ new)
ReadsNext spelled fit GoesOn old new (Ok None) = (new ≡ old) × (GoesOn old → ⊥)
ReadsNext spelled fit GoesOn old new (Err Bad) = GoesOn old × NoneStands spelled fit old
ReadsNext spelled fit GoesOn old new (Err NoMemory) = ⊤

-- the place of the first line feed
abbrev pub FindsFeed : Bytes → Option ℕ → Type 0
FindsFeed bytes (Some k) = (k < length bytes) × (slice_index bytes k ≡ 10) × IsTrue (list_all (λ b. not (b == 10)) (take k bytes))
FindsFeed bytes None = IsTrue (list_all (λ b. not (b == 10)) bytes)
