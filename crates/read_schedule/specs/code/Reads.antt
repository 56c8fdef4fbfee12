-- What reading a part of a schedule text gives.
use Rattle.std.specs.Prelude.{◌≡◌, ◌⊎◌, ℕ, ◌^◌, ◌+◌, ◌<◌, ◌≤◌, ◌==◌, ◌&&◌, ℤ, ◌+ℤ◌, int_le, Bool, true, false, not, List, [], ◌∷◌, ◌++◌, length, take, drop, map, slice_get, slice_index, slice_index_or, set, get_or, Option, Some, None, Result, Ok, Err, ⊤, IsTrue}
use Rattle.std.specs.Fmt.{decimal, signed_decimal}
use Rattle.std.specs.Str.{bytes_eq}
use Rattle.std.specs.List.{list_all}
use Rattle.sched_base.specs.declared.ids.Itv.{Itv}
use Rattle.sched_model.specs.declared.types.IntervalDef.{IntervalDef}
use Rattle.sched_model.specs.declared.types.SequenceDef.{SequenceDef}
use Rattle.sched_model.specs.declared.types.StateDef.{StateDef}
use Rattle.sched_model.specs.declared.types.Segment.{Segment}
use Rattle.sched_model.specs.declared.types.Slot.{Slot}
use Rattle.sched_model.specs.declared.types.Slot.TheVariants.{Absent, Present}
use Rattle.sched_model.specs.declared.types.Assignment.{Assignment}
use Rattle.sched_model.specs.Data.{Data}
use Rattle.sched_model.specs.Bounds.{is_small}
use Rattle.sched_model.specs.Words.{placewise}
use Rattle.sched_model.specs.Domain.{fits_def, is_in_domain}
use Rattle.sched_model.specs.Valid.{is_itv}
use Rattle.textline.specs.Lines.{Bytes, line, words_of}
use Rattle.sched_text.specs.Answers.{segment_words}
use Rattle.sched_text.specs.laws.Lines.{is_spelled_segment}
use Rattle.sched_text.specs.laws.Values.{has_no_comma}
use Rattle.read_schedule.specs.Schedules.{AreNumbers, IsVerdict, IsCount, IsHeader, is_line, text}
use Rattle.read_schedule.specs.code.Rows.{rows, begins, body, end_row}
use Rattle.read_schedule.specs.declared.stop.PartStop.{PartStop}
use Rattle.read_schedule.specs.declared.stop.PartStop.TheVariants.{Line, NoMemory}

-- the place of the first line feed
abbrev pub FindsFeed : Bytes → Option ℕ → Type 0
FindsFeed bytes (Some k) = (k < length bytes) × (slice_index bytes k ≡ 10) × IsTrue (list_all (λ b. not (b == 10)) (take k bytes))
FindsFeed bytes None = IsTrue (list_all (λ b. not (b == 10)) bytes)

-- the bytes begin with this line
abbrev pub Starts : List Bytes → Bytes → Type 0
Starts ws bytes = (more : Bytes) × (bytes ≡ line ws ++ more)

-- the next line was taken, without its line feed; or none is whole, and nothing was taken
abbrev pub TakesLine : Bytes → Bytes → Option Bytes → Type 0
TakesLine old new (Some l) = (is_line (words_of l) ≡ true) × (old ≡ line (words_of l) ++ new)
TakesLine old new None = (new ≡ old) × ((ws : List Bytes) → Starts ws old → ⊥)

-- all the words spell this value, which passes; or none that does
abbrev pub ReadsAll : {A : Type 0} → (A → List Bytes) → (A → Bool) → List Bytes → Option A → Type 0
ReadsAll spelled fit ws (Some v) = (fit v ≡ true) × (ws ≡ spelled v)
ReadsAll {A} spelled fit ws None = (v : A) → fit v ≡ true → ws ≡ spelled v → ⊥

-- the same where memory may be refused
abbrev pub TriesAll : {A : Type 0} → (A → List Bytes) → (A → Bool) → List Bytes → Result A PartStop → Type 0
TriesAll spelled fit ws (Ok v) = (fit v ≡ true) × (ws ≡ spelled v)
TriesAll {A} spelled fit ws (Err (Line n)) = (v : A) → fit v ≡ true → ws ≡ spelled v → ⊥
TriesAll spelled fit ws (Err NoMemory) = ⊤

-- the same of the next line
abbrev pub TakesRow : {A : Type 0} → (A → List Bytes) → (A → Bool) → Bytes → Bytes → Option A → Type 0
TakesRow spelled fit old new (Some v) = (fit v ≡ true) × (old ≡ line (spelled v) ++ new)
TakesRow {A} spelled fit old new None = (v : A) → fit v ≡ true → Starts (spelled v) old → ⊥

abbrev pub TriesRow : {A : Type 0} → (A → List Bytes) → (A → Bool) → Bytes → Bytes → Result (Assignment × A) PartStop → Type 0
TriesRow spelled fit old new (Ok p) = (fit p.1 ≡ true) × (old ≡ line (spelled p.1) ++ new)
TriesRow {A} spelled fit old new (Err (Line n)) = (v : A) → fit v ≡ true → Starts (spelled v) old → ⊥
TriesRow spelled fit old new (Err NoMemory) = ⊤

-- the lines of n values were read, and no value of the next definition that fits has a line that stands behind them
pub record StopsRows {X Y : Type 0} (g : ℕ → X → Y → List Bytes) (fit : X → Y → Bool) (xs : List X) (old : Bytes) (n : ℕ) : Type 0 where
  pub ys : List Y
  pub count : length ys ≡ n
  pub fits : begins fit xs ys ≡ true
  pub rest : Bytes
  pub same : old ≡ text (rows g 0 xs ys) ++ rest
  pub def : X
  pub at : slice_get xs n ≡ Some def
  pub stuck : (y : Y) → fit def y ≡ true → Starts (g n def y) rest → ⊥

-- the lines of a value for each definition were read
abbrev pub ReadsRows : {X Y : Type 0} → (ℕ → X → Y → List Bytes) → (X → Y → Bool) → List X → Bytes → Bytes → Result (List Y) PartStop → Type 0
ReadsRows g fit xs old new (Ok ys) = (placewise fit xs ys ≡ true) × (old ≡ text (rows g 0 xs ys) ++ new)
ReadsRows g fit xs old new (Err (Line n)) = StopsRows g fit xs old n
ReadsRows g fit xs old new (Err NoMemory) = ⊤

-- the same beside an assignment that stays
abbrev pub ReadsBeside : {X Y : Type 0} → (ℕ → X → Y → List Bytes) → (X → Y → Bool) → List X → Assignment → Bytes → Bytes → Result (Assignment × List Y) PartStop → Type 0
ReadsBeside g fit xs a old new (Ok p) = (p.0 ≡ a) × (placewise fit xs p.1 ≡ true) × (old ≡ text (rows g 0 xs p.1) ++ new)
ReadsBeside g fit xs a old new (Err (Line n)) = StopsRows g fit xs old n
ReadsBeside g fit xs a old new (Err NoMemory) = ⊤

-- numbers

-- a small number was taken from the front of words, or none stands there
abbrev pub TakesNumber : List Bytes → List Bytes → Option ℤ → Type 0
TakesNumber old new (Some z) = (is_small z ≡ true) × (old ≡ signed_decimal z ∷ new)
TakesNumber old new None = (z : ℤ) (ws : List Bytes) → is_small z ≡ true → old ≡ signed_decimal z ∷ ws → ⊥

-- whether it is so
abbrev pub Decides : Type 0 → Bool → Type 0
Decides P true = P
Decides P false = P → ⊥

-- a number of magnitude at most 2^62
abbrev pub IsNumber : Bytes → Type 0
IsNumber w = (v : ℤ) × (is_small v ≡ true) × (w ≡ signed_decimal v)

abbrev pub AreNumbersAlone : List Bytes → Type 0
AreNumbersAlone ws = (w : Bytes) × AreNumbers 8 w × (ws ≡ w ∷ [])

-- the place of the first comma
abbrev pub FindsComma : Bytes → Option ℕ → Type 0
FindsComma bytes (Some k) = (k < length bytes) × (bytes ≡ take k bytes ++ 44 ∷ drop (k + 1) bytes) × (has_no_comma (take k bytes) ≡ true)
FindsComma bytes None = has_no_comma bytes ≡ true

abbrev pub IsCountAlone : List Bytes → Type 0
IsCountAlone ws = (n : ℕ) × (n ≤ 2 ^ 62) × (ws ≡ decimal n ∷ [])

-- the header

-- the lines of a header were taken, and these are so many, none only where the text doesn't begin with its first line;
-- or its first line stands in front, and its second not behind it
abbrev pub TakesHeader : Bytes → Bytes → Option ℕ → Type 0
TakesHeader old new (Some n) = (h : List (List Bytes)) × IsHeader h × (length h ≡ n) × (old ≡ text h ++ new) × (n ≡ 0 → (v : List Bytes) → IsVerdict v → Starts v old → ⊥)
TakesHeader old new None = (v : List Bytes) × IsVerdict v × (rest : Bytes) × (old ≡ line v ++ rest) × ((c : List Bytes) → IsCount c → Starts c rest → ⊥)

-- slots

abbrev pub is_spelled : Slot → Bool
is_spelled Absent = true
is_spelled (Present s e) = is_small s && is_small e

-- some end lies behind some start by a size of the range
abbrev pub can_reach : IntervalDef → Bool
can_reach d = int_le (d.start_lo +ℤ d.size_lo) d.end_hi && int_le d.end_lo (d.start_hi +ℤ d.size_hi)

-- some slot fits the definition, or none
abbrev pub CanStand : IntervalDef → Bool → Type 0
CanStand d true = (slot : Slot) × (fits_def d slot ≡ true)
CanStand d false = (slot : Slot) → fits_def d slot ≡ true → ⊥

-- there is a fitting slot for each definition, or there are not
abbrev pub EachCanStand : List IntervalDef → Bool → Type 0
EachCanStand ds true = (slots : List Slot) × (placewise fits_def ds slots ≡ true)
EachCanStand ds false = (slots : List Slot) → placewise fits_def ds slots ≡ true → ⊥

-- segments

abbrev pub are_spelled : List Segment → Bool
are_spelled ss = list_all is_spelled_segment ss

-- the numbers of a segment were taken from the front of words, or none stands there
abbrev pub TakesSegment : List Bytes → List Bytes → Option Segment → Type 0
TakesSegment old new (Some s) = (is_spelled_segment s ≡ true) × (old ≡ segment_words s ++ new)
TakesSegment old new None = (s : Segment) (ws : List Bytes) → is_spelled_segment s ≡ true → old ≡ segment_words s ++ ws → ⊥

-- names

abbrev pub differ : Bytes → Bytes → Bool
differ x y = not (bytes_eq x y)

abbrev pub names_in : List IntervalDef → List Bytes
names_in ds = map (λ d. d.name) ds

-- the names of intervals with their numbers, from k on
abbrev pub numbered : ℕ → List IntervalDef → List (Bytes × Itv)
numbered k [] = []
numbered k (d ∷ ds) = (d.name, let x : Itv = record { 0 = k } in x) ∷ numbered (k + 1) ds

abbrev pub are_all_itvs : Data → List Itv → Bool
are_all_itvs m xs = list_all (is_itv m) xs

abbrev pub sequence_at : Data → ℕ → SequenceDef
sequence_at m i = slice_index_or m.sequences i (record { name = None; members = []; types = None })

abbrev pub state_at : Data → ℕ → StateDef
state_at m i = slice_index_or m.states i (record { name = []; matrix = None })

-- assignments

-- the list at a place was put in for another
pub record Exchanged {T : Type 0} (lists : List (List T)) (i : ℕ) (list : List T) (after : List (List T)) (taken : List T) : Type 0 where
  pub put : after ≡ set lists i list
  pub out : taken ≡ get_or lists i []

-- the value was tested for the definition at a place, and all is as it was
pub record Tested {X Y : Type 0} (fit : X → Y → Bool) (def : X) (a : Assignment) (y : Y) (a' : Assignment) (y' : Y) (fits : Bool) : Type 0 where
  pub same : a' ≡ a
  pub value : y' ≡ y
  pub test : fits ≡ fit def y

-- the assignment is in the domain and has these slots
pub record HasSlots (m : Data) (those : List Slot) (a : Assignment) : Type 0 where
  pub domain : is_in_domain m a ≡ true
  pub same : a.slots ≡ those

-- the whole

-- the last line stands there, and nothing behind it; or so much of this doesn't: the line, or the end behind it
abbrev pub TakesEnd : Bytes → Option ℕ → Type 0
TakesEnd bytes None = bytes ≡ line end_row
TakesEnd bytes (Some n) = ((n ≡ 0) × (Starts end_row bytes → ⊥)) ⊎ ((n ≡ 1) × ((more : Bytes) × (bytes ≡ line end_row ++ more) × (more ≡ [] → ⊥)))

-- what comes next isn't there
abbrev pub Unlike : List (List Bytes) → Bytes → Type 0
Unlike [] rest = rest ≡ [] → ⊥
Unlike (u ∷ us) rest = Starts u rest → ⊥

-- n lines stand in front with which the body of some schedule begins, and each that begins with them goes on unlike the bytes
pub record StopsBody (m : Data) (bytes : Bytes) (n : ℕ) : Type 0 where
  pub front : List (List Bytes)
  pub count : length front ≡ n
  pub few : n ≤ 2401
  pub each : list_all is_line front ≡ true
  pub rest : Bytes
  pub same : bytes ≡ text front ++ rest
  pub schedule : Assignment
  pub domain : is_in_domain m schedule ≡ true
  pub after : List (List Bytes)
  pub goes : body m schedule ≡ front ++ after
  pub unlike : (a : Assignment) (us : List (List Bytes)) → is_in_domain m a ≡ true → body m a ≡ front ++ us → Unlike us rest

abbrev pub ReadsBody : Data → Bytes → Result Assignment PartStop → Type 0
ReadsBody m bytes (Ok a) = (is_in_domain m a ≡ true) × (bytes ≡ text (body m a))
ReadsBody m bytes (Err (Line n)) = StopsBody m bytes n
ReadsBody m bytes (Err NoMemory) = ⊤
