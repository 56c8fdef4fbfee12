-- Schedule texts of a model, and which line of other bytes is the first that no schedule text goes on with.
use Rattle.std.specs.Prelude.{◌≡◌, ◌⊎◌, ℕ, ◌^◌, ◌<◌, ◌≤◌, ℤ, Bool, true, false, List, [], ◌∷◌, ◌++◌, length, codes, flat_map, Result, Ok, Err, ⊤}
use Rattle.std.specs.Fmt.{decimal}
use Rattle.std.specs.List.{list_all}
use Rattle.sched_model.specs.declared.types.Assignment.{Assignment}
use Rattle.sched_model.specs.Data.{Data}
use Rattle.sched_model.specs.Bounds.{is_small}
use Rattle.sched_model.specs.Domain.{is_in_domain}
use Rattle.textline.specs.Lines.{Bytes, line}
use Rattle.textline.specs.Words.{are_words}
use Rattle.sched_text.specs.Answers.{numbers_word, schedule_lines}
use Rattle.read_schedule.specs.declared.fault.ScheduleFault.{ScheduleFault}
use Rattle.read_schedule.specs.declared.fault.ScheduleFault.TheVariants.{Refused, NoMemory}

-- a word of one number at least and of so many at most, with commas between them, each of magnitude at most 2^62
abbrev pub AreNumbers : ℕ → Bytes → Type 0
AreNumbers k w = (vs : List ℤ) × (1 ≤ length vs) × (length vs ≤ k) × (list_all is_small vs ≡ true) × (w ≡ numbers_word vs)

-- the first line of an answer that shows a schedule: with a number for each criterion, of which an objective has eight at most
abbrev pub IsVerdict : List Bytes → Type 0
IsVerdict ws = (ws ≡ codes "feasible" ∷ []) ⊎ ((w : Bytes) × AreNumbers 8 w × ((ws ≡ codes "optimal" ∷ w ∷ []) ⊎ (ws ≡ codes "unfinished" ∷ w ∷ [])))

-- the second line, which counts nodes
abbrev pub IsCount : List Bytes → Type 0
IsCount ws = (n : ℕ) × (n ≤ 2 ^ 62) × (ws ≡ codes "nodes" ∷ decimal n ∷ [])

-- these two lines, or none; what they say is compared with nothing
abbrev pub IsHeader : List (List Bytes) → Type 0
IsHeader [] = ⊤
IsHeader (v ∷ n ∷ []) = IsVerdict v × IsCount n
IsHeader _ = ⊥

-- lines of words, one behind the other
abbrev pub text : List (List Bytes) → Bytes
text ls = flat_map line ls

-- the schedule text of an assignment: a header or none, its lines, and `end`
abbrev pub schedule_text : Data → List (List Bytes) → Assignment → Bytes
schedule_text m header a = text header ++ (schedule_lines m a ++ line (codes "end" ∷ []))

-- the bytes are a schedule text of the model, and it spells this assignment
pub record Spells (m : Data) (bytes : Bytes) (a : Assignment) : Type 0 where
  pub header : List (List Bytes)
  pub heads : IsHeader header
  pub domain : is_in_domain m a ≡ true
  pub whole : bytes ≡ schedule_text m header a

-- a line as words: those between its spaces, one at least, which are empty where nothing stands between two
abbrev pub is_line : List Bytes → Bool
is_line [] = false
is_line (w ∷ ws) = are_words (w ∷ ws)

-- the bytes have k whole lines, and some schedule text of the model begins with them
pub record GoesOn (m : Data) (bytes : Bytes) (k : ℕ) : Type 0 where
  pub lines : List (List Bytes)
  pub each : list_all is_line lines ≡ true
  pub count : length lines ≡ k
  pub rest : Bytes
  pub here : bytes ≡ text lines ++ rest
  pub more : Bytes
  pub schedule : Assignment
  pub spells : Spells m (text lines ++ more) schedule

-- The bytes are no schedule text, and k is the first line that isn't there whole, or that can't be continued to one.
pub record IsRefused (m : Data) (bytes : Bytes) (k : ℕ) : Type 0 where
  pub none : (a : Assignment) → Spells m bytes a → ⊥
  pub first : 0 < k
  pub before : (j : ℕ) → 0 < j → j < k → GoesOn m bytes j
  pub stops : GoesOn m bytes k → ⊥

abbrev pub Reads : Data → Bytes → Result Assignment ScheduleFault → Type 0
Reads m bytes (Ok a) = Spells m bytes a
Reads m bytes (Err (Refused k)) = IsRefused m bytes k
Reads m bytes (Err NoMemory) = ⊤
