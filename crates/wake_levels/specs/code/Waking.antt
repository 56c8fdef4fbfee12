-- What contracts see of the numbers that are awake: a list for each level, the most urgent first.
use Rattle.std.specs.Prelude.{ℕ, zero, suc, ◌+◌, ◌*◌, Bool, false, ◌||◌, List, [], ◌∷◌, length, Option, Some, None, option_map, map}
use Rattle.iqueue.specs.code.Queue.{is_in, without, woken}
use Rattle.wake_levels.specs.declared.levels.Turn.{Turn}

pub record Waking : Type 0 where
  pub below : ℕ
  pub levels : List (List ℕ)

abbrev pub is_in_any : ℕ → List (List ℕ) → Bool
is_in_any k [] = false
is_in_any k (ks ∷ kss) = is_in k ks || is_in_any k kss

abbrev pub is_awake : Waking → ℕ → Bool
is_awake a k = is_in_any k a.levels

-- a number weighs the more, the more urgent it is
abbrev pub weight : List (List ℕ) → ℕ
weight [] = 0
weight (ks ∷ kss) = (length kss + 1) * length ks + weight kss

-- the first number of the first level that has one
abbrev pub next_level : Turn → Turn
next_level t = record { k = t.k; level = t.level + 1 }

abbrev pub first_turn : List (List ℕ) → Option Turn
first_turn [] = None
first_turn ([] ∷ kss) = option_map next_level (first_turn kss)
first_turn ((k ∷ ks) ∷ kss) = Some (record { k = k; level = 0 })

-- with a number last on a level, where it isn't on it
abbrev pub woken_on : ℕ → ℕ → List (List ℕ) → List (List ℕ)
woken_on k level [] = []
woken_on k zero (ks ∷ kss) = woken k ks ∷ kss
woken_on k (suc level) (ks ∷ kss) = ks ∷ woken_on k level kss

-- without a number, whatever levels it is on
abbrev pub without_on_all : ℕ → List (List ℕ) → List (List ℕ)
without_on_all k kss = map (without k) kss
