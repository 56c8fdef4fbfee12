-- Each name of a model that a text can write is spelt as the language wants, and is no word that it leaves out.
use Rattle.std.proofs.Common.{ℕ, zero, suc, ◌<◌, Bool, not, ◌&&◌, List, [], ◌∷◌, ◌++◌, map, length, Option, Some, None, refl, arith}
use Rattle.std.specs.Prelude.{IsTrue, nat_lt, slice_get, option_map, unwrap_or}
use Rattle.std.specs.List.{list_all, list_any, filter_map, cons_option}
use Rattle.std.specs.Str.{bytes_eq}
use Rattle.std.proofs.lemmas.Bool.{ltb-true, and_parts, and_from}
use Rattle.sched_base.specs.declared.ids.Itv.{Itv}
use Rattle.sched_base.specs.declared.ids.Mat.{Mat}
use Rattle.sched_base.specs.declared.ids.Stf.{Stf}
use Rattle.sched_model.specs.Data.{Data}
use Rattle.sched_model.specs.Words.{pairwise, passes_if_any}
use Rattle.sched_model.specs.Valid.{IsValid, all_names, is_name, is_letter, is_name_byte, is_itv, is_mat}
use Rattle.sched_text.specs.Pieces.{interval_name, matrix_name, state_name, interval_names}
use Rattle.cpo_text.specs.Runs.{left_out_words}
use Rattle.read_back.specs.Written.{IsWritten}
use Rattle.read_back.specs.Says.{is_chunk, is_spelt}
use Rattle.read_back.specs.Says.Chunk.{name}
use Rattle.read_back.proofs.Truth.{all_parts}

-- the text may write the name
abbrev pub is_told : List ℕ → Bool
is_told n = is_chunk (name n)

spelt : (n : List ℕ) → IsTrue (is_name n) → IsTrue (is_spelt n)
spelt [] is = cc
spelt (c ∷ cs) is = (and_parts (is_letter c && list_all is_name_byte cs) (nat_lt (length cs) 64) is).0

all_told : (ns : List (List ℕ)) → IsTrue (list_all is_name ns) → IsTrue (list_all (λ n. not (list_any (bytes_eq n) left_out_words)) ns) → IsTrue (list_all is_told ns)
all_told [] names kept = refl
all_told (n ∷ ns) names kept =
    let first = and_parts (is_name n) (list_all is_name ns) names in
    let second = and_parts (not (list_any (bytes_eq n) left_out_words)) (list_all (λ k. not (list_any (bytes_eq k) left_out_words)) ns) kept in
    and_from (is_told n) (list_all is_told ns) (and_from (is_spelt n) _ (spelt n first.0) second.0) (all_told ns first.1 second.1)

put_pass : (p : List ℕ → Bool) (o : Option (List ℕ)) (ns : List (List ℕ)) → IsTrue (list_all p (cons_option o ns)) → IsTrue (passes_if_any p o) × IsTrue (list_all p ns)
put_pass p None ns all = (refl, all)
put_pass p (Some n) ns all = and_parts (p n) (list_all p ns) all

named_pass : {X : Type 0} (p : List ℕ → Bool) (of : X → Option (List ℕ)) (xs : List X) → IsTrue (list_all p (filter_map of xs)) → IsTrue (list_all (λ x. passes_if_any p (of x)) xs)
named_pass p of [] all = refl
named_pass p of (x ∷ xs) all =
    let parts = put_pass p (of x) (filter_map of xs) all in
    and_from (passes_if_any p (of x)) _ parts.0 (named_pass p of xs parts.1)

pub record AreTold (m : Data) : Type 0 where
  pub intervals : IsTrue (list_all is_told (map (λ d. d.name) m.intervals))
  pub matrices : IsTrue (list_all is_told (map (λ d. d.name) m.matrices))
  pub sequences : IsTrue (list_all (λ d. passes_if_any is_told d.name) m.sequences)
  pub cumuls : IsTrue (list_all (λ d. passes_if_any is_told d.name) m.cumuls)
  pub states : IsTrue (list_all is_told (map (λ d. d.name) m.states))

pub are_told : (m : Data) → IsValid m → IsWritten m → AreTold m
are_told m valid written =
    let all = all_told (all_names m) (and_parts (list_all is_name (all_names m)) (pairwise (λ x y. not (bytes_eq x y)) (all_names m)) valid.names).0 written.names in
    let states = all_parts is_told (map (λ d. d.name) m.intervals ++ map (λ d. d.name) m.matrices ++ filter_map (λ d. d.name) m.sequences ++ filter_map (λ d. d.name) m.cumuls) (map (λ d. d.name) m.states) all in
    let cumuls = all_parts is_told (map (λ d. d.name) m.intervals ++ map (λ d. d.name) m.matrices ++ filter_map (λ d. d.name) m.sequences) (filter_map (λ d. d.name) m.cumuls) states.0 in
    let sequences = all_parts is_told (map (λ d. d.name) m.intervals ++ map (λ d. d.name) m.matrices) (filter_map (λ d. d.name) m.sequences) cumuls.0 in
    let matrices = all_parts is_told (map (λ d. d.name) m.intervals) (map (λ d. d.name) m.matrices) sequences.0 in
    record { intervals = matrices.0; matrices = matrices.1; sequences = named_pass is_told (λ d. d.name) m.sequences sequences.1; cumuls = named_pass is_told (λ d. d.name) m.cumuls cumuls.1; states = states.1 }

-- names by their ids

named_at : {X : Type 0} (p : List ℕ → Bool) (of : X → List ℕ) (xs : List X) (i : ℕ) → i < length xs → IsTrue (list_all p (map of xs)) → IsTrue (p (unwrap_or (option_map of (slice_get xs i)) []))
named_at p of [] i within all = absurd (omega arith)
named_at p of (x ∷ xs) zero within all = (and_parts (p (of x)) (list_all p (map of xs)) all).0
named_at p of (x ∷ xs) (suc i) within all = named_at p of xs i (omega arith) (and_parts (p (of x)) (list_all p (map of xs)) all).1

pub interval_told : (m : Data) (x : Itv) → AreTold m → IsTrue (is_itv m x) → IsTrue (is_told (interval_name m x))
interval_told m x told is = named_at is_told (λ d. d.name) m.intervals x.0 (ltb-true x.0 (length m.intervals) is) told.intervals

pub matrix_told : (m : Data) (x : Mat) → AreTold m → IsTrue (is_mat m x) → IsTrue (is_told (matrix_name m x))
matrix_told m x told is = named_at is_told (λ d. d.name) m.matrices x.0 (ltb-true x.0 (length m.matrices) is) told.matrices

pub state_told : (m : Data) (g : Stf) → AreTold m → IsTrue (nat_lt g.0 (length m.states)) → IsTrue (is_told (state_name m g))
state_told m g told is = named_at is_told (λ d. d.name) m.states g.0 (ltb-true g.0 (length m.states) is) told.states

pub intervals_told : (m : Data) (xs : List Itv) → AreTold m → IsTrue (list_all (is_itv m) xs) → IsTrue (list_all is_told (interval_names m xs))
intervals_told m [] told is = refl
intervals_told m (x ∷ xs) told is =
    let parts = and_parts (is_itv m x) (list_all (is_itv m) xs) is in
    and_from (is_told (interval_name m x)) _ (interval_told m x told parts.0) (intervals_told m xs told parts.1)
