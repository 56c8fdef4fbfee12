-- A statement that deserves no number uses each name as what it is, multiplies no two intervals, and defines no word that is left out.
use Rattle.std.proofs.Common.{◌≡◌, ℕ, pos, Bool, true, false, not, ◌||◌, List, Option, Some, None, if◌then◌else◌, refl, subst}
use Rattle.std.specs.List.{list_any}
use Rattle.std.specs.Str.{bytes_eq}
use Rattle.std.proofs.lemmas.Bool.{or_parts, not_from_false}
use Rattle.sched_model.specs.Words.{passes, passes_if_any}
use Rattle.sched_model.specs.Data.{Data}
use Rattle.cpo_text.specs.Words.{Word}
use Rattle.cpo_text.specs.Runs.{left_out_words, has_left_out, is_deep, has_many_nestings, early}
use Rattle.cpo_text.specs.Spelling.{spelling, is_formed, IsStatement}
use Rattle.cpo_text.specs.declared.tree.Statement.{Statement}
use Rattle.cpo_text.specs.declared.tree.Statement.TheVariants.{Empty, Define, Constrain, Forbid, Aim, Rank}
use Rattle.cpo_elab.specs.Stages.{Stage, is_function, function_in}
use Rattle.cpo_elab.specs.Named.{some_name, name_defined}
use Rattle.cpo_elab.specs.Judged.{is_of_other_sort, lacks_member, has_crowded, number_in}
use Rattle.read_back.proofs.written.Fine.{is_kept}
use Rattle.read_back.proofs.NoNumber.{passes_all}

-- what the grammar and the words say
pub record Told (s : Statement) : Type 0 where
  pub formed : is_formed s ≡ true
  pub kept : passes_if_any is_kept (name_defined s) ≡ true

-- what the model so far says
pub record Clear (m : Data) (s : Statement) : Type 0 where
  pub uses : some_name (is_of_other_sort m) s ≡ false
  pub sparse : has_crowded s ≡ false

pub clear : (st : Stage) (k : ℕ) (s : Statement) → number_in st k s ≡ None → Clear st.model s
clear st k s h =
    let all = passes_all st k s h in
    let both = or_parts (passes (λ f. not (is_function st f)) (function_in s)) (some_name (is_of_other_sort st.model) s || lacks_member st.model s) all.wrong in
    record { uses = (or_parts (some_name (is_of_other_sort st.model) s) (lacks_member st.model s) both.1).0; sparse = all.crowded }

none_left_out : (b : Bool) (n : ℕ) (o : Option ℕ) → (if b then Some n else o) ≡ None → b ≡ false
none_left_out true n o h = cc h
none_left_out false n o h = refl

no_left_out : (ws : List Word) → early ws ≡ None → has_left_out ws ≡ false
no_left_out ws h = none_left_out (has_left_out ws) 14 (if is_deep (pos 0) ws || has_many_nestings ws then Some 11 else None) h

name_kept : (s : Statement) → has_left_out (spelling s) ≡ false → passes_if_any is_kept (name_defined s) ≡ true
name_kept Empty h = refl
name_kept (Define n d) h = not_from_false (list_any (bytes_eq n) left_out_words) (or_parts (list_any (bytes_eq n) left_out_words) _ h).0
name_kept (Constrain c) h = refl
name_kept (Forbid w a f) h = refl
name_kept (Aim s e) h = refl
name_kept (Rank s es) h = refl

pub told : (ws : List Word) (s : Statement) → early ws ≡ None → IsStatement ws s → Told s
told ws s none is = record { formed = is.formed; kept = name_kept s (subst (λ x. has_left_out x ≡ false) is.spelt (no_left_out ws none)) }
