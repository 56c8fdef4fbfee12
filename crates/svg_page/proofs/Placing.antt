-- The place of a sequence, constraint by constraint.
use Rattle.std.specs.Prelude.{if◌then◌else◌}
use Rattle.std.proofs.Common.{◌≡◌, ◌∙◌, ℕ, ◌+◌, ◌<◌, ◌≤◌, true, false, List, Option, Some, None, length, drop, get_or, sym, ap}
use Rattle.std.proofs.lemmas.List.{at_drop_more, at_drop_all}
use Rattle.sched_model.specs.declared.types.Constraint.{Constraint}
use Rattle.svg_page.specs.Bars.{is_overlap_of, overlap_from}

next : (i k : ℕ) (cs : List Constraint) (d : Constraint) → k < length cs → overlap_from i k (drop k cs) ≡ (if is_overlap_of i (get_or cs k d) then Some k else overlap_from i (k + 1) (drop (k + 1) cs))
next i k cs d within = at_drop_more (overlap_from i k) cs k d within

pub overlap_here : (i k : ℕ) (cs : List Constraint) (d : Constraint) (o : Option ℕ) → k < length cs → overlap_from i k (drop k cs) ≡ o → true ≡ is_overlap_of i (get_or cs k d) → Some k ≡ o
overlap_here i k cs d o within so_far is = ap (λ b. if b then Some k else overlap_from i (k + 1) (drop (k + 1) cs)) is ∙ sym (next i k cs d within) ∙ so_far

pub overlap_behind : (i k : ℕ) (cs : List Constraint) (d : Constraint) (o : Option ℕ) → k < length cs → overlap_from i k (drop k cs) ≡ o → false ≡ is_overlap_of i (get_or cs k d) → overlap_from i (k + 1) (drop (k + 1) cs) ≡ o
overlap_behind i k cs d o within so_far is = ap (λ b. if b then Some k else overlap_from i (k + 1) (drop (k + 1) cs)) is ∙ sym (next i k cs d within) ∙ so_far

pub no_overlap : (i k : ℕ) (cs : List Constraint) (o : Option ℕ) → length cs ≤ k → overlap_from i k (drop k cs) ≡ o → None ≡ o
no_overlap i k cs o past so_far = sym (at_drop_all (overlap_from i k) cs k past) ∙ so_far
