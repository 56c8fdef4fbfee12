-- Rows in any order give the same.
use Rattle.std.proofs.Common.{◌≡◌, ℤ, ◌-ℤ◌, ◌*ℤ◌, ◌<ℤ◌, List, sym, subst, arith}
use Rattle.std.specs.Prelude.{Option, Some, None}
use Rattle.std.specs.List.Sorted.{IsPermutation}
use Rattle.std.proofs.lemmas.List.Sorted.{All-permutation, Contains-permutation, IsPermutation-sym, length_permutation}
use Rattle.energy_pass.specs.declared.rows.Row.{Row}
use Rattle.energy_pass.specs.code.Rows.{AreRows, IsNearRow, IsMoment, IsOver, GivesOver, GivesStart, GivesEnd}
use Rattle.energy_pass.proofs.Loads.{load_moved}

pub rows_moved : (xs ys : List Row) → AreRows xs → IsPermutation xs ys → AreRows ys
rows_moved xs ys are moved = record { few = omega (arith, are.few, length_permutation xs ys moved); near = All-permutation IsNearRow xs ys moved are.near }

over_moved : (xs ys : List Row) (c start end : ℤ) → IsPermutation xs ys → IsOver ys c start end → IsOver xs c start end
over_moved xs ys c start end moved over = record {
  row = over.row;
  there = Contains-permutation ys xs over.row (IsPermutation-sym xs ys moved) over.there;
  starts = over.starts;
  ends = over.ends;
  over = subst (λ z. (c *ℤ (end -ℤ start)) <ℤ z) (load_moved start end xs ys moved) over.over;
}

pub end_moment : (ys : List Row) (c end : ℤ) → GivesEnd ys c (Some end) → IsMoment end
end_moment ys c end gives = gives.0

pub no_cut : (xs ys : List Row) (c : ℤ) → IsPermutation xs ys → GivesEnd ys c None → GivesOver xs c None
no_cut xs ys c moved none start end over = none start end (over_moved ys xs c start end (IsPermutation-sym xs ys moved) over)

pub no_start : (xs ys : List Row) (c end : ℤ) → GivesEnd ys c (Some end) → GivesStart ys c end None → GivesOver xs c None
no_start xs ys c end gives none = absurd (none gives.1.0 gives.1.1)

pub some_cut : (xs ys : List Row) (c start end : ℤ) → IsPermutation xs ys → GivesStart ys c end (Some start) → GivesOver xs c (Some (record { start = start; end = end }))
some_cut xs ys c start end moved found = over_moved xs ys c start end moved found

-- the same in the forms in which a function has them
pub no_cut_as : (xs ys : List Row) (c d : ℤ) (o : Option ℤ) → IsPermutation xs ys → d ≡ c → o ≡ None → GivesEnd ys d o → GivesOver xs c None
no_cut_as xs ys c d o moved same is none = no_cut xs ys c moved (subst (λ z. GivesEnd ys z None) same (subst (GivesEnd ys d) is none))

pub no_start_as : (xs ys : List Row) (c d d' end stop : ℤ) (o : Option ℤ) → d ≡ c → d' ≡ c → stop ≡ end → o ≡ Some end → GivesEnd ys d o → GivesStart ys d' stop None → GivesOver xs c None
no_start_as xs ys c d d' end stop o same same' stopped is gives none =
    no_start xs ys c end (subst (λ z. GivesEnd ys z (Some end)) same (subst (GivesEnd ys d) is gives)) (subst (λ z. GivesStart ys z end None) same' (subst (λ e. GivesStart ys d' e None) stopped none))

pub some_cut_as : (xs ys : List Row) (c d start from end stop until : ℤ) → IsPermutation xs ys → d ≡ c → stop ≡ end → from ≡ start → until ≡ end → GivesStart ys d stop (Some start) → GivesOver xs c (Some (record { start = from; end = until }))
some_cut_as xs ys c d start from end stop until moved same stopped first last found =
    subst (λ s. IsOver xs c s until) (sym first) (subst (λ e. IsOver xs c start e) (sym last) (some_cut xs ys c start end moved (subst (λ z. GivesStart ys z end (Some start)) same (subst (λ e. GivesStart ys d e (Some start)) stopped found))))
