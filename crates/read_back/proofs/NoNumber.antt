-- A statement deserves no number where no test fails it, and only there.
use Rattle.std.proofs.Common.{◌≡◌, ℕ, Bool, true, false, List, [], ◌∷◌, None, refl}
use Rattle.cpo_elab.specs.Stages.{Stage}
use Rattle.cpo_text.specs.declared.tree.Statement.{Statement}
use Rattle.cpo_elab.specs.Judged.{defines_again, uses_unknown, uses_wrong, has_reversed, has_negative, misfits, has_twice, passes_limit, aims_again, has_no_hull, has_crowded, first_of, number_in}
use Rattle.cpo_elab.specs.lemmas.Firsts.{all_false, AllFalse}

-- no test fails the statement
pub record Passes (st : Stage) (k : ℕ) (s : Statement) : Type 0 where
  pub again : defines_again st s ≡ false
  pub unknown : uses_unknown st s ≡ false
  pub wrong : uses_wrong st s ≡ false
  pub reversed : has_reversed s ≡ false
  pub negative : has_negative s ≡ false
  pub misfit : misfits st.model s ≡ false
  pub twice : has_twice st.model s ≡ false
  pub limit : passes_limit st k s ≡ false
  pub aimed : aims_again st.model s ≡ false
  pub hull : has_no_hull st.model s ≡ false
  pub crowded : has_crowded s ≡ false

abbrev tests : Stage → ℕ → Statement → List (Bool × ℕ)
tests st k s = (defines_again st s, 4) ∷ (uses_unknown st s, 5) ∷ (uses_wrong st s, 6) ∷ (has_reversed s, 7) ∷ (has_negative s, 8) ∷ (misfits st.model s, 9)
    ∷ (has_twice st.model s, 10) ∷ (passes_limit st k s, 11) ∷ (aims_again st.model s, 12) ∷ (has_no_hull st.model s, 13) ∷ (has_crowded s, 14) ∷ []

none_first : (b : Bool) (n : ℕ) (ts : List (Bool × ℕ)) → b ≡ false → first_of ts ≡ None → first_of ((b, n) ∷ ts) ≡ None
none_first true n ts h rest = cc
none_first false n ts h rest = rest

none_says_so : (ts : List (Bool × ℕ)) → AllFalse ts → first_of ts ≡ None
none_says_so [] h = refl
none_says_so (t ∷ ts) h = none_first t.0 t.1 ts h.0 (none_says_so ts h.1)

pub no_number : (st : Stage) (k : ℕ) (s : Statement) → Passes st k s → number_in st k s ≡ None
unfolding number_in
no_number st k s p = none_says_so (tests st k s) (p.again, (p.unknown, (p.wrong, (p.reversed, (p.negative, (p.misfit, (p.twice, (p.limit, (p.aimed, (p.hull, (p.crowded, tt)))))))))))

pub passes_all : (st : Stage) (k : ℕ) (s : Statement) → number_in st k s ≡ None → Passes st k s
unfolding number_in
passes_all st k s h =
    let a = all_false (tests st k s) h in
    let b = a.1.1.1 in
    let c = b.1.1.1 in
    let d = c.1.1.1 in
    record {
      again = a.0;
      unknown = a.1.0;
      wrong = a.1.1.0;
      reversed = b.0;
      negative = b.1.0;
      misfit = b.1.1.0;
      twice = c.0;
      limit = c.1.0;
      aimed = c.1.1.0;
      hull = d.0;
      crowded = d.1.0;
    }
