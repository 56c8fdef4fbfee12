-- A statement that deserves no number passes each test.
use Rattle.std.proofs.Common.{◌≡◌, ℕ, false, [], ◌∷◌, None}
use Rattle.cpo_elab.specs.Stages.{Stage}
use Rattle.cpo_text.specs.declared.tree.Statement.{Statement}
use Rattle.cpo_elab.specs.Judged.{defines_again, uses_unknown, uses_wrong, has_reversed, has_negative, misfits, has_twice, passes_limit, aims_again, has_no_hull, has_crowded, number_in}
use Rattle.cpo_elab.specs.lemmas.Firsts.{all_false}

pub record Clear (st : Stage) (k : ℕ) (s : Statement) : Type 0 where
  pub fresh : defines_again st s ≡ false
  pub known : uses_unknown st s ≡ false
  pub right : uses_wrong st s ≡ false
  pub ordered : has_reversed s ≡ false
  pub signs : has_negative s ≡ false
  pub fitting : misfits st.model s ≡ false
  pub once : has_twice st.model s ≡ false
  pub room : passes_limit st k s ≡ false
  pub single : aims_again st.model s ≡ false
  pub hull : has_no_hull st.model s ≡ false
  pub sparse : has_crowded s ≡ false

pub clear : (st : Stage) (k : ℕ) (s : Statement) → number_in st k s ≡ None → Clear st k s
unfolding number_in
clear st k s h =
    let a = all_false ((defines_again st s, 4) ∷ (uses_unknown st s, 5) ∷ (uses_wrong st s, 6) ∷ (has_reversed s, 7) ∷ (has_negative s, 8) ∷ (misfits st.model s, 9)
    ∷ (has_twice st.model s, 10) ∷ (passes_limit st k s, 11) ∷ (aims_again st.model s, 12) ∷ (has_no_hull st.model s, 13) ∷ (has_crowded s, 14) ∷ []) h in
    let b = a.1.1.1 in
    let c = b.1.1.1 in
    let d = c.1.1.1 in
    record { fresh = a.0; known = a.1.0; right = a.1.1.0; ordered = b.0; signs = b.1.0; fitting = b.1.1.0; once = c.0; room = c.1.0; single = c.1.1.0; hull = d.0; sparse = d.1.0 }
