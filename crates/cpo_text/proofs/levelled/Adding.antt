-- Parts of a cumulative expression read one after another: how the loop over them goes on.
use Rattle.std.proofs.Common.{◌≡◌, ℕ, suc, Bool, List, [], ◌∷◌, ◌++◌, Some, None, refl, ap, append_assoc}
use Rattle.cpo_text.specs.Words.{Word}
use Rattle.cpo_text.specs.code.Rules.{Found, sign_in}
use Rattle.cpo_text.specs.code.Lists.{after}
use Rattle.cpo_text.specs.code.Contributions.{part_at, signed, joints, added_at}
use Rattle.cpo_text.specs.declared.cumul.Cpart.{Cpart}
use Rattle.cpo_text.specs.declared.cumul.Signed.{Signed}

regroup : {X : Type 0} (xs : List X) (x : X) (found : Found (List X)) → after (xs ++ x ∷ []) found ≡ after xs (after (x ∷ []) found)
regroup xs x None = refl
regroup {X} xs x (Some p) = ap (λ ys. let q : List X × List Word = (ys, p.1) in Some q) (append_assoc xs (x ∷ []) p.0)

pub added_turn : (g f : ℕ) (ps : List Signed) (m : Bool) (p : Cpart) (ws next rest : List Word) → g ≡ suc f → Some (m, next) ≡ sign_in joints ws → part_at next ≡ Some (p, rest)
    → after (ps ++ signed m p ∷ []) (added_at f rest) ≡ after ps (added_at g ws)
added_turn g f ps m p ws next rest is front got = rw is (rw (← front, got) (regroup ps (signed m p) (added_at f rest)))
