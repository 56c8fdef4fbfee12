-- The list of arguments: how its reading goes on, and that its fuel is of no matter.
use Rattle.std.proofs.Common.{◌≡◌, ℕ, zero, suc, ◌<◌, ◌≤◌, true, false, cond, List, [], ◌∷◌, ◌++◌, length, Option, Some, None, refl, sym, ap, ◌∙◌, arith}
use Rattle.std.specs.Prelude.{codes, Err}
use Rattle.cpo_text.specs.code.Gives.{Gives}
use Rattle.cpo_text.specs.declared.fault.Fault.{Fault}
use Rattle.cpo_text.specs.declared.fault.Fault.TheVariants.{Outside, NoMemory}
use Rattle.cpo_text.specs.Words.{Word}
use Rattle.cpo_text.specs.code.Rules.{Found, bound, behind, if_behind, ivarg_at, has_sort, ivargs_more, ivargs_at}
use Rattle.cpo_text.specs.declared.tree.Ivarg.{Ivarg}
use Rattle.cpo_text.proofs.operands.Takes.{ivarg_shorter, behind_shorter}

ivarg_at_end : ivarg_at [] ≡ None
unfolding ivarg_at
ivarg_at_end = refl

abbrev More : Type 0
More = List Ivarg → List Word → Found (List Ivarg)

abbrev turn : More → List Ivarg → Found Ivarg → Found (List Ivarg)
turn more seen o = bound o (λ a r. cond (has_sort a seen) None (if_behind (behind (codes ",") r) (more (seen ++ a ∷ [])) (Some (seen ++ a ∷ [], r))))

fuel : (f g : ℕ) (seen : List Ivarg) (ws : List Word) → length ws ≤ f → length ws ≤ g → ivargs_more f seen ws ≡ ivargs_more g seen ws
fuel zero zero seen ws a b = refl
fuel zero (suc g) seen [] a b = rw ivarg_at_end refl
fuel zero (suc g) seen (w ∷ ws) a b = absurd (omega arith)
fuel (suc f) zero seen [] a b = rw ivarg_at_end refl
fuel (suc f) zero seen (w ∷ ws) a b = absurd (omega arith)
fuel (suc f) (suc g) seen ws a b = by_arg (fuel f g) (ivarg_at ws) refl
  where
    by_rest : ((seen : List Ivarg) (ws : List Word) → length ws ≤ f → length ws ≤ g → ivargs_more f seen ws ≡ ivargs_more g seen ws) → (r : List Word) → length r < length ws → (args : List Ivarg) (o : Option (List Word)) → behind (codes ",") r ≡ o
        → if_behind o (ivargs_more f args) (Some (args, r)) ≡ if_behind o (ivargs_more g args) (Some (args, r))
    by_rest same r short args None is = refl
    by_rest same r short args (Some next) is = let less = behind_shorter (codes ",") r next is in same args next (omega arith) (omega arith)

    by_arg : ((seen : List Ivarg) (ws : List Word) → length ws ≤ f → length ws ≤ g → ivargs_more f seen ws ≡ ivargs_more g seen ws) → (o : Found Ivarg) → ivarg_at ws ≡ o → turn (ivargs_more f) seen o ≡ turn (ivargs_more g) seen o
    by_arg same None is = refl
    by_arg same (Some p) is = ap (cond (has_sort p.0 seen) None) (by_rest same p.1 (ivarg_shorter ws p.0 p.1 is) (seen ++ p.0 ∷ []) (behind (codes ",") p.1) refl)

-- one argument further
ivargs_turn : (f : ℕ) (seen : List Ivarg) (ws : List Word) (o : Found Ivarg) → length ws ≤ suc f → ivarg_at ws ≡ o → ivargs_at seen ws ≡ turn (ivargs_more f) seen o
unfolding ivargs_at
ivargs_turn f seen ws o long is = fuel (length ws) (suc f) seen ws (omega arith) long ∙ ap (turn (ivargs_more f) seen) is

pub ivargs_none : (seen : List Ivarg) (ws : List Word) → None ≡ ivarg_at ws → ivargs_at seen ws ≡ None
ivargs_none seen ws is = ivargs_turn (length ws) seen ws None (omega arith) (sym is)

pub ivargs_twice : (seen : List Ivarg) (ws r : List Word) (a : Ivarg) → ivarg_at ws ≡ Some (a, r) → has_sort a seen ≡ true → ivargs_at seen ws ≡ None
ivargs_twice seen ws r a is twice = ivargs_turn (length ws) seen ws (Some (a, r)) (omega arith) is ∙ rw twice refl

pub ivargs_last : (seen : List Ivarg) (ws r : List Word) (a : Ivarg) → ivarg_at ws ≡ Some (a, r) → has_sort a seen ≡ false → behind (codes ",") r ≡ None → ivargs_at seen ws ≡ Some (seen ++ a ∷ [], r)
ivargs_last seen ws r a is new end = ivargs_turn (length ws) seen ws (Some (a, r)) (omega arith) is ∙ rw (new, end) refl

pub ivargs_next : (seen : List Ivarg) (ws r next : List Word) (a : Ivarg) → ivarg_at ws ≡ Some (a, r) → has_sort a seen ≡ false → behind (codes ",") r ≡ Some next
    → ivargs_at seen ws ≡ ivargs_at (seen ++ a ∷ []) next
unfolding ivargs_at
ivargs_next seen ws r next a is new more =
    let less = ivarg_shorter ws a r is in
    let less' = behind_shorter (codes ",") r next more in
    ivargs_turn (length ws) seen ws (Some (a, r)) (omega arith) is ∙ rw (new, more) (fuel (length ws) (length next) (seen ++ a ∷ []) next (omega arith) (omega arith))

pub ivargs_smaller : (ws r next : List Word) (a : Ivarg) → ivarg_at ws ≡ Some (a, r) → behind (codes ",") r ≡ Some next → length next < length ws
ivargs_smaller ws r next a is more = let less = ivarg_shorter ws a r is in let less' = behind_shorter (codes ",") r next more in omega arith

-- a fault of an argument is one of the list
pub ivargs_fault : (e : Fault) (seen : List Ivarg) (ws : List Word) (whole : Found (List Ivarg)) → Gives {X = Ivarg} (Err e) (ivarg_at ws) → ivargs_at seen ws ≡ whole → Gives {X = List Ivarg} (Err e) whole
ivargs_fault Outside seen ws whole none same = sym same ∙ ivargs_none seen ws (sym none)
ivargs_fault NoMemory seen ws whole none same = tt
