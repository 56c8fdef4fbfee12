-- The items of a list: how their reading goes on. There is fuel enough as long as it is no less than the words ahead.
use Rattle.std.proofs.Common.{◌≡◌, ℕ, zero, suc, ◌<◌, ◌≤◌, List, [], ◌∷◌, ◌++◌, length, Some, None, refl, sym, ap, ◌∙◌, arith, append_assoc}
use Rattle.std.specs.Prelude.{codes}
use Rattle.cpo_text.specs.Words.{Word}
use Rattle.cpo_text.specs.code.Rules.{Found, behind}
use Rattle.cpo_text.specs.code.Lists.{after, items_more, items_at}
use Rattle.cpo_text.proofs.operands.Binds.{behind_takes}

after_none : {X : Type 0} (o : Found (List X)) → after [] o ≡ o
after_none None = refl
after_none (Some p) = refl

after_after : {X : Type 0} (a b : List X) (o : Found (List X)) → after a (after b o) ≡ after (a ++ b) o
after_after a b None = refl
after_after {X} a b (Some p) = ap (λ (xs : List X). Some (xs, p.1)) (sym (append_assoc a b p.0))

-- with these items and those ahead the whole is read
pub record Ahead {X : Type 0} (read : List Word → Found X) (whole : Found (List X)) (items : List X) (ws : List Word) : Type 0 where
  pub fuel : ℕ
  pub enough : length ws ≤ fuel
  pub same : after items (items_more read fuel ws) ≡ whole

pub ahead_start : {X : Type 0} (read : List Word → Found X) (items : List X) (ws : List Word) → items ≡ [] → Ahead read (items_at read ws) items ws
unfolding items_at
ahead_start read items ws none = record { fuel = length ws; enough = omega arith; same = rw none (after_none (items_more read (length ws) ws)) }

pub ahead_last : {X : Type 0} (read : List Word → Found X) (whole : Found (List X)) (items : List X) (ws : List Word) (x : X) (r : List Word) → read ws ≡ Some (x, r) → length r < length ws → behind (codes ",") r ≡ None
    → Ahead read whole items ws → whole ≡ Some (items ++ x ∷ [], r)
ahead_last {X} read whole items ws x r is less end so = by_fuel so.fuel so.enough so.same
  where
    by_fuel : (f : ℕ) → length ws ≤ f → after items (items_more read f ws) ≡ whole → whole ≡ Some (items ++ x ∷ [], r)
    by_fuel zero enough same = absurd (omega arith)
    by_fuel (suc f) enough same = sym (rw (is, end) at same)

comma_shorter : (r next : List Word) → behind (codes ",") r ≡ Some next → length next < length r
comma_shorter r next h = omega (arith, ap length (behind_takes (codes ",") r next h))

pub ahead_next : {X : Type 0} (read : List Word → Found X) (whole : Found (List X)) (items : List X) (ws : List Word) (x : X) (r next : List Word) → read ws ≡ Some (x, r) → length r < length ws → behind (codes ",") r ≡ Some next
    → Ahead read whole items ws → Ahead read whole (items ++ x ∷ []) next
ahead_next {X} read whole items ws x r next is less comma so = by_fuel so.fuel so.enough so.same
  where
    by_fuel : (f : ℕ) → length ws ≤ f → after items (items_more read f ws) ≡ whole → Ahead read whole (items ++ x ∷ []) next
    by_fuel zero enough same = absurd (omega arith)
    by_fuel (suc f) enough same =
        let shorter = comma_shorter r next comma in
        record { fuel = f; enough = omega arith; same = sym (after_after items (x ∷ []) (items_more read f next)) ∙ (rw (is, comma) at same) }
