-- A rank is made factor by factor.
use Rattle.std.specs.Prelude.{is_some, unwrap_or}
use Rattle.std.proofs.Common.{◌≡◌, ℕ, zero, suc, ◌+◌, ◌*◌, ◌^◌, ◌<◌, ℤ, pos, Bool, true, false, ◌&&◌, cond, List, [], ◌∷◌, ◌++◌, length, map, drop, Option, Some, None, option_map, option_and_then, nat_le, refl, sym, ap, subst, ◌∙◌, append_assoc, arith}
use Rattle.std.proofs.lemmas.Int.{ints}
use Rattle.std.proofs.lemmas.Bool.Decides.{nat_tests}
use Rattle.sched_model.specs.declared.types.Expr.{Expr, roll-Expr}
use Rattle.sched_model.specs.declared.types.Expr.TheOpen.{Expr-F as expr}
use Rattle.sched_model.specs.Words.{all_of}
use Rattle.sched_model.specs.Bounds.{is_small}
use Rattle.sched_model.specs.Ranges.{Ends}
use Rattle.sched_model.specs.Data.{Data}
use Rattle.sched_model.specs.Hull.{hull_of}
use Rattle.sched_model.specs.Rank.{weight, weighted, times, rank_of, rank_within}
use Rattle.sched_model.specs.code.Ranks.{limited_weight, weight_of, front_weight, weights_of, times_lit, by_weights}
use Rattle.sched_model.specs.laws.Ranked.{HaveHulls, have_hulls, all_hulls, AreSmallWeights, weights_small, parts_of_sum}

split : (es : List Expr) (i : ℕ) → i < length es → (e : Expr) × (drop i es ≡ e ∷ drop (i + 1) es)
split [] i h = absurd (omega (arith, h))
split (e ∷ es) zero h = (e, refl)
split (e ∷ es) (suc i) h = let r = split es i (omega (arith, h)) in (r.0, r.1 ∙ ap (λ k. r.0 ∷ drop k (e ∷ es)) (later i))
  where
    later : (i : ℕ) → suc (i + 1) ≡ suc i + 1
    later i = omega arith

-- The weights, one after another.

pub weights_turn : (m : Data) (ys : List ℤ) (es : List Expr) (i : ℕ) (w : ℤ) (whole : Option (List ℤ)) → option_map (λ ws. ys ++ ws) (weights_of m (drop i es)) ≡ whole → i < length es → Some w ≡ front_weight m (drop i es)
    → option_map (λ ws. (ys ++ w ∷ []) ++ ws) (weights_of m (drop (i + 1) es)) ≡ whole
weights_turn m ys es i w whole before within is =
    let s = split es i within in
    sym (stepped s.0 (drop (i + 1) es) (is ∙ ap (front_weight m) s.1)) ∙ ap (λ xs. option_map (λ ws. ys ++ ws) (weights_of m xs)) (sym s.1) ∙ before
  where
    joined : (o : Option (List ℤ)) → option_map (λ ws. ys ++ ws) (option_map (λ ws. w ∷ ws) o) ≡ option_map (λ ws. (ys ++ w ∷ []) ++ ws) o
    joined None = refl
    joined (Some ws) = ap Some (simp append_assoc)

    stepped : (e : Expr) (rest : List Expr) → Some w ≡ front_weight m (e ∷ rest) → option_map (λ ws. ys ++ ws) (weights_of m (e ∷ rest)) ≡ option_map (λ ws. (ys ++ w ∷ []) ++ ws) (weights_of m rest)
    stepped e rest is = ap (λ o. option_map (λ ws. ys ++ ws) (option_and_then (λ z. option_map (λ ws. z ∷ ws) (weights_of m rest)) o)) (sym is) ∙ joined (weights_of m rest)

-- Where all weights are there, their sum is the rank.

weight_is : (n : ℕ) (w : ℤ) → limited_weight n ≡ Some w → w ≡ pos n
weight_is n w h = by_case (nat_le n (2 ^ 62)) h
  where
    by_case : (b : Bool) → cond b (Some (pos n)) None ≡ Some w → w ≡ pos n
    by_case true h = cc
    by_case false h = cc

once : (n : ℕ) → 1 * n ≡ n
once n = omega arith

weight_told : (m : Data) (es : List Expr) (rs : List Ends) (w : ℤ) → HaveHulls m es rs → weight_of m es ≡ Some w → w ≡ pos (weight rs)
weight_told m es rs w hulls is =
    weight_is (1 * weight rs) w (sym (ap (λ o. option_and_then (λ xs. limited_weight (1 * weight xs)) o) (all_hulls m es rs hulls)) ∙ is) ∙ ap pos (once (weight rs))

pub record Weighed (m : Data) (ws : List ℤ) (es : List Expr) : Type 0 where
  pub rs : List Ends
  pub hulls : HaveHulls m es rs
  pub same : by_weights ws es ≡ weighted rs es
  pub long : length ws ≡ length es

pub weights_told : (m : Data) (es : List Expr) (ws : List ℤ) → Some ws ≡ weights_of m es → Weighed m ws es
weights_told m [] ws h = let e : [] ≡ ws = cc in subst (λ xs. Weighed m xs []) e (record { rs = []; hulls = tt; same = refl; long = refl })
weights_told m (e ∷ es) ws h = by_parts (hull_of m e) refl (weight_of m es) refl (weights_of m es) refl (λ vs. weights_told m es vs) h
  where
    by_parts : (q : Option Ends) → hull_of m e ≡ q → (o : Option ℤ) → weight_of m es ≡ o → (p : Option (List ℤ)) → weights_of m es ≡ p → ((vs : List ℤ) → Some vs ≡ weights_of m es → Weighed m vs es)
        → Some ws ≡ option_and_then (λ w. option_map (λ vs. w ∷ vs) p) (option_and_then (λ r. o) q) → Weighed m ws (e ∷ es)
    by_parts None hull o weighs p rest others h = cc
    by_parts (Some r) hull None weighs p rest others h = cc
    by_parts (Some r) hull (Some w) weighs None rest others h = cc
    by_parts (Some r) hull (Some w) weighs (Some vs) rest others h =
        let is : w ∷ vs ≡ ws = cc in
        let k = others vs (sym rest) in
        let one : w ≡ pos (weight k.rs) = weight_told m es k.rs w k.hulls weighs in
        subst (λ xs. Weighed m xs (e ∷ es)) is (record {
          rs = r ∷ k.rs;
          hulls = (hull, k.hulls);
          same = ap (λ z. times_lit e z ∷ by_weights vs es) one ∙ ap (λ xs. times e (weight k.rs) ∷ xs) k.same;
          long = ap suc k.long;
        })

rank_is : (m : Data) (es : List Expr) (ws : List ℤ) → Weighed m ws es → roll-Expr (expr.Sum (by_weights ws es)) ≡ rank_of m es
rank_is m es ws k =
    ap (λ xs. roll-Expr (expr.Sum xs)) k.same
    ∙ ap (λ o. roll-Expr (expr.Sum (weighted (unwrap_or o []) es))) (sym (all_hulls m es k.rs k.hulls))

pub rank_made : (m : Data) (es : List Expr) (ws : List ℤ) (e : Expr) → Some ws ≡ weights_of m es → e ≡ roll-Expr (expr.Sum (by_weights ws es)) → is_some (hull_of m e) ≡ true → Some e ≡ rank_within m es
rank_made m es ws e found is hull =
    let k = weights_told m es ws found in
    let same : e ≡ rank_of m es = is ∙ rank_is m es ws k in
    ap Some same
    ∙ ap (λ b. cond (true && b) (Some (rank_of m es)) None) (sym hull ∙ ap (λ x. is_some (hull_of m x)) same)
    ∙ ap (λ o. cond (is_some o && is_some (hull_of m (rank_of m es))) (Some (rank_of m es)) None) (sym (all_hulls m es k.rs k.hulls))

pub rank_unbounded : (m : Data) (es : List Expr) (ws : List ℤ) (e : Expr) → Some ws ≡ weights_of m es → e ≡ roll-Expr (expr.Sum (by_weights ws es)) → is_some (hull_of m e) ≡ false → None ≡ rank_within m es
rank_unbounded m es ws e found is none =
    let k = weights_told m es ws found in
    let same : e ≡ rank_of m es = is ∙ rank_is m es ws k in
    ap (λ b. cond (true && b) (Some (rank_of m es)) None) (sym none ∙ ap (λ x. is_some (hull_of m x)) same)
    ∙ ap (λ o. cond (is_some o && is_some (hull_of m (rank_of m es))) (Some (rank_of m es)) None) (sym (all_hulls m es k.rs k.hulls))

-- Where a weight is missing, the criteria have no rank.

weight_there : (m : Data) (es : List Expr) (rs : List Ends) → HaveHulls m es rs → is_small (pos (weight rs)) ≡ true → weight_of m es ≡ Some (pos (weight rs))
weight_there m es rs hulls small =
    ap (λ o. option_and_then (λ xs. limited_weight (1 * weight xs)) o) (all_hulls m es rs hulls)
    ∙ ap limited_weight (once (weight rs))
    ∙ ap (λ b. cond b (Some (pos (weight rs))) None) (few (weight rs) small)
  where
    few : (n : ℕ) → is_small (pos n) ≡ true → nat_le n (2 ^ 62) ≡ true
    few n h = grind (arith, ints, nat_tests)

weights_there : (m : Data) (es : List Expr) (rs : List Ends) → HaveHulls m es rs → AreSmallWeights rs → None ≡ weights_of m es → ⊥
weights_there m [] [] h k none = cc
weights_there m [] (r ∷ rs) h k none = absurd h
weights_there m (e ∷ es) [] h k none = absurd h
weights_there m (e ∷ es) (r ∷ rs) h k none =
    weights_there m es rs h.1 k.1 (none_more (weights_of m es) (none
    ∙ ap (λ q. option_and_then (λ w. option_map (λ vs. w ∷ vs) (weights_of m es)) (option_and_then (λ x. weight_of m es) q)) h.0
    ∙ ap (λ o. option_and_then (λ w. option_map (λ vs. w ∷ vs) (weights_of m es)) o) (weight_there m es rs h.1 k.0)))
  where
    none_more : (o : Option (List ℤ)) → None ≡ option_map (λ vs. pos (weight rs) ∷ vs) o → None ≡ o
    none_more None h = refl
    none_more (Some vs) h = cc

pub rank_missing : (m : Data) (es : List Expr) → None ≡ weights_of m es → None ≡ rank_within m es
rank_missing m es none = by_hulls (all_of (map (hull_of m) es)) refl
  where
    by_hulls : (o : Option (List Ends)) → all_of (map (hull_of m) es) ≡ o → None ≡ rank_within m es
    by_hulls None hulls = ap (λ o. cond (is_some o && is_some (hull_of m (rank_of m es))) (Some (rank_of m es)) None) (sym hulls)
    by_hulls (Some rs) hulls = by_rank (hull_of m (rank_of m es)) refl
      where
        unbounded : (b : Bool) → None ≡ cond (b && false) (Some (rank_of m es)) None
        unbounded true = refl
        unbounded false = refl

        by_rank : (q : Option Ends) → hull_of m (rank_of m es) ≡ q → None ≡ rank_within m es
        by_rank None hull = unbounded (is_some (all_of (map (hull_of m) es))) ∙ ap (λ q. cond (is_some (all_of (map (hull_of m) es)) && is_some q) (Some (rank_of m es)) None) (sym hull)
        by_rank (Some h) hull =
            let have = have_hulls m es rs hulls in
            let parts = parts_of_sum m (weighted rs es) h (ap (λ o. hull_of m (roll-Expr (expr.Sum (weighted (unwrap_or o []) es)))) (sym hulls) ∙ hull) in
            absurd (weights_there m es rs have (weights_small m es rs parts.0 have parts.1) none)
