-- The demands of a function, one after the other.
use Rattle.std.specs.Prelude.{◌≡◌, ℕ, ◌+◌, Bool, true, false, List, [], ◌∷◌, ◌++◌, if◌then◌else◌}
use Rattle.std.specs.List.{filter, range_with_len}
use Rattle.std.proofs.Common.{refl, sym, ap, ◌∙◌, arith}
use Rattle.std.proofs.lemmas.List.Elements.{filter-append}
use Rattle.sched_model.specs.Data.{Data}
use Rattle.refute_state.specs.code.Gathered.{demands_at, demands_below}
use Rattle.base_laws.specs.laws.Lists.{range_more}

filtered_one : (p : ℕ → Bool) (n : ℕ) (b : Bool) → p n ≡ b → filter p (n ∷ []) ≡ (if b then n ∷ [] else [])
filtered_one p n true is = ap (λ b. if b then n ∷ [] else []) is
filtered_one p n false is = ap (λ b. if b then n ∷ [] else []) is

below_more : (m : Data) (g n : ℕ) (b : Bool) → demands_at m g n ≡ b → demands_below m g (n + 1) ≡ demands_below m g n ++ (if b then n ∷ [] else [])
below_more m g n b is = ap (filter (demands_at m g)) (range_more 0 n ∙ (let same : 0 + n ≡ n = omega arith in ap (λ k. range_with_len 0 n ++ k ∷ []) same)) ∙ filter-append (demands_at m g) (range_with_len 0 n) (n ∷ []) ∙ ap (λ xs. demands_below m g n ++ xs) (filtered_one (demands_at m g) n b is)

nothing_more : {X : Type 0} (xs : List X) → xs ++ [] ≡ xs
nothing_more [] = refl
nothing_more (x ∷ xs) = ap (λ ys. x ∷ ys) (nothing_more xs)

pub demand_more : (m : Data) (g n : ℕ) (xs ys : List ℕ) → xs ≡ demands_below m g n → demands_at m g n ≡ true → ys ≡ xs ++ n ∷ [] → ys ≡ demands_below m g (n + 1)
demand_more m g n xs ys before is made = made ∙ ap (λ zs. zs ++ n ∷ []) before ∙ sym (below_more m g n true is)

pub demand_none : (m : Data) (g n : ℕ) (xs : List ℕ) → xs ≡ demands_below m g n → demands_at m g n ≡ false → xs ≡ demands_below m g (n + 1)
demand_none m g n xs before is = before ∙ sym (nothing_more (demands_below m g n)) ∙ sym (below_more m g n false is)
