-- A limit of the budget or more is enough.
use Rattle.std.specs.Prelude.{◌≡◌, ℕ, ◌+◌, ◌*◌, ◌≤◌, ◌<◌, Bool, true, false}
use Rattle.std.proofs.Common.{refl, arith}
use Rattle.std.proofs.Math.Nat.{mul-le-mul_right}
use Rattle.sched_model.specs.Data.{Data}
use Rattle.region.specs.Points.{budget_of}
use Rattle.kernel.specs.laws.Budget.{budget_with}

-- with at most r restarts among the lines, of which there may be `most`
fewer_sum : (k limit n r c : ℕ) → k < (n + 1) * c → (n + 1) * c ≤ (r + 1) * c → (r + 1) * c ≤ limit → k ≡ limit → ⊥
fewer_sum k limit n r c below more enough is = absurd (omega (arith, below, more, enough, is))

finished : (b : Bool) → (b ≡ true → ⊥) → b ≡ false
finished true h = absurd (h refl)
finished false h = refl

more_restarts : (n r c : ℕ) → n ≤ r → (n + 1) * c ≤ (r + 1) * c
more_restarts n r c few = mul-le-mul_right c (omega (arith, few))

-- nodes below the budget of the restarts that there were, as the kernel promises; at most so many; and unfinished only once the limit was met
pub never_unfinished : (m : Data) (unfinished : Bool) (k limit n r : ℕ) → k < budget_with m n → n ≤ r → (unfinished ≡ true → k ≡ limit) → budget_with m r ≤ limit → unfinished ≡ false
never_unfinished m unfinished k limit n r below few limited enough =
    finished unfinished (λ open_one. fewer_sum k limit n r (budget_of m) below (more_restarts n r (budget_of m) few) enough (limited open_one))
