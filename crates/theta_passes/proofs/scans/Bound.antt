-- The places of those who may be late, and the loop over them.
use Rattle.std.specs.Prelude.{◌≡◌, ℕ, ◌+◌, Bool, true, false, not, ◌&&◌, ◌||◌, nat_eq, nat_lt, List, length, Option, refl}
use Rattle.std.proofs.Common.{arith, sym, ap, ◌∙◌}
use Rattle.std.proofs.lemmas.Bool.{and_parts, lt-ltb, ltb-true, true≢false}
use Rattle.theta_passes.specs.declared.parts.Top.{Top}
use Rattle.theta_passes.specs.declared.rows.Row.{Row}
use Rattle.theta_passes.specs.declared.scan.Lows.{Lows}
use Rattle.theta_passes.specs.code.Late.{AreLeft, AreLows, LateCandidate, is_idle}
use Rattle.theta_passes.specs.code.Places.{has_place}
use Rattle.theta_passes.specs.code.Rows.{IsByEst, IsNearRow, row_at}
use Rattle.theta_passes.specs.laws.Members.{is_below as row_below}
use Rattle.theta_passes.proofs.scans.Overs.{WholeTop, idle_early}
use Rattle.theta_passes.proofs.scans.Pushed.{one_more}

-- of those below a place
abbrev pub AreBound : List Row → Lows → Option Top → ℕ → ℕ → Type 0
AreBound rows lows whole n set = (k : ℕ) → has_place set k ≡ (nat_lt k n && not (is_idle lows whole (row_at rows k) k))

pub more_bound : (rows : List Row) (lows : Lows) (whole : Option Top) (n set more : ℕ) (b : Bool) → AreBound rows lows whole n set → ((k : ℕ) → has_place more k ≡ ((not b && nat_eq k n) || has_place set k)) → b ≡ is_idle lows whole (row_at rows n) n → AreBound rows lows whole (n + 1) more
more_bound rows lows whole n set more b before is told k =
    is k ∙ ap (λ t. (not b && nat_eq k n) || t) (before k)
    ∙ one_more k n (not b) (not (is_idle lows whole (row_at rows k) k)) (λ e. ap (λ i. not (is_idle lows whole (row_at rows i) i)) e ∙ ap not (sym told))

pub all_bound : (rows : List Row) (lows : Lows) (whole : Option Top) (n set : ℕ) → length rows ≡ n → ((k : ℕ) → IsNearRow (row_at rows k)) → IsByEst rows → AreLows rows (length rows) lows → WholeTop rows whole → AreBound rows lows whole n set → AreLeft rows set
all_bound rows lows whole n set size near sorted least top before = record {
  within = λ k on. let low = ltb-true k n (and_parts (nat_lt k n) (not (is_idle lows whole (row_at rows k) k)) (sym (before k) ∙ on)).0 in omega (arith, low, size);
  rest = λ k off. decided k (nat_lt k n) refl (is_idle lows whole (row_at rows k) k) refl (sym (before k) ∙ off);
}
  where
    decided : (k : ℕ) (b : Bool) → nat_lt k n ≡ b → (f : Bool) → is_idle lows whole (row_at rows k) k ≡ f → (nat_lt k n && not (is_idle lows whole (row_at rows k) k)) ≡ false → LateCandidate rows k false
    decided k b below true idle off = idle_early rows k lows whole near sorted idle least top
    decided k true below false idle off = let on : (nat_lt k n && not (is_idle lows whole (row_at rows k) k)) ≡ true = rw (below, idle) refl in absurd (true≢false (sym on ∙ off))
    decided k false past false idle off = λ z on late. let low = row_below rows k on in absurd (true≢false (sym (lt-ltb k n (omega (arith, low, size))) ∙ past))
