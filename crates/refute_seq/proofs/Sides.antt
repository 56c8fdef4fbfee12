-- The numbers of tasks: of intervals that aren't there, and on both sides.
use Rattle.std.specs.Prelude.{◌≡◌, ◌≤◌, ℕ, zero, suc, ℤ, pos, neg_ℤ, is_some, length}
use Rattle.std.specs.List.{position}
use Rattle.std.proofs.Common.{refl, sym, ap, ◌∙◌}
use Rattle.std.proofs.lemmas.List.{get_or_past}
use Rattle.base_laws.specs.laws.Places.{found}
use Rattle.sched_base.specs.declared.ids.Itv.{Itv}
use Rattle.sched_base.specs.declared.ids.Seq.{Seq}
use Rattle.sched_model.specs.Data.{Data, same, has, members_of}
use Rattle.region.specs.Cells.{Region, bounds_of, cells_of, unknown}
use Rattle.region.specs.Looks.{IsRegionOf, est_of, lct_of, lst_of, ect_of}
use Rattle.region.specs.laws.Narrowing.{members_are}
use Rattle.task_sets.specs.Times.{Times, seen_in, turned}
use Rattle.refute_seq.specs.Sets.{times_in, times_of}

-- a member has a place
pub member_is : (m : Data) (r : Region) (p : Seq) (x : Itv) → IsRegionOf m r → is_some (position (same x) (cells_of r p).members) ≡ has (members_of m p) x
member_is m r p x of = found (same x) (cells_of r p).members ∙ ap (λ ms. has ms x) (members_are m r p of)

-- of an interval that isn't there nothing is known
none_at : (r : Region) (side n : ℕ) → length r.bounds ≤ n → turned side (times_of r) n ≡ seen_in side (times_in unknown)
none_at r side n past = ap (λ c. seen_in side (times_in c)) (get_or_past r.bounds n unknown past)

nothing : (f : Times → ℤ) → f (times_in unknown) ≡ pos 0 → f (seen_in 1 (times_in unknown)) ≡ pos 0 → (r : Region) (side n : ℕ) → length r.bounds ≤ n → pos 0 ≡ f (turned side (times_of r) n)
nothing f first second r zero n past = sym (ap f (none_at r 0 n past) ∙ first)
nothing f first second r (suc k) n past = sym (ap f (none_at r (suc k) n past) ∙ second)

pub no_est : (r : Region) (side n : ℕ) → length r.bounds ≤ n → pos 0 ≡ (turned side (times_of r) n).est
no_est r side n past = nothing (λ i. i.est) refl refl r side n past

pub no_lct : (r : Region) (side n : ℕ) → length r.bounds ≤ n → pos 0 ≡ (turned side (times_of r) n).lct
no_lct r side n past = nothing (λ i. i.lct) refl refl r side n past

pub no_lst : (r : Region) (side n : ℕ) → length r.bounds ≤ n → pos 0 ≡ (turned side (times_of r) n).lst
no_lst r side n past = nothing (λ i. i.lst) refl refl r side n past

pub no_ect : (r : Region) (side n : ℕ) → length r.bounds ≤ n → pos 0 ≡ (turned side (times_of r) n).ect
no_ect r side n past = nothing (λ i. i.ect) refl refl r side n past

pub no_size : (r : Region) (side n : ℕ) → length r.bounds ≤ n → pos 0 ≡ (turned side (times_of r) n).p
no_size r side n past = nothing (λ i. i.p) refl refl r side n past

-- time as it runs
pub est_ahead : (r : Region) (side n : ℕ) → side ≡ 0 → est_of r (record { 0 = n }) ≡ (turned side (times_of r) n).est
est_ahead r side n is = ap (λ k. (turned k (times_of r) n).est) (sym is)

pub lct_ahead : (r : Region) (side n : ℕ) → side ≡ 0 → lct_of r (record { 0 = n }) ≡ (turned side (times_of r) n).lct
lct_ahead r side n is = ap (λ k. (turned k (times_of r) n).lct) (sym is)

pub lst_ahead : (r : Region) (side n : ℕ) → side ≡ 0 → lst_of r (record { 0 = n }) ≡ (turned side (times_of r) n).lst
lst_ahead r side n is = ap (λ k. (turned k (times_of r) n).lst) (sym is)

pub ect_ahead : (r : Region) (side n : ℕ) → side ≡ 0 → ect_of r (record { 0 = n }) ≡ (turned side (times_of r) n).ect
ect_ahead r side n is = ap (λ k. (turned k (times_of r) n).ect) (sym is)

-- time turned round
pub est_back : (r : Region) (side n : ℕ) → (side ≡ 0 → ⊥) → neg_ℤ (lct_of r (record { 0 = n })) ≡ (turned side (times_of r) n).est
est_back r zero n other = absurd (other refl)
est_back r (suc k) n other = refl

pub lct_back : (r : Region) (side n : ℕ) → (side ≡ 0 → ⊥) → neg_ℤ (est_of r (record { 0 = n })) ≡ (turned side (times_of r) n).lct
lct_back r zero n other = absurd (other refl)
lct_back r (suc k) n other = refl

pub lst_back : (r : Region) (side n : ℕ) → (side ≡ 0 → ⊥) → neg_ℤ (ect_of r (record { 0 = n })) ≡ (turned side (times_of r) n).lst
lst_back r zero n other = absurd (other refl)
lst_back r (suc k) n other = refl

pub ect_back : (r : Region) (side n : ℕ) → (side ≡ 0 → ⊥) → neg_ℤ (lst_of r (record { 0 = n })) ≡ (turned side (times_of r) n).ect
ect_back r zero n other = absurd (other refl)
ect_back r (suc k) n other = refl

-- a size is the same on both sides
pub size_either : (r : Region) (side n : ℕ) → (bounds_of r (record { 0 = n })).pmin ≡ (turned side (times_of r) n).p
size_either r zero n = refl
size_either r (suc k) n = refl
