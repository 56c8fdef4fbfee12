-- The numbers and the rows of members, noted one after the other.
use Rattle.std.specs.Prelude.{◌≡◌, ℕ, ◌+◌, ◌<◌, ℤ, ◌+ℤ◌, pos, Bool, true, false, not, ◌||◌, ◌&&◌, int_le, List, length, Option, Some, None, is_none}
use Rattle.std.proofs.Common.{◌≢◌, refl, sym, subst, ◌∙◌, arith, inl, inr, get_or, set}
use Rattle.std.proofs.lemmas.Bool.{cases_eq}
use Rattle.std.proofs.lemmas.List.{get_or-set_same, get_or-set_other}
use Rattle.sched_base.specs.declared.ids.Itv.{Itv}
use Rattle.sched_base.specs.declared.ids.Seq.{Seq}
use Rattle.sched_base.specs.declared.ids.Mat.{Mat}
use Rattle.sched_model.specs.Data.{Data}
use Rattle.region.specs.declared.types.Bounds.{Bounds}
use Rattle.region.specs.declared.types.OrderCell.{OrderCell}
use Rattle.region.specs.declared.types.OrderCell.TheVariants.{Unknown, Forward, Backward}
use Rattle.region.specs.Cells.{Region, bounds_of, says_present, says_absent}
use Rattle.region.specs.Looks.{ect_in, lst_in}
use Rattle.region.specs.laws.Lists.{both_true, true_both}
use Rattle.findings.specs.code.Numbers.{ends_of, highest_end, lowest_start}
use Rattle.prop_unary.specs.declared.keys.Front.{Front}
use Rattle.prop_unary.specs.declared.keys.Back.{Back}
use Rattle.prop_unary.specs.declared.keys.Keys.{Keys}
use Rattle.prop_unary.specs.declared.disjunctive.Disjunctive.{Disjunctive}
use Rattle.prop_unary.specs.code.Silence.{IsDisjunctive, IsFront, IsBack, IsKeyed, are_silent_ends, are_silent_keys, are_keys_in_time, is_silent_two, AreSilentOrders, reach, AreSilentWhere}
use Rattle.prop_unary.proofs.Asked.{silent_same, silent_tested}

-- one more at its place
abbrev EachAt : {X : Type 0} → (ℕ → X → Type 0) → List X → ℕ → Type 0
EachAt {X} P xs n = (k : ℕ) → k < n → (d : X) → P k (get_or xs k d)

pub each_set : {X : Type 0} (P : ℕ → X → Type 0) (xs : List X) (n : ℕ) (x : X) → n < length xs → EachAt P xs n → P n x → EachAt P (set xs n x) (n + 1)
each_set P xs n x within before here k below d = elim (cases_eq k n) [
  | inl e ↦ subst (λ (i : ℕ). P i (get_or (set xs n x) i d)) (sym e) (subst (P n) (sym (get_or-set_same xs n x d within)) here)
  | inr other ↦ (let apart : k ≢ n = other in subst (P k) (sym (get_or-set_other xs n k x d other)) (before k (omega (arith, apart, below)) d))
]

-- keys
abbrev HasKeys : Region → List Itv → ℕ → Keys → Type 0
HasKeys r xs i k = (x : Itv) → IsKeyed (ends_of (bounds_of r (get_or xs i x))) k

pub keys_set : (r : Region) (xs : List Itv) (ks : List Keys) (n : ℕ) (k : Keys) → n < length ks → ((i : ℕ) → i < n → (d : Keys) (x : Itv) → IsKeyed (ends_of (bounds_of r (get_or xs i x))) (get_or ks i d)) → ((x : Itv) → IsKeyed (ends_of (bounds_of r (get_or xs n x))) k)
    → (i : ℕ) → i < n + 1 → (d : Keys) (x : Itv) → IsKeyed (ends_of (bounds_of r (get_or xs i x))) (get_or (set ks n k) i d)
keys_set r xs ks n k within before here = each_set (HasKeys r xs) ks n k within before here

-- what the keys of two show
unless : (p q s : Bool) → (p ≡ false → q ≡ false → s ≡ true) → (p || q || s) ≡ true
unless true q s f = refl
unless false true s f = refl
unless false false s f = f refl refl

where_so : (p q : Bool) → (p ≡ true → q ≡ true) → (not p || q) ≡ true
where_so true q f = f refl
where_so false q f = refl

no_later : (a b x y n : ℤ) → a ≡ x → b ≡ y → int_le (a +ℤ n) b ≡ true → int_le (x +ℤ n) y ≡ true
no_later a b x y n first second h = rw (sym first, sym second) h

keys_there : (o : OrderCell) (u v : Bounds) (c : Front) (d : Back) (n : ℤ) → IsFront (ends_of u) c → IsBack (ends_of v) d → says_absent u.presence ≡ false → says_absent v.presence ≡ false → are_silent_keys o c d n ≡ true → are_silent_ends o (ends_of u) (ends_of v) n ≡ true
keys_there Unknown u v c d n one other first second h = no_later c.ect d.lst (ect_in u) (lst_in v) n (one.ect first) (other.lst second) h
keys_there Forward u v c d n one other first second h =
    let two = both_true (int_le (c.present_ect +ℤ n) d.lowest_start) (int_le (c.highest_end +ℤ n) d.present_lst) h in
    true_both (not (says_present u.presence) || int_le (ect_in u +ℤ n) (lowest_start v)) (not (says_present v.presence) || int_le (highest_end u +ℤ n) (lst_in v))
    (where_so (says_present u.presence) (int_le (ect_in u +ℤ n) (lowest_start v)) (λ there. no_later c.present_ect d.lowest_start (ect_in u) (lowest_start v) n (one.present_ect there) (other.lowest_start second) two.0))
    (where_so (says_present v.presence) (int_le (highest_end u +ℤ n) (lst_in v)) (λ there. no_later c.highest_end d.present_lst (highest_end u) (lst_in v) n (one.highest_end first) (other.present_lst there) two.1))
keys_there Backward u v c d n one other first second h = refl

keys_told : (o : OrderCell) (u v : Bounds) (c : Front) (d : Back) (n : ℤ) → IsFront (ends_of u) c → IsBack (ends_of v) d → are_silent_keys o c d n ≡ true → is_silent_two o u v n ≡ true
keys_told o u v c d n one other h = unless (says_absent u.presence) (says_absent v.presence) (are_silent_ends o (ends_of u) (ends_of v) n) (λ first second. keys_there o u v c d n one other first second h)

orders_told : (u v : Bounds) (c : Front) (d : Back) (n : ℤ) → IsFront (ends_of u) c → IsBack (ends_of v) d → (int_le (c.ect +ℤ n) d.lst && are_keys_in_time c d n) ≡ true → AreSilentOrders u v n
orders_told u v c d n one other h =
    let two = both_true (int_le (c.ect +ℤ n) d.lst) (are_keys_in_time c d n) h in
    record {
      free = keys_told Unknown u v c d n one other two.0;
      told = keys_told Forward u v c d n one other two.1;
    }

-- with the distance that was reckoned
pub keys_within : (o : OrderCell) (u v : Bounds) (c : Front) (d : Back) (n k : ℤ) (t : Bool) → n ≡ k → IsFront (ends_of u) c → IsBack (ends_of v) d → t ≡ are_silent_keys o c d n → t ≡ true → is_silent_two o u v k ≡ true
keys_within o u v c d n k t reckoned one other is told = subst (λ (i : ℤ). is_silent_two o u v i ≡ true) reckoned (keys_told o u v c d n one other (sym is ∙ told))

pub orders_within : (u v : Bounds) (c : Front) (d : Back) (n k : ℤ) (t : Bool) → n ≡ k → IsFront (ends_of u) c → IsBack (ends_of v) d → t ≡ (int_le (c.ect +ℤ n) d.lst && are_keys_in_time c d n) → t ≡ true → AreSilentOrders u v k
orders_within u v c d n k t reckoned one other is told = subst (λ (i : ℤ). AreSilentOrders u v i) reckoned (orders_told u v c d n one other (sym is ∙ told))

-- where there is no matrix the distance is 0
pub no_reach : (m : Data) (p : Seq) (matrix : Option Mat) (a b : Itv) → is_none matrix ≡ true → pos 0 ≡ reach m p matrix a b
no_reach m p None a b h = refl
no_reach m p (Some t) a b h = cc

pub silent_by_test : (m : Data) (r : Region) (best : Option ℤ) (d : Disjunctive) (o : OrderCell) (a b : Itv) → IsDisjunctive m d → is_silent_two o (bounds_of r a) (bounds_of r b) (reach m d.p d.matrix a b) ≡ true → AreSilentWhere m r best d o a b
silent_by_test m r best d o a b is test = elim (cases_eq a.0 b.0) [
  | inl same ↦ silent_same m r best d o a b is same
  | inr apart ↦ silent_tested m r best d o a b is apart test
]
