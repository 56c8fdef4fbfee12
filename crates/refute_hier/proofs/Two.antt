-- A walk through the parts up to the second that is present.
use Rattle.std.specs.Prelude.{◌≡◌, ℕ, ◌+◌, ◌<◌, ◌≤◌, Bool, true, false, List, length, Option, Some, None, slice_get, nat_lt, take}
use Rattle.std.specs.List.{count_by}
use Rattle.std.proofs.Common.{refl, sym, ap, ◌∙◌, arith, get_or}
use Rattle.std.proofs.lemmas.Bool.Decides.{nat_tests}
use Rattle.std.proofs.lemmas.List.{take_all}
use Rattle.std.proofs.lemmas.List.Sums.{count_by_more_no, count_by_more_yes}
use Rattle.std.proofs.lemmas.Option.{slice_get-get_or}
use Rattle.sched_base.specs.declared.ids.Itv.{Itv}
use Rattle.sched_model.specs.Words.{passes}
use Rattle.region.specs.Cells.{Region}
use Rattle.refute_hier.specs.declared.parts.Role.TheVariants.{IsThere}
use Rattle.refute_hier.specs.Parts.{plays_in, at_part}
use Rattle.refute_hier.specs.code.Rows.{two_parts, AreTwo}

abbrev first_id : Itv
first_id = record { 0 = 0 }

abbrev pub there_in : Region → Itv → List Itv → ℕ → ℕ
there_in r a bs n = count_by (plays_in r IsThere a) (take n bs)

-- none of the first parts is present, or one is
pub record NoneYet (r : Region) (a : Itv) (bs : List Itv) (n : ℕ) : Type 0 where
  pub none : there_in r a bs n ≡ 0

pub record OneYet (r : Region) (a : Itv) (bs : List Itv) (n f : ℕ) : Type 0 where
  pub one : there_in r a bs n ≡ 1
  pub less : f < n
  pub is : at_part r IsThere a bs f ≡ true

abbrev pub HasFound : Region → Itv → List Itv → ℕ → Option ℕ → Type 0
HasFound r a bs n None = NoneYet r a bs n
HasFound r a bs n (Some f) = OneYet r a bs n f

pub none_yet : (r : Region) (a : Itv) (bs : List Itv) → HasFound r a bs 0 None
none_yet r a bs = record { none = refl }

at_place : (test : Itv → Bool) (bs : List Itv) (n : ℕ) (b : Bool) → n < length bs → passes test (slice_get bs n) ≡ b → test (get_or bs n first_id) ≡ b
at_place test bs n b within h = sym (ap (passes test) (slice_get-get_or bs n first_id within)) ∙ h

more_no : (r : Region) (a : Itv) (bs : List Itv) (n : ℕ) → n < length bs → at_part r IsThere a bs n ≡ false → there_in r a bs (n + 1) ≡ there_in r a bs n
more_no r a bs n within h = count_by_more_no (plays_in r IsThere a) bs n first_id within (at_place (plays_in r IsThere a) bs n false within h)

more_yes : (r : Region) (a : Itv) (bs : List Itv) (n : ℕ) → n < length bs → at_part r IsThere a bs n ≡ true → there_in r a bs (n + 1) ≡ there_in r a bs n + 1
more_yes r a bs n within h = count_by_more_yes (plays_in r IsThere a) bs n first_id within (at_place (plays_in r IsThere a) bs n true within h)

pub passed : (r : Region) (a : Itv) (bs : List Itv) (n : ℕ) (o : Option ℕ) → HasFound r a bs n o → n < length bs → at_part r IsThere a bs n ≡ false → HasFound r a bs (n + 1) o
passed r a bs n None so_far within h = record { none = more_no r a bs n within h ∙ so_far.none }
passed r a bs n (Some f) so_far within h = record { one = more_no r a bs n within h ∙ so_far.one; less = (let less = so_far.less in omega (arith, less)); is = so_far.is }

pub found_one : (r : Region) (a : Itv) (bs : List Itv) (n : ℕ) (o : Option ℕ) → HasFound r a bs n o → o ≡ None → n < length bs → at_part r IsThere a bs n ≡ true → OneYet r a bs (n + 1) n
found_one r a bs n None so_far empty within h = record { one = more_yes r a bs n within h ∙ ap (λ k. k + 1) so_far.none; less = omega arith; is = h }
found_one r a bs n (Some f) so_far empty within h = cc

pub found_two : (r : Region) (a : Itv) (bs : List Itv) (n f : ℕ) → HasFound r a bs n (Some f) → at_part r IsThere a bs n ≡ true → AreTwo r a bs f n
found_two r a bs n f so_far h = record { less = so_far.less; first = so_far.is; second = h }

few : (k : ℕ) → k ≤ 1 → nat_lt 1 k ≡ false
few k h = grind (arith, nat_tests)

pub not_two : (r : Region) (a : Itv) (bs : List Itv) (n : ℕ) (o : Option ℕ) → HasFound r a bs n o → length bs ≤ n → two_parts r a bs ≡ false
not_two r a bs n None so_far all = few (count_by (plays_in r IsThere a) bs) (let e = sym (ap (count_by (plays_in r IsThere a)) (take_all n bs all)) ∙ so_far.none in omega (arith, e))
not_two r a bs n (Some f) so_far all = few (count_by (plays_in r IsThere a) bs) (let e = sym (ap (count_by (plays_in r IsThere a)) (take_all n bs all)) ∙ so_far.one in omega (arith, e))
