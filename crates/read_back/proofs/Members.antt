-- What a sequence of a valid model has: each of its members is an interval of the model.
use Rattle.std.proofs.Common.{◌≡◌, ℕ, zero, suc, true, ◌&&◌, List, [], ◌∷◌, length, slice_index_or, None, nat_le, nat_eq, refl}
use Rattle.std.specs.List.{list_all}
use Rattle.std.proofs.lemmas.Bool.{and_parts}
use Rattle.base_laws.specs.laws.Truth.{three_true}
use Rattle.sched_base.specs.declared.ids.Itv.{Itv}
use Rattle.sched_base.specs.declared.ids.Seq.{Seq}
use Rattle.sched_model.specs.declared.types.SequenceDef.{SequenceDef}
use Rattle.sched_model.specs.Data.{Data, has, members_of}
use Rattle.sched_model.specs.Words.{passes_if_any}
use Rattle.sched_model.specs.Valid.{IsValid, is_itv, is_seq, is_member, are_parts, are_distinct, is_sequence_def}
use Rattle.sched_model.specs.laws.Members.{one_of}

pub record Listing (m : Data) (d : SequenceDef) : Type 0 where
  pub there : list_all (is_itv m) d.members ≡ true
  pub once : are_distinct d.members ≡ true
  pub few : nat_le (length d.members) 500 ≡ true
  pub types : passes_if_any (λ ts. nat_eq (length ts) (length d.members) && list_all (λ t. nat_le t 1000000) ts) d.types ≡ true

pub listing : (m : Data) (d : SequenceDef) → is_sequence_def m d ≡ true → Listing m d
listing m d h =
    let parts = three_true (are_parts m d.members) (nat_le (length d.members) 500) _ h in
    let members = and_parts (list_all (is_itv m) d.members) (are_distinct d.members) parts.0 in
    record { there = members.0; once = members.1; few = parts.1; types = parts.2 }

all_members : (m : Data) (ds : List SequenceDef) (i : ℕ) → list_all (is_sequence_def m) ds ≡ true → list_all (is_itv m) (slice_index_or ds i (record { name = None; members = []; types = None })).members ≡ true
all_members m [] i all = refl
all_members m (d ∷ ds) zero all = (listing m d (and_parts (is_sequence_def m d) _ all).0).there
all_members m (d ∷ ds) (suc i) all = all_members m ds i (and_parts (is_sequence_def m d) _ all).1

pub member_is : (m : Data) (p : Seq) (x : Itv) → IsValid m → is_member m p x ≡ true → is_itv m x ≡ true
member_is m p x valid is = one_of m x (members_of m p) (all_members m m.sequences p.0 valid.sequences) (and_parts (is_seq m p) (has (members_of m p) x) is).1
