-- The statement of a constraint on members of a sequence that has a name passes each test, and adds the constraint.
use Rattle.std.proofs.Common.{◌≡◌, true, false, not, ◌&&◌, List, [], ◌∷◌, ◌++◌, Some, refl, ap, ◌∙◌}
use Rattle.std.proofs.lemmas.Bool.{and_parts, and_from, or_from, not_from_true}
use Rattle.base_laws.specs.laws.Truth.{three_true}
use Rattle.sched_base.specs.declared.ids.Itv.{Itv}
use Rattle.sched_base.specs.declared.ids.Seq.{Seq}
use Rattle.sched_model.specs.declared.types.SequenceDef.{SequenceDef}
use Rattle.sched_model.specs.declared.types.CumulDef.{CumulDef}
use Rattle.sched_model.specs.declared.types.Constraint.{Constraint}
use Rattle.sched_model.specs.declared.types.Constraint.TheVariants as constraint
use Rattle.sched_model.specs.Data.{Data, same, has, members_of}
use Rattle.sched_model.specs.Valid.{IsValid, is_itv, is_seq, is_member, are_distinct}
use Rattle.cpo_text.specs.declared.tree.Extreme.{Extreme}
use Rattle.cpo_text.specs.declared.tree.Extreme.TheVariants as extreme
use Rattle.cpo_text.specs.declared.tree.Order.{Order}
use Rattle.cpo_text.specs.declared.tree.Order.TheVariants as order
use Rattle.cpo_text.specs.declared.tree.Constrained.TheVariants as constrained
use Rattle.cpo_elab.specs.declared.names.Sort.TheVariants.{Interval, Sequence}
use Rattle.cpo_elab.specs.Named.{number_of, itv_of, seq_of}
use Rattle.cpo_elab.specs.Elaborated.{extreme_of, order_of}
use Rattle.cpo_elab.specs.Judged.{is_no_member}
use Rattle.sched_text.specs.Pieces.{interval_name}
use Rattle.read_back.specs.Trees.{sequence_name}
use Rattle.read_back.specs.Written.{is_named_at}
use Rattle.read_back.proofs.Members.{member_is}
use Rattle.read_back.proofs.Names.{itv_back}
use Rattle.read_back.proofs.judge.Middle.{mid, Middle, named_seq, seq_back, name_is, Leaves, leaves}
use Rattle.read_back.proofs.judge.Plain.{Place, Stays, interval_passes}

-- what a name of a sequence and that of a member say
record Member (m n : Data) (p : Seq) (x : Itv) : Type 0 where
  there : is_itv m x ≡ true
  number : number_of n Sequence (sequence_name m p) ≡ Some p.0
  sequence : seq_of n (sequence_name m p) ≡ p
  interval : itv_of n (interval_name m x) ≡ x
  joins : is_no_member n (sequence_name m p) (interval_name m x) ≡ false

member : (m : Data) (s : List SequenceDef) (c : List CumulDef) (f : List Constraint) → IsValid m → Middle m s c → (p : Seq) (x : Itv) → is_named_at m p ≡ true → is_member m p x ≡ true → Member m (mid m s c f) p x
member m s c f v middle p x named it =
    let n = mid m s c f in
    let q = named_seq m p named in
    let b = seq_back m s c f v middle p q in
    let is = name_is m p q in
    let there = member_is m p x v it in
    let interval = itv_back m n refl v x there in
    let sequence = ap (seq_of n) is ∙ b.back in
    record {
      there = there;
      number = ap (number_of n Sequence) is ∙ b.number;
      sequence = sequence;
      interval = interval;
      joins = (λ i. not (has (members_of n (sequence i)) (interval i))) ∙ ap (λ (d : SequenceDef). not (has d.members x)) b.same ∙ not_from_true (has (members_of m p) x) (and_parts (is_seq m p) (has (members_of m p) x) it).1;
    }

extreme_stays : (m : Data) (s : List SequenceDef) (c : List CumulDef) (f : List Constraint) (e : Extreme) (p : Seq) (x : Itv) → Place m s c f (extreme_of e p x) → is_named_at m p ≡ true → is_member m p x ≡ true
    → Leaves (mid m s c f) (constrained.Extreme e (sequence_name m p) (interval_name m x)) (mid m s c (f ++ extreme_of e p x ∷ []))
extreme_stays m s c f e p x here named it =
    let n = mid m s c f in
    let v = here.valid in
    let k = member m s c f v here.middle p x named it in
    leaves m n (constrained.Extreme e (sequence_name m p) (interval_name m x)) (extreme_of e p x) s c f v (record {
      names = λ test blind. or_from (test Sequence (sequence_name m p)) (test Interval (interval_name m x)) (blind Sequence (sequence_name m p) p.0 k.number) (interval_passes m s c f v x k.there test blind);
      joins = k.joins;
      ordered = refl;
      signs = refl;
      fitting = refl;
      once = refl;
      inside = refl;
      small = refl;
      few = refl;
      hull = refl;
      sparse = refl;
    }) refl (λ i. extreme_of e (k.sequence i) (k.interval i)) here.middle.sequences here.middle.cumuls here.front

pub first_stays : (m : Data) (s : List SequenceDef) (c : List CumulDef) (f : List Constraint) (p : Seq) (x : Itv) → Place m s c f (constraint.First p x) → is_named_at m p ≡ true → is_member m p x ≡ true → Stays m s c f (constraint.First p x)
first_stays m s c f p x here named it = extreme_stays m s c f extreme.First p x here named it

pub last_stays : (m : Data) (s : List SequenceDef) (c : List CumulDef) (f : List Constraint) (p : Seq) (x : Itv) → Place m s c f (constraint.Last p x) → is_named_at m p ≡ true → is_member m p x ≡ true → Stays m s c f (constraint.Last p x)
last_stays m s c f p x here named it = extreme_stays m s c f extreme.Last p x here named it

two_apart : (x y : Itv) → not (same x y) ≡ true → are_distinct (x ∷ y ∷ []) ≡ true
two_apart x y h = and_from (not (same x y) && true) true (and_from (not (same x y)) true h refl) refl

order_stays : (m : Data) (s : List SequenceDef) (c : List CumulDef) (f : List Constraint) (o : Order) (p : Seq) (x y : Itv) → Place m s c f (order_of o p x y) → is_named_at m p ≡ true
    → (is_member m p x && is_member m p y && not (same x y)) ≡ true
    → Leaves (mid m s c f) (constrained.Ordered o (sequence_name m p) (interval_name m x) (interval_name m y)) (mid m s c (f ++ order_of o p x y ∷ []))
order_stays m s c f o p x y here named it =
    let n = mid m s c f in
    let v = here.valid in
    let parts = three_true (is_member m p x) (is_member m p y) (not (same x y)) it in
    let k = member m s c f v here.middle p x named parts.0 in
    let l = member m s c f v here.middle p y named parts.1 in
    leaves m n (constrained.Ordered o (sequence_name m p) (interval_name m x) (interval_name m y)) (order_of o p x y) s c f v (record {
      names = λ test blind. or_from (test Sequence (sequence_name m p)) _ (blind Sequence (sequence_name m p) p.0 k.number)
          (or_from (test Interval (interval_name m x)) (test Interval (interval_name m y)) (interval_passes m s c f v x k.there test blind) (interval_passes m s c f v y l.there test blind));
      joins = or_from (is_no_member n (sequence_name m p) (interval_name m x)) (is_no_member n (sequence_name m p) (interval_name m y)) k.joins l.joins;
      ordered = refl;
      signs = refl;
      fitting = refl;
      once = (λ i. are_distinct (k.interval i ∷ l.interval i ∷ [])) ∙ two_apart x y parts.2;
      inside = refl;
      small = refl;
      few = refl;
      hull = refl;
      sparse = refl;
    }) refl (λ i. order_of o (k.sequence i) (k.interval i) (l.interval i)) here.middle.sequences here.middle.cumuls here.front

pub before_stays : (m : Data) (s : List SequenceDef) (c : List CumulDef) (f : List Constraint) (p : Seq) (x y : Itv) → Place m s c f (constraint.Before p x y) → is_named_at m p ≡ true
    → (is_member m p x && is_member m p y && not (same x y)) ≡ true → Stays m s c f (constraint.Before p x y)
before_stays m s c f p x y here named it = order_stays m s c f order.Before p x y here named it

pub prev_stays : (m : Data) (s : List SequenceDef) (c : List CumulDef) (f : List Constraint) (p : Seq) (x y : Itv) → Place m s c f (constraint.Prev p x y) → is_named_at m p ≡ true
    → (is_member m p x && is_member m p y && not (same x y)) ≡ true → Stays m s c f (constraint.Prev p x y)
prev_stays m s c f p x y here named it = order_stays m s c f order.Prev p x y here named it
