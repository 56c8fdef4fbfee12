-- A model with all that is defined and the first of its constraints: names lead to their numbers there, and a constraint that passes its tests is added.
use Rattle.std.proofs.Common.{◌≡◌, ℕ, true, false, List, [], ◌∷◌, ◌++◌, filter_map, length, slice_get, Option, Some, None, is_some, option_and_then, unwrap_or, nat_le, refl, sym, ap, subst, ◌∙◌}
use Rattle.std.proofs.lemmas.List.Elements.{filter_map-append}
use Rattle.std.proofs.lemmas.Option.{unwrap_or-slice_get}
use Rattle.std.proofs.lemmas.Bool.{and_from, or_from}
use Rattle.sched_base.specs.declared.ids.Seq.{Seq}
use Rattle.sched_model.specs.declared.types.SequenceDef.{SequenceDef}
use Rattle.sched_model.specs.declared.types.CumulDef.{CumulDef}
use Rattle.sched_model.specs.declared.types.Constraint.{Constraint}
use Rattle.sched_model.specs.Words.{passes}
use Rattle.sched_model.specs.Data.{Data, sequence_of, with_constraint}
use Rattle.sched_model.specs.Valid.{IsValid, is_within_limits, are_distinct}
use Rattle.cpo_text.specs.declared.tree.Constrained.{Constrained}
use Rattle.cpo_text.specs.declared.tree.Statement.TheVariants.{Constrain}
use Rattle.cpo_elab.specs.declared.names.Sort.TheVariants.{Sequence, Cumulated}
use Rattle.cpo_elab.specs.Named.{NameTest, number_of, itvs_of, seq_of, some_in_constraint}
use Rattle.cpo_elab.specs.Held.{some_bound, some_amount, list_in, members_in}
use Rattle.cpo_elab.specs.Elaborated.{after, constraint_of, with_written}
use Rattle.cpo_elab.specs.Judged.{lacks_member, has_reversed, has_negative, misfits, is_outside, is_large, has_no_hull, has_crowded}
use Rattle.cpo_elab.specs.NamedFirst.{is_named_sequence}
use Rattle.read_back.specs.Trees.{sequence_name}
use Rattle.read_back.proofs.Names.{AreApart, apart_left, placed, apart}
use Rattle.read_back.proofs.judge.Names.{Blind}
use Rattle.read_back.proofs.judge.Frame.{Clean}
use Rattle.read_back.proofs.judge.Limits.{made, Front, Fronts, front_all, made_within}

abbrev pub mid : Data → List SequenceDef → List CumulDef → List Constraint → Data
mid m s c f = made m.intervals m.matrices s c m.states f

-- the named ones are all there
pub record Middle (m : Data) (s : List SequenceDef) (c : List CumulDef) : Type 0 where
  pub sequences : Front s m.sequences
  pub cumuls : Front c m.cumuls
  pub named_sequences : (i : ℕ) (d : SequenceDef) (name : List ℕ) → slice_get m.sequences i ≡ Some d → d.name ≡ Some name → slice_get s i ≡ Some d
  pub named_cumuls : (i : ℕ) (d : CumulDef) (name : List ℕ) → slice_get m.cumuls i ≡ Some d → d.name ≡ Some name → slice_get c i ≡ Some d

apart_front : {X : Type 0} (h : X → Option (List ℕ)) (xs ys : List X) → Front xs ys → AreApart (filter_map h ys) → AreApart (filter_map h xs)
apart_front h xs ys front are = apart_left (filter_map h xs) (filter_map h front.rest) (subst AreApart (sym (ap (filter_map h) front.is) ∙ filter_map-append h xs front.rest) are)

number_seq : (m : Data) (s : List SequenceDef) (c : List CumulDef) (f : List Constraint) → IsValid m → Middle m s c → (i : ℕ) (d : SequenceDef) (name : List ℕ) → slice_get m.sequences i ≡ Some d → d.name ≡ Some name
    → number_of (mid m s c f) Sequence name ≡ Some i
unfolding number_of
number_seq m s c f v middle i d name at named =
    placed (λ d. d.name) s i d name (middle.named_sequences i d name at named) named (apart_front (λ (d : SequenceDef). d.name) s m.sequences middle.sequences (apart m v).sequences)

pub number_cum : (m : Data) (s : List SequenceDef) (c : List CumulDef) (f : List Constraint) → IsValid m → Middle m s c → (i : ℕ) (d : CumulDef) (name : List ℕ) → slice_get m.cumuls i ≡ Some d → d.name ≡ Some name
    → number_of (mid m s c f) Cumulated name ≡ Some i
unfolding number_of
number_cum m s c f v middle i d name at named =
    placed (λ d. d.name) c i d name (middle.named_cumuls i d name at named) named (apart_front (λ (d : CumulDef). d.name) c m.cumuls middle.cumuls (apart m v).cumuls)

-- a sequence that has a name

pub record NamedSeq (m : Data) (p : Seq) : Type 0 where
  pub def : SequenceDef
  pub name : List ℕ
  pub at : slice_get m.sequences p.0 ≡ Some def
  pub named : def.name ≡ Some name

pub named_seq : (m : Data) (p : Seq) → passes is_named_sequence (slice_get m.sequences p.0) ≡ true → NamedSeq m p
named_seq m p h = by (slice_get m.sequences p.0) refl h where
  by_name : (d : SequenceDef) (o : Option (List ℕ)) → slice_get m.sequences p.0 ≡ Some d → d.name ≡ o → is_some o ≡ true → NamedSeq m p
  by_name d None at named h = cc
  by_name d (Some name) at named h = record { def = d; name = name; at = at; named = named }

  by : (o : Option SequenceDef) → slice_get m.sequences p.0 ≡ o → passes is_named_sequence o ≡ true → NamedSeq m p
  by None at h = cc
  by (Some d) at h = by_name d d.name at refl h

pub sequence_at : (m : Data) (p : Seq) (d : SequenceDef) → slice_get m.sequences p.0 ≡ Some d → sequence_of m p ≡ d
sequence_at m p d at = let none : SequenceDef = record { name = None; members = []; types = None } in sym (unwrap_or-slice_get m.sequences p.0 none) ∙ ap (λ o. unwrap_or o none) at

pub record SeqBack (m n : Data) (p : Seq) (name : List ℕ) : Type 0 where
  pub number : number_of n Sequence name ≡ Some p.0
  pub back : seq_of n name ≡ p
  pub same : sequence_of n p ≡ sequence_of m p

pub seq_back : (m : Data) (s : List SequenceDef) (c : List CumulDef) (f : List Constraint) → IsValid m → Middle m s c → (p : Seq) (q : NamedSeq m p) → SeqBack m (mid m s c f) p q.name
seq_back m s c f v middle p q =
    let number = number_seq m s c f v middle p.0 q.def q.name q.at q.named in
    record {
      number = number;
      back = λ i. record { 0 = unwrap_or (number i) 0 };
      same = sequence_at (mid m s c f) p q.def (middle.named_sequences p.0 q.def q.name q.at q.named) ∙ sym (sequence_at m p q.def q.at);
    }

pub name_is : (m : Data) (p : Seq) (q : NamedSeq m p) → sequence_name m p ≡ q.name
name_is m p q = ap (λ o. unwrap_or (option_and_then (λ (d : SequenceDef). d.name) o) []) q.at ∙ ap (λ o. unwrap_or o []) q.named

-- the tests of a constraint but those of the limits on models

pub record Tests (n : Data) (t : Constrained) : Type 0 where
  pub names : (test : NameTest) → Blind n test → some_in_constraint test t ≡ false
  pub joins : lacks_member n (Constrain t) ≡ false
  pub ordered : has_reversed (Constrain t) ≡ false
  pub signs : has_negative (Constrain t) ≡ false
  pub fitting : misfits n (Constrain t) ≡ false
  pub once : are_distinct (itvs_of n (list_in (Constrain t))) ≡ true
  pub inside : some_bound is_outside (Constrain t) ≡ false
  pub small : some_amount is_large (Constrain t) ≡ false
  pub few : nat_le (length (members_in (Constrain t))) 500 ≡ true
  pub hull : has_no_hull n (Constrain t) ≡ false
  pub sparse : has_crowded (Constrain t) ≡ false

clean_tests : (n : Data) (t : Constrained) → Tests n t → is_within_limits (after n (Constrain t)) ≡ true → Clean n (Constrain t)
clean_tests n t tests room = record {
  fresh = refl;
  names = tests.names;
  joins = tests.joins;
  ordered = tests.ordered;
  signs = tests.signs;
  fitting = tests.fitting;
  once = tests.once;
  narrow = or_from (some_bound is_outside (Constrain t)) _ tests.inside (or_from (some_amount is_large (Constrain t)) false tests.small refl);
  room = and_from (nat_le (length (members_in (Constrain t))) 500) _ tests.few room;
  single = refl;
  hull = tests.hull;
  sparse = tests.sparse;
  own = refl;
}

-- what a constraint's statement makes of the model
abbrev pub Leaves : Data → Constrained → Data → Type 0
Leaves n t r = Clean n (Constrain t) × (after n (Constrain t) ≡ r)

pub leaves : (m n : Data) (t : Constrained) (con : Constraint) (s : List SequenceDef) (c : List CumulDef) (f : List Constraint) → IsValid m → Tests n t → with_written n t ≡ mid m s c f → constraint_of n t ≡ con
    → Front s m.sequences → Front c m.cumuls → Front (f ++ con ∷ []) m.constraints → Leaves n t (mid m s c (f ++ con ∷ []))
leaves m n t con s c f v tests written is seqs cums front =
    let made_it : after n (Constrain t) ≡ mid m s c (f ++ con ∷ []) = λ i. with_constraint (is i) (written i) in
    let fronts : Fronts (mid m s c (f ++ con ∷ [])) m = (front_all m.intervals, front_all m.matrices, seqs, cums, front_all m.states, front) in
    (clean_tests n t tests (ap is_within_limits made_it ∙ made_within m m.intervals m.matrices s c m.states (f ++ con ∷ []) v.limits fronts), made_it)
