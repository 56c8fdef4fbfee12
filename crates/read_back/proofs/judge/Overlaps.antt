-- The statement that no members of a sequence overlap, by its name or with its list, passes each test, and adds the constraint.
use Rattle.std.proofs.Common.{◌≡◌, Bool, true, false, not, ◌&&◌, ◌||◌, List, [], ◌∷◌, ◌++◌, length, slice_get, Option, Some, None, is_some, option_map, unwrap_or, nat_lt, nat_le, refl, sym, ap, subst, ◌∙◌}
use Rattle.std.specs.List.{list_all, list_any}
use Rattle.std.proofs.lemmas.List.{length-map}
use Rattle.std.proofs.lemmas.Bool.{and_parts, or_from, not_from_true, not-true}
use Rattle.sched_base.specs.declared.ids.Seq.{Seq}
use Rattle.sched_base.specs.declared.ids.Mat.{Mat}
use Rattle.sched_model.specs.declared.types.MatrixDef.{MatrixDef}
use Rattle.sched_model.specs.declared.types.SequenceDef.{SequenceDef}
use Rattle.sched_model.specs.declared.types.CumulDef.{CumulDef}
use Rattle.sched_model.specs.declared.types.Constraint.{Constraint}
use Rattle.sched_model.specs.declared.types.Constraint.TheVariants as constraint
use Rattle.sched_model.specs.Words.{passes, passes_if_any}
use Rattle.sched_model.specs.Data.{Data, sequence_of, matrix_of}
use Rattle.sched_model.specs.Valid.{is_mat, fits_types, are_distinct}
use Rattle.cpo_text.specs.declared.tree.Over.TheVariants as over
use Rattle.cpo_text.specs.declared.tree.Constrained.TheVariants as constrained
use Rattle.cpo_elab.specs.declared.names.Sort.TheVariants.{Interval, Matrix, Sequence}
use Rattle.sched_text.specs.Pieces.{interval_name, interval_names, matrix_name}
use Rattle.read_back.specs.Trees.{over_tree, named_or_listed, spaced_tree, constraint_tree}
use Rattle.read_back.proofs.Members.{Listing}
use Rattle.read_back.proofs.Names.{number_mat, mat_back, itvs_back}
use Rattle.read_back.proofs.judge.Names.{itvs_pass}
use Rattle.read_back.proofs.judge.Limits.{Front}
use Rattle.read_back.proofs.judge.Middle.{mid, NamedSeq, seq_back, sequence_at, Leaves, leaves}
use Rattle.read_back.proofs.judge.Plain.{Place, Stays}

over_named : (m : Data) (p : Seq) (q : NamedSeq m p) → over_tree m p ≡ over.Named q.name
over_named m p q =
    let d = q.def in
    ap (λ o. unwrap_or (option_map (named_or_listed m) o) (over.Named [])) q.at
    ∙ (λ i. named_or_listed m (record { name = q.named i; members = d.members; types = d.types }))

over_listed : (m : Data) (p : Seq) (d : SequenceDef) → slice_get m.sequences p.0 ≡ Some d → d.name ≡ None → over_tree m p ≡ over.Listed (interval_names m d.members)
over_listed m p d at unnamed =
    ap (λ o. unwrap_or (option_map (named_or_listed m) o) (over.Named [])) at
    ∙ (λ i. named_or_listed m (record { name = unnamed i; members = d.members; types = d.types }))

-- by name

same_fits : (m n : Data) (p : Seq) (x : Mat) → n.matrices ≡ m.matrices → sequence_of n p ≡ sequence_of m p → fits_types n p x ≡ fits_types m p x
same_fits m n p x mats seqs =
    (λ i. nat_lt x.0 (length (mats i)) && passes (λ ts. passes (λ d. list_all (λ t. nat_lt t d.size) ts) (slice_get (mats i) x.0)) (seqs i).types)

named_stays : (m : Data) (s : List SequenceDef) (c : List CumulDef) (f : List Constraint) (p : Seq) (q : NamedSeq m p) (o : Option Mat) (direct : Bool) → Place m s c f (constraint.NoOverlap p o direct)
    → passes_if_any (fits_types m p) o ≡ true → (is_some o || not direct) ≡ true
    → Leaves (mid m s c f) (constrained.NoOverlap (over.Named q.name) (option_map (λ x. spaced_tree m direct x.0) o)) (mid m s c (f ++ constraint.NoOverlap p o direct ∷ []))
named_stays m s c f p q None direct here fits flag =
    let n = mid m s c f in
    let v = here.valid in
    let b = seq_back m s c f v here.middle p q in
    let off = sym (not-true direct flag) in
    leaves m n (constrained.NoOverlap (over.Named q.name) None) (constraint.NoOverlap p None direct) s c f v (record {
      names = λ test blind. or_from (test Sequence q.name) false (blind Sequence q.name p.0 b.number) refl;
      joins = refl;
      ordered = refl;
      signs = refl;
      fitting = refl;
      once = refl;
      inside = refl;
      small = refl;
      few = refl;
      hull = refl;
      sparse = refl;
    }) refl (λ i. constraint.NoOverlap (b.back i) None (off i)) here.middle.sequences here.middle.cumuls here.front
named_stays m s c f p q (Some x) direct here fits flag =
    let n = mid m s c f in
    let v = here.valid in
    let b = seq_back m s c f v here.middle p q in
    let there = (and_parts (is_mat m x) _ fits).0 in
    let matrix = mat_back m n refl v x there in
    leaves m n (constrained.NoOverlap (over.Named q.name) (Some (spaced_tree m direct x.0))) (constraint.NoOverlap p (Some x) direct) s c f v (record {
      names = λ test blind. or_from (test Sequence q.name) (test Matrix (matrix_name m x)) (blind Sequence q.name p.0 b.number) (blind Matrix (matrix_name m x) x.0 (number_mat m n refl v x there));
      joins = refl;
      ordered = refl;
      signs = refl;
      fitting = not_from_true _ ((λ i. fits_types n (b.back i) (matrix i)) ∙ same_fits m n p x refl b.same ∙ fits);
      once = refl;
      inside = refl;
      small = refl;
      few = refl;
      hull = refl;
      sparse = refl;
    }) refl (λ i. constraint.NoOverlap (b.back i) (Some (matrix i)) direct) here.middle.sequences here.middle.cumuls here.front

pub overlap_named : (m : Data) (s : List SequenceDef) (c : List CumulDef) (f : List Constraint) (p : Seq) (q : NamedSeq m p) (o : Option Mat) (direct : Bool) → Place m s c f (constraint.NoOverlap p o direct)
    → passes_if_any (fits_types m p) o ≡ true → (is_some o || not direct) ≡ true → Stays m s c f (constraint.NoOverlap p o direct)
overlap_named m s c f p q o direct here fits flag =
    subst (λ w. Leaves (mid m s c f) (constrained.NoOverlap w (option_map (λ x. spaced_tree m direct x.0) o)) (mid m s c (f ++ constraint.NoOverlap p o direct ∷ []))) (sym (over_named m p q))
    (named_stays m s c f p q o direct here fits flag)

-- with its list

listed_stays : (m : Data) (s : List SequenceDef) (c : List CumulDef) (f : List Constraint) (p : Seq) (d : SequenceDef) (o : Option Mat) (direct : Bool) → Place m s c f (constraint.NoOverlap p o direct)
    → slice_get m.sequences p.0 ≡ Some d → d.name ≡ None → d.types ≡ None → Listing m d → length s ≡ p.0 → Front (s ++ d ∷ []) m.sequences → passes_if_any (fits_types m p) o ≡ true → (is_some o || not direct) ≡ true
    → Leaves (mid m s c f) (constrained.NoOverlap (over.Listed (interval_names m d.members)) (option_map (λ x. spaced_tree m direct x.0) o)) (mid m (s ++ d ∷ []) c (f ++ constraint.NoOverlap p o direct ∷ []))
listed_stays m s c f p d None direct here at unnamed untyped l place more fits flag =
    let n = mid m s c f in
    let v = here.valid in
    let ns = interval_names m d.members in
    let members = itvs_back m n refl v d.members l.there in
    let no_name = sym unnamed in
    let no_types = sym untyped in
    let off = sym (not-true direct flag) in
    leaves m n (constrained.NoOverlap (over.Listed ns) None) (constraint.NoOverlap p None direct) (s ++ d ∷ []) c f v (record {
      names = λ test blind. or_from (list_any (test Interval) ns) false (itvs_pass m n refl v test blind d.members l.there) refl;
      joins = refl;
      ordered = refl;
      signs = refl;
      fitting = refl;
      once = ap are_distinct members ∙ l.once;
      inside = refl;
      small = refl;
      few = ap (λ k. nat_le k 500) (length-map d.members (interval_name m)) ∙ l.few;
      hull = refl;
      sparse = refl;
    }) (λ i. mid m (s ++ record { name = no_name i; members = members i; types = no_types i } ∷ []) c f)
    (λ i. constraint.NoOverlap (record { 0 = place i }) None (off i)) more here.middle.cumuls here.front
listed_stays m s c f p d (Some x) direct here at unnamed untyped l place more fits flag =
    let types = (and_parts (is_mat m x) _ fits).1 in
    let none : false ≡ true = sym (ap (λ (d : SequenceDef). passes (λ ts. passes (λ (d : MatrixDef). list_all (λ t. nat_lt t d.size) ts) (matrix_of m (Some x))) d.types) (sequence_at m p d at)
    ∙ ap (passes (λ ts. passes (λ (d : MatrixDef). list_all (λ t. nat_lt t d.size) ts) (matrix_of m (Some x)))) untyped) ∙ types in
    cc

pub overlap_listed : (m : Data) (s : List SequenceDef) (c : List CumulDef) (f : List Constraint) (p : Seq) (d : SequenceDef) (o : Option Mat) (direct : Bool) → Place m s c f (constraint.NoOverlap p o direct)
    → slice_get m.sequences p.0 ≡ Some d → d.name ≡ None → d.types ≡ None → Listing m d → length s ≡ p.0 → Front (s ++ d ∷ []) m.sequences → passes_if_any (fits_types m p) o ≡ true → (is_some o || not direct) ≡ true
    → Leaves (mid m s c f) (constraint_tree m (constraint.NoOverlap p o direct)) (mid m (s ++ d ∷ []) c (f ++ constraint.NoOverlap p o direct ∷ []))
overlap_listed m s c f p d o direct here at unnamed untyped l place more fits flag =
    subst (λ w. Leaves (mid m s c f) (constrained.NoOverlap w (option_map (λ x. spaced_tree m direct x.0) o)) (mid m (s ++ d ∷ []) c (f ++ constraint.NoOverlap p o direct ∷ []))) (sym (over_listed m p d at unnamed))
    (listed_stays m s c f p d o direct here at unnamed untyped l place more fits flag)
