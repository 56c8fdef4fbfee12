-- The statement of a constraint on a cumulative function, by its name or written out, passes each test, and adds the constraint.
use Rattle.std.proofs.Common.{◌≡◌, ◌^◌, ℕ, ℤ, pos, Bool, true, false, not, if◌then◌else◌, ◌||◌, List, [], ◌∷◌, ◌++◌, length, slice_get, Some, None, option_map, unwrap_or, int_le, refl, sym, ap, subst, ◌∙◌}
use Rattle.std.specs.Ordering.{int_eq}
use Rattle.std.proofs.lemmas.Bool.Decides.{Decides-int_eq}
use Rattle.std.proofs.lemmas.Bool.{or_from}
use Rattle.sched_base.specs.declared.ids.Itv.{Itv}
use Rattle.sched_base.specs.declared.ids.Cum.{Cum}
use Rattle.sched_model.specs.declared.types.SequenceDef.{SequenceDef}
use Rattle.sched_model.specs.declared.types.CumulDef.{CumulDef}
use Rattle.sched_model.specs.declared.types.Window.{Window}
use Rattle.sched_model.specs.declared.types.Window.TheVariants as window
use Rattle.sched_model.specs.declared.types.Constraint.{Constraint}
use Rattle.sched_model.specs.declared.types.Constraint.TheVariants as constraint
use Rattle.sched_model.specs.Words.{is_empty}
use Rattle.sched_model.specs.Data.{Data}
use Rattle.sched_model.specs.Valid.{IsValid, is_cumul_def, is_itv, is_small, is_span_of_moments, is_window}
use Rattle.sched_model.specs.laws.Small.{moment_small}
use Rattle.cpo_text.specs.declared.cumul.Cumul.{Cumul}
use Rattle.cpo_text.specs.declared.tree.Bound.TheVariants as bound
use Rattle.cpo_text.specs.declared.tree.Constrained.TheVariants as constrained
use Rattle.cpo_elab.specs.declared.names.Sort.TheVariants.{Interval}
use Rattle.cpo_elab.specs.Named.{some_in_cumul}
use Rattle.cpo_elab.specs.Literals.{int_of}
use Rattle.cpo_elab.specs.Held.{some_moments}
use Rattle.cpo_elab.specs.Elaborated.{named_itself, cumul_id, with_unnamed}
use Rattle.cpo_elab.specs.Judged.{is_reversed, is_outside}
use Rattle.sched_text.specs.Pieces.{interval_name}
use Rattle.sched_text.specs.Canonical.{least_level}
use Rattle.read_back.specs.Trees.{int_tree, by_name, parts_tree, named_or_parts, function_tree, within_tree, constraint_tree}
use Rattle.read_back.specs.Written.{is_one_bound}
use Rattle.read_back.proofs.Numbers.{int_back, span}
use Rattle.read_back.proofs.Names.{itv_back}
use Rattle.read_back.proofs.Truth.{the_other}
use Rattle.read_back.proofs.judge.Numbers.{is_ordered, span_inside, span_ordered}
use Rattle.read_back.proofs.judge.Limits.{Front}
use Rattle.read_back.proofs.judge.Parts.{parts_back, no_name, CleanCumul, clean_parts, clean_name}
use Rattle.read_back.proofs.judge.Middle.{mid, Middle, number_cum, Leaves, leaves}
use Rattle.read_back.proofs.judge.Plain.{Place, Stays, interval_passes}

-- a function that is read back to the one with this id, where the functions become these
pub record Function (m : Data) (s : List SequenceDef) (c : List CumulDef) (f : List Constraint) (k : Cum) (g : Cumul) (later : List CumulDef) : Type 0 where
  pub clean : CleanCumul (mid m s c f) g
  pub written : with_unnamed (mid m s c f) g (named_itself g) ≡ mid m s later f
  pub id : cumul_id (mid m s c f) (named_itself g) ≡ k
  pub more : Front later m.cumuls

same_int : (x y : ℤ) → int_eq x y ≡ true → x ≡ y
same_int x y h = (Decides-int_eq x y).0 h

at_most_stays : (m : Data) (s : List SequenceDef) (c : List CumulDef) (f : List Constraint) (k : Cum) (g : Cumul) (later : List CumulDef) (lo hi : ℤ) → Place m s c f (constraint.CumulIn k window.Always lo hi)
    → Function m s c f k g later → is_small hi ≡ true → lo ≡ least_level → Leaves (mid m s c f) (constrained.Bounded g bound.AtMost (int_tree hi)) (mid m s later (f ++ constraint.CumulIn k window.Always lo hi ∷ []))
at_most_stays m s c f k g later lo hi here fn small least =
    let level = int_back hi small in
    let low = sym least in
    leaves m (mid m s c f) (constrained.Bounded g bound.AtMost (int_tree hi)) (constraint.CumulIn k window.Always lo hi) s later f here.valid (record {
      names = fn.clean.names;
      joins = refl;
      ordered = or_from (some_moments is_reversed g) false fn.clean.ordered refl;
      signs = fn.clean.signs;
      fitting = refl;
      once = refl;
      inside = fn.clean.inside;
      small = fn.clean.small;
      few = refl;
      hull = refl;
      sparse = refl;
    }) fn.written (λ i. constraint.CumulIn (fn.id i) window.Always (low i) (level i)) here.middle.sequences fn.more here.front

at_least_stays : (m : Data) (s : List SequenceDef) (c : List CumulDef) (f : List Constraint) (k : Cum) (g : Cumul) (later : List CumulDef) (lo hi : ℤ) → Place m s c f (constraint.CumulIn k window.Always lo hi)
    → Function m s c f k g later → is_small lo ≡ true → hi ≡ pos (2 ^ 62) → Leaves (mid m s c f) (constrained.Bounded g bound.AtLeast (int_tree lo)) (mid m s later (f ++ constraint.CumulIn k window.Always lo hi ∷ []))
at_least_stays m s c f k g later lo hi here fn small greatest =
    let level = int_back lo small in
    let high = sym greatest in
    leaves m (mid m s c f) (constrained.Bounded g bound.AtLeast (int_tree lo)) (constraint.CumulIn k window.Always lo hi) s later f here.valid (record {
      names = fn.clean.names;
      joins = refl;
      ordered = or_from (some_moments is_reversed g) false fn.clean.ordered refl;
      signs = fn.clean.signs;
      fitting = refl;
      once = refl;
      inside = fn.clean.inside;
      small = fn.clean.small;
      few = refl;
      hull = refl;
      sparse = refl;
    }) fn.written (λ i. constraint.CumulIn (fn.id i) window.Always (level i) (high i)) here.middle.sequences fn.more here.front

always_stays : (m : Data) (s : List SequenceDef) (c : List CumulDef) (f : List Constraint) (k : Cum) (g : Cumul) (later : List CumulDef) (lo hi : ℤ) (b : Bool) → int_eq lo least_level ≡ b → Place m s c f (constraint.CumulIn k window.Always lo hi)
    → Function m s c f k g later → is_small lo ≡ true → is_small hi ≡ true → is_one_bound window.Always lo hi ≡ true
    → Leaves (mid m s c f) (if b then constrained.Bounded g bound.AtMost (int_tree hi) else constrained.Bounded g bound.AtLeast (int_tree lo)) (mid m s later (f ++ constraint.CumulIn k window.Always lo hi ∷ []))
always_stays m s c f k g later lo hi true is here fn low high one = at_most_stays m s c f k g later lo hi here fn high (same_int lo least_level is)
always_stays m s c f k g later lo hi false is here fn low high one = at_least_stays m s c f k g later lo hi here fn low (same_int hi (pos (2 ^ 62)) (the_other (int_eq lo least_level) (int_eq hi (pos (2 ^ 62))) one is))

moments_stays : (m : Data) (s : List SequenceDef) (c : List CumulDef) (f : List Constraint) (k : Cum) (g : Cumul) (later : List CumulDef) (u w lo hi : ℤ) → Place m s c f (constraint.CumulIn k (window.Moments u w) lo hi)
    → Function m s c f k g later → is_span_of_moments u w ≡ true → is_small lo ≡ true → is_small hi ≡ true → int_le lo hi ≡ true
    → Leaves (mid m s c f) (within_tree m g (window.Moments u w) lo hi) (mid m s later (f ++ constraint.CumulIn k (window.Moments u w) lo hi ∷ []))
moments_stays m s c f k g later u w lo hi here fn ends low high order =
    let parts = span u w ends in
    let from = int_back u (moment_small u parts.0) in
    let to = int_back w (moment_small w parts.1) in
    let least = int_back lo low in
    let greatest = int_back hi high in
    leaves m (mid m s c f) (within_tree m g (window.Moments u w) lo hi) (constraint.CumulIn k (window.Moments u w) lo hi) s later f here.valid (record {
      names = λ test blind. or_from (some_in_cumul test g) false (fn.clean.names test blind) refl;
      joins = refl;
      ordered = or_from (is_reversed (int_of (int_tree u), int_of (int_tree w)) || some_moments is_reversed g) _
          (or_from (is_reversed (int_of (int_tree u), int_of (int_tree w))) (some_moments is_reversed g) ((λ i. is_reversed (from i, to i)) ∙ span_ordered u w ends) fn.clean.ordered)
          ((λ i. is_reversed (least i, greatest i)) ∙ is_ordered lo hi order);
      signs = fn.clean.signs;
      fitting = refl;
      once = refl;
      inside = or_from (is_outside (int_of (int_tree u), int_of (int_tree w))) (some_moments is_outside g) ((λ i. is_outside (from i, to i)) ∙ span_inside u w ends) fn.clean.inside;
      small = fn.clean.small;
      few = refl;
      hull = refl;
      sparse = refl;
    }) fn.written (λ i. constraint.CumulIn (fn.id i) (window.Moments (from i) (to i)) (least i) (greatest i)) here.middle.sequences fn.more here.front

during_stays : (m : Data) (s : List SequenceDef) (c : List CumulDef) (f : List Constraint) (k : Cum) (g : Cumul) (later : List CumulDef) (x : Itv) (lo hi : ℤ) → Place m s c f (constraint.CumulIn k (window.During x) lo hi)
    → Function m s c f k g later → is_itv m x ≡ true → is_small lo ≡ true → is_small hi ≡ true → int_le lo hi ≡ true
    → Leaves (mid m s c f) (within_tree m g (window.During x) lo hi) (mid m s later (f ++ constraint.CumulIn k (window.During x) lo hi ∷ []))
during_stays m s c f k g later x lo hi here fn there low high order =
    let least = int_back lo low in
    let greatest = int_back hi high in
    let interval = itv_back m (mid m s c f) refl here.valid x there in
    leaves m (mid m s c f) (within_tree m g (window.During x) lo hi) (constraint.CumulIn k (window.During x) lo hi) s later f here.valid (record {
      names = λ test blind. or_from (some_in_cumul test g) (test Interval (interval_name m x)) (fn.clean.names test blind) (interval_passes m s c f here.valid x there test blind);
      joins = refl;
      ordered = or_from (some_moments is_reversed g) _ fn.clean.ordered ((λ i. is_reversed (least i, greatest i)) ∙ is_ordered lo hi order);
      signs = fn.clean.signs;
      fitting = refl;
      once = refl;
      inside = fn.clean.inside;
      small = fn.clean.small;
      few = refl;
      hull = refl;
      sparse = refl;
    }) fn.written (λ i. constraint.CumulIn (fn.id i) (window.During (interval i)) (least i) (greatest i)) here.middle.sequences fn.more here.front

within_stays : (m : Data) (s : List SequenceDef) (c : List CumulDef) (f : List Constraint) (k : Cum) (g : Cumul) (later : List CumulDef) (w : Window) (lo hi : ℤ) → Place m s c f (constraint.CumulIn k w lo hi)
    → Function m s c f k g later → is_window m w ≡ true → is_small lo ≡ true → is_small hi ≡ true → int_le lo hi ≡ true → is_one_bound w lo hi ≡ true
    → Leaves (mid m s c f) (within_tree m g w lo hi) (mid m s later (f ++ constraint.CumulIn k w lo hi ∷ []))
within_stays m s c f k g later window.Always lo hi here fn there low high order one = always_stays m s c f k g later lo hi (int_eq lo least_level) refl here fn low high one
within_stays m s c f k g later (window.Moments u w) lo hi here fn there low high order one = moments_stays m s c f k g later u w lo hi here fn there low high order
within_stays m s c f k g later (window.During x) lo hi here fn there low high order one = during_stays m s c f k g later x lo hi here fn there low high order

-- a function with a name

function_named : (m : Data) (k : Cum) (d : CumulDef) (name : List ℕ) → slice_get m.cumuls k.0 ≡ Some d → d.name ≡ Some name → function_tree m k ≡ by_name name
function_named m k d name at named =
    ap (λ o. unwrap_or (option_map (named_or_parts m) o) (by_name [])) at ∙ (λ i. named_or_parts m (record { name = named i; parts = d.parts }))

function_unnamed : (m : Data) (k : Cum) (d : CumulDef) → slice_get m.cumuls k.0 ≡ Some d → d.name ≡ None → function_tree m k ≡ parts_tree m d.parts
function_unnamed m k d at unnamed =
    ap (λ o. unwrap_or (option_map (named_or_parts m) o) (by_name [])) at ∙ (λ i. named_or_parts m (record { name = unnamed i; parts = d.parts }))

by_its_name : (m : Data) (s : List SequenceDef) (c : List CumulDef) (f : List Constraint) → IsValid m → Middle m s c → (k : Cum) (d : CumulDef) (name : List ℕ) → slice_get m.cumuls k.0 ≡ Some d → d.name ≡ Some name
    → Function m s c f k (by_name name) c
by_its_name m s c f v middle k d name at named =
    let number = number_cum m s c f v middle k.0 d name at named in
    record {
      clean = clean_name (mid m s c f) name k.0 number;
      written = refl;
      id = λ i. record { 0 = unwrap_or (number i) 0 };
      more = middle.cumuls;
    }

-- a function that is written out

by_its_parts : (m : Data) (s : List SequenceDef) (c : List CumulDef) (f : List Constraint) → IsValid m → (k : Cum) (d : CumulDef) → d.name ≡ None → is_cumul_def m d ≡ true → not (is_empty d.parts) ≡ true → length c ≡ k.0
    → Front (c ++ d ∷ []) m.cumuls → Function m s c f k (parts_tree m d.parts) (c ++ d ∷ [])
by_its_parts m s c f v k d unnamed parts some place more =
    let n = mid m s c f in
    let g = parts_tree m d.parts in
    let none = no_name m d.parts some in
    let back = parts_back m n refl v d.parts some parts in
    let empty = sym unnamed in
    record {
      clean = clean_parts m n refl v d.parts some parts;
      written = ap (with_unnamed n g) none ∙ (λ i. mid m s (c ++ record { name = empty i; parts = back i } ∷ []) f);
      id = ap (cumul_id n) none ∙ (λ i. record { 0 = place i });
      more = more;
    }

pub record Level (m : Data) (w : Window) (lo hi : ℤ) : Type 0 where
  pub there : is_window m w ≡ true
  pub low : is_small lo ≡ true
  pub high : is_small hi ≡ true
  pub order : int_le lo hi ≡ true
  pub one : is_one_bound w lo hi ≡ true

pub cumul_named : (m : Data) (s : List SequenceDef) (c : List CumulDef) (f : List Constraint) (k : Cum) (w : Window) (lo hi : ℤ) (d : CumulDef) (name : List ℕ) → Place m s c f (constraint.CumulIn k w lo hi) → Level m w lo hi
    → slice_get m.cumuls k.0 ≡ Some d → d.name ≡ Some name → Stays m s c f (constraint.CumulIn k w lo hi)
cumul_named m s c f k w lo hi d name here level at named =
    subst (λ g. Leaves (mid m s c f) (within_tree m g w lo hi) (mid m s c (f ++ constraint.CumulIn k w lo hi ∷ []))) (sym (function_named m k d name at named))
    (within_stays m s c f k (by_name name) c w lo hi here (by_its_name m s c f here.valid here.middle k d name at named) level.there level.low level.high level.order level.one)

pub cumul_unnamed : (m : Data) (s : List SequenceDef) (c : List CumulDef) (f : List Constraint) (k : Cum) (w : Window) (lo hi : ℤ) (d : CumulDef) → Place m s c f (constraint.CumulIn k w lo hi) → Level m w lo hi
    → slice_get m.cumuls k.0 ≡ Some d → d.name ≡ None → is_cumul_def m d ≡ true → not (is_empty d.parts) ≡ true → length c ≡ k.0 → Front (c ++ d ∷ []) m.cumuls
    → Leaves (mid m s c f) (constraint_tree m (constraint.CumulIn k w lo hi)) (mid m s (c ++ d ∷ []) (f ++ constraint.CumulIn k w lo hi ∷ []))
cumul_unnamed m s c f k w lo hi d here level at unnamed parts some place more =
    subst (λ g. Leaves (mid m s c f) (within_tree m g w lo hi) (mid m s (c ++ d ∷ []) (f ++ constraint.CumulIn k w lo hi ∷ []))) (sym (function_unnamed m k d at unnamed))
    (within_stays m s c f k (parts_tree m d.parts) (c ++ d ∷ []) w lo hi here (by_its_parts m s c f here.valid k d unnamed parts some place more) level.there level.low level.high level.order level.one)
