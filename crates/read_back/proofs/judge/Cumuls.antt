-- The statement of a cumulative function that has a name passes each test, and adds the function.
use Rattle.std.proofs.Common.{◌≡◌, ℕ, true, false, not, List, [], ◌∷◌, ◌++◌, map, filter_map, length, Option, Some, None, is_some, option_map, nat_lt, refl, sym, ap, ◌∙◌}
use Rattle.std.specs.List.{filter, list_all, cons_option}
use Rattle.std.proofs.lemmas.List.{append_assoc, append-nil}
use Rattle.std.proofs.lemmas.List.Elements.{filter_map-append}
use Rattle.std.proofs.lemmas.Bool.{or_from}
use Rattle.base_laws.specs.laws.Kept.{names_kept}
use Rattle.sched_model.specs.declared.types.SequenceDef.{SequenceDef}
use Rattle.sched_model.specs.declared.types.CumulDef.{CumulDef}
use Rattle.sched_model.specs.Words.{is_empty}
use Rattle.sched_model.specs.Data.{Data}
use Rattle.sched_model.specs.Valid.{IsValid, is_within_limits, is_cumul_def}
use Rattle.cpo_elab.specs.Elaborated.{after}
use Rattle.cpo_elab.specs.Judged.{is_large}
use Rattle.cpo_elab.specs.Held.{some_moments, some_height}
use Rattle.cpo_elab.specs.Judged.{is_outside, is_reversed}
use Rattle.cpo_elab.specs.NamedFirst.{is_named_sequence, is_named_cumul, parted}
use Rattle.read_back.specs.Trees.{cumul_tree, parts_tree}
use Rattle.read_back.proofs.Items.{item}
use Rattle.read_back.proofs.judge.Frame.{StepBy}
use Rattle.read_back.proofs.judge.Limits.{made, Fronts, front_none, front_all, made_within}
use Rattle.read_back.proofs.judge.Fresh.{Next, next_fresh, next_short, in_fourth}
use Rattle.read_back.proofs.judge.Named.{filter_push, filter_skip, named_front}
use Rattle.read_back.proofs.judge.Parts.{parts_back, clean_parts}

abbrev pub at_cumuls : Data → List CumulDef → Data
at_cumuls m front = made m.intervals m.matrices (filter is_named_sequence m.sequences) (filter is_named_cumul front) [] []

next_cumul : (m : Data) (front back : List CumulDef) (d : CumulDef) (name : List ℕ) → d.name ≡ Some name → front ++ d ∷ back ≡ m.cumuls → Next (at_cumuls m front) m name
next_cumul m front back d name named is =
    let a = map (λ d. d.name) m.intervals in
    let b = map (λ d. d.name) m.matrices in
    let g = λ (d : SequenceDef). d.name in
    let e = map (λ d. d.name) m.states in
    let h = λ (d : CumulDef). d.name in
    let split = sym (ap (filter_map h) is) ∙ filter_map-append h front (d ∷ back) ∙ (λ i. sym (names_kept h front) i ++ cons_option (named i) (filter_map h back)) in
    record {
      later = filter_map h back ++ e;
      are = (λ i. a ++ b ++ sym (names_kept g m.sequences) i ++ split i ++ e) ∙ in_fourth name a b (filter_map g (filter is_named_sequence m.sequences)) (filter_map h (filter is_named_cumul front)) (filter_map h back) e;
    }

cumul_made : (m : Data) → IsValid m → parted is_named_sequence m.sequences ≡ m.sequences → parted is_named_cumul m.cumuls ≡ m.cumuls → list_all (λ f. not (is_empty f.parts)) m.cumuls ≡ true
    → (front back : List CumulDef) (d : CumulDef) (o : Option (List ℕ)) → front ++ d ∷ back ≡ m.cumuls → d.name ≡ o
    → StepBy (at_cumuls m front) (at_cumuls m (front ++ d ∷ [])) (option_map (cumul_tree m d) o)
cumul_made m v seqs cums some front back d None is named = ap (λ c. made m.intervals m.matrices (filter is_named_sequence m.sequences) c [] []) (sym (filter_skip is_named_cumul front d (ap is_some named)))
cumul_made m v seqs cums some front back d (Some name) is named =
    let n = at_cumuls m front in
    let s = cumul_tree m d name in
    let g = filter is_named_sequence m.sequences in
    let parts = item (is_cumul_def m) front back m.cumuls d is v.cumuls in
    let any = item (λ (f : CumulDef). not (is_empty f.parts)) front back m.cumuls d is some in
    let clean = clean_parts m n refl v d.parts any parts in
    let next = next_cumul m front back d name named is in
    let pushed = filter_push is_named_cumul front d (ap is_some named) in
    let back_it = parts_back m n refl v d.parts any parts in
    let made_it : after n s ≡ at_cumuls m (front ++ d ∷ []) =
    (λ i. made m.intervals m.matrices g (filter is_named_cumul front ++ record { name = sym named i; parts = back_it i } ∷ []) [] []) ∙ ap (λ c. made m.intervals m.matrices g c [] []) (sym pushed) in
    let fronts : Fronts (at_cumuls m (front ++ d ∷ [])) m = (
      front_all m.intervals,
      front_all m.matrices,
      named_front is_named_sequence m.sequences m.sequences [] seqs (append-nil m.sequences),
      named_front is_named_cumul m.cumuls (front ++ d ∷ []) back cums (append_assoc front (d ∷ []) back ∙ is),
      front_none m.states,
      front_none m.constraints,
    ) in (
      record {
        fresh = next_fresh m n name v next;
        names = λ test blind. clean.names test blind;
        joins = refl;
        ordered = or_from (some_moments is_reversed (parts_tree m d.parts)) false clean.ordered refl;
        signs = clean.signs;
        fitting = refl;
        once = refl;
        narrow = or_from (nat_lt 64 (length name)) _ (next_short m n name v next) (or_from (some_moments is_outside (parts_tree m d.parts)) _ clean.inside (or_from (some_height is_large (parts_tree m d.parts)) false clean.small refl));
        room = ap is_within_limits made_it ∙ made_within m m.intervals m.matrices g (filter is_named_cumul (front ++ d ∷ [])) [] [] v.limits fronts;
        single = refl;
        hull = refl;
        sparse = refl;
        own = refl;
      },
      made_it,
    )

pub cumul_step : (m : Data) → IsValid m → parted is_named_sequence m.sequences ≡ m.sequences → parted is_named_cumul m.cumuls ≡ m.cumuls → list_all (λ f. not (is_empty f.parts)) m.cumuls ≡ true
    → (front back : List CumulDef) (d : CumulDef) → front ++ d ∷ back ≡ m.cumuls → StepBy (at_cumuls m front) (at_cumuls m (front ++ d ∷ [])) (option_map (cumul_tree m d) d.name)
cumul_step m v seqs cums some front back d is = cumul_made m v seqs cums some front back d d.name is refl
