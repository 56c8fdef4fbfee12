-- The statement of a sequence that has a name passes each test, and adds the sequence.
use Rattle.std.proofs.Common.{◌≡◌, ℕ, pos, Bool, true, false, ◌&&◌, List, [], ◌∷◌, ◌++◌, map, filter_map, length, Option, Some, None, is_some, option_map, nat_lt, nat_le, nat_eq, refl, sym, ap, ◌∙◌}
use Rattle.std.specs.List.{filter, list_all, cons_option}
use Rattle.std.proofs.lemmas.List.{length-map, append_assoc}
use Rattle.std.proofs.lemmas.List.Elements.{filter_map-append}
use Rattle.std.proofs.lemmas.Bool.{and_parts, and_from, or_from, not_from_true}
use Rattle.base_laws.specs.laws.Kept.{names_kept}
use Rattle.sched_model.specs.declared.types.SequenceDef.{SequenceDef}
use Rattle.sched_model.specs.Words.{passes_if_any}
use Rattle.sched_model.specs.Data.{Data}
use Rattle.sched_model.specs.Valid.{IsValid, is_within_limits, is_sequence_def, are_distinct}
use Rattle.cpo_text.specs.declared.tree.Definition.TheVariants.{SequenceVar}
use Rattle.cpo_text.specs.declared.tree.Statement.TheVariants.{Define}
use Rattle.cpo_elab.specs.Held.{some_amount}
use Rattle.cpo_elab.specs.Elaborated.{types_in, sequence_named, after}
use Rattle.cpo_elab.specs.Judged.{is_negative, is_large, misfits}
use Rattle.cpo_elab.specs.NamedFirst.{is_named_sequence, parted}
use Rattle.sched_text.specs.Pieces.{interval_name, interval_names}
use Rattle.read_back.specs.Trees.{int_tree, sequence_tree}
use Rattle.read_back.proofs.Items.{item}
use Rattle.read_back.proofs.Names.{itvs_back}
use Rattle.read_back.proofs.judge.Names.{itvs_pass}
use Rattle.read_back.proofs.judge.Numbers.{type_trees, types_back, types_pass, amount_sign, amount_size}
use Rattle.read_back.proofs.judge.Frame.{StepBy}
use Rattle.read_back.proofs.judge.Limits.{made, Fronts, front_none, front_all, made_within}
use Rattle.read_back.proofs.judge.Fresh.{Next, next_fresh, next_short, in_third}
use Rattle.read_back.proofs.judge.Named.{filter_push, filter_skip, named_front}
use Rattle.read_back.proofs.Members.{Listing, listing}

abbrev typed : SequenceDef → List ℕ → Bool
typed d ts = nat_eq (length ts) (length d.members) && list_all (λ t. nat_le t 1000000) ts

back_types : (d : SequenceDef) (o : Option (List ℕ)) → passes_if_any (typed d) o ≡ true → option_map types_in (option_map type_trees o) ≡ o
back_types d None h = refl
back_types d (Some ts) h = ap Some (types_back ts (and_parts (nat_eq (length ts) (length d.members)) _ h).1)

pass_types : (m : Data) (d : SequenceDef) (n : List ℕ) (o : Option (List ℕ)) → passes_if_any (typed d) o ≡ true
    → (some_amount is_negative (Define n (SequenceVar (interval_names m d.members) (option_map type_trees o))) ≡ false) × (some_amount is_large (Define n (SequenceVar (interval_names m d.members) (option_map type_trees o))) ≡ false)
pass_types m d n None h = (refl, refl)
pass_types m d n (Some ts) h = let small = (and_parts (nat_eq (length ts) (length d.members)) _ h).1 in (types_pass is_negative amount_sign ts small, types_pass is_large amount_size ts small)

fit_types : (m n : Data) (d : SequenceDef) (name : List ℕ) (o : Option (List ℕ)) → passes_if_any (typed d) o ≡ true → misfits n (Define name (SequenceVar (interval_names m d.members) (option_map type_trees o))) ≡ false
fit_types m n d name None h = refl
fit_types m n d name (Some ts) h =
    not_from_true _ ((λ i. nat_eq (length-map ts (λ t. int_tree (pos t)) i) (length-map d.members (interval_name m) i)) ∙ (and_parts (nat_eq (length ts) (length d.members)) _ h).0)

abbrev pub at_sequences : Data → List SequenceDef → Data
at_sequences m front = made m.intervals m.matrices (filter is_named_sequence front) [] [] []

next_sequence : (m : Data) (front back : List SequenceDef) (d : SequenceDef) (name : List ℕ) → d.name ≡ Some name → front ++ d ∷ back ≡ m.sequences → Next (at_sequences m front) m name
next_sequence m front back d name named is =
    let a = map (λ d. d.name) m.intervals in
    let b = map (λ d. d.name) m.matrices in
    let f = filter_map (λ d. d.name) m.cumuls in
    let e = map (λ d. d.name) m.states in
    let h = λ (d : SequenceDef). d.name in
    let split = sym (ap (filter_map h) is) ∙ filter_map-append h front (d ∷ back) ∙ (λ i. sym (names_kept h front) i ++ cons_option (named i) (filter_map h back)) in
    record {
      later = filter_map h back ++ f ++ e;
      are = ap (λ c. a ++ b ++ c ++ f ++ e) split ∙ in_third name a b (filter_map h (filter is_named_sequence front)) (filter_map h back) f e;
    }

sequence_back : (m n : Data) → n.intervals ≡ m.intervals → IsValid m → (d : SequenceDef) → Listing m d → sequence_named n d.name (interval_names m d.members) (option_map type_trees d.types) ≡ d
sequence_back m n same v d l =
    let members = itvs_back m n same v d.members l.there in
    let types = back_types d d.types l.types in
    λ i. record { name = d.name; members = members i; types = types i }

few_names : (m : Data) (d : SequenceDef) → Listing m d → nat_le (length (interval_names m d.members)) 500 ≡ true
few_names m d l = ap (λ n. nat_le n 500) (length-map d.members (interval_name m)) ∙ l.few

sequence_made : (m : Data) → IsValid m → parted is_named_sequence m.sequences ≡ m.sequences → (front back : List SequenceDef) (d : SequenceDef) (o : Option (List ℕ)) → front ++ d ∷ back ≡ m.sequences → d.name ≡ o
    → StepBy (at_sequences m front) (at_sequences m (front ++ d ∷ [])) (option_map (sequence_tree m d) o)
sequence_made m v parts front back d None is named = ap (λ s. made m.intervals m.matrices s [] [] []) (sym (filter_skip is_named_sequence front d (ap is_some named)))
sequence_made m v parts front back d (Some name) is named =
    let n = at_sequences m front in
    let s = sequence_tree m d name in
    let l = listing m d (item (is_sequence_def m) front back m.sequences d is v.sequences) in
    let next = next_sequence m front back d name named is in
    let amounts = pass_types m d name d.types l.types in
    let pushed = filter_push is_named_sequence front d (ap is_some named) in
    let back_it = (λ i. sequence_named n (sym named i) (interval_names m d.members) (option_map type_trees d.types)) ∙ sequence_back m n refl v d l in
    let made_it : after n s ≡ at_sequences m (front ++ d ∷ []) =
    ap (λ d. made m.intervals m.matrices (filter is_named_sequence front ++ d ∷ []) [] [] []) back_it ∙ ap (λ s. made m.intervals m.matrices s [] [] []) (sym pushed) in
    let fronts : Fronts (at_sequences m (front ++ d ∷ [])) m =
    (front_all m.intervals, front_all m.matrices, named_front is_named_sequence m.sequences (front ++ d ∷ []) back parts (append_assoc front (d ∷ []) back ∙ is), front_none m.cumuls, front_none m.states, front_none m.constraints) in (
      record {
        fresh = next_fresh m n name v next;
        names = λ test blind. itvs_pass m n refl v test blind d.members l.there;
        joins = refl;
        ordered = refl;
        signs = amounts.0;
        fitting = fit_types m n d name d.types l.types;
        once = ap are_distinct (itvs_back m n refl v d.members l.there) ∙ l.once;
        narrow = or_from (nat_lt 64 (length name)) _ (next_short m n name v next) (or_from (some_amount is_large s) false amounts.1 refl);
        room = and_from (nat_le (length (interval_names m d.members)) 500) _ (few_names m d l)
            (ap is_within_limits made_it ∙ made_within m m.intervals m.matrices (filter is_named_sequence (front ++ d ∷ [])) [] [] [] v.limits fronts);
        single = refl;
        hull = refl;
        sparse = refl;
        own = refl;
      },
      made_it,
    )

pub sequence_step : (m : Data) → IsValid m → parted is_named_sequence m.sequences ≡ m.sequences → (front back : List SequenceDef) (d : SequenceDef) → front ++ d ∷ back ≡ m.sequences
    → StepBy (at_sequences m front) (at_sequences m (front ++ d ∷ [])) (option_map (sequence_tree m d) d.name)
sequence_step m v parts front back d is = sequence_made m v parts front back d d.name is refl
