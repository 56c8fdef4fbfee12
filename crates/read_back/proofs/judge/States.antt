-- The statement of a state function passes each test, and adds the function.
use Rattle.std.proofs.Common.{◌≡◌, true, false, List, [], ◌∷◌, ◌++◌, map, filter_map, length, Option, Some, None, option_map, nat_lt, refl, sym, ap, ◌∙◌}
use Rattle.std.proofs.lemmas.List.{map-append}
use Rattle.std.proofs.lemmas.Bool.{or_from}
use Rattle.sched_base.specs.declared.ids.Mat.{Mat}
use Rattle.sched_model.specs.declared.types.SequenceDef.{SequenceDef}
use Rattle.sched_model.specs.declared.types.CumulDef.{CumulDef}
use Rattle.sched_model.specs.declared.types.StateDef.{StateDef}
use Rattle.sched_model.specs.Words.{passes, passes_if_any}
use Rattle.sched_model.specs.Data.{Data}
use Rattle.sched_model.specs.Valid.{IsValid, is_within_limits, is_state_def, is_mat}
use Rattle.cpo_elab.specs.declared.names.Sort.TheVariants.{Matrix}
use Rattle.cpo_elab.specs.Named.{NameTest, mat_of}
use Rattle.cpo_elab.specs.Elaborated.{after}
use Rattle.sched_text.specs.Pieces.{matrix_name}
use Rattle.read_back.specs.Trees.{state_tree}
use Rattle.read_back.proofs.Items.{item}
use Rattle.read_back.proofs.Names.{number_mat, mat_back}
use Rattle.read_back.proofs.judge.Names.{Blind}
use Rattle.read_back.proofs.judge.Frame.{Clean}
use Rattle.read_back.proofs.judge.Limits.{made, Front, Fronts, front_none, front_all, front_to, made_within}
use Rattle.read_back.proofs.judge.Fresh.{Next, next_fresh, next_short, in_fifth}

-- sequences and functions that have all names of those of the model, and stand in front there
pub record Heads (m : Data) (s : List SequenceDef) (c : List CumulDef) : Type 0 where
  pub sequences : Front s m.sequences
  pub cumuls : Front c m.cumuls
  pub sequence_names : filter_map (λ d. d.name) s ≡ filter_map (λ d. d.name) m.sequences
  pub cumul_names : filter_map (λ d. d.name) c ≡ filter_map (λ d. d.name) m.cumuls

abbrev pub at_states : Data → List SequenceDef → List CumulDef → List StateDef → Data
at_states m s c front = made m.intervals m.matrices s c front []

next_state : (m : Data) (s : List SequenceDef) (c : List CumulDef) → Heads m s c → (front back : List StateDef) (d : StateDef) → front ++ d ∷ back ≡ m.states → Next (at_states m s c front) m d.name
next_state m s c heads front back d is =
    let a = map (λ d. d.name) m.intervals in
    let b = map (λ d. d.name) m.matrices in
    let split = sym (ap (map (λ (d : StateDef). d.name)) is) ∙ map-append (λ (d : StateDef). d.name) front (d ∷ back) in
    record {
      later = map (λ d. d.name) back;
      are = (λ i. a ++ b ++ sym heads.sequence_names i ++ sym heads.cumul_names i ++ split i)
          ∙ in_fifth d.name a b (filter_map (λ d. d.name) s) (filter_map (λ d. d.name) c) (map (λ d. d.name) front) (map (λ d. d.name) back);
    }

named_matrix : (m n : Data) → n.matrices ≡ m.matrices → IsValid m → (o : Option Mat) → passes_if_any (is_mat m) o ≡ true → option_map (mat_of n) (option_map (matrix_name m) o) ≡ o
named_matrix m n same v None there = refl
named_matrix m n same v (Some x) there = ap Some (mat_back m n same v x there)

matrix_passes : (m n : Data) → n.matrices ≡ m.matrices → IsValid m → (test : NameTest) → Blind n test → (o : Option Mat) → passes_if_any (is_mat m) o ≡ true → passes (test Matrix) (option_map (matrix_name m) o) ≡ false
matrix_passes m n same v test blind None there = refl
matrix_passes m n same v test blind (Some x) there = blind Matrix (matrix_name m x) x.0 (number_mat m n same v x there)

pub state_step : (m : Data) → IsValid m → (s : List SequenceDef) (c : List CumulDef) → Heads m s c → (front back : List StateDef) (d : StateDef) → front ++ d ∷ back ≡ m.states
    → Clean (at_states m s c front) (state_tree m d) × (after (at_states m s c front) (state_tree m d) ≡ at_states m s c (front ++ d ∷ []))
state_step m v s c heads front back d is =
    let n = at_states m s c front in
    let here : passes_if_any (is_mat m) d.matrix ≡ true = item (is_state_def m) front back m.states d is v.states in
    let next = next_state m s c heads front back d is in
    let back_it = named_matrix m n refl v d.matrix here in
    let made_it : after n (state_tree m d) ≡ at_states m s c (front ++ d ∷ []) = λ i. at_states m s c (front ++ record { name = d.name; matrix = back_it i } ∷ []) in
    let fronts : Fronts (at_states m s c (front ++ d ∷ [])) m = (front_all m.intervals, front_all m.matrices, heads.sequences, heads.cumuls, front_to front back m.states d is, front_none m.constraints) in (
      record {
        fresh = next_fresh m n d.name v next;
        names = λ test blind. matrix_passes m n refl v test blind d.matrix here;
        joins = refl;
        ordered = refl;
        signs = refl;
        fitting = refl;
        once = refl;
        narrow = or_from (nat_lt 64 (length d.name)) _ (next_short m n d.name v next) refl;
        room = ap is_within_limits made_it ∙ made_within m m.intervals m.matrices s c (front ++ d ∷ []) [] v.limits fronts;
        single = refl;
        hull = refl;
        sparse = refl;
        own = refl;
      },
      made_it,
    )
