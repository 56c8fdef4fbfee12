-- Tables of words: each word is the spelling of what stands beside it, and that is found by it.
use Rattle.std.proofs.Common.{◌≡◌, ℕ, Bool, true, false, cond, List, [], ◌∷◌, Option, Some, None, refl, sym, ap, ◌∙◌}
use Rattle.std.specs.Prelude.{codes, bytes_eq, if◌then◌else◌, is_some, ⊤}
use Rattle.std.proofs.lemmas.Option.{same_Some}
use Rattle.cpo_text.specs.Words.{Word}
use Rattle.cpo_text.specs.Words.Word.{name, number, large, sign, quoted}
use Rattle.cpo_text.specs.Spelling.{temporal_word, hierarchy_word, extreme_word, order_word, bound_sign, forbidden_word, sense_word}
use Rattle.cpo_text.specs.code.Rules.{with_rest, find_word, sign_in}
use Rattle.cpo_text.specs.code.CallWords.{contributions, definitions, precedences, gatherings, always, senses, prohibitions, or_else, constraint_of, is_call}
use Rattle.cpo_text.specs.code.Contributions.{joints, bounds}
use Rattle.cpo_text.specs.declared.call_words.PartWord.{PartWord}
use Rattle.cpo_text.specs.declared.call_words.PartWord.TheVariants as part
use Rattle.cpo_text.specs.declared.call_words.DefinitionWord.{DefinitionWord}
use Rattle.cpo_text.specs.declared.call_words.DefinitionWord.TheVariants as definition
use Rattle.cpo_text.specs.declared.call_words.ConstraintWord.{ConstraintWord}
use Rattle.cpo_text.specs.declared.call_words.ConstraintWord.TheVariants.{Between, Parts, Alternative, NoOverlap, Extreme, Ordered, AlwaysIn, AlwaysEqual, AlwaysNoState}
use Rattle.cpo_text.specs.declared.tree.Temporal.TheVariants.{StartBeforeStart, StartBeforeEnd, EndBeforeStart, EndBeforeEnd, StartAtStart, StartAtEnd, EndAtStart, EndAtEnd}
use Rattle.cpo_text.specs.declared.tree.Hierarchy.TheVariants.{Span, Synchronize}
use Rattle.cpo_text.specs.declared.tree.Extreme.TheVariants.{First, Last}
use Rattle.cpo_text.specs.declared.tree.Order.TheVariants.{Before, Prev}
use Rattle.cpo_text.specs.declared.tree.Bound.{Bound}
use Rattle.cpo_text.specs.declared.tree.Bound.TheVariants.{AtMost, AtLeast}
use Rattle.cpo_text.specs.declared.tree.Forbidden.{Forbidden}
use Rattle.cpo_text.specs.declared.tree.Forbidden.TheVariants as forbidden
use Rattle.cpo_text.specs.declared.tree.Sense.{Sense}
use Rattle.cpo_text.specs.declared.tree.Sense.TheVariants.{Minimize, Maximize}
use Rattle.cpo_text.proofs.operands.Binds.{both, some_pair, bytes_same}

abbrev pub IsTable : {X : Type 0} → (X → List ℕ) → List (List ℕ × X) → Type 0
IsTable spell [] = ⊤
IsTable spell (p ∷ ps) = (p.0 ≡ spell p.1) × IsTable spell ps

pub found_is : {X : Type 0} (spell : X → List ℕ) (table : List (List ℕ × X)) → IsTable spell table → (n : List ℕ) (x : X) → find_word table n ≡ Some x → n ≡ spell x
found_is spell [] table n x h = cc
found_is spell (p ∷ ps) table n x h = decided (bytes_eq n p.0) refl h (found_is spell ps table.1 n x)
  where
    decided : (b : Bool) → bytes_eq n p.0 ≡ b → cond b (Some p.1) (find_word ps n) ≡ Some x → (find_word ps n ≡ Some x → n ≡ spell x) → n ≡ spell x
    decided true is h later = bytes_same n p.0 is ∙ table.0 ∙ ap spell (same_Some p.1 x h)
    decided false is h later = later h

-- signs

pub sign_in_takes : {X : Type 0} (spell : X → List ℕ) (table : List (List ℕ × X)) → IsTable spell table → (ws : List Word) (x : X) (r : List Word) → sign_in table ws ≡ Some (x, r) → ws ≡ sign (spell x) ∷ r
sign_in_takes spell table are [] x r h = cc
sign_in_takes spell table are (name n ∷ ws) x r h = cc
sign_in_takes spell table are (number n ∷ ws) x r h = cc
sign_in_takes spell table are (large ∷ ws) x r h = cc
sign_in_takes spell table are (quoted ∷ ws) x r h = cc
sign_in_takes {X} spell table are (sign s ∷ ws) x r h = by_found (find_word table s) refl h
  where
    by_found : (o : Option X) → find_word table s ≡ o → with_rest o ws ≡ Some (x, r) → sign s ∷ ws ≡ sign (spell x) ∷ r
    by_found None is h = cc
    by_found (Some y) is h = let e = some_pair y x ws r h in both (λ z zs. sign z ∷ zs) (found_is spell table are s y is ∙ ap spell e.0) e.1

abbrev pub joint_sign : Bool → List ℕ
joint_sign minus = if minus then codes "-" else codes "+"

pub joint_table : IsTable joint_sign joints
joint_table = (refl, (refl, tt))

pub bound_table : IsTable bound_sign bounds
bound_table = (refl, (refl, tt))

pub joint_again : (minus : Bool) (r : List Word) → sign_in joints (sign (joint_sign minus) ∷ r) ≡ Some (minus, r)
joint_again true r = refl
joint_again false r = refl

pub bound_again : (b : Bound) (r : List Word) → sign_in bounds (sign (bound_sign b) ∷ r) ≡ Some (b, r)
bound_again AtMost r = refl
bound_again AtLeast r = refl

-- words of parts and of definitions

abbrev pub part_name : PartWord → List ℕ
part_name part.Pulse = codes "pulse"
part_name part.Step = codes "step"
part_name part.StepAtStart = codes "stepAtStart"
part_name part.StepAtEnd = codes "stepAtEnd"

pub part_table : IsTable part_name contributions
part_table = (refl, (refl, (refl, (refl, tt))))

abbrev pub definition_name : DefinitionWord → List ℕ
definition_name definition.IntervalVar = codes "intervalVar"
definition_name definition.SequenceVar = codes "sequenceVar"
definition_name definition.TransitionMatrix = codes "transitionMatrix"
definition_name definition.StateFunction = codes "stateFunction"
definition_name definition.StepFunction = codes "stepFunction"

pub definition_table : IsTable definition_name definitions
definition_table = (refl, (refl, (refl, (refl, (refl, tt)))))

pub definition_found : (d : DefinitionWord) → find_word definitions (definition_name d) ≡ Some d
definition_found definition.IntervalVar = refl
definition_found definition.SequenceVar = refl
definition_found definition.TransitionMatrix = refl
definition_found definition.StateFunction = refl
definition_found definition.StepFunction = refl

-- a part's word begins no call of an expression
pub part_no_call : (n : List ℕ) → is_call n ≡ true → is_some (find_word contributions n) ≡ false
part_no_call n call = decided (find_word contributions n) refl
  where
    none : (w : PartWord) → is_call (part_name w) ≡ false
    none part.Pulse = refl
    none part.Step = refl
    none part.StepAtStart = refl
    none part.StepAtEnd = refl

    decided : (o : Option PartWord) → find_word contributions n ≡ o → is_some (find_word contributions n) ≡ false
    decided None is = rw is refl
    decided (Some w) is = let wrong = sym call ∙ ap is_call (found_is part_name contributions part_table n w is) ∙ none w in cc

-- words of constraints and of objectives

abbrev pub constraint_name : ConstraintWord → List ℕ
constraint_name (Between t) = temporal_word t
constraint_name (Parts h) = hierarchy_word h
constraint_name Alternative = codes "alternative"
constraint_name NoOverlap = codes "noOverlap"
constraint_name (Extreme e) = extreme_word e
constraint_name (Ordered o) = order_word o
constraint_name AlwaysIn = codes "alwaysIn"
constraint_name AlwaysEqual = codes "alwaysEqual"
constraint_name AlwaysNoState = codes "alwaysNoState"

precedence_table : IsTable constraint_name precedences
precedence_table = (refl, (refl, (refl, (refl, (refl, (refl, (refl, (refl, tt))))))))

gathering_table : IsTable constraint_name gatherings
gathering_table = (refl, (refl, (refl, (refl, (refl, (refl, (refl, (refl, tt))))))))

always_table : IsTable constraint_name always
always_table = (refl, (refl, (refl, tt)))

pub sense_table : IsTable sense_word senses
sense_table = (refl, (refl, tt))

pub constraint_is : (n : List ℕ) (w : ConstraintWord) → constraint_of n ≡ Some w → n ≡ constraint_name w
unfolding constraint_of
constraint_is n w h = decided (find_word precedences n) refl (find_word gatherings n) refl h
  where
    decided : (a : Option ConstraintWord) → find_word precedences n ≡ a → (b : Option ConstraintWord) → find_word gatherings n ≡ b → or_else a (or_else b (find_word always n)) ≡ Some w → n ≡ constraint_name w
    decided (Some x) is b e h = found_is constraint_name precedences precedence_table n x is ∙ ap constraint_name (same_Some x w h)
    decided None is (Some x) e h = found_is constraint_name gatherings gathering_table n x e ∙ ap constraint_name (same_Some x w h)
    decided None is None e h = found_is constraint_name always always_table n w h

-- no part and no call of an expression begins with this word
pub record IsOther (n : List ℕ) : Type 0 where
  pub part : is_some (find_word contributions n) ≡ false
  pub call : is_call n ≡ false

other : (n : List ℕ) → is_some (find_word contributions n) ≡ false → is_call n ≡ false → IsOther n
other n a b = record { part = a; call = b }

pub constraint_other : (w : ConstraintWord) → IsOther (constraint_name w)
constraint_other (Between StartBeforeStart) = other _ refl refl
constraint_other (Between StartBeforeEnd) = other _ refl refl
constraint_other (Between EndBeforeStart) = other _ refl refl
constraint_other (Between EndBeforeEnd) = other _ refl refl
constraint_other (Between StartAtStart) = other _ refl refl
constraint_other (Between StartAtEnd) = other _ refl refl
constraint_other (Between EndAtStart) = other _ refl refl
constraint_other (Between EndAtEnd) = other _ refl refl
constraint_other (Parts Span) = other _ refl refl
constraint_other (Parts Synchronize) = other _ refl refl
constraint_other Alternative = other _ refl refl
constraint_other NoOverlap = other _ refl refl
constraint_other (Extreme First) = other _ refl refl
constraint_other (Extreme Last) = other _ refl refl
constraint_other (Ordered Before) = other _ refl refl
constraint_other (Ordered Prev) = other _ refl refl
constraint_other AlwaysIn = other _ refl refl
constraint_other AlwaysEqual = other _ refl refl
constraint_other AlwaysNoState = other _ refl refl

pub constraint_found : (w : ConstraintWord) → constraint_of (constraint_name w) ≡ Some w
unfolding constraint_of
constraint_found (Between StartBeforeStart) = refl
constraint_found (Between StartBeforeEnd) = refl
constraint_found (Between EndBeforeStart) = refl
constraint_found (Between EndBeforeEnd) = refl
constraint_found (Between StartAtStart) = refl
constraint_found (Between StartAtEnd) = refl
constraint_found (Between EndAtStart) = refl
constraint_found (Between EndAtEnd) = refl
constraint_found (Parts Span) = refl
constraint_found (Parts Synchronize) = refl
constraint_found Alternative = refl
constraint_found NoOverlap = refl
constraint_found (Extreme First) = refl
constraint_found (Extreme Last) = refl
constraint_found (Ordered Before) = refl
constraint_found (Ordered Prev) = refl
constraint_found AlwaysIn = refl
constraint_found AlwaysEqual = refl
constraint_found AlwaysNoState = refl

pub sense_other : (s : Sense) → IsOther (sense_word s)
sense_other Minimize = other _ refl refl
sense_other Maximize = other _ refl refl

pub sense_found : (s : Sense) → (constraint_of (sense_word s) ≡ None) × (find_word senses (sense_word s) ≡ Some s)
unfolding constraint_of
sense_found Minimize = (refl, refl)
sense_found Maximize = (refl, refl)

-- words of calendars' sentences

pub prohibition_table : IsTable forbidden_word prohibitions
prohibition_table = (refl, (refl, tt))

pub forbidden_other : (w : Forbidden) → IsOther (forbidden_word w)
forbidden_other forbidden.Start = other _ refl refl
forbidden_other forbidden.Extent = other _ refl refl

-- in no table but their own
pub record IsFoundLast (w : Forbidden) : Type 0 where
  pub constraint : constraint_of (forbidden_word w) ≡ None
  pub sense : find_word senses (forbidden_word w) ≡ None
  pub found : find_word prohibitions (forbidden_word w) ≡ Some w

pub forbidden_found : (w : Forbidden) → IsFoundLast w
unfolding constraint_of
forbidden_found forbidden.Start = record { constraint = refl; sense = refl; found = refl }
forbidden_found forbidden.Extent = record { constraint = refl; sense = refl; found = refl }
