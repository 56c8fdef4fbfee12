-- The statements of a text, one after another, lead from one model to another where each passes the tests.
use Rattle.std.proofs.Common.{◌≡◌, ℕ, ◌+◌, ◌≤◌, Bool, true, false, not, ◌||◌, List, [], ◌∷◌, ◌++◌, map, filter_map, length, nat_lt, Option, Some, None, refl, sym, ap, subst, ◌∙◌, arith}
use Rattle.std.specs.List.{cons_option}
use Rattle.std.proofs.lemmas.List.{append_assoc, append-nil}
use Rattle.std.proofs.lemmas.Bool.{or_from, not_from_true}
use Rattle.sched_model.specs.Data.{Data}
use Rattle.sched_model.specs.Valid.{are_distinct}
use Rattle.cpo_text.specs.declared.tree.Statement.{Statement}
use Rattle.cpo_text.specs.declared.text.Form.TheVariants.{Tree as Parsed}
use Rattle.cpo_text.specs.declared.text.Reading.{Reading}
use Rattle.cpo_text.specs.declared.tree.Definition.TheVariants.{IntervalVar, SequenceVar, TransitionMatrix, StateFunction, StepFunction, Cumulative}
use Rattle.cpo_text.specs.declared.tree.Statement.TheVariants.{Empty, Define, Constrain, Forbid, Aim, Rank}
use Rattle.sched_model.specs.Words.{passes}
use Rattle.cpo_elab.specs.Stages.{plain, is_function, is_known, function_in, reached}
use Rattle.cpo_elab.specs.code.Calendars.{is_of_calendars}
use Rattle.cpo_elab.specs.Named.{NameTest, itvs_of, some_name}
use Rattle.cpo_elab.specs.Held.{list_in}
use Rattle.cpo_elab.specs.Elaborated.{after}
use Rattle.cpo_elab.specs.NamedFirst.{named_first}
use Rattle.cpo_elab.specs.Judged.{is_unknown, is_of_other_sort, defines_again, lacks_member, has_reversed, has_negative, misfits, is_wide, leaves_room, statement_limit, aims_again, has_no_hull, has_crowded, number_in}
use Rattle.cpo_elab.specs.Answers.{judged, refused_or, number_at, after_form}
use Rattle.cpo_elab.specs.Answers.Answer.{Accepted}
use Rattle.read_back.proofs.Truth.{not_below}
use Rattle.read_back.proofs.judge.Names.{Blind, blind_unknown, blind_sort}
use Rattle.read_back.proofs.NoNumber.{no_number}

-- each test but that of the number of statements
pub record Clean (n : Data) (s : Statement) : Type 0 where
  pub fresh : defines_again (plain n) s ≡ false
  pub names : (test : NameTest) → Blind n test → some_name test s ≡ false
  pub joins : lacks_member n s ≡ false
  pub ordered : has_reversed s ≡ false
  pub signs : has_negative s ≡ false
  pub fitting : misfits n s ≡ false
  pub once : are_distinct (itvs_of n (list_in s)) ≡ true
  pub narrow : is_wide s ≡ false
  pub room : leaves_room (plain n) s ≡ true
  pub single : aims_again n s ≡ false
  pub hull : has_no_hull n s ≡ false
  pub sparse : has_crowded s ≡ false
  pub own : is_of_calendars s ≡ false

-- a statement of no calendar uses no step function, and adds none

no_function : (s : Statement) → is_of_calendars s ≡ false → (p : List ℕ → Bool) → passes p (function_in s) ≡ false
no_function Empty own p = refl
no_function (Define n d) own p = refl
no_function (Constrain c) own p = refl
no_function (Forbid w a f) own p = cc own
no_function (Aim sense e) own p = refl
no_function (Rank sense es) own p = refl

pub stays_plain : (n : Data) (s : Statement) → is_of_calendars s ≡ false → reached (plain n) s ≡ plain (after n s)
stays_plain n Empty own = refl
stays_plain n (Define name (IntervalVar args)) own = refl
stays_plain n (Define name (SequenceVar ns types)) own = refl
stays_plain n (Define name (TransitionMatrix rows)) own = refl
stays_plain n (Define name (StateFunction x)) own = refl
stays_plain n (Define name (StepFunction ps)) own = cc own
stays_plain n (Define name (Cumulative c)) own = refl
stays_plain n (Constrain c) own = refl
stays_plain n (Forbid w a f) own = cc own
stays_plain n (Aim sense e) own = refl
stays_plain n (Rank sense es) own = refl

passed : (n : Data) (k : ℕ) (s : Statement) → k ≤ statement_limit → Clean n s → number_in (plain n) k s ≡ None
passed n k s few clean = no_number (plain n) k s (record {
  again = clean.fresh;
  unknown = or_from (passes (λ f. not (is_known (plain n) f)) (function_in s)) (some_name (is_unknown (plain n)) s) (no_function s clean.own _) (clean.names (is_unknown (plain n)) (blind_unknown n));
  wrong = or_from (passes (λ f. not (is_function (plain n) f)) (function_in s)) (some_name (is_of_other_sort n) s || lacks_member n s) (no_function s clean.own _)
      (or_from (some_name (is_of_other_sort n) s) (lacks_member n s) (clean.names (is_of_other_sort n) (blind_sort n)) clean.joins);
  reversed = clean.ordered;
  negative = clean.signs;
  misfit = clean.fitting;
  twice = not_from_true _ clean.once;
  limit = or_from (nat_lt statement_limit k) _ (not_below k statement_limit few) (or_from (is_wide s) (not (leaves_room (plain n) s)) clean.narrow (not_from_true _ clean.room));
  aimed = clean.single;
  hull = clean.hull;
  crowded = clean.sparse;
})

abbrev pub Leads : Data → List Statement → Data → Type 0
Leads n [] m = n ≡ m
Leads n (s ∷ ss) m = Clean n s × Leads (after n s) ss m

-- the readings of statements that lead to a model are judged to be it
pub judged_leads : (n m : Data) (k : ℕ) (ss : List Statement) (xs : List Reading) → Leads n ss m → k + length ss ≤ statement_limit + 1 → map (λ x. x.form) xs ≡ map Parsed ss → judged (plain n) k xs ≡ Accepted (named_first m)
judged_leads n m k [] [] leads few are = ap (λ m. Accepted (named_first m)) leads
judged_leads n m k [] (x ∷ xs) leads few are = cc
judged_leads n m k (s ∷ ss) [] leads few are = cc
judged_leads n m k (s ∷ ss) (x ∷ xs) leads few are =
    let same : x.form ≡ Parsed s = cc are in
    let rest : map (λ x. x.form) xs ≡ map Parsed ss = cc are in
    ap (λ f. refused_or (number_at (plain n) k f) k x.at (judged (after_form (plain n) f) (k + 1) xs)) same
    ∙ ap (λ o. refused_or o k x.at (judged (reached (plain n) s) (k + 1) xs)) (passed n k s (omega arith) leads.0)
    ∙ ap (λ st. judged st (k + 1) xs) (stays_plain n s leads.0.own)
    ∙ judged_leads (after n s) m (k + 1) ss xs leads.1 (omega arith) rest

pub leads_on : (n m r : Data) (ss ts : List Statement) → Leads n ss m → Leads m ts r → Leads n (ss ++ ts) r
leads_on n m r [] ts first rest = subst (λ n. Leads n ts r) (sym first) rest
leads_on n m r (s ∷ ss) ts first rest = (first.0, leads_on (after n s) m r ss ts first.1 rest)

-- one statement more
pub lead : (n m r : Data) (s : Statement) (ss : List Statement) → Clean n s → after n s ≡ m → Leads m ss r → Leads n (s ∷ ss) r
lead n m r s ss clean is rest = (clean, subst (λ m. Leads m ss r) (sym is) rest)

-- what a statement, if there is one, makes of a model
abbrev pub StepBy : Data → Data → Option Statement → Type 0
StepBy n m None = n ≡ m
StepBy n m (Some s) = Clean n s × (after n s ≡ m)

one_step : (n m r : Data) (o : Option Statement) (ss : List Statement) → StepBy n m o → Leads m ss r → Leads n (cons_option o ss) r
one_step n m r None ss same rest = subst (λ n. Leads n ss r) (sym same) rest
one_step n m r (Some s) ss step rest = lead n m r s ss step.0 step.1 rest

pub phase : {X : Type 0} (tree : X → Option Statement) (at : List X → Data) (whole : List X) → ((front back : List X) (x : X) → front ++ x ∷ back ≡ whole → StepBy (at front) (at (front ++ x ∷ [])) (tree x))
    → (front back : List X) → front ++ back ≡ whole → Leads (at front) (filter_map tree back) (at whole)
phase tree at whole step front [] is = ap at (sym (append-nil front) ∙ is)
phase tree at whole step front (x ∷ back) is =
    one_step (at front) (at (front ++ x ∷ [])) (at whole) (tree x) (filter_map tree back) (step front back x is)
    (phase tree at whole step (front ++ x ∷ []) back (append_assoc front (x ∷ []) back ∙ is))

all_trees : {X : Type 0} (tree : X → Statement) (xs : List X) → filter_map (λ x. Some (tree x)) xs ≡ map tree xs
all_trees tree [] = refl
all_trees tree (x ∷ xs) = ap (λ ss. tree x ∷ ss) (all_trees tree xs)

pub every : {X : Type 0} (tree : X → Statement) (at : List X → Data) (whole : List X) → ((front back : List X) (x : X) → front ++ x ∷ back ≡ whole → Clean (at front) (tree x) × (after (at front) (tree x) ≡ at (front ++ x ∷ [])))
    → Leads (at []) (map tree whole) (at whole)
every tree at whole step = subst (λ ss. Leads (at []) ss (at whole)) (all_trees tree whole) (phase (λ x. Some (tree x)) at whole step [] whole refl)
