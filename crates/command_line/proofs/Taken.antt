-- What clap takes of the words: a word that looks as an option is no value of an option.
use Rattle.std.proofs.Common.{◌≡◌, Bool, true, false, refl, sym, ap, ◌∙◌, List, [], ◌∷◌, ◌++◌, Option, Some, None, option_map, codes, eqb-true, ◌⊎◌, inl, inr, ℕ}
use Rattle.std.specs.Prelude.{◌||◌, option_and_then, unwrap_or, if◌then◌else◌}
use Rattle.std.specs.Str.{bytes_eq}
use Rattle.command_line.specs.declared.commands.Verb.{Verb}
use Rattle.command_line.specs.declared.commands.Verb.TheVariants as verb
use Rattle.command_line.specs.Commands.{Bound, Check, Command, Core, Named, Parts, Verify, Word, command_by, command_for, gen_in, is_option, limit_of, no_more, parts_of, placed, restarts_of, show_in, solve_in, stripped, trial_in, two_in, with_argument, with_limit, with_restarts, with_value}
use Rattle.command_line.specs.Commands.Named.{Nodes, Restarts}
use Rattle.command_line.specs.code.Found.{arguments_found, listed}
use Rattle.base_laws.specs.laws.Truth.{alone}

abbrev pub taken_of : Option Named → List Word → Option Parts
taken_of (Some k) [] = None
taken_of (Some k) (w ∷ ws) = if is_option w then None else option_map (with_value k w) (taken_of None ws)
taken_of None [] = Some (no_more [])
taken_of None (w ∷ ws) =
    if bytes_eq w (codes "--") then Some (no_more ws)
    else (if bytes_eq w (codes "--nodes") then taken_of (Some Nodes) ws
    else (if bytes_eq w (codes "--restarts") then taken_of (Some Restarts) ws
    else placed (stripped (codes "--nodes=") w) (stripped (codes "--restarts=") w) w (taken_of None ws)))

-- the arguments and the values of `--nodes` and `--restarts`, each where there is one
abbrev pub Taken : Type 0
Taken = Option Word × Option Word × Option Word × Option Word × Option Word × Option Word

-- at most one
abbrev pub one_from : List Word → Option (Option Word)
one_from [] = Some None
one_from (n ∷ []) = Some (Some n)
one_from _ = None

-- at most four
abbrev pub answer_from : List Word → Option Word → Option Word → Option Taken
answer_from [] n r = Some (None, None, None, None, n, r)
answer_from (a ∷ []) n r = Some (Some a, None, None, None, n, r)
answer_from (a ∷ b ∷ []) n r = Some (Some a, Some b, None, None, n, r)
answer_from (a ∷ b ∷ c ∷ []) n r = Some (Some a, Some b, Some c, None, n, r)
answer_from (a ∷ b ∷ c ∷ d ∷ []) n r = Some (Some a, Some b, Some c, Some d, n, r)
answer_from _ n r = None

abbrev pub with_two : List Word → Option (Option Word) → Option (Option Word) → Option Taken
with_two arguments (Some n) (Some r) = answer_from arguments n r
with_two arguments _ _ = None

abbrev pub taken_from : Parts → Option Taken
taken_from p = with_two p.arguments (one_from p.limits) (one_from p.restarts)

abbrev pub all_taken : List Word → Option Taken
all_taken ws = option_and_then taken_from (taken_of None ws)

-- ---- the definition says the same, once what the options give is tested

abbrev has_option : List Word → Bool
has_option [] = false
has_option (w ∷ ws) = is_option w || has_option ws

abbrev takes_option : Parts → Bool
takes_option p = has_option p.limits || has_option p.restarts

data Near : Option Parts → Option Parts → Type 0 where
  alike : (o : Option Parts) → Near o o
  missed : (p : Parts) → takes_option p ≡ true → Near None (Some p)

by_test : (b : Bool) (x y u v : Option Parts) → Near x y → Near u v → Near (if b then x else u) (if b then y else v)
by_test true x y u v first second = first
by_test false x y u v first second = second

more_left : (a b c : Bool) → (b || c) ≡ true → ((a || b) || c) ≡ true
more_left true b c h = refl
more_left false b c h = h

more_right : (a b c : Bool) → (b || c) ≡ true → (b || (a || c)) ≡ true
more_right a true c h = refl
more_right true false c h = refl
more_right false false c h = h

more_values : (k : Named) (w : Word) (x y : Option Parts) → Near x y → Near (option_map (with_value k w) x) (option_map (with_value k w) y)
more_values k w x y (alike o) = alike _
more_values Nodes w x y (missed p has) = missed (with_limit w p) (more_left (is_option w) (has_option p.limits) (has_option p.restarts) has)
more_values Restarts w x y (missed p has) = missed (with_restarts w p) (more_right (is_option w) (has_option p.limits) (has_option p.restarts) has)

more_arguments : (w : Word) (x y : Option Parts) → Near x y → Near (option_map (with_argument w) x) (option_map (with_argument w) y)
more_arguments w x y (alike o) = alike _
more_arguments w x y (missed p has) = missed (with_argument w p) has

placed_near : (n r : Option Word) (w : Word) (x y : Option Parts) → Near x y → Near (placed n r w x) (placed n r w y)
placed_near (Some n) r w x y near = more_values Nodes n x y near
placed_near None (Some r) w x y near = more_values Restarts r x y near
placed_near None None w x y near = by_test (is_option w) None None _ _ (alike None) (more_arguments w x y near)

first_left : (a b c : Bool) → a ≡ true → ((a || b) || c) ≡ true
first_left true b c h = refl
first_left false b c h = cc

first_right : (a b c : Bool) → a ≡ true → (b || (a || c)) ≡ true
first_right true true c h = refl
first_right true false c h = refl
first_right false b c h = cc

refused : (k : Named) (w : Word) (o : Option Parts) → is_option w ≡ true → Near None (option_map (with_value k w) o)
refused k w None is = alike None
refused Nodes w (Some p) is = missed (with_limit w p) (first_left (is_option w) (has_option p.limits) (has_option p.restarts) is)
refused Restarts w (Some p) is = missed (with_restarts w p) (first_right (is_option w) (has_option p.limits) (has_option p.restarts) is)

value_near : (b : Bool) (k : Named) (w : Word) (x y : Option Parts) → is_option w ≡ b → Near x y
    → Near (if b then None else option_map (with_value k w) x) (option_map (with_value k w) y)
value_near true k w x y is near = refused k w y is
value_near false k w x y is near = more_values k w x y near

near_of : (awaits : Option Named) (ws : List Word) → Near (taken_of awaits ws) (parts_of awaits ws)
near_of (Some k) [] = alike None
near_of (Some k) (w ∷ ws) = value_near (is_option w) k w _ _ refl (near_of None ws)
near_of None [] = alike _
near_of None (w ∷ ws) =
    by_test (bytes_eq w (codes "--")) _ _ _ _ (alike _)
    (by_test (bytes_eq w (codes "--nodes")) _ _ _ _ (near_of (Some Nodes) ws)
    (by_test (bytes_eq w (codes "--restarts")) _ _ _ _ (near_of (Some Restarts) ws) (placed_near (stripped (codes "--nodes=") w) (stripped (codes "--restarts=") w) w _ _ (near_of None ws))))

no_limit : (w : Word) → is_option w ≡ true → limit_of (w ∷ []) ≡ None
no_limit [] is = absurd (cc is)
no_limit (b ∷ []) is = absurd (cc is)
no_limit (b ∷ c ∷ rest) is = ap (λ x. limit_of ((x ∷ c ∷ rest) ∷ [])) (eqb-true b 45 is)

no_restarts : (w : Word) → is_option w ≡ true → restarts_of (w ∷ []) ≡ None
no_restarts [] is = absurd (cc is)
no_restarts (b ∷ []) is = absurd (cc is)
no_restarts (b ∷ c ∷ rest) is = ap (λ x. restarts_of ((x ∷ c ∷ rest) ∷ [])) (eqb-true b 45 is)

-- no command, whatever its arguments: without a limit or without a number of restarts, ...
unlimited_solve : (arguments : List Word) (r : Option ℕ) → solve_in arguments None r ≡ None
unlimited_solve [] r = refl
unlimited_solve (a ∷ []) r = refl
unlimited_solve (a ∷ b ∷ []) r = refl
unlimited_solve (a ∷ b ∷ c ∷ more) r = refl

uncounted_solve : (arguments : List Word) (n : Option ℕ) → solve_in arguments n None ≡ None
uncounted_solve [] n = refl
uncounted_solve (a ∷ []) n = refl
uncounted_solve (a ∷ b ∷ []) None = refl
uncounted_solve (a ∷ b ∷ []) (Some n) = refl
uncounted_solve (a ∷ b ∷ c ∷ more) n = refl

unlimited_trial : (arguments : List Word) (r : Option ℕ) → trial_in arguments None r ≡ None
unlimited_trial [] r = refl
unlimited_trial (a ∷ []) r = refl
unlimited_trial (a ∷ b ∷ []) r = refl
unlimited_trial (a ∷ b ∷ c ∷ []) r = refl
unlimited_trial (a ∷ b ∷ c ∷ d ∷ []) r = refl
unlimited_trial (a ∷ b ∷ c ∷ d ∷ e ∷ more) r = refl

uncounted_trial : (arguments : List Word) (n : Option ℕ) → trial_in arguments n None ≡ None
uncounted_trial [] n = refl
uncounted_trial (a ∷ []) n = refl
uncounted_trial (a ∷ b ∷ []) n = refl
uncounted_trial (a ∷ b ∷ c ∷ []) n = refl
uncounted_trial (a ∷ b ∷ c ∷ d ∷ []) None = refl
uncounted_trial (a ∷ b ∷ c ∷ d ∷ []) (Some n) = refl
uncounted_trial (a ∷ b ∷ c ∷ d ∷ e ∷ more) n = refl

-- ... or with an option where it doesn't belong
no_two : (make : Word → Word → Command) (arguments : List Word) (n : Word) (rest : List Word) → two_in make arguments (n ∷ rest) ≡ None
no_two make [] n rest = refl
no_two make (a ∷ []) n rest = refl
no_two make (a ∷ b ∷ []) n rest = refl
no_two make (a ∷ b ∷ c ∷ more) n rest = refl

no_show : (arguments : List Word) (n : Word) (rest : List Word) → show_in arguments (n ∷ rest) ≡ None
no_show [] n rest = refl
no_show (a ∷ []) n rest = refl
no_show (a ∷ b ∷ more) n rest = refl

no_gen : (arguments : List Word) (n : Word) (rest : List Word) → gen_in arguments (n ∷ rest) ≡ None
no_gen [] n rest = refl
no_gen (a ∷ []) n rest = refl
no_gen (a ∷ b ∷ []) n rest = refl
no_gen (a ∷ b ∷ c ∷ []) n rest = refl
no_gen (a ∷ b ∷ c ∷ d ∷ more) n rest = refl

-- the words of an option that aren't one number
data AreWrong (limits rs : List Word) : Type 0 where
  wrong_limits : limit_of limits ≡ None → AreWrong limits rs
  wrong_restarts : restarts_of rs ≡ None → AreWrong limits rs

some_word : (limits rs : List Word) → AreWrong limits rs → (n : Word) × (rest : List Word) × (limits ++ rs ≡ n ∷ rest)
some_word [] [] (wrong_limits is) = absurd (cc is)
some_word [] [] (wrong_restarts is) = absurd (cc is)
some_word [] (r ∷ rs) wrong = (r, rs, refl)
some_word (n ∷ ns) rs wrong = (n, ns ++ rs, refl)

not_for : (v : Verb) (arguments limits rs : List Word) → AreWrong limits rs → command_for v (record { arguments = arguments; limits = limits; restarts = rs }) ≡ None
not_for verb.Solve arguments limits rs (wrong_limits is) = ap (λ n. solve_in arguments n (restarts_of rs)) is ∙ unlimited_solve arguments (restarts_of rs)
not_for verb.Solve arguments limits rs (wrong_restarts is) = ap (solve_in arguments (limit_of limits)) is ∙ uncounted_solve arguments (limit_of limits)
not_for verb.Trial arguments limits rs (wrong_limits is) = ap (λ n. trial_in arguments n (restarts_of rs)) is ∙ unlimited_trial arguments (restarts_of rs)
not_for verb.Trial arguments limits rs (wrong_restarts is) = ap (trial_in arguments (limit_of limits)) is ∙ uncounted_trial arguments (limit_of limits)
not_for verb.Check arguments limits rs wrong = let some = some_word limits rs wrong in ap (two_in Check arguments) some.2 ∙ no_two Check arguments some.0 some.1
not_for verb.Verify arguments limits rs wrong = let some = some_word limits rs wrong in ap (two_in Verify arguments) some.2 ∙ no_two Verify arguments some.0 some.1
not_for verb.Show arguments limits rs wrong = let some = some_word limits rs wrong in ap (show_in arguments) some.2 ∙ no_show arguments some.0 some.1
not_for verb.Gen arguments limits rs wrong = let some = some_word limits rs wrong in ap (gen_in arguments) some.2 ∙ no_gen arguments some.0 some.1
not_for verb.Bound arguments limits rs wrong = let some = some_word limits rs wrong in ap (two_in Bound arguments) some.2 ∙ no_two Bound arguments some.0 some.1
not_for verb.Core arguments limits rs wrong = let some = some_word limits rs wrong in ap (two_in Core arguments) some.2 ∙ no_two Core arguments some.0 some.1

option_limits : (limits : List Word) → has_option limits ≡ true → limit_of limits ≡ None
option_limits [] has = absurd (cc has)
option_limits (n ∷ []) has = no_limit n (alone (is_option n) has)
option_limits (n ∷ k ∷ rest) has = refl

option_restarts : (rs : List Word) → has_option rs ≡ true → restarts_of rs ≡ None
option_restarts [] has = absurd (cc has)
option_restarts (n ∷ []) has = no_restarts n (alone (is_option n) has)
option_restarts (n ∷ k ∷ rest) has = refl

by_option : (limits rs : List Word) (b : Bool) → has_option limits ≡ b → (b || has_option rs) ≡ true → AreWrong limits rs
by_option limits rs true is has = wrong_limits (option_limits limits is)
by_option limits rs false is has = wrong_restarts (option_restarts rs has)

many : (v : Verb) (a b c d e : Word) (more limits rs : List Word) → command_for v (record { arguments = a ∷ b ∷ c ∷ d ∷ e ∷ more; limits = limits; restarts = rs }) ≡ None
many verb.Solve a b c d e more limits rs = refl
many verb.Check a b c d e more limits rs = refl
many verb.Verify a b c d e more limits rs = refl
many verb.Show a b c d e more limits rs = refl
many verb.Gen a b c d e more limits rs = refl
many verb.Trial a b c d e more limits rs = refl
many verb.Bound a b c d e more limits rs = refl
many verb.Core a b c d e more limits rs = refl

-- at most one word of each option
data AreFew : List Word → Option Word → Type 0 where
  none : AreFew [] None
  one : (n : Word) → AreFew (n ∷ []) (Some n)

few_of : (ns : List Word) → ((n : Option Word) × (one_from ns ≡ Some n) × AreFew ns n) ⊎ ((one_from ns ≡ None) × (limit_of ns ≡ None) × (restarts_of ns ≡ None))
few_of [] = inl (None, refl, none)
few_of (n ∷ []) = inl (Some n, refl, one n)
few_of (n ∷ k ∷ rest) = inr (refl, refl, refl)

few_arguments : (v : Verb) (arguments limits rs : List Word) (n r : Option Word) → answer_from arguments n r ≡ None → command_for v (record { arguments = arguments; limits = limits; restarts = rs }) ≡ None
few_arguments v [] limits rs n r is = absurd (cc is)
few_arguments v (a ∷ []) limits rs n r is = absurd (cc is)
few_arguments v (a ∷ b ∷ []) limits rs n r is = absurd (cc is)
few_arguments v (a ∷ b ∷ c ∷ []) limits rs n r is = absurd (cc is)
few_arguments v (a ∷ b ∷ c ∷ d ∷ []) limits rs n r is = absurd (cc is)
few_arguments v (a ∷ b ∷ c ∷ d ∷ e ∷ more) limits rs n r is = many v a b c d e more limits rs

too_many : (v : Verb) (arguments limits rs : List Word) → taken_from (record { arguments = arguments; limits = limits; restarts = rs }) ≡ None → command_for v (record { arguments = arguments; limits = limits; restarts = rs }) ≡ None
too_many v arguments limits rs is = elim (few_of limits) [
  | inl n ↦ elim (few_of rs) [
    | inl r ↦ few_arguments v arguments limits rs n.0 r.0 (sym (ap (λ o. with_two arguments o (one_from rs)) n.1 ∙ ap (with_two arguments (Some n.0)) r.1) ∙ is)
    | inr wrong ↦ not_for v arguments limits rs (wrong_restarts wrong.2)
  ]
  | inr wrong ↦ not_for v arguments limits rs (wrong_limits wrong.1)
]

none_by : (v : Verb) (x y : Option Parts) → Near x y → option_and_then taken_from x ≡ None → option_and_then (command_for v) y ≡ None
none_by v x y (alike None) is = refl
none_by v x y (alike (Some p)) is = too_many v p.arguments p.limits p.restarts is
none_by v x y (missed p has) is = not_for v p.arguments p.limits p.restarts (by_option p.limits p.restarts (has_option p.limits) refl has)

-- words that clap doesn't take are no command
pub not_taken : (v : Verb) (ws : List Word) → all_taken ws ≡ None → command_by v ws ≡ None
not_taken v ws is = none_by v (taken_of None ws) (parts_of None ws) (near_of None ws) is

abbrev pub found : Taken → Parts
found t = record { arguments = arguments_found t.0 t.1 t.2 t.3; limits = listed t.4; restarts = listed t.5 }

from_arguments : (arguments : List Word) (n r : Option Word) (t : Taken) → answer_from arguments n r ≡ Some t → record { arguments = arguments; limits = listed n; restarts = listed r } ≡ found t
from_arguments [] n r t is = ap (λ o. found (unwrap_or o t)) is
from_arguments (a ∷ []) n r t is = ap (λ o. found (unwrap_or o t)) is
from_arguments (a ∷ b ∷ []) n r t is = ap (λ o. found (unwrap_or o t)) is
from_arguments (a ∷ b ∷ c ∷ []) n r t is = ap (λ o. found (unwrap_or o t)) is
from_arguments (a ∷ b ∷ c ∷ d ∷ []) n r t is = ap (λ o. found (unwrap_or o t)) is
from_arguments (a ∷ b ∷ c ∷ d ∷ e ∷ more) n r t is = absurd (cc is)

from_taken : (arguments limits rs : List Word) (t : Taken) → taken_from (record { arguments = arguments; limits = limits; restarts = rs }) ≡ Some t → record { arguments = arguments; limits = limits; restarts = rs } ≡ found t
from_taken arguments [] [] t is = from_arguments arguments None None t is
from_taken arguments [] (r ∷ []) t is = from_arguments arguments None (Some r) t is
from_taken arguments (n ∷ []) [] t is = from_arguments arguments (Some n) None t is
from_taken arguments (n ∷ []) (r ∷ []) t is = from_arguments arguments (Some n) (Some r) t is
from_taken arguments [] (r ∷ s ∷ more) t is = absurd (cc is)
from_taken arguments (n ∷ []) (r ∷ s ∷ more) t is = absurd (cc is)
from_taken arguments (n ∷ k ∷ rest) rs t is = absurd (cc is)

some_by : (x y : Option Parts) (t : Taken) → Near x y → option_and_then taken_from x ≡ Some t → y ≡ Some (found t)
some_by x y t (alike None) is = absurd (cc is)
some_by x y t (alike (Some p)) is = ap Some (from_taken p.arguments p.limits p.restarts t is)
some_by x y t (missed p has) is = absurd (cc is)

-- and those that it takes have the parts that it finds
pub found_taken : (ws : List Word) (t : Taken) → all_taken ws ≡ Some t → parts_of None ws ≡ Some (found t)
found_taken ws t is = some_by (taken_of None ws) (parts_of None ws) t (near_of None ws) is
