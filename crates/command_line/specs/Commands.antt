-- Which command the words of the program are.
use Rattle.std.specs.Prelude.{ℕ, ◌==◌, ◌&&◌, Bool, false, codes, length, List, [], ◌∷◌, ◌++◌, nat_le, Option, Some, None, option_map, option_and_then, if◌then◌else◌}
use Rattle.std.specs.Str.{all_ascii_digits, bytes_eq}
use Rattle.std.specs.Str.Parse.{digits_value}
use Rattle.modelgen.specs.Generated.{are_within}
use Rattle.command_line.specs.declared.shop.Shop.{Shop}
use Rattle.command_line.specs.declared.commands.Verb.{Verb}
use Rattle.command_line.specs.declared.commands.Verb.TheVariants as verb

abbrev pub Word : Type 0
Word = List ℕ

-- the words MODEL and LOG or SCHEDULE, the job shop that SEED, JOBS and MACHINES give, the limit on nodes, and how often the
-- search may begin anew
pub data Command : Type 0 where
  Solve : Word → Word → ℕ → ℕ → Command
  Check : Word → Word → Command
  Verify : Word → Word → Command
  Show : Word → Command
  Gen : Shop → Command
  Trial : Shop → Word → ℕ → ℕ → Command
  Bound : Word → Word → Command
  Core : Word → Word → Command

-- ---- options and arguments

-- two bytes or more, and the first is a hyphen (45)
abbrev pub is_option : Word → Bool
is_option [] = false
is_option (b ∷ []) = false
is_option (b ∷ c ∷ rest) = b == 45

-- what follows the prefix in the word
abbrev pub stripped : Word → Word → Option Word
stripped [] w = Some w
stripped (p ∷ ps) [] = None
stripped (p ∷ ps) (b ∷ bs) = if b == p then stripped ps bs else None

-- the options that take a word
pub data Named : Type 0 where
  Nodes : Named
  Restarts : Named

-- the arguments, and the words that `--nodes` and `--restarts` give
pub record Parts : Type 0 where
  pub arguments : List Word
  pub limits : List Word
  pub restarts : List Word

abbrev pub no_more : List Word → Parts
no_more ws = record { arguments = ws; limits = []; restarts = [] }

abbrev pub with_argument : Word → Parts → Parts
with_argument w p = record p { arguments = w ∷ p.arguments }

abbrev pub with_limit : Word → Parts → Parts
with_limit w p = record p { limits = w ∷ p.limits }

abbrev pub with_restarts : Word → Parts → Parts
with_restarts w p = record p { restarts = w ∷ p.restarts }

abbrev pub with_value : Named → Word → Parts → Parts
with_value Nodes w p = with_limit w p
with_value Restarts w p = with_restarts w p

-- a word before `--`, by what follows `--nodes=` and `--restarts=` in it
abbrev pub placed : Option Word → Option Word → Word → Option Parts → Option Parts
placed (Some n) r w rest = option_map (with_limit n) rest
placed None (Some r) w rest = option_map (with_restarts r) rest
placed None None w rest = if is_option w then None else option_map (with_argument w) rest

-- the parts of some words, by the option that stands before them as a word of its own
abbrev pub parts_of : Option Named → List Word → Option Parts
parts_of (Some k) [] = None
parts_of (Some k) (w ∷ ws) = option_map (with_value k w) (parts_of None ws)
parts_of None [] = Some (no_more [])
parts_of None (w ∷ ws) =
    if bytes_eq w (codes "--") then Some (no_more ws)
    else (if bytes_eq w (codes "--nodes") then parts_of (Some Nodes) ws
    else (if bytes_eq w (codes "--restarts") then parts_of (Some Restarts) ws
    else placed (stripped (codes "--nodes=") w) (stripped (codes "--restarts=") w) w (parts_of None ws)))

-- ---- the limit on nodes

-- digits, at most eight, with a value from 1 to 10,000,000
abbrev pub is_limit : Word → Bool
is_limit n = all_ascii_digits n && nat_le (length n) 8 && nat_le 1 (digits_value 10 n) && nat_le (digits_value 10 n) 10000000

-- 100,000 where there is no `--nodes`
abbrev pub limit_of : List Word → Option ℕ
limit_of [] = Some 100000
limit_of (n ∷ []) = if is_limit n then Some (digits_value 10 n) else None
limit_of _ = None

-- ---- job shops

-- digits, one at least and so many at most
abbrev pub is_number : ℕ → Word → Bool
is_number most w = all_ascii_digits w && nat_le 1 (length w) && nat_le (length w) most

abbrev pub number_of : ℕ → Word → Option ℕ
number_of most w = if is_number most w then Some (digits_value 10 w) else None

-- how often a search may begin anew: at most four digits, with a value of at most 1,000; never where there is no `--restarts`
abbrev pub few_restarts : ℕ → Option ℕ
few_restarts n = if nat_le n 1000 then Some n else None

abbrev pub restarts_of : List Word → Option ℕ
restarts_of [] = Some 0
restarts_of (w ∷ []) = option_and_then few_restarts (number_of 4 w)
restarts_of _ = None

-- with as many jobs and machines as a generated model may have
abbrev pub shop_in : Option ℕ → Option ℕ → Option ℕ → Option Shop
shop_in (Some s) (Some j) (Some m) = if are_within j m then Some (record { seed = s; jobs = j; machines = m }) else None
shop_in _ _ _ = None

-- a seed of 18 digits at most, and numbers of jobs and of machines of 4 at most
abbrev pub shop_of : Word → Word → Word → Option Shop
shop_of seed jobs machines = shop_in (number_of 18 seed) (number_of 4 jobs) (number_of 4 machines)

-- ---- the commands

-- which command the first word is
abbrev pub verb_of : Word → Option Verb
verb_of name =
    if bytes_eq name (codes "solve") then Some verb.Solve
    else (if bytes_eq name (codes "check") then Some verb.Check
    else (if bytes_eq name (codes "verify") then Some verb.Verify
    else (if bytes_eq name (codes "show") then Some verb.Show
    else (if bytes_eq name (codes "gen") then Some verb.Gen
    else (if bytes_eq name (codes "trial") then Some verb.Trial
    else (if bytes_eq name (codes "bound") then Some verb.Bound
    else (if bytes_eq name (codes "core") then Some verb.Core
    else None)))))))

abbrev pub solve_in : List Word → Option ℕ → Option ℕ → Option Command
solve_in (model ∷ log ∷ []) (Some n) (Some r) = Some (Solve model log n r)
solve_in _ _ _ = None

-- of the commands with two arguments and no limit
abbrev pub two_in : (Word → Word → Command) → List Word → List Word → Option Command
two_in make (first ∷ second ∷ []) [] = Some (make first second)
two_in make _ _ = None

abbrev pub show_in : List Word → List Word → Option Command
show_in (model ∷ []) [] = Some (Show model)
show_in _ _ = None

abbrev pub gen_in : List Word → List Word → Option Command
gen_in (seed ∷ jobs ∷ machines ∷ []) [] = option_map Gen (shop_of seed jobs machines)
gen_in _ _ = None

abbrev pub trial_in : List Word → Option ℕ → Option ℕ → Option Command
trial_in (seed ∷ jobs ∷ machines ∷ log ∷ []) (Some n) (Some r) = option_map (λ s. Trial s log n r) (shop_of seed jobs machines)
trial_in _ _ _ = None

-- all arguments are there, and no others; `--nodes` and `--restarts` belong to `solve` and `trial` alone, each at most once
abbrev pub command_for : Verb → Parts → Option Command
command_for verb.Solve p = solve_in p.arguments (limit_of p.limits) (restarts_of p.restarts)
command_for verb.Check p = two_in Check p.arguments (p.limits ++ p.restarts)
command_for verb.Verify p = two_in Verify p.arguments (p.limits ++ p.restarts)
command_for verb.Show p = show_in p.arguments (p.limits ++ p.restarts)
command_for verb.Gen p = gen_in p.arguments (p.limits ++ p.restarts)
command_for verb.Trial p = trial_in p.arguments (limit_of p.limits) (restarts_of p.restarts)
command_for verb.Bound p = two_in Bound p.arguments (p.limits ++ p.restarts)
command_for verb.Core p = two_in Core p.arguments (p.limits ++ p.restarts)

-- the command of the words behind the first
abbrev pub command_by : Verb → List Word → Option Command
command_by v ws = option_and_then (command_for v) (parts_of None ws)

-- the command of all the words
abbrev pub command_of : List Word → Option Command
command_of [] = None
command_of (name ∷ ws) = option_and_then (λ v. command_by v ws) (verb_of name)
