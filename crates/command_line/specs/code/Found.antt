-- What the values that a parse found say.
use Rattle.std.specs.Prelude.{◌≡◌, ℕ, ◌≤◌, true, List, [], ◌∷◌, Option, Some, None, codes, ⊤}
use Rattle.clap.specs.declared.parser.matches.Found.{Found}
use Rattle.clap.specs.Matches.{first_value}
use Rattle.modelgen.specs.Generated.{are_within}
use Rattle.command_line.specs.Commands.{Command, Solve, Check, Verify, Show, Gen, Trial, Bound, Core, Parts, Word}
use Rattle.command_line.specs.declared.shop.Shop.{Shop}
use Rattle.command_line.specs.declared.commands.Command as code
use Rattle.command_line.specs.declared.commands.Command.TheVariants as view

abbrev pub listed : Option Word → List Word
listed None = []
listed (Some w) = w ∷ []

-- the arguments in their order, up to the first that isn't there
abbrev pub arguments_found : Option Word → Option Word → Option Word → Option Word → List Word
arguments_found None b c d = []
arguments_found (Some a) None c d = a ∷ []
arguments_found (Some a) (Some b) None d = a ∷ b ∷ []
arguments_found (Some a) (Some b) (Some c) None = a ∷ b ∷ c ∷ []
arguments_found (Some a) (Some b) (Some c) (Some d) = a ∷ b ∷ c ∷ d ∷ []

abbrev pub parts_found : Found → Parts
parts_found m = record {
  arguments = arguments_found (first_value m (codes "first")) (first_value m (codes "second")) (first_value m (codes "third")) (first_value m (codes "fourth"));
  limits = listed (first_value m (codes "nodes"));
  restarts = listed (first_value m (codes "restarts"));
}

-- what the program's own command says
abbrev pub seen_of : code.Command → Command
seen_of (view.Solve model log nodes restarts) = Solve model.now log.now nodes restarts
seen_of (view.Check model log) = Check model.now log.now
seen_of (view.Verify model schedule) = Verify model.now schedule.now
seen_of (view.Show model) = Show model.now
seen_of (view.Gen shop) = Gen shop
seen_of (view.Trial shop log nodes restarts) = Trial shop log.now nodes restarts
seen_of (view.Bound model log) = Bound model.now log.now
seen_of (view.Core model log) = Core model.now log.now

-- from 1 to 10,000,000
abbrev pub IsLimit : ℕ → Type 0
IsLimit n = (1 ≤ n) × (n ≤ 10000000)

-- from 0 to 1,000
abbrev pub AreRestarts : ℕ → Type 0
AreRestarts n = n ≤ 1000

-- as many jobs and machines as a generated model may have
abbrev pub IsShop : Shop → Type 0
IsShop s = are_within s.jobs s.machines ≡ true

-- each limit on nodes and each job shop in a command is so
abbrev pub HasLimits : Command → Type 0
HasLimits (Solve model log nodes restarts) = IsLimit nodes × AreRestarts restarts
HasLimits (Gen shop) = IsShop shop
HasLimits (Trial shop log nodes restarts) = IsShop shop × IsLimit nodes × AreRestarts restarts
HasLimits _ = ⊤
