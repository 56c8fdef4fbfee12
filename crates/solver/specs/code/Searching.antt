-- The search under way: what it holds, and what was written so far.
use Rattle.std.specs.Prelude.{◌≡◌, ℕ, ◌+◌, ◌≤◌, ◌<◌, ℤ, Bool, true, false, not, ◌&&◌, List, [], ◌∷◌, ◌++◌, length, int_le, Option, Some, None, option_map, is_some, IfSome, Result, Ok, Err, IsTrue, All, ⊤}
use Rattle.std.specs.List.{list_all}
use Rattle.sched_base.specs.declared.ids.Itv.{Itv}
use Rattle.sched_base.specs.declared.ids.Seq.{Seq}
use Rattle.sched_base.specs.Calls.{Rose}
use Rattle.sched_model.specs.declared.types.Assignment.{Assignment}
use Rattle.sched_model.specs.declared.types.Answer.{Answer}
use Rattle.sched_model.specs.declared.types.Answer.TheVariants.{Optimal, Feasible, Infeasible, Unfinished}
use Rattle.sched_model.specs.Data.{Data, same, has}
use Rattle.sched_model.specs.Valid.{are_distinct}
use Rattle.region.specs.declared.types.Bounds.{Bounds}
use Rattle.region.specs.declared.types.Guess.{Guess}
use Rattle.region.specs.Cells.{Region, bounds_of, cells_of, is_settled}
use Rattle.region.specs.Guesses.{splits}
use Rattle.region.specs.Looks.{seen_at}
use Rattle.region.specs.code.Held.{IsHeldOf}
use Rattle.kernel.specs.declared.types.Found.{Found}
use Rattle.kernel.specs.declared.types.Line.TheVariants.{Derive, Fail, Split, Sol, Restart}
use Rattle.kernel.specs.code.Pending.{ArePending, after_saved}
use Rattle.kernel.specs.Steps.{LogState, Node, best_of, node_of}
use Rattle.logtext.specs.Lifted.{refutes_logged}
use Rattle.logtext.specs.Logs.{PlainLine}
use Rattle.engine.specs.declared.lines.Lines.{Ghosts as LineGhosts}
use Rattle.engine.specs.declared.propagator.Propagator.{Ghosts}
use Rattle.engine.specs.declared.stops.Stop.{Stop}
use Rattle.engine.specs.declared.stops.Stop.TheVariants.{Quiet, Failed, Capped}
use Rattle.engine.specs.code.Engines.{IsFor, IsCalm, AreQuiet}
use Rattle.engine.specs.Runs.{cap_at}
use Rattle.refute_energy.specs.declared.witness.EnergyWitness.{EnergyWitness}
use Rattle.prop_energy.specs.Full.{HasNoOverload}
use Rattle.prop_energy.specs.code.Bounds.{IsFor as AreBounds}
use Rattle.prop_energy.specs.code.Found.{GivesOverload}
use Rattle.solver.specs.declared.log_to.LogTo.{Ghosts as LogGhosts}
use Rattle.restart_rules.specs.Restarts.{Limits, Stretch, first_stretch}
use Rattle.restart_rules.specs.code.Stretches.{Plan, stretch_in}
use Rattle.solver.specs.declared.fault.SolveFault.{SolveFault}
use Rattle.solver.specs.declared.fault.SolveFault.TheVariants.{Fault, NoMemory}
use Rattle.solver.specs.declared.state.Search.{Search}
use Rattle.solver.specs.code.Leaves.{settled_assignment, Solves}
use Rattle.solver.specs.Cuts.{IsCut}
use Rattle.solver.specs.Written.{IsWritten, derived_in}
use Rattle.solver.specs.code.OpenIntervals.{HoldsOpen}
use Rattle.solver.specs.code.Marks.{AreMarked}

-- Where a region is cut.

-- no range is empty
abbrev pub is_ordered : Bounds → Bool
is_ordered c = int_le c.smin c.smax && int_le c.emin c.emax

-- the guess splits each region in which this interval has these bounds, and cuts it so
pub record Cuts (x : Itv) (c : Bounds) (g : Guess) : Type 0 where
  pub splits_it : (r : Region) → x.0 < length r.bounds → bounds_of r x ≡ c → splits r g ≡ true
  pub cuts_it : (r : Region) → bounds_of r x ≡ c → IsCut r g

-- the guess splits this region, and cuts it so
pub record CutsRegion (r : Region) (g : Guess) : Type 0 where
  pub splits_it : IsTrue (splits r g)
  pub cuts_it : IsCut r g

-- another member of a sequence
abbrev pub is_other : List Itv → Itv → Itv → Bool
is_other ms x y = has ms y && not (same x y)

-- a member of a sequence of the region, and others of it
pub record IsLater (r : Region) (p : Seq) (x : Itv) (later : List Itv) : Type 0 where
  pub within : p.0 < length r.orders
  pub member : IsTrue (has (cells_of r p).members x)
  pub others : IsTrue (list_all (is_other (cells_of r p).members x) later)

-- the members of a sequence of the region, each once
pub record AreMembers (r : Region) (p : Seq) (ms : List Itv) : Type 0 where
  pub within : p.0 < length r.orders
  pub are : ms ≡ (cells_of r p).members
  pub distinct : IsTrue (are_distinct ms)

-- What the search holds.

-- a value stands beside what was found, of a model with an objective; where it has none, the search has ended
pub record HasValue (m : Data) (f : Found) : Type 0 where
  pub some : IsTrue (is_some f.value)
  pub objective : IsTrue (is_some m.objective)

-- the region is of the model, and so is what waits behind it; beside each save is what is known of it; and the list has the
-- numbers of intervals
pub record IsHolding {P : Type 0} (p : Ghosts P) (m : Data) (s : Search P) : Type 0 where
  pub of : IsHeldOf m s.region
  pub pending : ArePending s.region s.pending
  pub engine : IsFor p m s.engine
  pub energy : AreBounds s.energy m
  pub below : All (λ x. x < length s.region.region.bounds) s.intervals.list
  pub marks : AreMarked (AreQuiet p m) s.intervals.list s.region.saved s.marks.items
  pub fewer : All (λ k. s.intervals.count ≤ k.count) s.marks.items
  pub valued : IfSome s.found (HasValue m)

-- and each propagator that isn't awake is quiet, and each interval that isn't fixed is among the first ones
pub record IsReady {P : Type 0} (p : Ghosts P) (m : Data) (s : Search P) : Type 0 where
  pub holding : IsHolding p m s
  pub calm : IsCalm p m s.region.region (best_of s.found) s.engine
  pub within : s.intervals.count ≤ length s.intervals.list
  pub holds : HoldsOpen s.region.region s.intervals.list s.intervals.count

-- nothing is left to derive
pub record IsResting {P : Type 0} (p : Ghosts P) (m : Data) (s : Search P) : Type 0 where
  pub ready : IsReady p m s
  pub quiet : AreQuiet p m s.region.region (best_of s.found)

-- the engine went elsewhere and is back; there may be other room for changes
pub record IsUnmoved {P : Type 0} (p : Ghosts P) (m : Data) (old new : Search P) : Type 0 where
  pub resting : IsResting p m new
  pub same : new ≡ record old { engine = new.engine; region = record old.region { spare = new.region.spare } }

-- the state of the log between two nodes, where the region is the first that waits, and where none is left
abbrev pub state_with : {P : Type 0} → List Region → Search P → LogState
state_with waiting s = record { current = None; waiting = waiting; nodes = s.nodes; found = s.found }

abbrev pub behind_in : {P : Type 0} → Search P → List Region
behind_in s = after_saved s.region.saved s.pending

abbrev pub left_in : {P : Type 0} → Bool → Search P → List Region
left_in true s = s.region.region ∷ behind_in s
left_in false s = []

abbrev pub state_in : {P : Type 0} → Bool → Search P → LogState
state_in more s = state_with (left_in more s) s

-- the node that is open: the region is taken
abbrev pub node_in : {P : Type 0} → Search P → Node
node_in s = record { region = s.region.region; waiting = behind_in s; nodes = s.nodes + 1; found = s.found }

-- Lines.

-- what may end a node at whose region a run stopped so
abbrev pub is_failed : Stop → Bool
is_failed (Failed w) = true
is_failed Quiet = false
is_failed Capped = false

-- of a settled region a run tells that it is refuted, or that all is quiet
abbrev pub QuietUnlessFailed : Type 0 → Stop → Type 0
QuietUnlessFailed quiet Quiet = quiet
QuietUnlessFailed quiet (Failed w) = Unit {0}
QuietUnlessFailed quiet Capped = ⊥

abbrev pub is_capped : Stop → Bool
is_capped Capped = true
is_capped Quiet = false
is_capped (Failed w) = false

-- what is found by energy of a region, which isn't asked where it is settled
abbrev pub AskedUnlessSettled : Data → Region → Option EnergyWitness → Type 0
AskedUnlessSettled m r (Some w) = GivesOverload m r (Some w)
AskedUnlessSettled m r None = is_settled r ≡ false → HasNoOverload m r

abbrev pub Closes : Data → Region → Option ℤ → Bool → PlainLine → Type 0
Closes m r best failed (Fail w) = IsTrue (refutes_logged m (seen_at r best None) w)
Closes m r best failed (Split g) = CutsRegion r g × (failed ≡ false)
Closes m r best failed (Sol a) = IsTrue (is_settled r) × (a ≡ settled_assignment m r) × Solves m (seen_at r best None)
Closes m r best failed (Derive g w) = ⊥
Closes m r best failed Restart = ⊥

-- What is written.

-- from the first place of lines the lines of a log were put that lead to this state, at whose node n derived, in the stretch of
-- the plan
pub record IsLogged {L : Type 0} (l : LogGhosts L) (m : Data) (plan : Plan) (from now : L) (n : ℕ) (s : LogState) : Type 0 where
  pub lines : List PlainLine
  pub put : l.writes from lines now
  pub written : IsWritten m plan.limits lines s
  pub derived : derived_in 0 lines ≡ n
  pub stretch : stretch_in first_stretch lines ≡ plan.stretch

-- the lines of a log were put, or the put of the last of them failed
pub data Stopped {L : Type 0} (l : LogGhosts L) (m : Data) (limits : Limits) (from now : L) : Type 0 where
  between : {plan : Plan} {n : ℕ} {s : LogState} → plan.limits ≡ limits → IsLogged l m plan from now n s → Stopped l m limits from now
  within : {lines : List PlainLine} {line : PlainLine} {s : LogState} → l.cuts_off from lines line now → IsWritten m limits (lines ++ line ∷ []) s → Stopped l m limits from now

abbrev pub CausesBy : {L : Type 0} → (L → ℕ) → (L → Bool) → SolveFault → L → L → Type 0
CausesBy faults calm Fault from now = Rose (faults from) (faults now) × (calm from ≡ true → ⊥)
CausesBy faults calm NoMemory from now = ⊤

abbrev pub Causes : {L : Type 0} → LineGhosts L → SolveFault → L → L → Type 0
Causes l fault from now = CausesBy l.faults l.calm fault from now

abbrev pub Breaks : {L : Type 0} → LogGhosts L → LineGhosts L → Data → Limits → SolveFault → L → L → Type 0
Breaks l k m limits fault from now = Stopped l m limits from now × Causes k fault from now

-- lines that derive were put at the node, as many as the engine may where it was capped
pub record IsAtNode {L : Type 0} (l : LogGhosts L) (m : Data) (plan : Plan) (from now : L) (node : Node) (n : ℕ) : Type 0 where
  pub state : LogState
  pub logged : IsLogged l m plan from now n state
  pub at : node_of state ≡ Some node

abbrev pub IsSpent : Type 0 → ℕ → Region → Stop → Type 0
IsSpent quiet n r Quiet = quiet
IsSpent quiet n r (Failed w) = Unit {0}
IsSpent quiet n r Capped = n ≡ cap_at r

abbrev pub Derived : {P L : Type 0} → Ghosts P → LogGhosts L → LineGhosts L → Data → Plan → L → L → Search P → Result Stop SolveFault → Type 0
Derived p l k m plan from now s (Ok stop) = (n : ℕ) × IsAtNode l m plan from now (node_in s) n × IsSpent (AreQuiet p m s.region.region (best_of s.found)) n s.region.region stop
Derived p l k m plan from now s (Err fault) = Breaks l k m plan.limits fault from now

-- the search goes on from the next region, or has ended, or stopped with its log begun
abbrev pub GoesOn : {P L : Type 0} → LogGhosts L → LineGhosts L → Data → Plan → L → L → Search P → Result Bool SolveFault → Type 0
GoesOn l k m plan from now s (Ok more) = IsLogged l m plan from now 0 (state_in more s)
GoesOn l k m plan from now s (Err fault) = Breaks l k m plan.limits fault from now

-- the search goes on from the region where it is, or stopped with its log begun
abbrev pub StaysOn : {P L : Type 0} → LogGhosts L → LineGhosts L → Data → Plan → L → L → Search P → Result (Unit {0}) SolveFault → Type 0
StaysOn l k m plan from now s (Ok u) = IsLogged l m plan from now 0 (state_in true s)
StaysOn l k m plan from now s (Err fault) = Breaks l k m plan.limits fault from now

-- the search has ended, in whatever stretch, or stopped with its log begun
abbrev pub Ran : {P L : Type 0} → LogGhosts L → LineGhosts L → Data → Limits → L → L → Search P → Result Bool SolveFault → Type 0
Ran l k m limits from now s (Ok more) = (now_in : Stretch) × IsLogged l m (record { limits = limits; stretch = now_in }) from now 0 (state_in more s)
Ran l k m limits from now s (Err fault) = Breaks l k m limits fault from now

-- The answer.

-- a solution with its value, where there are both
abbrev pub valued : Option Found → Option (ℤ × Assignment)
valued None = None
valued (Some f) = option_map (λ v. (v, f.assignment)) f.value

abbrev pub best_answer : Option ℤ → Assignment → Answer
best_answer None a = Feasible a
best_answer (Some v) a = Optimal v a

abbrev pub closed_answer : Option Found → Answer
closed_answer None = Infeasible
closed_answer (Some f) = best_answer f.value f.assignment

-- by whether a region is left
abbrev pub answer_from : Bool → Option Found → Answer
answer_from true found = Unfinished (valued found)
answer_from false found = closed_answer found
