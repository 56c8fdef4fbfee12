-- The line that begins anew, and the log with it.
use Rattle.std.proofs.Common.{◌≡◌, ℕ, ◌<◌, true, List, [], ◌∷◌, Option, Result, Ok, Err, refl, subst, sym, arith}
use Rattle.std.specs.Result.{IsErrAnd}
use Rattle.std.proofs.lemmas.List.Elements.{All-cons, All-nil}
use Rattle.sched_model.specs.Data.{Data}
use Rattle.region.specs.Cells.{Region, root}
use Rattle.kernel.specs.declared.types.Found.{Found}
use Rattle.kernel.specs.declared.types.Line.TheVariants.{Restart}
use Rattle.kernel.specs.Steps.{Steps, done, more}
use Rattle.kernel.specs.laws.Derives.{waiting_at}
use Rattle.logtext.specs.Extra.{log_numbers, log_valid}
use Rattle.logtext.specs.Lifted.{refutes_logged}
use Rattle.logtext.specs.Logs.{IsLine}
use Rattle.engine.specs.declared.lines.Lines.{Ghosts as LineGhosts}
use Rattle.restart_rules.specs.Restarts.{is_over}
use Rattle.restart_rules.specs.code.Stretches.{Plan, begun_anew}
use Rattle.restart_rules.specs.laws.Places.{over_due}
use Rattle.restart_rules.specs.laws.Restarts.{restart_next}
use Rattle.solver.specs.declared.fault.SolveFault.{SolveFault}
use Rattle.solver.specs.declared.state.Search.{Search}
use Rattle.solver.specs.declared.log_to.LogTo.{Ghosts}
use Rattle.solver.specs.code.Searching.{IsLogged, Stopped, Breaks, StaysOn}
use Rattle.solver.proofs.logged.Deriving.{ArePlaces, logged_more, logged_break}
use Rattle.solver.proofs.logged.Fitting.{restart_line}

anew_steps : (m : Data) (r : Region) (rest : List Region) (nodes : ℕ) (found : Option Found) → Steps refutes_logged m (waiting_at r rest nodes found) (Restart ∷ []) (waiting_at (root m) [] nodes found)
anew_steps m r rest nodes found = more refl done

pub anew_to : {L : Type 0} (l : Ghosts L) (k : LineGhosts L) → ArePlaces l k → (m : Data) (plan : Plan) (from a b : L) (r : Region) (rest : List Region) (nodes : ℕ) (found : Option Found) → nodes < plan.limits.nodes → is_over plan.limits.restarts plan.stretch ≡ true
    → IsLogged l m plan from a 0 (waiting_at r rest nodes found) → l.writes a (Restart ∷ []) b → IsLogged l m (begun_anew plan) from b 0 (waiting_at (root m) [] nodes found)
anew_to l k places m plan from a b r rest nodes found few over logged put =
    logged_more l k places m plan from a b 0 (begun_anew plan).stretch (Restart ∷ []) (waiting_at r rest nodes found) (waiting_at (root m) [] nodes found) logged put (All-cons (IsLine log_numbers log_valid) Restart [] restart_line (All-nil (IsLine log_numbers log_valid)))
    (anew_steps m r rest nodes found) (omega (arith, few)) (tt, λ t is. tt) (restart_next refutes_logged m plan.limits plan.stretch (waiting_at r rest nodes found) (over_due plan.limits plan.stretch r rest nodes found few over)) refl

pub anew_break : {L : Type 0} (l : Ghosts L) (k : LineGhosts L) → ArePlaces l k → (m : Data) (plan : Plan) (from a b : L) (r : Region) (rest : List Region) (nodes : ℕ) (found : Option Found) → nodes < plan.limits.nodes → is_over plan.limits.restarts plan.stretch ≡ true
    → IsLogged l m plan from a 0 (waiting_at r rest nodes found) → l.cuts_off a [] Restart b → Stopped l m plan.limits from b
anew_break l k places m plan from a b r rest nodes found few over logged break =
    logged_break l k places m plan from a b 0 [] Restart (waiting_at r rest nodes found) (waiting_at (root m) [] nodes found) logged break (All-cons (IsLine log_numbers log_valid) Restart [] restart_line (All-nil (IsLine log_numbers log_valid)))
    (anew_steps m r rest nodes found) (omega (arith, few)) (tt, λ t is. tt) (restart_next refutes_logged m plan.limits plan.stretch (waiting_at r rest nodes found) (over_due plan.limits plan.stretch r rest nodes found few over))

-- a fault that is handed on
pub anew_stops : {P L : Type 0} (l : Ghosts L) (k : LineGhosts L) (m : Data) (plan : Plan) (from now : L) (s : Search P) (r : Result (Unit {0}) SolveFault) (why : SolveFault) → IsErrAnd r (λ f. f ≡ why) → Breaks l k m plan.limits why from now → StaysOn l k m plan from now s r
anew_stops l k m plan from now s (Ok x) why is breaks = absurd is
anew_stops l k m plan from now s (Err f) why is breaks = subst (λ w. Breaks l k m plan.limits w from now) (sym is) breaks
