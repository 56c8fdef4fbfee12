-- What a search with a log has done, from what its steps did.
use Rattle.std.proofs.Common.{◌≡◌, true, List, [], Option, Some, None, Ok, refl, sym, ap, subst, ◌∙◌}
use Rattle.std.specs.Prelude.{option_map}
use Rattle.sched_base.specs.State.{State, with_log}
use Rattle.sched_base.specs.Calls.{Creates, appended}
use Rattle.sched_model.specs.declared.types.Solved.{Solved}
use Rattle.sched_model.specs.Data.{Data}
use Rattle.sched_model.specs.Valid.{IsValid}
use Rattle.kernel.specs.Refuting.{refutes_with}
use Rattle.kernel.specs.Steps.{LogState, opening}
use Rattle.textline.specs.Lines.{Bytes}
use Rattle.logtext.specs.Extra.{log_refutes}
use Rattle.logtext.specs.Logs.{PlainLine, plain_log}
use Rattle.restart_rules.specs.Restarts.{Limits}
use Rattle.solver.specs.Versions.{version_of}
use Rattle.solver.specs.laws.Versions.{written_held}
use Rattle.solver.specs.code.Solving.{IsSolved, Solves}
use Rattle.commands.specs.Runs.{LogPromise}
use Rattle.commands.specs.code.Tries.{Searches}
use Rattle.commands.proofs.Valued.{tells_values}
use Rattle.replay.specs.lemmas.LastSchedule.{last_shown}
use Rattle.commands.proofs.Logged.{one_waits, unclosed}

created_empty : (text : Bytes) (before : Option Bytes) → appended text (option_map (λ bs. []) before) ≡ option_map (λ bs. text) before
created_empty text None = refl
created_empty text (Some bs) = refl

log_promise : (m : Data) (limits : Limits) (solved : Solved) (lines : List PlainLine) (state : LogState) (before : Option Bytes) → IsSolved m limits lines state solved → LogPromise m limits solved before (option_map (λ bs. plain_log (version_of limits.restarts) lines) before)
log_promise m limits solved lines state before is = record {
  lines = lines;
  state = state;
  written = is.written;
  bytes = refl;
  accepted = record { version = version_of limits.restarts; lines = lines; state = state; suits = written_held m limits lines state is.written; log = is.written.log; text = refl; verdict = sym is.verdict; nodes = is.nodes };
  schedule = last_shown (refutes_with log_refutes) m lines (opening m) state _ is.written.log.steps refl is.shown;
  enough = is.enough;
  limited = λ open_one. (
    is.nodes ∙ is.limited open_one,
    is.closed,
    one_waits state.current state.waiting state.found (unclosed solved.answer open_one).0 is.closed (is.verdict ∙ (unclosed solved.answer open_one).1),
  );
}

pub searched : (m : Data) (log : Bytes) (limits : Limits) (solved : Solved) (s c t : State) (u : Unit {0}) → IsValid m → Creates log (Ok u) s c → Solves m limits solved c t → Searches m log limits (Ok solved) s t
searched m log limits solved s c t u valid creates solves =
    let text : Bytes = plain_log (version_of limits.restarts) solves.lines in
    let is : t ≡ record s { logged = option_map (λ bs. text) s.logged; created = true; logs = with_log log s.logs } =
    solves.logged
    ∙ ap (λ (x : State). record x { logged = appended text x.logged }) creates.created
    ∙ ap (λ l. record s { logged = l; created = true; logs = with_log log s.logs }) (created_empty text s.logged) in
    subst (Searches m log limits (Ok solved) s) (sym is) (log_promise m limits solved solves.lines solves.state s.logged solves.is, solves.is.answer, refl, tells_values m solved.answer valid solves.is.answer)
