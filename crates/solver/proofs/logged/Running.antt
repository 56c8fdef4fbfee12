-- Where a search under way stops, or has ended, in whatever stretch.
use Rattle.std.proofs.Common.{◌≡◌, ℕ, ◌<◌, ◌^◌, Bool, true, Result, Ok, Err, sym, subst}
use Rattle.std.specs.Result.{IsErrAnd}
use Rattle.std.specs.Prelude.{nat_lt, nat_eq, ◌*◌}
use Rattle.std.proofs.lemmas.Bool.{and_parts, ltb-true}
use Rattle.sched_model.specs.Data.{Data}
use Rattle.engine.specs.declared.lines.Lines.{Ghosts as LineGhosts}
use Rattle.restart_rules.specs.Restarts.{Limits, Stretch, is_over}
use Rattle.solver.specs.declared.fault.SolveFault.{SolveFault}
use Rattle.solver.specs.declared.log_to.LogTo.{Ghosts}
use Rattle.solver.specs.declared.state.Search.{Search}
use Rattle.solver.specs.code.Searching.{Breaks, Ran}

-- a fault that is handed on
pub run_stops : {P L : Type 0} (l : Ghosts L) (k : LineGhosts L) (m : Data) (limits : Limits) (from now : L) (s : Search P) (r : Result Bool SolveFault) (why : SolveFault) → IsErrAnd r (λ f. f ≡ why) → Breaks l k m limits why from now → Ran l k m limits from now s r
run_stops l k m limits from now s (Ok x) why is breaks = absurd is
run_stops l k m limits from now s (Err f) why is breaks = subst (λ w. Breaks l k m limits w from now) (sym is) breaks

-- where a stretch is over, one more may begin
pub one_more : (most : ℕ) (k : Stretch) → is_over most k ≡ true → k.restarts < most
one_more most k over = ltb-true _ _ (and_parts (nat_lt k.restarts most) (nat_eq k.closed (100 * 2 ^ k.restarts)) over).0
