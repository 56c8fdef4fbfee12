use Rattle.std.proofs.Common.{Ok, Err, refl, sym, ap, subst}
use Rattle.solver.specs.declared.fault.SolveFault.TheVariants.{Fault, NoMemory}
use Rattle.sched_base.specs.State.{State}
use Rattle.solver.specs.code.Putting.{Puts}
use Rattle.solver.specs.code.Solving.{Gives, Solves}
use Rattle.solver.specs.code.Searching.{state_in}
use Rattle.restart_rules.specs.Restarts.{limits_of}
use Rattle.solver.specs.Versions.{version_of}
use Rattle.solver.specs.laws.Putting.{gathered, broken, named_none}
use Rattle.solver.proofs.logged.Answering.{ended_is, solved_with}
use Rattle.solver.proofs.logged.Whole.{begun, head_breaks, stops_solve, stopped_gives, stopped_named, logged_none, end_breaks, end_puts}
use Rattle.logtext.specs.Spelling.{head_text, end_text}
use Rattle.textline.specs.Lines.{Bytes}
use Rattle.gatherer.specs.code.Gathering.{Gathers}
use Rattle.sched_base.specs.declared.desk.Port.TheVariants.{Log}
use Rattle.solver.proofs.solving.solve_with.Goals as goal

pub returns-in_err-search : goal.returns-in_err-search
returns-in_err-search g c =
    let limits = limits_of c.args.nodes c.args.restarts in
    let start = g.D.Desk.state c.args.desk.now in
    stops_solve c.args.model.now limits c.from_residual.result NoMemory start start c.from_residual.ensures.1 (begun c.args.model.now limits start, tt)

pub returns-in_err-write_head : goal.returns-in_err-write_head
returns-in_err-write_head g c =
    let limits = limits_of c.args.nodes c.args.restarts in
    let start = g.D.Desk.state c.args.desk.now in
    let now = g.D.Desk.state c.write_head.new.desk in
    stops_solve c.args.model.now limits c.from_residual-in_err-write_head.result Fault start now c.from_residual-in_err-write_head.ensures.1
    (head_breaks c.args.model.now limits start now (broken (head_text (version_of c.args.restarts)) c.in_err-write_head.field-0.0 (subst (λ (h : Bytes). Gathers Log (head_text (version_of c.args.restarts)) (Err c.in_err-write_head.field-0.0) h c.write_head.new.self start now) c.new-writer.ensures
    (subst (λ v. Gathers Log (head_text v) (Err c.in_err-write_head.field-0.0) c.new-writer.result c.write_head.new.self start now) c.version_of.ensures c.in_err-write_head.ensures))))

pub returns-in_err-more : goal.returns-in_err-more
returns-in_err-more g c =
    let m = c.args.model.now in
    let limits = limits_of c.args.nodes c.args.restarts in
    let start = g.D.Desk.state c.args.desk.now in
    let mid = g.D.Desk.state c.write_head.new.desk in
    let now = g.D.Desk.state c.run-ended.new.lines.desk.now in
    let head = subst (λ (h : Bytes). Puts (head_text (version_of c.args.restarts)) h c.write_head.new.self start mid) c.new-writer.ensures
    (gathered (head_text (version_of c.args.restarts)) (Ok tt) refl (subst (λ v. Gathers Log (head_text v) (Ok tt) c.new-writer.result c.write_head.new.self start mid) c.version_of.ensures c.in_ok-write_head.ensures)) in
    let stopped = c.in_err-more.ensures.logged _ (logged_none _ m limits _ _ c.in_ok-search.ensures.state (named_none refl)) in
    subst (λ d. Gives m limits c.from_residual-in_err-more.result start (g.D.Desk.state d)) (sym (c.in_err-more.desk-1-own.given.1 (stopped_named _ m limits _ _ _ (λ xs is. is.named) (λ xs line is. is.named) stopped.0)))
    (stops_solve m limits c.from_residual-in_err-more.result c.in_err-more.field-0.0 start now c.from_residual-in_err-more.ensures.1
    (stopped_gives _ _ _ m limits _ _ c.in_err-more.field-0.0 c.write_head.new.self c.run-ended.new.lines.writer start mid now stopped (λ xs is. is.puts) (λ xs line is. is.breaks) head
    (ap (λ (s : State). s.faults) head.logged) (ap (λ (s : State). s.calm) head.logged) refl))

pub returns-in_err-write_end : goal.returns-in_err-write_end
returns-in_err-write_end g c =
    let m = c.args.model.now in
    let limits = limits_of c.args.nodes c.args.restarts in
    let start = g.D.Desk.state c.args.desk.now in
    let mid = g.D.Desk.state c.write_head.new.desk in
    let now = g.D.Desk.state c.run-ended.new.lines.desk.now in
    let last = g.D.Desk.state c.write_end.new.desk in
    let head = subst (λ (h : Bytes). Puts (head_text (version_of c.args.restarts)) h c.write_head.new.self start mid) c.new-writer.ensures
    (gathered (head_text (version_of c.args.restarts)) (Ok tt) refl (subst (λ v. Gathers Log (head_text v) (Ok tt) c.new-writer.result c.write_head.new.self start mid) c.version_of.ensures c.in_ok-write_head.ensures)) in
    let logged = (c.in_ok-more.ensures.logged _ (logged_none _ m limits _ _ c.in_ok-search.ensures.state (named_none refl))).1 in
    subst (λ d. Gives m limits c.from_residual-in_err-write_end.result start (g.D.Desk.state d)) (sym (c.desk-2-1.given.1 logged.put.named))
    (stops_solve m limits c.from_residual-in_err-write_end.result Fault start last c.from_residual-in_err-write_end.ensures.1
    (end_breaks m limits logged.lines _ c.write_head.new.self c.run-ended.new.lines.writer start mid now last logged.written head logged.put.puts (broken end_text c.in_err-write_end.field-0.0 c.in_err-write_end.ensures.gathers)))

pub returns : goal.returns
returns g c =
    let m = c.args.model.now in
    let limits = limits_of c.args.nodes c.args.restarts in
    let start = g.D.Desk.state c.args.desk.now in
    let mid = g.D.Desk.state c.write_head.new.desk in
    let now = g.D.Desk.state c.run-ended.new.lines.desk.now in
    let last = g.D.Desk.state c.write_end.new.desk in
    let search = c.run-ended.new.self in
    let more = c.in_ok-more.more in
    let head = subst (λ (h : Bytes). Puts (head_text (version_of c.args.restarts)) h c.write_head.new.self start mid) c.new-writer.ensures
    (gathered (head_text (version_of c.args.restarts)) (Ok tt) refl (subst (λ v. Gathers Log (head_text v) (Ok tt) c.new-writer.result c.write_head.new.self start mid) c.version_of.ensures c.in_ok-write_head.ensures)) in
    let logged = (c.in_ok-more.ensures.logged _ (logged_none _ m limits _ _ c.in_ok-search.ensures.state (named_none refl))).1 in
    let ended = ended_is g.P.Propagator m c.args.nodes more search c.in_ok-more.ensures.limited c.in_ok-more.ensures.ready in
    let keeps = c.loses_nothing.ensures in
    let valid = c.in_ok-search.ensures.valid in
    subst (λ d. Solves m limits (record { nodes = search.nodes; answer = c.answer_from.result }) start (g.D.Desk.state d)) (sym (c.desk-2-1.given.1 logged.put.named))
    (solved_with m limits more (state_in more search) logged.lines (record { nodes = search.nodes; answer = c.answer_from.result }) start last valid ended
    (keeps.keeps m logged.lines (state_in more search) valid logged.written.log.steps).found_is (keeps.verdict m logged.lines (state_in more search) valid logged.written.log.steps) (keeps.few m logged.lines (state_in more search) valid logged.written.log.steps) refl c.answer_from.ensures logged.written
    (end_puts (version_of c.args.restarts) logged.lines c.write_head.new.self c.run-ended.new.lines.writer c.write_end.new.self start mid now last head logged.put.puts (gathered end_text (Ok tt) refl c.in_ok-write_end.ensures.gathers) c.in_ok-write_end.ensures.none))
