-- The text of a whole log, or of a front part of one, as the calls of one search appended it.
use Rattle.std.proofs.Common.{◌≡◌, ℕ, ◌≤◌, Bool, List, [], ◌∷◌, ◌++◌, length, take, drop, Option, Result, Ok, Err, refl, sym, ap, subst, ◌∙◌, arith, append_assoc, append-nil, length-append}
use Rattle.std.specs.Result.{IsErrAnd}
use Rattle.std.proofs.lemmas.Grind.{flat_map-append}
use Rattle.std.proofs.lemmas.List.{take-append-drop, take-append-le}
use Rattle.std.proofs.lemmas.List.Elements.{All-nil}
use Rattle.sched_base.specs.State.{State}
use Rattle.sched_base.specs.Calls.{Rose, appended}
use Rattle.sched_base.specs.laws.Appended.{appended_nothing}
use Rattle.sched_model.specs.declared.types.Solved.{Solved}
use Rattle.sched_model.specs.Data.{Data}
use Rattle.kernel.specs.Steps.{LogState, done, opening}
use Rattle.textline.specs.Lines.{Bytes}
use Rattle.logtext.specs.Spelling.{head_text, end_text}
use Rattle.logtext.specs.declared.version.Version.{Version}
use Rattle.logtext.specs.Extra.{log_numbers, log_valid}
use Rattle.logtext.specs.Logs.{PlainLine, IsLine, plain_text, plain_lines, plain_log}
use Rattle.solver.specs.declared.log_to.LogTo.{Ghosts}
use Rattle.solver.specs.declared.fault.SolveFault.{SolveFault}
use Rattle.solver.specs.declared.fault.SolveFault.TheVariants.{Fault, NoMemory}
use Rattle.solver.specs.code.Putting.{Puts, Breaks}
use Rattle.solver.specs.code.Solving.{BeginsLog, CausesStop, Gives}
use Rattle.restart_rules.specs.Restarts.{Limits, first_stretch}
use Rattle.solver.specs.Versions.{version_of}
use Rattle.solver.specs.Written.{IsWritten}
use Rattle.solver.specs.code.Searching.{IsLogged, Stopped, between, within, CausesBy}
use Rattle.solver.specs.laws.Putting.{puts_more, puts_break}

-- no line yet
pub no_lines : (m : Data) (limits : Limits) → IsWritten m limits [] (opening m)
no_lines m limits = record { log = record { each = All-nil (IsLine log_numbers log_valid); steps = done }; few = omega arith; well = tt; restarts = tt; seldom = omega arith }

-- nothing was written yet
empty_begins : (s : State) → s.logged ≡ appended (take 0 []) s.logged
empty_begins s = appended_nothing s.logged

pub begun : (m : Data) (limits : Limits) (s : State) → BeginsLog m limits s s
begun m limits s = record {
  lines = [];
  state = opening m;
  written = no_lines m limits;
  part = (0, omega arith, empty_begins s);
  only = refl;
  later = omega arith;
}

-- of a text that the log of these lines begins with the first bytes were appended
front_part : (v : Version) (lines : List PlainLine) (text rest : Bytes) (n : ℕ) (old : Option Bytes) → text ++ rest ≡ plain_log v lines → n ≤ length text → appended (take n text) old ≡ appended (take n (plain_log v lines)) old
front_part v lines text rest n old is inside = ap (λ b. appended b old) (sym (take-append-le n text rest inside) ∙ ap (take n) is)

front_within : (v : Version) (lines : List PlainLine) (text rest : Bytes) (n : ℕ) → text ++ rest ≡ plain_log v lines → n ≤ length text → n ≤ length (plain_log v lines)
front_within v lines text rest n is inside = omega (arith, inside, length-append text rest, ap (λ (b : Bytes). length b) is)

logged_is : (old new : State) (o : Option Bytes) (k : ℕ) → new ≡ record old { logged = o; faults = k } → new ≡ record old { logged = new.logged; faults = new.faults }
logged_is old new o k is = is ∙ ap (λ (s : State). let t : State = record old { logged = s.logged; faults = s.faults } in t) (sym is)

pub begins_put : (m : Data) (limits : Limits) (lines : List PlainLine) (s : LogState) (text rest kept : Bytes) (old new : State) → IsWritten m limits lines s → text ++ rest ≡ plain_log (version_of limits.restarts) lines → Puts text [] kept old new → BeginsLog m limits old new
begins_put m limits lines s text rest kept old new written is puts = record {
  lines = lines;
  state = s;
  written = written;
  part = (puts.count, front_within (version_of limits.restarts) lines text rest puts.count is puts.within, ap (λ (t : State). t.logged) puts.logged ∙ front_part (version_of limits.restarts) lines text rest puts.count old.logged is puts.within);
  only = logged_is old new _ old.faults puts.logged;
  later = omega (arith, ap (λ (t : State). t.faults) puts.logged);
}

pub begins_break : (m : Data) (limits : Limits) (lines : List PlainLine) (s : LogState) (text rest : Bytes) (old new : State) → IsWritten m limits lines s → text ++ rest ≡ plain_log (version_of limits.restarts) lines → Breaks text [] old new → BeginsLog m limits old new
begins_break m limits lines s text rest old new written is breaks = record {
  lines = lines;
  state = s;
  written = written;
  part = (breaks.count, front_within (version_of limits.restarts) lines text rest breaks.count is breaks.within, ap (λ (t : State). t.logged) breaks.logged ∙ front_part (version_of limits.restarts) lines text rest breaks.count old.logged is breaks.within);
  only = logged_is old new _ new.faults breaks.logged;
  later = breaks.later;
}

-- the head alone
pub head_breaks : (m : Data) (limits : Limits) (old new : State) → Breaks (head_text (version_of limits.restarts)) [] old new → BeginsLog m limits old new × CausesStop Fault old new
head_breaks m limits old new breaks = (begins_break m limits [] (opening m) (head_text (version_of limits.restarts)) end_text old new (no_lines m limits) refl breaks, (breaks.rose, breaks.calm))

-- the head and the lines of a search that stopped
one_line : (lines : List PlainLine) (line : PlainLine) → (plain_lines lines ++ plain_text line) ≡ plain_lines (lines ++ line ∷ [])
one_line lines line = ap (λ t. plain_lines lines ++ t) (sym (append-nil (plain_text line))) ∙ sym (flat_map-append plain_text lines (line ∷ []))

pub stopped_begins : {L : Type 0} (l : Ghosts L) (m : Data) (limits : Limits) (from now : L) (held kept : Bytes) (old mid new : State) → ((xs : List PlainLine) → l.writes from xs now → Puts (plain_lines xs) held kept mid new)
    → ((xs : List PlainLine) (line : PlainLine) → l.cuts_off from xs line now → Breaks (plain_lines xs ++ plain_text line) held mid new) → Puts (head_text (version_of limits.restarts)) [] held old mid → Stopped l m limits from now → BeginsLog m limits old new
stopped_begins l m limits from now held kept old mid new put break head (between {plan} {n} {s} same is) =
    let written = subst (λ x. IsWritten m x is.lines s) same is.written in
    begins_put m limits is.lines s (head_text (version_of limits.restarts) ++ plain_lines is.lines) end_text kept old new written (append_assoc (head_text (version_of limits.restarts)) (plain_lines is.lines) end_text) (puts_more (head_text (version_of limits.restarts)) (plain_lines is.lines) head (put is.lines is.put))
stopped_begins l m limits from now held kept old mid new put break head (within {lines} {line} {s} is log) =
    begins_break m limits (lines ++ line ∷ []) s (head_text (version_of limits.restarts) ++ (plain_lines lines ++ plain_text line)) end_text old new log
    (ap (λ t. (head_text (version_of limits.restarts) ++ t) ++ end_text) (one_line lines line) ∙ append_assoc (head_text (version_of limits.restarts)) (plain_lines (lines ++ line ∷ [])) end_text) (puts_break (head_text (version_of limits.restarts)) (plain_lines lines ++ plain_text line) head (break lines line is))

-- the end was put, or failed
all_taken : (xs : Bytes) (n : ℕ) → n ≤ length xs → [] ≡ drop n xs → take n xs ≡ xs
all_taken xs n inside none = sym (append-nil (take n xs)) ∙ ap (λ ys. take n xs ++ ys) none ∙ take-append-drop n xs

pub end_puts : (v : Version) (lines : List PlainLine) (held kept left : Bytes) (a b c d : State) → Puts (head_text v) [] held a b → Puts (plain_lines lines) held kept b c → Puts end_text kept left c d → left ≡ []
    → d ≡ record a { logged = appended (plain_log v lines) a.logged }
end_puts v lines held kept left a b c d head put end none =
    let whole = puts_more (head_text v) (plain_lines lines ++ end_text) head (puts_more (plain_lines lines) end_text put end) in
    whole.logged ∙ ap (λ t. let s : State = record a { logged = appended t a.logged } in s) (all_taken (plain_log v lines) whole.count whole.within (sym none ∙ whole.keeps))

pub end_breaks : (m : Data) (limits : Limits) (lines : List PlainLine) (s : LogState) (held kept : Bytes) (a b c d : State) → IsWritten m limits lines s → Puts (head_text (version_of limits.restarts)) [] held a b → Puts (plain_lines lines) held kept b c → Breaks end_text kept c d
    → BeginsLog m limits a d × CausesStop Fault a d
end_breaks m limits lines s held kept a b c d log head put end =
    let whole = puts_break (head_text (version_of limits.restarts)) (plain_lines lines ++ end_text) head (puts_break (plain_lines lines) end_text put end) in
    (begins_break m limits lines s (plain_log (version_of limits.restarts) lines) [] a d log (append-nil (plain_log (version_of limits.restarts) lines)) whole, (whole.rose, whole.calm))

-- a fault that is handed on
pub stops_solve : (m : Data) (limits : Limits) (r : Result Solved SolveFault) (why : SolveFault) (start now : State) → IsErrAnd r (λ f. f ≡ why) → BeginsLog m limits start now × CausesStop why start now → Gives m limits r start now
stops_solve m limits (Ok x) why start now is h = absurd is
stops_solve m limits (Err f) why start now is h = subst (λ k. BeginsLog m limits start now × CausesStop k start now) (sym is) h

pub causes_stop : {L : Type 0} (faults : L → ℕ) (calm : L → Bool) (from now : L) (old mid new : State) (why : SolveFault) → faults from ≡ old.faults → calm from ≡ old.calm → faults now ≡ new.faults → CausesBy faults calm why from now → CausesStop why old new
causes_stop faults calm from now old mid new Fault same also later causes = (subst (λ k. Rose old.faults k) later (subst (λ k. Rose k (faults now)) same causes.0), λ h. causes.1 (also ∙ h))
causes_stop faults calm from now old mid new NoMemory same also later causes = tt

-- a search that stopped was at the same desk
pub stopped_named : {L : Type 0} (l : Ghosts L) (m : Data) (limits : Limits) (from now : L) (N : Type 0) → ((xs : List PlainLine) → l.writes from xs now → N) → ((xs : List PlainLine) (line : PlainLine) → l.cuts_off from xs line now → N) → Stopped l m limits from now → N
stopped_named l m limits from now N put break (between same is) = put is.lines is.put
stopped_named l m limits from now N put break (within {lines} {line} is log) = break lines line is

-- a search that begins
pub logged_none : {L : Type 0} (l : Ghosts L) (m : Data) (limits : Limits) (from : L) (s : LogState) → s ≡ opening m → l.writes from [] from → IsLogged l m (record { limits = limits; stretch = first_stretch }) from from 0 s
logged_none l m limits from s is none = record { lines = []; put = none; written = subst (IsWritten m limits []) (sym is) (no_lines m limits); derived = refl; stretch = refl }

pub stopped_gives : {L : Type 0} (l : Ghosts L) (faults : L → ℕ) (calm : L → Bool) (m : Data) (limits : Limits) (from now : L) (why : SolveFault) (held kept : Bytes) (old mid new : State) → Stopped l m limits from now × CausesBy faults calm why from now
    → ((xs : List PlainLine) → l.writes from xs now → Puts (plain_lines xs) held kept mid new) → ((xs : List PlainLine) (line : PlainLine) → l.cuts_off from xs line now → Breaks (plain_lines xs ++ plain_text line) held mid new)
    → Puts (head_text (version_of limits.restarts)) [] held old mid → faults from ≡ old.faults → calm from ≡ old.calm → faults now ≡ new.faults → BeginsLog m limits old new × CausesStop why old new
stopped_gives l faults calm m limits from now why held kept old mid new stopped put break head same also later =
    (stopped_begins l m limits from now held kept old mid new put break head stopped.0, causes_stop faults calm from now old mid new why same also later stopped.1)
