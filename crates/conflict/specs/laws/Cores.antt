-- What a replay with marks says of the constraints that a log uses.
use Rattle.std.specs.Prelude.{◌≡◌, ◌≤◌, Bool, false, List, Some, None, length, replicate}
use Rattle.std.proofs.Common.{sym, ap, subst, ◌∙◌}
use Rattle.sched_base.specs.declared.ids.Con.{Con}
use Rattle.sched_model.specs.declared.types.Assignment.{Assignment}
use Rattle.sched_model.specs.declared.types.Verdict.TheVariants.{Infeasible}
use Rattle.sched_model.specs.Data.{Data}
use Rattle.sched_model.specs.Valid.{IsValid}
use Rattle.sched_model.specs.Solution.{Meets}
use Rattle.refute_basic.specs.laws.Fits.{few_of}
use Rattle.textline.specs.Lines.{Bytes}
use Rattle.kernel.specs.Named.{named_with}
use Rattle.kernel.specs.Refuting.{refutes_with}
use Rattle.kernel.specs.Steps.{LogState, Steps, opening, verdict_of}
use Rattle.kernel.specs.Used.{IsUsed, named_in, used_in}
use Rattle.logtext.specs.Extra.{log_named, log_refutes, log_numbers, log_valid}
use Rattle.logtext.specs.Logs.{PlainLine}
use Rattle.replay.specs.Replaying.{IsReplayed, IsWhole}
use Rattle.conflict.specs.Core.{ShowsCore, CantAllHold}
use Rattle.conflict.specs.code.Marks.{marked, listed_from}
use Rattle.conflict.specs.laws.Marks.{all_marked}
use Rattle.conflict.specs.laws.Listed.{listed_is_used, marks_kept}

abbrev pub noting : List Bool → PlainLine → List Bool
noting bs l = marked (named_in (named_with log_named) l) bs

-- the constraints listed are those that the lines use
pub lists_used : (m : Data) (s : LogState) (before after : List Bool) (cs : List Con) → before ≡ replicate (length m.constraints) false → cs ≡ listed_from 0 after
    → (replayed : IsReplayed log_refutes log_numbers log_valid noting m s before after) → IsUsed m (used_in (named_with log_named) replayed.lines) cs
lists_used m s before after cs none is replayed =
    let used : List Con = used_in (named_with log_named) replayed.lines in
    subst (IsUsed m used) (sym (is ∙ ap (listed_from 0) (replayed.watched ∙ all_marked (named_in (named_with log_named)) replayed.lines before ∙ ap (marked used) none))) (listed_is_used m used)

pub shows_core : (m : Data) (bytes : Bytes) (s : LogState) (before after : List Bool) (cs : List Con) → before ≡ replicate (length m.constraints) false → cs ≡ listed_from 0 after → verdict_of s ≡ Infeasible
    → IsWhole log_refutes log_numbers log_valid noting m bytes s before after → ShowsCore m bytes (Some cs)
shows_core m bytes s before after cs none is infeasible whole =
    record { version = whole.version; lines = whole.replayed.lines; suits = whole.suits; state = s; log = whole.replayed.log; text = whole.text; uses = (infeasible, lists_used m s before after cs none is whole.replayed) }

pub shows_other : (m : Data) (bytes : Bytes) (s : LogState) (before after : List Bool) → (verdict_of s ≡ Infeasible → ⊥) → IsWhole log_refutes log_numbers log_valid noting m bytes s before after → ShowsCore m bytes None
shows_other m bytes s before after other whole = record { version = whole.version; lines = whole.replayed.lines; suits = whole.suits; state = s; log = whole.replayed.log; text = whole.text; uses = other }

-- and these can't all hold
pub cant_all_hold : (m : Data) (s : LogState) (before after : List Bool) (cs : List Con) → before ≡ replicate (length m.constraints) false → cs ≡ listed_from 0 after → verdict_of s ≡ Infeasible → IsValid m
    → ((m : Data) (lines : List PlainLine) (s : LogState) → IsValid m → Steps (refutes_with log_refutes) m (opening m) lines s → verdict_of s ≡ Infeasible → (a : Assignment) → Meets m (used_in (named_with log_named) lines) a → ⊥)
    → ((m : Data) (used core : List Con) (a : Assignment) → IsUsed m used core → Meets m core a → Meets m used a)
    → IsReplayed log_refutes log_numbers log_valid noting m s before after → CantAllHold m cs
cant_all_hold m s before after cs none is infeasible valid leaves core replayed =
    λ a meets. leaves m replayed.lines s valid replayed.log.steps infeasible a (core m (used_in (named_with log_named) replayed.lines) cs a (lists_used m s before after cs none is replayed) meets)

-- as many marks stand there as the model has constraints
pub few_marks : (m : Data) (s : LogState) (before after : List Bool) → before ≡ replicate (length m.constraints) false → IsValid m → IsReplayed log_refutes log_numbers log_valid noting m s before after → length after ≤ 20000
few_marks m s before after none valid replayed =
    let many = marks_kept (used_in (named_with log_named) replayed.lines) before after (length m.constraints) none (replayed.watched ∙ all_marked (named_in (named_with log_named)) replayed.lines before) in
    subst (λ n. n ≤ 20000) (sym many) (few_of m valid).1
