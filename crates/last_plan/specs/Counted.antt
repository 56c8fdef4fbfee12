-- What is counted of a log, line by line.
use Rattle.std.specs.Prelude.{ℕ, ◌+◌, ◌-◌, ℤ, Bool, true, false, if◌then◌else◌, max, List, [], ◌∷◌, ◌++◌, length, take, get_or, Option, None}
use Rattle.sched_model.specs.declared.types.Assignment.{Assignment}
use Rattle.sched_model.specs.Data.{Data}
use Rattle.sched_model.specs.Domain.{is_in_domain}
use Rattle.sched_model.specs.Solution.{objective_of}
use Rattle.kernel.specs.declared.types.Line.TheVariants.{Derive, Fail, Split, Sol, Restart}
use Rattle.logtext.specs.Logs.{PlainLine}
use Rattle.replay.specs.Replaying.{all_noted}
use Rattle.last_plan.specs.declared.counts.Counts.{Counts}

-- the counts so far, the nodes opened, whether a region is current, and how many splits stand above it; and above each that
-- waits, the first of them last
pub record Tallied : Type 0 where
  pub m : Data
  pub counts : Counts
  pub nodes : ℕ
  pub is_open : Bool
  pub level : ℕ
  pub waiting : List ℕ

-- a solution is in the domain
abbrev pub value_shown : Data → Assignment → Option ℤ
value_shown m a = if is_in_domain m a then objective_of m a else None

abbrev pub none_counted : Counts
none_counted = record { derived = 0; failed = 0; split = 0; solved = 0; restarted = 0; depth = 0; found = [] }

abbrev pub start : Data → Tallied
start m = record { m = m; counts = none_counted; nodes = 0; is_open = false; level = 0; waiting = 0 ∷ [] }

-- the first that waits becomes current, a further node
abbrev pub opened : Tallied → Tallied
opened t = record t { nodes = t.nodes + 1; is_open = true; level = get_or t.waiting (length t.waiting - 1) 0; waiting = take (length t.waiting - 1) t.waiting; counts = record t.counts { depth = max t.counts.depth (get_or t.waiting (length t.waiting - 1) 0) } }

-- every line but `restart` is about the current region
abbrev pub entered : Tallied → Tallied
entered t = if t.is_open then t else opened t

abbrev pub after_derive : Tallied → Tallied
after_derive t = record (entered t) { counts = record (entered t).counts { derived = (entered t).counts.derived + 1 } }

abbrev pub after_fail : Tallied → Tallied
after_fail t = record (entered t) { is_open = false; counts = record (entered t).counts { failed = (entered t).counts.failed + 1 } }

abbrev pub after_split : Tallied → Tallied
after_split t = record (entered t) { is_open = false; waiting = (entered t).waiting ++ ((entered t).level + 1) ∷ ((entered t).level + 1) ∷ []; counts = record (entered t).counts { split = (entered t).counts.split + 1 } }

abbrev pub after_sol : Assignment → Tallied → Tallied
after_sol a t = record (entered t) {
  is_open = false;
  counts = record (entered t).counts { solved = (entered t).counts.solved + 1; found = (entered t).counts.found ++ record { nodes = (entered t).nodes; value = value_shown t.m a } ∷ [] };
}

abbrev pub after_restart : Tallied → Tallied
after_restart t = record t { is_open = false; waiting = 0 ∷ []; counts = record t.counts { restarted = t.counts.restarted + 1 } }

abbrev pub counted : Tallied → PlainLine → Tallied
counted t (Derive g w) = after_derive t
counted t (Fail w) = after_fail t
counted t (Split g) = after_split t
counted t (Sol a) = after_sol a t
counted t Restart = after_restart t

-- of all lines
abbrev pub counts_of : Data → List PlainLine → Counts
counts_of m lines = (all_noted counted (start m) lines).counts
