-- Logs with witnesses of energy and logs without extra witnesses agree on lines that have none.
use Rattle.std.specs.Prelude.{◌≡◌, false, not, List, [], ◌∷◌, map}
use Rattle.std.proofs.Common.{refl, ap, ◌∙◌}
use Rattle.sched_model.specs.Data.{Data}
use Rattle.kernel.specs.declared.types.Witness.TheVariants.{Basic, Hier, Seq, Cumul, State, Extra}
use Rattle.kernel.specs.declared.types.Line.{Line}
use Rattle.kernel.specs.declared.types.Line.TheVariants.{Derive, Fail, Split, Sol, Restart}
use Rattle.kernel.specs.declared.no_extra.NoWitness.{NoWitness}
use Rattle.kernel.specs.NoExtra.{numbers_of as no_numbers, is_valid as is_never}
use Rattle.kernel.specs.Steps.{LogState, Node, Steps, step, step_at, step_on, is_restart, node_for, taken}
use Rattle.kernel.specs.Steps.Steps.{done, more}
use Rattle.kernel.specs.Fit.{is_fit}
use Rattle.logtext.specs.Spelling.{line_text}
use Rattle.std.specs.Prelude.{Option, Some, None}
use Rattle.logtext.specs.Extra.{log_numbers, log_valid}
use Rattle.logtext.specs.Lifted.{refutes_plain, refutes_logged, lifted, has_extra}

at_node : (m : Data) (n : Node) (line : Line NoWitness) → step_at refutes_logged m n (lifted line) ≡ step_at refutes_plain m n line
at_node m n (Derive g (Basic w)) = refl
at_node m n (Derive g (Hier w)) = refl
at_node m n (Derive g (Seq w)) = refl
at_node m n (Derive g (Cumul w)) = refl
at_node m n (Derive g (State w)) = refl
at_node m n (Derive g (Extra w)) = refl
at_node m n (Fail (Basic w)) = refl
at_node m n (Fail (Hier w)) = refl
at_node m n (Fail (Seq w)) = refl
at_node m n (Fail (Cumul w)) = refl
at_node m n (Fail (State w)) = refl
at_node m n (Fail (Extra w)) = refl
at_node m n (Split g) = refl
at_node m n (Sol a) = refl
at_node m n Restart = refl

on_node : (m : Data) (o : Option Node) (line : Line NoWitness) → step_on refutes_logged m o (lifted line) ≡ step_on refutes_plain m o line
on_node m None line = refl
on_node m (Some n) line = at_node m n line

same_kind : (line : Line NoWitness) → is_restart (lifted line) ≡ is_restart line
same_kind (Derive g w) = refl
same_kind (Fail w) = refl
same_kind (Split g) = refl
same_kind (Sol a) = refl
same_kind Restart = refl

pub same_step : (m : Data) (s : LogState) (line : Line NoWitness) → step refutes_logged m (lifted line) s ≡ step refutes_plain m line s
same_step m s line =
    ap (λ o. step_on refutes_logged m o (lifted line)) (ap (λ b. taken (not b) s.current s.waiting s.nodes s.found) (same_kind line))
    ∙ on_node m (node_for line s) line

pub same_steps : (m : Data) (s t : LogState) (lines : List (Line NoWitness)) → Steps refutes_plain m s lines t → Steps refutes_logged m s (map lifted lines) t
same_steps m s t [] done = done
same_steps m s t (line ∷ lines) (more first rest) = more (same_step m s line ∙ first) (same_steps m _ t lines rest)

pub same_spelling : (line : Line NoWitness) → has_extra line ≡ false → line_text log_numbers (lifted line) ≡ line_text no_numbers line
same_spelling (Derive g (Basic w)) h = refl
same_spelling (Derive g (Hier w)) h = refl
same_spelling (Derive g (Seq w)) h = refl
same_spelling (Derive g (Cumul w)) h = refl
same_spelling (Derive g (State w)) h = refl
same_spelling (Derive g (Extra w)) h = cc
same_spelling (Fail (Basic w)) h = refl
same_spelling (Fail (Hier w)) h = refl
same_spelling (Fail (Seq w)) h = refl
same_spelling (Fail (Cumul w)) h = refl
same_spelling (Fail (State w)) h = refl
same_spelling (Fail (Extra w)) h = cc
same_spelling (Split g) h = refl
same_spelling (Sol a) h = refl
same_spelling Restart h = refl

pub same_fit : (line : Line NoWitness) → is_fit log_valid (lifted line) ≡ is_fit is_never line
same_fit (Derive g (Basic w)) = refl
same_fit (Derive g (Hier w)) = refl
same_fit (Derive g (Seq w)) = refl
same_fit (Derive g (Cumul w)) = refl
same_fit (Derive g (State w)) = refl
same_fit (Derive g (Extra w)) = refl
same_fit (Fail (Basic w)) = refl
same_fit (Fail (Hier w)) = refl
same_fit (Fail (Seq w)) = refl
same_fit (Fail (Cumul w)) = refl
same_fit (Fail (State w)) = refl
same_fit (Fail (Extra w)) = refl
same_fit (Split g) = refl
same_fit (Sol a) = refl
same_fit Restart = refl
