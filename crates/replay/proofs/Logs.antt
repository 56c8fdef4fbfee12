-- One text has one log in it.
use Rattle.std.proofs.Common.{◌≡◌, ℕ, ◌+◌, ◌≤◌, ℤ, Bool, true, false, List, [], ◌∷◌, ◌++◌, Option, Some, None, Ok, refl, sym, ap, subst, ◌∙◌, arith, append_assoc}
use Rattle.std.specs.Prelude.{All, IsTrue, not}
use Rattle.std.specs.List.{list_all}
use Rattle.std.proofs.lemmas.Bool.{and_parts}
use Rattle.std.proofs.lemmas.List.Elements.{All-append, All-nil, All-cons, All-head, All-tail}
use Rattle.sched_model.specs.Data.{Data}
use Rattle.region.specs.Cells.{Region}
use Rattle.textline.specs.Lines.{Bytes}
use Rattle.kernel.specs.declared.types.Line.TheVariants.{Derive, Fail, Split, Sol, Restart}
use Rattle.region.specs.Looks.{Refuting}
use Rattle.kernel.specs.declared.types.Line.{Line}
use Rattle.kernel.specs.Refuting.{refutes_with}
use Rattle.kernel.specs.Steps.{LogState, Node, Outcome, Steps, step, step_at, step_on, node_for, is_restart, taken}
use Rattle.kernel.specs.Steps.Steps.{done, more}
use Rattle.kernel.specs.laws.Outcomes.{same_ok, unless_ok}
use Rattle.logtext.specs.declared.entry.Entry.{Entry}
use Rattle.logtext.specs.declared.entry.Entry.TheVariants.{Head, Step, Finish}
use Rattle.logtext.specs.declared.version.Version.{Version}
use Rattle.logtext.specs.declared.version.Version.TheVariants.{One, Two}
use Rattle.logtext.specs.Spelling.{head_text, end_text, line_text, lines_text}
use Rattle.logtext.specs.Reading.{HasNoWholeLine}
use Rattle.logtext.specs.Logs.{IsLine, IsLog, MayHold, may_hold}
use Rattle.logtext.specs.Judgement.{CantGoOn}
use Rattle.replay.proofs.Spelt.{Spellings, Spelt, one_line, begun, not_open}

pub record SameLog {W : Type 0} (ls ks : List (Line W)) (s t : LogState) (x y : Bytes) : Type 0 where
  pub lines : ls ≡ ks
  pub states : s ≡ t
  pub rests : x ≡ y

module _ {W : Type 0} (refutes : Refuting W) (numbers : W → List ℤ) (valid : W → Bool) where
  abbrev plain_text : Line W → Bytes
  plain_text l = line_text numbers l

  abbrev plain_lines : List (Line W) → Bytes
  plain_lines ls = lines_text numbers ls

  abbrev pub IsPlainLine : (Line W) → Type 0
  IsPlainLine l = IsLine numbers valid l

  abbrev pub plain_step : Data → (Line W) → LogState → Outcome
  plain_step m l s = step (refutes_with refutes) m l s

  abbrev pub PlainSteps : Data → LogState → List (Line W) → LogState → Type 0
  PlainSteps m s ls t = Steps (refutes_with refutes) m s ls t

  -- no line that steps comes next in a log of this version
  abbrev pub Stops : Data → Version → LogState → Bytes → Type 0
  Stops m v s x = (l : Line W) (t : LogState) (behind : Bytes) → IsPlainLine l → IsTrue (may_hold v l) → x ≡ plain_text l ++ behind → plain_step m l s ≡ Ok t → ⊥

  may_head : (v : Version) (l : Line W) (ls : List (Line W)) → MayHold v (l ∷ ls) → may_hold v l ≡ true
  may_head v l ls h = (and_parts (may_hold v l) (list_all (may_hold v) ls) h).0

  may_tail : (v : Version) (l : Line W) (ls : List (Line W)) → MayHold v (l ∷ ls) → MayHold v ls
  may_tail v l ls h = (and_parts (may_hold v l) (list_all (may_hold v) ls) h).1

  same_step : (l k : Line W) → Step l ≡ Step k → l ≡ k
  same_step l k h = cc

  cons_lines : (l k : Line W) (ls ks : List (Line W)) → l ≡ k → ls ≡ ks → l ∷ ls ≡ k ∷ ks
  cons_lines l k ls ks h g = cc

  pub one_log : Spellings numbers valid → (m : Data) (version : Version) {a s t : LogState} {ls ks : List (Line W)} (x y : Bytes) → All IsPlainLine ls → All IsPlainLine ks → MayHold version ls → MayHold version ks
      → PlainSteps m a ls s → PlainSteps m a ks t → plain_lines ls ++ x ≡ plain_lines ks ++ y → Stops m version s x → Stops m version t y → SameLog ls ks s t x y
  one_log laws m version x y each all may can done done h stop halt = record { lines = refl; states = refl; rests = h }
  one_log laws m version {ks = k ∷ ks} x y each all may can done (more {t = u} goes steps) h stop halt =
      absurd (stop k u (plain_lines ks ++ y) (All-head IsPlainLine k ks all) (may_head version k ks can) (h ∙ append_assoc (plain_text k) (plain_lines ks) y) goes)
  one_log laws m version {ls = l ∷ ls} x y each all may can (more {t = u} goes steps) done h stop halt =
      absurd (halt l u (plain_lines ls ++ x) (All-head IsPlainLine l ls each) (may_head version l ls may) (sym h ∙ append_assoc (plain_text l) (plain_lines ls) x) goes)
  one_log laws m version {a = a} {t = end} {ls = l ∷ ls} {ks = k ∷ ks} x y each all may can (more {t = u} goes steps) (more {t = v} walks others) h stop halt =
      let line = one_line numbers valid laws (plain_text l) (plain_text k) (plain_lines ls ++ x) (plain_lines ks ++ y) (Step l) (Step k) (All-head IsPlainLine l ls each) (All-head IsPlainLine k ks all)
      (sym (append_assoc (plain_text l) (plain_lines ls) x) ∙ h ∙ append_assoc (plain_text k) (plain_lines ks) y) in
      let same : l ≡ k = same_step l k line.entry in
      let states : u ≡ v = same_ok u v (sym goes ∙ ap (λ q. plain_step m q a) same ∙ walks) in
      let rest = one_log laws m version x y (All-tail IsPlainLine l ls each) (All-tail IsPlainLine k ks all) (may_tail version l ls may) (may_tail version k ks can) steps (subst (λ w. PlainSteps m w ks end) (sym states) others) line.rest stop halt in
      record { lines = cons_lines l k ls ks same rest.lines; states = rest.states; rests = rest.rests }

  -- the first line
  pub head_spelt : (v : Version) → Spelt numbers valid (head_text v) (Head v)
  head_spelt One = record { fit = refl; text_is = refl; short = omega arith }
  head_spelt Two = record { fit = refl; text_is = refl; short = omega arith }

  same_head : (v w : Version) → ◌≡◌ {A = Entry W} (Head v) (Head w) → v ≡ w
  same_head v w h = cc

  -- the same behind the first line
  pub one_text : Spellings numbers valid → (m : Data) (v w : Version) (ls ks : List (Line W)) (s t : LogState) (x y : Bytes) → MayHold v ls → MayHold w ks → IsLog refutes numbers valid m ls s → IsLog refutes numbers valid m ks t
      → head_text v ++ (plain_lines ls ++ x) ≡ head_text w ++ (plain_lines ks ++ y) → Stops m v s x → Stops m w t y → SameLog ls ks s t x y
  one_text laws m v w ls ks s t x y may can one other h stop halt =
      let heads = one_line numbers valid laws (head_text v) (head_text w) (plain_lines ls ++ x) (plain_lines ks ++ y) (Head v) (Head w) (head_spelt v) (head_spelt w) h in
      let same : w ≡ v = sym (same_head v w heads.entry) in
      one_log laws m v x y one.each other.each may (subst (λ u. MayHold u ks) same can) one.steps other.steps heads.rest stop (subst (λ u. Stops m u t y) same halt)

  pub cant_stops : (m : Data) (v : Version) (s : LogState) (rest : Bytes) → CantGoOn refutes numbers valid m v s rest → Stops m v s rest
  cant_stops m v s rest cant l t behind line may is goes = cant.no_line l t (begun numbers valid rest (plain_text l) behind (Step l) is line) may goes

  pub open_stops : Spellings numbers valid → (m : Data) (v : Version) (s : LogState) (rest : Bytes) → HasNoWholeLine rest → Stops m v s rest
  open_stops laws m v s rest open_one l t behind line may is goes = not_open numbers valid laws (plain_text l) behind (Step l) line (subst HasNoWholeLine is open_one)

  finish_step : (l : Line W) → Finish ≡ Step l → ⊥
  finish_step l h = cc

  pub end_stops : Spellings numbers valid → (m : Data) (v : Version) (s : LogState) (after : Bytes) → Spelt numbers valid end_text Finish → Stops m v s (end_text ++ after)
  end_stops laws m v s after end_one l t behind line may is goes = finish_step l (one_line numbers valid laws end_text (plain_text l) after behind Finish (Step l) end_one line is).entry

  pub steps_more : (m : Data) (l : Line W) (u : LogState) {s t : LogState} {ls : List (Line W)} → PlainSteps m s ls t → plain_step m l t ≡ Ok u → PlainSteps m s (ls ++ l ∷ []) u
  steps_more m l u done goes = more goes done
  steps_more m l u (more first steps) goes = more first (steps_more m l u steps goes)

  pub log_more : (m : Data) (ls : List (Line W)) (l : Line W) (s t : LogState) → IsLog refutes numbers valid m ls s → IsPlainLine l → plain_step m l s ≡ Ok t → IsLog refutes numbers valid m (ls ++ l ∷ []) t
  log_more m ls l s t log line goes = record {
    each = All-append IsPlainLine ls (l ∷ []) log.each (All-cons IsPlainLine l [] line (All-nil IsPlainLine));
    steps = steps_more m l t log.steps goes;
  }

  -- a step opens at most one node
  at_nodes : (m : Data) (n : Node) (l : Line W) (t : LogState) → step_at (refutes_with refutes) m n l ≡ Ok t → t.nodes ≡ n.nodes
  at_nodes m n (Derive g w) t h = sym (ap (λ s. s.nodes) (same_ok _ t (unless_ok _ _ _ t (unless_ok _ _ _ t h))))
  at_nodes m n (Fail w) t h = sym (ap (λ s. s.nodes) (same_ok _ t (unless_ok _ _ _ t h)))
  at_nodes m n (Split g) t h = sym (ap (λ s. s.nodes) (same_ok _ t (unless_ok _ _ _ t h)))
  at_nodes m n (Sol a) t h = sym (ap (λ s. s.nodes) (same_ok _ t (unless_ok _ _ _ t h)))
  at_nodes m n Restart t h = sym (ap (λ s. s.nodes) (same_ok _ t h))

  from_nodes : (m : Data) (o : Option Node) (most : ℕ) (l : Line W) (t : LogState) → ((n : Node) → o ≡ Some n → n.nodes ≤ most) → step_on (refutes_with refutes) m o l ≡ Ok t → t.nodes ≤ most
  from_nodes m None most l t bound h = cc
  from_nodes m (Some n) most l t bound h = rw (at_nodes m n l t h) (bound n refl)

  some_same : (n k : Node) → Some k ≡ Some n → n ≡ k
  some_same n k h = cc

  taken_nodes : (opens : Bool) (s : LogState) (n : Node) → taken opens s.current s.waiting s.nodes s.found ≡ Some n → n.nodes ≤ s.nodes + 1
  taken_nodes opens s n h = by_parts opens s.current s.waiting h
    where
      by_parts : (opens : Bool) (current : Option Region) (waiting : List Region) → taken opens current waiting s.nodes s.found ≡ Some n → n.nodes ≤ s.nodes + 1
      by_parts opens (Some r) waiting h = rw (some_same n _ h) (omega arith)
      by_parts true None (r ∷ rs) h = rw (some_same n _ h) (omega arith)
      by_parts false None (r ∷ rs) h = rw (some_same n _ h) (omega arith)
      by_parts opens None [] h = cc

  pub step_nodes : (m : Data) (l : Line W) (s t : LogState) → plain_step m l s ≡ Ok t → t.nodes ≤ s.nodes + 1
  step_nodes m l s t h = from_nodes m (node_for l s) (s.nodes + 1) l t (taken_nodes (not (is_restart l)) s) h
