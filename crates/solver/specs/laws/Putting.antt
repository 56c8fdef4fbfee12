-- What was put first and what was put then are one text that was put.
use Rattle.std.specs.Prelude.{◌≡◌, ℕ, ◌+◌, ◌≤◌, true, false, List, [], ◌++◌, length, map, take, drop, Option, Result, Ok, Err, IsOk}
use Rattle.std.proofs.Common.{refl, sym, ap, subst, ◌∙◌, arith, append_assoc, append-nil, length-append, length-drop, length-take}
use Rattle.std.proofs.Math.Seq.{take-append-add, drop-append-add}
use Rattle.std.proofs.lemmas.Grind.{flat_map-append}
use Rattle.std.proofs.lemmas.List.{map-append, take-append-drop}
use Rattle.sched_base.specs.declared.desk.Failed.{Failed}
use Rattle.sched_base.specs.declared.desk.Port.TheVariants.{Log}
use Rattle.sched_base.specs.State.{State}
use Rattle.sched_base.specs.Calls.{Rose, appended}
use Rattle.sched_base.specs.laws.Appended.{appended_nothing, appended_twice}
use Rattle.gatherer.specs.code.Gathering.{Gathers}
use Rattle.textline.specs.Lines.{Bytes}
use Rattle.region.specs.laws.Lists.{both_true}
use Rattle.kernel.specs.declared.types.Line.TheVariants.{Derive, Fail, Split, Sol, Restart}
use Rattle.kernel.specs.declared.types.Witness.TheVariants as witness
use Rattle.kernel.specs.NoExtra.{numbers_of as no_numbers, is_valid as is_never}
use Rattle.kernel.specs.Fit.{is_fit, is_fit_guess}
use Rattle.engine.specs.Plain.{Plain}
use Rattle.logtext.specs.Spelling.{line_text}
use Rattle.logtext.specs.Lifted.{lifted, has_extra}
use Rattle.logtext.specs.laws.Lifted.{same_spelling}
use Rattle.logtext.specs.Logs.{PlainLine, plain_text, plain_lines}
use Rattle.solver.specs.code.Putting.{Puts, Breaks, PutsNamed, BreaksNamed}

-- bytes that went and bytes that are held, with more behind them
take_more : (xs ts : Bytes) (n k : ℕ) → n ≤ length xs → take n xs ++ take k (drop n xs ++ ts) ≡ take (n + k) (xs ++ ts)
take_more xs ts n k within =
    let size : length (take n xs) ≡ n = length-take n xs ∙ omega arith in
    sym (ap (take (n + k)) (ap (λ ys. ys ++ ts) (sym (take-append-drop n xs)) ∙ append_assoc (take n xs) (drop n xs) ts)
    ∙ ap (λ j. take (j + k) (take n xs ++ (drop n xs ++ ts))) (sym size)
    ∙ take-append-add (take n xs) (drop n xs ++ ts) k)

drop_more : (xs ts : Bytes) (n k : ℕ) → n ≤ length xs → drop k (drop n xs ++ ts) ≡ drop (n + k) (xs ++ ts)
drop_more xs ts n k within =
    let size : length (take n xs) ≡ n = length-take n xs ∙ omega arith in
    sym (ap (drop (n + k)) (ap (λ ys. ys ++ ts) (sym (take-append-drop n xs)) ∙ append_assoc (take n xs) (drop n xs) ts)
    ∙ ap (λ j. drop (j + k) (take n xs ++ (drop n xs ++ ts))) (sym size)
    ∙ drop-append-add (take n xs) (drop n xs ++ ts) k)

-- the bytes that both appended, of what was held and the two texts
both_within : (s t held : Bytes) (n k : ℕ) → n ≤ length (held ++ s) → k ≤ length (drop n (held ++ s) ++ t) → n + k ≤ length (held ++ (s ++ t))
both_within s t held n k first second = omega (arith, first, second, length-append held s, length-append s t, length-append held (s ++ t), length-append (drop n (held ++ s)) t, length-drop n (held ++ s))

both_appended : (s t held : Bytes) (n k : ℕ) (logged : Option Bytes) → n ≤ length (held ++ s)
    → appended (take k (drop n (held ++ s) ++ t)) (appended (take n (held ++ s)) logged) ≡ appended (take (n + k) (held ++ (s ++ t))) logged
both_appended s t held n k logged within =
    appended_twice (take n (held ++ s)) (take k (drop n (held ++ s) ++ t)) logged
    ∙ ap (λ b. appended b logged) (take_more (held ++ s) t n k within ∙ ap (take (n + k)) (append_assoc held s t))

-- what stays of a desk
puts_faults : {text held kept : Bytes} {old new : State} → Puts text held kept old new → new.faults ≡ old.faults
puts_faults is = ap (λ (s : State). s.faults) is.logged

puts_calm : {text held kept : Bytes} {old new : State} → Puts text held kept old new → new.calm ≡ old.calm
puts_calm is = ap (λ (s : State). s.calm) is.logged

pub puts_nothing : (held : Bytes) (s : State) → Puts [] held held s s
puts_nothing held s = record {
  count = 0;
  within = omega arith;
  logged = ap (λ o. let t : State = record s { logged = o } in t) (appended_nothing s.logged);
  keeps = sym (append-nil held);
}

pub puts_more : (s t : Bytes) {held kept left : Bytes} {a b c : State} → Puts s held kept a b → Puts t kept left b c → Puts (s ++ t) held left a c
puts_more s t {held} {kept} {left} {a} {b} {c} first second =
    let then = subst (λ (h : Bytes). Puts t h left b c) first.keeps second in
    record {
      count = first.count + then.count;
      within = both_within s t held first.count then.count first.within then.within;
      logged = then.logged ∙ ap (λ (q : State). let r : State = record q { logged = appended (take then.count (drop first.count (held ++ s) ++ t)) q.logged } in r) first.logged
          ∙ ap (λ o. let r : State = record a { logged = o } in r) (both_appended s t held first.count then.count a.logged first.within);
      keeps = then.keeps ∙ drop_more (held ++ s) t first.count then.count first.within ∙ ap (drop (first.count + then.count)) (append_assoc held s t);
    }

pub puts_break : (s t : Bytes) {held kept : Bytes} {a b c : State} → Puts s held kept a b → Breaks t kept b c → Breaks (s ++ t) held a c
puts_break s t {held} {kept} {a} {b} {c} first second =
    let then = subst (λ (h : Bytes). Breaks t h b c) first.keeps second in
    record {
      count = first.count + then.count;
      within = both_within s t held first.count then.count first.within then.within;
      logged = then.logged ∙ ap (λ (q : State). let r : State = record q { logged = appended (take then.count (drop first.count (held ++ s) ++ t)) q.logged; faults = c.faults } in r) first.logged
          ∙ ap (λ o. let r : State = record a { logged = o; faults = c.faults } in r) (both_appended s t held first.count then.count a.logged first.within);
      rose = subst (λ n. Rose n c.faults) (puts_faults first) then.rose;
      later = subst (λ n. n ≤ c.faults) (puts_faults first) then.later;
      calm = λ h. then.calm (puts_calm first ∙ h);
    }

-- a call of the writer
no_ok : (f : Failed) → IsOk {T = Unit {0}} {E = Failed} (Err f) → ⊥
no_ok f h = cc

unfaulted : (old new : State) (o : Option Bytes) → new ≡ record old { logged = new.logged; faults = new.faults } → new.faults ≡ old.faults → new.logged ≡ o → new ≡ record old { logged = o }
unfaulted old new o only calm logged =
    only ∙ ap (λ h. let s : State = record old { logged = h; faults = new.faults } in s) logged ∙ ap (λ k. let s : State = record old { logged = o; faults = k } in s) calm

pub gathered : (text : Bytes) (result : Result (Unit {0}) Failed) {held kept : Bytes} {old new : State} → IsOk result → Gathers Log text result held kept old new → Puts text held kept old new
gathered text (Ok u) {old = old} {new = new} ok is = record {
  count = is.part.0;
  within = is.part.1;
  logged = unfaulted old new _ is.only is.count.ok is.part.2;
  keeps = is.part.3;
}
gathered text (Err f) ok is = absurd (no_ok f ok)

pub broken : (text : Bytes) (f : Failed) {held kept : Bytes} {old new : State} → Gathers Log text (Err f) held kept old new → Breaks text held old new
broken text f {held} {kept} {old} {new} is = record {
  count = is.part.0;
  within = is.part.1;
  logged = is.only ∙ ap (λ o. let s : State = record old { logged = o; faults = new.faults } in s) is.part.2;
  rose = is.count.failed;
  later = is.count.later;
  calm = λ h. no_ok f (is.calm h);
}

-- lines at a desk
lines_more : (xs ys : List PlainLine) → plain_lines (xs ++ ys) ≡ plain_lines xs ++ plain_lines ys
lines_more xs ys = flat_map-append plain_text xs ys

pub named_none : {S : Type 0} {held : Bytes} {s : State} → S → PutsNamed S (plain_lines []) held held s s
named_none same = record { named = same; puts = puts_nothing _ _ }

pub named_more : {S T U : Type 0} (xs ys : List PlainLine) {held kept left : Bytes} {a b c : State}
    → PutsNamed S (plain_lines xs) held kept a b → PutsNamed T (plain_lines ys) kept left b c → U → PutsNamed U (plain_lines (xs ++ ys)) held left a c
named_more xs ys {held} {kept} {left} {a} {b} {c} first second same = record {
  named = same;
  puts = subst (λ (t : Bytes). Puts t held left a c) (sym (lines_more xs ys)) (puts_more (plain_lines xs) (plain_lines ys) first.puts second.puts);
}

pub named_breaks : {S T U : Type 0} (xs ys : List PlainLine) (line : PlainLine) {held kept : Bytes} {a b c : State}
    → PutsNamed S (plain_lines xs) held kept a b → BreaksNamed T (plain_lines ys) (plain_text line) kept b c → U → BreaksNamed U (plain_lines (xs ++ ys)) (plain_text line) held a c
named_breaks xs ys line {held} {kept} {a} {b} {c} first second same = record {
  named = same;
  breaks = subst (λ (t : Bytes). Breaks t held a c) (sym (append_assoc (plain_lines xs) (plain_lines ys) (plain_text line)) ∙ ap (λ t. t ++ plain_text line) (sym (lines_more xs ys)))
      (puts_break (plain_lines xs) (plain_lines ys ++ plain_text line) first.puts second.breaks);
}

-- the same of lines without extra witnesses
pub lifted_more : {S T U : Type 0} (xs ys : List Plain) {held kept left : Bytes} {a b c : State}
    → PutsNamed S (plain_lines (map lifted xs)) held kept a b → PutsNamed T (plain_lines (map lifted ys)) kept left b c → U → PutsNamed U (plain_lines (map lifted (xs ++ ys))) held left a c
lifted_more {U = U} xs ys {held} {kept} {left} {a} {b} {c} first second same =
    subst (λ ls. PutsNamed U (plain_lines ls) held left a c) (sym (map-append lifted xs ys)) (named_more (map lifted xs) (map lifted ys) first second same)

pub lifted_breaks : {S T U : Type 0} (xs ys : List Plain) (line : Plain) {held kept : Bytes} {a b c : State}
    → PutsNamed S (plain_lines (map lifted xs)) held kept a b → BreaksNamed T (plain_lines (map lifted ys)) (plain_text (lifted line)) kept b c → U
    → BreaksNamed U (plain_lines (map lifted (xs ++ ys))) (plain_text (lifted line)) held a c
lifted_breaks {U = U} xs ys line {held} {kept} {a} {b} {c} first second same =
    subst (λ ls. BreaksNamed U (plain_lines ls) (plain_text (lifted line)) held a c) (sym (map-append lifted xs ys)) (named_breaks (map lifted xs) (map lifted ys) (lifted line) first second same)

pub named_ready : {S : Type 0} {text held kept : Bytes} {a b : State} → PutsNamed S text held kept a b → a.created ≡ true → b.created ≡ true
named_ready is h = ap (λ (s : State). s.created) is.puts.logged ∙ h

pub named_calm : {S : Type 0} {text held kept : Bytes} {a b : State} → PutsNamed S text held kept a b → b.calm ≡ a.calm
named_calm is = puts_calm is.puts

pub named_faults : {S : Type 0} {text held kept : Bytes} {a b : State} → PutsNamed S text held kept a b → b.faults ≡ a.faults
named_faults is = puts_faults is.puts

-- one without an extra witness, which a log may hold, is spelled as it stands in a log
has_none : (line : Plain) → is_fit is_never line ≡ true → has_extra line ≡ false
has_none (Derive g (witness.Basic w)) fit = refl
has_none (Derive g (witness.Hier w)) fit = refl
has_none (Derive g (witness.Seq w)) fit = refl
has_none (Derive g (witness.Cumul w)) fit = refl
has_none (Derive g (witness.State w)) fit = refl
has_none (Derive g (witness.Extra w)) fit = let no = (both_true (is_fit_guess g) (is_never w) fit).1 in cc
has_none (Fail (witness.Basic w)) fit = refl
has_none (Fail (witness.Hier w)) fit = refl
has_none (Fail (witness.Seq w)) fit = refl
has_none (Fail (witness.Cumul w)) fit = refl
has_none (Fail (witness.State w)) fit = refl
has_none (Fail (witness.Extra w)) fit = cc
has_none (Split g) fit = refl
has_none (Sol a) fit = refl
has_none Restart fit = refl

spelled : (line : Plain) → is_fit is_never line ≡ true → line_text no_numbers line ≡ plain_text (lifted line)
spelled line fit = sym (same_spelling line (has_none line fit))
