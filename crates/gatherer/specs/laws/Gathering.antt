-- Gathering: one write, one text after another, and what is held.
use Rattle.std.proofs.Common.{◌≡◌, ℕ, ◌+◌, ◌≤◌, [], ◌++◌, length, take, drop, refl, sym, ap, ◌∙◌, subst, arith, append_assoc, length-append, length-drop}
use Rattle.std.specs.Prelude.{Result, Ok, Err, OnOk, IsErr}
use Rattle.std.proofs.lemmas.List.{take_all, drop_all, take-append-le, drop-append-le, drop-drop}
use Rattle.std.proofs.Math.Seq.{take-add}
use Rattle.sched_base.specs.declared.desk.Failed.{Failed}
use Rattle.sched_base.specs.declared.desk.Port.{Port}
use Rattle.sched_base.specs.State.{Bytes, State, held_on, with_faults, with_held}
use Rattle.sched_base.specs.Calls.{Counted, Writes, appended}
use Rattle.sched_base.specs.laws.Appended.{appended_nothing, appended_twice}
use Rattle.gatherer.specs.code.Gathering.{Gathers}
use Rattle.gatherer.specs.laws.Ports.{Only, held_there, both_there, only_held, only_both, unchanged, changed_twice, calm_there, same_faults}

abbrev pub Answer : Type 0
Answer = Result (Unit {0}) Failed

-- the text stands behind what was held
pub holds : {to : Port} {text held kept : Bytes} {s : State} → kept ≡ held ++ text → Gathers to text (Ok tt) held kept s s
holds {to} {text} {held} {kept} {s} is = record {
  only = unchanged to s;
  part = (0, omega arith, appended_nothing (held_on to s), is);
  count = record { later = omega arith; ok = refl; failed = tt };
  calm = λ _. refl;
}

-- nothing was held, and the text was written
pub passes : {to : Port} {r : Answer} {text : Bytes} {s t : State} → Writes to text r s t → Gathers to text r [] [] s t
passes {to} {r = Ok u} {text = text} {s = s} {t = t} wrote = record {
  only = subst (Only to s) (sym wrote.written) (only_held to (appended text (held_on to s)) s);
  part = (length text, omega arith, ap (held_on to) wrote.written ∙ held_there to _ s ∙ ap (λ bs. appended bs (held_on to s)) (sym (take_all _ text (omega arith))), sym (drop_all _ text (omega arith)));
  count = wrote.count;
  calm = wrote.calm;
}
passes {to} {r = Err e} {text = text} {s = s} {t = t} wrote = record {
  only = subst (Only to s) (sym wrote.failed.2) (only_both to t.faults (appended (take wrote.failed.0 text) (held_on to s)) s);
  part = (wrote.failed.0, wrote.failed.1, ap (held_on to) wrote.failed.2 ∙ both_there to t.faults _ s, tt);
  count = wrote.count;
  calm = wrote.calm;
}

first_part : (n : ℕ) (held a b : Bytes) → n ≤ length (held ++ a) → take n (held ++ (a ++ b)) ≡ take n (held ++ a)
first_part n held a b within = rw (← append_assoc held a b) (take-append-le n (held ++ a) b within)

both_parts : (n m : ℕ) (held a b : Bytes) → n ≤ length (held ++ a) → take n (held ++ a) ++ take m (drop n (held ++ a) ++ b) ≡ take (n + m) (held ++ (a ++ b))
both_parts n m held a b within =
    rw (← append_assoc held a b) (sym (
    take-add n m (held ++ a ++ b)
    ∙ ap (λ bs. bs ++ take m (drop n (held ++ a ++ b))) (take-append-le n (held ++ a) b within)
    ∙ ap (λ bs. take n (held ++ a) ++ take m bs) (drop-append-le n (held ++ a) b within)))

rest_of_both : (n m : ℕ) (held a b : Bytes) → n ≤ length (held ++ a) → drop m (drop n (held ++ a) ++ b) ≡ drop (n + m) (held ++ (a ++ b))
rest_of_both n m held a b within = rw (← append_assoc held a b, ← drop-drop m n (held ++ a ++ b)) (ap (drop m) (sym (drop-append-le n (held ++ a) b within)))

-- a failure at the first text is one of both
pub stops : {to : Port} {a : Bytes} (b : Bytes) {r : Answer} {e : Failed} {held kept : Bytes} {s t : State} → IsErr r → Gathers to a (Err e) held kept s t → Gathers to (a ++ b) r held kept s t
stops b {r = Ok u} failed first = cc
stops {to} {a = a} b {r = Err d} {e = e} {held = held} {kept = kept} {s = s} {t = t} failed first = record {
  only = first.only;
  part = (first.part.0, omega (arith, first.part.1, length-append held a, length-append held (a ++ b), length-append a b), first.part.2 ∙ ap (λ bs. appended bs (held_on to s)) (sym (first_part first.part.0 held a b first.part.1)), tt);
  count = first.count;
  calm = first.calm;
}

-- one text after another
pub goes_on : {to : Port} {a b : Bytes} {u : Unit {0}} {r : Answer} {held mid kept : Bytes} {s t v : State} → Gathers to a (Ok u) held mid s t → Gathers to b r mid kept t v → Gathers to (a ++ b) r held kept s v
goes_on {to} {a} {b} {u} {r} {held} {mid} {kept} {s} {t} {v} first second =
    let n = first.part.0 in
    let m = second.part.0 in
    let within = first.part.1 in
    record {
      only = second.only ∙ ap (λ (w : State). with_faults v.faults (with_held to (held_on to v) w)) first.only ∙ changed_twice to v.faults t.faults (held_on to v) (held_on to t) s;
      part = (
        n + m,
        omega (arith, within, second.part.1, ap length first.part.3, length-drop n (held ++ a), length-append held a, length-append mid b, length-append held (a ++ b), length-append a b),
        second.part.2
            ∙ ap (appended (take m (mid ++ b))) first.part.2
            ∙ appended_twice (take n (held ++ a)) (take m (mid ++ b)) (held_on to s)
            ∙ ap (λ bs. appended (take n (held ++ a) ++ take m (bs ++ b)) (held_on to s)) first.part.3
            ∙ ap (λ bs. appended bs (held_on to s)) (both_parts n m held a b within),
        subst (λ bs. OnOk r (kept ≡ bs)) (ap (λ bs. drop m (bs ++ b)) first.part.3 ∙ rest_of_both n m held a b within) second.part.3,
      );
      count = subst (λ k. Counted r k v.faults) first.count.ok second.count;
      calm = λ calm. second.calm (ap (λ w. w.calm) first.only ∙ calm_there to t.faults (held_on to t) s ∙ calm);
    }

-- what was held was written, and the text is held, or written too
pub flushed_holds : {to : Port} {text held mid kept : Bytes} {u : Unit {0}} {s t : State} → Gathers to [] (Ok u) held mid s t → kept ≡ mid ++ text → Gathers to text (Ok tt) held kept s t
flushed_holds flushed is = goes_on flushed (holds is)

pub flushed_passes : {to : Port} {r : Answer} {text held mid kept : Bytes} {u : Unit {0}} {s t v : State} → Gathers to [] (Ok u) held mid s t → mid ≡ [] → kept ≡ mid → Writes to text r t v → Gathers to text r held kept s v
flushed_passes flushed none is wrote = goes_on flushed (rw (is, none) (passes wrote))

pub goes_on_as : {to : Port} {a b : Bytes} (c : Bytes) {u : Unit {0}} {r : Answer} {held mid kept : Bytes} {s t v : State} → b ≡ c → Gathers to a (Ok u) held mid s t → Gathers to b r mid kept t v → Gathers to (a ++ c) r held kept s v
goes_on_as {to} {a} {b} c {u} {r} {held} {mid} {kept} {s} {t} {v} same first second = subst (λ bs. Gathers to (a ++ bs) r held kept s v) same (goes_on first second)

-- what stands on the port behind a success
pub goes : {to : Port} {text : Bytes} {u : Unit {0}} {held kept : Bytes} {s t : State} → (is : Gathers to text (Ok u) held kept s t) → t ≡ with_held to (appended (take is.part.0 (held ++ text)) (held_on to s)) s
goes {to} {text} {u} {held} {kept} {s} {t} is =
    is.only
    ∙ ap (λ k. with_faults k (with_held to (held_on to t) s)) is.count.ok
    ∙ same_faults to (held_on to t) s
    ∙ ap (λ o. with_held to o s) is.part.2

-- a failure is that of a write of all that was held and the text
pub fails : {to : Port} {text : Bytes} {e : Failed} {held kept : Bytes} {s t : State} → Gathers to text (Err e) held kept s t → Writes to (held ++ text) (Err e) s t
fails {to} {text} {e} {held} {kept} {s} {t} is = record {
  written = tt;
  failed = (is.part.0, is.part.1, is.only ∙ ap (λ o. with_faults t.faults (with_held to o s)) is.part.2);
  count = is.count;
  calm = is.calm;
}
