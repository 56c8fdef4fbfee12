-- Printing: one step, one step after another, and what is left.
use Rattle.std.proofs.Common.{◌≡◌, ℕ, ◌+◌, ◌≤◌, true, false, [], ◌++◌, length, take, refl, sym, ap, ◌∙◌, subst, arith, append-nil, append_assoc, length-append}
use Rattle.std.specs.Prelude.{Bool, Result, Ok, Err, OnOk}
use Rattle.std.proofs.lemmas.List.{take-append-le, take-append-drop}
use Rattle.std.proofs.Math.Seq.{take-append-add}
use Rattle.sched_base.specs.declared.desk.Failed.{Failed}
use Rattle.sched_base.specs.declared.desk.Port.TheVariants.{Out}
use Rattle.sched_base.specs.State.{State, with_faults, with_held}
use Rattle.sched_base.specs.Calls.{Rose, Writes, appended}
use Rattle.gatherer.specs.code.Gathering.{Gathers}
use Rattle.gatherer.specs.laws.Gathering.{goes as goes_as, fails as fails_as}
use Rattle.sched_base.specs.laws.Appended.{appended_nothing, appended_twice}
use Rattle.textline.specs.Lines.{Bytes}
use Rattle.sched_text.specs.declared.page.Page.{Page}
use Rattle.sched_text.specs.code.Printing.{IsPrinted, Leaves, Prints}

-- nothing is done after a failure
pub passes_over : {text : Bytes} {old new : Page} {s : State} → old.failed ≡ true → new.failed ≡ true → Prints text old new s s
passes_over {text} {old} {new} {s} failed fails = record {
  leaves = λ start whole rest printed. record {
    going = λ goes. let absurd : true ≡ false = sym fails ∙ goes in cc;
    failed = λ _. printed.failed failed;
  };
}

-- what waited and the text: a front part was written, and the others wait
pub gathered : {text : Bytes} {u : Unit {0}} {old new : Page} {s t : State} → old.failed ≡ false → new.failed ≡ false → Gathers Out text (Ok u) old.waiting new.waiting s t → Prints text old new s t
gathered {text} {u} {old} {new} {s} {t} went goes is = record {
  leaves = λ start whole rest printed.
      let before = printed.going went in
      let w : Bytes = before.0 in
      let all : Bytes = old.waiting ++ text in
      let bytes : Bytes = take is.part.0 all in
      let same : bytes ++ new.waiting ≡ all = ap (λ (x : Bytes). bytes ++ x) is.part.3 ∙ take-append-drop is.part.0 all in
      record {
        going = λ _. (
          w ++ bytes,
          goes_as is
              ∙ ap (λ (x : State). with_held Out (appended bytes x.out) x) before.1
              ∙ ap (λ held. with_held Out held start) (appended_twice w bytes start.out),
          append_assoc w bytes (new.waiting ++ rest)
              ∙ ap (λ (x : Bytes). w ++ x) (
              sym (append_assoc bytes new.waiting rest)
              ∙ ap (λ (x : Bytes). x ++ rest) same
              ∙ append_assoc old.waiting text rest)
              ∙ before.2,
        );
        failed = λ fails. let absurd : false ≡ true = sym goes ∙ fails in cc;
      };
}

front_part : (w bytes more : Bytes) (n : ℕ) → n ≤ length bytes → w ++ take n bytes ≡ take (length w + n) ((w ++ bytes) ++ more)
front_part w bytes more n within =
    ap (λ (x : Bytes). w ++ x) (sym (take-append-le n bytes more within))
    ∙ sym (take-append-add w (bytes ++ more) n)
    ∙ ap (take (length w + n)) (sym (append_assoc w bytes more))

-- a write failed while they were gathered
pub cut_off : {text : Bytes} {e : Failed} {old new : Page} {s t : State} → old.failed ≡ false → new.failed ≡ true → Gathers Out text (Err e) old.waiting new.waiting s t → Prints text old new s t
cut_off {text} {e} {old} {new} {s} {t} went fails is = record {
  leaves = λ start whole rest printed.
      let before = printed.going went in
      let w : Bytes = before.0 in
      let bytes : Bytes = old.waiting ++ text in
      let wrote = fails_as is in
      let n : ℕ = wrote.failed.0 in
      let parts : whole ≡ (w ++ bytes) ++ rest =
      sym before.2
      ∙ ap (λ (x : Bytes). w ++ x) (sym (append_assoc old.waiting text rest))
      ∙ sym (append_assoc w bytes rest) in
      record {
        going = λ goes. let absurd : true ≡ false = sym fails ∙ goes in cc;
        failed = λ _. record {
          part = (
            length w + n,
            subst (λ (x : Bytes). length w + n ≤ length x) (sym parts) (omega (arith, wrote.failed.1, length-append w bytes, length-append (w ++ bytes) rest)),
            wrote.failed.2
                ∙ ap (λ (x : State). with_faults t.faults (with_held Out (appended (take n bytes) x.out) x)) before.1
                ∙ ap (λ held. with_faults t.faults (with_held Out held start)) (appended_twice w (take n bytes) start.out)
                ∙ ap (λ (x : Bytes). with_faults t.faults (with_held Out (appended x start.out) start)) (front_part w bytes rest n wrote.failed.1 ∙ ap (take (length w + n)) (sym parts)),
          );
          later = subst (λ (x : State). x.faults ≤ t.faults) before.1 wrote.count.later;
          rose = subst (λ (x : State). Rose x.faults t.faults) before.1 wrote.count.failed;
          calm = λ calm. let ok = wrote.calm (ap (λ (x : State). x.calm) before.1 ∙ calm) in cc;
        };
      };
}

-- one step after another
pub then : {a b c : Bytes} {old mid new : Page} {s t u : State} → Leaves a b old mid s t → Leaves b c mid new t u → Leaves a c old new s u
then first second = record { leaves = λ start whole rest printed. second.leaves start whole rest (first.leaves start whole rest printed) }

-- the next piece of what was left was printed
pub goes_on : {text piece left more : Bytes} {old mid new : Page} {s t u : State} → left ≡ piece ++ more → Leaves text left old mid s t → Prints piece mid new t u → Leaves text more old new s u
goes_on {text} {piece} {left} {more} {old} {mid} {new} {s} {t} {u} is so_far next = record {
  leaves = λ start whole rest printed.
      next.leaves start whole (more ++ rest) (
      subst (λ (x : Bytes). IsPrinted start whole x mid t) (ap (λ (x : Bytes). x ++ rest) is ∙ append_assoc piece more rest)
      (so_far.leaves start whole rest printed));
}

-- two texts, one behind the other
pub both : {a b : Bytes} {old mid new : Page} {s t u : State} → Prints a old mid s t → Prints b mid new t u → Prints (a ++ b) old new s u
both {a} {b} {old} {mid} {new} {s} {t} {u} first second = record {
  leaves = λ start whole rest printed.
      second.leaves start whole rest (
      first.leaves start whole (b ++ rest) (
      subst (λ (x : Bytes). IsPrinted start whole x old s) (append_assoc a b rest) printed));
}

-- more texts, one behind the other
pub three : {a b c : Bytes} {p0 p1 p2 p3 : Page} {s0 s1 s2 s3 : State} → Prints a p0 p1 s0 s1 → Prints b p1 p2 s1 s2 → Prints c p2 p3 s2 s3 → Prints (a ++ b ++ c) p0 p3 s0 s3
three first second third = both (both first second) third

pub four : {a b c d : Bytes} {p0 p1 p2 p3 p4 : Page} {s0 s1 s2 s3 s4 : State} → Prints a p0 p1 s0 s1 → Prints b p1 p2 s1 s2 → Prints c p2 p3 s2 s3 → Prints d p3 p4 s3 s4 → Prints (a ++ b ++ c ++ d) p0 p4 s0 s4
four first second third fourth = both (three first second third) fourth

-- nothing was printed yet
pub none_yet : {text left : Bytes} {page : Page} {s : State} → text ≡ left → Leaves text left page page s s
none_yet {text} {left} {page} {s} is = subst (λ (x : Bytes). Leaves text x page page s s) is (record { leaves = λ start whole rest printed. printed })

-- all was printed
pub all_done : {text left : Bytes} {old new : Page} {s t : State} → left ≡ [] → Leaves text left old new s t → Prints text old new s t
all_done {text} {left} {old} {new} {s} {t} none so_far = subst (λ (x : Bytes). Leaves text x old new s t) none so_far

-- under another spelling
pub «as» : {a b : Bytes} {old new : Page} {s t : State} → Prints a old new s t → a ≡ b → Prints b old new s t
«as» {a} {b} {old} {new} {s} {t} prints is = subst (λ (x : Bytes). Prints x old new s t) is prints

-- on a new page
pub begins : {page : Page} {s : State} (whole : Bytes) → page.waiting ≡ [] → page.failed ≡ false → IsPrinted s whole (whole ++ []) page s
begins {page} {s} whole none goes = record {
  going = λ _. ([], ap (λ held. with_held Out held s) (appended_nothing s.out), ap (λ (x : Bytes). x ++ (whole ++ [])) none ∙ append-nil whole);
  failed = λ fails. let absurd : false ≡ true = sym goes ∙ fails in cc;
}

-- what was printed is one write
all_printed : {start : State} {whole : Bytes} {page : Page} {now : State} (u : Unit {0}) → page.failed ≡ false → page.waiting ≡ [] → IsPrinted start whole [] page now → Writes Out whole (Ok u) start now
all_printed {start} {whole} {page} {now} u goes none is =
    let text : (is.going goes).0 ≡ whole = sym (append-nil (is.going goes).0) ∙ ap (λ (x : Bytes). (is.going goes).0 ++ (x ++ [])) (sym none) ∙ (is.going goes).2 in
    let here : now ≡ with_held Out (appended whole start.out) start = (is.going goes).1 ∙ ap (λ (x : Bytes). with_held Out (appended x start.out) start) text in
    record {
      written = here;
      failed = tt;
      count = record {
        later = subst (λ (x : State). start.faults ≤ x.faults) (sym here) (omega arith);
        ok = ap (λ (x : State). x.faults) here;
        failed = tt;
      };
      calm = λ _. refl;
    }

pub half_printed : {start : State} {whole : Bytes} {page : Page} {now : State} (e : Failed) → page.failed ≡ true → IsPrinted start whole [] page now → Writes Out whole (Err e) start now
half_printed {start} {whole} {page} {now} e fails is =
    let cut = is.failed fails in
    record {
      written = tt;
      failed = cut.part;
      count = record { later = cut.later; ok = tt; failed = cut.rose };
      calm = λ calm. absurd (cut.calm calm);
    }

abbrev page_of : Bytes → Bool → Page
page_of waiting failed = record { waiting = waiting; failed = failed }

-- the rest of a page was written
pub printed : {start : State} {whole : Bytes} {page : Page} {kept : Bytes} {now end : State} (r : Result (Unit {0}) Failed) → page.failed ≡ false → IsPrinted start whole [] page now → Gathers Out [] r page.waiting kept now end → OnOk r (kept ≡ [])
    → Writes Out whole r start end
printed {start} {whole} {page} {kept} {now} {end} (Ok u) goes is gathers none =
    let next : Prints [] page (page_of kept false) now end = gathered goes refl gathers in
    all_printed u refl none (next.leaves start whole [] is)
printed {start} {whole} {page} {kept} {now} {end} (Err e) goes is gathers none =
    let next : Prints [] page (page_of kept true) now end = cut_off goes refl gathers in
    half_printed e refl (next.leaves start whole [] is)
