-- What stands in front of bytes that no line has taken.
use Rattle.std.proofs.Common.{◌≡◌, ℕ, ◌+◌, ◌-◌, ◌<◌, Bool, true, false, ℤ, List, length, take, drop, is_none, Option, Some, None, sym, ap, subst, ◌∙◌, arith, length-drop, take_all}
use Rattle.std.specs.List.{list_all}
use Rattle.std.proofs.lemmas.Bool.{and_from}
use Rattle.std.proofs.lemmas.Bool.Decides.{nat_tests}
use Rattle.std.proofs.lemmas.List.{take-append-drop, drop-drop}
use Rattle.std.proofs.lemmas.List.Folds.{list_all-append}
use Rattle.memchr.specs.Find.{IsFirstByte, is_byte}
use Rattle.textline.specs.Lines.{Bytes}
use Rattle.textline.specs.laws.Lines.{no_feed, none_before}
use Rattle.logtext.specs.declared.entry.Entry.{Entry}
use Rattle.logtext.specs.Entries.{Spells, line_limit}
use Rattle.logtext.specs.Reading.{HasNoWholeLine, IsLineAt}
use Rattle.log_lines.specs.code.Pieces.{Fed}

none_found : (bytes : Bytes) (r : Option ℕ) → IsFirstByte (is_byte 10) bytes r → is_none r ≡ true → list_all no_feed bytes ≡ true
none_found bytes (Some k) first none = cc
none_found bytes None first none =
    ap (list_all no_feed) (sym (take_all (length bytes) bytes (omega arith))) ∙ none_before bytes (length bytes) (λ j less within e. first j (omega arith) less (grind (arith, nat_tests)))

-- what was searched before, and what was searched now
pub still_open : (rest new : Bytes) (searched : ℕ) (r : Option ℕ) → list_all no_feed (take searched rest) ≡ true → drop searched rest ≡ new → IsFirstByte (is_byte 10) new r → is_none r ≡ true → length rest < line_limit → HasNoWholeLine rest
still_open rest new searched r plain is first none short = record {
  open_line =
      ap (list_all no_feed) (sym (take-append-drop searched rest)) ∙ list_all-append no_feed (take searched rest) (drop searched rest)
      ∙ and_from (list_all no_feed (take searched rest)) (list_all no_feed (drop searched rest)) plain (ap (list_all no_feed) is ∙ none_found new r first none);
  short = short;
}

-- a line at a place is the first line of the bytes from there on
pub first_line : {W : Type 0} (numbers : W → List ℤ) (valid : W → Bool) (held : Bytes) (at to : ℕ) (e : Entry W) → IsLineAt numbers valid held at to e → IsLineAt numbers valid (drop at held) 0 (to - at) e
first_line numbers valid held at to e line = record {
  further = omega (arith, line.further);
  within = omega (arith, line.further, line.within, length-drop at held);
  spells = let same : to - at ≡ to - at - 0 = omega arith in subst (λ n. Spells numbers valid (take n (drop at held)) e) same line.spells;
}

pub line_taken : {W : Type 0} (numbers : W → List ℤ) (valid : W → Bool) (old : Fed) (held : Bytes) (at to count taken : ℕ) (bad : Bool) (e : Entry W) → record { count = count; taken = taken; rest = drop at held; is_bad = bad } ≡ old → bad ≡ false → IsLineAt numbers valid held at to e
    → (old.is_bad ≡ false) × ((n : ℕ) × IsLineAt numbers valid old.rest 0 n e × (record { count = count; taken = taken + 1; rest = drop to held; is_bad = bad } ≡ record old { taken = old.taken + 1; rest = drop n old.rest }))
line_taken {W} numbers valid old held at to count taken bad e view good line =
    let place : at + (to - at) ≡ to = omega (arith, line.further) in
    let Taken : Fed → Type 0 = λ f. (f.is_bad ≡ false) × ((n : ℕ) × IsLineAt numbers valid f.rest 0 n e × (record { count = count; taken = taken + 1; rest = drop to held; is_bad = bad } ≡ record f { taken = f.taken + 1; rest = drop n f.rest })) in
    subst Taken view (good, (to - at, first_line numbers valid held at to e line, ap (λ bs. record { count = count; taken = taken + 1; rest = bs; is_bad = bad }) (sym (drop-drop (to - at) at held ∙ ap (λ n. drop n held) place))))
