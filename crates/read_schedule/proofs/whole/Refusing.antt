-- Which line is refused.
use Rattle.std.proofs.Common.{◌≡◌, ◌⊎◌, inl, inr, ℕ, ◌+◌, ◌≤◌, true, List, [], ◌∷◌, ◌++◌, length, sym, ◌∙◌, ap, refl, arith, append_assoc}
use Rattle.std.specs.List.{list_all}
use Rattle.std.proofs.lemmas.Bool.{and_from}
use Rattle.base_laws.specs.laws.Items.{all_append}
use Rattle.sched_model.specs.declared.types.Assignment.{Assignment}
use Rattle.sched_model.specs.Data.{Data}
use Rattle.sched_model.specs.Domain.{is_in_domain}
use Rattle.sched_model.specs.Valid.{IsValid}
use Rattle.textline.specs.Lines.{Bytes}
use Rattle.read_schedule.specs.Schedules.{IsHeader, GoesOn, IsRefused, schedule_text, is_line, text}
use Rattle.read_schedule.specs.code.Rows.{body}
use Rattle.read_schedule.specs.code.Reads.{Unlike}
use Rattle.read_schedule.proofs.spelling.Rows.{text_append}
use Rattle.read_schedule.proofs.spelling.Texts.{cut, one_more, first_lines}
use Rattle.read_schedule.proofs.whole.Heads.{verdict_is_line, count_is_line}
use Rattle.read_schedule.proofs.whole.Body.{body_text, body_lines}

-- the lines of a whole schedule text

pub header_lines : (h : List (List Bytes)) → IsHeader h → list_all is_line h ≡ true
header_lines [] heads = refl
header_lines (v ∷ []) heads = absurd heads
header_lines (v ∷ n ∷ []) heads = and_from (is_line v) (list_all is_line (n ∷ [])) (verdict_is_line v heads.0) (and_from (is_line n) true (count_is_line n heads.1) refl)
header_lines (v ∷ n ∷ x ∷ xs) heads = absurd heads

pub spelled_lines : (m : Data) (h : List (List Bytes)) (a : Assignment) → schedule_text m h a ≡ text (h ++ body m a)
spelled_lines m h a = ap (λ t. text h ++ t) (sym (body_text m a)) ∙ sym (text_append h (body m a))

all_lines : (m : Data) (h : List (List Bytes)) (a : Assignment) → IsValid m → IsHeader h → is_in_domain m a ≡ true → list_all is_line (h ++ body m a) ≡ true
all_lines m h a valid heads domain = all_append is_line h (body m a) (header_lines h heads) (body_lines m a valid domain)

-- where schedules that begin with some lines go on unlike the bytes

abbrev pub AllUnlike : Data → List (List Bytes) → Bytes → Type 0
AllUnlike m front rest = (h : List (List Bytes)) (a : Assignment) (us : List (List Bytes)) → IsHeader h → is_in_domain m a ≡ true → h ++ body m a ≡ front ++ us → Unlike us rest

abbrev pub SomeGoesOn : Data → List (List Bytes) → Type 0
SomeGoesOn m front = (h : List (List Bytes)) × (a : Assignment) × (us : List (List Bytes)) × IsHeader h × (is_in_domain m a ≡ true) × (h ++ body m a ≡ front ++ us)

-- the same bytes aren't unlike
unlike_itself : (us : List (List Bytes)) (rest : Bytes) → rest ≡ text us → Unlike us rest → ⊥
unlike_itself [] rest same unlike = unlike same
unlike_itself (u ∷ us) rest same unlike = unlike (text us, same)

pub refuses : (m : Data) → IsValid m → (bytes : Bytes) (front : List (List Bytes)) (rest : Bytes) (k : ℕ) → list_all is_line front ≡ true → bytes ≡ text front ++ rest → k ≡ length front + 1 → (front ≡ []) ⊎ SomeGoesOn m front → AllUnlike m front rest → IsRefused m bytes k
refuses m valid bytes front rest k each same count some unlike = record {
  none = λ a spells.
      let whole : text (spells.header ++ body m a) ≡ text front ++ rest = sym (spells.whole ∙ spelled_lines m spells.header a) ∙ same in
      let parts = cut front (spells.header ++ body m a) rest each (all_lines m spells.header a valid spells.heads spells.domain) whole in
      unlike_itself parts.0 rest parts.2 (unlike spells.header a parts.0 spells.heads spells.domain parts.1);
  first = omega (arith, count);
  before = λ j some_j less. elim some [
    | inl none ↦ absurd (omega (arith, count, some_j, less, ap length none))
    | inr going ↦ earlier j (omega (arith, count, less)) going
  ];
  stops = λ on.
      let whole : text (on.spells.header ++ body m on.schedule) ≡ text on.lines ++ on.more = sym (on.spells.whole ∙ spelled_lines m on.spells.header on.schedule) in
      let theirs = cut on.lines (on.spells.header ++ body m on.schedule) on.more on.each (all_lines m on.spells.header on.schedule valid on.spells.heads on.spells.domain) whole in
      let last = one_more on.lines front on.rest rest on.each each (on.count ∙ count) (sym on.here ∙ same) in
      let rows_are : on.spells.header ++ body m on.schedule ≡ front ++ (last.0 ∷ theirs.0) = theirs.1 ∙ ap (λ ls. ls ++ theirs.0) last.1 ∙ append_assoc front (last.0 ∷ []) theirs.0 in
      let not_here = unlike on.spells.header on.schedule (last.0 ∷ theirs.0) on.spells.heads on.spells.domain rows_are in
      not_here (on.rest, last.2);
}
  where
    earlier : (j : ℕ) → j ≤ length front → SomeGoesOn m front → GoesOn m bytes j
    earlier j few going =
        let fronts = first_lines front j few each in
        let tail = fronts.1 ++ going.2 in
        record {
          lines = fronts.0;
          each = fronts.4;
          count = fronts.3;
          rest = text fronts.1 ++ rest;
          here = same ∙ ap (λ ls. text ls ++ rest) fronts.2 ∙ ap (λ t. t ++ rest) (text_append fronts.0 fronts.1) ∙ append_assoc (text fronts.0) (text fronts.1) rest;
          more = text tail;
          schedule = going.1;
          spells = record {
            header = going.0;
            heads = going.3;
            domain = going.4;
            whole = sym (text_append fronts.0 tail) ∙ ap text (sym (append_assoc fronts.0 fronts.1 going.2) ∙ ap (λ ls. ls ++ going.2) (sym fronts.2) ∙ sym going.5) ∙ sym (spelled_lines m going.0 going.1);
          };
        }
