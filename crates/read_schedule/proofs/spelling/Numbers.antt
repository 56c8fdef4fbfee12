-- Words that spell numbers.
use Rattle.std.proofs.Common.{◌≡◌, suc, ◌^◌, ◌<◌, ℤ, pos, negsuc, Bool, true, false, List, [], ◌∷◌, ◌∙◌, sym, ap, arith, codes}
use Rattle.std.proofs.lemmas.Fmt.{signed_decimal_injective, digits_decimal}
use Rattle.std.specs.Fmt.{decimal, signed_decimal}
use Rattle.std.specs.Str.{all_ascii_digits}
use lib.Signed.{mag}
use Rattle.base_laws.specs.laws.Numerals.{digits_are_numerals}
use Rattle.sched_model.specs.Bounds.{is_small}
use Rattle.sched_model.specs.laws.Small.{small_mag}
use Rattle.std.proofs.lemmas.Bool.{and_parts}
use Rattle.sched_model.specs.declared.types.Slot.{Slot}
use Rattle.sched_model.specs.declared.types.Slot.TheVariants.{Absent, Present}
use Rattle.textline.specs.Lines.{Bytes}
use Rattle.sched_text.specs.Answers.{slot_words}
use Rattle.read_schedule.specs.code.Reads.{Decides, IsNumber, is_spelled}

pub far_number : (w : Bytes) (t : ℤ) (old new : List Bytes) → old ≡ w ∷ new → w ≡ signed_decimal t → mag t < 2 ^ 63 → is_small t ≡ false → (z : ℤ) (ws : List Bytes) → is_small z ≡ true → old ≡ signed_decimal z ∷ ws → ⊥
far_number w t old new stands is range far z ws fit e =
    let same : signed_decimal t ≡ signed_decimal z = cc in
    let one = signed_decimal_injective t z range (small_mag z fit) same in
    let small : is_small t ≡ true = ap is_small one ∙ fit in cc

-- a word that is read as this number
pub number_here : (w : Bytes) (t : ℤ) (b : Bool) → w ≡ signed_decimal t → mag t < 2 ^ 63 → b ≡ is_small t → Decides (IsNumber w) b
number_here w t true stands range is = (t, sym is, stands)
number_here w t false stands range is = λ number.
    let one = signed_decimal_injective t number.0 range (small_mag number.0 number.1) (sym stands ∙ number.2) in
    let wrong : false ≡ true = is ∙ ap is_small one ∙ number.1 in cc

minus_first : (x y : Bytes) → 45 ∷ x ≡ 97 ∷ y → ⊥
minus_first x y e = cc

-- a number begins with no letter
pub no_absent : (z : ℤ) → is_small z ≡ true → signed_decimal z ≡ codes "absent" → ⊥
no_absent (pos n) h e =
    let digits : all_ascii_digits (decimal n) ≡ true = digits_decimal digits_are_numerals n (omega (arith, small_mag (pos n) h)) in
    let wrong : all_ascii_digits (codes "absent") ≡ true = ap all_ascii_digits (sym e) ∙ digits in cc
no_absent (negsuc n) h e = minus_first (decimal (suc n)) (codes "bsent") e

-- more stands behind `absent` than that
pub absent_and_more : (old new : List Bytes) → old ≡ codes "absent" ∷ new → (new ≡ [] → ⊥) → (v : Slot) → is_spelled v ≡ true → old ≡ slot_words v → ⊥
absent_and_more old new stands more Absent able e = more (behind _ _ _ _ (sym stands ∙ e))
  where
    behind : (v w : Bytes) (x y : List Bytes) → v ∷ x ≡ w ∷ y → x ≡ y
    behind v w x y e = cc
absent_and_more old new stands more (Present s f) able e = no_absent s (and_parts (is_small s) (is_small f) able).0 (first_is _ _ _ _ (sym e ∙ stands))
  where
    first_is : (v w : Bytes) (x y : List Bytes) → v ∷ x ≡ w ∷ y → v ≡ w
    first_is v w x y e = cc
