-- The parts of a cumulative expression that passes the tests are well made.
use Rattle.std.proofs.Common.{◌≡◌, ℕ, zero, suc, ℤ, Bool, true, false, ◌&&◌, List, [], ◌∷◌, map, flat_map, slice_index_or, None, refl}
use Rattle.std.specs.List.{list_all, list_any}
use Rattle.std.proofs.lemmas.Bool.{and_parts, and_from, or_parts}
use Rattle.base_laws.specs.laws.Items.{all_append}
use Rattle.sched_model.specs.declared.types.CumulDef.{CumulDef}
use Rattle.sched_model.specs.declared.types.Part.{Part}
use Rattle.sched_model.specs.Words.{passes}
use Rattle.sched_model.specs.Data.{Data}
use Rattle.sched_model.specs.Valid.{is_shape, is_cumul_def, is_itv, is_amount, is_span_of_moments, is_moment}
use Rattle.cpo_text.specs.declared.cumul.Cpart.{Cpart}
use Rattle.cpo_text.specs.declared.cumul.Cpart.TheVariants.{Named, Pulse, PulseOf, Step, StepAtStart, StepAtEnd}
use Rattle.cpo_text.specs.declared.cumul.Signed.{Signed}
use Rattle.cpo_text.specs.declared.cumul.Cumul.{Cumul}
use Rattle.cpo_elab.specs.declared.names.Sort.TheVariants.{Interval}
use Rattle.cpo_elab.specs.Named.{some_in_cpart, some_in_cumul, signed_parts, itv_of, cum_of}
use Rattle.cpo_elab.specs.Literals.{int_of}
use Rattle.cpo_elab.specs.Held.{cpart_moments, cpart_height, some_moments, some_height}
use Rattle.cpo_elab.specs.Elaborated.{turned, plain_parts, parts_signed, parts_in}
use Rattle.cpo_elab.specs.Judged.{is_of_other_sort, is_reversed, is_outside, is_negative, is_large}
use Rattle.cpo_elab.proofs.named.Ids.{right_itv}
use Rattle.cpo_elab.proofs.values.Amounts.{spans, moment, amount}

abbrev pub is_part : Data → Part → Bool
is_part m i = is_shape m i.shape

-- the parts of a function that is there
parts_there : (m : Data) (fs : List CumulDef) (i : ℕ) → list_all (is_cumul_def m) fs ≡ true → list_all (is_part m) (slice_index_or fs i (record { name = None; parts = [] })).parts ≡ true
parts_there m [] i all = refl
parts_there m (f ∷ fs) zero all = (and_parts (is_cumul_def m f) _ all).0
parts_there m (f ∷ fs) (suc i) all = parts_there m fs i (and_parts (is_cumul_def m f) _ all).1

turned_parts : (m : Data) (minus : Bool) (is : List Part) → list_all (is_part m) is ≡ true → list_all (is_part m) (map (turned minus) is) ≡ true
turned_parts m minus [] all = refl
turned_parts m minus (i ∷ is) all = let parts = and_parts (is_part m i) _ all in and_from (is_part m i) _ parts.0 (turned_parts m minus is parts.1)

one_held : (m : Data) (a : List ℕ) (z : ℤ) → is_of_other_sort m Interval a ≡ false → is_negative z ≡ false → is_large z ≡ false → ((is_itv m (itv_of m a) && is_amount z) && true) ≡ true
one_held m a z right sign size = and_from _ true (and_from (is_itv m (itv_of m a)) (is_amount z) (right_itv m a right) (amount z sign size)) refl

plain_there : (m : Data) → list_all (is_cumul_def m) m.cumuls ≡ true → (p : Cpart) → some_in_cpart (is_of_other_sort m) p ≡ false → passes is_reversed (cpart_moments p) ≡ false → passes is_outside (cpart_moments p) ≡ false
    → passes is_negative (cpart_height p) ≡ false → passes is_large (cpart_height p) ≡ false → list_all (is_part m) (plain_parts m p) ≡ true
plain_there m all (Named n) right turned inside sign size = parts_there m m.cumuls (cum_of m n).0 all
plain_there m all (Pulse u v h) right turned inside sign size =
    and_from _ true (and_from (is_span_of_moments (int_of u) (int_of v)) (is_amount (int_of h)) (spans (int_of u) (int_of v) inside turned) (amount (int_of h) sign size)) refl
plain_there m all (PulseOf a h) right turned inside sign size = one_held m a (int_of h) right sign size
plain_there m all (Step u h) right turned inside sign size =
    and_from _ true (and_from (is_moment (int_of u)) (is_amount (int_of h)) (moment (int_of u) inside) (amount (int_of h) sign size)) refl
plain_there m all (StepAtStart a h) right turned inside sign size = one_held m a (int_of h) right sign size
plain_there m all (StepAtEnd a h) right turned inside sign size = one_held m a (int_of h) right sign size

signed_there : (m : Data) → list_all (is_cumul_def m) m.cumuls ≡ true → (ss : List Signed) → list_any (λ s. some_in_cpart (is_of_other_sort m) s.part) ss ≡ false
    → list_any (λ s. passes is_reversed (cpart_moments s.part)) ss ≡ false → list_any (λ s. passes is_outside (cpart_moments s.part)) ss ≡ false
    → list_any (λ s. passes is_negative (cpart_height s.part)) ss ≡ false → list_any (λ s. passes is_large (cpart_height s.part)) ss ≡ false
    → list_all (is_part m) (flat_map (parts_signed m) ss) ≡ true
signed_there m all [] right turned inside sign size = refl
signed_there m all (s ∷ ss) right turned inside sign size =
    let r = or_parts (some_in_cpart (is_of_other_sort m) s.part) _ right in
    let t = or_parts (passes is_reversed (cpart_moments s.part)) _ turned in
    let i = or_parts (passes is_outside (cpart_moments s.part)) _ inside in
    let g = or_parts (passes is_negative (cpart_height s.part)) _ sign in
    let z = or_parts (passes is_large (cpart_height s.part)) _ size in
    all_append (is_part m) (parts_signed m s) (flat_map (parts_signed m) ss) (turned_parts m s.minus (plain_parts m s.part) (plain_there m all s.part r.0 t.0 i.0 g.0 z.0)) (signed_there m all ss r.1 t.1 i.1 g.1 z.1)

pub parts_well_made : (m : Data) (c : Cumul) → list_all (is_cumul_def m) m.cumuls ≡ true → some_in_cumul (is_of_other_sort m) c ≡ false → some_moments is_reversed c ≡ false → some_moments is_outside c ≡ false
    → some_height is_negative c ≡ false → some_height is_large c ≡ false → list_all (is_part m) (parts_in m c) ≡ true
parts_well_made m c all right turned inside sign size = signed_there m all (signed_parts c) right turned inside sign size
