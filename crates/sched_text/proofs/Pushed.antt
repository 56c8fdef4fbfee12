-- The values of criteria behind bytes, one after another.
use Rattle.std.proofs.Common.{◌≡◌, ◌∙◌, ℕ, ◌+◌, ◌<◌, ◌≤◌, ℤ, pos, codes, slice_index_or, Bool, false, List, [], ◌++◌, length, map, drop, sym, ap, append_assoc, append-nil, subst, if◌then◌else◌}
use Rattle.std.specs.Fmt.{signed_decimal}
use Rattle.textline.specs.Lines.{Bytes}
use Rattle.sched_model.specs.Data.{Data}
use Rattle.sched_model.specs.Rank.{unranked_in}
use Rattle.sched_model.specs.Valid.{IsValid}
use Rattle.sched_model.specs.code.Ranks.{count_of}
use Rattle.sched_text.specs.Answers.{values_word}
use Rattle.sched_text.specs.laws.Values.{values_counted}
use Rattle.sched_text.proofs.Lists.{from_here, sign_before, item_next, index_is, none_past}

-- what is left of the values from here on, behind what stands there already
abbrev pub Ahead : Data → ℤ → ℕ → Bool → Bytes → Bytes → Type 0
Ahead m v i is_first old now = now ++ from_here is_first (codes ",") (map signed_decimal (drop i (unranked_in m v))) ≡ old ++ values_word m v

pub value_more : (m : Data) (v x : ℤ) (i : ℕ) (b : Bool) (old p q r : Bytes) → IsValid m → i < count_of m.objective → Ahead m v i b old p → q ≡ p ++ (if b then [] else codes ",") → x ≡ slice_index_or (unranked_in m v) i (pos 0) → r ≡ q ++ signed_decimal x → Ahead m v (i + 1) false old r
value_more m v x i b old p q r valid below ahead sign is item =
    let vs : List ℤ = unranked_in m v in
    let within : i < length vs = subst (λ n. i < n) (sym (values_counted m v valid)) below in
    let rest : Bytes = from_here false (codes ",") (map signed_decimal (drop (i + 1) vs)) in
    ap (λ t. t ++ rest) item
    ∙ ap (λ t. (t ++ signed_decimal x) ++ rest) sign
    ∙ append_assoc (p ++ sign_before b (codes ",")) (signed_decimal x) rest
    ∙ append_assoc p (sign_before b (codes ",")) (signed_decimal x ++ rest)
    ∙ ap (λ t. p ++ t) (sym (item_next signed_decimal (codes ",") vs i x (pos 0) b within (is ∙ index_is vs i (pos 0))))
    ∙ ahead

pub values_end : (m : Data) (v : ℤ) (i : ℕ) (b : Bool) (old p : Bytes) → IsValid m → count_of m.objective ≤ i → Ahead m v i b old p → p ≡ old ++ values_word m v
values_end m v i b old p valid past ahead =
    let vs : List ℤ = unranked_in m v in
    sym (append-nil p) ∙ ap (λ t. p ++ t) (sym (none_past signed_decimal (codes ",") vs i b (subst (λ n. n ≤ i) (sym (values_counted m v valid)) past))) ∙ ahead
