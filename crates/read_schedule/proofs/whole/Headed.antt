-- Bodies behind a header.
use Rattle.std.proofs.Common.{◌≡◌, inl, inr, ℕ, ◌+◌, ◌*◌, true, false, List, [], ◌∷◌, ◌++◌, codes, length, map, replicate, sym, ◌∙◌, ap, subst, refl, arith, append_assoc, append-nil, Some, None}
use Rattle.std.specs.Fmt.{decimal, signed_decimal}
use Rattle.std.proofs.lemmas.Bool.{and_from}
use Rattle.base_laws.specs.laws.Items.{all_append}
use Rattle.sched_model.specs.declared.types.IntervalDef.{IntervalDef}
use Rattle.sched_model.specs.declared.types.SequenceDef.{SequenceDef}
use Rattle.sched_model.specs.declared.types.StateDef.{StateDef}
use Rattle.sched_base.specs.declared.ids.Itv.{Itv}
use Rattle.sched_model.specs.declared.types.Segment.{Segment}
use Rattle.sched_model.specs.declared.types.Slot.{Slot}
use Rattle.sched_model.specs.declared.types.Slot.TheVariants.{Absent, Present}
use Rattle.sched_model.specs.declared.types.Assignment.{Assignment}
use Rattle.sched_model.specs.Data.{Data}
use Rattle.sched_model.specs.Value.{present_of}
use Rattle.sched_model.specs.Domain.{is_in_domain}
use Rattle.sched_model.specs.Valid.{IsValid}
use Rattle.textline.specs.Lines.{Bytes, line}
use Rattle.sched_text.specs.laws.Values.{numbers_first}
use Rattle.read_schedule.specs.Schedules.{AreNumbers, IsVerdict, IsCount, IsHeader, IsRefused, Spells, is_line, text}
use Rattle.read_schedule.specs.code.Rows.{rows, slot_row, order_row, state_row, body, end_row}
use Rattle.read_schedule.specs.code.Reads.{EachCanStand, StopsBody, Starts, TakesHeader, Unlike}
use Rattle.read_schedule.proofs.whole.Heads.{verdict_is_line}
use Rattle.read_schedule.proofs.given.Assignments.{domain_parts, some_domain}
use Rattle.read_schedule.proofs.spelling.Rows.{text_append}
use Rattle.read_schedule.proofs.whole.Body.{body_text}
use Rattle.read_schedule.proofs.whole.Refusing.{AllUnlike, header_lines, refuses}
use Rattle.sched_text.specs.laws.Answers.{second}

-- no line of a body has the form of a header's first

-- the first two bytes of the first word
abbrev tag : List Bytes → ℕ
tag [] = 0
tag ([] ∷ ws) = 0
tag ((a ∷ []) ∷ ws) = a
tag ((a ∷ b ∷ w) ∷ ws) = a * 256 + b

other_tag : (ws : List Bytes) → (tag ws ≡ 26213 → ⊥) → (tag ws ≡ 28528 → ⊥) → (tag ws ≡ 30062 → ⊥) → IsVerdict ws → ⊥
other_tag ws f o u (inl plain) = f (ap tag plain)
other_tag ws f o u (inr valued) = elim valued.2 [
  | inl best ↦ o (ap tag best)
  | inr found ↦ u (ap tag found)
]

no_absent_numbers : (w : Bytes) → AreNumbers 8 w → w ≡ codes "absent" → ⊥
no_absent_numbers w (vs, some, few, small, is) e = let first = numbers_first vs some small 97 (codes "bsent") (sym is ∙ e) in absurd (omega (arith, first))

slot_no_verdict : (d : IntervalDef) (slot : Slot) → IsVerdict (slot_row 0 d slot) → ⊥
slot_no_verdict d Absent (inl plain) = cc
slot_no_verdict d Absent (inr valued) = elim valued.2 [
  | inl best ↦ no_absent_numbers valued.0 valued.1 (sym (second d.name (codes "absent") (codes "optimal") valued.0 best))
  | inr found ↦ no_absent_numbers valued.0 valued.1 (sym (second d.name (codes "absent") (codes "unfinished") valued.0 found))
]
slot_no_verdict d (Present s e) (inl plain) = cc
slot_no_verdict d (Present s e) (inr valued) = elim valued.2 [
  | inl best ↦ three d.name (signed_decimal s) (signed_decimal e) (codes "optimal") valued.0 best
  | inr found ↦ three d.name (signed_decimal s) (signed_decimal e) (codes "unfinished") valued.0 found
]
  where
    three : (a b c x y : Bytes) → a ∷ b ∷ c ∷ [] ≡ x ∷ y ∷ [] → ⊥
    three a b c x y e = cc

first_is : (a b : List Bytes) (x y : List (List Bytes)) → a ∷ x ≡ b ∷ y → a ≡ b
first_is a b x y e = cc

behind_first : (a b : List Bytes) (x y : List (List Bytes)) → a ∷ x ≡ b ∷ y → x ≡ y
behind_first a b x y e = cc

-- lines none of which is one, in front of lines of which the first is none
none_first : {X Y : Type 0} (g : ℕ → X → Y → List Bytes) (k : ℕ) (xs : List X) (ys : List Y) (more us : List (List Bytes)) (v : List Bytes) → ((x : X) (y : Y) → IsVerdict (g k x y) → ⊥) → (more ≡ v ∷ us → ⊥) → IsVerdict v → rows g k xs ys ++ more ≡ v ∷ us → ⊥
none_first g k [] ys more us v none later verdict e = later e
none_first g k (x ∷ xs) [] more us v none later verdict e = later e
none_first g k (x ∷ xs) (y ∷ ys) more us v none later verdict e = none x y (subst IsVerdict (sym (first_is (g k x y) v _ us e)) verdict)

order_no_verdict : (m : Data) (d : SequenceDef) (xs : List Itv) → IsVerdict (order_row m 0 d xs) → ⊥
order_no_verdict m d xs verdict = other_tag (order_row m 0 d xs) (λ e. absurd (omega (arith, e))) (λ e. absurd (omega (arith, e))) (λ e. absurd (omega (arith, e))) verdict

state_no_verdict : (d : StateDef) (ss : List Segment) → IsVerdict (state_row 0 d ss) → ⊥
state_no_verdict d ss verdict = other_tag (state_row 0 d ss) (λ e. absurd (omega (arith, e))) (λ e. absurd (omega (arith, e))) (λ e. absurd (omega (arith, e))) verdict

end_no_verdict : IsVerdict end_row → ⊥
end_no_verdict verdict = other_tag end_row (λ e. absurd (omega (arith, e))) (λ e. absurd (omega (arith, e))) (λ e. absurd (omega (arith, e))) verdict

pub no_verdict : (m : Data) (a : Assignment) (v : List Bytes) (us : List (List Bytes)) → IsVerdict v → body m a ≡ v ∷ us → ⊥
no_verdict m a v us verdict e =
    none_first slot_row 0 m.intervals a.slots (rows (order_row m) 0 m.sequences a.orders ++ (rows state_row 0 m.states a.segs ++ end_row ∷ [])) us v slot_no_verdict
    (λ e1. none_first (order_row m) 0 m.sequences a.orders (rows state_row 0 m.states a.segs ++ end_row ∷ []) us v (order_no_verdict m)
    (λ e2. none_first state_row 0 m.states a.segs (end_row ∷ []) us v state_no_verdict
    (λ e3. end_no_verdict (subst IsVerdict (sym (first_is end_row v [] us e3)) verdict)) verdict e2) verdict e1) verdict e

-- an assignment in the domain, where each interval has a slot
pub some_one : (m : Data) → IsValid m → EachCanStand m.intervals true → (a : Assignment) × (is_in_domain m a ≡ true)
some_one m valid some =
    let bare : Assignment = record { slots = some.0; orders = []; segs = [] } in
    let orders = map (λ d. present_of bare d.members) m.sequences in
    let segs : List (List Segment) = replicate (length m.states) [] in
    (record { slots = some.0; orders = orders; segs = segs }, (some_domain m some.0 bare orders segs (length m.states) valid some.1 refl refl refl refl).domain)

-- where no interval has one, every text is refused at line 1
pub none_stands : (m : Data) → IsValid m → (bytes : Bytes) → EachCanStand m.intervals false → IsRefused m bytes 1
none_stands m valid bytes none = refuses m valid bytes [] bytes 1 refl refl refl (inl refl) (λ h a us heads domain e. absurd (none a.slots (domain_parts m a domain).0))

-- half a header

half_unlike : (m : Data) (v : List Bytes) (rest : Bytes) → IsVerdict v → ((c : List Bytes) → IsCount c → Starts c rest → ⊥) → AllUnlike m (v ∷ []) rest
half_unlike m v rest verdict none [] a us heads domain e = absurd (no_verdict m a v us verdict e)
half_unlike m v rest verdict none (w ∷ []) a us heads domain e = absurd heads
half_unlike m v rest verdict none (w ∷ n ∷ []) a us heads domain e =
    subst (λ ls. Unlike ls rest) (behind_first w v (n ∷ body m a) us e) (none n heads.1)
half_unlike m v rest verdict none (w ∷ n ∷ x ∷ xs) a us heads domain e = absurd heads

pub half_refused : (m : Data) → IsValid m → (bytes new : Bytes) → EachCanStand m.intervals true → TakesHeader bytes new None → IsRefused m bytes 2
half_refused m valid bytes new some half =
    let v = half.0 in
    let rest = half.2 in
    let one = some_one m valid some in
    let zero_nodes : List Bytes = codes "nodes" ∷ decimal 0 ∷ [] in
    refuses m valid bytes (v ∷ []) rest 2 (and_from (is_line v) true (verdict_is_line v half.1) refl) (half.3 ∙ ap (λ t. t ++ rest) (sym (append-nil (line v)))) refl
    (inr (v ∷ zero_nodes ∷ [], one.0, zero_nodes ∷ body m one.0, (half.1, (0, omega arith, refl)), one.1, refl))
    (half_unlike m v rest half.1 half.4)

-- a body behind a header or none

whole_unlike : (m : Data) (h : List (List Bytes)) (bytes rest0 : Bytes) (n : ℕ) (b : StopsBody m rest0 n) → IsHeader h → bytes ≡ text h ++ rest0 → (length h ≡ 0 → (v : List Bytes) → IsVerdict v → Starts v bytes → ⊥) → AllUnlike m (h ++ b.front) b.rest
whole_unlike m [] bytes rest0 n b heads whole none [] a us heads' domain e = b.unlike a us domain e
whole_unlike m [] bytes rest0 n b heads whole none (w ∷ []) a us heads' domain e = absurd heads'
whole_unlike m [] bytes rest0 n b heads whole none (w ∷ k ∷ []) a us heads' domain e = by b.front refl
  where
    by : (front : List (List Bytes)) → b.front ≡ front → Unlike us b.rest
    by [] is =
        let us_is : us ≡ w ∷ k ∷ body m a = sym (e ∙ ap (λ f. f ++ us) is) in
        subst (λ ls. Unlike ls b.rest) (sym us_is) (λ starts. none refl w heads'.0 (starts.0, whole ∙ b.same ∙ ap (λ f. text f ++ b.rest) is ∙ starts.1))
    by (f ∷ fs) is =
        let same : w ≡ f = first_is w f (k ∷ body m a) (fs ++ us) (e ∙ ap (λ ls. ls ++ us) is) in
        absurd (none refl w heads'.0 (text fs ++ b.rest, whole ∙ b.same ∙ ap (λ ls. text ls ++ b.rest) is ∙ append_assoc (line f) (text fs) b.rest ∙ ap (λ l. line l ++ (text fs ++ b.rest)) (sym same)))
whole_unlike m [] bytes rest0 n b heads whole none (w ∷ k ∷ x ∷ xs) a us heads' domain e = absurd heads'
whole_unlike m (v ∷ []) bytes rest0 n b heads whole none h' a us heads' domain e = absurd heads
whole_unlike m (v ∷ c ∷ []) bytes rest0 n b heads whole none [] a us heads' domain e = absurd (no_verdict m a v (c ∷ (b.front ++ us)) heads.0 e)
whole_unlike m (v ∷ c ∷ []) bytes rest0 n b heads whole none (w ∷ []) a us heads' domain e = absurd heads'
whole_unlike m (v ∷ c ∷ []) bytes rest0 n b heads whole none (w ∷ k ∷ []) a us heads' domain e =
    b.unlike a us domain (behind_first k c (body m a) (b.front ++ us) (behind_first w v (k ∷ body m a) (c ∷ (b.front ++ us)) e))
whole_unlike m (v ∷ c ∷ []) bytes rest0 n b heads whole none (w ∷ k ∷ x ∷ xs) a us heads' domain e = absurd heads'
whole_unlike m (v ∷ c ∷ x ∷ xs) bytes rest0 n b heads whole none h' a us heads' domain e = absurd heads

length_two : (xs ys : List (List Bytes)) → length (xs ++ ys) ≡ length xs + length ys
length_two [] ys = omega arith
length_two (x ∷ xs) ys = omega (arith, length_two xs ys)

pub body_refused : (m : Data) → IsValid m → (bytes new : Bytes) (j n k : ℕ) → TakesHeader bytes new (Some j) → StopsBody m new n → k ≡ j + n + 1 → IsRefused m bytes k
body_refused m valid bytes new j n k head b count =
    let h = head.0 in
    refuses m valid bytes (h ++ b.front) b.rest k (all_append is_line h b.front (header_lines h head.1) b.each)
    (head.3 ∙ ap (λ t. text h ++ t) b.same ∙ sym (append_assoc (text h) (text b.front) b.rest) ∙ ap (λ t. t ++ b.rest) (sym (text_append h b.front)))
    (omega (arith, count, length_two h b.front, head.2, b.count))
    (inr (h, b.schedule, b.after, head.1, b.domain, ap (λ ls. h ++ ls) b.goes ∙ sym (append_assoc h b.front b.after)))
    (whole_unlike m h bytes new n b head.1 head.3 (λ none. head.4 (sym head.2 ∙ none)))

pub body_spelled : (m : Data) (bytes new : Bytes) (j : ℕ) (a : Assignment) → TakesHeader bytes new (Some j) → is_in_domain m a ≡ true → new ≡ text (body m a) → Spells m bytes a
body_spelled m bytes new j a head domain same = record {
  header = head.0;
  heads = head.1;
  domain = domain;
  whole = head.3 ∙ ap (λ t. text head.0 ++ t) (same ∙ body_text m a);
}
