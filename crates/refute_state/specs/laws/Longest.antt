-- What the canonical segments of a state function are: the longest that agree with all that is asked of it.
use Rattle.std.specs.Prelude.{◌≡◌, ℕ, ℤ, neg_ℤ, ◌≤ℤ◌, ◌<ℤ◌, ◌<◌, true, List, [], ◌∷◌, IsTrue, length, refl, slice_index_or, if◌then◌else◌, Bool, false}
use Rattle.std.proofs.Common.{arith, inl, inr, sym, subst, ap, ◌∙◌, get_or}
use Rattle.std.proofs.lemmas.Int.{ints}
use Rattle.sched_base.specs.declared.ids.Stf.{Stf}
use Rattle.sched_model.specs.declared.types.Segment.{Segment}
use Rattle.sched_model.specs.declared.types.Assignment.{Assignment}
use Rattle.sched_model.specs.Data.{Data, horizon}
use Rattle.sched_model.specs.Valid.{IsValid}
use Rattle.sched_model.specs.Domain.{is_in_domain}
use Rattle.sched_model.specs.laws.Same.{same_segment}
use Rattle.refute_state.specs.declared.stretch.Stretch.{Stretch}
use Rattle.refute_state.specs.code.Groups.{meets, are_joined, segment_of, extended, runs_from, runs, groups_of, canonical_of}
use Rattle.refute_state.specs.code.Canonical.{stretch_of, canonical, canonical_for}
use Rattle.refute_state.specs.laws.Lists.{Each, Some, Pairs, compared, each_map, some_map, each_both, some_each, some_one, each_swap}
use Rattle.refute_state.specs.laws.Facts.{Proper, Lies, Keeps, Fits, Clear, Serves, Row}
use Rattle.refute_state.specs.laws.Grouping.{Groups, all_groups}
use Rattle.refute_state.specs.laws.Running.{Covers, IsDistance, Served, one_segment, groups_served}
use Rattle.refute_state.specs.laws.Making.{Made, are_groups}
use Rattle.refute_state.specs.laws.Serving.{meets_parts, meets_not, AllClear, Joined, joined_is, Broken, broken_is, Fine, World, IsFar, IsRun, first_run, next_run, StartsWith, Begins, begins_all, parted_far, canonical_serves}
use Rattle.refute_state.specs.laws.Settled.{In, in_some, in_each, each_in}
use Rattle.refute_state.specs.laws.Canonical.{pairs_map, each_given, proper_from, demands_of, gaps_of, IsGood, Far, far_low, no_def, serves_each, StatesHold, canonical_at}

-- a demand that shares a moment with the segment lies in it
abbrev pub Agrees : Segment → Stretch → Type 0
Agrees s d = d.start <ℤ s.q → s.p <ℤ d.end → Lies d s

-- a segment from the start of a demand to the end of one that agrees with all demands and has no moment where no state is wanted
pub record Suits (ds : List Stretch) (ns : List (ℤ × ℤ)) (s : Segment) : Type 0 where
  pub some : s.p <ℤ s.q
  pub begins : Some (λ d. d.start ≡ s.p) ds
  pub finishes : Some (λ d. d.end ≡ s.q) ds
  pub agrees : Each (Agrees s) ds
  pub clear : Each (λ n. Clear n s) ns

-- and no longer one has it in it
pub record IsLongest (ds : List Stretch) (ns : List (ℤ × ℤ)) (s : Segment) : Type 0 where
  pub suits : Suits ds ns s
  pub longest : (t : Segment) → Suits ds ns t → t.p ≤ℤ s.p → s.q ≤ℤ t.q → t ≡ s

-- all of them, in the order of time
pub record AreLongest (ds : List Stretch) (ns : List (ℤ × ℤ)) (ss : List Segment) : Type 0 where
  pub each : Each (IsLongest ds ns) ss
  pub all : (s : Segment) → IsLongest ds ns s → In ss s
  pub order : Pairs (λ s t. s.q ≤ℤ t.p) ss

-- each segment made ends with a group
pub ends_all : (ns : List (ℤ × ℤ)) (now : Segment) (last : Stretch) (rest : List Stretch) → IsRun now last → Pairs Row (last ∷ rest) → Each Proper (last ∷ rest) → Each (λ c. Some (λ g. c.q ≡ g.end) (last ∷ rest)) (runs_from ns now last rest)
ends_all ns now last [] run rows proper = (inl run.end, tt)
ends_all ns now last (j ∷ js) run rows proper = decided (are_joined ns last j) refl
    (λ joined. ends_all ns (extended now j) j js (next_run ns now last j run joined rows.0.0 proper.0 proper.1.0) rows.1 proper.1)
    (ends_all ns (segment_of j) j js (first_run j) rows.1 proper.1)
  where
    later : (cs : List Segment) → Each (λ c. Some (λ g. c.q ≡ g.end) (j ∷ js)) cs → Each (λ c. Some (λ g. c.q ≡ g.end) (last ∷ j ∷ js)) cs
    later cs h = each_map (λ c. Some (λ g. c.q ≡ g.end) (j ∷ js)) (λ c. Some (λ g. c.q ≡ g.end) (last ∷ j ∷ js)) cs (λ c k. inr k) h

    decided : (b : Bool) → are_joined ns last j ≡ b → (Joined ns last j → Each (λ c. Some (λ g. c.q ≡ g.end) (j ∷ js)) (runs_from ns (extended now j) j js)) → Each (λ c. Some (λ g. c.q ≡ g.end) (j ∷ js)) (runs_from ns (segment_of j) j js)
        → Each (λ c. Some (λ g. c.q ≡ g.end) (last ∷ j ∷ js)) (if b then runs_from ns (extended now j) j js else now ∷ runs_from ns (segment_of j) j js)
    decided true is on off = later _ (on (joined_is ns last j is))
    decided false is on off = (inl run.end, later _ off)

-- behind each segment stands a break: its last group, and the next one, which starts no later than any later segment
pub record Break (ns : List (ℤ × ℤ)) (P : Stretch → Type 0) (s t : Segment) : Type 0 where
  pub i : Stretch
  pub j : Stretch
  pub end : s.q ≡ i.end
  pub far : i.end ≤ℤ j.start
  pub start : j.start ≤ℤ t.p
  pub broken : Broken ns i j
  pub one : P i
  pub other : P j

pub breaks : (D : ℤ → ℤ → ℤ) (ns : List (ℤ × ℤ)) (P : Stretch → Type 0) (now : Segment) (last : Stretch) (rest : List Stretch) → IsDistance D → IsFar D ns P → IsRun now last → Pairs Row (last ∷ rest) → Each Proper (last ∷ rest) → Each P (last ∷ rest)
    → Pairs (Break ns P) (runs_from ns now last rest)
breaks D ns P now last [] low far_off run rows proper fine = (tt, tt)
breaks D ns P now last (j ∷ js) low far_off run rows proper fine = decided (are_joined ns last j) refl
    (λ joined. breaks D ns P (extended now j) j js low far_off (next_run ns now last j run joined rows.0.0 proper.0 proper.1.0) rows.1 proper.1 fine.1)
    (breaks D ns P (segment_of j) j js low far_off (first_run j) rows.1 proper.1 fine.1)
  where
    there : are_joined ns last j ≡ false → (c : Segment) → j.start ≤ℤ c.p → Break ns P now c
    there is c from =
        let h = far_off last j j (broken_is ns last j is) rows.0.0 (omega (arith, ints)) fine.0 fine.1.0 fine.1.0 in
        record { i = last; j = j; end = run.end; far = omega (arith, ints, h, low last.state j.state); start = from; broken = broken_is ns last j is; one = fine.0; other = fine.1.0 }

    begun : are_joined ns last j ≡ false → (c : Segment) → Begins (segment_of j) js c → Break ns P now c
    begun is c h = elim h [
      | inl a ↦ let e = a.0 in there is c (omega (arith, ints, e))
      | inr b ↦ let k = some_one (λ k. StartsWith c k × Row j k) js (some_each (StartsWith c) (Row j) js b rows.1.0) in
          let e = k.1.0.0 in let r = k.1.1.start in there is c (omega (arith, ints, e, r))
    ]

    decided : (b : Bool) → are_joined ns last j ≡ b → (Joined ns last j → Pairs (Break ns P) (runs_from ns (extended now j) j js)) → Pairs (Break ns P) (runs_from ns (segment_of j) j js)
        → Pairs (Break ns P) (if b then runs_from ns (extended now j) j js else now ∷ runs_from ns (segment_of j) j js)
    decided true is on off = on (joined_is ns last j is)
    decided false is on off = (each_map (Begins (segment_of j) js) (Break ns P now) (runs_from ns (segment_of j) j js) (λ c h. begun is c h) (begins_all ns (segment_of j) j js), off)

-- a group of which segments of the function and demands are known
abbrev pub Known : List Stretch → List Segment → Stretch → Type 0
Known ds ss g = Fine ss g × Made ds g

-- the demand of a group that is aligned at the group's end ends with it, and the one at its start starts with it
aligned_end : (D : ℤ → ℤ → ℤ) (ss : List Segment) (d g : Stretch) → IsDistance D → Pairs (Keeps D) ss → Proper d → Served ss d → Served ss g → Covers d g → d.ends ≡ true → d.end ≡ g.end
aligned_end D ss d g low keeps proper one other covers is =
    let s = some_one (λ s. Lies d s × Lies g s) ss (one_segment D ss d g low keeps (omega (arith, ints, covers.high, proper.some)) (omega (arith, ints, covers.low, proper.some)) one other) in
    let e = s.1.0.ends is in omega (arith, ints, e, s.1.1.high, covers.high)

aligned_start : (D : ℤ → ℤ → ℤ) (ss : List Segment) (d g : Stretch) → IsDistance D → Pairs (Keeps D) ss → Proper d → Served ss d → Served ss g → Covers d g → d.starts ≡ true → d.start ≡ g.start
aligned_start D ss d g low keeps proper one other covers is =
    let s = some_one (λ s. Lies d s × Lies g s) ss (one_segment D ss d g low keeps (omega (arith, ints, covers.high, proper.some)) (omega (arith, ints, covers.low, proper.some)) one other) in
    let e = s.1.0.starts is in omega (arith, ints, e, s.1.1.low, covers.low)

-- a segment that suits doesn't reach over a break
no_break : (D : ℤ → ℤ → ℤ) (ds : List Stretch) (ns : List (ℤ × ℤ)) (ss : List Segment) (i j : Stretch) (t : Segment) → IsDistance D → Pairs (Keeps D) ss → Each Proper ds → Each (Served ss) ds
    → Known ds ss i → Known ds ss j → Broken ns i j → i.end ≤ℤ j.start → t.p <ℤ i.end → j.start <ℤ t.q → Suits ds ns t → ⊥
no_break D ds ns ss i j t low keeps proper served one other broken far from to suits =
    let fine : Each (λ d. (Proper d × Served ss d) × Agrees t d) ds = each_both (λ d. Proper d × Served ss d) (Agrees t) ds (each_both Proper (Served ss) ds proper served) suits.agrees in
    let d = some_one (λ d. (Covers d i × (d.end ≡ i.end)) × ((Proper d × Served ss d) × Agrees t d)) ds (some_each (λ d. Covers d i × (d.end ≡ i.end)) (λ d. (Proper d × Served ss d) × Agrees t d) ds one.1.end fine) in
    let e = some_one (λ d. (Covers d j × (d.start ≡ j.start)) × ((Proper d × Served ss d) × Agrees t d)) ds (some_each (λ d. Covers d j × (d.start ≡ j.start)) (λ d. (Proper d × Served ss d) × Agrees t d) ds other.1.start fine) in
    let last : d.0.end ≡ i.end = d.1.0.1 in
    let first : e.0.start ≡ j.start = e.1.0.1 in
    let d_lies = d.1.1.1 (omega (arith, ints, last, d.1.1.0.0.some, far, to)) (omega (arith, ints, last, from)) in
    let e_lies = e.1.1.1 (omega (arith, ints, first, to)) (omega (arith, ints, first, e.1.1.0.0.some, far, from)) in
    elim (broken (sym d.1.0.0.state ∙ sym d_lies.state ∙ e_lies.state ∙ e.1.0.0.state)) [
      | inl ends ↦
          let x = some_one (λ d. (Covers d i × (d.ends ≡ true)) × ((Proper d × Served ss d) × Agrees t d)) ds (some_each (λ d. Covers d i × (d.ends ≡ true)) (λ d. (Proper d × Served ss d) × Agrees t d) ds (one.1.ends ends) fine) in
          let at : x.0.end ≡ i.end = aligned_end D ss x.0 i low keeps x.1.1.0.0 x.1.1.0.1 one.0.1 x.1.0.0 x.1.0.1 in
          let x_lies = x.1.1.1 (omega (arith, ints, at, x.1.1.0.0.some, far, to)) (omega (arith, ints, at, from)) in
          let q = x_lies.ends x.1.0.1 in omega (arith, ints, q, at, far, to)
      | inr (inl starts) ↦
          let x = some_one (λ d. (Covers d j × (d.starts ≡ true)) × ((Proper d × Served ss d) × Agrees t d)) ds (some_each (λ d. Covers d j × (d.starts ≡ true)) (λ d. (Proper d × Served ss d) × Agrees t d) ds (other.1.starts starts) fine) in
          let at : x.0.start ≡ j.start = aligned_start D ss x.0 j low keeps x.1.1.0.0 x.1.1.0.1 other.0.1 x.1.0.0 x.1.0.1 in
          let x_lies = x.1.1.1 (omega (arith, ints, at, to)) (omega (arith, ints, at, x.1.1.0.0.some, far, from)) in
          let q = x_lies.starts x.1.0.1 in omega (arith, ints, q, at, far, from)
      | inr (inr gap) ↦
          let n = some_one (λ n. (meets i.end j.start n.0 n.1 ≡ true) × Clear n t) ns (some_each (λ n. meets i.end j.start n.0 n.1 ≡ true) (λ n. Clear n t) ns gap suits.clear) in
          let h = meets_parts i.end j.start n.0.0 n.0.1 n.1.0 in
          meets_not n.0.0 n.0.1 t.p t.q n.1.1 h.1 suits.some (omega (arith, ints, h.3, to)) (omega (arith, ints, h.2, from))
    ]

-- what is known of the segments made: they serve, begin and end with demands, and are broken
pub record AreMade (D : ℤ → ℤ → ℤ) (ds : List Stretch) (ns : List (ℤ × ℤ)) (ss cs : List Segment) : Type 0 where
  pub low : IsDistance D
  pub keeps : Pairs (Keeps D) ss
  pub proper : Each Proper ds
  pub served : Each (Served ss) ds
  pub some : Each (λ c. c.p <ℤ c.q) cs
  pub begins : Each (λ c. Some (λ d. d.start ≡ c.p) ds) cs
  pub finishes : Each (λ c. Some (λ d. d.end ≡ c.q) ds) cs
  pub lies : Each (λ d. Some (Lies d) cs) ds
  pub clear : Each (AllClear ns) cs
  pub broken : Pairs (Break ns (Known ds ss)) cs

abbrev pub Spans : Segment → Segment → Type 0
Spans t s = (s.p ≤ℤ t.p) × (t.q ≤ℤ s.q)

-- each segment that suits lies in one that was made
spanned : (D : ℤ → ℤ → ℤ) (ds : List Stretch) (ns : List (ℤ × ℤ)) (ss cs : List Segment) (t : Segment) → AreMade D ds ns ss cs → Suits ds ns t → Some (Spans t) cs
spanned D ds ns ss cs t made suits =
    let d = some_one (λ d. (d.start ≡ t.p) × (Proper d × Some (Lies d) cs)) ds (some_each (λ d. d.start ≡ t.p) (λ d. Proper d × Some (Lies d) cs) ds suits.begins (each_both Proper (λ d. Some (Lies d) cs) ds made.proper made.lies)) in
    let e = some_one (λ d. (d.end ≡ t.q) × (Proper d × Some (Lies d) cs)) ds (some_each (λ d. d.end ≡ t.q) (λ d. Proper d × Some (Lies d) cs) ds suits.finishes (each_both Proper (λ d. Some (Lies d) cs) ds made.proper made.lies)) in
    let p : d.0.start ≡ t.p = d.1.0 in
    let q : e.0.end ≡ t.q = e.1.0 in
    elim (compared (Lies d.0) (Lies e.0) (Break ns (Known ds ss)) cs made.broken d.1.1.1 e.1.1.1) [
      | inl same ↦ some_map (λ s. Lies d.0 s × Lies e.0 s) (Spans t) cs (λ s h. (omega (arith, ints, h.0.low, p), omega (arith, ints, h.1.high, q))) same
      | inr (inl (s, u, a, b, r)) ↦ let at = r.end in absurd (no_break D ds ns ss r.i r.j t made.low made.keeps made.proper made.served r.one r.other r.broken r.far
          (omega (arith, ints, a.high, at, p, d.1.1.0.some)) (omega (arith, ints, r.start, b.low, q, e.1.1.0.some)) suits)
      | inr (inr (s, u, a, b, r)) ↦ let at = r.end in absurd (omega (arith, ints, at, r.far, r.start, a.low, b.high, p, q, suits.some))
    ]

-- each segment made suits
suited : (D : ℤ → ℤ → ℤ) (ds : List Stretch) (ns : List (ℤ × ℤ)) (ss cs : List Segment) (c : Segment) → AreMade D ds ns ss cs → In cs c → Suits ds ns c
suited D ds ns ss cs c made here = record {
  some = each_in (λ c. c.p <ℤ c.q) cs c made.some here;
  begins = each_in (λ c. Some (λ d. d.start ≡ c.p) ds) cs c made.begins here;
  finishes = each_in (λ c. Some (λ d. d.end ≡ c.q) ds) cs c made.finishes here;
  agrees = each_map (λ d. Some (Lies d) cs) (Agrees c) ds (λ d lies to from. elim (compared (Lies d) (λ x. x ≡ c) (Break ns (Known ds ss)) cs made.broken lies here) [
    | inl same ↦ let x = some_one (λ s. Lies d s × (s ≡ c)) cs same in subst (Lies d) x.1.1 x.1.0
    | inr (inl (s, u, a, b, r)) ↦ let at = r.end in let p : u.p ≡ c.p = ap (λ x. x.p) b in absurd (omega (arith, ints, at, r.far, r.start, a.high, from, p))
    | inr (inr (s, u, a, b, r)) ↦ let at = r.end in let q : u.q ≡ c.q = ap (λ x. x.q) b in absurd (omega (arith, ints, at, r.far, r.start, a.low, to, q))
  ]) made.lies;
  clear = each_in (AllClear ns) cs c made.clear here;
}

-- one with the same ends has the same state, that of the demand with which both begin
same_ends : (ds : List Stretch) (ns : List (ℤ × ℤ)) (s t : Segment) → Each Proper ds → Suits ds ns s → Suits ds ns t → t.p ≡ s.p → t.q ≡ s.q → t ≡ s
same_ends ds ns s t proper one other p q =
    let d = some_one (λ d. (d.start ≡ s.p) × (Proper d × (Agrees s d × Agrees t d))) ds (some_each (λ d. d.start ≡ s.p) (λ d. Proper d × (Agrees s d × Agrees t d)) ds one.begins (each_both Proper (λ d. Agrees s d × Agrees t d) ds proper (each_both (Agrees s) (Agrees t) ds one.agrees other.agrees))) in
    let at : d.0.start ≡ s.p = d.1.0 in
    let a = d.1.1.1.0 (omega (arith, ints, at, one.some)) (omega (arith, ints, at, d.1.1.0.some)) in
    let b = d.1.1.1.1 (omega (arith, ints, at, p, other.some)) (omega (arith, ints, at, p, d.1.1.0.some)) in
    same_segment t s p q (b.state ∙ sym a.state)

-- the segments made are the longest
made_longest : (D : ℤ → ℤ → ℤ) (ds : List Stretch) (ns : List (ℤ × ℤ)) (ss cs : List Segment) (c : Segment) → AreMade D ds ns ss cs → In cs c → IsLongest ds ns c
made_longest D ds ns ss cs c made here = record {
  suits = suited D ds ns ss cs c made here;
  longest = λ t suits p q. let own = suited D ds ns ss cs c made here in
      elim (compared (Spans t) (λ x. x ≡ c) (Break ns (Known ds ss)) cs made.broken (spanned D ds ns ss cs t made suits) here) [
        | inl same ↦ let x = some_one (λ s. Spans t s × (s ≡ c)) cs same in let h = subst (Spans t) x.1.1 x.1.0 in
            same_ends ds ns c t made.proper own suits (omega (arith, ints, p, h.0)) (omega (arith, ints, q, h.1))
        | inr (inl (s, u, a, b, r)) ↦ let at = r.end in let e : u.p ≡ c.p = ap (λ x. x.p) b in absurd (omega (arith, ints, at, r.far, r.start, a.1, q, e, own.some))
        | inr (inr (s, u, a, b, r)) ↦ let at = r.end in let e : u.q ≡ c.q = ap (λ x. x.q) b in absurd (omega (arith, ints, at, r.far, r.start, a.0, p, e, own.some))
      ];
}

pub are_longest : (D : ℤ → ℤ → ℤ) (ds : List Stretch) (ns : List (ℤ × ℤ)) (ss cs : List Segment) → AreMade D ds ns ss cs → AreLongest ds ns cs
are_longest D ds ns ss cs made = record {
  each = in_each (IsLongest ds ns) cs (λ c here. made_longest D ds ns ss cs c made here);
  all = λ s longest. let x = in_some (Spans s) cs (spanned D ds ns ss cs s made longest.suits) in
      subst (In cs) (longest.longest x.0 (suited D ds ns ss cs x.0 made x.1) x.2.0 x.2.1) x.1;
  order = pairs_map (Break ns (Known ds ss)) (λ s t. s.q ≤ℤ t.p) cs (λ s t r. let at = r.end in omega (arith, ints, at, r.far, r.start)) made.broken;
}

-- lists of the same segments in the order of time are one
pub record IsRowOf (P : Segment → Type 0) (ss : List Segment) : Type 0 where
  pub some : Each (λ s. s.p <ℤ s.q) ss
  pub order : Pairs (λ s t. s.q ≤ℤ t.p) ss
  pub each : (s : Segment) → In ss s → P s
  pub all : (s : Segment) → P s → In ss s

not_later : (s : Segment) (ss : List Segment) → s.p <ℤ s.q → Each (λ t. s.q ≤ℤ t.p) ss → (u : Segment) → u.p ≤ℤ s.p → In ss u → ⊥
not_later s ss some order u at here = let h = each_in (λ t. s.q ≤ℤ t.p) ss u order here in omega (arith, ints, some, h, at)

one_row : (ss ts : List Segment) → Each (λ s. s.p <ℤ s.q) ss → Each (λ s. s.p <ℤ s.q) ts → Pairs (λ s t. s.q ≤ℤ t.p) ss → Pairs (λ s t. s.q ≤ℤ t.p) ts → ((s : Segment) → In ss s → In ts s) → ((s : Segment) → In ts s → In ss s) → ss ≡ ts
one_row [] [] a b c d f g = refl
one_row [] (t ∷ ts) a b c d f g = absurd (g t (inl refl))
one_row (s ∷ ss) [] a b c d f g = absurd (f s (inl refl))
one_row (s ∷ ss) (t ∷ ts) a b c d f g =
    let same : s ≡ t = elim (f s (inl refl)) [
      | inl e ↦ sym e
      | inr later ↦ elim (g t (inl refl)) [
        | inl e ↦ e
        | inr other ↦ let h = each_in (λ u. t.q ≤ℤ u.p) ts s d.0 later in absurd (not_later s ss a.0 c.0 t (omega (arith, ints, h, b.0)) other)
      ]
    ] in
    let p : s.p ≡ t.p = ap (λ x. x.p) same in
    let rest : ss ≡ ts = one_row ss ts a.1 b.1 c.1 d.1
    (λ u here. elim (f u (inr here)) [
      | inl e ↦ let r : t.p ≡ u.p = ap (λ x. x.p) e in absurd (not_later s ss a.0 c.0 u (omega (arith, ints, p, r)) here)
      | inr later ↦ later
    ])
    (λ u here. elim (g u (inr here)) [
      | inl e ↦ let r : s.p ≡ u.p = ap (λ x. x.p) e in absurd (not_later t ts b.0 d.0 u (omega (arith, ints, p, r)) here)
      | inr later ↦ later
    ]) in
    subst (λ x. s ∷ ss ≡ x ∷ ts) same (ap (λ xs. s ∷ xs) rest)

pub longest_are_one : (ds : List Stretch) (ns : List (ℤ × ℤ)) (ss ts : List Segment) → AreLongest ds ns ss → AreLongest ds ns ts → ss ≡ ts
longest_are_one ds ns ss ts one other = one_row ss ts
    (each_map (IsLongest ds ns) (λ s. s.p <ℤ s.q) ss (λ s h. h.suits.some) one.each)
    (each_map (IsLongest ds ns) (λ s. s.p <ℤ s.q) ts (λ s h. h.suits.some) other.each)
    one.order other.order
    (λ s here. other.all s (each_in (IsLongest ds ns) ss s one.each here))
    (λ s here. one.all s (each_in (IsLongest ds ns) ts s other.each here))

-- the runs of groups are what was made
runs_made : (lo hi : ℤ) (ok : ℤ → Bool) (D : ℤ → ℤ → ℤ) (ds gs : List Stretch) (ns : List (ℤ × ℤ)) (ss : List Segment) → IsDistance D → Each Proper ds → Groups gs → Each (Served ss) gs → Each (Made ds) gs → Serves lo hi ok D ds ns ss
    → Serves lo hi ok D ds ns (runs ns gs) → AreMade D ds ns ss (runs ns gs)
runs_made lo hi ok D ds gs ns ss low proper groups served made serves own = record {
  low = low;
  keeps = serves.order;
  proper = proper;
  served = serves.demands;
  some = each_map (Fits lo hi ok) (λ c. c.p <ℤ c.q) (runs ns gs) (λ c h. h.some) own.fits;
  begins = begun gs made;
  finishes = finished gs groups made;
  lies = own.demands;
  clear = each_swap Clear ns (runs ns gs) own.gaps;
  broken = broken gs groups served made;
}
  where
    begun : (gs : List Stretch) → Each (Made ds) gs → Each (λ c. Some (λ d. d.start ≡ c.p) ds) (runs ns gs)
    begun [] made = tt
    begun (g ∷ gs) made = each_map (Begins (segment_of g) gs) (λ c. Some (λ d. d.start ≡ c.p) ds) (runs ns (g ∷ gs)) (λ c h. elim h [
      | inl a ↦ some_map (λ d. Covers d g × (d.start ≡ g.start)) (λ d. d.start ≡ c.p) ds (λ d k. k.1 ∙ sym a.0) made.0.start
      | inr b ↦ let k = some_one (λ k. StartsWith c k × Made ds k) gs (some_each (StartsWith c) (Made ds) gs b made.1) in
          some_map (λ d. Covers d k.0 × (d.start ≡ k.0.start)) (λ d. d.start ≡ c.p) ds (λ d x. x.1 ∙ sym k.1.0.0) k.1.1.start
    ]) (begins_all ns (segment_of g) g gs)

    finished : (gs : List Stretch) → Groups gs → Each (Made ds) gs → Each (λ c. Some (λ d. d.end ≡ c.q) ds) (runs ns gs)
    finished [] groups made = tt
    finished (g ∷ gs) groups made = each_map (λ c. Some (λ k. c.q ≡ k.end) (g ∷ gs)) (λ c. Some (λ d. d.end ≡ c.q) ds) (runs ns (g ∷ gs))
        (λ c h. let k = some_one (λ k. (c.q ≡ k.end) × Made ds k) (g ∷ gs) (some_each (λ k. c.q ≡ k.end) (Made ds) (g ∷ gs) h made) in
        some_map (λ d. Covers d k.0 × (d.end ≡ k.0.end)) (λ d. d.end ≡ c.q) ds (λ d x. x.1 ∙ sym k.1.0) k.1.1.end)
        (ends_all ns (segment_of g) g gs (first_run g) groups.rows groups.proper)

    broken : (gs : List Stretch) → Groups gs → Each (Served ss) gs → Each (Made ds) gs → Pairs (Break ns (Known ds ss)) (runs ns gs)
    broken [] groups served made = tt
    broken (g ∷ gs) groups served made =
        let world : World D ns ss = record { low = low; keeps = serves.order; clear = each_swap Clear ns ss serves.gaps } in
        breaks D ns (Known ds ss) (segment_of g) g gs low (λ i j k broken row later a b c. parted_far D ns ss world i j k broken row later a.0 b.0 c.0) (first_run g) groups.rows groups.proper
        (each_both (Fine ss) (Made ds) (g ∷ gs) (each_both Proper (Served ss) (g ∷ gs) groups.proper served) made)

pub canonical_longest : (lo hi : ℤ) (ok : ℤ → Bool) (D : ℤ → ℤ → ℤ) (ds : List Stretch) (ns : List (ℤ × ℤ)) (ss : List Segment) → IsDistance D → Each Proper ds → Serves lo hi ok D ds ns ss → AreLongest ds ns (canonical_of ds ns)
canonical_longest lo hi ok D ds ns ss low proper serves =
    let groups : Groups (groups_of ds) = all_groups [] ds (record { proper = tt; rows = tt }) proper in
    let served : Each (Served ss) (groups_of ds) = groups_served D ss [] ds low serves.order tt serves.demands in
    are_longest D ds ns ss (canonical_of ds ns)
    (runs_made lo hi ok D ds (groups_of ds) ns ss low proper groups served (are_groups ds proper).each serves (canonical_serves lo hi ok D ds ns ss low proper serves))

-- where some segments make the state constraints hold, the canonical ones of a function are exactly the longest
abbrev pub SegmentsAreLongest : Type 0
SegmentsAreLongest = (m : Data) (a : Assignment) (n : ℕ) (ss : List Segment) → IsValid m → IsTrue (is_in_domain m a) → StatesHold m a → n < length m.states
    → let Longest = AreLongest (demands_of m a (record { 0 = n })) (gaps_of m a (record { 0 = n })) in
    Longest (slice_index_or (canonical m a.slots) n []) × (Longest ss → ss ≡ slice_index_or (canonical m a.slots) n [])

pub segments_are_longest : SegmentsAreLongest
segments_are_longest m a n ss valid domain holds_all within =
    let g : Stf = record { 0 = n } in
    let proper : Each Proper (demands_of m a g) = each_given Proper (stretch_of a.slots g) m.constraints (λ c y here is. proper_from a g c y is) in
    let longest : AreLongest (demands_of m a g) (gaps_of m a g) (canonical_for m a.slots n) =
    canonical_longest (neg_ℤ horizon) horizon (IsGood m (get_or m.states n no_def)) (Far m (get_or m.states n no_def)) (demands_of m a g) (gaps_of m a g) (canonical_for m a.slots n) (far_low m (get_or m.states n no_def) valid) proper
    (serves_each m a n valid domain holds_all within) in
    let at : slice_index_or (canonical m a.slots) n [] ≡ canonical_for m a.slots n = canonical_at m a.slots n within in
    subst (λ cs. AreLongest (demands_of m a g) (gaps_of m a g) cs × (AreLongest (demands_of m a g) (gaps_of m a g) ss → ss ≡ cs)) (sym at)
    (longest, λ other. longest_are_one (demands_of m a g) (gaps_of m a g) ss (canonical_for m a.slots n) other longest)
