-- What the lines of a log without a solution use leaves nothing.
use Rattle.std.specs.Prelude.{◌≡◌, ℕ, ℤ, Bool, true, false, List, [], ◌∷◌, ◌++◌, Option, Some, None, All, IfSome, Contains, length, nat_lt, is_some, if◌then◌else◌}
use Rattle.std.specs.List.{Any}
use Rattle.std.proofs.Common.{refl, sym, subst, inl, inr, arith, get_or}
use Rattle.std.proofs.lemmas.Bool.Decides.{nat_tests}
use Rattle.std.proofs.lemmas.List.Elements.{All-nil, All-cons, All-head, All-tail, All-contains, All-contains_itself}
use Rattle.std.proofs.lemmas.Option.{slice_get_past}
use Rattle.sched_base.specs.declared.ids.Con.{Con}
use Rattle.sched_model.specs.declared.types.Assignment.{Assignment}
use Rattle.sched_model.specs.declared.types.Constraint.{Constraint}
use Rattle.sched_model.specs.declared.types.Verdict.TheVariants.{Infeasible, Unclosed}
use Rattle.sched_model.specs.Words.{is_empty}
use Rattle.sched_model.specs.Data.{Data}
use Rattle.sched_model.specs.Valid.{IsValid}
use Rattle.sched_model.specs.Sentences.{Holds}
use Rattle.sched_model.specs.Solution.{IsKept, Meets, is_better}
use Rattle.sched_model.specs.laws.Met.{meets_front, meets_back}
use Rattle.region.specs.declared.types.Guess.{Guess}
use Rattle.region.specs.Cells.{Region, Allows, root}
use Rattle.region.specs.Guesses.{with_guess, with_fact, admits, splits}
use Rattle.region.specs.Looks.{Refuting, IsRegionOf, seen_at}
use Rattle.region.specs.laws.Lists.{both_true}
use Rattle.region.specs.laws.Narrowing.{guess_stays, fact_stays, splitting}
use Rattle.region.specs.laws.Rooted.{root_of, root_allows}
use Rattle.kernel.specs.declared.types.Witness.{Witness}
use Rattle.kernel.specs.declared.types.Line.{Line}
use Rattle.kernel.specs.declared.types.Line.TheVariants.{Derive, Fail, Split, Sol, Restart}
use Rattle.kernel.specs.declared.types.Found.{Found}
use Rattle.kernel.specs.declared.types.StepFault.{StepFault}
use Rattle.kernel.specs.declared.types.StepFault.TheVariants.{NotRefuted, NotSplitting}
use Rattle.kernel.specs.Agenda.{first_in}
use Rattle.kernel.specs.Steps.{LogState, Steps, done, more, opening, open_regions, best_of, closed_verdict, best_verdict, verdict_of}
use Rattle.kernel.specs.code.Faults.{fault_unless, fault_at, fault_in, after}
use Rattle.kernel.specs.Used.{IsSoundBy, IsUsed, named_in, used_in}
use Rattle.kernel.proofs.Regions.{any_here, any_later, any_cases, any_none, parts_allow}
use Rattle.kernel.proofs.Stepped.{stepped}

-- nothing was found, and no open region allows what keeps these constraints
record Leaves (m : Data) (cs : List Con) (found : Option Found) (rs : List Region) : Type 0 where
  nothing : found ≡ None
  none : (a : Assignment) → Meets m cs a → Any (λ r. Allows r a) rs → ⊥

unless_none : (b : Bool) (f : StepFault) (rest : Option StepFault) → fault_unless b f rest ≡ None → b ≡ true
unless_none true f rest h = refl
unless_none false f rest h = cc

better_than_none : (m : Data) (found : Option Found) (a : Assignment) → found ≡ None → is_better m (best_of found) a ≡ true
better_than_none m found a is = subst (λ (f : Option Found). is_better m (best_of f) a ≡ true) (sym is) refl

derived : {W : Type 0} (named : Witness W → List Con) (refutes : Refuting (Witness W)) (m : Data) (g : Guess) (w : Witness W) (r : Region) (rs : List Region) (found : Option Found) (cs : List Con) → IsValid m → IsSoundBy named m refutes
    → fault_at refutes m r found (Derive g w) ≡ None → IsRegionOf m r → Leaves m cs found (with_fact g r ∷ rs) → Leaves m (named w ++ cs) found (r ∷ rs)
derived named refutes m g w r rs found cs valid sound h of rest =
    let two = both_true (admits r g) (refutes m (seen_at r (best_of found) (Some g)) w) (unless_none _ NotRefuted _ h) in
    record {
      nothing = rest.nothing;
      none = λ a meets any. let kept = meets_back m (named w) cs a meets in elim (any_cases (λ q. Allows q a) r rs any) [
        | inl allowed ↦ elim (parts_allow m r g a two.0 of meets.domain allowed) [
          | inl guessed ↦ sound (seen_at r (best_of found) (Some g)) w valid (guess_stays g m r two.0 of) two.1 a (meets_front m (named w) cs a meets) (better_than_none m found a rest.nothing) guessed
          | inr learnt ↦ rest.none a kept (any_here (λ q. Allows q a) (with_fact g r) rs learnt)
        ]
        | inr others ↦ rest.none a kept (any_later (λ q. Allows q a) (with_fact g r) rs others)
      ];
    }

failed : {W : Type 0} (named : Witness W → List Con) (refutes : Refuting (Witness W)) (m : Data) (w : Witness W) (r : Region) (rs : List Region) (found : Option Found) (cs : List Con) → IsValid m → IsSoundBy named m refutes
    → fault_at refutes m r found (Fail w) ≡ None → IsRegionOf m r → Leaves m cs found rs → Leaves m (named w ++ cs) found (r ∷ rs)
failed named refutes m w r rs found cs valid sound h of rest = record {
  nothing = rest.nothing;
  none = λ a meets any. elim (any_cases (λ q. Allows q a) r rs any) [
    | inl allowed ↦ sound (seen_at r (best_of found) None) w valid of (unless_none _ NotRefuted None h) a (meets_front m (named w) cs a meets) (better_than_none m found a rest.nothing) allowed
    | inr others ↦ rest.none a (meets_back m (named w) cs a meets) others
  ];
}

cut : (m : Data) (g : Guess) (r : Region) (rs : List Region) (found : Option Found) (cs : List Con) → splits r g ≡ true → IsRegionOf m r → Leaves m cs found (with_guess g r ∷ with_fact g r ∷ rs) → Leaves m cs found (r ∷ rs)
cut m g r rs found cs split of rest = record {
  nothing = rest.nothing;
  none = λ a meets any. elim (any_cases (λ q. Allows q a) r rs any) [
    | inl allowed ↦ elim (parts_allow m r g a (splitting r g split).0 of meets.domain allowed) [
      | inl guessed ↦ rest.none a meets (any_here (λ q. Allows q a) (with_guess g r) (with_fact g r ∷ rs) guessed)
      | inr learnt ↦ rest.none a meets (any_later (λ q. Allows q a) (with_guess g r) (with_fact g r ∷ rs) (any_here (λ q. Allows q a) (with_fact g r) rs learnt))
    ]
    | inr others ↦ rest.none a meets (any_later (λ q. Allows q a) (with_guess g r) (with_fact g r ∷ rs) (any_later (λ q. Allows q a) (with_fact g r) rs others))
  ];
}

solved : {X : Type 0} (m : Data) (f : Found) (cs : List Con) (rs : List Region) → Leaves m cs (Some f) rs → X
solved m f cs rs rest = absurd (no_some f rest.nothing)
  where
    no_some : (f : Found) → Some f ≡ None → ⊥
    no_some f h = cc

-- whatever was open: the root that is open then allows all
begun_anew : (m : Data) (found : Option Found) (cs : List Con) (rs : List Region) → Leaves m cs found (root m ∷ []) → Leaves m cs found rs
begun_anew m found cs rs rest = record { nothing = rest.nothing; none = λ a meets any. rest.none a meets (any_here (λ q. Allows q a) (root m) [] (root_allows m a meets.domain)) }

-- one line, from the state behind it to the one before it
at_current : {W : Type 0} (named : Witness W → List Con) (refutes : Refuting (Witness W)) (m : Data) (r : Region) (rs : List Region) (k : ℕ) (found : Option Found) (line : Line W) (cs : List Con) → IsValid m → IsSoundBy named m refutes
    → fault_at refutes m r found line ≡ None → IsRegionOf m r → let s : LogState = record { current = Some r; waiting = rs; nodes = k; found = found } in
    Leaves m cs (after m s line).found (open_regions (after m s line)) → Leaves m (named_in named line ++ cs) found (r ∷ rs)
at_current named refutes m r rs k found (Derive g w) cs valid sound h of rest = derived named refutes m g w r rs found cs valid sound h of rest
at_current named refutes m r rs k found (Fail w) cs valid sound h of rest = failed named refutes m w r rs found cs valid sound h of rest
at_current named refutes m r rs k found (Split g) cs valid sound h of rest = cut m g r rs found cs (unless_none (splits r g) NotSplitting None h) of rest
at_current named refutes m r rs k found (Sol a) cs valid sound h of rest = solved m _ cs _ rest
at_current named refutes m r rs k found Restart cs valid sound h of rest = begun_anew m found cs (r ∷ rs) rest

at_waiting : {W : Type 0} (named : Witness W → List Con) (refutes : Refuting (Witness W)) (m : Data) (r : Region) (rs : List Region) (k : ℕ) (found : Option Found) (line : Line W) (cs : List Con) → IsValid m → IsSoundBy named m refutes
    → fault_at refutes m r found line ≡ None → IsRegionOf m r → let s : LogState = record { current = None; waiting = r ∷ rs; nodes = k; found = found } in
    Leaves m cs (after m s line).found (open_regions (after m s line)) → Leaves m (named_in named line ++ cs) found (r ∷ rs)
at_waiting named refutes m r rs k found (Derive g w) cs valid sound h of rest = derived named refutes m g w r rs found cs valid sound h of rest
at_waiting named refutes m r rs k found (Fail w) cs valid sound h of rest = failed named refutes m w r rs found cs valid sound h of rest
at_waiting named refutes m r rs k found (Split g) cs valid sound h of rest = cut m g r rs found cs (unless_none (splits r g) NotSplitting None h) of rest
at_waiting named refutes m r rs k found (Sol a) cs valid sound h of rest = solved m _ cs _ rest
at_waiting named refutes m r rs k found Restart cs valid sound h of rest = begun_anew m found cs (r ∷ rs) rest

before : {W : Type 0} (named : Witness W → List Con) (refutes : Refuting (Witness W)) (m : Data) (current : Option Region) (waiting : List Region) (k : ℕ) (found : Option Found) (line : Line W) (cs : List Con) → IsValid m → IsSoundBy named m refutes
    → let s : LogState = record { current = current; waiting = waiting; nodes = k; found = found } in
    fault_in refutes m (first_in current waiting) found line ≡ None → All (IsRegionOf m) (open_regions s) → Leaves m cs (after m s line).found (open_regions (after m s line)) → Leaves m (named_in named line ++ cs) found (open_regions s)
before named refutes m (Some r) rs k found line cs valid sound h of rest = at_current named refutes m r rs k found line cs valid sound h (All-head (IsRegionOf m) r rs of) rest
before named refutes m None (r ∷ rs) k found line cs valid sound h of rest = at_waiting named refutes m r rs k found line cs valid sound h (All-head (IsRegionOf m) r rs of) rest
before named refutes m None [] k found line cs valid sound h of rest = cc

-- the regions stay those of the model
left_of : (m : Data) (b : Bool) (rs : List Region) → All (IsRegionOf m) rs → All (IsRegionOf m) (if b then rs else [])
left_of m true rs of = of
left_of m false rs of = All-nil (IsRegionOf m)

derived_of : {W : Type 0} (refutes : Refuting (Witness W)) (m : Data) (g : Guess) (w : Witness W) (r : Region) (rs : List Region) (found : Option Found) → fault_at refutes m r found (Derive g w) ≡ None → All (IsRegionOf m) (r ∷ rs) → All (IsRegionOf m) (with_fact g r ∷ rs)
derived_of refutes m g w r rs found h of =
    let two = both_true (admits r g) (refutes m (seen_at r (best_of found) (Some g)) w) (unless_none _ NotRefuted _ h) in
    All-cons (IsRegionOf m) (with_fact g r) rs (fact_stays g m r two.0 (All-head (IsRegionOf m) r rs of)) (All-tail (IsRegionOf m) r rs of)

cut_of : (m : Data) (g : Guess) (r : Region) (rs : List Region) → splits r g ≡ true → All (IsRegionOf m) (r ∷ rs) → All (IsRegionOf m) (with_guess g r ∷ with_fact g r ∷ rs)
cut_of m g r rs split of =
    let whole = All-head (IsRegionOf m) r rs of in
    let admitted = (splitting r g split).0 in
    All-cons (IsRegionOf m) (with_guess g r) (with_fact g r ∷ rs) (guess_stays g m r admitted whole) (All-cons (IsRegionOf m) (with_fact g r) rs (fact_stays g m r admitted whole) (All-tail (IsRegionOf m) r rs of))

after_of : {W : Type 0} (refutes : Refuting (Witness W)) (m : Data) (current : Option Region) (waiting : List Region) (k : ℕ) (found : Option Found) (line : Line W) → IsValid m
    → let s : LogState = record { current = current; waiting = waiting; nodes = k; found = found } in fault_in refutes m (first_in current waiting) found line ≡ None → All (IsRegionOf m) (open_regions s) → All (IsRegionOf m) (open_regions (after m s line))
after_of refutes m (Some r) rs k found (Derive g w) valid h of = derived_of refutes m g w r rs found h of
after_of refutes m (Some r) rs k found (Fail w) valid h of = All-tail (IsRegionOf m) r rs of
after_of refutes m (Some r) rs k found (Split g) valid h of = cut_of m g r rs (unless_none (splits r g) NotSplitting None h) of
after_of refutes m (Some r) rs k found (Sol a) valid h of = left_of m (is_some m.objective) rs (All-tail (IsRegionOf m) r rs of)
after_of refutes m None (r ∷ rs) k found (Derive g w) valid h of = derived_of refutes m g w r rs found h of
after_of refutes m None (r ∷ rs) k found (Fail w) valid h of = All-tail (IsRegionOf m) r rs of
after_of refutes m None (r ∷ rs) k found (Split g) valid h of = cut_of m g r rs (unless_none (splits r g) NotSplitting None h) of
after_of refutes m None (r ∷ rs) k found (Sol a) valid h of = left_of m (is_some m.objective) rs (All-tail (IsRegionOf m) r rs of)
after_of refutes m (Some r) rs k found Restart valid h of = All-cons (IsRegionOf m) (root m) [] (root_of m valid) (All-nil (IsRegionOf m))
after_of refutes m None (r ∷ rs) k found Restart valid h of = All-cons (IsRegionOf m) (root m) [] (root_of m valid) (All-nil (IsRegionOf m))
after_of refutes m None [] k found line valid h of = cc

-- all lines, from the closed state back to the one that they begin in
steps_leave : {W : Type 0} (named : Witness W → List Con) (refutes : Refuting (Witness W)) (m : Data) {s t : LogState} {lines : List (Line W)} → IsValid m → IsSoundBy named m refutes
    → All (IsRegionOf m) (open_regions s) → Steps refutes m s lines t → t.found ≡ None → open_regions t ≡ [] → Leaves m (used_in named lines) s.found (open_regions s)
steps_leave named refutes m valid sound of done nothing closed = record { nothing = nothing; none = λ a meets any. any_none (λ r. Allows r a) (subst (Any (λ r. Allows r a)) closed any) }
steps_leave named refutes m valid sound of (more {s} {t} {u} {line} {lines} is rest) nothing closed =
    let two = stepped refutes m s t line is in
    let next : All (IsRegionOf m) (open_regions t) = subst (λ (x : LogState). All (IsRegionOf m) (open_regions x)) (sym two.1) (after_of refutes m s.current s.waiting s.nodes s.found line valid two.0 of) in
    let behind = steps_leave named refutes m valid sound next rest nothing closed in
    before named refutes m s.current s.waiting s.nodes s.found line (used_in named lines) valid sound two.0 of (subst (λ (x : LogState). Leaves m (used_in named lines) x.found (open_regions x)) two.1 behind)

-- a log that shows no solution has no region left and found none
record IsClosed (found : Option Found) (rs : List Region) : Type 0 where
  nothing : found ≡ None
  closed : rs ≡ []

closed_by : (found : Option Found) (rs : List Region) → (if is_empty rs then closed_verdict found else Unclosed (best_of found)) ≡ Infeasible → IsClosed found rs
closed_by None [] h = record { nothing = refl; closed = refl }
closed_by (Some f) [] h = by_value f.value h
  where
    by_value : (v : Option ℤ) → best_verdict v ≡ Infeasible → IsClosed (Some f) []
    by_value None h = cc
    by_value (Some v) h = cc
closed_by found (r ∷ rs) h = cc

pub used_leaves : {W : Type 0} (named : Witness W → List Con) (refutes : Refuting (Witness W)) (m : Data) (lines : List (Line W)) (s : LogState) → IsValid m → IsSoundBy named m refutes
    → Steps refutes m (opening m) lines s → verdict_of s ≡ Infeasible → (a : Assignment) → Meets m (used_in named lines) a → ⊥
used_leaves named refutes m lines s valid sound steps verdict a meets =
    let end = closed_by s.found (open_regions s) verdict in
    (steps_leave named refutes m valid sound (All-cons (IsRegionOf m) (root m) [] (root_of m valid) (All-nil (IsRegionOf m))) steps end.nothing end.closed).none a meets
    (any_here (λ r. Allows r a) (root m) [] (root_allows m a meets.domain))

-- who keeps the constraints that are used and there keeps all that are used
pub core_meets : (m : Data) (used core : List Con) (a : Assignment) → IsUsed m used core → Meets m core a → Meets m used a
core_meets m used core a is meets = record { domain = meets.domain; holds = λ n d within. one (get_or used n d) (All-contains_itself used n d within) }
  where
    past : (c : Con) → nat_lt c.0 (length m.constraints) ≡ false → IsKept m a c
    past c beyond = subst (λ (o : Option Constraint). IfSome o (Holds m a)) (sym (slice_get_past m.constraints c.0 (grind (arith, nat_tests)))) tt

    by_test : (c : Con) (b : Bool) → nat_lt c.0 (length m.constraints) ≡ b → Contains used c → IsKept m a c
    by_test c true there h = All-contains (IsKept m a) core c meets.holds ((is.each c).1 (grind (arith, nat_tests), h))
    by_test c false there h = past c there

    one : (c : Con) → Contains used c → IsKept m a c
    one c h = by_test c (nat_lt c.0 (length m.constraints)) refl h
