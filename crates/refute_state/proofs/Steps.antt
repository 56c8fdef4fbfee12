-- Steps of the loops.
use Rattle.std.proofs.Common.{◌≡◌, ℕ, ◌+◌, ◌<◌, Bool, true, false, List, [], ◌∷◌, ◌++◌, length, drop, take, get_or, refl, sym, ap, ◌∙◌, if◌then◌else◌}
use Rattle.std.specs.List.{filter, insert}
use Rattle.std.specs.Prelude.{fold, ℤ}
use Rattle.std.proofs.lemmas.List.{at_drop_more, take_more}
use Rattle.std.proofs.Common.{append_assoc}
use Rattle.std.proofs.Math.Seq.{drop-length}
use Rattle.refute_state.specs.declared.stretch.Stretch.{Stretch}
use Rattle.sched_model.specs.declared.types.Segment.{Segment}
use Rattle.refute_state.specs.code.Groups.{is_linked, both, is_first_of, placed, with_demand, groups_from, runs_from}

abbrev pub taking : Stretch → Stretch → List Stretch → Stretch
taking d w gs = fold both w (filter (is_linked d) gs)

taken_cons : (d w g : Stretch) (gs : List Stretch) → taking d w (g ∷ gs) ≡ taking d (if is_linked d g then both w g else w) gs
taken_cons d w g gs = decided (is_linked d g)
  where
    decided : (b : Bool) → fold both w (if b then g ∷ filter (is_linked d) gs else filter (is_linked d) gs) ≡ taking d (if b then both w g else w) gs
    decided true = refl
    decided false = refl

pub taken_step : (d w v z : Stretch) (gs : List Stretch) (i : ℕ) (whole : Stretch) → taking d w (drop i gs) ≡ whole → i < length gs → v ≡ (if is_linked d (get_or gs i z) then both w (get_or gs i z) else w) → taking d v (drop (i + 1) gs) ≡ whole
taken_step d w v z gs i whole before within is =
    ap (λ x. taking d x (drop (i + 1) gs)) is
    ∙ sym (taken_cons d w (get_or gs i z) (drop (i + 1) gs))
    ∙ sym (at_drop_more (taking d w) gs i z within)
    ∙ before

placed_cons : (i g : Stretch) (gs : List Stretch) → is_first_of i g ≡ false → placed i (g ∷ gs) ≡ g ∷ placed i gs
placed_cons i g gs is = ap (λ b. if b then i ∷ g ∷ gs else g ∷ placed i gs) is

placed_first : (i g : Stretch) (gs : List Stretch) → is_first_of i g ≡ true → placed i (g ∷ gs) ≡ i ∷ g ∷ gs
placed_first i g gs is = ap (λ b. if b then i ∷ g ∷ gs else g ∷ placed i gs) is

pub place_here : (i e : Stretch) (gs : List Stretch) (k : ℕ) (whole : List Stretch) → take k gs ++ placed i (drop k gs) ≡ whole → k < length gs → e ≡ get_or gs k e → is_first_of i e ≡ true → insert gs k i ≡ whole
place_here i e gs k whole before within at_k is =
    ap (λ xs. take k gs ++ i ∷ xs) (at_drop_more (λ xs. xs) gs k e within)
    ∙ ap (λ x. take k gs ++ i ∷ x ∷ drop (k + 1) gs) (sym at_k)
    ∙ sym (ap (λ xs. take k gs ++ xs) (placed_first i e (drop (k + 1) gs) is))
    ∙ ap (λ x. take k gs ++ placed i (x ∷ drop (k + 1) gs)) at_k
    ∙ sym (ap (λ xs. take k gs ++ xs) (at_drop_more (placed i) gs k e within))
    ∙ before

pub place_step : (i e : Stretch) (gs : List Stretch) (k : ℕ) (whole : List Stretch) → take k gs ++ placed i (drop k gs) ≡ whole → k < length gs → e ≡ get_or gs k e → is_first_of i e ≡ false → take (k + 1) gs ++ placed i (drop (k + 1) gs) ≡ whole
place_step i e gs k whole before within at_k is =
    ap (λ xs. xs ++ placed i (drop (k + 1) gs)) (take_more gs k e within)
    ∙ append_assoc (take k gs) (get_or gs k e ∷ []) (placed i (drop (k + 1) gs))
    ∙ ap (λ x. take k gs ++ x ∷ placed i (drop (k + 1) gs)) (sym at_k)
    ∙ sym (ap (λ xs. take k gs ++ xs) (placed_cons i e (drop (k + 1) gs) is))
    ∙ ap (λ x. take k gs ++ placed i (x ∷ drop (k + 1) gs)) at_k
    ∙ sym (ap (λ xs. take k gs ++ xs) (at_drop_more (placed i) gs k e within))
    ∙ before

pub place_end : (i : Stretch) (gs : List Stretch) (k : ℕ) (whole : List Stretch) → take k gs ++ placed i (drop k gs) ≡ whole → k ≡ length gs → insert gs (length gs) i ≡ whole
place_end i gs k whole before end = sym (ap (λ n. insert gs n i) end) ∙ ap (λ xs. take k gs ++ i ∷ xs) (rest k end) ∙ sym (ap (λ xs. take k gs ++ placed i xs) (rest k end)) ∙ before
  where
    rest : (k : ℕ) → k ≡ length gs → drop k gs ≡ []
    rest k e = ap (λ n. drop n gs) e ∙ drop-length gs

-- one more demand
pub demand_step : (gs hs ds : List Stretch) (d : Stretch) (i : ℕ) (whole : List Stretch) → groups_from gs (drop i ds) ≡ whole → i < length ds → d ≡ get_or ds i d → hs ≡ with_demand gs d → groups_from hs (drop (i + 1) ds) ≡ whole
demand_step gs hs ds d i whole before within at_i is =
    ap (λ xs. groups_from xs (drop (i + 1) ds)) is
    ∙ ap (λ x. groups_from (with_demand gs x) (drop (i + 1) ds)) at_i
    ∙ sym (at_drop_more (groups_from gs) ds i d within)
    ∙ before

pub run_step : (made more : List Segment) (ns : List (ℤ × ℤ)) (now next : Segment) (last d : Stretch) (gs : List Stretch) (i : ℕ) (whole : List Segment) → made ++ runs_from ns now last (drop i gs) ≡ whole → i < length gs → d ≡ get_or gs i d
    → ((js : List Stretch) → more ++ runs_from ns next d js ≡ made ++ runs_from ns now last (d ∷ js)) → more ++ runs_from ns next d (drop (i + 1) gs) ≡ whole
run_step made more ns now next last d gs i whole before within at_i is =
    is (drop (i + 1) gs)
    ∙ ap (λ x. made ++ runs_from ns now last (x ∷ drop (i + 1) gs)) at_i
    ∙ sym (at_drop_more (λ xs. made ++ runs_from ns now last xs) gs i d within)
    ∙ before
