-- The log with the lines of a run of the engine, and with the line that ends its node.
use Rattle.std.proofs.Common.{◌≡◌, ℕ, ◌+◌, ◌≤◌, ℤ, Bool, true, false, not, List, [], ◌∷◌, ◌++◌, length, map, Option, Some, Ok, Err, Result, inl, inr, refl, sym, ap, subst, ◌∙◌, arith, append_assoc, length-append}
use Rattle.std.specs.List.{All}
use Rattle.std.proofs.lemmas.List.{length-map}
use Rattle.std.proofs.lemmas.List.Elements.{All-append, All-cons, All-nil}
use Rattle.sched_model.specs.Data.{Data}
use Rattle.sched_model.specs.Valid.{IsValid}
use Rattle.region.specs.declared.types.Guess.{Guess}
use Rattle.region.specs.Cells.{Region}
use Rattle.region.specs.Guesses.{with_fact}
use Rattle.region.specs.Looks.{IsRegionOf}
use Rattle.region.specs.laws.Narrowing.{fact_stays}
use Rattle.kernel.specs.declared.types.Line.TheVariants.{Derive}
use Rattle.kernel.specs.declared.types.Found.{Found}
use Rattle.kernel.specs.Derives.{IsDerived, Derives, stays, learns}
use Rattle.kernel.specs.Steps.{LogState, Node, Steps, done, more, opening, step_at, node_of, is_restart, best_of}
use Rattle.kernel.specs.laws.Derives.{current_at, waiting_at, derives_more, derives_takes, derive_steps, derive_takes}
use Rattle.kernel.specs.laws.Outcomes.{same_ok}
use Rattle.kernel.specs.declared.types.Line.{Line}
use Rattle.kernel.specs.declared.types.Witness.{Witness}
use Rattle.kernel.specs.declared.types.Witness.TheVariants.{Basic, Hier, Seq, Cumul, State, Extra}
use Rattle.kernel.specs.declared.no_extra.NoWitness.{NoWitness}
use Rattle.logtext.specs.Extra.{log_numbers, log_valid}
use Rattle.logtext.specs.Lifted.{refutes_logged, lifted, lifted_witness}
use Rattle.logtext.specs.Logs.{PlainLine, IsLine}
use Rattle.engine.specs.declared.lines.Lines.{Ghosts as LineGhosts}
use Rattle.engine.specs.declared.propagator.Propagator.{Ghosts as PropagatorGhosts}
use Rattle.engine.specs.declared.stops.EngineFault.{EngineFault}
use Rattle.engine.specs.declared.stops.EngineFault.TheVariants as fault
use Rattle.engine.specs.declared.stops.Stop.{Stop}
use Rattle.engine.specs.declared.stops.Stop.TheVariants.{Quiet, Failed, Capped}
use Rattle.sched_base.specs.Calls.{Rose}
use Rattle.std.specs.Result.{IsErrAnd}
use Rattle.engine.specs.Plain.{refutes_plain}
use Rattle.engine.specs.Runs.{cap_at, Led, Broke, held, further, broken, Ends, Counts}
use Rattle.engine.specs.laws.Caps.{same_cap}
use Rattle.restart_rules.specs.Restarts.{Limits, Stretch, RestartsFrom, first_stretch, stretch_after, is_over}
use Rattle.restart_rules.specs.code.Stretches.{Plan, MayOpen, stretch_in, with_closed}
use Rattle.restart_rules.specs.laws.Places.{ongoing_not_due, derives_ongoing, derives_stretch}
use Rattle.restart_rules.specs.laws.Restarts.{restarts_on, stretch_on, plain_next, few_restarts}
use Rattle.solver.specs.Written.{IsWellPut, WellPutFrom, IsWritten, derived_after, derived_in}
use Rattle.solver.specs.code.Searching.{IsLogged, IsAtNode, IsSpent, Stopped, between, within, Breaks, Causes, Derived, GoesOn}
use Rattle.solver.specs.declared.fault.SolveFault.{SolveFault}
use Rattle.solver.specs.declared.state.Search.{Search}
use Rattle.solver.specs.declared.log_to.LogTo.{Ghosts}
use Rattle.solver.specs.code.Faults.{passed_on}
use Rattle.solver.proofs.logged.Closing.{steps_on, well_on, derived_on, node_first, node_steps}
use Rattle.solver.proofs.logged.Fitting.{derive_line}

-- what derives without an extra witness derives in a log
lifted_derived : (m : Data) (best : Option ℤ) (r : Region) (g : Guess) (w : Witness NoWitness) → IsDerived refutes_plain m best r g w → IsDerived refutes_logged m best r g (lifted_witness w)
lifted_derived m best r g (Basic w) is = record { admitted = is.admitted; refuted = is.refuted; tight = is.tight }
lifted_derived m best r g (Hier w) is = record { admitted = is.admitted; refuted = is.refuted; tight = is.tight }
lifted_derived m best r g (Seq w) is = record { admitted = is.admitted; refuted = is.refuted; tight = is.tight }
lifted_derived m best r g (Cumul w) is = record { admitted = is.admitted; refuted = is.refuted; tight = is.tight }
lifted_derived m best r g (State w) is = record { admitted = is.admitted; refuted = is.refuted; tight = is.tight }
lifted_derived m best r g (Extra w) is = let no = is.refuted in cc

lifted_derives : {m : Data} {best : Option ℤ} {r q : Region} {lines : List (Line NoWitness)} → Derives refutes_plain m best r lines q → Derives refutes_logged m best r (map lifted lines) q
lifted_derives stays = stays
lifted_derives {m} {best} {r} (learns {g = g} {w = w} first rest) = learns (lifted_derived m best r g w first) (lifted_derives rest)

abbrev Plain : Type 0
Plain = PlainLine

-- more lines behind those of a log
pub log_grows : (m : Data) (limits : Limits) (xs ys : List Plain) (s t : LogState) → IsWritten m limits xs s → All (IsLine log_numbers log_valid) ys → Steps refutes_logged m s ys t → t.nodes ≤ limits.nodes → WellPutFrom m (derived_in 0 xs) s ys
    → RestartsFrom refutes_logged m limits (stretch_in first_stretch xs) s ys → IsWritten m limits (xs ++ ys) t
log_grows m limits xs ys s t is each steps few well meets =
    let all : Steps refutes_logged m (opening m) (xs ++ ys) t = steps_on is.log.steps steps in
    let rule : RestartsFrom refutes_logged m limits first_stretch (opening m) (xs ++ ys) = restarts_on m limits first_stretch ys is.log.steps is.restarts meets in
    record {
      log = record { each = All-append (IsLine log_numbers log_valid) xs ys is.log.each each; steps = all };
      few = few;
      well = well_on m 0 ys is.log.steps is.well well;
      restarts = rule;
      seldom = few_restarts m limits all rule;
    }

-- what the places of lines promise of putting more
pub record ArePlaces {L : Type 0} (l : Ghosts L) (k : LineGhosts L) : Type 0 where
  pub lifts : (a b : L) (xs : List (Line NoWitness)) → k.puts a xs b → l.writes a (map lifted xs) b
  pub lifts_broken : (a b : L) (xs : List (Line NoWitness)) (line : Line NoWitness) → k.breaks a xs line b → l.cuts_off a (map lifted xs) (lifted line) b
  pub more : (a b c : L) (xs ys : List Plain) → l.writes a xs b → l.writes b ys c → l.writes a (xs ++ ys) c
  pub then_breaks : (a b c : L) (xs ys : List Plain) (line : Plain) → l.writes a xs b → l.cuts_off b ys line c → l.cuts_off a (xs ++ ys) line c
  pub stays_calm : (a b : L) (xs : List Plain) → l.writes a xs b → k.calm b ≡ k.calm a
  pub same_faults : (a b : L) (xs : List Plain) → l.writes a xs b → k.faults b ≡ k.faults a

-- in the stretch behind them
pub logged_more : {L : Type 0} (l : Ghosts L) (k : LineGhosts L) → ArePlaces l k → (m : Data) (plan : Plan) (from a b : L) (n : ℕ) (now : Stretch) (xs : List Plain) (s t : LogState) → IsLogged l m plan from a n s → l.writes a xs b
    → All (IsLine log_numbers log_valid) xs → Steps refutes_logged m s xs t → t.nodes ≤ plan.limits.nodes → WellPutFrom m n s xs → RestartsFrom refutes_logged m plan.limits plan.stretch s xs → stretch_in plan.stretch xs ≡ now
    → IsLogged l m (record plan { stretch = now }) from b (derived_in n xs) t
logged_more l k places m plan from a b n now xs s t is put each steps few well meets counted = record {
  lines = is.lines ++ xs;
  put = places.more from a b is.lines xs is.put put;
  written = log_grows m plan.limits is.lines xs s t is.written each steps few (subst (λ j. WellPutFrom m j s xs) (sym is.derived) well) (subst (λ j. RestartsFrom refutes_logged m plan.limits j s xs) (sym is.stretch) meets);
  derived = derived_on 0 is.lines xs ∙ ap (λ j. derived_in j xs) is.derived;
  stretch = stretch_on first_stretch is.lines xs ∙ ap (λ j. stretch_in j xs) is.stretch ∙ counted;
}

pub logged_break : {L : Type 0} (l : Ghosts L) (k : LineGhosts L) → ArePlaces l k → (m : Data) (plan : Plan) (from a b : L) (n : ℕ) (xs : List Plain) (line : Plain) (s t : LogState) → IsLogged l m plan from a n s → l.cuts_off a xs line b
    → All (IsLine log_numbers log_valid) (xs ++ line ∷ []) → Steps refutes_logged m s (xs ++ line ∷ []) t → t.nodes ≤ plan.limits.nodes → WellPutFrom m n s (xs ++ line ∷ []) → RestartsFrom refutes_logged m plan.limits plan.stretch s (xs ++ line ∷ []) → Stopped l m plan.limits from b
logged_break l k places m plan from a b n xs line s t is break each steps few well meets =
    within (places.then_breaks from a b is.lines xs line is.put break)
    (subst (λ ls. IsWritten m plan.limits ls t) (sym (append_assoc is.lines xs (line ∷ [])))
    (log_grows m plan.limits is.lines (xs ++ line ∷ []) s t is.written each steps few (subst (λ j. WellPutFrom m j s (xs ++ line ∷ [])) (sym is.derived) well) (subst (λ j. RestartsFrom refutes_logged m plan.limits j s (xs ++ line ∷ [])) (sym is.stretch) meets)))

-- lines that derive
derives_count : {m : Data} {best : Option ℤ} {r q : Region} {lines : List Plain} (n : ℕ) → Derives refutes_logged m best r lines q → derived_in n lines ≡ n + length lines
derives_count n stays = omega arith
derives_count n (learns {lines = lines} first rest) = let more = derives_count (n + 1) rest in omega (arith, more)

count_is : (n : ℕ) → 0 + n ≡ n
count_is n = omega arith

-- each is one of at most as many as the region allows
less_of : (m : Data) (r q : Region) (n k : ℕ) → IsRegionOf m r → IsRegionOf m q → (n + (k + 1)) ≤ cap_at r → ((n + 1) + k) ≤ cap_at q
less_of m r q n k of also few = omega (arith, few, same_cap m r q of also)

current_well : (m : Data) (best : Option ℤ) (waiting : List Region) (nodes : ℕ) (found : Option Found) {r q : Region} {lines : List Plain} (n : ℕ) → best_of found ≡ best → IsRegionOf m r → n + length lines ≤ cap_at r
    → Derives refutes_logged m best r lines q → WellPutFrom m n (current_at r waiting nodes found) lines
current_well m best waiting nodes found n is of few stays = tt
current_well m best waiting nodes found {r} n is of few (learns {g = g} {w = w} {lines = lines} first rest) =
    let then = fact_stays g m r first.admitted of in (
      omega (arith, few),
      λ t steps. subst (λ s. WellPutFrom m (n + 1) s lines) (same_ok _ t (sym (derive_steps refutes_logged m r g w waiting nodes found (subst (λ b. IsDerived refutes_logged m b r g w) (sym is) first)) ∙ steps))
          (current_well m best waiting nodes found (n + 1) is then (less_of m r (with_fact g r) n (length lines) of then (omega (arith, few))) rest),
    )

derives_well : (m : Data) (best : Option ℤ) (waiting : List Region) (nodes : ℕ) (found : Option Found) {r q : Region} {lines : List Plain} → best_of found ≡ best → IsRegionOf m r → length lines ≤ cap_at r
    → Derives refutes_logged m best r lines q → WellPutFrom m 0 (waiting_at r waiting nodes found) lines
derives_well m best waiting nodes found is of few stays = tt
derives_well m best waiting nodes found {r} is of few (learns {g = g} {w = w} {lines = lines} first rest) =
    let then = fact_stays g m r first.admitted of in (
      omega (arith, few),
      λ t steps. subst (λ s. WellPutFrom m 1 s lines) (same_ok _ t (sym (derive_takes refutes_logged m r g w waiting nodes found (subst (λ b. IsDerived refutes_logged m b r g w) (sym is) first)) ∙ steps))
          (current_well m best waiting (nodes + 1) found 1 is then (less_of m r (with_fact g r) 0 (length lines) of then (omega (arith, few))) rest),
    )

derives_fit : {m : Data} {best : Option ℤ} {r q : Region} {lines : List Plain} → IsValid m → IsRegionOf m r → Derives refutes_logged m best r lines q → All (IsLine log_numbers log_valid) lines
derives_fit valid of stays = All-nil (IsLine log_numbers log_valid)
derives_fit {m} {best} {r} valid of (learns {g = g} {w = w} {lines = lines} first rest) =
    All-cons (IsLine log_numbers log_valid) (Derive g w) lines (derive_line m r best g w valid of first) (derives_fit valid (fact_stays g m r first.admitted of) rest)

abbrev pub node_with : Region → List Region → ℕ → Option Found → Node
node_with r rest nodes found = record { region = r; waiting = rest; nodes = nodes + 1; found = found }

-- the node at which lines derived, where none was current and r waits first
record DerivesNode (m : Data) (r q : Region) (rest : List Region) (nodes : ℕ) (found : Option Found) (lines : List Plain) : Type 0 where
  state : LogState
  steps : Steps refutes_logged m (waiting_at r rest nodes found) lines state
  at : node_of state ≡ Some (node_with q rest nodes found)
  few : state.nodes ≤ nodes + 1

derives_node : (m : Data) (best : Option ℤ) (rest : List Region) (nodes : ℕ) (found : Option Found) {r q : Region} {lines : List Plain} → best_of found ≡ best → Derives refutes_logged m best r lines q
    → DerivesNode m r q rest nodes found lines
derives_node m best rest nodes found {r = r} is stays = record { state = waiting_at r rest nodes found; steps = done; at = refl; few = omega arith }
derives_node m best rest nodes found {q = q} is (learns first others) =
    record { state = current_at q rest (nodes + 1) found; steps = derives_takes refutes_logged m best rest nodes found is (learns first others); at = refl; few = omega arith }

-- so many lines were put in a run, whyever it ended
counts_few : (m : Data) (r q : Region) (n : ℕ) (stop : Stop) → IsRegionOf m r → IsRegionOf m q → Counts n q stop → n ≤ cap_at r
counts_few m r q n Quiet of also (inl less) = omega (arith, less, same_cap m r q of also)
counts_few m r q n Quiet of also (inr all) = omega (arith, all.0, same_cap m r q of also)
counts_few m r q n (Failed w) of also (inl less) = omega (arith, less, same_cap m r q of also)
counts_few m r q n (Failed w) of also (inr all) = omega (arith, all.0, same_cap m r q of also)
counts_few m r q n Capped of also all = omega (arith, all.0, same_cap m r q of also)

pub derived_to : {L : Type 0} (l : Ghosts L) (k : LineGhosts L) → ArePlaces l k → (m : Data) (plan : Plan) (from a b : L) (rest : List Region) (nodes : ℕ) (found : Option Found) (best : Option ℤ) (n : ℕ) (r q : Region) (stop : Stop)
    → IsValid m → IsRegionOf m r → IsRegionOf m q → best_of found ≡ best → MayOpen plan nodes → IsLogged l m plan from a 0 (waiting_at r rest nodes found) → Led k m best n a b r q → Counts n q stop → IsAtNode l m plan from b (node_with q rest nodes found) n
derived_to l k places m plan from a b rest nodes found best n r q stop valid of also is less logged led counts =
    let lines : List Plain = map lifted led.lines in
    let derive : Derives refutes_logged m best r lines q = lifted_derives led.derive in
    let count : length lines ≡ n = length-map led.lines lifted ∙ led.count in
    let node = derives_node m best rest nodes found is derive in
    record {
      state = node.state;
      logged = subst (λ j. IsLogged l m plan from b j node.state) (derives_count 0 derive ∙ count_is (length lines) ∙ count)
          (logged_more l k places m plan from a b 0 plan.stretch lines _ node.state logged (places.lifts a b led.lines led.put) (derives_fit valid of derive) node.steps (omega (arith, node.few, less.more))
          (derives_well m best rest nodes found is of (omega (arith, count, counts_few m r q n stop of also counts)) derive)
          (derives_ongoing plan.limits plan.stretch (waiting_at r rest nodes found) less.ongoing derive) (derives_stretch plan.stretch derive));
      at = node.at;
    }

-- a run that broke off
held_stops : {L : Type 0} (l : Ghosts L) (k : LineGhosts L) → ArePlaces l k → (m : Data) (plan : Plan) (from a b : L) (rest : List Region) (nodes : ℕ) (found : Option Found) (best : Option ℤ) (r q : Region) (lines : List (Line NoWitness))
    → IsValid m → IsRegionOf m r → best_of found ≡ best → MayOpen plan nodes → IsLogged l m plan from a 0 (waiting_at r rest nodes found) → k.puts a lines b → Derives refutes_plain m best r lines q → length lines ≤ cap_at r → Stopped l m plan.limits from b
held_stops l k places m plan from a b rest nodes found best r q lines valid of is less logged put derive few =
    let xs : List Plain = map lifted lines in
    let whole : Derives refutes_logged m best r xs q = lifted_derives derive in
    let node = derives_node m best rest nodes found is whole in
    between refl (logged_more l k places m plan from a b 0 plan.stretch xs _ node.state logged (places.lifts a b lines put) (derives_fit valid of whole) node.steps (omega (arith, node.few, less.more))
    (derives_well m best rest nodes found is of (omega (arith, few, length-map lines lifted)) whole)
    (derives_ongoing plan.limits plan.stretch (waiting_at r rest nodes found) less.ongoing whole) (derives_stretch plan.stretch whole))

pub broke_stops : {L : Type 0} (l : Ghosts L) (k : LineGhosts L) → ArePlaces l k → (m : Data) (plan : Plan) (from a b : L) (rest : List Region) (nodes : ℕ) (found : Option Found) (best : Option ℤ) (r q : Region)
    → IsValid m → IsRegionOf m r → best_of found ≡ best → MayOpen plan nodes → IsLogged l m plan from a 0 (waiting_at r rest nodes found) → Broke k m best (cap_at r) a b r q → Stopped l m plan.limits from b
broke_stops l k places m plan from a b rest nodes found best r q valid of is less logged (held {lines} put derive few) =
    held_stops l k places m plan from a b rest nodes found best r q lines valid of is less logged put derive few
broke_stops l k places m plan from a b rest nodes found best r q valid of is less logged (further {lines} {g} {w} put derive one few) =
    held_stops l k places m plan from a b rest nodes found best r (with_fact g q) (lines ++ Derive g w ∷ []) valid of is less logged put (derives_more g w derive one) (omega (arith, few, length-append lines (Derive g w ∷ [])))
broke_stops l k places m plan from a b rest nodes found best r q valid of is less logged (broken {lines} {g} {w} break derive one few) =
    let xs : List Plain = map lifted lines in
    let line : Plain = Derive g (lifted_witness w) in
    let whole = derives_more g (lifted_witness w) (lifted_derives derive) (lifted_derived m best q g w one) in
    let node = derives_node m best rest nodes found is whole in
    logged_break l k places m plan from a b 0 xs line _ node.state logged (places.lifts_broken a b lines (Derive g w) break) (derives_fit valid of whole) node.steps (omega (arith, node.few, less.more))
    (derives_well m best rest nodes found is of (omega (arith, few, length-map lines lifted, length-append xs (line ∷ []))) whole)
    (derives_ongoing plan.limits plan.stretch (waiting_at r rest nodes found) less.ongoing whole)

-- the line that ends the node
pub record EndsNode (line : Plain) : Type 0 where
  pub plain : is_restart line ≡ false
  pub none : (n : ℕ) → derived_after line n ≡ 0
  pub counted : (plan : Plan) → stretch_after line plan.stretch ≡ (with_closed plan).stretch

pub closed_to : {L : Type 0} (l : Ghosts L) (k : LineGhosts L) → ArePlaces l k → (m : Data) (plan : Plan) (from a b : L) (node : Node) (n : ℕ) (line : Plain) (t : LogState) → is_over plan.limits.restarts plan.stretch ≡ false → IsAtNode l m plan from a node n → l.writes a (line ∷ []) b
    → IsLine log_numbers log_valid line → IsWellPut m (best_of node.found) n line (Some node.region) → EndsNode line → step_at refutes_logged m node line ≡ Ok t → t.nodes ≤ plan.limits.nodes → IsLogged l m (with_closed plan) from b 0 t
closed_to l k places m plan from a b node n line t ongoing at put fit well ends steps few =
    let first = node_first at.state node at.at in
    let step = node_steps m at.state node line (ap not ends.plain) at.at ∙ steps in
    subst (λ j. IsLogged l m (with_closed plan) from b j t) (ends.none n)
    (logged_more l k places m plan from a b n (with_closed plan).stretch (line ∷ []) at.state t at.logged put (All-cons (IsLine log_numbers log_valid) line [] fit (All-nil (IsLine log_numbers log_valid))) (more step done) few
    (subst (λ o. IsWellPut m (best_of at.state.found) n line o) (sym first.0) (subst (λ f. IsWellPut m (best_of f) n line (Some node.region)) (sym first.1) well), λ v is. tt)
    (plain_next refutes_logged m plan.limits plan.stretch at.state line ends.plain (ongoing_not_due plan.limits plan.stretch at.state ongoing)) (ends.counted plan))

pub closed_break : {L : Type 0} (l : Ghosts L) (k : LineGhosts L) → ArePlaces l k → (m : Data) (plan : Plan) (from a b : L) (node : Node) (n : ℕ) (line : Plain) (t : LogState) → is_over plan.limits.restarts plan.stretch ≡ false → IsAtNode l m plan from a node n → l.cuts_off a [] line b
    → IsLine log_numbers log_valid line → IsWellPut m (best_of node.found) n line (Some node.region) → EndsNode line → step_at refutes_logged m node line ≡ Ok t → t.nodes ≤ plan.limits.nodes → Stopped l m plan.limits from b
closed_break l k places m plan from a b node n line t ongoing at break fit well ends steps few =
    let first = node_first at.state node at.at in
    let step = node_steps m at.state node line (ap not ends.plain) at.at ∙ steps in
    logged_break l k places m plan from a b n [] line at.state t at.logged break (All-cons (IsLine log_numbers log_valid) line [] fit (All-nil (IsLine log_numbers log_valid))) (more step done) few
    (subst (λ o. IsWellPut m (best_of at.state.found) n line o) (sym first.0) (subst (λ f. IsWellPut m (best_of f) n line (Some node.region)) (sym first.1) well), λ v is. tt)
    (plain_next refutes_logged m plan.limits plan.stretch at.state line ends.plain (ongoing_not_due plan.limits plan.stretch at.state ongoing))

-- why it broke off, counted from where the log began
pub causes_from : {L : Type 0} (l : Ghosts L) (k : LineGhosts L) → ArePlaces l k → (m : Data) (plan : Plan) (from a b : L) (n : ℕ) (s : LogState) → IsLogged l m plan from a n s → Rose (k.faults a) (k.faults b) × (k.calm a ≡ true → ⊥)
    → Rose (k.faults from) (k.faults b) × (k.calm from ≡ true → ⊥)
causes_from l k places m plan from a b n s is causes = (
  subst (λ j. Rose j (k.faults b)) (places.same_faults from a is.lines is.put) causes.0,
  λ calm. causes.1 (places.stays_calm from a is.lines is.put ∙ calm),
)

pub engine_causes : {L : Type 0} (l : Ghosts L) (k : LineGhosts L) → ArePlaces l k → (m : Data) (plan : Plan) (from a b : L) (n : ℕ) (s : LogState) (e : EngineFault) → IsLogged l m plan from a n s
    → (e ≡ fault.Lines → Rose (k.faults a) (k.faults b) × (k.calm a ≡ true → ⊥)) → Causes k (passed_on e) from b
engine_causes l k places m plan from a b n s fault.Lines is causes = causes_from l k places m plan from a b n s is (causes refl)
engine_causes l k places m plan from a b n s fault.NoMemory is causes = tt

-- what a run leaves where it isn't refuted: nothing to derive, or the most lines
pub spent_by : (quiet : Type 0) (n : ℕ) (m : Data) (best : Option ℤ) (r : Region) (stop : Stop) → Ends quiet m best r stop → Counts n r stop → IsSpent quiet n r stop
spent_by quiet n m best r Quiet ends counts = ends
spent_by quiet n m best r (Failed w) ends counts = tt
spent_by quiet n m best r Capped ends counts = counts.0

-- a fault that is handed on
pub derive_stops : {P L : Type 0} (p : PropagatorGhosts P) (l : Ghosts L) (k : LineGhosts L) (m : Data) (plan : Plan) (from now : L) (s : Search P) (r : Result Stop SolveFault) (why : SolveFault) → IsErrAnd r (λ f. f ≡ why) → Breaks l k m plan.limits why from now
    → Derived p l k m plan from now s r
derive_stops p l k m plan from now s (Ok x) why is breaks = absurd is
derive_stops p l k m plan from now s (Err f) why is breaks = subst (λ w. Breaks l k m plan.limits w from now) (sym is) breaks

pub visit_stops : {P L : Type 0} (l : Ghosts L) (k : LineGhosts L) (m : Data) (plan : Plan) (from now : L) (s : Search P) (r : Result Bool SolveFault) (why : SolveFault) → IsErrAnd r (λ f. f ≡ why) → Breaks l k m plan.limits why from now → GoesOn l k m plan from now s r
visit_stops l k m plan from now s (Ok x) why is breaks = absurd is
visit_stops l k m plan from now s (Err f) why is breaks = subst (λ w. Breaks l k m plan.limits w from now) (sym is) breaks

pub err_is : {T E : Type 0} (e f : E) → e ≡ f → ◌≡◌ {A = Result T E} (Err e) (Err f)
err_is e f same = ap (λ x. Err x) same
