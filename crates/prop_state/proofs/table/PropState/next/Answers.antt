use Rattle.std.proofs.Common.{◌≡◌, ◌∙◌, ◌<◌, ℕ, [], ◌++◌, List, length, take, drop, sym, subst, arith, rules}
use Rattle.std.specs.Prelude.{IfNone}
use Rattle.std.proofs.Math.Seq.{take-append_seam}
use Rattle.std.proofs.lemmas.List.{get_or_default}
use Rattle.refute_state.specs.code.Gathered.{demands_of}
use Rattle.prop_state.specs.declared.demands.Named.{Named}
use Rattle.prop_state.specs.code.Tasks.{size_of, quiet}
use Rattle.prop_state.specs.code.Tables.{AreDemands, AreIntervals}
use Rattle.prop_state.specs.code.Known.{AreKnown, Remembers}
use Rattle.prop_state.specs.code.Walks.{AreAll}
use Rattle.prop_state.specs.laws.Again.{known_now}
use Rattle.prop_state.proofs.Remembering.{known_set}
use Rattle.prop_state.proofs.table.PropState.next.Goals as goal

pub returns-in_default-clause-kept : goal.returns-in_default-clause-kept
returns-in_default-clause-kept c =
    let m = c.args.model.now in
    let k = c.args.k in
    let r = c.args.region.now.region in
    let notes = c.ask_demands.new.notes in
    let now = c.in_ok-now.now in
    let below = c.requires.below in
    let demands : AreDemands m (size_of m) c.self.inside.demands.items = subst (λ t. AreDemands m (size_of m) t.demands) (sym c.self.view_is) c.requires.of.demands in
    let intervals : AreIntervals m (size_of m) c.self.inside.intervals.items = subst (λ t. AreIntervals m (size_of m) t.intervals) (sym c.self.view_is) c.requires.of.intervals in
    let known : AreKnown m (size_of m) c.self.inside.known.items = subst (λ t. AreKnown m (size_of m) t.known) (sym c.self.view_is) c.requires.of.known in
    let size = demands.size in
    let within : k < length c.self.inside.demands.items = omega (arith, below, size) in
    let read : c.as_slice-cs.result.now ≡ c.index.result.now = search rules in
    let same : c.as_slice-cs.result.now ≡ demands_of m k = read ∙ c.index.ensures ∙ get_or_default c.self.inside.demands.items k c.index.result.now [] within ∙ demands.each k below in
    let all = subst (λ (ds : List ℕ). AreAll m r k ds notes) same c.in_ok-found.ensures.noted in
    let still = subst (λ o. IfNone o (quiet m k r c.args.best)) c.in_default.is c.in_ok-found.ensures.none in
    let as_many : length notes ≡ c.self.inside.notes.len = c.ask_demands.ensures.same ∙ c.deref_mut.ensures.len in
    let rest = drop (length notes) c.self.inside.notes.items in
    let held : c.deref.result.now ≡ notes = c.deref.ensures.value ∙ subst (λ n. take n (notes ++ rest) ≡ notes) as_many (take-append_seam notes rest) in
    let read_back : Remembers r (length c.as_slice-cs.result.now) notes now = subst (λ (ns : List Named). Remembers r (length c.as_slice-cs.result.now) ns now) held c.in_ok-now.ensures in
    let remembers = subst (λ (ds : List ℕ). Remembers r (length ds) notes now) same read_back in
    record { demands = demands; intervals = intervals; known = known_set m (size_of m) k c.self.inside.known.items now below (known_now m k r c.args.best notes now c.requires.region still all remembers) known }
