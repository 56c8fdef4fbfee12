use Rattle.std.proofs.Common.{◌≡◌, Some, true, rules, refl, ap, subst, sym}
use Rattle.refute_basic.specs.declared.witness.BasicWitness.TheVariants as basic
use Rattle.prop_basic.specs.declared.hulls.Goal.TheVariants.{Beats}
use Rattle.prop_basic.specs.code.Goals.{misses}
use Rattle.prop_basic.specs.code.Tasks.{objective_of, IsSilent}
use Rattle.prop_basic.specs.laws.Silent.{obj_looks}
use Rattle.prop_basic.proofs.Asked.{obj_same, tree_silent, tree_busy, covers_obj, none_is, fits_some}
use Rattle.prop_basic.proofs.expressions.ask_objective.Goals as goal

pub returns-in_err-guess-clause-none : goal.returns-in_err-guess-clause-none
returns-in_err-guess-clause-none c =
    let m = c.args.model.now in
    let r = c.args.region.now.region in
    let o = c.in_ok-o.o.now in
    let is : m.objective ≡ Some o = search rules in
    let best : c.args.best ≡ Some c.in_ok-best.best = search rules in
    let tree = c.ask_tree.ensures.kept o.expr (fits_some (objective_of m.objective) c.args.tree.now o.expr c.in-Some.tree (ap objective_of is) c.in-Some.is c.requires.tree) in
    none_is c.from_residual-in_err-guess.result (subst (λ b. IsSilent m r b basic.Obj) (sym best) (tree_silent m r (Some c.in_ok-best.best) basic.Obj (misses m r o.expr (Beats o.sense _)) c.ask_tree.new.tree.intervals true
    (obj_same m r c.in_ok-best.best _ o (search rules) is) (λ g. refl) (obj_looks m c.ask_tree.new.tree.intervals (covers_obj m o c.ask_tree.new.tree is tree)) c.requires.of c.in_err-guess.ensures.none))

pub returns-clause-busy : goal.returns-clause-busy
returns-clause-busy c =
    let m = c.args.model.now in
    let r = c.args.region.now.region in
    let o = c.in_ok-o.o.now in
    let is : m.objective ≡ Some o = search rules in
    let best : c.args.best ≡ Some c.in_ok-best.best = search rules in
    λ silent. tree_busy m r (Some c.in_ok-best.best) basic.Obj (misses m r o.expr (Beats o.sense _)) c.ask_tree.new.tree.intervals (obj_same m r c.in_ok-best.best _ o (search rules) is) (λ g. refl) c.in_ok-guess.ensures.busy (subst (λ b. IsSilent m r b basic.Obj) best silent)
