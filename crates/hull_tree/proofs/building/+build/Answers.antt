use Rattle.std.proofs.lemmas.List.{take_all}
use Rattle.std.proofs.Common.{◌≡◌, ◌++◌, ◌∷◌, [], rules, arith, subst, refl}
use Rattle.sched_model.specs.declared.types.Expr.TheVariants as full
use Rattle.hull_tree.specs.code.Meaning.{Means, MeanEach}
use Rattle.hull_tree.proofs.Placing.{grown_on}
use Rattle.hull_tree.proofs.Meant.{on_ok, means_neg, means_not, means_sum, means_product, means_max, means_min, means_and, means_or, means_compare, means_implies, means_start, means_end, means_size, means_length, means_presence, mean_turn, within_turn}
use Rattle.hull_tree.proofs.building.+build.Goals as goal

pub build-returns-in_ok-i-in-Neg-clause-means : goal.build-returns-in_ok-i-in-Neg-clause-means
build-returns-in_ok-i-in-Neg-clause-means t c =
    let is : full.Neg c.get.result.now ≡ c.args.e.now = search rules in
    on_ok c.put_pair.result c.put_pair.ensures.grown c.put_pair.ensures.at (λ i g at m. subst (Means m _ i) is (means_neg m _ _ c.in_ok-i-in-Neg.i i c.get.result.now (c.in_ok-i-in-Neg.ensures.means m) g at))

pub build-returns-in_ok-i-in-Not-clause-means : goal.build-returns-in_ok-i-in-Not-clause-means
build-returns-in_ok-i-in-Not-clause-means t c =
    let is : full.Not c.get-in-Not.result.now ≡ c.args.e.now = search rules in
    on_ok c.put_pair-in-Not.result c.put_pair-in-Not.ensures.grown c.put_pair-in-Not.ensures.at (λ i g at m. subst (Means m _ i) is (means_not m _ _ c.in_ok-i-in-Not.i i c.get-in-Not.result.now (c.in_ok-i-in-Not.ensures.means m) g at))

pub build-returns-in_ok-list-in-Sum-clause-means : goal.build-returns-in_ok-list-in-Sum-clause-means
build-returns-in_ok-list-in-Sum-clause-means t c =
    let is : full.Sum c.as_slice.result.now ≡ c.args.e.now = search rules in
    let same : c.in_ok-list-in-Sum.list.items ≡ c.as_slice-in-Sum.result.now = search rules in
    on_ok c.join_all.result c.join_all.ensures.grown c.join_all.ensures.joined (λ i g at m. subst (Means m _ i) is (means_sum m _ _ c.as_slice-in-Sum.result.now c.as_slice.result.now i (subst (λ is. MeanEach m c.roots.new.nodes.items is c.as_slice.result.now) same (c.in_ok-list-in-Sum.ensures.mean m)) g at))

pub build-returns-in_ok-list-in-Product-clause-means : goal.build-returns-in_ok-list-in-Product-clause-means
build-returns-in_ok-list-in-Product-clause-means t c =
    let is : full.Product c.as_slice-in-Product.result.now ≡ c.args.e.now = search rules in
    let same : c.in_ok-list-in-Product.list.items ≡ c.as_slice-in-Product-2.result.now = search rules in
    on_ok c.chain.result c.chain.ensures.grown c.chain.ensures.product (λ i g at m. subst (Means m _ i) is (means_product m _ _ c.as_slice-in-Product-2.result.now c.as_slice-in-Product.result.now _ i refl (subst (λ is. MeanEach m c.roots-in-Product.new.nodes.items is c.as_slice-in-Product.result.now) same (c.in_ok-list-in-Product.ensures.mean m)) g at))

pub build-returns-in_ok-list-in-Max-clause-means : goal.build-returns-in_ok-list-in-Max-clause-means
build-returns-in_ok-list-in-Max-clause-means t c =
    let is : full.Max c.as_slice-in-Max.result.now ≡ c.args.e.now = search rules in
    let same : c.in_ok-list-in-Max.list.items ≡ c.as_slice-in-Max-2.result.now = search rules in
    on_ok c.join_all-in-Max.result c.join_all-in-Max.ensures.grown c.join_all-in-Max.ensures.joined (λ i g at m. subst (Means m _ i) is (means_max m _ _ c.as_slice-in-Max-2.result.now c.as_slice-in-Max.result.now i (subst (λ is. MeanEach m c.roots-in-Max.new.nodes.items is c.as_slice-in-Max.result.now) same (c.in_ok-list-in-Max.ensures.mean m)) g at))

pub build-returns-in_ok-list-in-Min-clause-means : goal.build-returns-in_ok-list-in-Min-clause-means
build-returns-in_ok-list-in-Min-clause-means t c =
    let is : full.Min c.as_slice-in-Min.result.now ≡ c.args.e.now = search rules in
    let same : c.in_ok-list-in-Min.list.items ≡ c.as_slice-in-Min-2.result.now = search rules in
    on_ok c.join_all-in-Min.result c.join_all-in-Min.ensures.grown c.join_all-in-Min.ensures.joined (λ i g at m. subst (Means m _ i) is (means_min m _ _ c.as_slice-in-Min-2.result.now c.as_slice-in-Min.result.now i (subst (λ is. MeanEach m c.roots-in-Min.new.nodes.items is c.as_slice-in-Min.result.now) same (c.in_ok-list-in-Min.ensures.mean m)) g at))

pub build-returns-in_ok-list-in-And-clause-means : goal.build-returns-in_ok-list-in-And-clause-means
build-returns-in_ok-list-in-And-clause-means t c =
    let is : full.And c.as_slice-in-And.result.now ≡ c.args.e.now = search rules in
    let same : c.in_ok-list-in-And.list.items ≡ c.as_slice-in-And-2.result.now = search rules in
    on_ok c.join_all-in-And.result c.join_all-in-And.ensures.grown c.join_all-in-And.ensures.joined (λ i g at m. subst (Means m _ i) is (means_and m _ _ c.as_slice-in-And-2.result.now c.as_slice-in-And.result.now i (subst (λ is. MeanEach m c.roots-in-And.new.nodes.items is c.as_slice-in-And.result.now) same (c.in_ok-list-in-And.ensures.mean m)) g at))

pub build-returns-in_ok-list-in-Or-clause-means : goal.build-returns-in_ok-list-in-Or-clause-means
build-returns-in_ok-list-in-Or-clause-means t c =
    let is : full.Or c.as_slice-in-Or.result.now ≡ c.args.e.now = search rules in
    let same : c.in_ok-list-in-Or.list.items ≡ c.as_slice-in-Or-2.result.now = search rules in
    on_ok c.join_all-in-Or.result c.join_all-in-Or.ensures.grown c.join_all-in-Or.ensures.joined (λ i g at m. subst (Means m _ i) is (means_or m _ _ c.as_slice-in-Or-2.result.now c.as_slice-in-Or.result.now i (subst (λ is. MeanEach m c.roots-in-Or.new.nodes.items is c.as_slice-in-Or.result.now) same (c.in_ok-list-in-Or.ensures.mean m)) g at))

pub build-returns-in_ok-j-in-Compare-clause-means : goal.build-returns-in_ok-j-in-Compare-clause-means
build-returns-in_ok-j-in-Compare-clause-means t c =
    let is : full.Compare c.in-Compare.op c.get-in-Compare.result.now c.get-in-Compare-2.result.now ≡ c.args.e.now = search rules in
    on_ok c.put_pair-in-Compare.result c.put_pair-in-Compare.ensures.grown c.put_pair-in-Compare.ensures.at (λ i g at m. subst (Means m _ i) is
    (means_compare m _ _ _ c.in_ok-i-in-Compare.i c.in_ok-j-in-Compare.j i c.get-in-Compare.result.now c.get-in-Compare-2.result.now c.in-Compare.op (c.in_ok-i-in-Compare.ensures.means m) c.in_ok-j-in-Compare.ensures.grown (c.in_ok-j-in-Compare.ensures.means m) g at))

pub build-returns-in_ok-j-in-Implies-clause-means : goal.build-returns-in_ok-j-in-Implies-clause-means
build-returns-in_ok-j-in-Implies-clause-means t c =
    let is : full.Implies c.get-in-Implies.result.now c.get-in-Implies-2.result.now ≡ c.args.e.now = search rules in
    on_ok c.put_pair-in-Implies.result c.put_pair-in-Implies.ensures.grown c.put_pair-in-Implies.ensures.at (λ i g at m. subst (Means m _ i) is
    (means_implies m _ _ _ c.in_ok-i-in-Implies.i c.in_ok-j-in-Implies.j i c.get-in-Implies.result.now c.get-in-Implies-2.result.now (c.in_ok-i-in-Implies.ensures.means m) c.in_ok-j-in-Implies.ensures.grown (c.in_ok-j-in-Implies.ensures.means m) g at))

pub roots-loop-part-preserved : goal.roots-loop-part-preserved
roots-loop-part-preserved t c =
    let ns = c.loop-part.nodes.items in
    let ks = c.build.new.nodes.items in
    let more : c.push.new.self.items ≡ c.loop-part.list.items ++ c.in_ok-i.i ∷ [] = search rules in
    record {
      nodes = c.in_ok-i.ensures.nodes;
      grown = grown_on _ ns ks c.loop-part.invariant.grown c.in_ok-i.ensures.grown;
      within = within_turn ns ks c.loop-part.list.items c.push.new.self.items c.in_ok-i.i c.loop-part.invariant.within c.in_ok-i.ensures.grown c.in_ok-i.ensures.within more;
      mean = mean_turn ns ks c.loop-part.list.items c.push.new.self.items c.args.parts.now c.loop-part.part-index c.in_ok-i.i c.part-item.result c.loop-part.invariant.mean c.in_ok-i.ensures.grown c.in_ok-i.ensures.means (omega arith) c.part-item.is more;
    }

pub roots-returns-clause-mean : goal.roots-returns-clause-mean
roots-returns-clause-mean t c = λ m. subst (MeanEach m c.loop-part.nodes.items c.loop-part.list.items) (take_all c.loop-part.part-index c.args.parts.now c.loop-part-test.false) (c.loop-part.invariant.mean m)

pub build-returns-in-StartOf-clause-means : goal.build-returns-in-StartOf-clause-means
build-returns-in-StartOf-clause-means t c = on_ok c.put_leaf-in-StartOf.result c.put_leaf-in-StartOf.ensures.grown c.put_leaf-in-StartOf.ensures.at (λ i g at. means_start _ i c.in-StartOf.x c.in-StartOf.d _ c.args.e.now c.in-StartOf.is (search rules) at)

pub build-returns-in-EndOf-clause-means : goal.build-returns-in-EndOf-clause-means
build-returns-in-EndOf-clause-means t c = on_ok c.put_leaf-in-EndOf.result c.put_leaf-in-EndOf.ensures.grown c.put_leaf-in-EndOf.ensures.at (λ i g at. means_end _ i c.in-EndOf.x c.in-EndOf.d _ c.args.e.now c.in-EndOf.is (search rules) at)

pub build-returns-in-SizeOf-clause-means : goal.build-returns-in-SizeOf-clause-means
build-returns-in-SizeOf-clause-means t c = on_ok c.put_leaf-in-SizeOf.result c.put_leaf-in-SizeOf.ensures.grown c.put_leaf-in-SizeOf.ensures.at (λ i g at. means_size _ i c.in-SizeOf.x c.in-SizeOf.d _ c.args.e.now c.in-SizeOf.is (search rules) at)

pub build-returns-in-LengthOf-clause-means : goal.build-returns-in-LengthOf-clause-means
build-returns-in-LengthOf-clause-means t c = on_ok c.put_leaf-in-LengthOf.result c.put_leaf-in-LengthOf.ensures.grown c.put_leaf-in-LengthOf.ensures.at (λ i g at. means_length _ i c.in-LengthOf.x c.in-LengthOf.d _ c.args.e.now c.in-LengthOf.is (search rules) at)

pub build-returns-in-PresenceOf-clause-means : goal.build-returns-in-PresenceOf-clause-means
build-returns-in-PresenceOf-clause-means t c = on_ok c.put_leaf-in-PresenceOf.result c.put_leaf-in-PresenceOf.ensures.grown c.put_leaf-in-PresenceOf.ensures.at (λ i g at. means_presence _ i c.in-PresenceOf.x c.args.e.now c.in-PresenceOf.is at)
