use Rattle.std.proofs.Common.{slice_index_or, arith}
use Rattle.std.proofs.lemmas.List.{get_or_default}
use Rattle.hull_tree.proofs.Placing.{grown_on}
use Rattle.hull_tree.proofs.Meant.{product_more}
use Rattle.hull_tree.proofs.building.chain.Goals as goal

pub loop-x-preserved : goal.loop-x-preserved
loop-x-preserved c =
    let put = c.in_ok-so_far-2.ensures in
    let k = c.loop-x.x-index in
    let x = slice_index_or c.args.list.now k 0 in
    record {
      nodes = put.nodes;
      grown = grown_on c.put_leaf.new.nodes.items c.loop-x.nodes.items c.put_pair.new.nodes.items c.loop-x.invariant.grown put.grown;
      product = product_more c.loop-x.nodes.items c.put_pair.new.nodes.items c.args.list.now k c.loop-x.so_far x c.in_ok-so_far-2.so_far c.loop-x.invariant.product (omega arith) (get_or_default c.args.list.now k 0 x (omega arith)) put.grown put.at;
    }
