use Rattle.std.proofs.Common.{◌≡◌, ◌++◌, true, length}
use Rattle.std.specs.List.{list_all, flat_map}
use Rattle.kernel.specs.Fit.{is_fit_order}
use Rattle.logtext.specs.Spelling.{order_words}
use Rattle.logtext.proofs.solution.read_orders.Given as goal

abbrev pub invariant-loop-order : goal.invariant-loop-order
invariant-loop-order l = record {
  fit : list_all is_fit_order l.orders ≡ true;
  same : l.fn.words ≡ flat_map order_words l.orders ++ l.words;
}

abbrev pub decreases-loop-order : goal.decreases-loop-order
decreases-loop-order l = length l.words
