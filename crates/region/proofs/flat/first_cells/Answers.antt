use Rattle.std.specs.Prelude.{◌*◌, map, length}
use Rattle.std.proofs.Common.{ap, sym, ◌∙◌}
use Rattle.region.specs.code.Flat.{Form, size_range}
use Rattle.region.proofs.Rooting.{few_sequences, first_room}
use Rattle.region.proofs.flat.first_cells.Goals as goal

pub new-requires-clause-sequences : goal.new-requires-clause-sequences
new-requires-clause-sequences c = rw c.sequences.ensures.list (few_sequences c.args.model.now c.in_ok-sizes.sizes c.sequences.ensures.valid (c.in_ok-sizes.ensures.sizes ∙ ap (map size_range) c.intervals.ensures.list))

pub with_orders-requires : goal.with_orders-requires
with_orders-requires c = first_room c.intervals.result.now c.in_ok-sizes.sizes c.in_ok-sizes.cells.items c.in_ok-sizes.ensures.sizes c.in_ok-sizes.ensures.cells ∙ ap (λ (f : Form). 5 * length f.sizes) (sym c.in_ok-frame.ensures)
