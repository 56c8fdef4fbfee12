use Rattle.std.proofs.Common.{◌≡◌, ◌+◌, ◌*◌, length, map, sym, subst, arith}
use Rattle.std.proofs.lemmas.List.{length-map}
use Rattle.region.specs.declared.frame.Row.{Row}
use Rattle.region.specs.code.Flat.{IsRow, pairs_before}
use Rattle.region.proofs.Frames.{rows_at}
use Rattle.region.proofs.frame.Frame.row.Goals as goal

pub returns-clause-row : goal.returns-clause-row
returns-clause-row c = rw (← c.self.view_is)
    (subst (λ (r : Row). IsRow (5 * length c.self.inside.sizes + pairs_before (map (λ row. row.members) c.self.inside.rows) c.args.p.0) r) (sym c.get.ensures)
    (rows_at (5 * length c.self.inside.sizes) c.self.inside.rows c.args.p.0 c.get.result.now c.self.invariant.rows (let size : length c.args.self.now.members ≡ length c.self.inside.rows = rw (← c.self.view_is) (length-map c.self.inside.rows (λ row. row.members)) in omega (arith, size, c.requires))))
