use Rattle.std.proofs.Common.{◌≡◌, rules, sym}
use Rattle.prop_energy.proofs.Remembering.{still_as}
use Rattle.prop_energy.proofs.known.Known.keep.Goals as goal

pub invariant_of-self-2 : goal.invariant_of-self-2
invariant_of-self-2 c =
    let all : c.extend_from_slice.new.self.items ≡ c.args.rows.now = search rules in
    still_as c.args.rows.now _ c.args.capacity _ c.requires (search rules) (sym all)
