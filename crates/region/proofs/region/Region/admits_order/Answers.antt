use Rattle.std.proofs.Common.{◌&&◌, length, rules}
use Rattle.std.specs.Prelude.{nat_lt}
use Rattle.region.specs.Cells.{cells_of}
use Rattle.region.specs.Guesses.{is_open_between, may_be_there}
use Rattle.region.proofs.region.Region.admits_order.Goals as goal
use Rattle.base_laws.specs.laws.Truth.{third_decides}

pub returns : goal.returns
returns c = third_decides (nat_lt c.args.p.0 (length c.args.self.now.region.orders) && is_open_between (cells_of c.args.self.now.region c.args.p) c.args.x c.args.y) (may_be_there c.args.self.now.region c.args.x) (may_be_there c.args.self.now.region c.args.y) c.may_be_there-2.result (search rules) (search rules) (search rules)
