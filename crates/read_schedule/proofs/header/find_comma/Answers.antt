use Rattle.read_schedule.proofs.spelling.Values.{finds_comma}
use Rattle.read_schedule.proofs.header.find_comma.Goals as goal

pub returns : goal.returns
returns c = finds_comma c.args.bytes.now c.memchr.result c.memchr.ensures
