use Rattle.read_schedule.proofs.spelling.Texts.{finds_feed}
use Rattle.read_schedule.proofs.lines.find_feed.Goals as goal

pub returns : goal.returns
returns c = finds_feed c.args.bytes.now c.memchr.result c.memchr.ensures
