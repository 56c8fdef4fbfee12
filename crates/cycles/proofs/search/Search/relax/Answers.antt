use Rattle.std.proofs.Common.{rules, ◌≡◌, ◌+◌, true, length, sym, subst}
use Rattle.cycles.specs.code.Walks.{arc_at}
use Rattle.cycles.specs.code.Search.{Search, IsSearch, IsBehind, is_late, turn_of}
use Rattle.cycles.specs.laws.Pushed.{search_pushed}
use Rattle.cycles.specs.laws.Behind.{behind_pushed}
use Rattle.cycles.proofs.search.Search.relax.Goals as goal

pub returns-clause-search : goal.returns-clause-search
returns-clause-search c =
    let late : is_late c.args.self.now (arc_at c.args.arcs.now c.args.i) ≡ true = search rules in
    subst (λ (s : Search). IsSearch c.args.arcs.now c.args.n s) (sym c.in_ok-put.ensures)
    (search_pushed c.args.arcs.now c.args.n c.args.self.now c.args.i c.requires.of c.requires.short c.requires.below (c.requires.on c.args.i c.requires.below) late)

pub returns-clause-behind : goal.returns-clause-behind
returns-clause-behind c b k behind =
    let late : is_late c.args.self.now (arc_at c.args.arcs.now c.args.i) ≡ true = search rules in
    subst (λ (s : Search). IsBehind c.args.arcs.now b k (turn_of b (length c.args.arcs.now) c.args.i + 1) s) (sym c.in_ok-put.ensures)
    (behind_pushed c.args.arcs.now c.args.n c.args.self.now b c.args.i k c.requires.of c.requires.on c.requires.below late behind)
