use Rattle.std.specs.Prelude.{◌≡◌, OnOk}
use Rattle.std.proofs.Common.{sym, subst}
use Rattle.region.specs.Guesses.{assumed, with_guess, guess_cell, guess_holds}
use Rattle.region.specs.code.Held.{Held}
use Rattle.region.specs.Narrows.{Narrows}
use Rattle.region.specs.laws.Narrowing.{HasPairs, guess_narrows, guess_stays, splitting}
use Rattle.region.proofs.Kept.{on_ok, either_way, held_changed, held_same}
use Rattle.region.proofs.region.Region.assume.Goals as goal

pub returns-clause-narrows : goal.returns-clause-narrows
returns-clause-narrows c =
    let pairs = subst (HasPairs c.args.self.now.region) c.topic.ensures c.assume_topic.ensures.pairs in
    on_ok c.assume_topic.result
    (λ is. subst (λ (h : Held). Narrows (guess_cell c.args.g) (guess_holds c.args.g) c.args.self.now.region h.region) (sym is) (guess_narrows c.args.self.now.region c.args.g pairs c.requires))
    (subst (λ t. OnOk c.assume_topic.result (c.assume_topic.new.self ≡ record c.args.self.now { region = assumed t c.args.self.now.region; spare = c.assume_topic.new.self.spare })) c.topic.ensures c.assume_topic.ensures.ok)

pub returns-clause-of : goal.returns-clause-of
returns-clause-of c = λ m of. either_way c.assume_topic.result
    (λ is. held_changed m c.args.self.now c.assume_topic.new.self (with_guess c.args.g c.args.self.now.region) is (guess_stays c.args.g m c.args.self.now.region (splitting c.args.self.now.region c.args.g c.requires).0) of)
    (λ same. held_same m c.args.self.now c.assume_topic.new.self same of)
    (subst (λ t. OnOk c.assume_topic.result (c.assume_topic.new.self ≡ record c.args.self.now { region = assumed t c.args.self.now.region; spare = c.assume_topic.new.self.spare })) c.topic.ensures c.assume_topic.ensures.ok)
    c.assume_topic.ensures.err
