use Rattle.std.specs.Prelude.{◌≡◌, not, OnOk}
use Rattle.std.proofs.Common.{sym, subst}
use Rattle.region.specs.Guesses.{refused, with_fact, fact_cell, guess_holds}
use Rattle.region.specs.code.Held.{Held}
use Rattle.region.specs.Narrows.{Narrows}
use Rattle.region.specs.laws.Narrowing.{HasPairs, fact_narrows, fact_stays}
use Rattle.region.proofs.Kept.{on_ok, either_way, held_changed, held_same}
use Rattle.region.proofs.region.Region.learn.Goals as goal

pub returns-clause-narrows : goal.returns-clause-narrows
returns-clause-narrows c =
    let pairs = subst (HasPairs c.args.self.now.region) c.topic.ensures c.refuse_topic.ensures.pairs in
    on_ok c.refuse_topic.result
    (λ is. subst (λ (h : Held). Narrows (fact_cell c.args.f.0) (λ a. not (guess_holds c.args.f.0 a)) c.args.self.now.region h.region) (sym is) (fact_narrows c.args.self.now.region c.args.f.0 pairs c.requires))
    (subst (λ t. OnOk c.refuse_topic.result (c.refuse_topic.new.self ≡ record c.args.self.now { region = refused t c.args.self.now.region; spare = c.refuse_topic.new.self.spare })) c.topic.ensures c.refuse_topic.ensures.ok)

pub returns-clause-of : goal.returns-clause-of
returns-clause-of c = λ m of. either_way c.refuse_topic.result
    (λ is. held_changed m c.args.self.now c.refuse_topic.new.self (with_fact c.args.f.0 c.args.self.now.region) is (fact_stays c.args.f.0 m c.args.self.now.region c.requires) of)
    (λ same. held_same m c.args.self.now c.refuse_topic.new.self same of)
    (subst (λ t. OnOk c.refuse_topic.result (c.refuse_topic.new.self ≡ record c.args.self.now { region = refused t c.args.self.now.region; spare = c.refuse_topic.new.self.spare })) c.topic.ensures c.refuse_topic.ensures.ok)
    c.refuse_topic.ensures.err
