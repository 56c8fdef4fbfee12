use Rattle.std.proofs.Common.{[], ◌∷◌, ◌<◌, map, drop, get_or, sym, ap, ◌∙◌, subst, rules, SFits, w64}
use Rattle.std.specs.Prelude.{nat_abs}
use Rattle.std.specs.Fmt.{signed_decimal}
use Rattle.std.proofs.lemmas.Int.{to_z-of_z}
use Rattle.refute_basic.specs.Witness.{numbers_of}
use Rattle.logtext.specs.Spelling.{basic_kinds}
use Rattle.sched_base.specs.declared.desk.Port.TheVariants.{Log}
use Rattle.gatherer.specs.code.Gathering.{Gathers}
use Rattle.logtext.specs.laws.Kinds.{basic_placed}
use Rattle.logtext.proofs.Witnesses.{kind_place, some_number}
use Rattle.logtext.proofs.writer.LogWriter.put_basic.Goals as goal
use Rattle.textline.specs.Lines.{spaced}

pub number-place-requires : goal.number-place-requires
number-place-requires g c = some_number basic_kinds (numbers_of c.args.w.now) (basic_placed c.args.w.now)

pub basic_word-requires : goal.basic_word-requires
basic_word-requires g c =
    let there = kind_place basic_kinds (numbers_of c.args.w.now) c.number-place.result (basic_placed c.args.w.now) c.number-place.ensures in
    let fits : SFits w64 c.number-place.result = search rules in subst (λ z. nat_abs z < 6) (sym (to_z-of_z w64 c.number-place.result fits ∙ there.1)) there.2

pub returns : goal.returns
returns g c =
    let there = kind_place basic_kinds (numbers_of c.args.w.now) c.number-place.result (basic_placed c.args.w.now) c.number-place.ensures in
    let fits : SFits w64 c.number-place.result = search rules in
    let word = c.basic_word.ensures ∙ ap (λ z. get_or basic_kinds (nat_abs z) []) (to_z-of_z w64 c.number-place.result fits ∙ there.1) in
    subst (λ ws. Gathers Log (spaced ws) c.put_kind.result c.args.self.now c.put_kind.new.self (g.D.Desk.state c.args.desk.now) (g.D.Desk.state c.put_kind.new.desk)) (ap (λ w. w ∷ map signed_decimal (drop 1 (numbers_of c.args.w.now))) word ∙ sym there.3) c.put_kind.ensures
