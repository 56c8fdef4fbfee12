use Rattle.std.proofs.Common.{[], ◌∷◌, ◌<◌, map, drop, get_or, sym, ap, ◌∙◌, subst, rules, SFits, w64}
use Rattle.std.specs.Prelude.{nat_abs}
use Rattle.std.specs.Fmt.{signed_decimal}
use Rattle.std.proofs.lemmas.Int.{to_z-of_z}
use Rattle.refute_cumul.specs.Witness.{numbers_of as cumul_numbers}
use Rattle.logtext.specs.Spelling.{cumul_kinds}
use Rattle.textline.specs.Lines.{spaced}
use Rattle.sched_base.specs.declared.desk.Port.TheVariants.{Log}
use Rattle.gatherer.specs.code.Gathering.{Gathers}
use Rattle.logtext.specs.laws.Kinds.{cumul_placed}
use Rattle.logtext.proofs.Witnesses.{kind_place, some_number}
use Rattle.logtext.proofs.writer.LogWriter.put_cumul.Goals as goal

pub number-place-requires : goal.number-place-requires
number-place-requires g c = some_number cumul_kinds (cumul_numbers c.args.w.now) (cumul_placed c.args.w.now)

pub cumul_word-requires : goal.cumul_word-requires
cumul_word-requires g c =
    let there = kind_place cumul_kinds (cumul_numbers c.args.w.now) c.number-place.result (cumul_placed c.args.w.now) c.number-place.ensures in
    let fits : SFits w64 c.number-place.result = search rules in subst (λ z. nat_abs z < 1) (sym (to_z-of_z w64 c.number-place.result fits ∙ there.1)) there.2

pub returns : goal.returns
returns g c =
    let there = kind_place cumul_kinds (cumul_numbers c.args.w.now) c.number-place.result (cumul_placed c.args.w.now) c.number-place.ensures in
    let fits : SFits w64 c.number-place.result = search rules in
    let word = c.cumul_word.ensures ∙ ap (λ z. get_or cumul_kinds (nat_abs z) []) (to_z-of_z w64 c.number-place.result fits ∙ there.1) in
    subst (λ ws. Gathers Log (spaced ws) c.put_kind.result c.args.self.now c.put_kind.new.self (g.D.Desk.state c.args.desk.now) (g.D.Desk.state c.put_kind.new.desk)) (ap (λ w. w ∷ map signed_decimal (drop 1 (cumul_numbers c.args.w.now))) word ∙ sym there.3) c.put_kind.ensures
