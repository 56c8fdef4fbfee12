use Rattle.std.proofs.Common.{◌≡◌, false, sym, ap, ◌∙◌, arith}
use Rattle.std.proofs.lemmas.Bool.Decides.{nat_tests}
use Rattle.sched_model.specs.Data.{same}
use Rattle.region.specs.Cells.{bounds_of}
use Rattle.prop_hier.specs.code.Counts.{counts_refute}
use Rattle.prop_hier.specs.code.Silent.{is_silent}
use Rattle.prop_hier.proofs.Quiet.{unrefuted_part}
use Rattle.prop_hier.proofs.member_test.MemberTest.is_silent.Goals as goal

pub returns : goal.returns
returns c = λ silent.
    let r = c.args.self.now.region.now.region in
    let kind = c.args.self.now.family.now.kind in
    let a = c.args.self.now.family.now.a in
    let x = c.args.self.now.x in
    let n = c.args.self.now.counts in
    let whole : c.known-whole.result ≡ bounds_of r a = c.known-whole.ensures.value ∙ ap (λ l. bounds_of l.region a) c.look-look.ensures.value in
    let other = c.if-self.false in
    let apart : same x a ≡ false = grind (arith, nat_tests, other) in
    unrefuted_part kind r a x c.args.self.now.family.now.parts.now n c.requires apart
    (sym (ap (λ b. counts_refute kind b.presence n) whole) ∙ sym c.counts_refute.ensures ∙ c.if-counts_refute.false)
    (sym (ap (λ b. is_silent kind b (bounds_of r x) n) whole) ∙ ap (λ l. is_silent kind c.known-whole.result (bounds_of l.region x) n) (sym c.look-look.ensures.value) ∙ sym c.is_silent.ensures ∙ silent)
