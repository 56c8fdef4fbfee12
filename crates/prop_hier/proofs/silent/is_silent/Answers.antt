use Rattle.std.proofs.Common.{rules, ◌≡◌, ◌∙◌, sym, ap, Bool, ◌&&◌, ℤ, to_z, of_z}
use Rattle.std.specs.Int.{w64}
use Rattle.region.specs.declared.types.Bounds.{Bounds}
use Rattle.refute_hier.specs.declared.family.Kind.{Kind}
use Rattle.refute_hier.specs.declared.family.Kind.TheVariants.{Alternative}
use Rattle.prop_hier.specs.declared.counts.Counts.{Counts}
use Rattle.prop_hier.specs.code.Silent.{always_matches, has_another, is_silent}
use Rattle.prop_hier.proofs.silent.is_silent.Goals as goal

of_alternative : (kind : Kind) (count given : ℤ) (a b known : Bounds) (n : Counts) (p q : Bool) → kind ≡ Alternative count → given ≡ count → known ≡ b → q ≡ has_another given a.presence known.presence n → p ≡ (q && always_matches a known) → p ≡ is_silent kind a b n
of_alternative kind count given a b known n p q is fits same other silent =
    silent ∙ ap (λ o. o && always_matches a known) other ∙ ap (λ z. is_silent (Alternative z) a known n) fits ∙ ap (λ x. is_silent (Alternative count) a x n) same ∙ ap (λ k. is_silent k a b n) (sym is)

pub returns-then-has_another : goal.returns-then-has_another
returns-then-has_another c =
    let fits : to_z w64 (of_z w64 c.in-Alternative.count) ≡ c.in-Alternative.count = search rules in
    of_alternative _ _ _ _ _ _ _ _ _ c.in-Alternative.is fits c.known-b.ensures.value c.has_another.ensures (c.always_matches.ensures ∙ ap (λ o. o && always_matches c.args.a c.known-b.result) (sym c.if-has_another.true))

pub returns-else-has_another : goal.returns-else-has_another
returns-else-has_another c =
    let fits : to_z w64 (of_z w64 c.in-Alternative.count) ≡ c.in-Alternative.count = search rules in
    of_alternative _ _ _ _ _ _ _ _ _ c.in-Alternative.is fits c.known-b.ensures.value c.has_another.ensures (c.if-has_another.false ∙ ap (λ o. o && always_matches c.args.a c.known-b.result) (sym c.if-has_another.false))
