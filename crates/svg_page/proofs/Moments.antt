-- Moments that follow each other by steps.
use Rattle.std.proofs.Common.{◌≡◌, ◌∙◌, ℕ, zero, suc, ◌-◌, ◌<◌, ◌≤◌, ℤ, ◌+ℤ◌, [], ◌∷◌, ◌++◌, refl, sym, ap, append_assoc, append-nil, arith}
use Rattle.std.specs.List.{flat_map}
use Rattle.textline.specs.Lines.{Bytes}
use Rattle.svg_page.specs.Axis.{moments}

one_more : (n : ℕ) (t d : ℤ) → 0 < n → moments n t d ≡ t ∷ moments (n - 1) (t +ℤ d) d
unfolding moments
one_more zero t d some = absurd (omega arith)
one_more (suc n) t d some = let less : suc n - 1 ≡ n = omega arith in rw less refl

none_left : (n : ℕ) (t d : ℤ) → n ≤ 0 → moments n t d ≡ []
unfolding moments
none_left zero t d past = refl
none_left (suc n) t d past = absurd (omega arith)

pub moment_more : (f : ℤ → Bytes) (n : ℕ) (t u d : ℤ) (v w whole : Bytes) → v ++ flat_map f (moments n t d) ≡ whole → w ≡ v ++ f t → 0 < n → u ≡ t +ℤ d → w ++ flat_map f (moments (n - 1) u d) ≡ whole
moment_more f n t u d v w whole so_far put some next =
    ap (λ x. x ++ flat_map f (moments (n - 1) u d)) put
    ∙ append_assoc v (f t) (flat_map f (moments (n - 1) u d))
    ∙ ap (λ x. v ++ (f t ++ flat_map f (moments (n - 1) x d))) next
    ∙ ap (λ ts. v ++ flat_map f ts) (sym (one_more n t d some))
    ∙ so_far

pub moments_end : (f : ℤ → Bytes) (n : ℕ) (t d : ℤ) (v whole : Bytes) → n ≤ 0 → v ++ flat_map f (moments n t d) ≡ whole → v ≡ whole
moments_end f n t d v whole past so_far = sym (append-nil v) ∙ ap (λ ts. v ++ flat_map f ts) (sym (none_left n t d past)) ∙ so_far
