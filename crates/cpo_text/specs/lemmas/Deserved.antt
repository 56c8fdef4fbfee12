-- Words deserve one number at most.
use Rattle.std.proofs.Common.{◌≡◌, inl, inr, ℕ, List, sym, ◌∙◌}
use Rattle.cpo_text.specs.Words.{Word}
use Rattle.cpo_text.specs.Reads.{DeservesNumber}

-- two numbers that words deserve are one
pub same_number : (ws : List Word) (n m : ℕ) → DeservesNumber ws n → DeservesNumber ws m → n ≡ m
same_number ws n m (inl told) (inl also) = cc (told, also)
same_number ws n m (inl told) (inr (none, rest)) = cc (told, none)
same_number ws n m (inr (none, rest)) (inl told) = cc (told, none)
same_number ws n m (inr (none, inl outside)) (inr (also, inl too)) = outside.0 ∙ sym too.0
same_number ws n m (inr (none, inl outside)) (inr (also, inr above)) = absurd (outside.1 above.1)
same_number ws n m (inr (none, inr above)) (inr (also, inl outside)) = absurd (outside.1 above.1)
same_number ws n m (inr (none, inr above)) (inr (also, inr too)) = above.0 ∙ sym too.0
