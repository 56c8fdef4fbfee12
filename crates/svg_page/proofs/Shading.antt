-- The sum of a stem, and the whole of an alternative, item by item.
use Rattle.std.proofs.Common.{◌≡◌, ◌∙◌, ℕ, ◌+◌, ◌<◌, ◌≤◌, Option, length, drop, get_or, sym}
use Rattle.std.proofs.lemmas.List.{at_drop_more, at_drop_all}
use Rattle.textline.specs.Lines.{Bytes}
use Rattle.svg_page.specs.Shades.{found_at, stem_sum}

pub stem_more : (name : Bytes) (i b d : ℕ) (found found' : Option ℕ) (total total' : ℕ) (whole : Option ℕ) → i < length name → b ≡ get_or name i d → found' ≡ found_at found total b → total' ≡ total + b
    → stem_sum found total (drop i name) ≡ whole → stem_sum found' total' (drop (i + 1) name) ≡ whole
stem_more name i b d found found' total total' whole within at f t so_far = rw (f, t, at) (sym (at_drop_more (stem_sum found total) name i d within) ∙ so_far)

pub stem_end : (name : Bytes) (i : ℕ) (found : Option ℕ) (total : ℕ) (whole : Option ℕ) → length name ≤ i → stem_sum found total (drop i name) ≡ whole → found ≡ whole
stem_end name i found total whole past so_far = sym (at_drop_all (stem_sum found total) name i past) ∙ so_far
