-- The statements of a generated text are formed, and nest few brackets.
use Rattle.std.proofs.Common.{◌≡◌, ℕ, suc, ◌≤◌, ℤ, pos, Bool, true, false, not, ◌&&◌, List, [], ◌∷◌, ◌++◌, map, length, nat_le, nat_lt, None, refl, sym, ap, ◌∙◌, arith}
use Rattle.std.specs.Prelude.{codes}
use Rattle.std.specs.List.{list_all}
use Rattle.std.proofs.lemmas.Bool.{and_from}
use Rattle.std.proofs.lemmas.List.{append_assoc}
use Rattle.std.proofs.lemmas.List.Sums.{length-filter}
use Rattle.base_laws.specs.laws.Items.{all_append}
use Rattle.base_laws.specs.laws.Kept.{none_pass}
use Rattle.base_laws.specs.laws.Numbers.{is_at_most}
use Rattle.cpo_text.specs.Words.{Word, Word as word, commas}
use Rattle.cpo_text.specs.Parts.{name_words}
use Rattle.cpo_text.specs.Runs.{is_deep, is_nesting, has_many_nestings}
use Rattle.cpo_text.specs.Expressions.{at_least, if_so, is_logic, level, level_step}
use Rattle.cpo_text.specs.declared.expression.Measure.TheVariants as measure
use Rattle.cpo_text.specs.declared.expression.Gather.TheVariants as gather
use Rattle.cpo_text.specs.declared.expression.Logic.TheViews.{roll-Logic}
use Rattle.cpo_text.specs.declared.expression.Logic.TheOpen.{Logic-F as logic}
use Rattle.cpo_text.specs.declared.expression.Logic.TheFolds.{fold-roll-Logic}
use Rattle.cpo_text.specs.declared.tree.Over.TheVariants as over
use Rattle.cpo_text.specs.declared.tree.Constrained.TheVariants as constrained
use Rattle.cpo_text.specs.declared.tree.Sense.TheVariants as sense
use Rattle.cpo_text.specs.declared.tree.Statement.TheVariants.{Constrain, Aim}
use Rattle.read_back.specs.Laws.{is_shallow}
use Rattle.generated_models.proofs.text.SaidShops.{overlap_words, overlap_spelt, end_words, end_of, aim_words, aim_spelt}

module _ (d : ℤ) (words : List ℕ → List Word) (keeps : (n : List ℕ) (tail : List Word) → is_deep d tail ≡ false → is_deep d (words n ++ tail) ≡ false)
    (comma : (tail : List Word) → is_deep d tail ≡ false → is_deep d (word.sign (44 ∷ []) ∷ tail) ≡ false) where
  pub row_deep : (ns : List (List ℕ)) (tail : List Word) → is_deep d tail ≡ false → is_deep d (commas (map words ns) ++ tail) ≡ false
  row_deep [] tail h = h
  row_deep (n ∷ []) tail h = keeps n tail h
  row_deep (n ∷ k ∷ ns) tail h =
      ap (is_deep d) (append_assoc (words n) (word.sign (44 ∷ []) ∷ commas (map words (k ∷ ns))) tail)
      ∙ keeps n (word.sign (44 ∷ []) ∷ (commas (map words (k ∷ ns)) ++ tail)) (comma (commas (map words (k ∷ ns)) ++ tail) (row_deep (k ∷ ns) tail h))

row_plain : (q : Word → Bool) (words : List ℕ → List Word) → ((n : List ℕ) → list_all q (words n) ≡ true) → q (word.sign (44 ∷ [])) ≡ true → (ns : List (List ℕ)) → list_all q (commas (map words ns)) ≡ true
row_plain q words each comma [] = refl
row_plain q words each comma (n ∷ []) = each n
row_plain q words each comma (n ∷ k ∷ ns) =
    all_append q (words n) (word.sign (44 ∷ []) ∷ commas (map words (k ∷ ns))) (each n) (and_from (q (word.sign (44 ∷ []))) _ comma (row_plain q words each comma (k ∷ ns)))

few_nestings : (ws : List Word) → list_all (λ w. not (is_nesting w)) ws ≡ true → has_many_nestings ws ≡ false
few_nestings ws plain = let none = sym (length-filter is_nesting ws) ∙ ap length (none_pass is_nesting ws plain) in ap (nat_lt 200) none

shallow : (ws : List Word) → is_deep (pos 0) ws ≡ false → list_all (λ w. not (is_nesting w)) ws ≡ true → (not (is_deep (pos 0) ws) && not (has_many_nestings ws)) ≡ true
shallow ws deep plain = and_from _ _ (ap not deep) (ap not (few_nestings ws plain))

pub overlap_shallow : (ns : List (List ℕ)) → is_shallow (Constrain (constrained.NoOverlap (over.Listed ns) None)) ≡ true
overlap_shallow ns =
    ap (λ ws. not (is_deep (pos 0) ws) && not (has_many_nestings ws)) (overlap_spelt ns)
    ∙ shallow (overlap_words ns)
    (row_deep (pos 2) name_words (λ n tail h. h) (λ tail h. h) ns (word.sign (codes "]") ∷ word.sign (codes ")") ∷ word.sign (codes ";") ∷ []) refl)
    (all_append (λ w. not (is_nesting w)) (commas (map name_words ns)) (word.sign (codes "]") ∷ word.sign (codes ")") ∷ word.sign (codes ";") ∷ []) (row_plain (λ w. not (is_nesting w)) name_words (λ n. refl) refl ns) refl)

pub aim_shallow : (ns : List (List ℕ)) → is_shallow (Aim sense.Minimize (roll-Logic (logic.Gathered gather.Max (map end_of ns)))) ≡ true
aim_shallow ns =
    let tail = word.sign (codes "]") ∷ word.sign (codes ")") ∷ word.sign (codes ")") ∷ word.sign (codes ";") ∷ [] in
    ap (λ ws. not (is_deep (pos 0) ws) && not (has_many_nestings ws)) (aim_spelt ns)
    ∙ shallow (aim_words ns)
    (row_deep (pos 3) end_words (λ n tail h. h) (λ tail h. h) ns tail refl)
    (all_append (λ w. not (is_nesting w)) (commas (map end_words ns)) tail (row_plain (λ w. not (is_nesting w)) end_words (λ n. refl) refl ns) refl)

ends_level : (ns : List (List ℕ)) → list_all (at_least 0) (map level (map end_of ns)) ≡ true
ends_level [] = refl
ends_level (n ∷ ns) = and_from _ _ (ap (at_least 0) (fold-roll-Logic _ level_step (logic.Measured measure.EndOf n None))) (ends_level ns)

some_more : (n : ℕ) → nat_le 1 (suc n) ≡ true
some_more n = is_at_most 1 (suc n) (omega arith)

some_ends : (ns : List (List ℕ)) → 1 ≤ length ns → nat_le 1 (length (map level (map end_of ns))) ≡ true
some_ends [] some = absurd (omega (arith, some))
some_ends (n ∷ ns) some = some_more (length (map level (map end_of ns)))

pub aim_formed : (ns : List (List ℕ)) → 1 ≤ length ns → is_logic (roll-Logic (logic.Gathered gather.Max (map end_of ns))) ≡ true
aim_formed ns some =
    let both = and_from _ _ (some_ends ns some) (ends_level ns) in
    ap (at_least 0) (fold-roll-Logic _ level_step (logic.Gathered gather.Max (map end_of ns)) ∙ ap (λ b. if_so b 7) both)
