-- The lines of a generated text say the words of its statements.
use Rattle.std.proofs.Common.{◌≡◌, ℕ, pos, true, ◌&&◌, List, [], ◌∷◌, ◌++◌, map, None, refl, sym, ap, ◌∙◌}
use Rattle.std.specs.Prelude.{codes, decimal, flat_map}
use Rattle.std.specs.List.{list_all}
use Rattle.std.proofs.lemmas.Bool.{and_from}
use Rattle.std.proofs.lemmas.List.{append_assoc}
use Rattle.cpo_text.specs.Words.{Word, Word as word, commas}
use Rattle.cpo_text.specs.Parts.{name_words}
use Rattle.cpo_text.specs.Expressions.{logic_words, logic_step}
use Rattle.cpo_text.specs.Spelling.{spelling}
use Rattle.cpo_text.specs.declared.expression.Measure.TheVariants as measure
use Rattle.cpo_text.specs.declared.expression.Gather.TheVariants as gather
use Rattle.cpo_text.specs.declared.expression.Logic.{Logic}
use Rattle.cpo_text.specs.declared.expression.Logic.TheViews.{roll-Logic}
use Rattle.cpo_text.specs.declared.expression.Logic.TheOpen.{Logic-F as logic}
use Rattle.cpo_text.specs.declared.expression.Logic.TheFolds.{fold-roll-Logic}
use Rattle.cpo_text.specs.declared.tree.Ivarg.TheVariants as ivarg
use Rattle.cpo_text.specs.declared.tree.Definition.TheVariants as definition
use Rattle.cpo_text.specs.declared.tree.Temporal.TheVariants as temporal
use Rattle.cpo_text.specs.declared.tree.Over.TheVariants as over
use Rattle.cpo_text.specs.declared.tree.Constrained.TheVariants as constrained
use Rattle.cpo_text.specs.declared.tree.Sense.TheVariants as sense
use Rattle.cpo_text.specs.declared.tree.Statement.TheVariants.{Define, Constrain, Aim}
use Rattle.modelgen.specs.Generated.{listed, ended}
use Rattle.read_back.specs.Says.{Chunk, chunk_bytes, is_chunk, are_apart}
use Rattle.read_back.specs.Says.Chunk.{name, number, sign, blank}
use Rattle.read_back.specs.Trees.{int_tree}
use Rattle.generated_models.proofs.text.Said.{Line, feed, row, IsItem, row_bytes, row_said, row_are, row_apart}

pub interval_said : (n : List ℕ) (d : ℕ) → is_chunk (name n) ≡ true → is_chunk (number d) ≡ true
    → Line (ended (n ++ codes " = intervalVar(size=" ++ decimal d ++ codes ");")) (spelling (Define n (definition.IntervalVar (ivarg.Size (record { from = int_tree (pos d); to = None }) ∷ []))))
interval_said n d first second = record {
  chunks = name n ∷ blank 32 ∷ sign (codes "=") ∷ blank 32 ∷ name (codes "intervalVar") ∷ sign (codes "(") ∷ name (codes "size") ∷ sign (codes "=") ∷ number d ∷ sign (codes ")") ∷ sign (codes ";") ∷ blank 10 ∷ [];
  spelt = append_assoc (n ++ codes " = intervalVar(size=" ++ decimal d) (codes ");") (codes "\n")
      ∙ append_assoc (n ++ codes " = intervalVar(size=") (decimal d) (codes ");\n")
      ∙ append_assoc n (codes " = intervalVar(size=") (decimal d ++ codes ");\n");
  said = refl;
  are = and_from (is_chunk (name n)) (is_chunk (number d) && true) first (and_from (is_chunk (number d)) true second refl);
  apart = λ rest h. feed rest h;
}

pub order_said : (n k : List ℕ) → is_chunk (name n) ≡ true → is_chunk (name k) ≡ true
    → Line (ended (codes "endBeforeStart(" ++ n ++ codes "," ++ k ++ codes ");")) (spelling (Constrain (constrained.Between temporal.EndBeforeStart n k None)))
order_said n k first second = record {
  chunks = name (codes "endBeforeStart") ∷ sign (codes "(") ∷ name n ∷ sign (codes ",") ∷ name k ∷ sign (codes ")") ∷ sign (codes ";") ∷ blank 10 ∷ [];
  spelt = ap (λ l. codes "endBeforeStart(" ++ l) (append_assoc (n ++ codes "," ++ k) (codes ");") (codes "\n")
      ∙ append_assoc (n ++ codes ",") k (codes ");\n")
      ∙ append_assoc n (codes ",") (k ++ codes ");\n"));
  said = refl;
  are = and_from (is_chunk (name n)) (is_chunk (name k) && true) first (and_from (is_chunk (name k)) true second refl);
  apart = λ rest h. feed rest h;
}

-- names alone

abbrev onto_name : List ℕ → List Chunk → List Chunk
onto_name n tail = name n ∷ tail

names_item : IsItem onto_name (λ n. n) name_words
names_item = record {
  bytes = λ n tail. refl;
  said = λ n tail. refl;
  are = λ n tail first more. and_from (is_chunk (name n)) (list_all is_chunk tail) first more;
  opened = λ n tail h. h;
  behind = λ n tail h. h;
  before = λ n tail h. h;
  closed = λ n tail h. h;
}

same_texts : (ns : List (List ℕ)) → map (λ n. n) ns ≡ ns
same_texts [] = refl
same_texts (n ∷ ns) = ap (λ l. n ∷ l) (same_texts ns)

abbrev overlap_end : List Chunk
overlap_end = sign (codes ")") ∷ sign (codes ";") ∷ blank 10 ∷ []

-- what stands behind the items, bracket by bracket
closing : {X : Type 0} (xs : List X) (a b c : X) → xs ++ a ∷ [] ++ b ∷ [] ++ c ∷ [] ≡ xs ++ a ∷ b ∷ c ∷ []
closing xs a b c = append_assoc (xs ++ a ∷ []) (b ∷ []) (c ∷ []) ∙ append_assoc xs (a ∷ []) (b ∷ c ∷ [])

abbrev overlap_chunks : List (List ℕ) → List Chunk
overlap_chunks ns = name (codes "noOverlap") ∷ sign (codes "(") ∷ sign (codes "[") ∷ row onto_name ns (sign (codes "]") ∷ overlap_end)

apart_before : (onto : List ℕ → List Chunk → List Chunk) (ns : List (List ℕ)) (tail rest : List Chunk) → ((n : List ℕ) (t r : List Chunk) → onto n t ++ r ≡ onto n (t ++ r)) → row onto ns tail ++ rest ≡ row onto ns (tail ++ rest)
apart_before onto [] tail rest through = refl
apart_before onto (n ∷ []) tail rest through = through n tail rest
apart_before onto (n ∷ k ∷ ns) tail rest through =
    through n (sign (44 ∷ []) ∷ row onto (k ∷ ns) tail) rest ∙ ap (λ l. onto n (sign (44 ∷ []) ∷ l)) (apart_before onto (k ∷ ns) tail rest through)

abbrev pub overlap_words : List (List ℕ) → List Word
overlap_words ns = word.name (codes "noOverlap") ∷ word.sign (codes "(") ∷ word.sign (codes "[") ∷ (commas (map name_words ns) ++ word.sign (codes "]") ∷ word.sign (codes ")") ∷ word.sign (codes ";") ∷ [])

pub overlap_spelt : (ns : List (List ℕ)) → spelling (Constrain (constrained.NoOverlap (over.Listed ns) None)) ≡ overlap_words ns
overlap_spelt ns = ap (λ l. word.name (codes "noOverlap") ∷ word.sign (codes "(") ∷ word.sign (codes "[") ∷ l) (closing (commas (map name_words ns)) (word.sign (codes "]")) (word.sign (codes ")")) (word.sign (codes ";")))

pub overlap_said : (ns : List (List ℕ)) → list_all (λ n. is_chunk (name n)) ns ≡ true
    → Line (ended (codes "noOverlap([" ++ listed ns ++ codes "]);")) (spelling (Constrain (constrained.NoOverlap (over.Listed ns) None)))
overlap_said ns told =
    let bytes = row_bytes onto_name (λ n. n) name_words names_item ns (sign (codes "]") ∷ overlap_end) in
    let words = row_said onto_name (λ n. n) name_words names_item ns (sign (codes "]") ∷ overlap_end) in
    record {
      chunks = overlap_chunks ns;
      spelt = ap (λ l. codes "noOverlap([" ++ l) (append_assoc (listed ns) (codes "]);") (codes "\n") ∙ ap (λ l. listed l ++ codes "]);\n") (sym (same_texts ns)) ∙ sym bytes);
      said = overlap_spelt ns ∙ ap (λ l. word.name (codes "noOverlap") ∷ word.sign (codes "(") ∷ word.sign (codes "[") ∷ l) (sym words);
      are = row_are onto_name (λ n. n) name_words names_item ns (sign (codes "]") ∷ overlap_end) told refl;
      apart = λ rest h. ap (λ l. are_apart (sign (codes "[") ∷ l)) (apart_before onto_name ns (sign (codes "]") ∷ overlap_end) rest (λ n t r. refl))
          ∙ row_apart onto_name (λ n. n) name_words names_item ns (overlap_end ++ rest) (feed rest h);
    }

-- the ends of operations

abbrev onto_end : List ℕ → List Chunk → List Chunk
onto_end n tail = name (codes "endOf") ∷ sign (codes "(") ∷ name n ∷ sign (codes ")") ∷ tail

abbrev pub end_text : List ℕ → List ℕ
end_text n = codes "endOf(" ++ n ++ codes ")"

abbrev pub end_words : List ℕ → List Word
end_words n = word.name (codes "endOf") ∷ word.sign (codes "(") ∷ word.name n ∷ word.sign (codes ")") ∷ []

ends_item : IsItem onto_end end_text end_words
ends_item = record {
  bytes = λ n tail. ap (λ l. codes "endOf(" ++ l) (sym (append_assoc n (codes ")") (flat_map chunk_bytes tail)));
  said = λ n tail. refl;
  are = λ n tail first more. and_from (is_chunk (name n)) (list_all is_chunk tail) first more;
  opened = λ n tail h. h;
  behind = λ n tail h. h;
  before = λ n tail h. h;
  closed = λ n tail h. h;
}

abbrev aim_end : List Chunk
aim_end = sign (codes ")") ∷ sign (codes ")") ∷ sign (codes ";") ∷ blank 10 ∷ []

closing_aim : {X : Type 0} (xs : List X) (a b c d : X) → xs ++ a ∷ [] ++ b ∷ [] ++ c ∷ [] ++ d ∷ [] ≡ xs ++ a ∷ b ∷ c ∷ d ∷ []
closing_aim xs a b c d = ap (λ l. l ++ d ∷ []) (closing xs a b c) ∙ append_assoc xs (a ∷ b ∷ c ∷ []) (d ∷ [])

abbrev pub aim_words : (ns : List (List ℕ)) → List Word
aim_words ns = word.name (codes "minimize") ∷ word.sign (codes "(") ∷ word.name (codes "max") ∷ word.sign (codes "(") ∷ word.sign (codes "[")
    ∷ (commas (map end_words ns) ++ word.sign (codes "]") ∷ word.sign (codes ")") ∷ word.sign (codes ")") ∷ word.sign (codes ";") ∷ [])

abbrev pub end_of : List ℕ → Logic
end_of n = roll-Logic (logic.Measured measure.EndOf n None)

ends_spelt : (ns : List (List ℕ)) → map logic_words (map end_of ns) ≡ map end_words ns
ends_spelt [] = refl
ends_spelt (n ∷ ns) =
    let here = fold-roll-Logic (List Word) logic_step (logic.Measured measure.EndOf n None) in
    let rest = ends_spelt ns in
    λ i. here i ∷ rest i

pub aim_spelt : (ns : List (List ℕ)) → spelling (Aim sense.Minimize (roll-Logic (logic.Gathered gather.Max (map end_of ns)))) ≡ aim_words ns
aim_spelt ns =
    ap (λ ws. word.name (codes "minimize") ∷ word.sign (codes "(") ∷ (ws ++ word.sign (codes ")") ∷ [] ++ word.sign (codes ";") ∷ [])) (fold-roll-Logic (List Word) logic_step (logic.Gathered gather.Max (map end_of ns)))
    ∙ ap (λ l. word.name (codes "minimize") ∷ word.sign (codes "(") ∷ word.name (codes "max") ∷ word.sign (codes "(") ∷ word.sign (codes "[") ∷ l)
    (ap (λ es. commas es ++ word.sign (codes "]") ∷ [] ++ word.sign (codes ")") ∷ [] ++ word.sign (codes ")") ∷ [] ++ word.sign (codes ";") ∷ []) (ends_spelt ns)
    ∙ closing_aim (commas (map end_words ns)) (word.sign (codes "]")) (word.sign (codes ")")) (word.sign (codes ")")) (word.sign (codes ";")))

pub aim_said : (ns : List (List ℕ)) → list_all (λ n. is_chunk (name n)) ns ≡ true → Line (ended (codes "minimize(max([" ++ listed (map end_text ns) ++ codes "]));")) (aim_words ns)
aim_said ns told =
    let bytes = row_bytes onto_end end_text end_words ends_item ns (sign (codes "]") ∷ aim_end) in
    let words = row_said onto_end end_text end_words ends_item ns (sign (codes "]") ∷ aim_end) in
    record {
      chunks = name (codes "minimize") ∷ sign (codes "(") ∷ name (codes "max") ∷ sign (codes "(") ∷ sign (codes "[") ∷ row onto_end ns (sign (codes "]") ∷ aim_end);
      spelt = ap (λ l. codes "minimize(max([" ++ l) (append_assoc (listed (map end_text ns)) (codes "]));") (codes "\n") ∙ sym bytes);
      said = ap (λ l. word.name (codes "minimize") ∷ word.sign (codes "(") ∷ word.name (codes "max") ∷ word.sign (codes "(") ∷ word.sign (codes "[") ∷ l) (sym words);
      are = row_are onto_end end_text end_words ends_item ns (sign (codes "]") ∷ aim_end) told refl;
      apart = λ rest h. ap (λ l. are_apart (sign (codes "[") ∷ l)) (apart_before onto_end ns (sign (codes "]") ∷ aim_end) rest (λ n t r. refl))
          ∙ row_apart onto_end end_text end_words ends_item ns (aim_end ++ rest) (feed rest h);
    }
