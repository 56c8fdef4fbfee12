-- The words and the level of each kind of expression, and where its words begin.
use Rattle.std.proofs.Common.{◌≡◌, ℕ, suc, ◌≤◌, nat_le, Bool, true, false, ◌&&◌, List, [], ◌∷◌, ◌++◌, map, Option, Some, None, refl, arith}
use Rattle.std.specs.Prelude.{codes}
use Rattle.std.proofs.lemmas.Bool.Decides.{nat_tests}
use Rattle.cpo_text.specs.Words.{Word, size_word, between, round, call}
use Rattle.cpo_text.specs.Words.Word.{sign}
use Rattle.cpo_text.specs.Spelling.{int_items, name_words}
use Rattle.cpo_text.specs.Expressions.{measure_word, gather_word, link_sign, comparison_sign, square, sum_words, logic_step, logic_words, at_least, all_at_least, if_so, are_many, link_level, gathers, level_step, level}
use Rattle.cpo_text.specs.code.Levels.{lit, group, presence, gathered, linked, neg, total, compare, negation, implies}
use Rattle.cpo_text.specs.declared.tree.Int.{Int}
use Rattle.cpo_text.specs.declared.expression.Measure.{Measure}
use Rattle.cpo_text.specs.declared.expression.Gather.{Gather}
use Rattle.cpo_text.specs.declared.expression.Link.{Link}
use Rattle.cpo_text.specs.declared.expression.Comparison.{Comparison}
use Rattle.cpo_text.specs.declared.expression.Logic.{Logic, roll-Logic}
use Rattle.cpo_text.specs.declared.expression.Logic.TheOpen.{Logic-F as tree}
use Rattle.cpo_text.specs.declared.expression.Logic.TheFolds.{fold-roll-Logic}

abbrev pub measured : Measure → List ℕ → Option Int → Logic
measured m a d = roll-Logic (tree.Measured m a d)

-- words

pub words_lit : (n : Option ℕ) → logic_words (lit n) ≡ size_word n ∷ []
words_lit n = simp (fold-roll-Logic (List Word) logic_step) refl

pub words_group : (e : Logic) → logic_words (group e) ≡ round (logic_words e)
words_group e = simp (fold-roll-Logic (List Word) logic_step) refl

pub words_presence : (a : List ℕ) → logic_words (presence a) ≡ call (codes "presenceOf") (name_words a ∷ [])
words_presence a = simp (fold-roll-Logic (List Word) logic_step) refl

pub words_measured : (m : Measure) (a : List ℕ) (d : Option Int) → logic_words (measured m a d) ≡ call (measure_word m) (name_words a ∷ int_items d)
words_measured m a d = simp (fold-roll-Logic (List Word) logic_step) refl

pub words_gathered : (g : Gather) (es : List Logic) → logic_words (gathered g es) ≡ call (gather_word g) (square (map logic_words es) ∷ [])
words_gathered g es = simp (fold-roll-Logic (List Word) logic_step) refl

pub words_linked : (l : Link) (es : List Logic) → logic_words (linked l es) ≡ between (link_sign l) (map logic_words es)
words_linked l es = simp (fold-roll-Logic (List Word) logic_step) refl

pub words_neg : (e : Logic) → logic_words (neg e) ≡ sign (codes "-") ∷ logic_words e
words_neg e = simp (fold-roll-Logic (List Word) logic_step) refl

pub words_total : (es : List Logic) → logic_words (total es) ≡ sum_words (map logic_words es)
words_total es = simp (fold-roll-Logic (List Word) logic_step) refl

pub words_compare : (op : Comparison) (a b : Logic) → logic_words (compare op a b) ≡ logic_words a ++ sign (comparison_sign op) ∷ logic_words b
words_compare op a b = simp (fold-roll-Logic (List Word) logic_step) refl

pub words_negation : (e : Logic) → logic_words (negation e) ≡ sign (codes "!") ∷ logic_words e
words_negation e = simp (fold-roll-Logic (List Word) logic_step) refl

pub words_implies : (a b : Logic) → logic_words (implies a b) ≡ logic_words a ++ sign (codes "=>") ∷ logic_words b
words_implies a b = simp (fold-roll-Logic (List Word) logic_step) refl

-- levels

abbrev pub is_tight : ℕ → Logic → Bool
is_tight n e = at_least n (level e)

abbrev pub all_tight : ℕ → List Logic → Bool
all_tight n es = all_at_least n (map level es)

pub level_lit : (n : Option ℕ) → level (lit n) ≡ Some 7
level_lit n = simp (fold-roll-Logic (Option ℕ) level_step) refl

pub level_group : (e : Logic) → level (group e) ≡ if_so (is_tight 0 e) 7
level_group e = simp (fold-roll-Logic (Option ℕ) level_step) refl

pub level_presence : (a : List ℕ) → level (presence a) ≡ Some 7
level_presence a = simp (fold-roll-Logic (Option ℕ) level_step) refl

pub level_measured : (m : Measure) (a : List ℕ) (d : Option Int) → level (measured m a d) ≡ Some 7
level_measured m a d = simp (fold-roll-Logic (Option ℕ) level_step) refl

pub level_gathered : (g : Gather) (es : List Logic) → level (gathered g es) ≡ if_so (gathers g (map level es) && all_tight 0 es) 7
level_gathered g es = simp (fold-roll-Logic (Option ℕ) level_step) refl

pub level_linked : (l : Link) (es : List Logic) → level (linked l es) ≡ if_so (are_many (map level es) && all_tight (suc (link_level l)) es) (link_level l)
level_linked l es = simp (fold-roll-Logic (Option ℕ) level_step) refl

pub level_neg : (e : Logic) → level (neg e) ≡ if_so (is_tight 6 e) 5
level_neg e = simp (fold-roll-Logic (Option ℕ) level_step) refl

pub level_total : (es : List Logic) → level (total es) ≡ if_so (are_many (map level es) && all_tight 5 es) 4
level_total es = simp (fold-roll-Logic (Option ℕ) level_step) refl

pub level_compare : (op : Comparison) (a b : Logic) → level (compare op a b) ≡ if_so (is_tight 4 a && is_tight 4 b) 3
level_compare op a b = simp (fold-roll-Logic (Option ℕ) level_step) refl

pub level_negation : (e : Logic) → level (negation e) ≡ if_so (is_tight 3 e) 3
level_negation e = simp (fold-roll-Logic (Option ℕ) level_step) refl

pub level_implies : (a b : Logic) → level (implies a b) ≡ if_so (is_tight 1 a && is_tight 0 b) 0
level_implies a b = simp (fold-roll-Logic (Option ℕ) level_step) refl

-- levels compared

pub and_first : (a b : Bool) → (a && b) ≡ true → a ≡ true
and_first true b h = refl
and_first false b h = cc

pub and_second : (a b : Bool) → (a && b) ≡ true → b ≡ true
and_second true b h = h
and_second false b h = cc

-- a level that is there is so high
pub so_high : (n m : ℕ) (b : Bool) → b ≡ true → n ≤ m → at_least n (if_so b m) ≡ true
so_high n m true h below = grind (arith, nat_tests)
so_high n m false h below = cc

-- what a level that is there says
pub is_so : (n m : ℕ) (b : Bool) → at_least n (if_so b m) ≡ true → b ≡ true
is_so n m true h = refl
is_so n m false h = cc

pub not_higher : (n m : ℕ) (b : Bool) → at_least n (if_so b m) ≡ true → n ≤ m
not_higher n m true h = grind (arith, nat_tests)
not_higher n m false h = cc

le_some : (n m k : ℕ) → n ≤ m → nat_le m k ≡ true → nat_le n k ≡ true
le_some n m k below h = grind (arith, nat_tests)

pub looser : (n m : ℕ) (o : Option ℕ) → n ≤ m → at_least m o ≡ true → at_least n o ≡ true
looser n m None below h = cc
looser n m (Some k) below h = le_some n m k below h
