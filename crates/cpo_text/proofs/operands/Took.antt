-- What a reader of expressions takes is spelled so, and holds together as its level asks.
use Rattle.std.proofs.Common.{◌≡◌, ℕ, ◌≤◌, true, List, [], ◌∷◌, ◌++◌, map, refl, sym, ap, subst, ◌∙◌, append_assoc}
use Rattle.std.specs.Prelude.{codes}
use Rattle.std.proofs.lemmas.Bool.{and_from}
use Rattle.cpo_text.specs.Words.{Word, commas}
use Rattle.cpo_text.specs.Words.Word.{sign}
use Rattle.cpo_text.specs.Expressions.{logic_words, level}
use Rattle.cpo_text.specs.code.Levels.{node, paired}
use Rattle.cpo_text.specs.declared.expression.Logic.{Logic}
use Rattle.cpo_text.proofs.operands.Binds.{both}
use Rattle.cpo_text.proofs.operands.Nodes.{is_tight, all_tight, looser}

-- one expression
pub record One (n : ℕ) (ws : List Word) (es : List Logic) (rest : List Word) : Type 0 where
  pub tree : Logic
  pub is : es ≡ tree ∷ []
  pub spelt : ws ≡ logic_words tree ++ rest
  pub tight : is_tight n tree ≡ true

-- none, one or more, with the words of them all
pub record Many (n : ℕ) (words : List Logic → List Word) (ws : List Word) (es : List Logic) (rest : List Word) : Type 0 where
  pub spelt : ws ≡ words es ++ rest
  pub tight : all_tight n es ≡ true

pub one_moved : (n m : ℕ) (ws : List Word) (a es : List Logic) (r rest : List Word) → n ≤ m → One m ws a r → a ≡ es → r ≡ rest → One n ws es rest
one_moved n m ws a es r rest below one same end =
    record { tree = one.tree; is = sym same ∙ one.is; spelt = one.spelt ∙ ap (λ xs. logic_words one.tree ++ xs) end; tight = looser n m (level one.tree) below one.tight }

pub prefix_took : (f : Logic → Logic) (s : List ℕ) (m n : ℕ) (ws r : List Word) (a es : List Logic) (r2 rest : List Word)
    → ((x : Logic) → logic_words (f x) ≡ sign s ∷ logic_words x) → ((x : Logic) → is_tight m x ≡ true → is_tight n (f x) ≡ true)
    → ws ≡ sign s ∷ r → One m r a r2 → map f a ≡ es → r2 ≡ rest → One n ws es rest
prefix_took f s m n ws r a es r2 rest words tight front one same end = record {
  tree = f one.tree;
  is = sym same ∙ ap (map f) one.is;
  spelt = front ∙ ap (λ xs. sign s ∷ xs) (one.spelt ∙ ap (λ xs. logic_words one.tree ++ xs) end) ∙ ap (λ xs. xs ++ rest) (sym (words one.tree));
  tight = tight one.tree one.tight;
}

pub pair_took : (f : Logic → Logic → Logic) (s : List ℕ) (m k n : ℕ) (ws r : List Word) (a b es : List Logic) (r2 r3 rest : List Word)
    → ((x y : Logic) → logic_words (f x y) ≡ logic_words x ++ sign s ∷ logic_words y)
    → ((x y : Logic) → is_tight m x ≡ true → is_tight k y ≡ true → is_tight n (f x y) ≡ true)
    → One m ws a r → r ≡ sign s ∷ r2 → One k r2 b r3 → paired f a b ≡ es → r3 ≡ rest → One n ws es rest
pair_took f s m k n ws r a b es r2 r3 rest words tight one mid two same end = record {
  tree = f one.tree two.tree;
  is = sym same ∙ both (paired f) one.is two.is;
  spelt = one.spelt ∙ ap (λ xs. logic_words one.tree ++ xs) (mid ∙ ap (λ xs. sign s ∷ xs) (two.spelt ∙ ap (λ xs. logic_words two.tree ++ xs) end))
      ∙ sym (append_assoc (logic_words one.tree) (sign s ∷ logic_words two.tree) rest) ∙ ap (λ xs. xs ++ rest) (sym (words one.tree two.tree));
  tight = tight one.tree two.tree one.tight two.tight;
}

-- one operand, or a node of the first and the others
pub node_took : (f : List Logic → Logic) (words : List Logic → List Word) (m n : ℕ) (ws r : List Word) (a b es : List Logic) (r2 rest : List Word)
    → n ≤ m → ((x y : Logic) (ys : List Logic) → logic_words (f (x ∷ y ∷ ys)) ≡ logic_words x ++ words (y ∷ ys)) → words [] ≡ []
    → ((x y : Logic) (ys : List Logic) → all_tight m (x ∷ y ∷ ys) ≡ true → is_tight n (f (x ∷ y ∷ ys)) ≡ true)
    → One m ws a r → Many m words r b r2 → node f (a ++ b) ≡ es → r2 ≡ rest → One n ws es rest
node_took f words m n ws r a b es r2 rest below spell none tight one many same end =
    by_more b (sym same ∙ ap (λ xs. node f (xs ++ b)) one.is) (many.spelt ∙ ap (λ xs. words b ++ xs) end) many.tight
  where
    by_more : (c : List Logic) → es ≡ node f (one.tree ∷ c) → r ≡ words c ++ rest → all_tight m c ≡ true → One n ws es rest
    by_more [] is spelt all = record {
      tree = one.tree;
      is = is;
      spelt = one.spelt ∙ ap (λ xs. logic_words one.tree ++ xs) (spelt ∙ ap (λ xs. xs ++ rest) none);
      tight = looser n m (level one.tree) below one.tight;
    }
    by_more (y ∷ ys) is spelt all = record {
      tree = f (one.tree ∷ y ∷ ys);
      is = is;
      spelt = one.spelt ∙ ap (λ xs. logic_words one.tree ++ xs) spelt ∙ sym (append_assoc (logic_words one.tree) (words (y ∷ ys)) rest) ∙ ap (λ xs. xs ++ rest) (sym (spell one.tree y ys));
      tight = tight one.tree y ys (and_from _ _ one.tight all);
    }

-- one operand more, behind its sign
pub more_took : (words : List Logic → List Word) (g : Logic → Logic) (h : List Logic → List Logic) (s : List ℕ) (m n : ℕ) (ws r : List Word) (a b es : List Logic) (r2 r3 rest : List Word)
    → ((x : Logic) → h (x ∷ []) ≡ g x ∷ []) → ((x : Logic) → is_tight m x ≡ true → is_tight n (g x) ≡ true)
    → ((x : Logic) (xs : List Logic) → is_tight m x ≡ true → words (g x ∷ xs) ≡ sign s ∷ logic_words x ++ words xs)
    → ws ≡ sign s ∷ r → One m r a r2 → Many n words r2 b r3 → h a ++ b ≡ es → r3 ≡ rest → Many n words ws es rest
more_took words g h s m n ws r a b es r2 r3 rest mapped tight spell front one many same end =
    subst (λ xs. Many n words ws xs rest) (ap (λ xs. xs ++ b) (sym (ap h one.is ∙ mapped one.tree)) ∙ same) (record {
      spelt = front ∙ ap (λ xs. sign s ∷ xs) (one.spelt ∙ ap (λ xs. logic_words one.tree ++ xs) (many.spelt ∙ ap (λ xs. words b ++ xs) end) ∙ sym (append_assoc (logic_words one.tree) (words b) rest))
          ∙ ap (λ xs. xs ++ rest) (sym (spell one.tree b one.tight));
      tight = and_from _ _ (tight one.tree one.tight) many.tight;
    })

-- expressions behind commas
pub record Items (ws : List Word) (es : List Logic) (rest : List Word) : Type 0 where
  pub first : Logic
  pub others : List Logic
  pub are : es ≡ first ∷ others
  pub spelt : ws ≡ commas (map logic_words (first ∷ others)) ++ rest
  pub tight : all_tight 0 (first ∷ others) ≡ true

pub last_took : (ws r : List Word) (a es : List Logic) (rest : List Word) → One 0 ws a r → a ≡ es → r ≡ rest → Items ws es rest
last_took ws r a es rest one same end = record {
  first = one.tree;
  others = [];
  are = sym same ∙ one.is;
  spelt = one.spelt ∙ ap (λ xs. logic_words one.tree ++ xs) end;
  tight = and_from _ _ one.tight refl;
}

pub item_took : (ws r r2 : List Word) (a b es : List Logic) (r3 rest : List Word) → One 0 ws a r → r ≡ sign (codes ",") ∷ r2 → Items r2 b r3 → a ++ b ≡ es → r3 ≡ rest → Items ws es rest
item_took ws r r2 a b es r3 rest one mid more same end =
    let later : List Word = commas (map logic_words (more.first ∷ more.others)) in
    record {
      first = one.tree;
      others = more.first ∷ more.others;
      are = sym same ∙ both (λ (xs ys : List Logic). xs ++ ys) one.is more.are;
      spelt = one.spelt ∙ ap (λ xs. logic_words one.tree ++ xs) (mid ∙ ap (λ xs. sign (codes ",") ∷ xs) (more.spelt ∙ ap (λ xs. later ++ xs) end))
          ∙ sym (append_assoc (logic_words one.tree) (sign (codes ",") ∷ later) rest);
      tight = and_from _ _ one.tight more.tight;
    }
