-- What is read as a statement is the spelling of that statement.
use Rattle.std.proofs.Common.{◌≡◌, ℕ, zero, suc, ◌==◌, Bool, true, false, not, cond, List, [], ◌∷◌, ◌++◌, length, map, Option, Some, None, refl, sym, ap, subst, ◌∙◌, append_assoc}
use Rattle.std.specs.Prelude.{codes}
use Rattle.std.specs.List.{list_all}
use Rattle.std.proofs.lemmas.Bool.{and_parts, or_parts, and_from}
use Rattle.cpo_text.specs.Words.{Word, commas, round}
use Rattle.cpo_text.specs.Words.Word.{name, sign}
use Rattle.cpo_text.specs.Spelling.{int_words, int_items, name_words, ivarg_words, ivarg_sort, are_distinct, definition_words, temporal_word, constraint_words, statement_body, is_formed}
use Rattle.cpo_text.specs.code.Rules.{Found, bound, behind, if_behind, name_at, int_behind, ivarg_at, has_sort, ivargs_more, ivargs_at, interval_at, between_at}
use Rattle.cpo_text.specs.declared.tree.Int.{Int}
use Rattle.cpo_text.specs.declared.tree.Ivarg.{Ivarg}
use Rattle.cpo_text.specs.declared.tree.Definition.{Definition}
use Rattle.cpo_text.specs.declared.tree.Definition.TheVariants.{IntervalVar}
use Rattle.cpo_text.specs.declared.tree.Temporal.{Temporal}
use Rattle.cpo_text.specs.declared.tree.Constrained.{Constrained}
use Rattle.cpo_text.specs.declared.tree.Constrained.TheVariants.{Between}
use Rattle.cpo_text.specs.declared.tree.Statement.{Statement}
use Rattle.cpo_text.specs.declared.tree.Statement.TheVariants.{Define}
use Rattle.cpo_text.proofs.operands.Binds.{both, bound_parts, need_parts, some_pair, behind_takes, name_takes}
use Rattle.cpo_text.proofs.operands.Takes.{behind_words, int_behind_takes, ivarg_takes}

-- kinds of arguments

abbrev pub sorts : List Ivarg → List ℕ
sorts args = map ivarg_sort args

not_true : (b : Bool) → b ≡ false → not b ≡ true
not_true b e = rw e refl

-- a kind that none of the others has
other_put : (n m : ℕ) (xs : List ℕ) → list_all (λ y. not (n == y)) xs ≡ true → (n == m) ≡ false → list_all (λ y. not (n == y)) (xs ++ m ∷ []) ≡ true
other_put n m [] all new = rw new refl
other_put n m (x ∷ xs) all new = let p = and_parts (not (n == x)) (list_all (λ y. not (n == y)) xs) all in and_from _ _ p.0 (other_put n m xs p.1 new)

-- one more kind at the end
pub distinct_put : (args : List Ivarg) (a : Ivarg) → are_distinct (sorts args) ≡ true → has_sort a args ≡ false → are_distinct (sorts (args ++ a ∷ [])) ≡ true
distinct_put [] a all new = refl
distinct_put (b ∷ bs) a all new =
    let p = and_parts (list_all (λ y. not (ivarg_sort b == y)) (sorts bs)) (are_distinct (sorts bs)) all in
    let q = or_parts (ivarg_sort b == ivarg_sort a) (has_sort a bs) new in
    and_from _ _ (subst (λ ys. list_all (λ y. not (ivarg_sort b == y)) ys ≡ true) (put_sorts bs a) (other_put (ivarg_sort b) (ivarg_sort a) (sorts bs) p.0 q.0)) (distinct_put bs a p.1 q.1)
  where
    put_sorts : (xs : List Ivarg) (x : Ivarg) → sorts xs ++ ivarg_sort x ∷ [] ≡ sorts (xs ++ x ∷ [])
    put_sorts [] x = refl
    put_sorts (y ∷ ys) x = ap (λ zs. ivarg_sort y ∷ zs) (put_sorts ys x)

-- the list of arguments

abbrev pub args_words : List Ivarg → List Word
args_words args = commas (map ivarg_words args)

pub record Listed (seen : List Ivarg) (ws : List Word) (all : List Ivarg) (rest : List Word) : Type 0 where
  pub first : Ivarg
  pub more : List Ivarg
  pub are : all ≡ seen ++ first ∷ more
  pub spelt : ws ≡ args_words (first ∷ more) ++ rest
  pub distinct : are_distinct (sorts seen) ≡ true → are_distinct (sorts all) ≡ true

listed_one : (seen : List Ivarg) (ws r : List Word) (a : Ivarg) (all : List Ivarg) (rest : List Word) → ivarg_at ws ≡ Some (a, r) → has_sort a seen ≡ false
    → ◌≡◌ {A = Found (List Ivarg)} (Some (seen ++ a ∷ [], r)) (Some (all, rest)) → Listed seen ws all rest
listed_one seen ws r a all rest is new h =
    let e = some_pair (seen ++ a ∷ []) all r rest h in
    record {
      first = a;
      more = [];
      are = sym e.0;
      spelt = ivarg_takes ws a r is ∙ ap (λ xs. ivarg_words a ++ xs) e.1;
      distinct = λ before. subst (λ xs. are_distinct (sorts xs) ≡ true) e.0 (distinct_put seen a before new);
    }

listed_more : (seen : List Ivarg) (ws r next : List Word) (a : Ivarg) (all : List Ivarg) (rest : List Word) → ivarg_at ws ≡ Some (a, r) → has_sort a seen ≡ false → behind (codes ",") r ≡ Some next
    → Listed (seen ++ a ∷ []) next all rest → Listed seen ws all rest
listed_more seen ws r next a all rest is new comma h = record {
  first = a;
  more = h.first ∷ h.more;
  are = h.are ∙ append_assoc seen (a ∷ []) (h.first ∷ h.more);
  spelt = ivarg_takes ws a r is ∙ ap (λ xs. ivarg_words a ++ xs) (behind_takes (codes ",") r next comma ∙ ap (λ xs. sign (codes ",") ∷ xs) h.spelt)
      ∙ sym (append_assoc (ivarg_words a) (sign (codes ",") ∷ args_words (h.first ∷ h.more)) rest);
  distinct = λ before. h.distinct (distinct_put seen a before new);
}

pub listed : (f : ℕ) (seen : List Ivarg) (ws : List Word) (all : List Ivarg) (rest : List Word) → ivargs_more f seen ws ≡ Some (all, rest) → Listed seen ws all rest
listed zero seen ws all rest h = cc
listed (suc f) seen ws all rest h =
    let p = bound_parts (ivarg_at ws) _ all rest h in
    by_kind (listed f) p.tree p.words p.first (has_sort p.tree seen) refl p.then
  where
    by_comma : ((seen : List Ivarg) (ws : List Word) (all : List Ivarg) (rest : List Word) → ivargs_more f seen ws ≡ Some (all, rest) → Listed seen ws all rest)
        → (a : Ivarg) (r : List Word) → ivarg_at ws ≡ Some (a, r) → has_sort a seen ≡ false → (o : Option (List Word)) → behind (codes ",") r ≡ o
        → if_behind o (ivargs_more f (seen ++ a ∷ [])) (Some (seen ++ a ∷ [], r)) ≡ Some (all, rest) → Listed seen ws all rest
    by_comma more a r is new None comma h = listed_one seen ws r a all rest is new h
    by_comma more a r is new (Some next) comma h = listed_more seen ws r next a all rest is new comma (more (seen ++ a ∷ []) next all rest h)

    by_kind : ((seen : List Ivarg) (ws : List Word) (all : List Ivarg) (rest : List Word) → ivargs_more f seen ws ≡ Some (all, rest) → Listed seen ws all rest)
        → (a : Ivarg) (r : List Word) → ivarg_at ws ≡ Some (a, r) → (t : Bool) → has_sort a seen ≡ t
        → cond t None (if_behind (behind (codes ",") r) (ivargs_more f (seen ++ a ∷ [])) (Some (seen ++ a ∷ [], r))) ≡ Some (all, rest) → Listed seen ws all rest
    by_kind more a r is true new h = cc
    by_kind more a r is false new h = by_comma more a r is new (behind (codes ",") r) refl h

-- definitions

pub record IsDefined (ws : List Word) (d : Definition) (rest : List Word) (word : List ℕ) : Type 0 where
  pub args : List Ivarg
  pub is : d ≡ IntervalVar args
  pub spelt : name word ∷ ws ≡ name word ∷ round (args_words args) ++ rest
  pub distinct : are_distinct (sorts args) ≡ true

interval_takes : (word : List ℕ) (ws : List Word) (d : Definition) (rest : List Word) → interval_at ws ≡ Some (d, rest) → IsDefined ws d rest word
unfolding interval_at ivargs_at
interval_takes word ws d rest h =
    let p = need_parts (behind (codes "(") ws) _ d rest h in
    by_close p.words (behind_takes (codes "(") ws p.words p.first) (behind (codes ")") p.words) refl p.then
  where
    by_close : (r : List Word) → ws ≡ sign (codes "(") ∷ r → (o : Option (List Word)) → behind (codes ")") r ≡ o
        → if_behind o (λ r2. Some (IntervalVar [], r2)) (bound (ivargs_at [] r) (λ args r2. if_behind (behind (codes ")") r2) (λ r3. Some (IntervalVar args, r3)) None)) ≡ Some (d, rest) → IsDefined ws d rest word
    by_close r begun (Some r2) is h =
        let e = some_pair (IntervalVar []) d r2 rest h in
        record { args = []; is = sym e.0; spelt = ap (λ xs. name word ∷ xs) (begun ∙ ap (λ xs. sign (codes "(") ∷ xs) (behind_takes (codes ")") r r2 is ∙ ap (λ xs. sign (codes ")") ∷ xs) e.1)); distinct = refl }
    by_close r begun None is h =
        let p = bound_parts (ivargs_at [] r) _ d rest h in
        let q = need_parts (behind (codes ")") p.words) _ d rest p.then in
        let e = some_pair (IntervalVar p.tree) d q.words rest q.then in
        let l = listed (length r) [] r p.tree p.words p.first in
        record {
          args = p.tree;
          is = sym e.0;
          spelt = ap (λ xs. name word ∷ xs) (begun ∙ ap (λ xs. sign (codes "(") ∷ xs)
              (l.spelt ∙ both (λ (args : List Ivarg) xs. args_words args ++ xs) (sym l.are) (behind_takes (codes ")") p.words q.words q.first ∙ ap (λ xs. sign (codes ")") ∷ xs) e.1)
              ∙ sym (append_assoc (args_words p.tree) (sign (codes ")") ∷ []) rest)));
          distinct = l.distinct refl;
        }

abbrev IsInterval : List Word → Definition → List Word → Type 0
IsInterval ws d rest = ((n : List ℕ) → is_formed (Define n d) ≡ true) × (name (codes "intervalVar") ∷ ws ≡ definition_words d ++ rest)

pub interval_defined : (ws : List Word) (d : Definition) (rest : List Word) → interval_at ws ≡ Some (d, rest) → IsInterval ws d rest
interval_defined ws d rest h =
    let i = interval_takes (codes "intervalVar") ws d rest h in
    subst (λ x. IsInterval ws x rest) (sym i.is) (λ n. i.distinct, i.spelt)

abbrev pub IsSpelt : Statement → List Word → List Word → Type 0
IsSpelt s ws rest = (is_formed s ≡ true) × (ws ≡ statement_body s ++ rest)

delayed : (a b : List ℕ) (z : Option Int) (rest : List Word)
    → sign (codes "(") ∷ name a ∷ sign (codes ",") ∷ name b ∷ behind_words (codes ",") z ++ sign (codes ")") ∷ rest ≡ round (commas (name_words a ∷ name_words b ∷ int_items z)) ++ rest
delayed a b None rest = refl
delayed a b (Some i) rest = ap (λ xs. sign (codes "(") ∷ name a ∷ sign (codes ",") ∷ name b ∷ sign (codes ",") ∷ xs) (sym (append_assoc (int_words i) (sign (codes ")") ∷ []) rest))

pub between_takes : (t : Temporal) (ws : List Word) (c : Constrained) (rest : List Word) → between_at t ws ≡ Some (c, rest) → name (temporal_word t) ∷ ws ≡ constraint_words c ++ rest
unfolding between_at
between_takes t ws c rest h =
    let p = need_parts (behind (codes "(") ws) _ c rest h in
    let a = bound_parts (name_at p.words) _ c rest p.then in
    let q = need_parts (behind (codes ",") a.words) _ c rest a.then in
    let b = bound_parts (name_at q.words) _ c rest q.then in
    let z = bound_parts (int_behind (codes ",") b.words) _ c rest b.then in
    let r = need_parts (behind (codes ")") z.words) _ c rest z.then in
    let e = some_pair (Between t a.tree b.tree z.tree) c r.words rest r.then in
    ap (λ xs. name (temporal_word t) ∷ xs)
    (behind_takes (codes "(") ws p.words p.first ∙ ap (λ xs. sign (codes "(") ∷ xs) (name_takes p.words a.tree a.words a.first
    ∙ ap (λ xs. name a.tree ∷ xs) (behind_takes (codes ",") a.words q.words q.first ∙ ap (λ xs. sign (codes ",") ∷ xs) (name_takes q.words b.tree b.words b.first
    ∙ ap (λ xs. name b.tree ∷ xs) (int_behind_takes (codes ",") b.words z.tree z.words z.first
    ∙ ap (λ xs. behind_words (codes ",") z.tree ++ xs) (behind_takes (codes ")") z.words r.words r.first ∙ ap (λ xs. sign (codes ")") ∷ xs) e.1)))))
    ∙ delayed a.tree b.tree z.tree rest)
    ∙ ap (λ x. constraint_words x ++ rest) e.0
