-- Counts as far as the code counts, and pairs.
use Rattle.std.proofs.Common.{◌≡◌, ℕ, ◌+◌, ◌<◌, ◌≤◌, true, false, List, [], ◌∷◌, ◌++◌, map, flat_map, length, drop, sum, sum_by, get_or, sym, ap, ◌∙◌, arith}
use Rattle.std.proofs.lemmas.List.{at_drop_more, at_drop_all, length-map, length-append}
use Rattle.std.proofs.lemmas.List.Sums.{sum_by-cons}
use Rattle.sched_model.specs.Data.{Data}
use Rattle.sched_model.specs.declared.types.CompareOp.{CompareOp}
use Rattle.sched_model.specs.declared.types.Expr.{Expr}
use Rattle.sched_model.specs.declared.types.Expr.TheVariants as whole
use Rattle.sched_model.specs.declared.types.Expr.TheVariants.{rolls-Compare, rolls-Implies}
use Rattle.sched_model.specs.declared.types.Expr.TheOpen.Expr-F.{Compare, Implies}
use Rattle.sched_model.specs.declared.types.Expr.TheFolds.{fold-roll-Expr}
use Rattle.sched_model.specs.declared.types.Objective.{Objective}
use Rattle.sched_model.specs.Words.{is_empty}
use Rattle.sched_model.specs.Rank.{criteria_of}
use Rattle.sched_model.specs.Valid.{count_step, node_count}
use Rattle.cpo_text.specs.declared.cumul.Signed.{Signed}
use Rattle.cpo_elab.specs.Elaborated.{turned, plain_parts, parts_signed}
use Rattle.cpo_elab.specs.code.Drafts.{capped, plus}

pub one_capped : 1 ≡ capped 1
unfolding capped
one_capped = omega arith

pub plus_capped : (x y : ℕ) → plus (capped x) (capped y) ≡ capped (x + y)
unfolding capped plus
plus_capped x y = omega arith

pub plus_more : (a b x y r : ℕ) → a ≡ capped x → b ≡ capped y → r ≡ plus a b → r ≡ capped (x + y)
plus_more a b x y r one other is = is ∙ (λ i. plus (one i) (other i)) ∙ plus_capped x y

-- the total of the items from a place on
abbrev pub total_from : {X : Type 0} → (X → ℕ) → List X → ℕ → ℕ
total_from f xs i = sum (map f (drop i xs))

pub sum_turn : {X : Type 0} (f : X → ℕ) (xs : List X) (i : ℕ) (x : X) → i < length xs → x ≡ get_or xs i x → total_from f xs i ≡ f x + total_from f xs (i + 1)
sum_turn f xs i x within at_i =
    at_drop_more (λ ys. sum (map f ys)) xs i x within
    ∙ sum_by-cons (λ n. n) (f (get_or xs i x)) (map f (drop (i + 1) xs))
    ∙ ap (λ y. f y + total_from f xs (i + 1)) (sym at_i)

signed_length : (m : Data) (s : Signed) → length (parts_signed m s) ≡ length (plain_parts m s.part)
signed_length m s = length-map (plain_parts m s.part) (turned s.minus)

pub parts_turn : (m : Data) (xs : List Signed) (i : ℕ) (x : Signed) → i < length xs → x ≡ get_or xs i x
    → length (flat_map (parts_signed m) (drop i xs)) ≡ length (plain_parts m x.part) + length (flat_map (parts_signed m) (drop (i + 1) xs))
parts_turn m xs i x within at_i =
    at_drop_more (λ ys. length (flat_map (parts_signed m) ys)) xs i x within
    ∙ ap (λ y. length (parts_signed m y ++ flat_map (parts_signed m) (drop (i + 1) xs))) (sym at_i)
    ∙ length-append (parts_signed m x) (flat_map (parts_signed m) (drop (i + 1) xs))
    ∙ ap (λ n. n + length (flat_map (parts_signed m) (drop (i + 1) xs))) (signed_length m x)

pub first_parts : (m : Data) (x : Signed) (rest : ℕ) (xs : List Signed) → rest ≡ length (flat_map (parts_signed m) xs) → length (flat_map (parts_signed m) (x ∷ xs)) ≡ length (plain_parts m x.part) + rest
first_parts m x rest xs is = length-append (parts_signed m x) (flat_map (parts_signed m) xs) ∙ ap (λ n. n + length (flat_map (parts_signed m) xs)) (signed_length m x) ∙ ap (λ n. length (plain_parts m x.part) + n) (sym is)

pub sum_end : {X : Type 0} (f : X → ℕ) (xs : List X) (i : ℕ) → length xs ≤ i → total_from f xs i ≡ 0
sum_end f xs i done = at_drop_all (λ ys. sum (map f ys)) xs i done

-- nodes over two parts

count_compare : (op : CompareOp) (a b : Expr) → node_count (whole.Compare op a b) ≡ (1 + node_count a) + node_count b
count_compare op a b = ap node_count (sym (rolls-Compare op a b)) ∙ fold-roll-Expr ℕ count_step (Compare op a b)

count_implies : (a b : Expr) → node_count (whole.Implies a b) ≡ (1 + node_count a) + node_count b
count_implies a b = ap node_count (sym (rolls-Implies a b)) ∙ fold-roll-Expr ℕ count_step (Implies a b)

two_nodes : (a b c d : Expr) (x y r : ℕ) → c ≡ a → d ≡ b → x ≡ capped (1 + node_count c) → y ≡ capped (node_count d) → r ≡ plus x y → r ≡ capped ((1 + node_count a) + node_count b)
two_nodes a b c d x y r first second x_is y_is is =
    plus_more x y (1 + node_count a) (node_count b) r (x_is ∙ ap (λ t. capped (1 + node_count t)) first) (y_is ∙ ap (λ t. capped (node_count t)) second) is

pub compare_nodes : (e a b c d : Expr) (op : CompareOp) (x y r : ℕ) → e ≡ whole.Compare op a b → c ≡ a → d ≡ b → x ≡ capped (1 + node_count c) → y ≡ capped (node_count d) → r ≡ plus x y → r ≡ capped (node_count e)
compare_nodes e a b c d op x y r whole_is first second x_is y_is is = two_nodes a b c d x y r first second x_is y_is is ∙ ap capped (sym (ap node_count whole_is ∙ count_compare op a b))

pub implies_nodes : (e a b c d : Expr) (x y r : ℕ) → e ≡ whole.Implies a b → c ≡ a → d ≡ b → x ≡ capped (1 + node_count c) → y ≡ capped (node_count d) → r ≡ plus x y → r ≡ capped (node_count e)
implies_nodes e a b c d x y r whole_is first second x_is y_is is = two_nodes a b c d x y r first second x_is y_is is ∙ ap capped (sym (ap node_count whole_is ∙ count_implies a b))

-- the sum over the items from a place on

pub by_none : {X : Type 0} (f : X → ℕ) (xs : List X) → 0 + sum_by f (drop 0 xs) ≡ sum_by f xs
by_none f xs = omega arith

pub by_turn : {X : Type 0} (f : X → ℕ) (xs : List X) (i : ℕ) (x : X) → i < length xs → x ≡ get_or xs i x → sum_by f (drop i xs) ≡ f x + sum_by f (drop (i + 1) xs)
by_turn f xs i x within at_i =
    at_drop_more (sum_by f) xs i x within
    ∙ sum_by-cons f (get_or xs i x) (drop (i + 1) xs)
    ∙ ap (λ y. f y + sum_by f (drop (i + 1) xs)) (sym at_i)

pub by_end : {X : Type 0} (f : X → ℕ) (xs : List X) (i : ℕ) → length xs ≤ i → sum_by f (drop i xs) ≡ 0
by_end f xs i done = at_drop_all (sum_by f) xs i done

-- the nodes of an objective

pub plain_nodes : (o : Objective) (n : ℕ) → true ≡ is_empty o.criteria → n ≡ capped (node_count o.expr) → n ≡ capped (sum_by node_count (criteria_of o))
plain_nodes o n plain is = rw (sym plain) (is ∙ ap capped (omega (arith, sum_by-cons node_count o.expr [])))

pub several_nodes : (o : Objective) (n : ℕ) → false ≡ is_empty o.criteria → n ≡ capped (sum_by node_count o.criteria) → n ≡ capped (sum_by node_count (criteria_of o))
several_nodes o n many is = rw (sym many) is
