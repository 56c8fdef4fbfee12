-- Operands read one after another: how the loops over them go on.
use Rattle.std.proofs.Common.{◌≡◌, ℕ, suc, List, [], ◌∷◌, ◌++◌, Some, None, refl, ap, append_assoc}
use Rattle.std.specs.Prelude.{codes}
use Rattle.cpo_text.specs.Words.{Word}
use Rattle.cpo_text.specs.Expressions.{link_sign}
use Rattle.cpo_text.specs.code.Rules.{bound, behind}
use Rattle.cpo_text.specs.code.Levels.{Trees, read, inner, in_front, neg}
use Rattle.cpo_text.specs.code.Levels.Task.{logic, chain, more, terms, items}
use Rattle.cpo_text.specs.declared.expression.Link.{Link}
use Rattle.cpo_text.specs.declared.expression.Link.TheVariants.{Times}
use Rattle.cpo_text.specs.declared.expression.Logic.{Logic}

abbrev Reads : Trees → Logic → List Word → Type 0
Reads found x rest = ◌≡◌ {A = Trees} found (Some (x ∷ [], rest))

regroup : (ps : List Logic) (x : Logic) (found : Trees) → in_front (ps ++ x ∷ []) found ≡ in_front ps (bound found (λ b r. Some (x ∷ b, r)))
regroup ps x None = refl
regroup ps x (Some p) = ap (λ ys. let q : List Logic × List Word = (ys, p.1) in Some q) (append_assoc ps (x ∷ []) p.0)

pub turn_more : (g f : ℕ) (l : Link) (s : List ℕ) (ps : List Logic) (x : Logic) (ws next rest : List Word) → g ≡ suc f → s ≡ link_sign l → Some next ≡ behind s ws → Reads (read f (inner l) next) x rest
    → in_front (ps ++ x ∷ []) (read f (more l) rest) ≡ in_front ps (read g (more l) ws)
turn_more g f l s ps x ws next rest is same front got = let front' : behind (link_sign l) ws ≡ Some next = cc in rw is (rw (front', got) (regroup ps x (read f (more l) rest)))

pub turn_plus : (g f : ℕ) (ps : List Logic) (x : Logic) (ws next rest : List Word) → g ≡ suc f → Some next ≡ behind (codes "+") ws → Reads (read f (chain Times) next) x rest
    → in_front (ps ++ x ∷ []) (read f terms rest) ≡ in_front ps (read g terms ws)
turn_plus g f ps x ws next rest is front got = rw is (rw (← front, got) (regroup ps x (read f terms rest)))

pub turn_minus : (g f : ℕ) (ps : List Logic) (x : Logic) (ws next rest : List Word) → g ≡ suc f → None ≡ behind (codes "+") ws → Some next ≡ behind (codes "-") ws → Reads (read f (chain Times) next) x rest
    → in_front (ps ++ neg x ∷ []) (read f terms rest) ≡ in_front ps (read g terms ws)
turn_minus g f ps x ws next rest is no_plus front got = rw is (rw (← no_plus, ← front, got) (regroup ps (neg x) (read f terms rest)))

pub turn_items : (g f : ℕ) (ps : List Logic) (x : Logic) (ws next rest : List Word) → g ≡ suc f → Reads (read f logic ws) x rest → Some next ≡ behind (codes ",") rest
    → in_front (ps ++ x ∷ []) (read f items next) ≡ in_front ps (read g items ws)
turn_items g f ps x ws next rest is got comma = rw is (rw (got, ← comma) (regroup ps x (read f items next)))
