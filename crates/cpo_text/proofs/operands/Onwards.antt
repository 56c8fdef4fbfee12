-- An expression that begins with an atom is that atom, read on through the levels.
use Rattle.std.proofs.Common.{◌≡◌, ℕ, suc, ◌-◌, ◌≤◌, List, [], ◌∷◌, Some, None, Result, refl, sym, ap, subst, ◌∙◌, arith}
use Rattle.std.specs.Prelude.{codes}
use Rattle.cpo_text.specs.Words.{Word}
use Rattle.cpo_text.specs.Words.Word.{sign}
use Rattle.cpo_text.specs.code.Rules.{behind}
use Rattle.cpo_text.specs.code.Levels.{Trees, read, inner, group, comparison_at, grouped_at}
use Rattle.cpo_text.specs.code.Levels.Task.{logic, chain, unit, sum, term, atom}
use Rattle.cpo_text.specs.code.Onward.{linked_on, total_on, compared_on, implied_on, all_on, grouped_on}
use Rattle.cpo_text.specs.code.Gives.{GivesOne}
use Rattle.cpo_text.specs.declared.place.Place.{Place}
use Rattle.cpo_text.specs.declared.fault.Fault.{Fault}
use Rattle.cpo_text.specs.declared.expression.Link.{Link}
use Rattle.cpo_text.specs.declared.expression.Link.TheVariants.{Times, And, Or}
use Rattle.cpo_text.specs.declared.expression.Logic.{Logic}
use Rattle.cpo_text.proofs.operands.Binds.{behind_takes}

at_logic : (a b : ℕ) (ws : List Word) → a ≡ suc b → ◌≡◌ {A = Trees} (read a logic ws) (implied_on b (read b (chain Or) ws))
at_logic a b ws e = rw e refl

at_chain : (a b : ℕ) (l : Link) (ws : List Word) → a ≡ suc b → ◌≡◌ {A = Trees} (read a (chain l) ws) (linked_on b l (read b (inner l) ws))
at_chain a b l ws e = rw e refl

at_unit : (a b : ℕ) (ws : List Word) → a ≡ suc b → behind (codes "!") ws ≡ None → ◌≡◌ {A = Trees} (read a unit ws) (compared_on b (read b sum ws))
at_unit a b ws e no_not = rw e (rw no_not refl)

at_sum : (a b : ℕ) (ws : List Word) → a ≡ suc b → ◌≡◌ {A = Trees} (read a sum ws) (total_on b (read b term ws))
at_sum a b ws e = rw e refl

at_term : (a b : ℕ) (ws : List Word) → a ≡ suc b → behind (codes "-") ws ≡ None → ◌≡◌ {A = Trees} (read a term ws) (read b (chain Times) ws)
at_term a b ws e no_minus = rw e (rw no_minus refl)

-- one level over the other
glue : (i o d c t l : Trees → Trees) (u v w x y z s : Trees) → u ≡ i v → v ≡ o w → w ≡ d x → x ≡ c y → y ≡ t z → z ≡ l s → u ≡ i (o (d (c (t (l s)))))
glue i o d c t l u v w x y z s eu ev ew ex ey ez = eu ∙ ap i (ev ∙ ap o (ew ∙ ap d (ex ∙ ap c (ey ∙ ap t ez))))

read_on : (f : ℕ) (ws : List Word) → 8 ≤ f → behind (codes "!") ws ≡ None → behind (codes "-") ws ≡ None → ◌≡◌ {A = Trees} (read f logic ws) (all_on f (read (f - 7) atom ws))
unfolding all_on
read_on f ws enough no_not no_minus =
    glue (implied_on (f - 1)) (linked_on (f - 2) Or) (linked_on (f - 3) And) (compared_on (f - 4)) (total_on (f - 5)) (linked_on (f - 7) Times)
    (read f logic ws) (read (f - 1) (chain Or) ws) (read (f - 2) (chain And) ws) (read (f - 3) unit ws) (read (f - 4) sum ws) (read (f - 5) term ws) (read (f - 7) atom ws)
    (at_logic f (f - 1) ws (omega arith)) (at_chain (f - 1) (f - 2) Or ws (omega arith)) (at_chain (f - 2) (f - 3) And ws (omega arith))
    (at_unit (f - 3) (f - 4) ws (omega arith) no_not) (at_sum (f - 4) (f - 5) ws (omega arith))
    (at_term (f - 5) (f - 6) ws (omega arith) no_minus ∙ at_chain (f - 6) (f - 7) Times ws (omega arith))

begun : (f : ℕ) (ws : List Word) (w : Word) (rest : List Word) → 8 ≤ f → behind (codes "!") ws ≡ None → behind (codes "-") ws ≡ None → ws ≡ w ∷ rest
    → ◌≡◌ {A = Trees} (read f logic ws) (all_on f (read (f - 7) atom (w ∷ rest)))
begun f ws w rest enough no_not no_minus is = read_on f ws enough no_not no_minus ∙ ap (λ v. all_on f (read (f - 7) atom v)) is

pub gives_on : (r : Result (Logic × Place) Fault) (f : ℕ) (ws : List Word) (w : Word) (rest : List Word) → 8 ≤ f → behind (codes "!") ws ≡ None → behind (codes "-") ws ≡ None → ws ≡ w ∷ rest
    → GivesOne r (all_on f (read (f - 7) atom (w ∷ rest))) → GivesOne r (read f logic ws)
gives_on r f ws w rest enough no_not no_minus is given = subst (λ found. GivesOne r found) (sym (begun f ws w rest enough no_not no_minus is)) given

pub gives_group : (r : Result (Logic × Place) Fault) (f : ℕ) (ws : List Word) (w : Word) (rest : List Word) → 8 ≤ f → behind (codes "!") ws ≡ None → behind (codes "-") ws ≡ None → ws ≡ w ∷ rest
    → GivesOne r (grouped_on (all_on f (read (f - 7) atom (w ∷ rest)))) → GivesOne r (grouped_at (read f logic) ws)
unfolding grouped_at
gives_group r f ws w rest enough no_not no_minus is given = subst (λ found. GivesOne r (grouped_on found)) (sym (begun f ws w rest enough no_not no_minus is)) given

bracket : (b c d e f h c0 d0 f0 h0 : ℕ) (a : Logic) (r : List Word) → c ≡ suc c0 → d ≡ suc d0 → f ≡ suc f0 → h ≡ suc h0
    → ◌≡◌ {A = Trees} (implied_on b (linked_on c Or (linked_on d And (compared_on e (total_on f (linked_on h Times (Some (a ∷ [], sign (codes ")") ∷ r)))))))) (Some (a ∷ [], sign (codes ")") ∷ r))
unfolding comparison_at
bracket b c d e f h c0 d0 f0 h0 a r ec ed ef eh = rw (ec, ed, ef, eh) refl

still : (f : ℕ) (a : Logic) (r : List Word) → 8 ≤ f → ◌≡◌ {A = Trees} (all_on f (Some (a ∷ [], sign (codes ")") ∷ r))) (Some (a ∷ [], sign (codes ")") ∷ r))
unfolding all_on
still f a r enough = bracket (f - 1) (f - 2) (f - 3) (f - 4) (f - 5) (f - 7) (f - 3) (f - 4) (f - 6) (f - 8) a r (omega arith) (omega arith) (omega arith) (omega arith)

-- no level goes on at a closing bracket
pub closed : (f : ℕ) (a : Logic) (ws r : List Word) → 8 ≤ f → Some r ≡ behind (codes ")") ws → ◌≡◌ {A = Trees} (grouped_on (all_on f (Some (a ∷ [], ws)))) (Some (group a ∷ [], r))
closed f a ws r enough front =
    let is : ws ≡ sign (codes ")") ∷ r = behind_takes (codes ")") ws r (sym front) in
    let e : ◌≡◌ {A = Trees} (all_on f (Some (a ∷ [], ws))) (Some (a ∷ [], sign (codes ")") ∷ r)) = subst (λ v. ◌≡◌ {A = Trees} (all_on f (Some (a ∷ [], v))) (Some (a ∷ [], sign (codes ")") ∷ r))) (sym is) (still f a r enough) in
    ap grouped_on e
