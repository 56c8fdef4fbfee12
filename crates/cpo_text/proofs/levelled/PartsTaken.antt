-- What is read as a cumulative expression is the spelling of it.
use Rattle.std.proofs.Common.{◌≡◌, ℕ, zero, suc, Bool, true, false, List, [], ◌∷◌, ◌++◌, Option, Some, None, refl, sym, ap, subst, ◌∙◌, append_assoc}
use Rattle.std.specs.Prelude.{codes}
use Rattle.cpo_text.specs.Words.{Word, commas}
use Rattle.cpo_text.specs.Words.Word.{name, sign}
use Rattle.cpo_text.specs.Spelling.{minus_words, int_words, name_words, bound_sign, moments_items, constraint_words, is_formed}
use Rattle.cpo_text.specs.Cumulative.{cpart_words, more_words, cumul_words}
use Rattle.cpo_text.specs.code.Rules.{Found, bound, behind, if_behind, if_found, find_word, sign_in, name_at, name_before, int_at, int_before}
use Rattle.cpo_text.specs.code.Lists.{after}
use Rattle.cpo_text.specs.code.CallWords.{contributions}
use Rattle.cpo_text.specs.code.Contributions.{raised_at, pulse_from, pulse_at, step_at, contribution_at, called_part, part_at, signed, joints, added_at, cumul_from, cumul_at, bounds, bounded_at, moments_at, always_in_at}
use Rattle.cpo_text.specs.declared.tree.Int.{Int}
use Rattle.cpo_text.specs.declared.cumul.Cpart.{Cpart}
use Rattle.cpo_text.specs.declared.cumul.Cpart.TheVariants.{Named, Pulse, PulseOf, Step, StepAtStart, StepAtEnd}
use Rattle.cpo_text.specs.declared.cumul.Signed.{Signed}
use Rattle.cpo_text.specs.declared.cumul.Cumul.{Cumul}
use Rattle.cpo_text.specs.declared.call_words.PartWord.{PartWord}
use Rattle.cpo_text.specs.declared.call_words.PartWord.TheVariants as part
use Rattle.cpo_text.specs.declared.tree.Bound.{Bound}
use Rattle.cpo_text.specs.declared.tree.Moments.{Moments}
use Rattle.cpo_text.specs.declared.tree.Moments.TheVariants.{From, During}
use Rattle.cpo_text.specs.declared.tree.Constrained.{Constrained}
use Rattle.cpo_text.specs.declared.tree.Constrained.TheVariants.{Bounded, AlwaysIn}
use Rattle.cpo_text.specs.declared.tree.Statement.TheVariants.{Constrain}
use Rattle.cpo_text.proofs.operands.Binds.{both, bound_parts, need_parts, some_pair, behind_takes, name_takes}
use Rattle.cpo_text.proofs.operands.Takes.{int_takes, name_before_takes, int_before_takes}
use Rattle.cpo_text.proofs.stating.Tables.{found_is, sign_in_takes, joint_sign, joint_table, bound_table, part_name, part_table}

-- words up to a closing bracket, and what follows it
abbrev pub closing : List Word → List Word → List Word
closing ws r = (ws ++ sign (codes ")") ∷ []) ++ r

pub closed_last : (ws r : List Word) → closing ws r ≡ ws ++ sign (codes ")") ∷ r
closed_last ws r = append_assoc ws (sign (codes ")") ∷ []) r

pub closed_comma : (ws vs r : List Word) → closing (ws ++ sign (codes ",") ∷ vs) r ≡ ws ++ sign (codes ",") ∷ closing vs r
closed_comma ws vs r =
    closed_last (ws ++ sign (codes ",") ∷ vs) r ∙ append_assoc ws (sign (codes ",") ∷ vs) (sign (codes ")") ∷ r) ∙ ap (λ xs. ws ++ sign (codes ",") ∷ xs) (sym (closed_last vs r))

-- two numbers that end a call
abbrev pub pair_words : Int → Int → List Word → List Word
pair_words u h r = int_words u ++ sign (codes ",") ∷ (int_words h ++ sign (codes ")") ∷ r)

pub pair_open : (u h : Int) (r : List Word) → closing (commas (int_words u ∷ int_words h ∷ [])) r ≡ pair_words u h r
pair_open u h r = closed_comma (int_words u) (int_words h) r ∙ ap (λ xs. int_words u ++ sign (codes ",") ∷ xs) (closed_last (int_words h) r)

abbrev pub raised_words : List ℕ → Int → List Word → List Word
raised_words a h r = name a ∷ sign (codes ",") ∷ int_words h ++ sign (codes ")") ∷ r

pub raised_open : (a : List ℕ) (h : Int) (r : List Word) → closing (commas (name_words a ∷ int_words h ∷ [])) r ≡ raised_words a h r
raised_open a h r = ap (λ xs. name a ∷ sign (codes ",") ∷ xs) (closed_last (int_words h) r)

abbrev pub pulse_words : Int → Int → Int → List Word → List Word
pulse_words u v h r = int_words u ++ sign (codes ",") ∷ pair_words v h r

pub pulse_open : (u v h : Int) (r : List Word) → closing (commas (int_words u ∷ int_words v ∷ int_words h ∷ [])) r ≡ pulse_words u v h r
pulse_open u v h r = closed_comma (int_words u) (commas (int_words v ∷ int_words h ∷ [])) r ∙ ap (λ xs. int_words u ++ sign (codes ",") ∷ xs) (pair_open v h r)

-- parts

raised_takes : (make : List ℕ → Int → Cpart) (ws : List Word) (c : Cpart) (r : List Word) → raised_at make ws ≡ Some (c, r) → (a : List ℕ) × (h : Int) × (c ≡ make a h) × (ws ≡ raised_words a h r)
raised_takes make ws c r h =
    let p = bound_parts (name_before (codes ",") ws) _ c r h in
    let q = bound_parts (int_before (codes ")") p.words) _ c r p.then in
    let e = some_pair (make p.tree q.tree) c q.words r q.then in (
      p.tree,
      q.tree,
      sym e.0,
      name_before_takes (codes ",") ws p.tree p.words p.first
          ∙ ap (λ xs. name p.tree ∷ sign (codes ",") ∷ xs) (int_before_takes (codes ")") p.words q.tree q.words q.first ∙ ap (λ xs. int_words q.tree ++ sign (codes ")") ∷ xs) e.1),
    )

raised_spelt : (make : List ℕ → Int → Cpart) (word : List ℕ) → ((a : List ℕ) (h : Int) (r : List Word) → cpart_words (make a h) ++ r ≡ name word ∷ sign (codes "(") ∷ closing (commas (name_words a ∷ int_words h ∷ [])) r)
    → (ws : List Word) (c : Cpart) (r : List Word) → raised_at make ws ≡ Some (c, r) → name word ∷ sign (codes "(") ∷ ws ≡ cpart_words c ++ r
raised_spelt make word spelt ws c r h =
    let t = raised_takes make ws c r h in
    ap (λ xs. name word ∷ sign (codes "(") ∷ xs) (t.3 ∙ sym (raised_open t.0 t.1 r)) ∙ sym (spelt t.0 t.1 r) ∙ ap (λ x. cpart_words x ++ r) (sym t.2)

pulse_from_takes : (ws : List Word) (c : Cpart) (r : List Word) → pulse_from ws ≡ Some (c, r) → name (codes "pulse") ∷ sign (codes "(") ∷ ws ≡ cpart_words c ++ r
unfolding pulse_from
pulse_from_takes ws c r h =
    let u = bound_parts (int_before (codes ",") ws) _ c r h in
    let v = bound_parts (int_before (codes ",") u.words) _ c r u.then in
    let p = bound_parts (int_before (codes ")") v.words) _ c r v.then in
    let e = some_pair (Pulse u.tree v.tree p.tree) c p.words r p.then in
    ap (λ xs. name (codes "pulse") ∷ sign (codes "(") ∷ xs)
    (int_before_takes (codes ",") ws u.tree u.words u.first ∙ ap (λ xs. int_words u.tree ++ sign (codes ",") ∷ xs)
    (int_before_takes (codes ",") u.words v.tree v.words v.first ∙ ap (λ xs. int_words v.tree ++ sign (codes ",") ∷ xs)
    (int_before_takes (codes ")") v.words p.tree p.words p.first))
    ∙ sym (pulse_open u.tree v.tree p.tree p.words))
    ∙ both (λ x xs. cpart_words x ++ xs) e.0 e.1

pulse_takes : (ws : List Word) (c : Cpart) (r : List Word) → pulse_at ws ≡ Some (c, r) → name (codes "pulse") ∷ sign (codes "(") ∷ ws ≡ cpart_words c ++ r
unfolding pulse_at
pulse_takes ws c r h = decided (name_at ws) h
  where
    decided : (o : Found (List ℕ)) → if_found o (λ a s. raised_at PulseOf ws) (pulse_from ws) ≡ Some (c, r) → name (codes "pulse") ∷ sign (codes "(") ∷ ws ≡ cpart_words c ++ r
    decided None h = pulse_from_takes ws c r h
    decided (Some p) h = raised_spelt PulseOf (codes "pulse") (λ a h r. refl) ws c r h

step_takes : (ws : List Word) (c : Cpart) (r : List Word) → step_at ws ≡ Some (c, r) → name (codes "step") ∷ sign (codes "(") ∷ ws ≡ cpart_words c ++ r
unfolding step_at
step_takes ws c r h =
    let u = bound_parts (int_before (codes ",") ws) _ c r h in
    let p = bound_parts (int_before (codes ")") u.words) _ c r u.then in
    let e = some_pair (Step u.tree p.tree) c p.words r p.then in
    ap (λ xs. name (codes "step") ∷ sign (codes "(") ∷ xs)
    (int_before_takes (codes ",") ws u.tree u.words u.first ∙ ap (λ xs. int_words u.tree ++ sign (codes ",") ∷ xs) (int_before_takes (codes ")") u.words p.tree p.words p.first) ∙ sym (pair_open u.tree p.tree p.words))
    ∙ both (λ x xs. cpart_words x ++ xs) e.0 e.1

contribution_takes : (w : PartWord) (ws : List Word) (c : Cpart) (r : List Word) → contribution_at w ws ≡ Some (c, r) → name (part_name w) ∷ sign (codes "(") ∷ ws ≡ cpart_words c ++ r
unfolding contribution_at
contribution_takes part.Pulse ws c r h = pulse_takes ws c r h
contribution_takes part.Step ws c r h = step_takes ws c r h
contribution_takes part.StepAtStart ws c r h = raised_spelt StepAtStart (codes "stepAtStart") (λ a h r. refl) ws c r h
contribution_takes part.StepAtEnd ws c r h = raised_spelt StepAtEnd (codes "stepAtEnd") (λ a h r. refl) ws c r h

part_takes : (ws : List Word) (c : Cpart) (r : List Word) → part_at ws ≡ Some (c, r) → ws ≡ cpart_words c ++ r
unfolding part_at
part_takes ws c r h =
    let p = bound_parts (name_at ws) _ c r h in
    by_bracket p.tree p.words (name_takes ws p.tree p.words p.first) (behind (codes "(") p.words) refl p.then
  where
    by_word : (n : List ℕ) (s : List Word) → ws ≡ name n ∷ sign (codes "(") ∷ s → (o : Option PartWord) → find_word contributions n ≡ o → called_part o s ≡ Some (c, r) → ws ≡ cpart_words c ++ r
    by_word n s begun None is h = cc
    by_word n s begun (Some w) is h = begun ∙ ap (λ x. name x ∷ sign (codes "(") ∷ s) (found_is part_name contributions part_table n w is) ∙ contribution_takes w s c r h

    by_bracket : (n : List ℕ) (s : List Word) → ws ≡ name n ∷ s → (o : Option (List Word)) → behind (codes "(") s ≡ o
        → if_behind o (called_part (find_word contributions n)) (let x : Cpart × List Word = (Named n, s) in Some x) ≡ Some (c, r) → ws ≡ cpart_words c ++ r
    by_bracket n s begun None is h = let e = some_pair (Named n) c s r h in begun ∙ ap (λ xs. name n ∷ xs) e.1 ∙ ap (λ x. cpart_words x ++ r) e.0
    by_bracket n s begun (Some t) is h = by_word n t (begun ∙ ap (λ xs. name n ∷ xs) (behind_takes (codes "(") s t is)) (find_word contributions n) refl h

-- sums of parts

added_takes : (f : ℕ) (ws : List Word) (ps : List Signed) (r : List Word) → added_at f ws ≡ Some (ps, r) → ws ≡ more_words ps ++ r
added_takes zero ws ps r h = cc
added_takes (suc f) ws ps r h = by_sign (added_takes f) (sign_in joints ws) refl h
  where
    by_sign : ((ws : List Word) (ps : List Signed) (r : List Word) → added_at f ws ≡ Some (ps, r) → ws ≡ more_words ps ++ r) → (o : Found Bool) → sign_in joints ws ≡ o
        → if_found o (λ m s. bound (part_at s) (λ p s2. after (signed m p ∷ []) (added_at f s2))) (let x : List Signed × List Word = ([], ws) in Some x) ≡ Some (ps, r) → ws ≡ more_words ps ++ r
    by_sign more None is h = let e = some_pair [] ps ws r h in e.1 ∙ ap (λ xs. more_words xs ++ r) e.0
    by_sign more (Some q) is h =
        let p = bound_parts (part_at q.1) _ ps r h in
        let s = bound_parts (added_at f p.words) _ ps r p.then in
        let e = some_pair (signed q.0 p.tree ∷ s.tree) ps s.words r s.then in
        sign_in_takes joint_sign joints joint_table ws q.0 q.1 is
        ∙ ap (λ xs. sign (joint_sign q.0) ∷ xs) (part_takes q.1 p.tree p.words p.first ∙ ap (λ xs. cpart_words p.tree ++ xs) (more p.words s.tree s.words s.first) ∙ sym (append_assoc (cpart_words p.tree) (more_words s.tree) s.words))
        ∙ both (λ x xs. more_words x ++ xs) e.0 e.1

cumul_from_takes : (f : ℕ) (m : Bool) (ws : List Word) (c : Cumul) (r : List Word) → cumul_from f m ws ≡ Some (c, r) → minus_words m ++ ws ≡ cumul_words c ++ r
unfolding cumul_from
cumul_from_takes f m ws c r h =
    let p = bound_parts (part_at ws) _ c r h in
    let s = bound_parts (added_at f p.words) _ c r p.then in
    let made : Cumul = record { first = signed m p.tree; more = s.tree } in
    let e = some_pair made c s.words r s.then in
    ap (λ xs. minus_words m ++ xs) (part_takes ws p.tree p.words p.first ∙ ap (λ xs. cpart_words p.tree ++ xs) (added_takes f p.words s.tree s.words s.first) ∙ sym (append_assoc (cpart_words p.tree) (more_words s.tree) s.words))
    ∙ sym (append_assoc (minus_words m) (cpart_words p.tree ++ more_words s.tree) s.words)
    ∙ both (λ x xs. cumul_words x ++ xs) e.0 e.1

pub cumul_takes : (f : ℕ) (ws : List Word) (c : Cumul) (r : List Word) → cumul_at f ws ≡ Some (c, r) → ws ≡ cumul_words c ++ r
unfolding cumul_at
cumul_takes f ws c r h = decided (behind (codes "-") ws) refl h
  where
    decided : (o : Option (List Word)) → behind (codes "-") ws ≡ o → if_behind o (cumul_from f true) (cumul_from f false ws) ≡ Some (c, r) → ws ≡ cumul_words c ++ r
    decided None is h = cumul_from_takes f false ws c r h
    decided (Some s) is h = behind_takes (codes "-") ws s is ∙ cumul_from_takes f true s c r h

-- constraints

abbrev pub IsConstraint : Constrained → List Word → List Word → Type 0
IsConstraint c ws r = (is_formed (Constrain c) ≡ true) × (ws ≡ constraint_words c ++ r)

pub bounded_takes : (f : ℕ) (ws : List Word) (c : Constrained) (r : List Word) → bounded_at f ws ≡ Some (c, r) → IsConstraint c ws r
unfolding bounded_at
bounded_takes f ws c r h =
    let p = bound_parts (cumul_at f ws) _ c r h in
    by_sign p.tree p.words (cumul_takes f ws p.tree p.words p.first) (sign_in bounds p.words) refl p.then
  where
    by_sign : (u : Cumul) (s : List Word) → ws ≡ cumul_words u ++ s → (o : Found Bound) → sign_in bounds s ≡ o → if_found o (λ b s2. bound (int_at s2) (λ i s3. Some (Bounded u b i, s3))) None ≡ Some (c, r) → IsConstraint c ws r
    by_sign u s begun None is h = cc
    by_sign u s begun (Some q) is h =
        let i = bound_parts (int_at q.1) _ c r h in
        let e = some_pair (Bounded u q.0 i.tree) c i.words r i.then in
        let words : ws ≡ constraint_words (Bounded u q.0 i.tree) ++ i.words =
        begun ∙ ap (λ xs. cumul_words u ++ xs) (sign_in_takes bound_sign bounds bound_table s q.0 q.1 is ∙ ap (λ xs. sign (bound_sign q.0) ∷ xs) (int_takes q.1 i.tree i.words i.first))
        ∙ sym (append_assoc (cumul_words u) (sign (bound_sign q.0) ∷ int_words i.tree) i.words) in
        subst (λ y. IsConstraint y ws r) e.0 (refl, words ∙ ap (λ xs. constraint_words (Bounded u q.0 i.tree) ++ xs) e.1)

-- a window with the comma behind it
abbrev pub moments_words : Moments → List Word → List Word
moments_words (From u v) r = int_words u ++ sign (codes ",") ∷ (int_words v ++ sign (codes ",") ∷ r)
moments_words (During a) r = name a ∷ sign (codes ",") ∷ r

moments_takes : (ws : List Word) (w : Moments) (r : List Word) → moments_at ws ≡ Some (w, r) → ws ≡ moments_words w r
unfolding moments_at
moments_takes ws w r h = decided (name_at ws) h
  where
    decided : (o : Found (List ℕ)) → if_found o (λ n s. bound (name_before (codes ",") ws) (λ a s2. Some (During a, s2))) (bound (int_before (codes ",") ws) (λ u s. bound (int_before (codes ",") s) (λ v s2. Some (From u v, s2)))) ≡ Some (w, r) → ws ≡ moments_words w r
    decided (Some n) h =
        let p = bound_parts (name_before (codes ",") ws) _ w r h in
        let e = some_pair (During p.tree) w p.words r p.then in
        name_before_takes (codes ",") ws p.tree p.words p.first ∙ both moments_words e.0 e.1
    decided None h =
        let p = bound_parts (int_before (codes ",") ws) _ w r h in
        let q = bound_parts (int_before (codes ",") p.words) _ w r p.then in
        let e = some_pair (From p.tree q.tree) w q.words r q.then in
        int_before_takes (codes ",") ws p.tree p.words p.first ∙ ap (λ xs. int_words p.tree ++ sign (codes ",") ∷ xs) (int_before_takes (codes ",") p.words q.tree q.words q.first) ∙ both moments_words e.0 e.1

pub window_open : (ws : List Word) (w : Moments) (lo hi : Int) (r : List Word)
    → closing (commas (ws ∷ moments_items w ++ int_words lo ∷ int_words hi ∷ [])) r ≡ ws ++ sign (codes ",") ∷ moments_words w (pair_words lo hi r)
window_open ws (From u v) lo hi r =
    closed_comma ws (commas (int_words u ∷ int_words v ∷ int_words lo ∷ int_words hi ∷ [])) r ∙ ap (λ xs. ws ++ sign (codes ",") ∷ xs)
    (closed_comma (int_words u) (commas (int_words v ∷ int_words lo ∷ int_words hi ∷ [])) r ∙ ap (λ xs. int_words u ++ sign (codes ",") ∷ xs)
    (closed_comma (int_words v) (commas (int_words lo ∷ int_words hi ∷ [])) r ∙ ap (λ xs. int_words v ++ sign (codes ",") ∷ xs) (pair_open lo hi r)))
window_open ws (During a) lo hi r =
    closed_comma ws (commas (name_words a ∷ int_words lo ∷ int_words hi ∷ [])) r ∙ ap (λ xs. ws ++ sign (codes ",") ∷ name a ∷ sign (codes ",") ∷ xs) (pair_open lo hi r)

pub always_in_takes : (f : ℕ) (ws : List Word) (c : Constrained) (r : List Word) → always_in_at f ws ≡ Some (c, r) → IsConstraint c (name (codes "alwaysIn") ∷ ws) r
unfolding always_in_at
always_in_takes f ws c r h =
    let o = need_parts (behind (codes "(") ws) _ c r h in
    let u = bound_parts (cumul_at f o.words) _ c r o.then in
    let k = need_parts (behind (codes ",") u.words) _ c r u.then in
    let w = bound_parts (moments_at k.words) _ c r k.then in
    let lo = bound_parts (int_before (codes ",") w.words) _ c r w.then in
    let hi = bound_parts (int_before (codes ")") lo.words) _ c r lo.then in
    let made : Constrained = AlwaysIn u.tree w.tree lo.tree hi.tree in
    let e = some_pair made c hi.words r hi.then in
    let numbers : w.words ≡ pair_words lo.tree hi.tree hi.words =
    int_before_takes (codes ",") w.words lo.tree lo.words lo.first ∙ ap (λ xs. int_words lo.tree ++ sign (codes ",") ∷ xs) (int_before_takes (codes ")") lo.words hi.tree hi.words hi.first) in
    let inner : o.words ≡ cumul_words u.tree ++ sign (codes ",") ∷ moments_words w.tree (pair_words lo.tree hi.tree hi.words) =
    cumul_takes f o.words u.tree u.words u.first ∙ ap (λ xs. cumul_words u.tree ++ xs) (behind_takes (codes ",") u.words k.words k.first
    ∙ ap (λ xs. sign (codes ",") ∷ xs) (moments_takes k.words w.tree w.words w.first ∙ ap (moments_words w.tree) numbers)) in
    let words : name (codes "alwaysIn") ∷ ws ≡ constraint_words made ++ hi.words =
    ap (λ xs. name (codes "alwaysIn") ∷ xs) (behind_takes (codes "(") ws o.words o.first ∙ ap (λ xs. sign (codes "(") ∷ xs) (inner ∙ sym (window_open (cumul_words u.tree) w.tree lo.tree hi.tree hi.words))) in
    subst (λ y. IsConstraint y (name (codes "alwaysIn") ∷ ws) r) e.0 (refl, words ∙ ap (λ xs. constraint_words made ++ xs) e.1)
