-- Runs of linked nodes: how they are cut and joined, and what a write to one node does to them.
use Rattle.std.proofs.Common.{◌≡◌, ℕ, true, false, List, [], ◌∷◌, ◌++◌, Option, Some, None, nat_eq, refl, sym, subst, ◌∙◌, slice_get}
use Rattle.std.proofs.lemmas.Bool.{or_right}
use Rattle.std.specs.Ptr.{Ptr}
use Rattle.iqueue.specs.declared.node.Node.{Node}
use Rattle.iqueue.specs.code.Queue.{AreDistinctBelow, is_in}
use Rattle.iqueue.specs.code.Links.{spot, number, next_to, prev_to, with_next, with_prev, first_of, next_of, IsRun}
use Rattle.iqueue.proofs.Members.{in_head}
use Rattle.iqueue.proofs.Nodes.{number_spot, changed_other, changed_same, next_number, next_keeps, next_is, prev_number, prev_keeps, prev_is}

-- more numbers
pub in_more : (j k : ℕ) (ks : List ℕ) → is_in j ks ≡ true → is_in j (k ∷ ks) ≡ true
in_more j k ks found = or_right (nat_eq j k) (is_in j ks) found

module _ (base : Ptr) where
  pub run_same : (ns ms : List Node) (b a : Option Ptr) (ks : List ℕ) (l c : Option Ptr) → ((j : ℕ) → is_in j ks ≡ true → slice_get ms j ≡ slice_get ns j)
      → IsRun base ns b a ks l c → IsRun base ms b a ks l c
  run_same ns ms b a [] l c same run = run
  run_same ns ms b a (k ∷ ks) l c same run =
      (run.0, run.1, (same k (in_head k ks) ∙ run.2.0, run.2.1, run.2.2), run_same ns ms (Some (spot base k)) (next_of run.1) ks l c (λ j found. same j (in_more j k ks found)) run.3)

  pub run_join : (ns : List Node) (b a : Option Ptr) (xs : List ℕ) (m d : Option Ptr) (ys : List ℕ) (l c : Option Ptr)
      → IsRun base ns b a xs m d → IsRun base ns m d ys l c → IsRun base ns b a (xs ++ ys) l c
  run_join ns b a [] m d ys l c run more = rw (run.0, run.1) more
  run_join ns b a (x ∷ xs) m d ys l c run more = (run.0, run.1, run.2, run_join ns (Some (spot base x)) (next_of run.1) xs m d ys l c run.3 more)

  pub record IsCut (ns : List Node) (b a : Option Ptr) (xs ys : List ℕ) (l c : Option Ptr) : Type 0 where
    pub last : Option Ptr
    pub after : Option Ptr
    pub front : IsRun base ns b a xs last after
    pub back : IsRun base ns last after ys l c

  pub run_cut : (ns : List Node) (b a : Option Ptr) (xs ys : List ℕ) (l c : Option Ptr) → IsRun base ns b a (xs ++ ys) l c → IsCut ns b a xs ys l c
  run_cut ns b a [] ys l c run = record { last = b; after = a; front = (refl, refl); back = run }
  run_cut ns b a (x ∷ xs) ys l c run =
      let rest = run_cut ns (Some (spot base x)) (next_of run.1) xs ys l c run.3 in
      record { last = rest.last; after = rest.after; front = (run.0, run.1, run.2, rest.front); back = rest.back }

  -- the last node of a run that isn't empty is one of it
  pub run_last : (ns : List Node) (b a : Option Ptr) (k : ℕ) (ks : List ℕ) (l c : Option Ptr) → IsRun base ns b a (k ∷ ks) l c → (j : ℕ) × (l ≡ Some (spot base j)) × (is_in j (k ∷ ks) ≡ true)
  run_last ns b a k [] l c run = (k, sym run.3.0, in_head k [])
  run_last ns b a k (i ∷ ks) l c run =
      let rest = run_last ns (Some (spot base k)) (next_of run.1) i ks l c run.3 in
      (rest.0, rest.1, in_more rest.0 k (i ∷ ks) rest.2)

  differs : (j i : ℕ) (ks : List ℕ) → is_in i ks ≡ true → is_in j ks ≡ false → j ≡ i → ⊥
  differs j i ks found absent same = let here : is_in j ks ≡ true = rw same found in cc

  next_at : (ns : List Node) (l c : Option Ptr) (i j : ℕ) → l ≡ Some (spot base i) → (j ≡ i → ⊥) → slice_get (with_next base ns l c) j ≡ slice_get ns j
  next_at ns l c i j is other = rw is (changed_other (next_to c) ns (number base (spot base i)) j (λ same. other (same ∙ number_spot base i)))

  prev_at : (ns : List Node) (l c : Option Ptr) (i j : ℕ) → l ≡ Some (spot base i) → (j ≡ i → ⊥) → slice_get (with_prev base ns l c) j ≡ slice_get ns j
  prev_at ns l c i j is other = rw is (changed_other (prev_to c) ns (number base (spot base i)) j (λ same. other (same ∙ number_spot base i)))

  -- only a node of the run is written
  pub next_apart : (ns : List Node) (a : Option Ptr) (ks : List ℕ) (l c d : Option Ptr) (j : ℕ) → IsRun base ns None a ks l c → is_in j ks ≡ false → slice_get (with_next base ns l d) j ≡ slice_get ns j
  next_apart ns a [] l c d j run absent = rw (sym run.0) refl
  next_apart ns a (k ∷ ks) l c d j run absent = let r = run_last ns None a k ks l c run in next_at ns l d r.0 j r.1 (differs j r.0 (k ∷ ks) r.2 absent)

  pub prev_apart : (ns : List Node) (b a : Option Ptr) (ks : List ℕ) (l d : Option Ptr) (j : ℕ) → IsRun base ns b a ks l None → is_in j ks ≡ false → slice_get (with_prev base ns a d) j ≡ slice_get ns j
  prev_apart ns b a [] l d j run absent = rw run.1 refl
  prev_apart ns b a (k ∷ ks) l d j run absent = prev_at ns a d k j run.0 (differs j k (k ∷ ks) (in_head k ks) absent)

  -- another node stands behind the last one
  next_moves : (n : ℕ) (ns : List Node) (b a : Option Ptr) (k : ℕ) (ks : List ℕ) (l c d : Option Ptr) → AreDistinctBelow n (k ∷ ks) → IsRun base ns b a (k ∷ ks) l c → IsRun base (with_next base ns l d) b a (k ∷ ks) l d
  next_moves n ns b a k [] l c d are run =
      let here : l ≡ Some (spot base k) = sym run.3.0 in
      (run.0, next_to d run.1, (rw (here, number_spot base k) (changed_same (next_to d) ns k run.1 run.2.0), next_number d run.1 ∙ run.2.1, next_keeps d run.1 ∙ run.2.2), (run.3.0, next_is d run.1))
  next_moves n ns b a k (i ∷ ks) l c d are run =
      let r = run_last ns (Some (spot base k)) (next_of run.1) i ks l c run.3 in
      (run.0, run.1, (next_at ns l d r.0 k r.1 (differs k r.0 (i ∷ ks) r.2 are.1) ∙ run.2.0, run.2.1, run.2.2), next_moves n ns (Some (spot base k)) (next_of run.1) i ks l c d are.2 run.3)

  pub next_joined : (n : ℕ) (ns : List Node) (a : Option Ptr) (ks : List ℕ) (l c d : Option Ptr) → AreDistinctBelow n ks → IsRun base ns None a ks l c → IsRun base (with_next base ns l d) None (first_of a l d) ks l d
  next_joined n ns a [] l c d are run = rw (sym run.0) (refl, refl)
  next_joined n ns a (k ∷ ks) l c d are run =
      let r = run_last ns None a k ks l c run in
      let here : first_of a l d ≡ a = rw r.1 refl in
      subst (λ x. IsRun base (with_next base ns l d) None x (k ∷ ks) l d) (sym here) (next_moves n ns None a k ks l c d are run)

  -- another node stands before the first one
  pub prev_joined : (n : ℕ) (ns : List Node) (b a : Option Ptr) (ks : List ℕ) (l d : Option Ptr) → AreDistinctBelow n ks → IsRun base ns b a ks l None → IsRun base (with_prev base ns a d) d a ks (first_of l a d) None
  prev_joined n ns b a [] l d are run = rw run.1 (refl, refl)
  prev_joined n ns b a (k ∷ ks) l d are run =
      let here : first_of l a d ≡ l = rw run.0 refl in
      let apart_of : (j : ℕ) → is_in j ks ≡ true → slice_get (with_prev base ns a d) j ≡ slice_get ns j = λ j found. prev_at ns a d k j run.0 (λ same. differs k j ks found are.1 (sym same)) in
      subst (λ x. IsRun base (with_prev base ns a d) d a (k ∷ ks) x None) (sym here) (
        run.0,
        prev_to d run.1,
        (rw (run.0, number_spot base k) (changed_same (prev_to d) ns k run.1 run.2.0), prev_number d run.1 ∙ run.2.1, prev_is d run.1),
        subst (λ p. IsRun base (with_prev base ns a d) (Some (spot base k)) p ks l None) (sym (prev_keeps d run.1)) (run_same ns (with_prev base ns a d) (Some (spot base k)) (next_of run.1) ks l None apart_of run.3),
      )
