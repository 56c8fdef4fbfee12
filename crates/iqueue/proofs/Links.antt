-- What the calls of a queue do to its links.
use Rattle.std.proofs.Common.{◌≡◌, ℕ, zero, suc, ◌<◌, ◌≤◌, true, false, List, [], ◌∷◌, ◌++◌, inl, inr, Option, Some, None, is_some, length, get_or, set, refl, sym, ap, subst, ◌∙◌, arith, slice_get}
use Rattle.std.proofs.Math.ListN.{length-set}
use Rattle.std.proofs.lemmas.Bool.{cases_eq, false_from_ne_true}
use Rattle.std.specs.Ptr.{Ptr}
use Rattle.iqueue.specs.declared.node.Node.{Node}
use Rattle.iqueue.specs.code.Queue.{Queue, AreDistinctBelow, is_in, without, woken}
use Rattle.iqueue.specs.code.Links.{spot, number, IsEnd, next_to, prev_to, with_next, with_prev, first_of, front_of, next_of, prev_of, IsNode, IsRun, waits, behind, walked, numbers, IsLinked}
use Rattle.iqueue.proofs.Members.{first_stays, apart_test, in_head, in_front, in_below, in_less, in_one, distinct_end, distinct_front, distinct_back, distinct_less, absent_less, at_most, cut}
use Rattle.iqueue.specs.laws.Ends.{in_end}
use Rattle.iqueue.proofs.Nodes.{number_spot, set_other, set_same, changed_length, changed_waits, next_linked, prev_linked}
use Rattle.iqueue.proofs.Runs.{in_more, run_same, run_join, run_cut, run_last, next_apart, prev_apart, next_joined, prev_joined}

sits : (k : ℕ) (xs ys : List ℕ) → is_in k (xs ++ k ∷ ys) ≡ true
sits k [] ys = in_head k ys
sits k (x ∷ xs) ys = in_more k x (xs ++ k ∷ ys) (sits k xs ys)

-- a node that was read
read_is : (ns : List Node) (k : ℕ) (n m : Node) → slice_get ns k ≡ Some m → n ≡ get_or ns k n → n ≡ m
read_is [] k n m there is = cc
read_is (x ∷ ns) zero n m there is = let same : x ≡ m = cc in is ∙ same
read_is (x ∷ ns) (suc k) n m there is = read_is ns k n m there is

pub without_absent : (k : ℕ) (ks : List ℕ) → is_in k ks ≡ false → without k ks ≡ ks
without_absent k [] absent = refl
without_absent k (j ∷ js) absent = let r = apart_test k j js absent in rw (r.0) (ap (λ is. j ∷ is) (without_absent k js r.1))

abbrev queue : ℕ → List ℕ → Queue
queue n ks = record { below = n; list = ks }

-- a node that comes last
pub record IsNew (k : ℕ) (last : Option Ptr) (n : Node) : Type 0 where
  pub number : n.number ≡ k
  pub linked : n.is_linked ≡ true
  pub prev : prev_of n ≡ last
  pub next : next_of n ≡ None

module _ (base : Ptr) where
  walked_none : (n : ℕ) (ns : List Node) → walked n base ns None ≡ []
  walked_none zero ns = refl
  walked_none (suc n) ns = refl

  walked_run : (n : ℕ) (ns : List Node) (b a : Option Ptr) (ks : List ℕ) (l : Option Ptr) → IsRun base ns b a ks l None → length ks ≤ n → walked n base ns a ≡ ks
  walked_run n ns b a [] l run few = rw run.1 (walked_none n ns)
  walked_run zero ns b a (k ∷ ks) l run few = absurd (omega (arith, few))
  walked_run (suc n) ns b a (k ∷ ks) l run few =
      let step : walked (suc n) base ns (Some (spot base k)) ≡ k ∷ walked n base ns (behind (slice_get ns k)) = ap (λ i. i ∷ walked n base ns (behind (slice_get ns i))) (number_spot base k) in
      let after : behind (slice_get ns k) ≡ next_of run.1 = ap behind run.2.0 in
      ap (walked (suc n) base ns) run.0 ∙ step ∙ ap (λ p. k ∷ walked n base ns p) after ∙ ap (λ js. k ∷ js) (walked_run n ns (Some (spot base k)) (next_of run.1) ks l run.3 (omega (arith, few)))

  pub numbers_are : (ns : List Node) (first last : Option Ptr) (ks : List ℕ) → IsLinked base ns first last ks → numbers base ns first ≡ ks
  numbers_are ns first last ks is = walked_run (length ns) ns None first ks last is.run (at_most (length ns) ks is.distinct)

  pub linked_numbers : (ns : List Node) (first last : Option Ptr) (ks : List ℕ) → IsLinked base ns first last ks → IsLinked base ns first last (numbers base ns first)
  linked_numbers ns first last ks is = subst (IsLinked base ns first last) (sym (numbers_are ns first last ks is)) is

  end_at : (n k : ℕ) (p : Option Ptr) → p ≡ Some (spot base k) → k < n → IsEnd base n p
  end_at n k p is within = rw is (k, within, refl, number_spot base k)

  run_end : (n : ℕ) (ns : List Node) (a : Option Ptr) (ks : List ℕ) (l c : Option Ptr) → AreDistinctBelow n ks → IsRun base ns None a ks l c → IsEnd base n l
  run_end n ns a [] l c are run = rw (sym run.0) tt
  run_end n ns a (k ∷ ks) l c are run = let r = run_last base ns None a k ks l c run in end_at n r.0 l r.1 (in_below n r.0 (k ∷ ks) are r.2)

  run_start : (n : ℕ) (ns : List Node) (b a : Option Ptr) (ks : List ℕ) (l : Option Ptr) → AreDistinctBelow n ks → IsRun base ns b a ks l None → IsEnd base n a
  run_start n ns b a [] l are run = rw run.1 tt
  run_start n ns b a (k ∷ ks) l are run = end_at n k a run.0 are.0

  pub last_end : (ns : List Node) (first last : Option Ptr) (ks : List ℕ) → IsLinked base ns first last ks → IsEnd base (length ns) last
  last_end ns first last ks is = run_end (length ns) ns first ks last None is.distinct is.run

  next_length : (ns : List Node) (p d : Option Ptr) → length (with_next base ns p d) ≡ length ns
  next_length ns None d = refl
  next_length ns (Some p) d = changed_length (next_to d) ns (number base p)

  prev_length : (ns : List Node) (p d : Option Ptr) → length (with_prev base ns p d) ≡ length ns
  prev_length ns None d = refl
  prev_length ns (Some p) d = changed_length (prev_to d) ns (number base p)

  next_waits : (ns : List Node) (p d : Option Ptr) (j : ℕ) → waits (slice_get (with_next base ns p d) j) ≡ waits (slice_get ns j)
  next_waits ns None d j = refl
  next_waits ns (Some p) d j = changed_waits (next_to d) (next_linked d) ns (number base p) j

  prev_waits : (ns : List Node) (p d : Option Ptr) (j : ℕ) → waits (slice_get (with_prev base ns p d) j) ≡ waits (slice_get ns j)
  prev_waits ns None d j = refl
  prev_waits ns (Some p) d j = changed_waits (prev_to d) (prev_linked d) ns (number base p) j

  -- a further number
  appended : (ns : List Node) (first last : Option Ptr) (ks : List ℕ) (k : ℕ) (node : Node) → IsLinked base ns first last ks → k < length ns → is_in k ks ≡ false → IsNew k last node
      → IsLinked base (set (with_next base ns last (Some (spot base k))) k node) (first_of first last (Some (spot base k))) (Some (spot base k)) (ks ++ k ∷ [])
  appended ns first last ks k node is below absent fresh =
      let at : Option Ptr = Some (spot base k) in
      let joined = with_next base ns last at in
      let new = set joined k node in
      let within : k < length joined = rw (next_length ns last at) below in
      let here : slice_get new k ≡ Some node = set_same joined k node within in
      let size : length new ≡ length ns = length-set joined k node ∙ next_length ns last at in
      record {
        run = run_join base new None (first_of first last at) ks last at (k ∷ []) at None
            (run_same base joined new None (first_of first last at) ks last at (λ j found. set_other joined k j node (λ same. (let gone : is_in j ks ≡ false = rw same absent in cc)))
            (next_joined base (length ns) ns first ks last None at is.distinct is.run))
            (refl, node, (here, fresh.number, fresh.prev), (refl, fresh.next));
        distinct = subst (λ n. AreDistinctBelow n (ks ++ k ∷ [])) (sym size) (distinct_end (length ns) k ks is.distinct below absent);
        marks = λ j. elim (cases_eq j k) [
          | inl same ↦ rw same (ap waits here ∙ fresh.linked ∙ sym (in_end k ks))
          | inr other ↦ ap waits (set_other joined k j node other) ∙ next_waits ns last at j ∙ is.marks j ∙ sym (in_front j k ks other)
        ];
      }

  pub append_is : (ns : List Node) (first last : Option Ptr) (ks : List ℕ) (k : ℕ) (at : Ptr) (new : List Node) (first' : Option Ptr) (node : Node) → IsLinked base ns first last ks → k < length ns → is_in k ks ≡ false → IsNew k last node
      → at ≡ spot base k → new ≡ with_next base ns last (Some at) → first' ≡ first_of first last (Some at) → IsLinked base (set new k node) first' (Some at) (ks ++ k ∷ [])
  append_is ns first last ks k at new first' node is below absent fresh at_is new_is first_is = rw (first_is, new_is, at_is) (appended ns first last ks k node is below absent fresh)

  -- where a number of the queue stands
  pub record IsAt (ns : List Node) (first last : Option Ptr) (ks : List ℕ) (k : ℕ) : Type 0 where
    pub front : List ℕ
    pub back : List ℕ
    pub whole : ks ≡ front ++ k ∷ back
    pub rest : without k ks ≡ front ++ back
    pub prev : Option Ptr
    pub next : Option Ptr
    pub node : Node
    pub there : IsNode ns k prev node
    pub next_is : next_of node ≡ next
    pub before : IsRun base ns None first front prev (Some (spot base k))
    pub rear : IsRun base ns (Some (spot base k)) next back last None

  found : (ns : List Node) (first last : Option Ptr) (ks : List ℕ) (k : ℕ) → IsLinked base ns first last ks → is_in k ks ≡ true → IsAt ns first last ks k
  found ns first last ks k is there =
      let c = cut k ks there in
      let r = run_cut base ns None first c.front (k ∷ c.back) last None (subst (λ js. IsRun base ns None first js last None) c.whole is.run) in
      record {
        front = c.front;
        back = c.back;
        whole = c.whole;
        rest = c.rest;
        prev = r.last;
        next = next_of r.back.1;
        node = r.back.1;
        there = r.back.2;
        next_is = refl;
        before = subst (λ p. IsRun base ns None first c.front r.last p) r.back.0 r.front;
        rear = r.back.3;
      }

  removed : (ns : List Node) (first last : Option Ptr) (ks : List ℕ) (k : ℕ) (is : IsLinked base ns first last ks) (t : IsAt ns first last ks k) (out : Node) → out.is_linked ≡ false
      → IsLinked base (set (with_prev base (with_next base ns t.prev t.next) t.next t.prev) k out) (first_of first t.prev t.next) (first_of last t.next t.prev) (t.front ++ t.back)
  removed ns first last ks k is t out is_out =
      let n = length ns in
      let are : AreDistinctBelow n (t.front ++ k ∷ t.back) = subst (AreDistinctBelow n) t.whole is.distinct in
      let rest : AreDistinctBelow n (t.front ++ t.back) = distinct_less n k t.front t.back are in
      let gone : is_in k (t.front ++ t.back) ≡ false = absent_less n k t.front t.back are in
      let before_are = distinct_front n t.front t.back rest in
      let behind_are = distinct_back n t.front t.back rest in
      let mid = with_next base ns t.prev t.next in
      let low = with_prev base mid t.next t.prev in
      let new = set low k out in
      let first' = first_of first t.prev t.next in
      let last' = first_of last t.next t.prev in
      let not_behind : (j : ℕ) → is_in j t.front ≡ true → is_in j t.back ≡ false = λ j in_it. in_one n j t.front t.back rest in_it in
      let not_before : (j : ℕ) → is_in j t.back ≡ true → is_in j t.front ≡ false = λ j in_it. false_from_ne_true (is_in j t.front) (λ h. (let absent : is_in j t.back ≡ false = not_behind j h in cc)) in
      let behind_mid : IsRun base mid (Some (spot base k)) t.next t.back last None =
      run_same base ns mid (Some (spot base k)) t.next t.back last None (λ j in_it. next_apart base ns first t.front t.prev (Some (spot base k)) t.next j t.before (not_before j in_it)) t.rear in
      let before_mid : IsRun base mid None first' t.front t.prev t.next = next_joined base n ns first t.front t.prev (Some (spot base k)) t.next before_are t.before in
      let before_low : IsRun base low None first' t.front t.prev t.next =
      run_same base mid low None first' t.front t.prev t.next (λ j in_it. prev_apart base mid (Some (spot base k)) t.next t.back last t.prev j behind_mid (not_behind j in_it)) before_mid in
      let behind_low : IsRun base low t.prev t.next t.back last' None = prev_joined base n mid (Some (spot base k)) t.next t.back last t.prev behind_are behind_mid in
      let size : length low ≡ n = prev_length mid t.next t.prev ∙ next_length ns t.prev t.next in
      let whole_size : length new ≡ n = length-set low k out ∙ size in
      let within : k < length low = rw size (in_below n k (t.front ++ k ∷ t.back) are (sits k t.front t.back)) in
      record {
        run = run_same base low new None first' (t.front ++ t.back) last' None (λ j in_it. set_other low k j out (λ same. (let here : is_in j (t.front ++ t.back) ≡ false = rw same gone in cc)))
            (run_join base low None first' t.front t.prev t.next t.back last' None before_low behind_low);
        distinct = subst (λ m. AreDistinctBelow m (t.front ++ t.back)) (sym whole_size) rest;
        marks = λ j. elim (cases_eq j k) [
          | inl same ↦ rw same (ap waits (set_same low k out within) ∙ is_out ∙ sym gone)
          | inr other ↦ ap waits (set_other low k j out other) ∙ prev_waits mid t.next t.prev j ∙ next_waits ns t.prev t.next j ∙ is.marks j ∙ ap (is_in j) t.whole ∙ in_less j k t.front t.back other
        ];
      }

  pub unlink_is : (ns : List Node) (first last : Option Ptr) (ks : List ℕ) (k : ℕ) (node : Node) (prev next : Option Ptr) (mid low : List Node) (first' last' : Option Ptr) (out : Node) → out.is_linked ≡ false
      → IsLinked base ns first last ks → is_in k ks ≡ true → node ≡ get_or ns k node → prev ≡ prev_of node → next ≡ next_of node
      → mid ≡ with_next base ns prev next → first' ≡ first_of first prev next → low ≡ with_prev base mid next prev → last' ≡ first_of last next prev
      → IsLinked base (set low k out) first' last' (without k ks)
  unlink_is ns first last ks k node prev next mid low first' last' out is_out is there read prev_is next_is mid_is first_is low_is last_is =
      let t = found ns first last ks k is there in
      let here : node ≡ t.node = read_is ns k node t.node t.there.0 read in
      let before : prev ≡ t.prev = prev_is ∙ ap prev_of here ∙ t.there.2 in
      let after : next ≡ t.next = next_is ∙ ap next_of here ∙ t.next_is in
      rw (last_is, low_is, first_is, mid_is, before, after, t.rest) (removed ns first last ks k is t out is_out)

  pub unlink_prev : (ns : List Node) (first last : Option Ptr) (ks : List ℕ) (k : ℕ) (node : Node) (prev : Option Ptr) → IsLinked base ns first last ks → is_in k ks ≡ true → node ≡ get_or ns k node → prev ≡ prev_of node → IsEnd base (length ns) prev
  unlink_prev ns first last ks k node prev is there read prev_is =
      let t = found ns first last ks k is there in
      let here : node ≡ t.node = read_is ns k node t.node t.there.0 read in
      let before : prev ≡ t.prev = prev_is ∙ ap prev_of here ∙ t.there.2 in
      let are = subst (AreDistinctBelow (length ns)) t.whole is.distinct in
      rw before (run_end (length ns) ns first t.front t.prev (Some (spot base k)) (distinct_front (length ns) t.front (k ∷ t.back) are) t.before)

  pub unlink_next : (ns : List Node) (first last : Option Ptr) (ks : List ℕ) (k : ℕ) (node : Node) (next : Option Ptr) → IsLinked base ns first last ks → is_in k ks ≡ true → node ≡ get_or ns k node → next ≡ next_of node → IsEnd base (length ns) next
  unlink_next ns first last ks k node next is there read next_is =
      let t = found ns first last ks k is there in
      let here : node ≡ t.node = read_is ns k node t.node t.there.0 read in
      let after : next ≡ t.next = next_is ∙ ap next_of here ∙ t.next_is in
      let are = subst (AreDistinctBelow (length ns)) t.whole is.distinct in
      rw after (run_start (length ns) ns (Some (spot base k)) t.next t.back last (distinct_back (length ns) t.front (k ∷ t.back) are).2 t.rear)

  -- the queue after a wake, an unwake and a take
  pub queue_linked : (base' : Ptr) (ns : List Node) (first last : Option Ptr) (ks : List ℕ) → base' ≡ base → IsLinked base ns first last ks → IsLinked base' ns first last (numbers base' ns first)
  queue_linked base' ns first last ks same is = rw same (linked_numbers ns first last ks is)

  queue_is : (base' : Ptr) (n : ℕ) (ns : List Node) (first last : Option Ptr) (ks : List ℕ) → base' ≡ base → length ns ≡ n → IsLinked base ns first last ks → queue (length ns) (numbers base' ns first) ≡ queue n ks
  queue_is base' n ns first last ks same size is = rw (same, numbers_are ns first last ks is, size) refl

  pub woken_is : (base' : Ptr) (items ns : List Node) (first first' last' : Option Ptr) (k : ℕ) (q : Queue) → queue (length items) (numbers base items first) ≡ q → base' ≡ base → length ns ≡ length items
      → is_in k q.list ≡ false → IsLinked base ns first' last' (numbers base items first ++ k ∷ []) → queue (length ns) (numbers base' ns first') ≡ queue q.below (woken k q.list)
  woken_is base' items ns first first' last' k q view same size absent is =
      let ks = numbers base items first in
      let gone : is_in k ks ≡ false = ap (λ v. is_in k v.list) view ∙ absent in
      let made : woken k ks ≡ ks ++ k ∷ [] = rw gone refl in
      queue_is base' (length items) ns first' last' (ks ++ k ∷ []) same size is ∙ ap (queue (length items)) (sym made) ∙ ap (λ v. queue v.below (woken k v.list)) view

  pub unwoken_is : (base' : Ptr) (items ns : List Node) (first first' last' : Option Ptr) (k : ℕ) (q : Queue) → queue (length items) (numbers base items first) ≡ q → base' ≡ base → length ns ≡ length items
      → IsLinked base ns first' last' (without k (numbers base items first)) → queue (length ns) (numbers base' ns first') ≡ queue q.below (without k q.list)
  unwoken_is base' items ns first first' last' k q view same size is =
      queue_is base' (length items) ns first' last' (without k (numbers base items first)) same size is ∙ ap (λ v. queue v.below (without k v.list)) view

  -- only the first number was read since
  pub queue_read : (base' : Ptr) (ns ms : List Node) (first last : Option Ptr) (front : ℕ) → base' ≡ base → ms ≡ ns
      → IsLinked base ns first last (numbers base ns first) → front_of first front ≡ slice_get (numbers base ns first) 0
      → IsLinked base' ms first last (numbers base' ms first) × (front_of first front ≡ slice_get (numbers base' ms first) 0)
  queue_read base' ns ms first last front at same is begins = rw (at, same) (is, begins)

  pub view_read : (base' : Ptr) (ns ms : List Node) (first : Option Ptr) → base' ≡ base → ms ≡ ns → queue (length ms) (numbers base' ms first) ≡ queue (length ns) (numbers base ns first)
  view_read base' ns ms first at same = rw (at, same) refl

  -- the first number, once another one is last
  begins : (base' : Ptr) (ns : List Node) (first last : Option Ptr) (js : List ℕ) (front : ℕ) → base' ≡ base → IsLinked base ns first last js → slice_get js 0 ≡ Some front
      → front_of first front ≡ slice_get (numbers base' ns first) 0
  begins base' ns first last [] front at is here = cc
  begins base' ns first last (j ∷ js) front at is here =
      let all : numbers base' ns first ≡ j ∷ js = ap (λ b. numbers b ns first) at ∙ numbers_are ns first last (j ∷ js) is in
      let some : front_of first front ≡ Some front = ap (λ p. front_of p front) is.run.0 in
      some ∙ sym here ∙ sym (ap (λ is. slice_get is 0) all)

  pub only_first : (base' : Ptr) (items ns : List Node) (first first' last' : Option Ptr) (k front : ℕ) → base' ≡ base → is_some first ≡ false → front ≡ k
      → IsLinked base ns first' last' (numbers base items first ++ k ∷ []) → front_of first' front ≡ slice_get (numbers base' ns first') 0
  only_first base' items ns None first' last' k front at none same is =
      begins base' ns first' last' (numbers base items None ++ k ∷ []) front at is (rw (walked_none (length items) items, same) refl)
  only_first base' items ns (Some p) first' last' k front at none same is = cc

  pub still_first : (base' : Ptr) (items ns : List Node) (first first' last' : Option Ptr) (k front : ℕ) → base' ≡ base → is_some first ≡ true → front_of first front ≡ slice_get (numbers base items first) 0
      → IsLinked base ns first' last' (numbers base items first ++ k ∷ []) → front_of first' front ≡ slice_get (numbers base' ns first') 0
  still_first base' items ns None first' last' k front at some was is = cc
  still_first base' items ns (Some p) first' last' k front at some was is =
      begins base' ns first' last' (numbers base items (Some p) ++ k ∷ []) front at is (first_stays (numbers base items (Some p)) front k (sym was))
