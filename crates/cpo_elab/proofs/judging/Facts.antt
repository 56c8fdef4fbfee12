-- What the tests say of a statement that deserves no number.
use Rattle.std.proofs.Common.{◌≡◌, ℕ, true, false, not, ◌||◌, List, length, nat_lt, nat_le, Option, Some, None, refl}
use Rattle.std.proofs.lemmas.Bool.{and_parts, or_parts}
use Rattle.sched_model.specs.Words.{passes}
use Rattle.sched_model.specs.Data.{Data}
use Rattle.sched_model.specs.Valid.{IsValid, are_distinct}
use Rattle.cpo_text.specs.declared.tree.Definition.TheVariants.{IntervalVar, SequenceVar, TransitionMatrix, StateFunction, StepFunction, Cumulative}
use Rattle.cpo_text.specs.declared.tree.Statement.{Statement}
use Rattle.cpo_text.specs.declared.tree.Statement.TheVariants.{Empty, Define, Constrain, Forbid, Aim, Rank}
use Rattle.cpo_elab.specs.Named.{is_defined, itvs_of, some_name, name_defined}
use Rattle.cpo_elab.specs.Held.{criteria_in, some_bound, levels_in, some_size, some_amount, list_in, members_in, rows_in}
use Rattle.cpo_elab.specs.Judged.{is_of_other_sort, lacks_member, is_reversed, is_negative, is_outside, is_large, is_wide, statement_limit, has_room, fits, leaves_room, misfits, aims_again, has_no_hull}
use Rattle.cpo_elab.specs.Stages.{Stage, is_function, is_known, function_in, steps_in, pairs_of}
use Rattle.calendar.specs.Steps.{rises}
use Rattle.cpo_elab.proofs.judging.Truth.{not_true}
use Rattle.cpo_elab.proofs.judging.Clear.{Clear}

pub record Facts (m : Data) (s : Statement) : Type 0 where
  pub fresh : passes (is_defined m) (name_defined s) ≡ false
  pub uses : some_name (is_of_other_sort m) s ≡ false
  pub joins : lacks_member m s ≡ false
  pub ordered : some_bound is_reversed s ≡ false
  pub levels : passes is_reversed (levels_in s) ≡ false
  pub sizes : some_size is_negative s ≡ false
  pub signs : some_amount is_negative s ≡ false
  pub fitting : misfits m s ≡ false
  pub once : are_distinct (itvs_of m (list_in s)) ≡ true
  pub few : nat_lt 8 (length (criteria_in s)) ≡ false
  pub short : passes (λ n. nat_lt 64 (length n)) (name_defined s) ≡ false
  pub inside : some_bound is_outside s ≡ false
  pub small : some_amount is_large s ≡ false
  pub rows : nat_lt 200 (length (rows_in s)) ≡ false
  pub members : nat_le (length (members_in s)) 500 ≡ true
  pub room : has_room m s ≡ true
  pub single : aims_again m s ≡ false
  pub hull : has_no_hull m s ≡ false

not_defined : (st : Stage) (o : Option (List ℕ)) → passes (is_known st) o ≡ false → passes (is_defined st.model) o ≡ false
not_defined st None h = refl
not_defined st (Some n) h = (or_parts (is_function st n) (is_defined st.model n) h).1

-- a statement of calendars takes no room of the model by itself
room_of : (st : Stage) (s : Statement) → IsValid st.model → fits st s ≡ true → has_room st.model s ≡ true
room_of st Empty valid room = room
room_of st (Define n (IntervalVar args)) valid room = room
room_of st (Define n (SequenceVar ns types)) valid room = room
room_of st (Define n (TransitionMatrix rows)) valid room = room
room_of st (Define n (StateFunction x)) valid room = room
room_of st (Define n (StepFunction ps)) valid room = valid.limits
room_of st (Define n (Cumulative c)) valid room = room
room_of st (Constrain c) valid room = room
room_of st (Forbid w a f) valid room = valid.limits
room_of st (Aim sense e) valid room = room
room_of st (Rank sense es) valid room = room

pub facts : (st : Stage) (k : ℕ) (s : Statement) → IsValid st.model → Clear st k s → Facts st.model s
facts st k s valid clear =
    let m = st.model in
    let both = or_parts (passes (λ f. not (is_function st f)) (function_in s)) (some_name (is_of_other_sort m) s || lacks_member m s) clear.right in
    let right = or_parts (some_name (is_of_other_sort m) s) (lacks_member m s) both.1 in
    let rising = or_parts (not (rises (pairs_of (steps_in s)))) (some_bound is_reversed s || passes is_reversed (levels_in s)) clear.ordered in
    let order = or_parts (some_bound is_reversed s) (passes is_reversed (levels_in s)) rising.1 in
    let sign = or_parts (some_size is_negative s) (some_amount is_negative s) clear.signs in
    let limits = or_parts (nat_lt statement_limit k) (is_wide s || not (leaves_room st s)) clear.room in
    let both_limits = or_parts (is_wide s) (not (leaves_room st s)) limits.1 in
    let wide = or_parts (nat_lt 8 (length (criteria_in s))) _ both_limits.0 in
    let pairs = or_parts (nat_lt 1000 (length (steps_in s))) _ wide.1 in
    let first = or_parts (passes (λ n. nat_lt 64 (length n)) (name_defined s)) _ pairs.1 in
    let second = or_parts (some_bound is_outside s) _ first.1 in
    let third = or_parts (some_amount is_large s) (nat_lt 200 (length (rows_in s))) second.1 in
    let rest = and_parts (nat_le (length (members_in s)) 500) (fits st s) (not_true (leaves_room st s) both_limits.1) in
    record {
      fresh = not_defined st (name_defined s) clear.fresh;
      uses = right.0;
      joins = right.1;
      ordered = order.0;
      levels = order.1;
      sizes = sign.0;
      signs = sign.1;
      fitting = clear.fitting;
      once = not_true _ clear.once;
      few = wide.0;
      short = first.0;
      inside = second.0;
      small = third.0;
      rows = third.1;
      members = rest.0;
      room = room_of st s valid rest.1;
      single = clear.single;
      hull = clear.hull;
    }
