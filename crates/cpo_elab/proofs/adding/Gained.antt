-- A draft with a thing more, of whatever sort.
use Rattle.std.proofs.Common.{◌≡◌, ℕ, ◌+◌, ◌-◌, ◌≤◌, List, [], ◌∷◌, ◌++◌, length, Option, Some, None, refl, sym, ap, subst, arith}
use Rattle.std.specs.Str.{bytes_eq}
use Rattle.std.specs.Map.{lookup}
use Rattle.sched_model.specs.Data.{Data}
use Rattle.sched_model.specs.Valid.{IsValid, node_total}
use Rattle.cpo_elab.specs.declared.item.Item.{Item}
use Rattle.cpo_elab.specs.declared.item.Item.TheVariants.{Interval, Matrix, Sequence, Cumulated, State}
use Rattle.cpo_elab.specs.code.Drafts.{IsDraft}
use Rattle.cpo_elab.specs.code.Items.{with_item, item_name, item_sort, next_id, item_members, item_cells, item_nodes, with_any, IsUnnamed, any_members, any_cells, any_nodes}
use Rattle.cpo_elab.proofs.named.Entries.{Table}
use Rattle.cpo_elab.proofs.adding.Grown.{grown_interval, grown_matrix, grown_state, grown_sequence, grown_cumul, grown_listed, grown_unnamed, room_for_parts, few_members}

abbrev inside : List ℕ → Option (List ℕ) → List ℕ
inside k None = k
inside k (Some n) = n

same_name : (k n : List ℕ) → Some n ≡ Some k → k ≡ n
same_name k n is = sym (ap (inside k) is)

none_more : (n more : ℕ) → more ≡ 0 → n ≡ n + more
none_more n more is = omega (arith, is)

none_less : (n less : ℕ) → less ≡ 0 → n ≡ n - less
none_less n less is = omega (arith, is)

pub grown_named : (table table' : Table) (cells room more nodes : ℕ) (m m' : Data) (x : Item) (k : List ℕ) (id : ℕ) → IsDraft table cells room m → lookup (bytes_eq k) table ≡ None → item_name x ≡ Some k
    → table' ≡ table ++ (k, record { sort = item_sort x; id = id }) ∷ [] → id ≡ next_id x m → m' ≡ with_item x m → IsValid (with_item x m) → more ≡ item_cells x → nodes ≡ item_nodes x → IsDraft table' (cells + more) (room - nodes) m'
grown_named table table' cells room more nodes m m' (Interval d) k id old absent named pushed id_is after valid more_is nodes_is =
    subst (λ n. IsDraft table' (cells + n) (room - nodes) m') (sym more_is) (subst (λ n. IsDraft table' (cells + 5) n m') (none_less room nodes nodes_is)
    (grown_interval table table' cells room m m' d k id old absent (same_name k d.name named) pushed id_is after valid))
grown_named table table' cells room more nodes m m' (Matrix d) k id old absent named pushed id_is after valid more_is nodes_is =
    subst (λ n. IsDraft table' n (room - nodes) m') (none_more cells more more_is) (subst (λ n. IsDraft table' cells n m') (none_less room nodes nodes_is)
    (grown_matrix table table' cells room m m' d k id old absent (same_name k d.name named) pushed id_is after valid))
grown_named table table' cells room more nodes m m' (Sequence d) k id old absent named pushed id_is after valid more_is nodes_is =
    subst (λ n. IsDraft table' (cells + more) n m') (none_less room nodes nodes_is)
    (grown_sequence table table' cells room more m m' d k id old absent named pushed id_is after valid more_is)
grown_named table table' cells room more nodes m m' (Cumulated d) k id old absent named pushed id_is after valid more_is nodes_is =
    subst (λ n. IsDraft table' n (room - nodes) m') (none_more cells more more_is)
    (grown_cumul table table' cells room nodes m m' d k id old absent named pushed id_is after valid nodes_is)
grown_named table table' cells room more nodes m m' (State d) k id old absent named pushed id_is after valid more_is nodes_is =
    subst (λ n. IsDraft table' n (room - nodes) m') (none_more cells more more_is) (subst (λ n. IsDraft table' cells n m') (none_less room nodes nodes_is)
    (grown_state table table' cells room m m' d k id old absent (same_name k d.name named) pushed id_is after valid))

pub grown_nameless : (table : Table) (cells room more nodes : ℕ) (m m' : Data) (x : Item) → IsDraft table cells room m → item_name x ≡ None
    → m' ≡ with_item x m → IsValid (with_item x m) → more ≡ item_cells x → nodes ≡ item_nodes x → IsDraft table (cells + more) (room - nodes) m'
grown_nameless table cells room more nodes m m' (Interval d) old none after valid more_is nodes_is = cc
grown_nameless table cells room more nodes m m' (Matrix d) old none after valid more_is nodes_is = cc
grown_nameless table cells room more nodes m m' (Sequence d) old none after valid more_is nodes_is =
    subst (λ n. IsDraft table (cells + more) n m') (none_less room nodes nodes_is) (grown_listed table cells room more m m' d old none after valid more_is)
grown_nameless table cells room more nodes m m' (Cumulated d) old none after valid more_is nodes_is =
    subst (λ n. IsDraft table n (room - nodes) m') (none_more cells more more_is) (grown_unnamed table cells room nodes m m' d old none after valid nodes_is)
grown_nameless table cells room more nodes m m' (State d) old none after valid more_is nodes_is = cc

pub few_paired : (m : Data) (x : Item) → IsValid (with_item x m) → item_members x ≤ 500
few_paired m (Interval d) valid = omega arith
few_paired m (Matrix d) valid = omega arith
few_paired m (Sequence d) valid = few_members m d (length d.members) valid refl
few_paired m (Cumulated d) valid = omega arith
few_paired m (State d) valid = omega arith

pub room_for_item : (room nodes : ℕ) (m : Data) (x : Item) → room + node_total m ≡ 100000 → IsValid (with_item x m) → nodes ≡ item_nodes x → nodes ≤ room
room_for_item room nodes m (Interval d) sums valid is = omega (arith, is)
room_for_item room nodes m (Matrix d) sums valid is = omega (arith, is)
room_for_item room nodes m (Sequence d) sums valid is = omega (arith, is)
room_for_item room nodes m (Cumulated d) sums valid is = room_for_parts room nodes m d sums valid is
room_for_item room nodes m (State d) sums valid is = omega (arith, is)

-- what a constraint writes without a name

pub few_any : (m : Data) (o : Option Item) → IsValid (with_any o m) → any_members o ≤ 500
few_any m None valid = omega arith
few_any m (Some x) valid = few_paired m x valid

pub room_for_any : (room nodes : ℕ) (m : Data) (o : Option Item) → room + node_total m ≡ 100000 → IsValid (with_any o m) → nodes ≡ any_nodes o → nodes ≤ room
room_for_any room nodes m None sums valid is = omega (arith, is)
room_for_any room nodes m (Some x) sums valid is = room_for_item room nodes m x sums valid is

pub grown_any : (table : Table) (cells room more nodes : ℕ) (m : Data) (o : Option Item) → IsDraft table cells room m → IsUnnamed o → IsValid (with_any o m) → more ≡ any_cells o → nodes ≡ any_nodes o
    → IsDraft table (cells + more) (room - nodes) (with_any o m)
grown_any table cells room more nodes m None old none valid more_is nodes_is =
    subst (λ n. IsDraft table n (room - nodes) m) (none_more cells more more_is) (subst (λ n. IsDraft table cells n m) (none_less room nodes nodes_is) old)
grown_any table cells room more nodes m (Some x) old none valid more_is nodes_is = grown_nameless table cells room more nodes m (with_item x m) x old none refl valid more_is nodes_is
