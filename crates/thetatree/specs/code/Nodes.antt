-- The nodes of the tree, and the rules that join two of them.
use Rattle.std.specs.Prelude.{ℕ, ℤ, pos, neg_ℤ, ◌+ℤ◌, ◌≤ℤ◌, cond, int_lt, Option, None, Some, IfSome}
use Rattle.std.specs.Option.{option_map}
use Rattle.sched_base.specs.declared.ids.TheConstants.{H}
use Rattle.thetatree.specs.declared.leaves.Task.{Task}
use Rattle.thetatree.specs.declared.leaves.Colour.{Colour}
use Rattle.thetatree.specs.declared.leaves.Colour.TheVariants.{Out, White, Gray}
use Rattle.thetatree.specs.declared.node.Best.{Best}
use Rattle.thetatree.specs.declared.node.Node.{Node}

abbrev pub greater_of : Option ℤ → Option ℤ → Option ℤ
greater_of None b = b
greater_of (Some a) None = Some a
greater_of (Some a) (Some b) = Some (cond (int_lt a b) b a)

abbrev pub later : ℤ → Best → Best
later n b = record { value = b.value +ℤ n; leaf = b.leaf }

abbrev pub better : Best → Best → Best
better a b = cond (int_lt a.value b.value) b a

abbrev pub best_of : Option Best → Option Best → Option Best
best_of None b = b
best_of (Some a) None = Some a
best_of (Some a) (Some b) = Some (better a b)

-- the node of no task
abbrev pub no_node : Node
no_node = record { sum = pos 0; ect = None; gray_sum = record { value = pos 0; leaf = None }; gray_ect = None }

-- the node of one task
abbrev pub leaf_node : Task → Colour → ℕ → Node
leaf_node a Out k = no_node
leaf_node a White k = record {
  sum = a.p;
  ect = Some (a.est +ℤ a.p);
  gray_sum = record { value = a.p; leaf = None };
  gray_ect = Some (record { value = a.est +ℤ a.p; leaf = None });
}
leaf_node a Gray k = record {
  sum = pos 0;
  ect = None;
  gray_sum = record { value = a.p; leaf = Some k };
  gray_ect = Some (record { value = a.est +ℤ a.p; leaf = Some k });
}

-- the node of two rows of tasks, one after the other
abbrev pub joined : Node → Node → Node
joined l r = record {
  sum = l.sum +ℤ r.sum;
  ect = greater_of r.ect (option_map (λ z. z +ℤ r.sum) l.ect);
  gray_sum = better (later r.sum l.gray_sum) (later l.sum r.gray_sum);
  gray_ect = best_of r.gray_ect (best_of (option_map (later r.sum) l.gray_ect) (option_map (λ z. later z r.gray_sum) l.ect));
}

-- the numbers of a node are small: its sums are at most a room, its completion times lie from -H to
-- H and that room
abbrev pub IsNear : ℕ → ℤ → Type 0
IsNear room z = (neg_ℤ H ≤ℤ z) × (z ≤ℤ (H +ℤ pos room))

pub record IsSmall (room : ℕ) (n : Node) : Type 0 where
  pub sum_from : pos 0 ≤ℤ n.sum
  pub sum_to : n.sum ≤ℤ pos room
  pub gray_from : pos 0 ≤ℤ n.gray_sum.value
  pub gray_to : n.gray_sum.value ≤ℤ pos room
  pub ect : IfSome n.ect (IsNear room)
  pub gray_ect : IfSome n.gray_ect (λ b. IsNear room b.value)
