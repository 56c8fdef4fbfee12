-- Which numbers are in a queue, told by a mark for each.
use Rattle.std.specs.Prelude.{◌≡◌, ℕ, Bool, false, List, length, slice_index_or}
use Rattle.iqueue.specs.code.Queue.{Queue, is_in}

pub record AreMarks (q : Queue) (marks : List Bool) : Type 0 where
  pub count : length marks ≡ q.below
  pub tell : (k : ℕ) → slice_index_or marks k false ≡ is_in k q.list
