-- Which propagators are woken by which cell.
use Rattle.std.specs.Prelude.{ℕ, List, [], slice_index_or}
use Rattle.region.specs.declared.types.CellName.{CellName}
use Rattle.region.specs.declared.types.CellName.TheVariants.{Presence, StartMin, StartMax, EndMin, EndMax, Order}

-- for each interval those that watch its presence and those that watch its bounds, for each sequence those that watch its orders, and those that watch the best value
pub record Watching : Type 0 where
  pub by_presence : List (List ℕ)
  pub by_bound : List (List ℕ)
  pub by_sequence : List (List ℕ)
  pub by_best : List ℕ

abbrev pub watchers_of : Watching → CellName → List ℕ
watchers_of w (Presence x) = slice_index_or w.by_presence x.0 []
watchers_of w (StartMin x) = slice_index_or w.by_bound x.0 []
watchers_of w (StartMax x) = slice_index_or w.by_bound x.0 []
watchers_of w (EndMin x) = slice_index_or w.by_bound x.0 []
watchers_of w (EndMax x) = slice_index_or w.by_bound x.0 []
watchers_of w (Order p x y) = slice_index_or w.by_sequence p.0 []
