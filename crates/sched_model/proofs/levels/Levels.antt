-- The test of a level at a moment, and the sum over the parts.
use Rattle.std.proofs.Common.{◌≡◌, ℤ, Bool, true, false, ◌&&◌, List, map, ap, ◌∙◌}
use Rattle.std.specs.List.{list_all, flat_map}
use Rattle.sched_base.specs.declared.ids.Cum.{Cum}
use Rattle.sched_model.specs.declared.types.Part.{Part}
use Rattle.sched_model.specs.declared.types.Assignment.{Assignment}
use Rattle.sched_model.specs.declared.types.Window.{Window}
use Rattle.sched_model.specs.Data.{Data, parts_of}
use Rattle.sched_model.specs.Words.{◌implies◌, is_between, total}
use Rattle.sched_model.specs.Cumulative.{begin_of, changes_of, corners, is_in_window, is_level_at, level_at, shape_at, signed}

pub level_by : (m : Data) (a : Assignment) (f : Cum) (w : Window) (lo hi t lo' hi' t' z z' : ℤ) (is : List Part) (b : Bool) → true ≡ is_in_window a w t' → is ≡ parts_of m f
    → z ≡ total (map (λ i. signed i.minus (shape_at a i.shape t')) is) → b ≡ is_between lo' hi' z' → t' ≡ t → lo' ≡ lo → hi' ≡ hi → z' ≡ z → b ≡ is_level_at m a f w lo hi t
level_by m a f w lo hi t lo' hi' t' z z' is b inside parts sum within same_t same_lo same_hi same_z =
    within ∙ ap (λ x. is_between x hi' z') same_lo ∙ ap (λ x. is_between lo x z') same_hi
    ∙ ap (is_between lo hi) (same_z ∙ sum ∙ ap (λ js. total (map (λ i. signed i.minus (shape_at a i.shape t')) js)) parts)
    ∙ ap (λ c. c implies is_between lo hi (level_at m a f t')) inside
    ∙ ap (is_level_at m a f w lo hi) same_t

pub level_fails : (m : Data) (a : Assignment) (f : Cum) (w : Window) (lo hi t : ℤ) → t ≡ begin_of a w → false ≡ is_level_at m a f w lo hi t → false ≡ list_all (is_level_at m a f w lo hi) (corners m a f w)
level_fails m a f w lo hi t begin h = ap (λ b. b && list_all (is_level_at m a f w lo hi) (flat_map (λ i. changes_of a i.shape) (parts_of m f))) (h ∙ ap (is_level_at m a f w lo hi) begin)
