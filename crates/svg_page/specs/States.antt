-- The drawing of a state function: a box for each segment.
use Rattle.std.specs.Prelude.{ℕ, ◌%◌, ◌*◌, pos, List, [], ◌++◌, unwrap_or, slice_get, codes}
use Rattle.std.specs.Int.RustNames.{unsigned_abs}
use Rattle.std.specs.List.{flat_map}
use Rattle.sched_model.specs.declared.types.Segment.{Segment}
use Rattle.sched_model.specs.declared.types.StateDef.{StateDef}
use Rattle.sched_model.specs.declared.types.Assignment.{Assignment}
use Rattle.sched_model.specs.Data.{Data}
use Rattle.textline.specs.Lines.{Bytes}
use Rattle.svg_page.specs.declared.axis.Axis.{Axis}
use Rattle.svg_page.specs.Texts.{number, framed, group, scaled, label, numbered}
use Rattle.svg_page.specs.Axis.{lasting, place, width}
use Rattle.svg_page.specs.Bars.{outline, told}

-- the box of a segment; its state chooses the colour
abbrev pub segment_box : Segment → Bytes
segment_box s = outline (unsigned_abs s.v % 8) s.p s.q 0 ++ number [] s.v ++ told s.p s.q

-- the number of its state
abbrev pub segment_name : Axis → Segment → Bytes
segment_name axis s = framed (place axis s.p) 0 (width axis s.p s.q) 28 (number [] s.v)

abbrev pub segments_at : Assignment → ℕ → List Segment
segments_at a k = unwrap_or (slice_get a.segs k) []

-- 36 below the one before
abbrev pub state_drawing : Axis → ℕ → List Segment → Bytes
state_drawing axis k ss =
    group 160 (36 * k) ++ scaled 28 axis.from (pos 0) (lasting axis.from axis.to) (pos 1) ++ flat_map segment_box ss ++ codes "</svg>\n" ++ flat_map (segment_name axis) ss ++ codes "</g>\n"

abbrev pub state_label : ℕ → StateDef → Bytes
state_label k d = group 5 (36 * k) ++ label 0 0 150 28 d.name ++ codes "</g>\n"

abbrev pub state : Assignment → Axis → ℕ → StateDef → Bytes
state a axis k d = state_drawing axis k (segments_at a k) ++ state_label k d

abbrev pub states : Data → Assignment → Axis → Bytes
states m a axis = numbered (state a axis) 0 m.states
