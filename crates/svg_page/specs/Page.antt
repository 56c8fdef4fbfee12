-- The page of a schedule.
use Rattle.std.specs.Prelude.{◌≡◌, ℕ, ◌+◌, ◌*◌, ◌/◌, pos, List, ◌++◌, length, codes}
use Rattle.sched_model.specs.declared.types.Assignment.{Assignment}
use Rattle.sched_model.specs.Data.{Data}
use Rattle.textline.specs.Lines.{Bytes}
use Rattle.svg_page.specs.declared.axis.Axis.{Axis}
use Rattle.svg_page.specs.declared.lanes.Lane.{Lane}
use Rattle.svg_page.specs.declared.profiles.Step.{Step}
use Rattle.svg_page.specs.Texts.{count, group, scaled}
use Rattle.svg_page.specs.Axis.{axis_of, lasting, ticks}
use Rattle.svg_page.specs.Lanes.{absent, lanes, letter_size, row_height}
use Rattle.svg_page.specs.Bars.{absent_names, bars, bar_names, lane_labels}
use Rattle.svg_page.specs.Profiles.{AreProfiles}
use Rattle.svg_page.specs.Cumuls.{cumuls}
use Rattle.svg_page.specs.States.{states}

-- How high the page is, with so many rows, cumulative functions, state functions, and intervals that are absent.

abbrev pub rows_height : ℕ → ℕ
rows_height n = n * row_height n

abbrev pub drawings_height : ℕ → ℕ → ℕ → ℕ
drawings_height n c s = rows_height n + 90 * c + 36 * s + 15

abbrev pub page_height : ℕ → ℕ → ℕ → ℕ → ℕ
page_height n c s k = drawings_height n c s + 18 * (k / 6) + 70

-- the colours of letters, ticks, frames, levels, what bounds forbid, bars, and the ground
abbrev pub style : Bytes
style =
    codes "<style>text{fill:#222}.g{stroke:#ccc}.o{fill:none;stroke:#555;stroke-width:.7}.p{fill:#6ea3cc}.b{fill:#e9b7b5}"
    ++ codes ".c0{fill:#9ecae1}.c1{fill:#fdd0a2}.c2{fill:#c7e9c0}.c3{fill:#dadaeb}.c4{fill:#fcbba1}.c5{fill:#d9d9d9}.c6{fill:#fff2ae}.c7{fill:#b3e2cd}</style>\n<rect width='100%' height='100%' fill='#fff'/>\n"

abbrev pub head : ℕ → ℕ → Bytes
head n height =
    count (codes "<svg xmlns='http://www.w3.org/2000/svg' width='1180' height='") height ++ count (codes "' font-family='sans-serif' font-size='") (letter_size n) ++ codes "'>\n" ++ style

-- The rows: their bars, in units of the schedule's own, and the names upon them.
abbrev pub rows : Data → Assignment → Axis → List Lane → ℕ → Bytes
rows m a axis all n =
    scaled (rows_height n) axis.from (pos 0) (lasting axis.from axis.to) (pos n) ++ bars m a all ++ codes "</svg>\n" ++ bar_names m a axis all n

abbrev pub chart : Data → Assignment → Axis → List Lane → ℕ → ℕ → Bytes
chart m a axis all n height =
    group 160 30 ++ ticks axis height ++ rows m a axis all n ++ codes "</g>\n"

abbrev pub margin : Data → List Lane → ℕ → Bytes
margin m all n = group 5 30 ++ lane_labels m all n ++ codes "</g>\n"

-- Below the rows: the cumulative functions, the state functions, and the intervals that are absent.

abbrev pub absent_list : Data → List ℕ → Bytes
absent_list m missing =
    count (codes "<text x='8' y='13'>") (length missing) ++ codes " absent</text>\n" ++ group 160 0 ++ absent_names m missing ++ codes "</g>\n"

abbrev pub below : Data → Assignment → Axis → List (List Step) → List ℕ → ℕ → ℕ → ℕ → Bytes
below m a axis profiles missing n c s =
    group 0 (rows_height n + 45) ++ cumuls m a axis profiles ++ group 0 (90 * c) ++ states m a axis ++ group 0 (36 * s) ++ absent_list m missing

abbrev pub tail : Bytes
tail = codes "</g></g></g></svg>\n"

abbrev pub page_of : Data → Assignment → List (List Step) → Axis → List Lane → List ℕ → Bytes
page_of m a profiles axis all missing =
    head (length all) (page_height (length all) (length m.cumuls) (length m.states) (length missing))
    ++ chart m a axis all (length all) (drawings_height (length all) (length m.cumuls) (length m.states))
    ++ margin m all (length all)
    ++ below m a axis profiles missing (length all) (length m.cumuls) (length m.states)
    ++ tail

abbrev pub page_text : Data → Assignment → List (List Step) → Bytes
page_text m a profiles = page_of m a profiles (axis_of a.slots) (lanes m a) (absent a.slots)

-- the text is that of the page, where each cumulative function is drawn by its own steps
abbrev pub IsPage : Data → Assignment → Bytes → Type 0
IsPage m a text = (profiles : List (List Step)) × AreProfiles a m.cumuls profiles × (text ≡ page_text m a profiles)
