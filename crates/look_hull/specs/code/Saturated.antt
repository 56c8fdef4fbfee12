-- The look hull by arithmetic that stays within the numbers of a machine. Of an expression that has a hull, this is its look hull.
use Rattle.std.specs.Prelude.{pos, ◌-ℤ◌, List, fold}
use Rattle.std.specs.Int.{saturate_signed, w64}
use Rattle.sched_model.specs.declared.types.Expr.{Expr}
use Rattle.sched_model.specs.declared.types.Expr.TheOpen.{Expr-F}
use Rattle.sched_model.specs.declared.types.Expr.TheOpen.Expr-F.{Neg, Sum, Product}
use Rattle.sched_model.specs.declared.types.Expr.TheFolds.{fold-Expr}
use Rattle.sched_model.specs.Data.{Data}
use Rattle.sched_model.specs.Ranges.{Ends, total_range}
use Rattle.sched_model.specs.code.Saturated.{saturated_range}
use Rattle.region.specs.Cells.{Region}
use Rattle.look_hull.specs.LookHull.{look_step}

abbrev pub saturated : Ends → Ends
saturated r = (saturate_signed w64 r.0, saturate_signed w64 r.1)

abbrev pub saturated_product : List Ends → Ends
saturated_product rs = fold saturated_range (pos 1, pos 1) rs

abbrev pub saturated_negation : Ends → Ends
saturated_negation r = saturated (pos 0 -ℤ r.1, pos 0 -ℤ r.0)

abbrev pub saturated_step : Data → Region → Expr-F Ends → Ends
saturated_step m r (Neg a) = saturated_negation a
saturated_step m r (Sum rs) = saturated (total_range rs)
saturated_step m r (Product rs) = saturated (saturated_product rs)
saturated_step m r part = look_step m r part

abbrev pub saturated_look : Data → Region → Expr → Ends
saturated_look m r = fold-Expr Ends (saturated_step m r)
