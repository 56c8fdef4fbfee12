use Rattle.std.specs.Prelude.{IsTrue}
use Rattle.std.proofs.Common.{sym, subst, arith}
use Rattle.sched_model.specs.declared.types.Assignment.{Assignment}
use Rattle.sched_model.specs.Domain.{is_in_domain}
use Rattle.region.specs.Cells.{Allows, root}
use Rattle.region.specs.code.Held.{Held, IsHeldOf}
use Rattle.region.specs.Narrows.{HasPoint}
use Rattle.region.specs.laws.Rooted.{root_of, root_allows}
use Rattle.region.specs.laws.Counts.{some_point}
use Rattle.region.proofs.Kept.{if_ok}
use Rattle.region.proofs.region.Region.root.Goals as goal

pub returns-clause-of : goal.returns-clause-of
returns-clause-of c = if_ok c.plain_root.result (λ r is. subst (IsHeldOf c.args.model.now) (sym is) (record { region = root_of c.args.model.now c.plain_root.ensures.valid; saved = λ k d none. absurd (omega (arith, none)) })) c.plain_root.ensures.value

pub returns-clause-allows : goal.returns-clause-allows
returns-clause-allows c = if_ok c.plain_root.result (λ r is. subst (λ (h : Held). (a : Assignment) → IsTrue (is_in_domain c.args.model.now a) → Allows h.region a) (sym is) (root_allows c.args.model.now)) c.plain_root.ensures.value

pub returns-clause-point : goal.returns-clause-point
returns-clause-point c = if_ok c.plain_root.result (λ r is. subst (λ (h : Held). HasPoint h.region) (sym is) (some_point c.args.model.now (root c.args.model.now) (root_of c.args.model.now c.plain_root.ensures.valid))) c.plain_root.ensures.value
