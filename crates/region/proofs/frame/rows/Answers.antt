use Rattle.std.proofs.Common.{◌≡◌, ℕ, ◌+◌, ◌*◌, ◌∷◌, [], ◌++◌, length, map, sym, ap, subst, ◌∙◌, arith}
use Rattle.sched_model.specs.Valid.{pair_count}
use Rattle.region.specs.declared.frame.Row.{Row}
use Rattle.region.specs.code.Flat.{IsRow, AreRows, pairs_in}
use Rattle.region.proofs.Frames.{rows_more, pairs_with, members_more, taken_more}
use Rattle.region.proofs.frame.rows.Goals as goal

pub loop-d-preserved : goal.loop-d-preserved
loop-d-preserved c =
    let pushed : c.push.new.self.items ≡ c.loop-d.rows.items ++ c.in_ok-row_of.field-0 ∷ [] = c.in_ok-push.ensures.items in
    let added : c.pair_count.result ≡ pair_count (length c.in_ok-row_of.field-0.members) = c.pair_count.ensures.value ∙ ap pair_count (c.len.ensures ∙ sym (ap length c.in_ok-row_of.ensures.members)) in
    record {
      members = ap (map (λ (row : Row). row.members)) pushed ∙ members_more c.loop-d.rows.items c.in_ok-row_of.field-0 ∙ ap (λ ms. map (λ (row : Row). row.members) c.loop-d.rows.items ++ ms ∷ []) c.in_ok-row_of.ensures.members ∙ ap (λ mss. mss ++ c.d-item.result.members ∷ []) c.loop-d.invariant.members ∙ taken_more c.args.sequences.now c.loop-d.d-index c.d-item.result c.loop-d-test.true (sym c.d-item.is);
      rows = subst (AreRows (5 * c.args.n)) (sym pushed) (rows_more (5 * c.args.n) c.loop-d.rows.items c.in_ok-row_of.field-0 c.loop-d.invariant.rows (subst (λ n. IsRow n c.in_ok-row_of.field-0) c.loop-d.invariant.cells c.in_ok-row_of.ensures.row));
      cells = ap (λ n. n + c.pair_count.result) c.loop-d.invariant.cells ∙ ap (λ n. 5 * c.args.n + pairs_in (map (λ row. row.members) c.loop-d.rows.items) + n) added ∙ counted c.args.n (pairs_in (map (λ row. row.members) c.loop-d.rows.items)) (pair_count (length c.in_ok-row_of.field-0.members)) ∙ ap (λ n. 5 * c.args.n + n) (sym (pairs_with c.loop-d.rows.items c.in_ok-row_of.field-0) ∙ ap (λ rs. pairs_in (map (λ (row : Row). row.members) rs)) (sym pushed));
      few = omega (arith, c.loop-d.invariant.few, c.pair_count.ensures.few);
    }
  where
    counted : (n a b : ℕ) → 5 * n + a + b ≡ 5 * n + (a + b)
    counted n a b = omega arith
