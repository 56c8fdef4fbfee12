-- What a definition adds keeps the model valid and has the definition's name.
use Rattle.std.proofs.Common.{◌≡◌, ℕ, List, Some, sym, ap, subst, ◌∙◌}
use Rattle.sched_model.specs.declared.types.IntervalDef.{IntervalDef}
use Rattle.sched_model.specs.Data.{Data}
use Rattle.sched_model.specs.Valid.{IsValid}
use Rattle.cpo_text.specs.declared.tree.Ivarg.{Ivarg}
use Rattle.cpo_elab.specs.declared.item.Item.{Item}
use Rattle.cpo_elab.specs.code.Items.{with_item}
use Rattle.cpo_elab.specs.Elaborated.{plain_interval, interval_of}
use Rattle.cpo_elab.specs.lemmas.Intervals.{name_kept}

pub add_item : (m n : Data) (x : Item) → with_item x m ≡ n → IsValid n → IsValid (with_item x m)
add_item m n x made valid = subst IsValid (sym made) valid

pub interval_name : (n : List ℕ) (args : List Ivarg) (def : IntervalDef) → def ≡ interval_of n args → Some def.name ≡ Some n
interval_name n args def made = ap (λ d. Some d.name) made ∙ ap (λ k. Some k) (name_kept (plain_interval n) args)
