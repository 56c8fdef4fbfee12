-- The members are what is watched.
use Rattle.std.specs.Prelude.{◌≡◌, ℕ, true, List, IsTrue}
use Rattle.std.proofs.Common.{inl, inr, sym, subst}
use Rattle.sched_base.specs.declared.ids.Itv.{Itv}
use Rattle.sched_model.specs.Data.{Data, has}
use Rattle.region.specs.declared.types.CellName.{CellName}
use Rattle.region.specs.declared.types.CellName.TheVariants as cell
use Rattle.region.specs.laws.OneSequence.{has_cases}
use Rattle.prop_sets.specs.code.Tasks.{members_at, watching, is_bound, is_bound_of}

pub presence_watched : (m : Data) (k : ℕ) (xs : List Itv) → xs ≡ members_at m k → (x : Itv) → IsTrue (watching m k (cell.Presence x)) → IsTrue (has xs x)
presence_watched m k xs is x h = subst (λ ys. has ys x ≡ true) (sym is) (elim (has_cases (has (members_at m k) x) _ h) [ inl one ↦ one | inr none ↦ cc ])

at_bound : (xs : List Itv) (m : Data) (k : ℕ) (c : CellName) → is_bound c ≡ true → watching m k c ≡ true → is_bound_of (members_at m k) c ≡ true
at_bound xs m k (cell.StartMin x) b h = h
at_bound xs m k (cell.StartMax x) b h = h
at_bound xs m k (cell.EndMin x) b h = h
at_bound xs m k (cell.EndMax x) b h = h
at_bound xs m k (cell.Presence x) b h = cc
at_bound xs m k (cell.Order p x y) b h = cc

pub bound_watched : (m : Data) (k : ℕ) (xs : List Itv) → xs ≡ members_at m k → (c : CellName) → is_bound c ≡ true → IsTrue (watching m k c) → IsTrue (is_bound_of xs c)
bound_watched m k xs is c b h = subst (λ ys. is_bound_of ys c ≡ true) (sym is) (at_bound xs m k c b h)
