-- A settled look of which no witness of this crate refutes leaves orders that list the present members, as the region allows,
-- and by them what is listed as without overlap has none.
use Rattle.std.specs.Prelude.{◌≡◌, ℕ, Bool, true, ◌&&◌, List, [], slice_get, Some, None}
use Rattle.std.specs.List.{list_all}
use Rattle.std.proofs.Common.{refl, sym, subst, ◌∙◌, get_or}
use Rattle.std.proofs.Math.ListN.{get_or-map}
use Rattle.std.proofs.lemmas.List.{length-map}
use Rattle.base_laws.specs.laws.Items.{all_listed}
use Rattle.sched_base.specs.declared.ids.Itv.{Itv}
use Rattle.sched_base.specs.declared.ids.Seq.{Seq}
use Rattle.sched_model.specs.declared.types.SequenceDef.{SequenceDef}
use Rattle.sched_model.specs.declared.types.Assignment.{Assignment}
use Rattle.sched_model.specs.declared.types.Constraint.{Constraint}
use Rattle.sched_model.specs.declared.types.Constraint.TheVariants.{NoOverlap}
use Rattle.sched_model.specs.Words.{◌implies◌, pairwise, placewise}
use Rattle.sched_model.specs.Data.{Data, has, sequence_of}
use Rattle.sched_model.specs.laws.Words.{if_implied}
use Rattle.sched_model.specs.Domain.{lists_present}
use Rattle.sched_model.specs.Value.{is_present}
use Rattle.sched_model.specs.Sentences.{holds}
use Rattle.region.specs.Orders.{allows_order}
use Rattle.region.specs.Cells.{cells_of, no_sequence}
use Rattle.region.specs.Looks.{Seen}
use Rattle.region.specs.laws.Lists.{true_both, placewise_each}
use Rattle.region.specs.laws.Orderly.{Lists, differ, each_all}
use Rattle.region.specs.laws.Narrowing.{members_are, as_many}
use Rattle.region.specs.laws.Pinned.{IsSettledTo}
use Rattle.refute_seq.specs.code.Order.{settled_order, settled_orders}
use Rattle.refute_seq.specs.laws.Settled.{unrefuted_holds}
use Rattle.refute_seq.specs.laws.Ordered.{IsSettledLook, settled_lists, settled_allows, settled_ordered, orders_settled}

present_listed : (a : Assignment) (d : SequenceDef) (xs : List Itv) → Lists d.members a xs → lists_present a d xs ≡ true
present_listed a d xs lists =
    true_both (pairwise differ xs && list_all (λ x. has d.members x && is_present a x) xs) (list_all (λ x. is_present a x implies has xs x) d.members)
    (true_both (pairwise differ xs) (list_all (λ x. has d.members x && is_present a x) xs) lists.once
    (each_all (λ x. has d.members x && is_present a x) xs (λ x here. let two = lists.members x here in true_both (has d.members x) (is_present a x) two.0 two.1)))
    (each_all (λ x. is_present a x implies has xs x) d.members (λ x here. if_implied (is_present a x) (has xs x) (lists.all x here)))

pub orders_present : (m : Data) (l : Seen) (a : Assignment) → IsSettledLook m l → IsSettledTo m l.region a → placewise (lists_present a) m.sequences (settled_orders l.region) ≡ true
orders_present m l a ok to = placewise_each (lists_present a) m.sequences (settled_orders l.region) (record { name = None; members = []; types = None }) [] (sym (as_many m l.region ok.of) ∙ sym (length-map l.region.orders (settled_order l.region))) (λ n within. each (record { 0 = n }))
  where
    each : (p : Seq) → lists_present a (sequence_of m p) (get_or (settled_orders l.region) p.0 []) ≡ true
    each p = subst (λ xs. lists_present a (sequence_of m p) xs ≡ true) (sym (get_or-map (settled_order l.region) l.region.orders p.0 no_sequence))
        (present_listed a (sequence_of m p) (settled_order l.region (cells_of l.region p))
        (subst (λ ms. Lists ms a (settled_order l.region (cells_of l.region p))) (members_are m l.region p ok.of) (settled_lists m l a p ok to)))

pub orders_allowed : (m : Data) (l : Seen) → IsSettledLook m l → placewise allows_order l.region.orders (settled_orders l.region) ≡ true
orders_allowed m l ok = placewise_each allows_order l.region.orders (settled_orders l.region) no_sequence [] (sym (length-map l.region.orders (settled_order l.region))) (λ n within. each (record { 0 = n }))
  where
    each : (p : Seq) → allows_order (cells_of l.region p) (get_or (settled_orders l.region) p.0 []) ≡ true
    each p = subst (λ xs. allows_order (cells_of l.region p) xs ≡ true) (sym (get_or-map (settled_order l.region) l.region.orders p.0 no_sequence)) (settled_allows m l p ok)

-- a constraint without overlap holds: of other kinds this says nothing
abbrev pub keeps_apart : Data → Assignment → Constraint → Bool
keeps_apart m a (NoOverlap p matrix direct) = holds m a (NoOverlap p matrix direct)
keeps_apart m a _ = true

pub all_unrefuted_hold : (m : Data) (l : Seen) (a : Assignment) → IsSettledLook m l → IsSettledTo m l.region a → a.orders ≡ settled_orders l.region → list_all (keeps_apart m a) m.constraints ≡ true
all_unrefuted_hold m l a ok to is = all_listed (keeps_apart m a) m.constraints kept
  where
    kept : (c : ℕ) (d : Constraint) → slice_get m.constraints c ≡ Some d → keeps_apart m a d ≡ true
    kept c (NoOverlap p matrix direct) here = unrefuted_holds m l a c p matrix direct ok.valid (settled_ordered m l a p ok to (orders_settled l.region a p is)) ok.none here
    kept c other here = refl
