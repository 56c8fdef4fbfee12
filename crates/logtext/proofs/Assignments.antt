-- Words that are no assignment.
use Rattle.std.proofs.Common.{◌≡◌, true, IsTrue, List, [], ◌++◌, sym, ◌∙◌, Err}
use Rattle.std.specs.Prelude.{codes}
use Rattle.std.specs.List.{list_all, flat_map}
use Rattle.std.proofs.lemmas.List.{append-nil}
use Rattle.sched_base.specs.declared.ids.Itv.{Itv}
use Rattle.sched_model.specs.declared.types.Assignment.{Assignment}
use Rattle.sched_model.specs.declared.types.Segment.{Segment}
use Rattle.sched_model.specs.declared.types.Slot.{Slot}
use Rattle.kernel.specs.Fit.{is_fit_slot, is_fit_order, are_fit_segments, is_fit_assignment}
use Rattle.textline.specs.Lines.{Bytes}
use Rattle.logtext.specs.declared.entry.EntryFault.{EntryFault}
use Rattle.logtext.specs.declared.entry.EntryFault.TheVariants.{Bad, NoMemory}
use Rattle.logtext.specs.Spelling.{slot_words, order_words, segments_words, assignment_words}
use Rattle.logtext.specs.code.Reads.{ReadsRow, ReadsWhole, BeginsWith, BeginsSlot}
use Rattle.logtext.specs.laws.Leads.{open_told}
use Rattle.logtext.specs.laws.Told.{slot_told, slot_starts, behind_slots, order_told, order_starts, behind_orders, segments_told, function_starts, behind_functions}
use Rattle.base_laws.specs.laws.Truth.{three_true}

-- the parts of a fit assignment
fit_parts : (a : Assignment) → is_fit_assignment a ≡ true → (list_all is_fit_slot a.slots ≡ true) × (list_all is_fit_order a.orders ≡ true) × (list_all are_fit_segments a.segs ≡ true)
fit_parts a fit = three_true (list_all is_fit_slot a.slots) (list_all is_fit_order a.orders) (list_all are_fit_segments a.segs) fit

-- behind the slots that were read
past_slots : (slots : List Slot) (old w1 : List Bytes) → IsTrue (list_all is_fit_slot slots) → old ≡ flat_map slot_words slots ++ w1 → (BeginsSlot w1 → ⊥) → (a : Assignment) → is_fit_assignment a ≡ true → old ≡ assignment_words a
    → w1 ≡ flat_map order_words a.orders ++ flat_map segments_words a.segs
past_slots slots old w1 ok is ends a fit e =
    (open_told slot_words is_fit_slot BeginsSlot slot_told slot_starts slots a.slots w1 (flat_map order_words a.orders ++ flat_map segments_words a.segs) ok (fit_parts a fit).0 ends (behind_slots a.orders a.segs) (sym is ∙ e)).1

past_orders : (orders : List (List Itv)) (w1 w2 : List Bytes) → IsTrue (list_all is_fit_order orders) → w1 ≡ flat_map order_words orders ++ w2 → (BeginsWith (codes "o") w2 → ⊥) → (a : Assignment) → is_fit_assignment a ≡ true → w1 ≡ flat_map order_words a.orders ++ flat_map segments_words a.segs
    → w2 ≡ flat_map segments_words a.segs
past_orders orders w1 w2 ok is ends a fit e =
    (open_told order_words is_fit_order (BeginsWith (codes "o")) order_told order_starts orders a.orders w2 (flat_map segments_words a.segs) ok (fit_parts a fit).1 ends (behind_orders a.segs) (sym is ∙ e)).1

pub no_slots : (old new : List Bytes) (r : EntryFault) → ReadsRow slot_words is_fit_slot BeginsSlot old new (Err r) → ReadsWhole assignment_words is_fit_assignment old (Err r)
no_slots old new Bad none = λ a fit e. none a.slots (flat_map order_words a.orders ++ flat_map segments_words a.segs) (fit_parts a fit).0 (behind_slots a.orders a.segs) e
no_slots old new NoMemory none = tt

pub no_orders : (slots : List Slot) (old w1 new : List Bytes) (r : EntryFault) → (IsTrue (list_all is_fit_slot slots) × (old ≡ flat_map slot_words slots ++ w1) × (BeginsSlot w1 → ⊥))
    → ReadsRow order_words is_fit_order (BeginsWith (codes "o")) w1 new (Err r) → ReadsWhole assignment_words is_fit_assignment old (Err r)
no_orders slots old w1 new Bad s none = λ a fit e. none a.orders (flat_map segments_words a.segs) (fit_parts a fit).1 (behind_orders a.segs) (past_slots slots old w1 s.0 s.1 s.2 a fit e)
no_orders slots old w1 new NoMemory s none = tt

pub no_functions : (slots : List Slot) (orders : List (List Itv)) (old w1 w2 new : List Bytes) (r : EntryFault) → (IsTrue (list_all is_fit_slot slots) × (old ≡ flat_map slot_words slots ++ w1) × (BeginsSlot w1 → ⊥))
    → (IsTrue (list_all is_fit_order orders) × (w1 ≡ flat_map order_words orders ++ w2) × (BeginsWith (codes "o") w2 → ⊥))
    → ReadsRow segments_words are_fit_segments (BeginsWith (codes "g")) w2 new (Err r) → ReadsWhole assignment_words is_fit_assignment old (Err r)
no_functions slots orders old w1 w2 new Bad s o none = λ a fit e.
    none a.segs [] (fit_parts a fit).2 behind_functions (past_orders orders w1 w2 o.0 o.1 o.2 a fit (past_slots slots old w1 s.0 s.1 s.2 a fit e) ∙ sym (append-nil (flat_map segments_words a.segs)))
no_functions slots orders old w1 w2 new NoMemory s o none = tt

pub no_end : (slots : List Slot) (orders : List (List Itv)) (segs : List (List Segment)) (old w1 w2 w3 : List Bytes) → (IsTrue (list_all is_fit_slot slots) × (old ≡ flat_map slot_words slots ++ w1) × (BeginsSlot w1 → ⊥))
    → (IsTrue (list_all is_fit_order orders) × (w1 ≡ flat_map order_words orders ++ w2) × (BeginsWith (codes "o") w2 → ⊥))
    → (IsTrue (list_all are_fit_segments segs) × (w2 ≡ flat_map segments_words segs ++ w3) × (BeginsWith (codes "g") w3 → ⊥))
    → (w3 ≡ [] → ⊥) → (a : Assignment) → IsTrue (is_fit_assignment a) → old ≡ assignment_words a → ⊥
no_end slots orders segs old w1 w2 w3 s o g more a fit e =
    more (open_told segments_words are_fit_segments (BeginsWith (codes "g")) segments_told function_starts segs a.segs w3 [] g.0 (fit_parts a fit).2 g.2 behind_functions
    (sym g.1 ∙ past_orders orders w1 w2 o.0 o.1 o.2 a fit (past_slots slots old w1 s.0 s.1 s.2 a fit e) ∙ sym (append-nil (flat_map segments_words a.segs)))).1
