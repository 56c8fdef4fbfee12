-- The definition of an interval.
use Rattle.std.proofs.Common.{◌≡◌, Bool, true, false, if◌then◌else◌, List, [], ◌∷◌, ◌++◌, codes, refl, append_assoc}
use Rattle.sched_base.specs.State.{State}
use Rattle.textline.specs.Lines.{Bytes}
use Rattle.sched_text.specs.declared.page.Page.{Page}
use Rattle.sched_text.specs.Pieces.{commas, call}
use Rattle.sched_text.specs.Canonical.{optional_items}
use Rattle.sched_text.specs.code.Printing.{Prints}
use Rattle.sched_text.proofs.Printing.{both, «as»}

-- a word before the items, if there is one
pub interval_call : (b : Bool) (x : Bytes) (xs : List Bytes) → codes "intervalVar(" ++ ((if b then codes "optional," else []) ++ (commas (x ∷ xs) ++ codes ")")) ≡ call (codes "intervalVar") (optional_items b ++ x ∷ xs)
interval_call true x xs = refl
interval_call false x xs = refl

items_are : (x y z : Bytes) → x ++ (codes "," ++ (y ++ (codes "," ++ z))) ≡ commas (x ∷ y ∷ z ∷ [])
items_are x y z = simp append_assoc

pub three_items : {x y z : Bytes} {p0 p1 p2 p3 p4 p5 : Page} {s0 s1 s2 s3 s4 s5 : State} → Prints x p0 p1 s0 s1 → Prints (codes ",") p1 p2 s1 s2 → Prints y p2 p3 s2 s3 → Prints (codes ",") p3 p4 s3 s4 → Prints z p4 p5 s4 s5
    → Prints (commas (x ∷ y ∷ z ∷ [])) p0 p5 s0 s5
three_items {x} {y} {z} first comma second comma' third = «as» (both first (both comma (both second (both comma' third)))) (items_are x y z)
