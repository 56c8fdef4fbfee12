-- The numbers of the names of arcs: four for each, all small, and they tell the names.
use Rattle.std.specs.Prelude.{◌≡◌, ℕ, ◌*◌, ℤ, pos, true, List, [], ◌∷◌, length, flat_map}
use Rattle.std.specs.List.{list_all}
use Rattle.std.proofs.Common.{refl, arith}
use Rattle.region.specs.code.Spelled.{AreSmall}
use Rattle.region.specs.laws.Lists.{both_true}
use Rattle.refute_basic.specs.declared.arc_name.ArcName.{ArcName}
use Rattle.refute_basic.specs.Witness.{name_numbers, is_name}
use Rattle.sched_model.specs.laws.Small.{small_number}
use Rattle.sched_model.specs.Bounds.{is_number}
use Rattle.region.specs.laws.Spelled.{one_signed}

pub four_each : (is : List ArcName) → length (flat_map name_numbers is) ≡ 4 * length is
four_each [] = refl
four_each (i ∷ is) = omega (arith, four_each is)

pub names_small : (is : List ArcName) → list_all is_name is ≡ true → AreSmall (flat_map name_numbers is)
names_small [] h = none_small
  where
    none_small : AreSmall []
    none_small i d within = absurd (omega (arith, within))
names_small (j ∷ js) h =
    let two = both_true (is_name j) (list_all is_name js) h in
    let four = both_true _ (is_number j.z) two.0 in
    let three = both_true _ (is_number j.y) four.0 in
    let pair = both_true (is_number j.kind) (is_number j.x) three.0 in
    one_signed (pos j.kind) (pos j.x ∷ pos j.y ∷ pos j.z ∷ flat_map name_numbers js) (small_number j.kind pair.0)
    (one_signed (pos j.x) (pos j.y ∷ pos j.z ∷ flat_map name_numbers js) (small_number j.x pair.1)
    (one_signed (pos j.y) (pos j.z ∷ flat_map name_numbers js) (small_number j.y three.1)
    (one_signed (pos j.z) (flat_map name_numbers js) (small_number j.z four.1) (names_small js two.1))))

made : (a b c d e f g h : ℕ) → a ≡ b → c ≡ d → e ≡ f → g ≡ h → let first : ArcName = record { kind = a; x = c; y = e; z = g } in let second : ArcName = record { kind = b; x = d; y = f; z = h } in first ≡ second
made a b c d e f g h kind x y z = rw (kind, x, y, z) refl

pub names_told : (is js : List ArcName) → flat_map name_numbers is ≡ flat_map name_numbers js → is ≡ js
names_told [] [] same = refl
names_told [] (j ∷ js) same = cc
names_told (i ∷ is) [] same = cc
names_told (i ∷ is) (j ∷ js) same = joined (first i j same) (names_told is js (rest i j _ _ same))
  where
    first : (i j : ArcName) {zs ys : List ℤ} → pos i.kind ∷ pos i.x ∷ pos i.y ∷ pos i.z ∷ zs ≡ pos j.kind ∷ pos j.x ∷ pos j.y ∷ pos j.z ∷ ys → i ≡ j
    first i j same =
        let kind : i.kind ≡ j.kind = cc in
        let x : i.x ≡ j.x = cc in
        let y : i.y ≡ j.y = cc in
        let z : i.z ≡ j.z = cc in
        made i.kind j.kind i.x j.x i.y j.y i.z j.z kind x y z

    rest : (i j : ArcName) (zs ys : List ℤ) → pos i.kind ∷ pos i.x ∷ pos i.y ∷ pos i.z ∷ zs ≡ pos j.kind ∷ pos j.x ∷ pos j.y ∷ pos j.z ∷ ys → zs ≡ ys
    rest i j zs ys same = cc

    joined : {i j : ArcName} {is js : List ArcName} → i ≡ j → is ≡ js → i ∷ is ≡ j ∷ js
    joined a b = cc
