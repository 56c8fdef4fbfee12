-- A generated text deserves the model of its job shop, by the steps.
use Rattle.std.proofs.Common.{◌≡◌, List, [], ◌∷◌, map, refl, sym, ap}
use Rattle.cpo_text.specs.declared.tree.Statement.{Statement}
use Rattle.cpo_text.specs.declared.text.Form.TheVariants.{Tree as Parsed}
use Rattle.cpo_text.specs.declared.text.Reading.{Reading}
use Rattle.cpo_elab.specs.Deserves.Deserves.{judgement}
use Rattle.read_back.specs.Trees.{canonical_statements}
use Rattle.read_back.specs.Laws.{SaidIsRead, CanonicalIsJudged}
use Rattle.generated_models.specs.Shops.{shop_model, shop_statements}
use Rattle.generated_models.specs.Laws.{GeneratedDeserve, ShopsAreWritten, ShopsAreSaid, ShopsAreJudged}

-- readings of some statements, at whatever offsets
readings : List Statement → List Reading
readings ss = map (λ s. record { at = 0; form = Parsed s }) ss

have_forms : (ss : List Statement) → map (λ (x : Reading). x.form) (readings ss) ≡ map Parsed ss
unfolding readings
have_forms [] = refl
have_forms (s ∷ ss) = ap (λ fs. Parsed s ∷ fs) (have_forms ss)

pub generated_deserve : SaidIsRead → CanonicalIsJudged → ShopsAreWritten → ShopsAreSaid → ShopsAreJudged → GeneratedDeserve
generated_deserve read canonical written said alike seed jobs machines are =
    let shop = said seed jobs machines are in
    let r = read _ (shop_statements seed jobs machines) shop.says shop.formed shop.shallow shop.bytes shop.few in
    let valid = written seed jobs machines are in
    let trees = canonical_statements (shop_model seed jobs machines) in
    judgement r.0 r.1 (sym (alike seed jobs machines r.0.statements (readings trees) are r.2 (have_forms trees) (canonical (shop_model seed jobs machines) (readings trees) valid.0 valid.1 (have_forms trees))))
