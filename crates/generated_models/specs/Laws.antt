-- The law that every generated text deserves the model of its job shop, and the steps to it.
use Rattle.std.specs.Prelude.{◌≡◌, ◌≤◌, ℕ, true, List, length, map, flat_map, IsTrue}
use Rattle.std.specs.List.{list_all}
use Rattle.cpo_elab.specs.Stages.{empty_stage}
use Rattle.sched_model.specs.Valid.{IsValid}
use Rattle.cpo_text.specs.declared.text.Reading.{Reading}
use Rattle.cpo_text.specs.declared.text.Form.TheVariants.{Tree as Parsed}
use Rattle.cpo_text.specs.Spelling.{spelling, is_formed}
use Rattle.cpo_text.specs.Reads.{text_limit}
use Rattle.cpo_elab.specs.Judged.{statement_limit}
use Rattle.cpo_elab.specs.Answers.{judged}
use Rattle.cpo_elab.specs.Answers.Answer.{Accepted}
use Rattle.cpo_elab.specs.Deserves.{Deserves}
use Rattle.modelgen.specs.Generated.{are_within, generated_text}
use Rattle.read_back.specs.Laws.{is_shallow}
use Rattle.read_back.specs.Says.{Says}
use Rattle.read_back.specs.Trees.{canonical_statements}
use Rattle.read_back.specs.Written.{IsWritten}
use Rattle.generated_models.specs.Shops.{shop_model, shop_statements}

abbrev pub GeneratedDeserve : Type 0
GeneratedDeserve = (seed jobs machines : ℕ) → are_within jobs machines ≡ true → Deserves (generated_text seed jobs machines) (Accepted (shop_model seed jobs machines))

-- The model is valid, and as a text can write it.
abbrev pub ShopsAreWritten : Type 0
ShopsAreWritten = (seed jobs machines : ℕ) → are_within jobs machines ≡ true → IsValid (shop_model seed jobs machines) × IsWritten (shop_model seed jobs machines)

-- The text says the words of the statements, each of which is formed and shallow, and passes no limit on texts, ...
pub record ShopIsSaid (seed jobs machines : ℕ) : Type 0 where
  pub says : Says (generated_text seed jobs machines) (flat_map spelling (shop_statements seed jobs machines))
  pub formed : IsTrue (list_all is_formed (shop_statements seed jobs machines))
  pub shallow : IsTrue (list_all is_shallow (shop_statements seed jobs machines))
  pub bytes : length (generated_text seed jobs machines) ≤ text_limit
  pub few : length (shop_statements seed jobs machines) ≤ statement_limit

abbrev pub ShopsAreSaid : Type 0
ShopsAreSaid = (seed jobs machines : ℕ) → are_within jobs machines ≡ true → ShopIsSaid seed jobs machines

-- ... and these are judged as the canonical statements of the model, which spell out what may be left out.
abbrev pub ShopsAreJudged : Type 0
ShopsAreJudged = (seed jobs machines : ℕ) (xs ys : List Reading) → are_within jobs machines ≡ true
    → map (λ x. x.form) xs ≡ map Parsed (shop_statements seed jobs machines) → map (λ y. y.form) ys ≡ map Parsed (canonical_statements (shop_model seed jobs machines))
    → judged empty_stage 1 ys ≡ Accepted (shop_model seed jobs machines) → judged empty_stage 1 xs ≡ Accepted (shop_model seed jobs machines)
