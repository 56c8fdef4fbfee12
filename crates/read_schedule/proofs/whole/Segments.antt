-- Numbers that make no segments.
use Rattle.std.proofs.Common.{◌≡◌, true, List, [], ◌∷◌, ◌++◌, flat_map, sym, ◌∙◌}
use Rattle.std.proofs.lemmas.Bool.{and_parts}
use Rattle.sched_model.specs.declared.types.Segment.{Segment}
use Rattle.textline.specs.Lines.{Bytes}
use Rattle.sched_text.specs.Answers.{segment_words}
use Rattle.sched_text.specs.laws.Lines.{is_spelled_segment, behind_three}
use Rattle.read_schedule.specs.code.Reads.{are_spelled}

pub no_segments : (whole ws : List Bytes) (ss vs : List Segment) → whole ≡ flat_map segment_words ss ++ ws → (ws ≡ [] → ⊥) → ((s : Segment) (us : List Bytes) → is_spelled_segment s ≡ true → ws ≡ segment_words s ++ us → ⊥) → are_spelled vs ≡ true → whole ≡ flat_map segment_words vs → ⊥
no_segments whole ws ss vs same some none fit e = by ss vs fit (sym same ∙ e)
  where
    by : (ss vs : List Segment) → are_spelled vs ≡ true → flat_map segment_words ss ++ ws ≡ flat_map segment_words vs → ⊥
    by [] [] fit e = some e
    by [] (v ∷ vs) fit e = none v (flat_map segment_words vs) (and_parts (is_spelled_segment v) (are_spelled vs) fit).0 e
    by (s ∷ ss) [] fit e = cc
    by (s ∷ ss) (v ∷ vs) fit e = by ss vs (and_parts (is_spelled_segment v) (are_spelled vs) fit).1 (behind_three _ _ _ _ _ _ _ _ e)
