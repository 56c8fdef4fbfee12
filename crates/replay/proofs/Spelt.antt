-- What the laws of spelling say of bytes that begin with a line.
use Rattle.std.proofs.Common.{◌≡◌, ℤ, Bool, true, false, List, [], ◌∷◌, ◌++◌, length, take, drop, sym, ap, subst, ◌∙◌, arith, append_assoc, length-append}
use Rattle.std.proofs.lemmas.List.{take-append-drop}
use Rattle.std.proofs.Math.Seq.{take-append_seam}
use Rattle.textline.specs.Lines.{Bytes}
use Rattle.logtext.specs.declared.entry.Entry.{Entry}
use Rattle.logtext.specs.Entries.{Spells, entry_text}
use Rattle.logtext.specs.Reading.{HasNoWholeLine, BeginsWithNone}
use Rattle.logtext.specs.Judgement.{BeginsWith}
use Rattle.logtext.specs.code.Promises.{EndsOnce, SpellingsAreTold, SpellingsEndOnce}
use Rattle.replay.proofs.Feeds.{has_no_feed, feed_within, cut_line}
use Rattle.replay.proofs.Feeds.Cut.{before, behind}

-- the laws of spelling, for witnesses with these numbers
pub record Spellings {W : Type 0} (numbers : W → List ℤ) (valid : W → Bool) : Type 0 where
  pub told : SpellingsAreTold numbers valid
  pub ends : SpellingsEndOnce numbers valid

pub record SameLine {W : Type 0} (a b x y : Bytes) (e f : Entry W) : Type 0 where
  pub text : a ≡ b
  pub rest : x ≡ y
  pub entry : e ≡ f

module _ {W : Type 0} (numbers : W → List ℤ) (valid : W → Bool) where
  abbrev pub Spelt : Bytes → Entry W → Type 0
  Spelt text e = Spells numbers valid text e

  pub ends_once : Spellings numbers valid → (text : Bytes) (e : Entry W) → Spelt text e → EndsOnce text
  ends_once laws text e p = subst EndsOnce (sym p.text_is) (laws.ends e p.fit)

  up_to_feed : (a x : Bytes) (once : EndsOnce a) → a ++ x ≡ once.body ++ 10 ∷ x
  up_to_feed a x once = ap (λ t. t ++ x) once.text_is ∙ append_assoc once.body (10 ∷ []) x

  pub one_line : Spellings numbers valid → (a b x y : Bytes) (e f : Entry W) → Spelt a e → Spelt b f → a ++ x ≡ b ++ y → SameLine a b x y e f
  one_line laws a b x y e f p q h =
      let same = laws.told e f x y p.fit q.fit (ap (λ t. t ++ x) (sym p.text_is) ∙ h ∙ ap (λ t. t ++ y) q.text_is) in
      record { text = p.text_is ∙ ap (entry_text numbers) same.0 ∙ sym q.text_is; rest = same.1; entry = same.0 }

  pub begun : (rest a x : Bytes) (e : Entry W) → rest ≡ a ++ x → Spelt a e → BeginsWith numbers valid rest e
  begun rest a x e is p = (length a, rw is (omega (arith, length-append a x)), rw (is, take-append_seam a x) p)

  pub begins_by : (rest : Bytes) (e : Entry W) (begins : BeginsWith numbers valid rest e) → rest ≡ take begins.0 rest ++ drop begins.0 rest
  begins_by rest e begins = sym (take-append-drop begins.0 rest)

  pub true_false : (b : Bool) → b ≡ true → b ≡ false → ⊥
  true_false b p q = cc

  -- a whole line isn't open
  pub not_open : Spellings numbers valid → (a x : Bytes) (e : Entry W) → Spelt a e → HasNoWholeLine (a ++ x) → ⊥
  not_open laws a x e p open_one =
      let once = ends_once laws a e p in
      true_false (has_no_feed (a ++ x)) open_one.open_line (ap has_no_feed (up_to_feed a x once) ∙ feed_within once.body x)

  pub open_begins_none : Spellings numbers valid → (rest : Bytes) (e : Entry W) → HasNoWholeLine rest → BeginsWith numbers valid rest e → ⊥
  open_begins_none laws rest e open_one begins = not_open laws _ (drop begins.0 rest) e begins.2 (subst HasNoWholeLine (begins_by rest e begins) open_one)

  -- where no line is spelt in front, and what stands there is no part of one, none is whatever follows
  pub none_with_more : Spellings numbers valid → (r z : Bytes) → (HasNoWholeLine r → ⊥) → BeginsWithNone numbers valid r → (e : Entry W) → BeginsWith numbers valid (r ++ z) e → ⊥
  none_with_more laws r z whole none e begins =
      let a = take begins.0 (r ++ z) in
      let once = ends_once laws a e begins.2 in
      elim (cut_line r z once.body (drop begins.0 (r ++ z)) once.clean (begins_by (r ++ z) e begins ∙ up_to_feed a (drop begins.0 (r ++ z)) once)) [
        | before clean short ↦ whole (record { open_line = clean; short = omega (arith, ap length once.text_is, length-append once.body (10 ∷ []), begins.2.short) })
        | behind more is ↦
            let parts : r ≡ a ++ more = is ∙ sym (up_to_feed a more once) in
            let front = begun r a more e parts begins.2 in
            none e front.0 front.1 front.2
      ]
