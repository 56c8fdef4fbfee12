-- Where an expression has a level.
use Rattle.std.proofs.Common.{◌≡◌, ℕ, Bool, true, false, Option, Some, None, is_some, refl}
use Rattle.cpo_text.specs.Expressions.{at_least, if_so}

-- a level that is given under a test passes it
pub so : (b : Bool) (n : ℕ) → is_some (if_so b n) ≡ true → b ≡ true
so true n h = refl
so false n h = cc

-- a level that is high enough is one
pub has_level : (n : ℕ) (o : Option ℕ) → at_least n o ≡ true → is_some o ≡ true
has_level n None h = cc
has_level n (Some m) h = refl
