-- An address tells which item lies there.
use Rattle.std.proofs.Common.{◌≡◌, ℕ, ◌+◌, ◌-◌, ◌*◌, ◌/◌, ◌<◌, ap, ◌∙◌, arith}
use Rattle.std.proofs.lemmas.Nat.{div-mul-add}
use Rattle.std.specs.Mem.{type_size}
use Rattle.std.specs.Ptr.{Ptr, block_ptr, null_ptr}
use denote.RattleType.{RattleType}
use Rattle.kept.specs.code.Places.{place, index_of}

times_over : (k s : ℕ) → 0 < s → (k * s) / s ≡ k
times_over k s some = let more : k * s ≡ k * s + 0 = omega arith in ap (λ n. n / s) more ∙ div-mul-add k s 0 some

pub index_place : (R : RattleType) (base : Ptr) (k : ℕ) → 0 < type_size R → index_of R base (place R base k) ≡ k
index_place R (block_ptr b o) k some = let less : k * type_size R + o - o ≡ k * type_size R = omega arith in ap (λ n. n / type_size R) less ∙ times_over k (type_size R) some
index_place R null_ptr k some = let less : k * type_size R - 0 ≡ k * type_size R = omega arith in ap (λ n. n / type_size R) less ∙ times_over k (type_size R) some
