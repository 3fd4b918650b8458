-- A plain memory made of zeros.
use Rattle.std.proofs.Common.{ℕ, zero, suc, ◌≡◌, ◌<◌, [], ◌∷◌, replicate, refl, ap, arith}
use Rattle.std.specs.Prelude.{None, ◌^◌}
use Rattle.std.proofs.lemmas.List.Elements.{All-nil, All-cons}
use Rattle.stm_model.specs.declared.plain.PlainWord.{PlainWord}
use Rattle.stm_model.specs.Memories.{AreWords, overlay}
use Rattle.stm_model.specs.Plains.{openings, writes_from, own_writes}

abbrev pub zero_word : PlainWord
zero_word = record { opening = 0; own = None }

zero-openings : (n : ℕ) → openings (replicate n zero_word) ≡ replicate n 0
zero-openings zero = refl
zero-openings (suc n) = ap (λ l. 0 ∷ l) (zero-openings n)

zero-writes : (i n : ℕ) → writes_from i (replicate n zero_word) ≡ []
zero-writes i zero = refl
zero-writes i (suc n) = zero-writes (suc i) n

pub zero-words : (n : ℕ) → AreWords (openings (replicate n zero_word))
zero-words zero = All-nil (λ (v : ℕ). v < 2 ^ 64)
zero-words (suc n) = All-cons (λ (v : ℕ). v < 2 ^ 64) 0 (openings (replicate n zero_word)) (omega arith) (zero-words n)

pub zero-memory : (n : ℕ) → overlay (openings (replicate n zero_word)) (own_writes (replicate n zero_word)) ≡ replicate n 0
zero-memory n = let a = zero-openings n in let b = zero-writes 0 n in rw (b, a) refl
