-- Plain words of which some are written.
use Rattle.std.specs.Prelude.{ℕ, ◌≡◌, ◌<◌, List, length, All, Contains, sum_by, Option, Some, None, is_some, true, slice_index_or}
use Rattle.stm_model.specs.declared.plain.PlainWord.{PlainWord}

abbrev pub zero_word : PlainWord
zero_word = record { opening = 0; own = None }

abbrev pub one_where : Option ℕ → ℕ
one_where None = 0
one_where (Some v) = 1

-- how many words are written
abbrev pub owned : List PlainWord → ℕ
owned ws = sum_by (λ w. one_where w.own) ws

-- the words written are at these addresses, and as many
pub record AreTouched (ws : List PlainWord) (touched : List ℕ) : Type 0 where
  pub within : All (λ a. a < length ws) touched
  pub all : (a : ℕ) → a < length ws → is_some (slice_index_or ws a zero_word).own ≡ true → Contains touched a
  pub count : length touched ≡ owned ws
