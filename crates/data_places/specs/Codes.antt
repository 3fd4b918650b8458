-- The words of values.
use Rattle.std.specs.Prelude.{ℕ, ◌≡◌, ◌+◌, Option, None, Some}
use Rattle.stm_model.specs.Logs.{Log, Reads, Writes}

-- none is 0, and some value one more than its own word
abbrev pub option_code : {A : Type 0} → (A → ℕ) → Option A → ℕ
option_code code None = 0
option_code code (Some x) = code x + 1

-- a word stands for the value: where it is the word of some value, it is the word of this one alone
abbrev pub Stands : {A : Type 0} → (A → Type 0) → (A → ℕ) → ℕ → A → Type 0
Stands {A = A} fits code word v = (x : A) → fits x → word ≡ code x → v ≡ x

-- from l to k the place was read and written, and nothing else: it had the value `had`, of which `by` made v
abbrev pub Updates : {A : Type 0} → (A → Type 0) → (A → ℕ) → (A → A → Type 0) → ℕ → Log → A → Log → Type 0
Updates {A = A} fits code by at l v k = (word : ℕ) × (had : A) × (between : Log) × Reads l at word between × Stands fits code word had × by had v × Writes between at (code v) k × fits v
