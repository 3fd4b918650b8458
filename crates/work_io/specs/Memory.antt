-- What contracts see of a source and of a sink in memory.
use Rattle.std.specs.Prelude.{ℕ, ◌≡◌, ◌<◌, List, length}

-- the bytes left, the numbers of the calls that are to fail, and the calls and faults so far
pub record SourceState : Type 0 where
  pub left : List ℕ
  pub failing : List ℕ
  pub calls : ℕ
  pub faults : ℕ

-- the bytes held, how many fit in all, the numbers of the calls that are to fail, and the calls and faults so far
pub record SinkState : Type 0 where
  pub held : List ℕ
  pub room : ℕ
  pub failing : List ℕ
  pub calls : ℕ
  pub faults : ℕ

-- the sink is full, and the piece has a byte
abbrev pub NothingFits : SinkState → List ℕ → Type 0
NothingFits s piece = (length s.held ≡ s.room) × (0 < length piece)
