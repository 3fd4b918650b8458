-- Where a caller stands in its loop, and what is so there.
use Rattle.std.specs.Prelude.{ℕ, ◌≡◌, Bool, true, false, ltb, All, List, [], ◌==◌, ◌&&◌, Option, Some, None}
use Rattle.rule_base.specs.Encodings.{fenced}
use Rattle.stm_model.specs.declared.alg.Alg.{Alg}
use Rattle.stm_model.specs.declared.alg.Alg.TheVariants.{Cgl, Tml, OrecLazy, OrecEager, RingSw, Serial}
use Rattle.stm_model.specs.Logs.{Log}
use Rattle.stm_answers.specs.CallerState.{CallerState, IsRunning, is_irrevocable, no_log}
use Rattle.stm_logs.specs.LogStates.{firsts}
use Rattle.tx_loops.specs.declared.stage.Stage.{Stage}
use Rattle.tx_loops.specs.declared.stage.Stage.TheVariants.{Free, Direct, Bound, Lapsed, Buffered, Asking, Committing}

-- reads and writes go to the attempt as they are
abbrev pub is_plain : Stage → Bool
is_plain Free = true
is_plain Direct = true
is_plain Bound = true
is_plain Lapsed = true
is_plain Buffered = false
is_plain Asking = false
is_plain Committing = false

-- after an attempt that has ended
abbrev pub lapsed : Stage → Stage
lapsed Free = Free
lapsed Direct = Lapsed
lapsed Bound = Lapsed
lapsed Lapsed = Lapsed
lapsed Buffered = Lapsed
lapsed Asking = Lapsed
lapsed Committing = Lapsed

-- what is open there may leave nothing
abbrev pub is_given_up : Stage → Bool
is_given_up Free = false
is_given_up Direct = true
is_given_up Bound = false
is_given_up Lapsed = true
is_given_up Buffered = true
is_given_up Asking = true
is_given_up Committing = true

-- a body runs in an attempt that can become irrevocable
abbrev pub has_body : Stage → Bool
has_body Free = false
has_body Direct = true
has_body Bound = false
has_body Lapsed = false
has_body Buffered = true
has_body Asking = false
has_body Committing = false

-- an attempt under it can be taken back, whatever it wrote, until it is made irrevocable
abbrev pub takes_back : Alg → Bool
takes_back Cgl = false
takes_back Tml = false
takes_back OrecLazy = true
takes_back OrecEager = true
takes_back RingSw = true
takes_back Serial = true

-- of so many words it is one, and not of the range of this fence
abbrev pub IsSpared : ℕ → ℕ → ℕ → Type 0
IsSpared words fence a = (ltb a words ≡ true) × (fenced fence a ≡ false)

abbrev pub EachSpared : ℕ → ℕ → List (ℕ × ℕ) → Type 0
EachSpared words fence ws = All (IsSpared words fence) (firsts ws)

-- a range that was out is all there is
abbrev pub is_all_out : ℕ → Option (ℕ × ℕ) → Bool
is_all_out words None = false
is_all_out words (Some range) = (range.0 == 0) && (range.1 == words)

-- the attempt of a body that writes into it; of one with a buffer; of one that can't stop; one that asks to be
-- irrevocable; and one whose commit is to be asked again
abbrev pub IsDirect : CallerState → Type 0
IsDirect v = IsRunning v × (takes_back v.alg ≡ true) × (v.granted ≡ false)

abbrev pub IsBuffered : CallerState → ℕ → List (ℕ × ℕ) → Type 0
IsBuffered v words ws = IsRunning v × (v.log.writes ≡ []) × EachSpared words v.fence ws

abbrev pub IsBound : CallerState → Type 0
IsBound v = IsRunning v × (is_irrevocable v ≡ true)

abbrev pub IsAsking : CallerState → Type 0
IsAsking v = IsRunning v × (v.log ≡ no_log)

abbrev pub IsCommitting : CallerState → Type 0
IsCommitting v = (v.running ≡ true) × (is_irrevocable v ≡ false)

abbrev pub IsAtStage : Stage → CallerState → ℕ → List (ℕ × ℕ) → Type 0
IsAtStage s v words ws = (s ≡ Direct → IsDirect v) × (s ≡ Buffered → IsBuffered v words ws) × (s ≡ Bound → IsBound v) × (s ≡ Asking → IsAsking v) × (s ≡ Committing → IsCommitting v)

-- what a body has read and written: its writes lie in the buffer, if it has one
abbrev pub log_at : Stage → Log → List (ℕ × ℕ) → Log
log_at Buffered l ws = record { reads = l.reads; writes = ws }
log_at Free l ws = l
log_at Direct l ws = l
log_at Bound l ws = l
log_at Lapsed l ws = l
log_at Asking l ws = l
log_at Committing l ws = l
