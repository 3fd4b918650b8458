-- Callers that wait until a word changes.
use Rattle.std.specs.Prelude.{ℕ, List, Option, None}
use Rattle.stm_model.specs.Logs.{Log}
use Rattle.stm_rule.specs.declared.stm.Stm.{Stm}
use Rattle.stm_rule.specs.Callers.{Handle}
use Rattle.tx_atomic.specs.declared.waiting.Waiting.{Waiting}
use Rattle.tx_atomic.specs.Callers.{Took}
use Rattle.stm_bell.specs.Bells.{waits_for}
use Rattle.stm_bell.specs.declared.stripes.Stripes.{Stripes}
use Rattle.tx_watching.specs.Watches.{CoverReads}

-- for which words a caller waits, and how it stood as it announced that
abbrev pub stripes_of : {K : Type 0} → Waiting K → Stripes
stripes_of w = waits_for w.announced

abbrev pub since_of : {K : Type 0} → Waiting K → Handle K
since_of w = w.since.value

-- WHO SLEEPS has read a memory, and has announced each word that it read: as the last thing that it did since d, where
-- it announced the stripes, a transaction of which this is so answered None
abbrev pub HasLooked : {K A : Type 0} → (K → List ℕ → Type 0) → (K → ℕ → Option A → Log → Type 0) → Stm K → Stripes → Handle K → Handle K → Type 0
HasLooked good tells stm stripes d e = Took good (λ rule words answer log. tells rule words answer log × CoverReads stripes log) stm d None e
