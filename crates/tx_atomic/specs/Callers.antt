-- Callers between their transactions.
use Rattle.std.specs.Prelude.{ℕ, suc, ◌≡◌, List, [], ◌∷◌}
use Rattle.rule_base.specs.declared.seats.Role.TheVariants.{Caller}
use Rattle.stm_rule.specs.declared.stm.Stm.{Stm}
use Rattle.stm_rule.specs.Callers.{Handle, IsOf, IsSameCaller}
use Rattle.stm_model.specs.Logs.{Log}
use Rattle.stm_answers.specs.CallerState.{IsIdle}
use Rattle.stm_tx.specs.Descs.{known, number}
use Rattle.tx_atomic.specs.Attempts.{TookEffect}
use Rattle.tx_atomic.specs.Extends.{Extends}

module _ {K : Type 0} where
  -- before and after its work a caller is in no attempt
  pub record IsReady (stm : Stm K) (d : Handle K) : Type 0 where
    pub own : IsOf d stm
    pub idle : IsIdle (known d)

  -- it is the same caller, in no attempt
  pub record IsThrough (d e : Handle K) : Type 0 where
    pub same : IsSameCaller d e
    pub idle : IsIdle (known e)

  -- and knows at least as much
  pub record HasWorked (d e : Handle K) : Type 0 where
    pub through : IsThrough d e
    pub grew : Extends (known d) (known e)

  -- a transaction of which this is so took effect once, as the last thing that the caller did,
  -- after all that it had seen, and answered so
  abbrev pub Took : {A : Type 0} → (K → List ℕ → Type 0) → (K → ℕ → A → Log → Type 0) → Stm K → Handle K → A → Handle K → Type 0
  Took good tells stm d answer e = TookEffect (good stm.rule) stm.config (number d) (tells stm.rule stm.config.words answer) (known d).front (known d) (known e)

  -- the callers from n on, each in no attempt
  abbrev pub AllReady : Stm K → ℕ → List (Handle K) → Type 0
  AllReady stm n [] = Unit {0}
  AllReady stm n (d ∷ ds) = IsOf d stm × (d.who.role ≡ Caller n) × IsIdle (known d) × AllReady stm (suc n) ds
