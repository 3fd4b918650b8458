-- What the opening of a memory leaves.
use Rattle.std.specs.Prelude.{◌≡◌, All, List, map}
use Rattle.stm_model.specs.declared.alg.Alg.{Alg}
use Rattle.stm_model.specs.declared.config.Config.{Config}
use Rattle.tx_atomic.specs.declared.switching.Hindrance.{Hindrance}
use Rattle.tx_checked.specs.CheckedCallers.{config_of}
use Rattle.tx_checked.specs.declared.checked_caller.CheckedCaller.{CheckedCaller}
use Rattle.tx_checked.specs.Ready.{AreHindered, AreNew, IsOpenError}
use Rattle.stm_logs.specs.LogStates.{empty_at}
use Rattle.tx_loops.specs.declared.looping_caller.LoopingCaller.{LoopingCaller}
use Rattle.tx_loops.specs.declared.opening.NotOpened.{NotOpened}
use Rattle.tx_loops.specs.declared.stage.Stage.TheVariants.{Free}

abbrev pub caller_in : LoopingCaller → CheckedCaller
caller_in m = m.caller

abbrev pub callers_in : List LoopingCaller → List CheckedCaller
callers_in ms = map caller_in ms

-- in no loop, with an empty buffer as long as its logs of writes, and with room for as many marks
pub record IsFree (m : LoopingCaller) : Type 0 where
  pub stage : m.stage ≡ Free
  pub wanted : m.plan.wanted ≡ 0
  pub buffer : m.buffer ≡ empty_at (config_of m.caller).writes 1 (config_of m.caller).marks

-- callers of one memory, numbered in order, of which the first has installed the algorithm
pub record AreNewLooping (c : Config) (alg : Alg) (ms : List LoopingCaller) : Type 0 where
  pub new : AreNew c alg (callers_in ms)
  pub free : All IsFree ms

-- the same where another was in the way of the first, so that nothing was installed
pub record AreHinderedLooping (c : Config) (e : Hindrance) (ms : List LoopingCaller) : Type 0 where
  pub hindered : AreHindered c e (callers_in ms)
  pub free : All IsFree ms

-- what tx_checked refused, or memory was refused; callers are handed out at `Busy` alone
pub record IsNotOpenedLooping (c : Config) (n : NotOpened) : Type 0 where
  pub error : IsOpenError c n.error (callers_in n.callers.items)
  pub free : All IsFree n.callers.items
