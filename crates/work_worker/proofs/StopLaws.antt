-- An operation that was stopped in the middle.
use Rattle.std.proofs.Common.{ℕ, ◌≡◌, List, true, refl, subst}
use Rattle.std.specs.Prelude.{Option, Some, None, Result, Ok, Err, IfErr}
use Rattle.stm_model.specs.Logs.{IsReadStop}
use Rattle.stm_model.specs.declared.config.Config.{Config}
use Rattle.stm_model.specs.declared.stop.Stop.{Stop}
use Rattle.stm_model.specs.declared.stop.Stop.TheVariants as stops
use Rattle.work_script.specs.declared.op.Op.{Op}
use Rattle.work_script.specs.declared.op.Op.TheVariants as ops
use Rattle.work_script.specs.Operations.{OnlyReads}
use Rattle.stm_answers.specs.Answers.{Stops}
use Rattle.stm_answers.specs.CallerState.{CallerState}
use Rattle.stm_tx.specs.declared.live.Halt.{Halt}
use Rattle.stm_tx.specs.Descs.{Since, stop_of}
use Rattle.work_trace.specs.Places.{may_write}
use Rattle.work_worker.specs.Tellings.{StoppedBy}

-- an operation that only reads is not stopped by a full clock
only-writers : (op : Op) (clock : ℕ) → (OnlyReads op → IsReadStop (stops.ClockFull clock)) → may_write op ≡ true
only-writers (ops.Read a) clock h = absurd (h tt)
only-writers (ops.Write a v) clock h = refl
only-writers (ops.Add a k) clock h = refl
only-writers (ops.Move a b k) clock h = refl
only-writers (ops.Emit a) clock h = absurd (h tt)
only-writers ops.Irrev clock h = absurd (h tt)
only-writers ops.Cancel clock h = absurd (h tt)
only-writers (ops.Count r stripe k) clock h = refl
only-writers (ops.Total r) clock h = absurd (h tt)
only-writers (ops.ListInsert r key) clock h = refl
only-writers (ops.ListRemove r key) clock h = refl
only-writers (ops.ListContains r key) clock h = absurd (h tt)
only-writers (ops.ListLength r) clock h = absurd (h tt)
only-writers (ops.HashInsert r key) clock h = refl
only-writers (ops.HashRemove r key) clock h = refl
only-writers (ops.HashContains r key) clock h = absurd (h tt)
only-writers (ops.TreeInsert r key) clock h = refl
only-writers (ops.TreeRemove r key) clock h = refl
only-writers (ops.TreeContains r key) clock h = absurd (h tt)
only-writers (ops.TreeLeast r) clock h = absurd (h tt)
only-writers (ops.QueuePut r v) clock h = refl
only-writers (ops.QueueGet r) clock h = refl
only-writers (ops.MapPut r key v) clock h = refl
only-writers (ops.MapRemove r key) clock h = refl
only-writers (ops.MapGet r key) clock h = absurd (h tt)
only-writers (ops.MapSum r lo hi) clock h = absurd (h tt)

-- an operation that an access stopped
pub stopped-by : (good : List ℕ → Type 0) (c : Config) (n : ℕ) (op : Op) (result : Result ℕ Stop) (stopped : Option Halt) (v w : CallerState)
    → IfErr result (λ stop. stop_of stopped ≡ Some stop) → Since good c n None v stopped w → (OnlyReads op → IfErr result IsReadStop) → IfErr result (λ stop. StoppedBy good c n op stop v w)
stopped-by good c n op (Ok r) stopped v w is since cause = tt
stopped-by good c n op (Err stop) None v w is since cause = absurd cc
stopped-by good c n op (Err stop) (Some halt) v w is since cause =
    let at = since.1 in
    let same : halt.stop ≡ stop = cc in
    record {
      before = at.before;
      carries = at.carries;
      running = at.running;
      address = halt.at;
      stops = subst (λ (s : Stop). Stops good c n halt.at s at.before w) same at.stops;
      writes = λ clock e. only-writers op clock (λ r. subst IsReadStop e (cause r));
    }
