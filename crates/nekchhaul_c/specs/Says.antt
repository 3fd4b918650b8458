-- What C is told.
use Rattle.std.specs.Prelude.{ℕ, ◌≡◌, ◌==◌, Bool, true, false, if◌then◌else◌, List, length, Option, Some, None, Result, Ok, Err, IfErr, IfOk}
use Rattle.stm_model.specs.declared.alg.Alg.{Alg}
use Rattle.stm_model.specs.declared.alg.Alg.TheVariants.{Cgl, Tml, OrecLazy, OrecEager, RingSw, Serial}
use Rattle.nekchhaul_c.specs.Codes.{begin_code, begin_value, done_code, misuse_code, taken_code, turn_code, wait_code}
use Rattle.stm_answers.specs.declared.answers.Begin.{Begin}
use Rattle.tx_checked.specs.declared.errand.Errand.TheVariants.{Switch}
use Rattle.tx_loops.specs.declared.looping_caller.LoopingCaller.{LoopingCaller}
use Rattle.tx_loops.specs.declared.turn.How.{How}
use Rattle.tx_loops.specs.declared.turn.Turn.{Turn}
use Rattle.tx_loops.specs.declared.turn.Turn.TheVariants as turns
use Rattle.tx_loops.specs.declared.watch.Watch.{Watch}
use Rattle.tx_loops.specs.Loops.{EnterSays, LeaveSays}
use Rattle.tx_loops.specs.Waits.{HasLooked, KeepsWatch, WaitSays}
use Rattle.nekchhaul_c.specs.declared.pause.Pause.{Pause}
use Rattle.tx_loops.specs.Accesses.{Passes, PassesFree, SameLoop, leaving}
use Rattle.tx_checked.specs.declared.misuse.Misuse.{Misuse}
use Rattle.tx_checked.specs.declared.refusal.Refusal.{Refusal}
use Rattle.tx_checked.specs.Learning.{HasLearned, IsAsked, TellsSameMemory, meeting}
use Rattle.tx_checked.specs.CheckedCallers.{is_beside, known_to}
use Rattle.tx_checked.specs.Misuses.{doing, outside, ending}
use Rattle.tx_checked.specs.Endings.{HasEnded}
use Rattle.tx_checked.specs.Tells.{Tells, HasBegun, HasSwitched}

-- a handle that held no caller holds none, and then this is so; one that held a caller holds one, of which P
abbrev pub Holds : Type 0 → (LoopingCaller → LoopingCaller → Type 0) → Option LoopingCaller → Option LoopingCaller → Type 0
Holds Empty P None None = Empty
Holds Empty P None (Some n) = ⊥
Holds Empty P (Some m) None = ⊥
Holds Empty P (Some m) (Some n) = P m n

-- there is an answer of tx_loops' of which the status is the number, and this is what that call tells of it
abbrev pub Says : {A : Type 0} → (Result A Misuse → ℕ) → (LoopingCaller → LoopingCaller → Result A Misuse → Type 0) → ℕ → LoopingCaller → LoopingCaller → Type 0
Says {A = A} code Told k m n = (r : Result A Misuse) × (k ≡ code r) × Told m n r

-- the same of an answer with a word, which is put in a place that had `old`
abbrev pub SaysWord : {A : Type 0} → (Result A Misuse → ℕ) → (Result A Misuse → ℕ → ℕ) → ℕ → ℕ → (LoopingCaller → LoopingCaller → Result A Misuse → Type 0) → ℕ → LoopingCaller → LoopingCaller → Type 0
SaysWord {A = A} code word old new Told k m n = (r : Result A Misuse) × (k ≡ code r) × (new ≡ word r old) × Told m n r

-- how to pause, or by what to sleep; nothing else is put in that place
abbrev pub PutsSleep : Option Watch → Pause → Type 0
PutsSleep None pause = (pause.times ≡ 0) × (pause.seen ≡ 0)
PutsSleep (Some w) pause = (pause.times ≡ 0) × (pause.seen ≡ w.seen)

abbrev pub PutsPause : Result Turn Misuse → Option Watch → Pause → Pause → Type 0
PutsPause (Ok (turns.Pause times)) watch old new = (new.times ≡ times) × (new.seen ≡ 0)
PutsPause (Ok turns.Sleep) watch old new = PutsSleep watch new
PutsPause (Ok turns.Run) watch old new = new ≡ old
PutsPause (Ok turns.Done) watch old new = new ≡ old
PutsPause (Ok turns.Over) watch old new = new ≡ old
PutsPause (Ok turns.Full) watch old new = new ≡ old
PutsPause (Ok turns.ClockFull) watch old new = new ≡ old
PutsPause (Ok turns.Memory) watch old new = new ≡ old
PutsPause (Ok turns.Irrevocable) watch old new = new ≡ old
PutsPause (Err e) watch old new = new ≡ old

abbrev pub PutsTurn : ℕ → Result Turn Misuse → LoopingCaller → Pause → Pause → ℕ → Type 0
PutsTurn how r n old new k = (k ≡ turn_code how r) × PutsPause r n.plan.watch old new

-- of a call of a loop, with the pause; the body answered `how`
abbrev pub TurnSays : ℕ → Pause → Pause → (LoopingCaller → LoopingCaller → Result Turn Misuse → Type 0) → ℕ → LoopingCaller → LoopingCaller → Type 0
TurnSays how old new Told k m n = (r : Result Turn Misuse) × PutsTurn how r n old new k × Told m n r

-- what tx_loops tells of the two, and who sleeps has looked since it was announced
abbrev pub EnterTells : LoopingCaller → LoopingCaller → Result Turn Misuse → Type 0
EnterTells m n r = EnterSays m n r × KeepsWatch m n

abbrev pub LeaveTells : How → LoopingCaller → LoopingCaller → Result Turn Misuse → Type 0
LeaveTells how m n r = LeaveSays how m n r × IfOk r (HasLooked m n)

-- and of a wait outside of loops
abbrev pub PutsWait : Result Bool Misuse → Option Watch → Pause → Pause → Type 0
PutsWait (Ok true) watch old new = PutsSleep watch new
PutsWait (Ok false) watch old new = new ≡ old
PutsWait (Err e) watch old new = new ≡ old

abbrev pub WaitTells : Pause → Pause → ℕ → LoopingCaller → LoopingCaller → Type 0
WaitTells old new k m n = (r : Result Bool Misuse) × (k ≡ wait_code r) × PutsWait r n.plan.watch old new × WaitSays m n r

-- and of a begin with what the attempt runs under, a range beside it too
abbrev pub BeginSays : ℕ → ℕ → ℕ → LoopingCaller → LoopingCaller → Type 0
BeginSays old new k m n = (r : Result Begin Misuse) × (k ≡ begin_code r) × (new ≡ begin_value r (is_beside (known_to n.caller)) old) × PassesFree outside HasBegun m n r

-- only a caller in no attempt that hasn't closed the gate and has no range out is let go,
-- and then the handle holds none
abbrev pub LetsGo : ℕ → Option LoopingCaller → Option LoopingCaller → Type 0
LetsGo k None None = k ≡ 16
LetsGo k None (Some n) = ⊥
LetsGo k (Some m) None = (k ≡ 0) × (leaving m.caller ≡ None)
LetsGo k (Some m) (Some n) = (e : Misuse) × (k ≡ misuse_code e) × (leaving m.caller ≡ Some e) × (n ≡ m)

-- algorithms by their number
abbrev pub algorithm_numbered : ℕ → Option Alg
algorithm_numbered n =
    if n
    == 0 then Some Cgl else
    (if n
    == 1 then Some Tml else
    (if n
    == 2 then Some OrecLazy else
    (if n == 3 then Some OrecEager else (if n == 4 then Some RingSw else (if n == 5 then Some Serial else None)))))

-- there is no such algorithm, and nothing has changed; or what a switch to it tells
abbrev pub SwitchSays : Option Alg → ℕ → LoopingCaller → LoopingCaller → Type 0
SwitchSays None k m n = (k ≡ 21) × (n ≡ m)
SwitchSays (Some alg) k m n = Says taken_code (Passes (doing (Switch alg)) (HasSwitched alg)) k m n

-- the end of a memory; a misuse leaves the words as they were, as a refusal does
abbrev pub EndSays : List ℕ → List ℕ → ℕ → LoopingCaller → LoopingCaller → Type 0
EndSays old new k m n = (r : Result (Result (Unit {0}) Refusal) Misuse) × (k ≡ taken_code r) × Tells (ending (length old) m.caller) (HasEnded m.caller n.caller old new) m.caller n.caller r × IfErr r (λ _. new ≡ old) × SameLoop m n

-- of a call on two callers: m is to learn from f
abbrev pub LearnTells : ℕ → LoopingCaller → LoopingCaller → LoopingCaller → LoopingCaller → Type 0
LearnTells k m n f g = (r : Result (Unit {0}) Misuse) × (k ≡ done_code r) × TellsSameMemory (meeting m.caller f.caller) (HasLearned m.caller f.caller n.caller) m.caller n.caller r × IsAsked (meeting m.caller f.caller) f.caller g.caller × SameLoop m n × SameLoop f g

-- where one of the two handles holds no caller, none is touched
abbrev pub LearnSays : ℕ → Option LoopingCaller → Option LoopingCaller → Option LoopingCaller → Option LoopingCaller → Type 0
LearnSays k None to from from' = (k ≡ 16) × (to ≡ None) × (from' ≡ from)
LearnSays k (Some m) to None from' = (k ≡ 16) × (to ≡ Some m) × (from' ≡ None)
LearnSays k (Some m) None (Some f) from' = ⊥
LearnSays k (Some m) (Some n) (Some f) None = ⊥
LearnSays k (Some m) (Some n) (Some f) (Some g) = LearnTells k m n f g
