-- Laws of the reads and writes of a caller that may be in a loop.
use Rattle.std.proofs.Common.{ℕ, ◌≡◌, refl, sym, subst, true}
use Rattle.std.specs.Prelude.{Bool, MatchOption, Option, Some, None, Result, Ok, Err}
use Rattle.stm_model.specs.declared.alg.Alg.{Alg}
use Rattle.stm_model.specs.Memories.{item_at}
use Rattle.stm_tx.specs.Descs.{serves-on}
use Rattle.stm_answers.specs.Answers.{GoesOn, HasRead}
use Rattle.stm_answers.specs.CallerState.{CallerState}
use Rattle.stm_answers.specs.Causes.Asked.{ForWord}
use Rattle.stm_answers.specs.declared.answers.Read.{Read}
use Rattle.stm_answers.specs.declared.answers.Read.TheVariants.{Value}
use Rattle.stm_answers.specs.declared.answers.Write.{Write}
use Rattle.stm_answers.specs.declared.answers.Write.TheVariants as writes
use Rattle.tx_checked.specs.CheckedCallers.{IsSameCheckedCaller, IsServed, config_of, known_to, number_of}
use Rattle.tx_checked.specs.declared.checked_caller.CheckedCaller.{CheckedCaller}
use Rattle.tx_checked.specs.declared.misuse.Misuse.{Misuse}
use Rattle.tx_checked.specs.declared.misuse.Misuse.TheVariants as wrong
use Rattle.tx_checked.specs.declared.phase.CallerPhase.{CallerPhase}
use Rattle.tx_checked.specs.declared.phase.CallerPhase.TheVariants as phases
use Rattle.tx_checked.specs.Misuses.{access_at}
use Rattle.tx_checked.specs.Phases.{Any, IsInPhase}
use Rattle.tx_checked.specs.Tells.{HasReadWord}
use Rattle.tx_loops.specs.Accesses.{ReadSays, ReadsAt, ReadsBelow, WriteSays, WritesAt, WritesBelow, WritesInto}
use Rattle.tx_loops.specs.declared.looping_caller.LoopingCaller.{LoopingCaller}
use Rattle.tx_loops.specs.declared.stage.Stage.{Stage}
use Rattle.tx_loops.specs.declared.stage.Stage.TheVariants.{Free, Direct, Bound, Lapsed, Buffered, Asking, Committing}

same-refl : (m : CheckedCaller) → IsSameCheckedCaller m m
same-refl m = record { stm = refl; caller = record { table = refl; who = refl } }

same-on : (m n : LoopingCaller) → n ≡ m → IsSameCheckedCaller m.caller n.caller
same-on m n is = subst (λ (k : LoopingCaller). IsSameCheckedCaller m.caller k.caller) (sym is) (same-refl m.caller)

same-below : (a : ℕ) (r : Result Read Misuse) (m n : LoopingCaller) → ReadsBelow a m n r → IsSameCheckedCaller m.caller n.caller
same-below a (Ok answer) m n h = h.0.1
same-below a (Err e) m n h = subst (λ (k : CheckedCaller). IsSameCheckedCaller m.caller k) (sym h.0.1) (same-refl m.caller)

read-same-at : (s : Stage) (a : ℕ) (r : Result Read Misuse) (m n : LoopingCaller) → ReadsAt s a m n r → IsSameCheckedCaller m.caller n.caller
read-same-at Free a r m n h = same-below a r m n h
read-same-at Direct a r m n h = same-below a r m n h
read-same-at Bound a r m n h = same-below a r m n h
read-same-at Lapsed a r m n h = same-below a r m n h
read-same-at Asking a r m n h = same-on m n h.1
read-same-at Committing a r m n h = same-on m n h.1
read-same-at Buffered a r m n h = by (item_at a m.buffer.items) h
  where
    by : (o : Option ℕ) → MatchOption o (ReadsBelow a m n r) (λ x. (r ≡ Ok (Value x)) × (n ≡ m)) → IsSameCheckedCaller m.caller n.caller
    by None k = same-below a r m n k
    by (Some x) k = same-on m n k.1

-- a read and a write are of the same caller
pub read-same : (a : ℕ) (r : Result Read Misuse) (m n : LoopingCaller) → ReadSays a m n r → IsSameCheckedCaller m.caller n.caller
read-same a r m n h = read-same-at m.stage a r m n h

same-written : (a x : ℕ) (r : Result Write Misuse) (m n : LoopingCaller) → WritesBelow a x m n r → IsSameCheckedCaller m.caller n.caller
same-written a x (Ok answer) m n h = h.0.1
same-written a x (Err e) m n h = subst (λ (k : CheckedCaller). IsSameCheckedCaller m.caller k) (sym h.0.1) (same-refl m.caller)

same-into : (a x : ℕ) (r : Result Write Misuse) (m n : LoopingCaller) → WritesInto a x m n r → IsSameCheckedCaller m.caller n.caller
same-into a x (Ok writes.Done) m n h = subst (λ (k : CheckedCaller). IsSameCheckedCaller m.caller k) (sym h.1) (same-refl m.caller)
same-into a x (Ok (writes.Full limit)) m n h = h.1.same
same-into a x (Ok (writes.Conflict cause)) m n h = absurd h
same-into a x (Ok (writes.ClockFull clock)) m n h = absurd h
same-into a x (Err e) m n h = same-on m n h.1

write-same-at : (s : Stage) (a x : ℕ) (r : Result Write Misuse) (m n : LoopingCaller) → WritesAt s a x m n r → IsSameCheckedCaller m.caller n.caller
write-same-at Free a x r m n h = same-written a x r m n h
write-same-at Direct a x r m n h = same-written a x r m n h
write-same-at Bound a x r m n h = same-written a x r m n h
write-same-at Lapsed a x r m n h = same-written a x r m n h
write-same-at Asking a x r m n h = same-on m n h.1
write-same-at Committing a x r m n h = same-on m n h.1
write-same-at Buffered a x r m n h = same-into a x r m n h

pub write-same : (a x : ℕ) (r : Result Write Misuse) (m n : LoopingCaller) → WriteSays a x m n r → IsSameCheckedCaller m.caller n.caller
write-same a x r m n h = write-same-at m.stage a x r m n h

-- who reads is in an attempt, which goes on under its algorithm
in-attempt : (a words fence : ℕ) (p : CallerPhase) (v : CallerState) → IsInPhase p v → access_at a words fence p ≡ None → v.running ≡ true
in-attempt a words fence phases.Idle v h e = absurd (let no : Some wrong.NoAttempt ≡ None = e in cc)
in-attempt a words fence phases.Running v h e = (h.1 refl).0.0
in-attempt a words fence phases.Beside v h e = (h.2 refl).0
in-attempt a words fence phases.Committing v h e = absurd (let no : Some wrong.Committing ≡ None = e in cc)
in-attempt a words fence phases.Closing v h e = absurd (let no : Some wrong.Closing ≡ None = e in cc)

served-below : (acts_as : Alg → Bool → Alg × Bool) (a x : ℕ) (m n : LoopingCaller) → IsServed acts_as (known_to m.caller) → ReadsBelow a m n (Ok (Value x)) → IsServed acts_as (known_to n.caller)
served-below acts_as a x m n served h =
    let k = m.caller in
    let o = n.caller in
    let told : HasReadWord a k o (Value x) = h.0.2 in
    let read : HasRead Any (config_of k) (number_of k) a (Value x) (known_to k) (known_to o) = told.0 in
    let goes : GoesOn (config_of k) (ForWord a) (known_to k) (known_to o) = read.0 in
    let was = served (in-attempt a (config_of k).words (known_to k).fence k.phase (known_to k) k.in_phase h.0.0) in
    λ running. serves-on acts_as (known_to k) (known_to o) goes.continues.alg goes.granted was

-- an item answers a read
abbrev IsItem : ℕ → ℕ → Type 0
IsItem x y = ◌≡◌ {A = Result Read Misuse} (Ok (Value x)) (Ok (Value y))

served-item : (acts_as : Alg → Bool → Alg × Bool) (a x : ℕ) (m n : LoopingCaller) (o : Option ℕ) → IsServed acts_as (known_to m.caller) → MatchOption o (ReadsBelow a m n (Ok (Value x))) (λ y. IsItem x y × (n ≡ m)) → IsServed acts_as (known_to n.caller)
served-item acts_as a x m n None served h = served-below acts_as a x m n served h
served-item acts_as a x m n (Some y) served h = subst (λ (k : LoopingCaller). IsServed acts_as (known_to k.caller)) (sym h.1) served

served-at : (s : Stage) (acts_as : Alg → Bool → Alg × Bool) (a x : ℕ) (m n : LoopingCaller) → IsServed acts_as (known_to m.caller) → ReadsAt s a m n (Ok (Value x)) → IsServed acts_as (known_to n.caller)
served-at Free acts_as a x m n served h = served-below acts_as a x m n served h
served-at Direct acts_as a x m n served h = served-below acts_as a x m n served h
served-at Bound acts_as a x m n served h = served-below acts_as a x m n served h
served-at Lapsed acts_as a x m n served h = served-below acts_as a x m n served h
served-at Asking acts_as a x m n served h = subst (λ (k : LoopingCaller). IsServed acts_as (known_to k.caller)) (sym h.1) served
served-at Committing acts_as a x m n served h = subst (λ (k : LoopingCaller). IsServed acts_as (known_to k.caller)) (sym h.1) served
served-at Buffered acts_as a x m n served h = served-item acts_as a x m n (item_at a m.buffer.items) served h

pub read-served : (acts_as : Alg → Bool → Alg × Bool) (a x : ℕ) (m n : LoopingCaller) → IsServed acts_as (known_to m.caller) → ReadSays a m n (Ok (Value x)) → IsServed acts_as (known_to n.caller)
read-served acts_as a x m n served h = served-at m.stage acts_as a x m n served h
