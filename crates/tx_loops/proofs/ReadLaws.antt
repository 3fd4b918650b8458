-- Laws of a read that the buffer answers, or the attempt.
use Rattle.std.proofs.Common.{ℕ, ◌≡◌, refl, sym, subst}
use Rattle.std.specs.Prelude.{Option, None, Some, MatchOption, Result, Ok}
use Rattle.stm_model.specs.Memories.{item_at}
use Rattle.stm_answers.specs.declared.answers.Read.{Read}
use Rattle.stm_answers.specs.declared.answers.Read.TheVariants as reads
use Rattle.tx_checked.specs.declared.misuse.Misuse.{Misuse}
use Rattle.tx_loops.specs.Accesses.{ReadsAt, ReadsBelow, ReadsHere, ReadsOn, ReadSays}
use Rattle.tx_loops.specs.declared.looping_caller.LoopingCaller.{LoopingCaller}
use Rattle.tx_loops.specs.declared.stage.Stage.{Stage}
use Rattle.tx_loops.specs.declared.stage.Stage.TheVariants.{Free, Direct, Bound, Lapsed, Buffered, Asking, Committing}

found : (a : ℕ) (m : LoopingCaller) (r : Result Read Misuse) (o : Option ℕ) → MatchOption o ⊥ (λ x. r ≡ Ok (reads.Value x)) → MatchOption o (ReadsBelow a m m r) (λ x. (r ≡ Ok (reads.Value x)) × (m ≡ m))
found a m r None h = absurd h
found a m r (Some x) h = (h, refl)

here-at : (s : Stage) (a : ℕ) (m : LoopingCaller) (r : Result Read Misuse) → ReadsHere a s m r → ReadsAt s a m m r
here-at Buffered a m r h = found a m r (item_at a m.buffer.items) h
here-at Asking a m r h = (h, refl)
here-at Committing a m r h = (h, refl)
here-at Free a m r h = absurd h
here-at Direct a m r h = absurd h
here-at Bound a m r h = absurd h
here-at Lapsed a m r h = absurd h

-- what comes of no read of the attempt
pub reads_here : (a : ℕ) (m : LoopingCaller) (r : Result Read Misuse) → ReadsHere a m.stage m r → ReadSays a m m r
reads_here a m r h = here-at m.stage a m r h

on-at : (s : Stage) (a : ℕ) (m n : LoopingCaller) (r : Result Read Misuse) → ReadsOn a s m → ReadsBelow a m n r → ReadsAt s a m n r
on-at Buffered a m n r on h = subst (λ (o : Option ℕ). MatchOption o (ReadsBelow a m n r) (λ x. (r ≡ Ok (reads.Value x)) × (n ≡ m))) (sym on) h
on-at Asking a m n r on h = absurd on
on-at Committing a m n r on h = absurd on
on-at Free a m n r on h = h
on-at Direct a m n r on h = h
on-at Bound a m n r on h = h
on-at Lapsed a m n r on h = h

-- and of one
pub reads_on : (a : ℕ) (m n : LoopingCaller) (r : Result Read Misuse) → ReadsOn a m.stage m → ReadsBelow a m n r → ReadSays a m n r
reads_on a m n r on h = on-at m.stage a m n r on h
