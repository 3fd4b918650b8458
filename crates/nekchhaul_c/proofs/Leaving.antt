-- Laws of the end of a body that was done.
use Rattle.std.proofs.Common.{ℕ, ◌≡◌, sym, subst}
use Rattle.nekchhaul_c.specs.Codes.{how_numbered}
use Rattle.nekchhaul_c.specs.Says.{LeaveTells, TurnSays}
use Rattle.nekchhaul_c.specs.declared.pause.Pause.{Pause}
use Rattle.tx_loops.specs.declared.looping_caller.LoopingCaller.{LoopingCaller}

-- which is the number 0
pub done_tells : (how k : ℕ) (old new : Pause) (m n : LoopingCaller) → how ≡ 0 → TurnSays 0 old new (LeaveTells (how_numbered 0)) k m n → TurnSays how old new (LeaveTells (how_numbered how)) k m n
done_tells how k old new m n is h = subst (λ (i : ℕ). TurnSays i old new (LeaveTells (how_numbered i)) k m n) (sym is) h
