-- Laws of a look at a word that doesn't fit.
use Rattle.std.proofs.Common.{ℕ, ◌≡◌, refl, sym, subst}
use Rattle.std.specs.Prelude.{Option, Some, Err}
use Rattle.nekchhaul_c.specs.Codes.{misuse_code, peek_code, peek_value}
use Rattle.nekchhaul_c.specs.Says.{SaysWord}
use Rattle.tx_checked.specs.Misuses.{looking}
use Rattle.tx_checked.specs.Peeking.{HasPeeked}
use Rattle.tx_checked.specs.declared.misuse.Misuse.{Misuse}
use Rattle.tx_loops.specs.Accesses.{PassesAt, PassesFree, free_misuse}
use Rattle.tx_loops.specs.declared.looping_caller.LoopingCaller.{LoopingCaller}

-- in a body
pub not_free : (a x k : ℕ) (m : LoopingCaller) (e : Misuse) → free_misuse m.stage ≡ Some e → k ≡ misuse_code e → SaysWord peek_code peek_value x x (PassesFree (looking a) (HasPeeked a)) k m m
not_free a x k m e is code = (Err e, code, refl, subst (λ (o : Option Misuse). PassesAt o (looking a) (HasPeeked a) m m (Err e)) (sym is) (refl, refl))
