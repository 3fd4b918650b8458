-- Laws of transactions that a caller runs one after another.
use Rattle.std.proofs.Common.{ℕ, ◌≡◌, ◌+◌, ◌∙◌, add-one, ap, List, sym, subst}
use Rattle.stm_model.specs.Histories.{Entry}
use Rattle.stm_model.specs.Logs.{Log}
use Rattle.tx_jobs.specs.Repeats.{MadeOne, MadeAll, more, risen, raised}

-- a caller that did no more
pub made-same : (tells : ℕ → Log → Type 0) (us : List Entry) (k : ℕ) (vs ws : List Entry) → ws ≡ vs → MadeAll tells us k vs → MadeAll tells us k ws
made-same tells us k vs ws same made = subst (MadeAll tells us k) (sym same) made

pub made-next : {tells : ℕ → Log → Type 0} {us : List Entry} {k : ℕ} {vs ws : List Entry} (log : Log) → MadeAll tells us k vs → tells k log → MadeOne log vs ws → MadeAll tells us (k + 1) ws
made-next log made told one = rw add-one (more log made told one)

pub made-at : {tells : ℕ → Log → Type 0} {us : List Entry} {k n : ℕ} {ws : List Entry} → MadeAll tells us k ws → k ≡ n → MadeAll tells us n ws
made-at {tells} {us} {k} {n} {ws} made same = subst (λ (i : ℕ). MadeAll tells us i ws) same made

pub raised-next : (count k before now : ℕ) → before ≡ raised count k → now ≡ risen before → now ≡ raised count (k + 1)
raised-next count k before now so is = rw add-one (is ∙ ap risen so)
