-- A part that is a whole transaction.
use Rattle.std.proofs.Common.{ℕ, ◌≡◌, List, subst}
use Rattle.std.specs.Prelude.{Option, Result, Ok, Err, IfOk}
use Rattle.stm_model.specs.Logs.{Log, Reads}
use Rattle.data_effects.specs.FreshLaws.{nothing}
use Rattle.tx_parts.specs.Laying.{Comes, ComesFirst, one_read}
use Rattle.tx_parts.specs.declared.wholly.PartOutcome.{PartOutcome}
use Rattle.tx_parts.specs.declared.wholly.PartOutcome.TheVariants.{Done, GaveWay, NoRoom, NoMemory}

pub first-read : (a v : ℕ) (l k : Log) → l ≡ nothing → Reads l a v k → k ≡ one_read a v
first-read a v l k fresh r = let h : Reads nothing a v k = subst (λ (q : Log). Reads q a v k) fresh r in (λ i. record { reads = h.1 i; writes = h.0 i })

pub comes-first : {T E : Type 0} (r : Result (PartOutcome T) E) (good : List ℕ → Type 0) (w words first v len room : ℕ)
    (tells : ℕ → Option T → Log → Log → Type 0) (l k : Log) → w ≡ words → l ≡ one_read first v → len ≡ room
    → IfOk r (λ o. Comes good w len (tells w) o l k) → IfOk r (λ o. ComesFirst good words first room (tells words) o k)
comes-first {T = T} (Ok o) good w words first v len room tells l k e f same h =
    by o
    (subst (λ (n : ℕ). Comes good words n (tells words) o (one_read first v) k) same
    (subst (λ (q : Log). Comes good words len (tells words) o q k) f (subst (λ (n : ℕ). Comes good n len (tells n) o l k) e h)))
  where
    by : (o : PartOutcome T) → Comes good words room (tells words) o (one_read first v) k → ComesFirst good words first room (tells words) o k
    by (Done r) c = (v, c)
    by GaveWay c = (v, c)
    by (NoRoom limit) c = (v, c)
    by NoMemory c = absurd c
comes-first (Err x) good w words first v len room tells l k e f same h = h
