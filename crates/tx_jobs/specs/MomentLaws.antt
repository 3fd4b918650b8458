-- Each transaction that took effect has its moment in the one history.
use Rattle.std.proofs.Common.{ℕ, suc, ◌≡◌, ◌≤◌, ◌∙◌, List, [], ◌∷◌, ◌++◌, length, sym, ap, arith, subst, append_assoc}
use Rattle.std.proofs.lemmas.List.{length-replicate}
use Rattle.stm_model.specs.Histories.{Entry, Ascending, memory_at}
use Rattle.stm_model.specs.HistoryLaws.{Within, length-memory_at, memory_at-append, memory_at-early}
use Rattle.stm_model.specs.Logs.{Log}
use Rattle.stm_model.specs.Memories.{overlay, Explains}
use Rattle.tx_jobs.specs.Known.{Known, Grows}
use Rattle.tx_jobs.specs.Moments.{BeginsHistory, Stands, Took, Happened, zeros}

pub ascending-append : (a b : ℕ) (xs ys : List Entry) → Ascending a xs → Within b xs → a ≤ b → Ascending b ys → Ascending a (xs ++ ys)
ascending-append a b [] [] h u le k = tt
ascending-append a b [] (y ∷ ys) h u le k = (let z = k.0 in omega arith, k.1)
ascending-append a b (x ∷ xs) ys h u le k = (h.0, ascending-append x.time b xs ys h.1 u.1 u.0 k)

-- what was seen before begins the history too
pub begun-before : (w k : Known) (history : List Entry) → Grows w k → BeginsHistory k.seen k.front history → BeginsHistory w.seen w.front history
begun-before w k history grows begun = (
  grows.later ++ begun.0,
  begun.1 ∙ (ap (λ l. l ++ begun.0) grows.is ∙ append_assoc w.seen grows.later begun.0),
  ascending-append w.front k.front grows.later begun.0 grows.ascending grows.up_to grows.front_rose begun.2,
)

-- up to the front the memory is that after what was seen
pub same-memory : (s front : ℕ) (seen history : List Entry) (m : List ℕ) → BeginsHistory seen front history → s ≤ front → memory_at s history m ≡ memory_at s seen m
same-memory s front seen history m begun le =
    ap (λ es. memory_at s es m) begun.1 ∙ (memory_at-append s seen begun.0 m ∙ memory_at-early s front begun.0 (memory_at s seen m) le begun.2)

pub stands-on : (good : List ℕ → Type 0) (words : ℕ) (log : Log) (from front : ℕ) (seen history : List Entry) → BeginsHistory seen front history → Stands good words log from front seen → Stands good words log from front history
stands-on good words log from front seen history begun s =
    let here : memory_at s.at history (zeros words) ≡ memory_at s.at seen (zeros words) = same-memory s.at front seen history (zeros words) begun s.sooner in
    record {
      at = s.at;
      later = s.later;
      sooner = s.sooner;
      kept = subst good (sym here) s.kept;
      read = subst (λ m. Explains m log.reads) (sym here) s.read;
      wrote = λ some.
          let w = s.wrote some in
          let next : memory_at (suc s.at) history (zeros words) ≡ memory_at (suc s.at) seen (zeros words) = same-memory (suc s.at) front seen history (zeros words) begun w.0 in
          (w.0, next ∙ (w.1 ∙ ap (λ m. overlay m log.writes) (sym here)));
    }

pub happened : (good : List ℕ → Type 0) (words : ℕ) (tells : Log → Type 0) (u w k : Known) (history : List Entry) → Took good words tells u w → Grows w k → BeginsHistory k.seen k.front history → Happened good words tells u w history
happened good words tells u w k history t grows begun = record {
  log = t.log;
  told = t.told;
  made = t.made;
  stands = stands-on good words t.log u.front w.front w.seen history (begun-before w k history grows begun) t.stands;
}

-- of an answer that is this one
pub took-at : {A : Type 0} (good : List ℕ → Type 0) (words : ℕ) (tells : A → Log → Type 0) (u w : Known) {r s : A} → r ≡ s → Took good words (tells r) u w → Took good words (tells s) u w
took-at good words tells u w same took = subst (λ r. Took good words (tells r) u w) same took

-- a good memory of as many words has what the transaction read
pub stood : {good : List ℕ → Type 0} {words : ℕ} {tells : Log → Type 0} {u w : Known} (t : Took good words tells u w)
    → (m : List ℕ) × good m × (length m ≡ words) × Explains m t.log.reads
stood {words = words} {w = w} t =
    let s = t.stands in
    (memory_at s.at w.seen (zeros words), s.kept, length-memory_at s.at w.seen (zeros words) ∙ length-replicate {A = ℕ} words 0, s.read)
