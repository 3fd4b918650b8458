-- Laws for a transaction that reads some words and then writes some: from its calls to what it promises.
use Rattle.std.proofs.Common.{ℕ, suc, ◌≡◌, ◌<◌, ◌≤◌, ◌+◌, ◌-◌, ◌∙◌, List, [], ◌∷◌, length, set, take, drop, Result, refl, sym, ap, arith, subst, drop-cons}
use Rattle.stm_model.specs.declared.access.Access.{Ghosts}
use Rattle.stm_model.specs.declared.stop.Stop.{Stop}
use Rattle.stm_model.specs.Logs.{Log, SameMemories, IsExplained, Keeps}
use Rattle.stm_model.specs.Memories.{AreWords, overlay, written, Explains}
use Rattle.stm_model.specs.Overlays.{reads-see, overlay-length}
use Rattle.data_effects.specs.Accesses.{LeadsOn}
use Rattle.data_effects.specs.Effects.{Effect, unchanged, changed, DoesOver, Turns}
use Rattle.data_effects.specs.EffectLaws.{does-stay, does-change, shows-then, turns-write, turns-then}
use Rattle.data_effects.specs.FreshLaws.{nothing, IsSound, sound-first, has-effect, reads-keep}
use Rattle.tx_transaction.specs.Words.{ReadEach, WrittenEach, AllRead, AllWritten, RangeRead, Found, placed, words_in}

-- FROM READS TO WHAT THEY FOUND
each-only : (words : ℕ) (l : Log) (rs : List (ℕ × ℕ)) (k : Log) → ReadEach words l rs k → k.writes ≡ l.writes
each-only words l [] k read = ap (λ (j : Log). j.writes) (sym read)
each-only words l (r ∷ rs) k read = each-only words read.1 rs k read.3 ∙ read.2.0

-- what explains the log after reads has what they found
explains-each : (words : ℕ) (m : List ℕ) (l : Log) (rs : List (ℕ × ℕ)) (k : Log) → length m ≡ words → ReadEach words l rs k → Explains m k.reads → Explains m l.reads × Explains (overlay m l.writes) rs
explains-each words m l [] k len read ex = (subst (λ (j : Log). Explains m j.reads) (sym read) ex, tt)
explains-each words m l (r ∷ rs) k len read ex =
    let more = explains-each words m read.1 rs k len read.3 ex in
    let here = reads-see m l r.0 r.1 read.1 (subst (λ n. r.0 < n) (sym len) read.0) read.2 more.0 in
    (here.0, (here.1, subst (λ ws. Explains (overlay m ws) rs) read.2.0 more.1))

-- these words were read
pub read-found : {good good' : List ℕ → Type 0} {words words' : ℕ} {l : Log} {rs : List (ℕ × ℕ)} {k : Log} → AllRead words l rs k
    → IsExplained good' words' k → SameMemories good good' → words' ≡ words → Found good words l (λ m. Explains m rs) k
read-found {good} {good'} {words} {words'} {l} {rs} {k} read seen same count = record {
  only_read = each-only words l rs k read.each;
  seen = (seen.0, (same seen.0).1 seen.1, seen.2 ∙ count, seen.3, seen.4);
  shows = λ m g len ex. explains-each words m l rs k len read.each ex;
}

-- a memory that has what was read of a range has these words there
taken : (m : List ℕ) (start : ℕ) (vs : List ℕ) → Explains m (placed start vs) → start + length vs ≤ length m → take (length vs) (drop start m) ≡ vs
taken m start [] ex le = refl
taken m start (v ∷ vs) ex le =
    let here = drop-cons m start 0 (omega arith) in
    ap (take (suc (length vs))) here ∙ (ap (λ (x : ℕ). x ∷ take (length vs) (drop (suc start) m)) ex.0 ∙ ap (λ (xs : List ℕ). v ∷ xs) (taken m (suc start) vs ex.1 (omega arith)))

-- a range was: what is told of its words is so of the memory's
pub range-found : {good good' : List ℕ → Type 0} {words words' : ℕ} {l : Log} {start end : ℕ} {tells : List ℕ → Type 0} {k : Log} → RangeRead words l start end tells k
    → IsExplained good' words' k → SameMemories good good' → words' ≡ words → Found good words l (λ m. tells (words_in start end m)) k
range-found {good} {words = words} {l = l} {start = start} {end = end} {tells = tells} {k = k} r seen same count =
    let all = read-found r.read seen same count in
    record {
      only_read = all.only_read;
      seen = all.seen;
      shows = λ m g len ex.
          let s = all.shows m g len ex in
          let x : List ℕ = overlay m l.writes in
          let long = overlay-length m l.writes in
          let is = taken x start r.found s.1 (let all = r.all in let within = r.within in omega arith) in
          let many : end - start ≡ length r.found = (let all = r.all in omega arith) in
          (s.0, subst tells (sym (ap (λ (n : ℕ). take n (drop start x)) many ∙ is)) r.told);
    }

-- one call that read, and after it another: what the one found and what the other did
pub read-then : {S R : Type 0} {access : Ghosts S} {s t : S} {result : Result R Stop} {P Q : List ℕ → Type 0} {l k j : Log} → Found (access.good s) (access.words s) l P k
    → LeadsOn access s t result → Found (access.good t) (access.words t) k Q j → Found (access.good s) (access.words s) l (λ m. P m × Q m) j
read-then {access = access} {s = s} {t = t} {P = P} {Q = Q} {l = l} {k = k} {j = j} one frame two =
    let seen = two.seen in
    record {
      only_read = two.only_read ∙ one.only_read;
      seen = (seen.0, (frame.good seen.0).1 seen.1, seen.2 ∙ frame.words, seen.3, seen.4);
      shows = shows-then (access.good s) (access.words s) l k j (access.good t) (access.words t) P Q one.shows one.only_read frame.good frame.words two.shows;
    }

-- FROM WHAT WAS FOUND TO WHAT A TRANSACTION PROMISES
-- in an attempt that had done nothing: what is so of each memory of words of the machine under the rule that has what
-- was found is so
pub known : {rule good : List ℕ → Type 0} {words : ℕ} {l k : Log} {P : List ℕ → Type 0} → SameMemories good rule → l ≡ nothing → Found good words l P k
    → {Q : Type 0} → ((m : List ℕ) → IsSound rule words m → AreWords m → P m → Q) → Q
known {P = P} same fresh found then =
    let s = found.seen in
    let is = (found.shows s.0 s.1 s.2 s.3).1 in
    then s.0 ((same s.0).0 s.1, s.2) s.4 (subst P (ap (λ (j : Log). overlay s.0 j.writes) fresh) is)

-- where it only read the rule is kept
pub keeps-read : {rule good : List ℕ → Type 0} {words : ℕ} {l k : Log} {P : List ℕ → Type 0} → SameMemories good rule → l ≡ nothing → Found good words l P k → Keeps rule words k
keeps-read {rule} {words = words} {k = k} same fresh found = reads-keep rule words k (found.only_read ∙ ap (λ (j : Log). j.writes) fresh)

turns-all : (l : Log) (w : ℕ × ℕ) (ws : List (ℕ × ℕ)) (k : Log) → WrittenEach l (w ∷ ws) k → Turns l k (λ m. written m (w ∷ ws))
turns-all l w [] k wrote = subst (λ (j : Log). Turns l j (λ m. set m w.0 w.1)) wrote.2 (turns-write l wrote.0 w.0 w.1 wrote.1)
turns-all l w (x ∷ ws) k wrote = turns-then l wrote.0 k (λ m. set m w.0 w.1) (λ m. written m (x ∷ ws)) (turns-write l wrote.0 w.0 w.1 wrote.1) (turns-all wrote.0 x ws k wrote.2)

-- where it wrote then, the rule is kept if it is so of a memory under it, that has what was found, after the writes
pub keeps-written : {rule good : List ℕ → Type 0} {words : ℕ} {l k j : Log} {P : List ℕ → Type 0} {w : ℕ × ℕ} {ws : List (ℕ × ℕ)} → SameMemories good rule → l ≡ nothing
    → Found good words l P k → AllWritten k (w ∷ ws) j
    → ((m : List ℕ) → IsSound rule words m → AreWords m → P m → rule (written m (w ∷ ws))) → Keeps rule words j
keeps-written {rule} {good} {words} {l} {k} {j} {P} {w} {ws} same fresh found wrote then = λ m g len ex small.
    let turned = turns-all k w ws j wrote.each in
    let before = turned.explains m ex in
    let is = subst P (ap (λ (i : Log). overlay m i.writes) fresh) (found.shows m ((same m).1 g) len before).1 in
    let bare : overlay m k.writes ≡ m = ap (overlay m) found.only_read ∙ ap (λ (i : Log). overlay m i.writes) fresh in
    let left = turned.left m ∙ ap (λ (x : List ℕ). written x (w ∷ ws)) bare in
    subst rule (sym left) (then m (g, len) small is)

module _ {rule good : List ℕ → Type 0} {words : ℕ} (same : SameMemories good rule) {l : Log} (fresh : l ≡ nothing)
    {P : List ℕ → Type 0} {k : Log} (found : Found good words l P k) where
  -- where nothing was written
  pub does-read : {A : Type 0} {effect : List ℕ → Effect A} {reply : A}
      → ((m : List ℕ) → IsSound rule words m → P m → effect m ≡ unchanged reply m) → DoesOver rule words effect nothing reply k
  does-read {A} {effect} {reply} is =
      has-effect rule good words same l fresh effect reply k
      (does-stay good words l effect k reply (IsSound rule words) (sound-first rule good words same l fresh)
      found.only_read P found.shows is)

  -- and where these words were written then
  pub does-write : {A : Type 0} {effect : List ℕ → Effect A} {reply : A} {w : ℕ × ℕ} {ws : List (ℕ × ℕ)} {j : Log} → AllWritten k (w ∷ ws) j
      → ((m : List ℕ) → IsSound rule words m → P m → effect m ≡ changed reply (written m (w ∷ ws))) → DoesOver rule words effect nothing reply j
  does-write {A} {effect} {reply} {w} {ws} {j} wrote is =
      has-effect rule good words same l fresh effect reply j
      (does-change good words l effect k j reply (IsSound rule words) (sound-first rule good words same l fresh)
      found.only_read P found.shows (λ m. written m (w ∷ ws)) (turns-all k w ws j wrote.each) is)
