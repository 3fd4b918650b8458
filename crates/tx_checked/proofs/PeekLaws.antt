-- Laws of a look at one word.
use Rattle.std.proofs.Common.{ℕ, ◌≡◌, ◌∙◌, List, [], ◌∷◌, subst, inr, arith}
use Rattle.std.specs.Prelude.{None, Ok}
use Rattle.stm_model.specs.declared.alg.Alg.{Alg}
use Rattle.stm_model.specs.Logs.{Log, Reads}
use Rattle.stm_answers.specs.Answers.{Commits}
use Rattle.stm_answers.specs.CallerState.{no_log}
use Rattle.stm_answers.specs.CallerStateLaws.{grows-trans}
use Rattle.stm_answers.specs.declared.answers.Begin.{Begin}
use Rattle.stm_answers.specs.declared.answers.Begin.TheVariants as begins
use Rattle.stm_answers.specs.declared.answers.Commit.TheVariants as commits
use Rattle.tx_atomic.specs.AttemptLaws.{same-number}
use Rattle.tx_atomic.specs.ExtendsLaws.{grows-extends}
use Rattle.tx_checked.specs.declared.calls.Opened.TheVariants as opens
use Rattle.tx_checked.specs.declared.checked_caller.CheckedCaller.{CheckedCaller}
use Rattle.tx_checked.specs.declared.peeking.Peek.{Peek}
use Rattle.tx_checked.specs.declared.peeking.Peek.TheVariants as peeks
use Rattle.tx_checked.specs.CheckedCallers.{IsSameCheckedCaller, config_of, known_to, number_of}
use Rattle.tx_checked.specs.Misuses.{looking}
use Rattle.tx_checked.specs.Opens.{HasOpened, without_number}
use Rattle.tx_checked.specs.Peeking.{HasLookedOnce, HasPeeked, HasReadOnce, TookALook, one_read}
use Rattle.tx_checked.specs.Phases.{Any}
use Rattle.tx_checked.specs.Tells.{HasBegun, Tells}

same-trans : (m k n : CheckedCaller) → IsSameCheckedCaller m k → IsSameCheckedCaller k n → IsSameCheckedCaller m n
same-trans m k n a b = record { stm = b.stm ∙ a.stm; caller = record { table = b.caller.table ∙ a.caller.table; who = b.caller.who ∙ a.caller.who } }

same-config : (m n : CheckedCaller) → IsSameCheckedCaller m n → config_of n ≡ config_of m
same-config m n same = cc

log-is : (l : Log) (rs ws : List (ℕ × ℕ)) → l.reads ≡ rs → l.writes ≡ ws → l ≡ record { reads = rs; writes = ws }
log-is l rs ws r w = λ j. record { reads = r j; writes = w j }

-- what one read of an empty log leaves
read-one : (v l : Log) (a x : ℕ) → v ≡ no_log → Reads v a x l → l ≡ one_read a x
read-one v l a x blank h =
    let g : Reads no_log a x l = subst (λ (k : Log). Reads k a x l) blank h in
    log-is l ((a, x) ∷ []) [] g.1 g.0

-- THE BEGIN
begun-at : (m k : CheckedCaller) (alg : Alg) → HasOpened m k (opens.Begun alg) → HasBegun m k (begins.Begun alg)
begun-at m k alg h = by h.1 h.2 h.3
  where
    by : (r : Begin) → opens.Begun alg ≡ without_number r → HasBegun m k r → HasBegun m k (begins.Begun alg)
    by (begins.Begun other) is told = subst (λ (a : Alg). HasBegun m k (begins.Begun a)) (let e : other ≡ alg = cc in e) told
    by (begins.Closed gate) is told = absurd (let no : opens.Begun alg ≡ opens.Closed = is in cc)
    by (begins.Held word) is told = absurd (let no : opens.Begun alg ≡ opens.Held = is in cc)
    by (begins.ClockFull clock) is told = absurd (let no : opens.Begun alg ≡ opens.ClockFull = is in cc)

-- WHAT CAME OF IT
pub looked_once : (a : ℕ) (m k n : CheckedCaller) (alg : Alg) (r : Peek) → looking a m ≡ None → HasOpened m k (opens.Begun alg) → IsSameCheckedCaller k n → HasReadOnce a k n r → Tells (looking a m) (HasPeeked a m n) m n (Ok r)
looked_once a m k n alg r fits opened same once = (fits, same-trans m k n opened.0 same, by r once)
  where
    told : HasBegun m k (begins.Begun alg)
    told = begun-at m k alg opened

    looked : (r : Peek) → HasReadOnce a k n r → HasLookedOnce a m n r
    looked r once = (k, alg, opened.0, told, once)

    took : (x : ℕ) → HasReadOnce a k n (peeks.Value x) → TookALook a x m n
    took x once =
        let l = once.0 in
        let read = once.2.0 in
        let numbered = subst (λ i. Commits Any (config_of l) i (commits.ReadOnly once.3.0) (known_to l) (known_to n)) (same-number k.desc l.desc once.1.caller ∙ same-number m.desc k.desc opened.0.caller) once.3.1.0 in
        let here = subst (λ c. Commits Any c (number_of m) (commits.ReadOnly once.3.0) (known_to l) (known_to n)) (same-config m l (same-trans m k l opened.0 once.1)) numbered in
        record {
          before = known_to l;
          told = read-one (known_to k).log (known_to l).log a x told.0.log read.2;
          made = read.0.continues.made ∙ told.0.made;
          grows = grows-extends (known_to m) (known_to l) (grows-trans (known_to m) (known_to k) (known_to l) told.0.grows read.0.continues.grows);
          later = (let p = told.0.fresh in let q = read.0.continues.later in omega (arith, p, q));
          time = once.3.0;
          commits = inr here;
        }

    by : (r : Peek) → HasReadOnce a k n r → HasPeeked a m n r
    by (peeks.Value x) once = (took x once, once.3.1.0.0.ends.idle, once.2.0.3, looked (peeks.Value x) once)
    by peeks.Fenced once = looked peeks.Fenced once
    by peeks.Conflict once = looked peeks.Conflict once
    by peeks.Full once = looked peeks.Full once
    by peeks.Closed once = absurd once
    by peeks.Held once = absurd once
    by peeks.ClockFull once = absurd once

pub found_closed : (a : ℕ) (m n : CheckedCaller) → looking a m ≡ None → HasOpened m n opens.Closed → Tells (looking a m) (HasPeeked a m n) m n (Ok peeks.Closed)
found_closed a m n fits h = (fits, h.0, by h.1 h.2 h.3)
  where
    by : (r : Begin) → opens.Closed ≡ without_number r → HasBegun m n r → HasPeeked a m n peeks.Closed
    by (begins.Closed gate) is told = (gate, told)
    by (begins.Begun alg) is told = absurd (let no : opens.Closed ≡ opens.Begun alg = is in cc)
    by (begins.Held word) is told = absurd (let no : opens.Closed ≡ opens.Held = is in cc)
    by (begins.ClockFull clock) is told = absurd (let no : opens.Closed ≡ opens.ClockFull = is in cc)

pub found_held : (a : ℕ) (m n : CheckedCaller) → looking a m ≡ None → HasOpened m n opens.Held → Tells (looking a m) (HasPeeked a m n) m n (Ok peeks.Held)
found_held a m n fits h = (fits, h.0, by h.1 h.2 h.3)
  where
    by : (r : Begin) → opens.Held ≡ without_number r → HasBegun m n r → HasPeeked a m n peeks.Held
    by (begins.Held word) is told = (word, told)
    by (begins.Begun alg) is told = absurd (let no : opens.Held ≡ opens.Begun alg = is in cc)
    by (begins.Closed gate) is told = absurd (let no : opens.Held ≡ opens.Closed = is in cc)
    by (begins.ClockFull clock) is told = absurd (let no : opens.Held ≡ opens.ClockFull = is in cc)

pub found_full : (a : ℕ) (m n : CheckedCaller) → looking a m ≡ None → HasOpened m n opens.ClockFull → Tells (looking a m) (HasPeeked a m n) m n (Ok peeks.ClockFull)
found_full a m n fits h = (fits, h.0, by h.1 h.2 h.3)
  where
    by : (r : Begin) → opens.ClockFull ≡ without_number r → HasBegun m n r → HasPeeked a m n peeks.ClockFull
    by (begins.ClockFull clock) is told = (clock, told)
    by (begins.Begun alg) is told = absurd (let no : opens.ClockFull ≡ opens.Begun alg = is in cc)
    by (begins.Closed gate) is told = absurd (let no : opens.ClockFull ≡ opens.Closed = is in cc)
    by (begins.Held word) is told = absurd (let no : opens.ClockFull ≡ opens.Held = is in cc)
