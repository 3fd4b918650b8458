-- Laws of the ends of attempts.
use Rattle.std.proofs.Common.{ℕ, ◌≡◌, ◌≤◌, ◌∙◌, List, [], true, false, refl, sym, ap, subst, inl, inr, arith}
use Rattle.std.specs.Prelude.{Option, None, Some, Result, Ok, Err}
use Rattle.stm_model.specs.declared.config.Config.{Config}
use Rattle.stm_model.specs.Logs.{Log}
use Rattle.stm_model.specs.Memories.{item_at, Once}
use Rattle.stm_model.specs.declared.stop.Cause.{Cause}
use Rattle.stm_answers.specs.declared.answers.Cancel.{Cancel}
use Rattle.stm_answers.specs.declared.answers.Cancel.TheVariants as cancels
use Rattle.stm_answers.specs.declared.answers.Commit.{Commit}
use Rattle.stm_answers.specs.declared.answers.Commit.TheVariants as commits
use Rattle.stm_answers.specs.CallerState.{CallerState, IsIdle, is_irrevocable}
use Rattle.stm_answers.specs.CallerStateLaws.{grows-trans}
use Rattle.tx_atomic.specs.AttemptLaws.{same-number, still-revocable, took-since}
use Rattle.tx_atomic.specs.ExtendsLaws.{extends-refl, grows-extends}
use Rattle.tx_atomic.specs.TryLaws.{grows-refl}
use Rattle.tx_atomic.specs.Attempts.{TookEffect}
use Rattle.tx_checked.specs.declared.checked_caller.CheckedCaller.{CheckedCaller}
use Rattle.tx_checked.specs.CheckedCallers.{IsSameCheckedCaller, config_of, known_to, number_of}
use Rattle.tx_checked.specs.declared.misuse.Misuse.{Misuse}
use Rattle.tx_checked.specs.declared.refusal.Refusal.TheVariants as refusals
use Rattle.tx_checked.specs.Misuses.{inside}
use Rattle.tx_checked.specs.Phases.{Any}
use Rattle.tx_checked.specs.Tells.{HasCancelled, HasCommitted, Tells}
use Rattle.tx_loops.specs.Hindrances.{HindersCommit}
use Rattle.tx_loops.specs.Loops.{AsksAgain, EndsBy, IsRefused, IsThrough, KeepsHold, MadeNothing, TookEffectWith}
use Rattle.tx_loops.specs.Ends.{outcome_of}
use Rattle.tx_loops.specs.declared.ends.CommitOutcome.TheVariants.{Done, Again, Refused}
use Rattle.tx_loops.proofs.BodyLaws.{blank-commits, inside-in}
use Rattle.tx_loops.specs.Stages.{log_at}
use Rattle.tx_loops.specs.declared.stage.Stage.TheVariants.{Buffered}
use Rattle.tx_parts.specs.Laying.{Lays, SameLog}
use Rattle.tx_parts.specs.LayingLaws.{either, laid-item}

-- the same caller, twice
pub same-trans : (m k n : CheckedCaller) → IsSameCheckedCaller m k → IsSameCheckedCaller k n → IsSameCheckedCaller m n
same-trans m k n a b = record { stm = b.stm ∙ a.stm; caller = record { table = b.caller.table ∙ a.caller.table; who = b.caller.who ∙ a.caller.who } }

pub holds-trans : (m k n : CheckedCaller) → KeepsHold m k → KeepsHold k n → KeepsHold m n
holds-trans m k n a b = (b.0 ∙ a.0, b.1 ∙ a.1)

pub nothing-trans : (m k n : CheckedCaller) → MadeNothing m k → MadeNothing k n → MadeNothing m n
nothing-trans m k n a b = record { same = same-trans m k n a.same b.same; made = b.made ∙ a.made; grows = grows-trans (known_to m) (known_to k) (known_to n) a.grows b.grows; holds = holds-trans m k n a.holds b.holds }

pub same-refl : (m : CheckedCaller) → IsSameCheckedCaller m m
same-refl m = record { stm = refl; caller = record { table = refl; who = refl } }

pub nothing-refl : (m : CheckedCaller) → MadeNothing m m
nothing-refl m = record { same = same-refl m; made = refl; grows = grows-refl (known_to m); holds = (refl, refl) }

-- of one memory, and with one number
pub same-config : (m n : CheckedCaller) → IsSameCheckedCaller m n → config_of n ≡ config_of m
same-config m n same = cc

-- what took effect with one log did so with any log like it
took-with : (good : List ℕ → Type 0) (c : Config) (n : ℕ) (tells tells' : Log → Type 0) (from : ℕ) (u w : CallerState) → ((l : Log) → tells l → tells' l) → TookEffect good c n tells from u w → TookEffect good c n tells' from u w
took-with good c n tells tells' from u w like t = record { before = t.before; told = like t.before.log t.told; made = t.made; grows = t.grows; later = t.later; time = t.time; commits = t.commits }

-- what took effect after nothing was made
pub took-after : (tells tells' : Log → Type 0) (m k n : CheckedCaller) → MadeNothing m k → (known_to m).start ≤ (known_to k).start → ((l : Log) → tells l → tells' l) → TookEffectWith tells k n → TookEffectWith tells' m n
took-after tells tells' m k n nothing later like t =
    let here = subst (λ i. TookEffect Any (config_of k) i tells (known_to k).start (known_to k) (known_to n)) (same-number m.desc k.desc nothing.same.caller) t in
    let there = subst (λ c. TookEffect Any c (number_of m) tells (known_to k).start (known_to k) (known_to n)) (same-config m k nothing.same) here in
    took-since Any (config_of m) (number_of m) tells' (known_to k).start (known_to m).start (known_to m) (known_to k) (known_to n) nothing.made (grows-extends (known_to m) (known_to k) nothing.grows) later
    (took-with Any (config_of m) (number_of m) tells tells' (known_to k).start (known_to k) (known_to n) like there)

-- what lay in the buffer is what is written
pub laid-alone : (ws : List (ℕ × ℕ)) (l k : Log) → Once ws → l.writes ≡ [] → Lays ws l k → SameLog (log_at Buffered l ws) k
laid-alone ws l k once blank h = (h.0, λ b. h.1 b ∙ (laid-item b ws l.writes once ∙ (ap (λ (vs : List (ℕ × ℕ)). either (item_at b ws) (item_at b vs)) blank ∙ alone (item_at b ws))))
  where
    alone : (o : Option ℕ) → either o (item_at 0 []) ≡ o
    alone None = refl
    alone (Some x) = refl

-- ENDS. Of an attempt that has written nothing
pub end-blank : (m n : CheckedCaller) (r : Result Commit Misuse) → (known_to m).running ≡ true → (known_to m).log.writes ≡ [] → Tells (inside m) (HasCommitted m n) m n r → IsIdle (known_to n) × MadeNothing m n × (n.refusal ≡ m.refusal)
end-blank m n (Ok answer) run blank h =
    let told : HasCommitted m n answer = h.2 in
    let b = blank-commits Any (config_of m) (number_of m) answer (known_to m) (known_to n) blank told.0 in
    (b.0, record { same = h.1; made = b.1; grows = b.2; holds = (told.1, b.3) }, told.2 ∙ b.4 m.refusal)
end-blank m n (Err e) run blank h = absurd (let no : None ≡ Some e = sym (inside-in m.phase (known_to m) m.in_phase run) ∙ h.0 in cc)

-- and of one that can be taken back
pub end-back : (m n : CheckedCaller) (r : Result Cancel Misuse) → (known_to m).running ≡ true → is_irrevocable (known_to m) ≡ false → Tells (inside m) (HasCancelled m n) m n r → IsIdle (known_to n) × MadeNothing m n × (n.refusal ≡ m.refusal)
end-back m n (Ok (cancels.Cancelled time)) run revocable h =
    let told : HasCancelled m n (cancels.Cancelled time) = h.2 in
    let ends = told.0.0.ends in
    (ends.idle, record { same = h.1; made = told.0.0.made; grows = ends.grows; holds = (told.1, ends.installs) }, told.2)
end-back m n (Ok cancels.Irrevocable) run revocable h =
    let told : HasCancelled m n cancels.Irrevocable = h.2 in
    absurd (let no : false ≡ true = sym revocable ∙ told.0.1 in cc)
end-back m n (Err e) run revocable h = absurd (let no : None ≡ Some e = sym (inside-in m.phase (known_to m) m.in_phase run) ∙ h.0 in cc)

-- COMMITS: what each answer leaves
commit-committed : (m n : CheckedCaller) (time : ℕ) → Tells (inside m) (HasCommitted m n) m n (Ok (commits.Committed time)) → IsThrough m n
commit-committed m n time h =
    let told : HasCommitted m n (commits.Committed time) = h.2 in
    (told.0.ends.idle, record { before = known_to m; told = refl; made = refl; grows = extends-refl (known_to m); later = omega arith; time = time; commits = inl told.0 }, (told.1, told.0.ends.installs))

commit-read : (m n : CheckedCaller) (time : ℕ) → Tells (inside m) (HasCommitted m n) m n (Ok (commits.ReadOnly time)) → IsThrough m n
commit-read m n time h =
    let told : HasCommitted m n (commits.ReadOnly time) = h.2 in
    (told.0.0.ends.idle, record { before = known_to m; told = refl; made = refl; grows = extends-refl (known_to m); later = omega arith; time = time; commits = inr told.0 }, (told.1, told.0.0.ends.installs))

commit-again : (m n : CheckedCaller) (word had now : ℕ) → Tells (inside m) (HasCommitted m n) m n (Ok (commits.Again word had now)) → AsksAgain m n
commit-again m n word had now h =
    let told : HasCommitted m n (commits.Again word had now) = h.2 in
    let goes = told.0.0 in
    record {
      nothing = record { same = h.1; made = goes.continues.made; grows = goes.continues.grows; holds = (told.1, goes.continues.installs) };
      running = goes.continues.running;
      log = told.0.2;
      was = told.0.7;
      revocable = still-revocable (known_to m) (known_to n) goes.continues.alg goes.granted told.0.2 told.0.7;
      word = word;
      had = had;
      now = now;
      hinders = (commits.Again word had now, h, refl);
      refusal = told.2;
    }

-- the commit ended the attempt by its refusal
abbrev IsTurnedDown : CheckedCaller → CheckedCaller → Type 0
IsTurnedDown m n = IsRefused m n × EndsBy (HindersCommit m n) n

commit-conflict : (m n : CheckedCaller) (cause : Cause) → Tells (inside m) (HasCommitted m n) m n (Ok (commits.Conflict cause)) → IsTurnedDown m n
commit-conflict m n cause h =
    let told : HasCommitted m n (commits.Conflict cause) = h.2 in
    let quits = told.0.0 in (
      (quits.ends.idle, record { same = h.1; made = quits.made; grows = quits.ends.grows; holds = (told.1, quits.ends.installs) }, quits.revocable),
      (refusals.Conflict cause, (commits.Conflict cause, h, refl), refl, told.2),
    )

commit-full : (m n : CheckedCaller) (clock : ℕ) → Tells (inside m) (HasCommitted m n) m n (Ok (commits.ClockFull clock)) → IsTurnedDown m n
commit-full m n clock h =
    let told : HasCommitted m n (commits.ClockFull clock) = h.2 in
    let quits = told.0.0 in (
      (quits.ends.idle, record { same = h.1; made = quits.made; grows = quits.ends.grows; holds = (told.1, quits.ends.installs) }, quits.revocable),
      (refusals.ClockFull clock, (commits.ClockFull clock, h, refl), refl, told.2),
    )

commit-misuse : (m n : CheckedCaller) (e : Misuse) → (known_to m).running ≡ true → Tells (inside m) (HasCommitted m n) m n (Err e) → ⊥
commit-misuse m n e run h = let no : None ≡ Some e = sym (inside-in m.phase (known_to m) m.in_phase run) ∙ h.0 in cc

pub commit-comes : (m n : CheckedCaller) (r : Result Commit Misuse) → (known_to m).running ≡ true → Tells (inside m) (HasCommitted m n) m n r
    → (outcome_of r ≡ Done → IsThrough m n) × (outcome_of r ≡ Again → AsksAgain m n) × (outcome_of r ≡ Refused → IsTurnedDown m n)
commit-comes m n (Ok (commits.Committed time)) run h = ((λ e. commit-committed m n time h), (λ e. absurd (let no : Done ≡ Again = e in cc)), (λ e. absurd (let no : Done ≡ Refused = e in cc)))
commit-comes m n (Ok (commits.ReadOnly time)) run h = ((λ e. commit-read m n time h), (λ e. absurd (let no : Done ≡ Again = e in cc)), (λ e. absurd (let no : Done ≡ Refused = e in cc)))
commit-comes m n (Ok (commits.Again word had now)) run h = ((λ e. absurd (let no : Again ≡ Done = e in cc)), (λ e. commit-again m n word had now h), (λ e. absurd (let no : Again ≡ Refused = e in cc)))
commit-comes m n (Ok (commits.Conflict cause)) run h = ((λ e. absurd (let no : Refused ≡ Done = e in cc)), (λ e. absurd (let no : Refused ≡ Again = e in cc)), (λ e. commit-conflict m n cause h))
commit-comes m n (Ok (commits.ClockFull clock)) run h = ((λ e. absurd (let no : Refused ≡ Done = e in cc)), (λ e. absurd (let no : Refused ≡ Again = e in cc)), (λ e. commit-full m n clock h))
commit-comes m n (Err e) run h = absurd (commit-misuse m n e run h)
