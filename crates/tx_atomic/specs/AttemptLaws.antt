-- Laws of attempts.
use Rattle.std.proofs.Common.{ℕ, ◌≡◌, ◌≤◌, ◌∙◌, List, [], true, false, arith, sym, ap, subst, inl, inr}
use Rattle.std.specs.Prelude.{Option, Some, None, ◌⊎◌, not}
use Rattle.rule_base.specs.declared.seats.Who.{Who}
use Rattle.stm_model.specs.Logs.{Log}
use Rattle.stm_model.specs.Memories.{is_empty}
use Rattle.stm_rule.specs.Callers.{Handle, IsSameCaller}
use Rattle.stm_model.specs.declared.config.Config.{Config}
use Rattle.stm_model.specs.declared.stop.Stop.{Stop}
use Rattle.stm_model.specs.declared.stop.Stop.TheVariants as stops
use Rattle.stm_answers.specs.declared.answers.Cancel.{Cancel}
use Rattle.stm_answers.specs.declared.answers.Cancel.TheVariants.{Cancelled, Irrevocable}
use Rattle.stm_answers.specs.declared.answers.Commit.{Commit}
use Rattle.stm_answers.specs.declared.answers.Commit.TheVariants.{Committed, ReadOnly}
use Rattle.stm_answers.specs.declared.answers.Commit.TheVariants as commits
use Rattle.stm_answers.specs.declared.answers.Irrev.{Irrev}
use Rattle.stm_answers.specs.declared.answers.Irrev.TheVariants as grants
use Rattle.stm_answers.specs.Answers.{Cancels, Commits, Irrevs, Stops}
use Rattle.stm_answers.specs.CallerState.{CallerState, Grows, IsIdle, caller_of, is_irrevocable}
use Rattle.stm_answers.specs.CallerStateLaws.{grows-trans}
use Rattle.stm_tx.specs.declared.live.Halt.{Halt}
use Rattle.stm_tx.specs.Descs.{Since, number, stop_of}
use Rattle.tx_atomic.specs.Attempts.{TookEffect}
use Rattle.tx_atomic.specs.Extends.{Extends}
use Rattle.tx_atomic.specs.ExtendsLaws.{extends-trans, grows-extends}

-- no call changes a caller's number
pub same-number : {K : Type 0} (d e : Handle K) → IsSameCaller d e → number e ≡ number d
same-number {K} d e same = ap (λ (w : Who K). caller_of w.role) same.who

-- a commit that was done took effect
pub took-by : (good : List ℕ → Type 0) (c : Config) (n : ℕ) (tells : Log → Type 0) (answer : Commit) (from : ℕ) (u v w : CallerState)
    → tells v.log → v.made ≡ u.made → Grows u v → from ≤ v.start → Commits good c n answer v w
    → ((t : ℕ) × (answer ≡ Committed t)) ⊎ ((t : ℕ) × (answer ≡ ReadOnly t)) → TookEffect good c n tells from u w
took-by good c n tells answer from u v w told made grows later commits (inl p) =
    record {
      before = v;
      told = told;
      made = made;
      grows = grows-extends u v grows;
      later = later;
      time = p.0;
      commits = inl (subst (λ r. Commits good c n r v w) p.1 commits);
    }
took-by good c n tells answer from u v w told made grows later commits (inr p) =
    record {
      before = v;
      told = told;
      made = made;
      grows = grows-extends u v grows;
      later = later;
      time = p.0;
      commits = inr (subst (λ r. Commits good c n r v w) p.1 commits);
    }

-- what took effect since v did so since u, from which v came without an entry
pub took-since : (good : List ℕ → Type 0) (c : Config) (n : ℕ) (tells : Log → Type 0) (late early : ℕ) (u v w : CallerState)
    → v.made ≡ u.made → Extends u v → early ≤ late → TookEffect good c n tells late v w → TookEffect good c n tells early u w
took-since good c n tells late early u v w made grows le t = record {
  before = t.before;
  told = t.told;
  made = t.made ∙ made;
  grows = extends-trans u v t.before grows t.grows;
  later = (let h = t.later in omega (arith, h, le));
  time = t.time;
  commits = t.commits;
}

-- and less may be said of it
pub took-weaker : (good : List ℕ → Type 0) (c : Config) (n : ℕ) (tells told : Log → Type 0) (from : ℕ) (u w : CallerState)
    → ((log : Log) → tells log → told log) → TookEffect good c n tells from u w → TookEffect good c n told from u w
took-weaker good c n tells told from u w weaker t = record {
  before = t.before;
  told = weaker t.before.log t.told;
  made = t.made;
  grows = t.grows;
  later = t.later;
  time = t.time;
  commits = t.commits;
}

-- what took effect and had written nothing left no entry
pub took-nothing : (good : List ℕ → Type 0) (c : Config) (n : ℕ) (tells : Log → Type 0) (from : ℕ) (u w : CallerState) → ((log : Log) → tells log → log.writes ≡ []) → TookEffect good c n tells from u w → w.made ≡ u.made
took-nothing good c n tells from u w nothing t = by t.commits
  where
    by : Commits good c n (Committed t.time) t.before w ⊎ Commits good c n (ReadOnly t.time) t.before w → w.made ≡ u.made
    by (inl h) = absurd (let f : false ≡ true = sym (ap (λ ws. not (is_empty ws)) (nothing t.before.log t.told)) ∙ h.wrote in cc)
    by (inr h) = h.0.made ∙ t.made

-- an attempt that goes on as it was can still be cancelled
pub still-revocable : (v w : CallerState) → w.alg ≡ v.alg → w.granted ≡ v.granted → w.log ≡ v.log → is_irrevocable v ≡ false → is_irrevocable w ≡ false
still-revocable v w alg granted log revocable = let is : is_irrevocable w ≡ is_irrevocable v = cc in is ∙ revocable

module _ (good : List ℕ → Type 0) (c : Config) (n : ℕ) where
  -- and is over once it was, without an entry
  pub cancels-idle : (r : Cancel) (v w : CallerState) → is_irrevocable v ≡ false → Cancels good c n r v w → IsIdle w
  cancels-idle (Cancelled time) v w revocable h = h.0.ends.idle
  cancels-idle Irrevocable v w revocable h = absurd (let no : false ≡ true = sym revocable ∙ h.1 in cc)

  pub cancels-made : (r : Cancel) (v w : CallerState) → Cancels good c n r v w → w.made ≡ v.made
  cancels-made (Cancelled time) v w h = h.0.made
  cancels-made Irrevocable v w h = ap (λ (k : CallerState). k.made) h.0

  -- what was seen since u stays, whatever a call answers
  pub irrevs-grow : (r : Irrev) (u v w : CallerState) → Grows u v → Irrevs good c n r v w → Grows u w
  irrevs-grow grants.Granted u v w grew h = grows-trans u v w grew h.continues.grows
  irrevs-grow (grants.Busy caller status) u v w grew h = grows-trans u v w grew h.0.continues.grows
  irrevs-grow (grants.Taken gate) u v w grew h = grows-trans u v w grew h.0.continues.grows
  irrevs-grow (grants.Conflict cause) u v w grew h = grows-trans u v w grew h.0.ends.grows
  irrevs-grow (grants.ClockFull clock) u v w grew h = grows-trans u v w grew h.0.ends.grows

  pub cancels-grow : (r : Cancel) (u v w : CallerState) → Grows u v → Cancels good c n r v w → Grows u w
  cancels-grow (Cancelled time) u v w grew h = grows-trans u v w grew h.0.ends.grows
  cancels-grow Irrevocable u v w grew h = subst (λ (k : CallerState). Grows u k) (sym h.0) grew

  pub commits-grow : (r : Commit) (u v w : CallerState) → Grows u v → Commits good c n r v w → Grows u w
  commits-grow (Committed time) u v w grew h = grows-trans u v w grew h.ends.grows
  commits-grow (ReadOnly time) u v w grew h = grows-trans u v w grew h.0.ends.grows
  commits-grow (commits.Conflict cause) u v w grew h = grows-trans u v w grew h.0.ends.grows
  commits-grow (commits.Again word had now) u v w grew h = grows-trans u v w grew h.0.continues.grows
  commits-grow (commits.ClockFull clock) u v w grew h = grows-trans u v w grew h.0.ends.grows

  stop-idle : (a : ℕ) (stop : Stop) (v w : CallerState) → Stops good c n a stop v w → IsIdle w
  stop-idle a (stops.Conflict cause) v w h = h.0.ends.idle
  stop-idle a (stops.Full limit) v w h = h.0.ends.idle
  stop-idle a (stops.ClockFull clock) v w h = h.0.ends.idle

  -- an attempt that was stopped is over
  pub stopped-idle : (stop : Stop) (stopped : Option Halt) (v w : CallerState) → stop_of stopped ≡ Some stop → Since good c n None v stopped w → IsIdle w
  stopped-idle stop None v w is since = absurd cc
  stopped-idle stop (Some halt) v w is since = stop-idle halt.at halt.stop since.1.before w since.1.stops
