-- Laws of what the jobs' crate sees.
use Rattle.std.proofs.Common.{ℕ, ◌≡◌, ◌≤◌, ◌∙◌, List, [], ◌∷◌, ◌++◌, Bool, true, false, length, refl, sym, ap, arith, subst, inl, inr}
use Rattle.std.specs.Prelude.{◌⊎◌, not, Option, Some, None, IfSome}
use Rattle.std.proofs.lemmas.List.{append-nil}
use Rattle.stm_model.specs.declared.config.Config.{Config}
use Rattle.stm_model.specs.Histories.{Entry}
use Rattle.stm_model.specs.Logs.{Log}
use Rattle.stm_model.specs.Memories.{is_empty}
use Rattle.rule_base.specs.declared.layout.At.{At}
use Rattle.rule_base.specs.declared.layout.At.TheVariants.{Clock, Lock, Gate, Base, Done, Status, Record, Slot, Heap}
use Rattle.rule_base.specs.declared.views.TracedStep.{TracedStep}
use Rattle.rule_base.specs.StepsRule.{ClocksWithin}
use Rattle.stm_rule.specs.Callers.{Handle}
use Rattle.stm_tx.specs.Descs.{known}
use Rattle.stm_answers.specs.declared.answers.Commit.TheVariants.{Committed, ReadOnly}
use Rattle.stm_answers.specs.Answers.{Commits}
use Rattle.stm_answers.specs.Causes.{FindsFull}
use Rattle.stm_answers.specs.CallerState.{CallerState, clock_in, top_of}
use Rattle.tx_atomic.specs.Attempts.{TookEffect}
use Rattle.tx_atomic.specs.Extends.{Extends}
use Rattle.tx_atomic.specs.ExtendsLaws.{extends-refl}
use Rattle.tx_atomic.specs.MomentLaws.{happened}
use Rattle.tx_atomic.specs.Moments.{Happened}
use Rattle.tx_jobs.specs.Known as jobs
use Rattle.tx_jobs.specs.Moments.{Took}
use Rattle.tx_jobs.specs.Repeats.{MadeOne}
use Rattle.tx_start.specs.Seats.{shown}

-- the greatest clock that was found rises with what is found, and is none beyond the memory's
top-more : (is t : List TracedStep) → top_of t ≤ top_of (is ++ t)
top-more [] t = omega arith
top-more (i ∷ is) t = let rest = top-more is t in omega (arith, rest)

pub top-within : (clock : ℕ) (is : List TracedStep) → ClocksWithin clock is → top_of is ≤ clock
top-within clock [] within = omega arith
top-within clock (i ∷ is) within = let rest = top-within clock is within.1 in let here = by i.place i.found within.0 in omega (arith, rest, here)
  where
    by : (place : At) (found : Option ℕ) → (place ≡ Clock → (x : ℕ) → found ≡ Some x → x ≤ clock) → clock_in place found ≤ clock
    by Clock None low = omega arith
    by Clock (Some x) low = low refl x refl
    by Lock found low = omega arith
    by Gate found low = omega arith
    by Base found low = omega arith
    by Done found low = omega arith
    by (Status i) found low = omega arith
    by (Record i) found low = omega arith
    by (Slot i) found low = omega arith
    by (Heap i) found low = omega arith

pub grows-shown : {K : Type 0} (d e : Handle K) (m n : ℕ) → Extends (known d) (known e) → jobs.Grows (shown (known d) m) (shown (known e) n)
grows-shown d e m n g = record {
  later = g.later;
  is = g.is;
  ascending = g.ascending;
  up_to = g.up_to;
  front_rose = g.front_rose;
  top_rose = subst (λ (t : List TracedStep). top_of d.view.steps.step_trace ≤ top_of t) (sym g.step_trace) (top-more g.more d.view.steps.step_trace);
}

pub found-full : (clock : ℕ) (v w : CallerState) (n : ℕ) → FindsFull clock v w → jobs.IsFull (shown w n)
found-full clock v w n full = let limit = full.limit in let top = full.top in omega arith

not-empty : (b : Bool) → not b ≡ true → b ≡ false
not-empty true some = absurd cc
not-empty false some = refl

empty : (b : Bool) → not b ≡ false → b ≡ true
empty true none = refl
empty false none = absurd cc

-- a transaction that took effect is the caller's next entry
took-one : (good : List ℕ → Type 0) (c : Config) (n : ℕ) (tells : Log → Type 0) (from : ℕ) (u w : CallerState) → (t : TookEffect good c n tells from u w) → MadeOne t.before.log u.made w.made
took-one good c n tells from u w t = by t.commits
  where
    e : Entry
    e = record { time = t.time; caller = n; number = length t.before.made; reads = t.before.log.reads; writes = t.before.log.writes }

    by : Commits good c n (Committed t.time) t.before w ⊎ Commits good c n (ReadOnly t.time) t.before w → MadeOne t.before.log u.made w.made
    by (inl h) = inr (not-empty (is_empty t.before.log.writes) h.wrote, e, refl, h.made ∙ ap (λ (m : List Entry). m ++ e ∷ []) t.made)
    by (inr h) = inl (empty (is_empty t.before.log.writes) h.2, h.0.made ∙ t.made)

-- and has its moment in what its caller has seen
pub took-shown : (good : List ℕ → Type 0) (c : Config) (n : ℕ) (tells : Log → Type 0) (u w : CallerState) (j k : ℕ) → TookEffect good c n tells u.front u w → Took good c.words tells (shown u j) (shown w k)
took-shown good c n tells u w j k t =
    let h : Happened good c (λ log. tells log × MadeOne log u.made w.made) u w w.seen =
    happened good c n (λ log. tells log × MadeOne log u.made w.made) u w w.seen w
    (record { before = t.before; told = (t.told, took-one good c n tells u.front u w t); made = t.made; grows = t.grows; later = t.later; time = t.time; commits = t.commits })
    (extends-refl w) ([], sym (append-nil w.seen), tt) in
    record {
      log = h.log;
      told = h.told.0;
      made = h.told.1;
      stands = record { at = h.at; later = h.later; sooner = h.sooner; kept = h.kept; read = h.read; wrote = h.wrote };
    }

pub if-took : {A : Type 0} (good : List ℕ → Type 0) (c : Config) (n : ℕ) (tells : A → Log → Type 0) (u w : CallerState) (j k : ℕ) (r : Option A)
    → IfSome r (λ a. TookEffect good c n (tells a) u.front u w) → IfSome r (λ a. Took good c.words (tells a) (shown u j) (shown w k))
if-took good c n tells u w j k None took = tt
if-took good c n tells u w j k (Some a) took = took-shown good c n (tells a) u w j k took
