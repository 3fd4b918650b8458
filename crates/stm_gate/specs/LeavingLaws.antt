-- The end of an attempt as its caller knows it: from what stood before the last steps to the answers' relations.
use Rattle.std.proofs.Common.{ℕ, zero, suc, ◌≡◌, ◌≢◌, ◌<◌, ◌≤◌, ◌+◌, List, [], ◌∷◌, ◌++◌, false, refl, sym, ap, ◌∙◌, arith, subst, append_assoc, length, get_or, le_refl}
use Rattle.std.proofs.lemmas.List.{append-nil}
use Rattle.std.specs.Prelude.{Some, reverse, not}
use Rattle.std.proofs.lemmas.List.Elements.{Contains-append_left, Contains-append_right}
use Rattle.stm_model.specs.Algorithms.{entry_rise, quit_rise}
use Rattle.stm_model.specs.declared.config.Config.{Config}
use Rattle.stm_model.specs.declared.config.TheConstants.{CLOCK_LIMIT}
use Rattle.stm_model.specs.Histories.{memory_at, IsLegal}
use Rattle.stm_model.specs.Histories as public
use Rattle.stm_model.specs.Logs.{Sees}
use Rattle.stm_model.specs.Memories.{is_empty}
use Rattle.rule_base.specs.declared.entries.Entry.{Entry}
use Rattle.rule_base.specs.declared.layout.At.{At}
use Rattle.rule_base.specs.declared.layout.At.TheVariants.{Clock}
use Rattle.rule_base.specs.declared.views.Act.{Act}
use Rattle.rule_base.specs.declared.views.SeenHistory.{SeenHistory}
use Rattle.rule_base.specs.declared.views.TracedStep.{TracedStep}
use Rattle.rule_base.specs.declared.views.View.{View}
use Rattle.rule_base.specs.Bridge.{items, of_words, public_entry, public_history}
use Rattle.rule_base.specs.Lemmas.BridgeLemmas.{legal-public, length-public_history}
use Rattle.rule_base.specs.Own.{Own}
use Rattle.rule_base.specs.World.{World}
use Rattle.rule_seq.specs.CglSteps.{Commits, cgl_entry}
use Rattle.stm_answers.specs.Answers.{Ends, Quits, EndsAt, CommitsAt, IsOpaque, entry}
use Rattle.stm_answers.specs.Causes.{FindsFull}
use Rattle.stm_answers.specs.Evidence.{Found}
use Rattle.stm_answers.specs.CallerState.{CallerState, Grows, known_of, fenced_of, is_irrevocable, has_written, written_under, zeros, clock_in, top_of}
use Rattle.stm_gate.specs.InnerLaws.{unlocked-of}
use Rattle.stm_gate.specs.Leaving.{last_steps, left}
use Rattle.stm_gate.specs.Logging.{wrote-some}

-- from v to u the caller's algorithm, base, installs and fence stayed, its step trace grew, and it has no lock
pub record Carried (v u : View) : Type 0 where
  pub named : u.gate.algorithm ≡ v.gate.algorithm
  pub base : u.steps.rises_at_begin ≡ v.steps.rises_at_begin
  pub installs : u.steps.installs ≡ v.steps.installs
  pub fence : u.fence ≡ v.fence
  pub step_trace : (more : List TracedStep) × (u.steps.step_trace ≡ more ++ v.steps.step_trace)
  pub unlocked : u.lock.taken ≡ false
  pub unwritten : u.tml.writer ≡ false

-- and no entry was made or seen
pub record IsUnmade (v u : View) : Type 0 where
  pub carried : Carried v u
  pub history : u.history ≡ v.history

-- or none was, but the clock was raised to t, up to which all is seen
pub record IsRaised (t : ℕ) (v u : View) : Type 0 where
  pub carried : Carried v u
  pub history : u.history ≡ record v.history { front = t }

-- or the attempt's entry was made, at this time, after this history
pub record IsMade (n t : ℕ) (before : List Entry) (v u : View) : Type 0 where
  pub carried : Carried v u
  pub history : u.history ≡ record v.history { made = cgl_entry n t v ∷ v.history.made; seen = cgl_entry n t v ∷ before; front = t }
  pub rises : u.steps.rises ≡ v.steps.rises_at_begin + entry_rise v.gate.algorithm

pub unmade-refl : (v : View) → v.lock.taken ≡ false → v.tml.writer ≡ false → IsUnmade v v
unmade-refl v unlocked unwritten = record { carried = record { named = refl; base = refl; installs = refl; fence = refl; step_trace = ([], refl); unlocked = unlocked; unwritten = unwritten }; history = refl }

unmade-raised : (v u : View) → IsUnmade v u → IsRaised v.history.front v u
unmade-raised v u m = record { carried = m.carried; history = m.history }

-- what was found in the middle, as seen from earlier and from later on
pub found-later : (p : At) (x : ℕ) (u v w : CallerState) → Found p x u v → (more : List TracedStep) → w.step_trace ≡ more ++ v.step_trace → Found p x u w
found-later p x u v w f more t = (
  more ++ f.0,
  t ∙ (ap (λ s. more ++ s) f.1 ∙ sym (append_assoc more f.0 u.step_trace)),
  f.2,
  Contains-append_right more f.0 (record { place = p; act = f.2; found = Some x }) f.3,
)

pub found-earlier : (p : At) (x : ℕ) (u v w : CallerState) → Found p x v w → (more : List TracedStep) → v.step_trace ≡ more ++ u.step_trace → Found p x u w
found-earlier p x u v w f more t = (
  f.0 ++ more,
  f.1 ∙ (ap (λ s. f.0 ++ s) t ∙ sym (append_assoc f.0 more u.step_trace)),
  f.2,
  Contains-append_left f.0 more (record { place = p; act = f.2; found = Some x }) f.3,
)

-- a clock that was found is at most the greatest one
top-at : (is t : List TracedStep) (act : Act) (x k : ℕ) → k < length is → get_or is k (record { place = Clock; act = act; found = Some x }) ≡ record { place = Clock; act = act; found = Some x } → x ≤ top_of (is ++ t)
top-at [] t act x k l e = absurd (omega arith)
top-at (i ∷ is) t act x zero l e = let same : clock_in i.place i.found ≡ x = ap (λ (j : TracedStep). clock_in j.place j.found) e in omega arith
top-at (i ∷ is) t act x (suc k) l e = let rest : x ≤ top_of (is ++ t) = top-at is t act x k (omega arith) e in omega arith

pub found-top : (x : ℕ) (v w : CallerState) → Found Clock x v w → x ≤ top_of w.step_trace
found-top x v w f = subst (λ (t : List TracedStep). x ≤ top_of t) (sym f.1) (top-at f.0 v.step_trace f.2 x f.3.0 f.3.1 f.3.2)

-- a clock at its limit was found
pub finds-full : (x : ℕ) (v u : View) (o p : Own) → CLOCK_LIMIT ≤ x → Found Clock x (known_of v o) (known_of u p) → FindsFull x (known_of v o) (known_of u p)
finds-full x v u o p high f = record { limit = high; found = f; top = found-top x (known_of v o) (known_of u p) f }

module _ (n : ℕ) where
  pub step_trace-left : (v u : View) → Carried v u → (more : List TracedStep) × ((left n u).steps.step_trace ≡ more ++ v.steps.step_trace)
  step_trace-left v u c = let last = last_steps n u.gate.holds u.gate.fence u.gate.algorithm in (last ++ c.step_trace.0, ap (λ s. last ++ s) c.step_trace.1 ∙ sym (append_assoc last c.step_trace.0 v.steps.step_trace))

  -- what was found before the last steps
  pub found-left : (place : At) (x : ℕ) (v u : View) (o p : Own) → Found place x (known_of v o) (known_of u p) → Found place x (known_of v o) (known_of (left n u) p)
  found-left place x v u o p f = found-later place x (known_of v o) (known_of u p) (known_of (left n u) p) f (last_steps n u.gate.holds u.gate.fence u.gate.algorithm) refl

  pub ends-left : (v u : View) (o : Own) → Carried v u → Grows (known_of v o) (known_of (left n u) o) → Ends (known_of v o) (known_of (left n u) o)
  ends-left v u o c grows =
      record {
        idle = (refl, refl, refl, refl, unlocked-of u.gate.algorithm u.lock.taken u.tml.writer c.unlocked c.unwritten);
        grows = grows;
        alg = c.named;
        base = c.base;
        installs = ap reverse c.installs;
      }

  raised-ends : (t : ℕ) (v u : View) (o : Own) → IsRaised t v u → v.history.front ≤ t → Ends (known_of v o) (known_of (left n u) o)
  raised-ends t v u o m up = let k = step_trace-left v u m.carried in ends-left v u o m.carried (record {
    later = [];
    is = ap (λ (h : SeenHistory). public_history h.seen) m.history ∙ sym (append-nil (public_history v.history.seen));
    ascending = tt;
    up_to = tt;
    front_rose = subst (λ (h : SeenHistory). v.history.front ≤ h.front) (sym m.history) up;
    more = k.0;
    step_trace = k.1;
    reads_limit = refl;
    writes_limit = refl;
    marks_limit = refl;
    fenced = ap fenced_of m.carried.fence;
  })

  unmade-ends : (v u : View) (o : Own) → IsUnmade v u → Ends (known_of v o) (known_of (left n u) o)
  unmade-ends v u o m = raised-ends v.history.front v u o (unmade-raised v u m) (le_refl v.history.front)

  -- THE REFUSAL: the attempt ended without an entry
  pub quits-left : (v u : View) (o : Own) → IsUnmade v u
      → (v.steps.rises_at_begin ≤ u.steps.rises)
      × (u.steps.rises ≤ v.steps.rises_at_begin + quit_rise v.gate.algorithm (has_written (known_of v o)))
      → is_irrevocable (known_of v o) ≡ false
      → Quits (known_of v o) (known_of (left n u) o)
  quits-left v u o m rises revocable = record { ends = unmade-ends v u o m; made = ap (λ (h : SeenHistory). public_history h.made) m.history; rises = rises; revocable = revocable }

  module _ (good : List ℕ → Type 0) (c : Config) where
    -- THE END AT THE START: what the attempt read is the memory there, be the clock raised without an entry afterwards
    pub ended-raised : (time t : ℕ) (v u : View) (o : Own) → IsRaised t v u → v.history.front ≤ t → time ≡ v.attempt.start → IsOpaque good c n (known_of v o) → EndsAt good c n time (known_of v o) (known_of (left n u) o)
    ended-raised time t v u o m up is q = record {
      ends = raised-ends t v u o m up;
      made = ap (λ (h : SeenHistory). public_history h.made) m.history;
      is_start = is;
      seen = (let r = q.reach in let f : u.history.front ≡ t = ap (λ (h : SeenHistory). h.front) m.history in omega arith);
      kept =
          subst (λ (h : SeenHistory). good (memory_at time (public_history h.seen) (zeros c.words))) (sym m.history)
          (subst (λ (s : ℕ). good (memory_at s (public_history v.history.seen) (zeros c.words))) (sym is) q.kept);
      sees =
          subst (λ (h : SeenHistory). Sees time (public_history h.seen) (zeros c.words) (known_of v o).log) (sym m.history)
          (subst (λ (s : ℕ). Sees s (public_history v.history.seen) (zeros c.words) (known_of v o).log) (sym is) q.sees);
    }

    pub ended-left : (time : ℕ) (v u : View) (o : Own) → IsUnmade v u → time ≡ v.attempt.start → IsOpaque good c n (known_of v o) → EndsAt good c n time (known_of v o) (known_of (left n u) o)
    ended-left time v u o m is q = ended-raised time v.history.front v u o (unmade-raised v u m) (le_refl v.history.front) is q

    -- THE COMMIT: the attempt ended with its entry, the latest of a legal history
    pub commits-left : (t : ℕ) (w : World) (v u : View) (o : Own) → Commits (of_words good c.words) c n t w v t → IsMade n t w.history v u → v.attempt.start < t → v.history.front < t → v.attempt.stores ≢ []
        → written_under v.gate.algorithm v.gate.granted v o ≡ items v.attempt.stores → CommitsAt good c n t (known_of v o) (known_of (left n u) o)
    commits-left t w v u o s m later above some written = record {
      ends = ends-left v u o m.carried (let k = step_trace-left v u m.carried in record {
        later = made ∷ [];
        is = ap (λ (h : SeenHistory). public_history h.seen) m.history ∙ ap (λ (h : List public.Entry). h ++ made ∷ []) (sym (ap public_history s.seen));
        ascending = (above, tt);
        up_to = (front_at, tt);
        front_rose = (let f = front_is in omega arith);
        more = k.0;
        step_trace = k.1;
        reads_limit = refl;
        writes_limit = refl;
        marks_limit = refl;
        fenced = ap fenced_of m.carried.fence;
      });
      rises = m.rises;
      wrote = ap (λ (l : List (ℕ × ℕ)). not (is_empty l)) written ∙ ap not (wrote-some v.attempt.stores some);
      made = ap (λ (h : SeenHistory). public_history h.made) m.history ∙ ap (λ (e : public.Entry). public_history v.history.made ++ e ∷ []) as_entry;
      before = public_history w.history;
      seen = ap (λ (h : SeenHistory). public_history h.seen) m.history ∙ ap (λ (e : public.Entry). public_history w.history ++ e ∷ []) as_entry;
      legal = subst (λ (h : SeenHistory). IsLegal good (zeros c.words) c.clock (public_history h.seen)) (sym m.history) (legal-public good c (cgl_entry n t v ∷ w.history) (t + 1) s.below s.legal);
      later = later;
      above = above;
      front = front_is;
    }
      where
        made : public.Entry
        made = public_entry (cgl_entry n t v)

        front_is : u.history.front ≡ t
        front_is = ap (λ (h : SeenHistory). h.front) m.history

        front_at : t ≤ u.history.front
        front_at = let f = front_is in omega arith

        as_entry : made ≡ entry t n (length (public_history v.history.made)) (known_of v o).log
        as_entry = λ i. record { time = t; caller = n; number = sym (length-public_history v.history.made) i; reads = items v.attempt.reads; writes = sym written i }
