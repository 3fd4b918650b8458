-- What the steps of a begin that takes the lock come to.
use Rattle.std.proofs.Common.{ℕ, ◌≡◌, ◌≢◌, ◌<◌, ◌≤◌, List, [], ◌∷◌, ◌++◌, Bool, true, false, refl, sym, ap, ◌∙◌, arith, subst}
use Rattle.std.specs.Prelude.{Some, None, ◌&&◌, ◌||◌, ◌==◌, if◌then◌else◌}
use Rattle.std.proofs.lemmas.Bool.Decides.{nat_tests}
use Rattle.stm_model.specs.Algorithms.{takes_lock, closes_gate, asks_at_begin, irrevocable_under}
use Rattle.stm_model.specs.declared.alg.Alg.{Alg}
use Rattle.stm_model.specs.declared.alg.Alg.TheVariants.{Cgl, Tml, OrecLazy, OrecEager, RingSw, Serial}
use Rattle.stm_model.specs.declared.config.Config.{Config}
use Rattle.stm_model.specs.declared.config.TheConstants.{CLOCK_LIMIT}
use Rattle.rule_base.specs.declared.entries.Cell.{Cell}
use Rattle.rule_base.specs.declared.layout.At.{At}
use Rattle.rule_base.specs.declared.layout.At.TheVariants.{Clock, Lock}
use Rattle.rule_base.specs.declared.views.Act.TheVariants.{Load, Store, Exchange}
use Rattle.rule_base.specs.declared.views.GateView.{GateView}
use Rattle.rule_base.specs.declared.views.LockView.{LockView}
use Rattle.rule_base.specs.declared.views.TracedStep.{TracedStep}
use Rattle.rule_base.specs.declared.views.View.{View}
use Rattle.rule_base.specs.Bridge.{addresses, items, of_words, public_history}
use Rattle.rule_base.specs.Encodings.{taken_lock}
use Rattle.rule_base.specs.Own.{Own}
use Rattle.rule_base.specs.StepKinds.{Nothing, Tells, view_after}
use Rattle.rule_base.specs.World.{World}
use Rattle.rule_seq.specs.CglSteps.{no_attempt, take_lock, load_start, Begins, free_lock, fresh_lock}
use Rattle.stm_rule.specs.Attempts.{begun}
use Rattle.stm_rule.specs.Findings.{FindsLock}
use Rattle.stm_answers.specs.declared.answers.Begin.TheVariants.{Held, ClockFull}
use Rattle.stm_answers.specs.Answers.{IsHeld, start_word}
use Rattle.stm_answers.specs.Causes.{NamesOther}
use Rattle.stm_answers.specs.Evidence.{Found}
use Rattle.stm_answers.specs.CallerState.{CallerState, Grows, known_of, granted_under, kept_under, locked_under}
use Rattle.stm_answers.specs.CallerStateLaws.{grows-same}
use Rattle.stm_gate.specs.Opacity.{opaque-at, later-seen}
use Rattle.stm_gate.specs.LeavingLaws.{finds-full}
use Rattle.stm_gate.specs.Starts.{CanBegin, StartsAt, Refuses}
use Rattle.alg_seq.proofs.Locked.{written-plain, keeps-by}

unpromoted : (a : Alg) → (closes_gate a && false) ≡ false
unpromoted Cgl = refl
unpromoted Serial = refl
unpromoted Tml = refl
unpromoted OrecLazy = refl
unpromoted OrecEager = refl
unpromoted RingSw = refl

begins-clock : (a : Alg) → takes_lock a ≡ true → start_word a ≡ Clock
begins-clock Cgl t = refl
begins-clock Serial t = refl
begins-clock Tml t = absurd cc
begins-clock OrecLazy t = absurd cc
begins-clock OrecEager t = absurd cc
begins-clock RingSw t = absurd cc

ungranted : (a : Alg) (g : GateView) (l : LockView) → takes_lock a ≡ true → g.granted ≡ false → l.irrevocable ≡ irrevocable_under a false false → granted_under a g l ≡ false
ungranted Cgl g l t e s = e
ungranted Serial g l t e s = s
ungranted Tml g l t e s = absurd cc
ungranted OrecLazy g l t e s = absurd cc
ungranted OrecEager g l t e s = absurd cc
ungranted RingSw g l t e s = absurd cc

bare : (a : Alg) (v : View) (o : Own) → takes_lock a ≡ true → v.lock.undo ≡ [] → kept_under a v o ≡ []
bare Cgl v o t e = refl
bare Serial v o t e = ap (λ (cs : List Cell). addresses (items cs)) e
bare Tml v o t e = absurd cc
bare OrecLazy v o t e = absurd cc
bare OrecEager v o t e = absurd cc
bare RingSw v o t e = absurd cc

holds-taken : (a : Alg) (writer : Bool) → takes_lock a ≡ true → locked_under a true writer ≡ true
holds-taken Cgl writer t = refl
holds-taken Serial writer t = refl
holds-taken Tml writer t = absurd cc
holds-taken OrecLazy writer t = absurd cc
holds-taken OrecEager writer t = absurd cc
holds-taken RingSw writer t = absurd cc

asked : (b : Bool) → (b || (false || false)) ≡ true → b ≡ true
asked true e = refl
asked false e = e

two : (k n callers : ℕ) → k < callers → n < callers → k ≢ n → 1 < callers
two k n callers a b apart = grind arith

module _ (good : List ℕ → Type 0) (c : Config) (n : ℕ) (a : Alg) (locks : takes_lock a ≡ true) where
  abbrev pub rule : (ℕ → ℕ) → Type 0
  rule = of_words good c.words

  held-lock : (b : Alg) (x : ℕ) (v w : CallerState) → takes_lock b ≡ true → Found Lock x v w × NamesOther c n x → IsHeld good c n b x v w
  held-lock Cgl x v w t h = h
  held-lock Serial x v w t h = h
  held-lock Tml x v w t h = absurd cc
  held-lock OrecLazy x v w t h = absurd cc
  held-lock OrecEager x v w t h = absurd cc
  held-lock RingSw x v w t h = absurd cc

  pub tells-held : (x : ℕ) (v w : View) → n < c.callers → CanBegin a v → x ≢ 0 → Tells (take_lock n) (FindsLock c n) v x w → Refuses good c n a (Held x) v w
  tells-held x v w low can other t = let who = t.1 other in subst (λ (y : View). Refuses good c n a (Held x) v y) (sym t.2) (
    record {
      can = record {
        phase = can.phase;
        named = can.named;
        reopened = can.reopened;
        ungranted = can.ungranted;
        clear =
            record {
              unlocked = ap (λ b. (if b then fresh_lock v.gate.algorithm else v.lock).taken) apart ∙ can.clear.unlocked;
              disowned = can.clear.disowned;
              unwritten = can.clear.unwritten;
              uncommitted = can.clear.uncommitted;
              unentered = ap (λ b. (if b then no_attempt else v.attempt).entered) apart ∙ can.clear.unentered;
              unfixed = ap (λ b. (if b then fresh_lock v.gate.algorithm else v.lock).irrevocable) apart ∙ can.clear.unfixed;
            };
        unentered = can.unentered;
        rises = can.rises;
      };
      keeps = λ o. record { made = refl; grows = grows-same (known_of v o) (known_of u o) refl refl (step ∷ []) refl refl refl refl refl; rises = refl; installs = refl };
    },
    (let e = who.3 in omega arith),
    λ o. held-lock a x (known_of v o) (known_of u o) locks ((step ∷ [], refl, Exchange 0 (taken_lock n), (0, omega arith, refl)), who),
    two who.0 n c.callers who.1 low who.2,
  )
    where
      apart : (x == 0) ≡ false
      apart = grind (arith, nat_tests)

      u : View
      u = view_after (take_lock n) t.0 v x

      step : TracedStep
      step = record { place = Lock; act = Exchange 0 (taken_lock n); found = Some x }

  abbrev pub took : World → View → View
  took m v = view_after (take_lock n) m v 0

  abbrev pub started : World → World → View → ℕ → View
  started m o v clock = view_after load_start o (took m v) clock

  grows-started : (v : View) (m w : World) (clock : ℕ) (o : Own) → Begins rule c w (took m v) clock → Grows (known_of v o) (known_of (started m w v clock) o)
  grows-started v m w clock o b =
      let l = later-seen w.history v.history.front clock b.below b.front in
      record {
        later = l.0;
        is = subst (λ s. public_history w.history ≡ public_history s ++ l.0) (sym b.seen) l.1;
        ascending = l.2;
        up_to = l.3;
        front_rose = b.front;
        more = record { place = Clock; act = Load; found = Some clock } ∷ record { place = Lock; act = Exchange 0 (taken_lock n); found = Some 0 } ∷ [];
        step_trace = refl;
        reads_limit = refl;
        writes_limit = refl;
        marks_limit = refl;
        fenced = refl;
      }

  pub tells-started : (found clock : ℕ) (v t w : View) → CanBegin a v → found ≡ 0 → (asks_at_begin a ≡ true → clock < CLOCK_LIMIT)
      → Tells (take_lock n) (FindsLock c n) v found t → Tells load_start (Begins rule c) t clock w → StartsAt good c n a clock v w
  tells-started found clock v t w can zero low f l = subst (λ (y : View). StartsAt good c n a clock v y) (sym path) (record {
    inside = λ k fenced free. record {
      steady = λ e. refl;
      phase = can.phase;
      named = can.named;
      spared = record { is = fenced.is; fits = fenced.fits };
      disowned = λ e. can.clear.disowned;
      unentered = refl;
      start = refl;
      front = refl;
      legal = b.legal;
      below = b.below;
      sees = λ e. refl;
      reads_inside = λ e p. absurd cc;
      looked = λ e. absurd (let no : false ≡ true = sym free ∙ e in cc);
      granted = can.ungranted ∙ sym (unpromoted a);
      keeps = keeps-by c a false (begun a clock k) u locks (record {
        taken = refl;
        started = refl;
        unwritten = can.clear.unwritten;
        uncommitted = can.clear.uncommitted;
        reopened = free;
        clean = λ e. refl;
        dirty = λ e. absurd cc;
        irrevocable = ap (λ b. irrevocable_under b false false) can.named;
        undone = λ e. refl;
        undoable = λ e b p. absurd cc;
        shorter = λ e. omega arith;
        most = λ e. omega arith;
        within = λ e p. absurd cc;
        writes = λ e. refl;
        marked = λ e. refl;
        apart = λ e b p. absurd cc;
        rises = can.rises;
        limit = λ e. low (asked (asks_at_begin a) e);
      });
    };
    reopened = can.reopened;
    fence = refl;
    rises = can.rises;
    starts = λ o fresh. record {
      keeps = record { made = refl; grows = grows-started v f.0 l.0 clock o b; rises = refl; installs = refl };
      found =
          subst (λ (p : At). Found p clock (known_of v o) (known_of u o)) (sym (begins-clock a locks)) (
            record { place = Clock; act = Load; found = Some clock }
                ∷ record { place = Lock; act = Exchange 0 (taken_lock n); found = Some 0 } ∷ [],
            refl,
            Load,
            (0, omega arith, refl),
          );
      is = refl;
      fresh = b.front;
      log = ap (λ ws. record { reads = []; writes = ws }) (written-plain v.gate.algorithm v.gate.granted u o (ap takes_lock can.named ∙ locks));
      bare = bare v.gate.algorithm u o (ap takes_lock can.named ∙ locks) refl;
      granted = ungranted v.gate.algorithm v.gate u.lock (ap takes_lock can.named ∙ locks) can.ungranted refl;
      opaque = opaque-at good c n u o clock refl refl b.legal b.below (λ e. refl) (λ e p. absurd cc);
      locked = holds-taken v.gate.algorithm v.tml.writer (ap takes_lock can.named ∙ locks) ∙ sym locks;
      took = λ e. (record { place = Clock; act = Load; found = Some clock } ∷ record { place = Lock; act = Exchange 0 (taken_lock n); found = Some 0 } ∷ [], refl, (1, omega arith, refl));
    };
  })
    where
      first : t ≡ took f.0 v
      first = f.2 ∙ ap (λ k. view_after (take_lock n) f.0 v k) zero

      b : Begins rule c l.0 (took f.0 v) clock
      b = subst (λ (y : View). Begins rule c l.0 y clock) first l.1

      u : View
      u = started f.0 l.0 v clock

      path : w ≡ started f.0 l.0 v clock
      path = l.2 ∙ ap (λ y. view_after load_start l.0 y clock) first

  pub tells-full : (found clock : ℕ) (v t u w : View) → CanBegin a v → found ≡ 0 → asks_at_begin a ≡ true → CLOCK_LIMIT ≤ clock
      → Tells (take_lock n) (FindsLock c n) v found t → Tells load_start (Begins rule c) t clock u → Tells free_lock Nothing u 0 w
      → Refuses good c n a (ClockFull clock) v w
  tells-full found clock v t u w can zero asks high f l r = subst (λ (y : View). Refuses good c n a (ClockFull clock) v y) (sym path) (
    record {
      can =
          record {
            phase = can.phase;
            named = can.named;
            reopened = can.reopened;
            ungranted = can.ungranted;
            clear = record {
              unlocked = refl;
              disowned = can.clear.disowned;
              unwritten = can.clear.unwritten;
              uncommitted = can.clear.uncommitted;
              unentered = refl;
              unfixed = refl;
            };
            unentered = can.unentered;
            rises = can.rises;
          };
      keeps = λ o. let h = grows-started v f.0 l.0 clock o b in record {
        made = refl;
        grows =
            record {
              later = h.later;
              is = h.is;
              ascending = h.ascending;
              up_to = h.up_to;
              front_rose = h.front_rose;
              more = freed ∷ h.more;
              step_trace = ap (λ s. freed ∷ s) h.step_trace;
              reads_limit = refl;
              writes_limit = refl;
              marks_limit = refl;
              fenced = refl;
            };
        rises = refl;
        installs = refl;
      };
    },
    asks,
    λ o.
        finds-full clock v last o o high (
          freed ∷ record { place = Clock; act = Load; found = Some clock }
              ∷ record { place = Lock; act = Exchange 0 (taken_lock n); found = Some 0 } ∷ [],
          refl,
          Load,
          (1, omega arith, refl),
        ),
  )
    where
      freed : TracedStep
      freed = record { place = Lock; act = Store 0; found = None }

      first : t ≡ took f.0 v
      first = f.2 ∙ ap (λ k. view_after (take_lock n) f.0 v k) zero

      b : Begins rule c l.0 (took f.0 v) clock
      b = subst (λ (y : View). Begins rule c l.0 y clock) first l.1

      last : View
      last = view_after free_lock r.0 (started f.0 l.0 v clock) 0

      path : w ≡ last
      path = r.2 ∙ ap (λ y. view_after free_lock r.0 y 0) (l.2 ∙ ap (λ y. view_after load_start l.0 y clock) first)
