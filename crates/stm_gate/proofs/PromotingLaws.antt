-- What the steps by which an attempt comes to be alone come to.
use Rattle.std.proofs.Common.{ℕ, ◌≡◌, ◌≢◌, ◌<◌, ◌+◌, List, [], ◌∷◌, ◌++◌, Bool, true, false, refl, sym, ap, ◌∙◌, arith, subst, append_assoc, inl}
use Rattle.std.proofs.lemmas.Bool.Decides.{nat_tests}
use Rattle.std.specs.Prelude.{Some, None, not, ◌==◌, ◌&&◌, ◌||◌, if◌then◌else◌}
use Rattle.stm_model.specs.Algorithms.{closes_gate, irrevocable_under}
use Rattle.stm_model.specs.declared.alg.Alg.{Alg}
use Rattle.stm_model.specs.declared.alg.Alg.TheVariants.{Cgl, Tml, OrecLazy, OrecEager, RingSw, Serial}
use Rattle.stm_model.specs.declared.config.Config.{Config}
use Rattle.stm_model.specs.Memories.{is_empty}
use Rattle.rule_base.specs.declared.layout.At.TheVariants.{Gate, Status, Record}
use Rattle.rule_base.specs.declared.views.Act.TheVariants.{Load, Exchange}
use Rattle.rule_base.specs.declared.views.GateView.{GateView}
use Rattle.rule_base.specs.declared.views.Phase.TheVariants.{Idle, In, Closing}
use Rattle.rule_base.specs.declared.views.TracedStep.{TracedStep}
use Rattle.rule_base.specs.declared.views.View.{View}
use Rattle.rule_base.specs.Bridge.{items}
use Rattle.rule_base.specs.Encodings.{holder_of, gate_word}
use Rattle.rule_base.specs.GateSteps.{look_gate, seize, seized}
use Rattle.rule_base.specs.Own.{Own}
use Rattle.rule_base.specs.StepKinds.{Tells, view_after}
use Rattle.stm_rule.specs.declared.local.Local.{Local}
use Rattle.stm_rule.specs.Attempts.{Keeps, IsInside, IsTml, StandsBy, Stands}
use Rattle.stm_rule.specs.RecordsKept.{IsOptimistic}
use Rattle.stm_rule.specs.Callers.{idle_own}
use Rattle.stm_rule.proofs.StandLemmas.{inside-of}
use Rattle.stm_rule.specs.Findings.{FindsGate, FindsTaken}
use Rattle.stm_answers.specs.declared.answers.Look.TheVariants as looks
use Rattle.stm_answers.specs.Answers.{Waits, IsOpaque, OfUnseen}
use Rattle.stm_answers.specs.Evidence.{Untouched}
use Rattle.stm_answers.specs.CallerState.{known_of, granted_under, locked_under, written_under, kept_under, is_irrevocable, is_in, is_closing}
use Rattle.stm_answers.specs.CallerStateLaws.{grows-same}
use Rattle.stm_gate.specs.InnerLaws.{granted-same}
use Rattle.stm_gate.proofs.KeptLaws.{kept-same}
use Rattle.stm_gate.specs.LeavingLaws.{found-earlier}
use Rattle.stm_gate.specs.Logging.{wrote-some}
use Rattle.stm_gate.specs.Looking.{looked, LooksOn, LooksUntil}
use Rattle.stm_gate.specs.Promoting.{TakesGate, ClosesFor, Promotes}
use Rattle.stm_gate.specs.declared.promote.Promotion.TheVariants as promotes
use Rattle.stm_gate.proofs.Standing.{tml-of}

pub takes-refl : (v : View) → v.gate.holds ≡ true → TakesGate v v
takes-refl v h = record { gate = v.gate; more = []; is = refl; holds = h; phase = refl; algorithm = refl; fence = refl; granted = refl; spares = λ r. tt }

untouched-looks : (r : ℕ) (seen : List ℕ) (is js : List TracedStep) → OfUnseen seen is → Untouched (Record r) js → Untouched (Record r) (is ++ js)
untouched-looks r seen [] js h u = u
untouched-looks r seen (i ∷ is) js h u = ((λ e. absurd (let f : Record r ≡ Status h.0.0 = sym e ∙ h.0.1 in cc)), untouched-looks r seen is js h.1 u)

pub takes-looked : (u v w : View) → TakesGate u v → LooksOn v w → TakesGate u w
takes-looked u v w a b = record {
  gate = record a.gate { checked = b.checked };
  more = b.more ++ a.more;
  is = b.is ∙ (ap (λ (x : View). looked x b.checked (b.more ++ x.steps.step_trace)) a.is ∙ ap (looked (record u { gate = a.gate }) b.checked) (sym (append_assoc b.more a.more u.steps.step_trace)));
  holds = a.holds;
  phase = a.phase;
  algorithm = a.algorithm;
  fence = a.fence;
  granted = a.granted;
  spares = λ r. untouched-looks r v.gate.checked b.more a.more b.unseen (a.spares r);
}

-- what was written doesn't depend on the gate and the step trace
abbrev gated : View → GateView → List TracedStep → View
gated v g step_trace = record v { gate = g; steps = record v.steps { step_trace = step_trace } }

written-gated : (a : Alg) (b : Bool) (v : View) (g : GateView) (t : List TracedStep) (o : Own) → written_under a b (gated v g t) o ≡ written_under a b v o
written-gated Cgl b v g t o = refl
written-gated Tml b v g t o = refl
written-gated OrecLazy true v g t o = refl
written-gated OrecLazy false v g t o = refl
written-gated OrecEager true v g t o = refl
written-gated OrecEager false v g t o = refl
written-gated RingSw true v g t o = refl
written-gated RingSw false v g t o = refl
written-gated Serial b v g t o = refl

module _ (c : Config) (n : ℕ) where
  two : (k : ℕ) → k < c.callers → n < c.callers → k ≢ n → 1 < c.callers
  two k a b apart = grind arith

  pub looks-taken : (gate : ℕ) (v w : View) → n < c.callers → v.gate.holds ≡ false → holder_of gate ≢ 0 → Tells look_gate (FindsGate c n) v gate w → ClosesFor c n (Some gate) v w
  looks-taken gate v w low free other t = let who = t.1.closer free other in (
    (record { place = Gate; act = Load; found = Some gate } ∷ [], t.2),
    (record { place = Gate; act = Load; found = Some gate } ∷ [], ap (λ (y : View). y.steps.step_trace) t.2, Load, (0, omega arith, refl)),
    who,
    two who.0 who.1 low who.2,
  )

  abbrev pub items_of : (gate found : ℕ) (fence : ℕ) (alg : Alg) → List TracedStep
  items_of gate found fence alg = record { place = Gate; act = Exchange (gate_word fence 0 alg) (gate_word fence (1 + n) alg); found = Some found } ∷ record { place = Gate; act = Load; found = Some gate } ∷ []

  seize_path : (fence : ℕ) (alg : Alg) (gate found : ℕ) (v s w : View) (b : Bool) → (found == gate_word fence 0 alg) ≡ b
      → Tells look_gate (FindsGate c n) v gate s → Tells (seize n fence alg) (FindsTaken c n (gate_word fence 0 alg)) s found w
      → w ≡ gated v (if b then seized v.gate else v.gate) (items_of gate found fence alg ++ v.steps.step_trace)
  seize_path fence alg gate found v s w b e t k =
      k.2
      ∙ (ap (λ (y : View). view_after (seize n fence alg) k.0 y found) t.2
      ∙ ap (λ (d : Bool). gated v (if d then seized v.gate else v.gate) (items_of gate found fence alg ++ v.steps.step_trace)) e)

  pub seizes-taken : (fence : ℕ) (alg : Alg) (gate found : ℕ) (v s w : View) → n < c.callers → found ≢ gate_word fence 0 alg
      → Tells look_gate (FindsGate c n) v gate s → Tells (seize n fence alg) (FindsTaken c n (gate_word fence 0 alg)) s found w
      → ClosesFor c n (Some found) v w
  seizes-taken fence alg gate found v s w low other t k =
      let apart : (found == gate_word fence 0 alg) ≡ false = grind (arith, nat_tests) in
      let path = seize_path fence alg gate found v s w false apart t k in
      let who = k.1 other in (
        (items_of gate found fence alg, path),
        (items_of gate found fence alg, ap (λ (y : View). y.steps.step_trace) path, Exchange (gate_word fence 0 alg) (gate_word fence (1 + n) alg), (0, omega arith, refl)),
        who,
        two who.0 who.1 low who.2,
      )

  pub seizes-won : (fence : ℕ) (alg : Alg) (gate found : ℕ) (v s w : View) → found ≡ gate_word fence 0 alg
      → Tells look_gate (FindsGate c n) v gate s → Tells (seize n fence alg) (FindsTaken c n (gate_word fence 0 alg)) s found w
      → w ≡ gated v (seized v.gate) (items_of gate found fence alg ++ v.steps.step_trace)
  seizes-won fence alg gate found v s w same t k = let here : (found == gate_word fence 0 alg) ≡ true = grind (arith, nat_tests) in seize_path fence alg gate found v s w true here t k

  pub takes-won : (fence : ℕ) (alg : Alg) (gate found : ℕ) (v s w : View) → found ≡ gate_word fence 0 alg
      → Tells look_gate (FindsGate c n) v gate s → Tells (seize n fence alg) (FindsTaken c n (gate_word fence 0 alg)) s found w
      → ClosesFor c n None v w
  takes-won fence alg gate found v s w same t k =
      record {
        gate = seized v.gate;
        more = items_of gate found fence alg;
        is = seizes-won fence alg gate found v s w same t k;
        holds = refl;
        phase = refl;
        algorithm = refl;
        fence = refl;
        granted = refl;
        spares = λ r. ((λ e. absurd cc), ((λ e. refl), tt));
      }

  module _ (good : List ℕ → Type 0) where
    -- the attempt goes on as it was, but for the gate
    pub waits-by : (v w : View) (g : GateView) (more : List TracedStep) (o : Own) → w ≡ gated v g (more ++ v.steps.step_trace)
        → g.phase ≡ v.gate.phase → g.algorithm ≡ v.gate.algorithm → g.fence ≡ v.gate.fence → g.granted ≡ v.gate.granted → v.gate.phase ≡ In
        → o.committing ≡ false
        → closes_gate v.gate.algorithm ≡ true → is_irrevocable (known_of v o) ≡ false → IsOpaque good c n (known_of v o) → Waits good c n (known_of v o) (known_of w o)
    waits-by v w g more o is phase algorithm fence granted inside quiet closes revocable q = subst (λ (y : View). Waits good c n (known_of v o) (known_of y o)) (sym is) (record {
      continues = record {
        running = ap is_in phase ∙ ap is_in inside;
        closing = ap is_closing phase ∙ ap is_closing inside;
        made = refl;
        grows = grows-same (known_of v o) (known_of y o) refl refl more refl refl refl refl refl;
        alg = algorithm;
        fence = fence;
        base = refl;
        rises = (omega arith, omega arith);
        later = omega arith;
        installs = refl;
        depth = refl;
        locked = inl (ap (λ (a : Alg). locked_under a v.lock.taken v.tml.writer) algorithm);
      };
      still = refl;
      uncommitted = quiet;
      start = refl;
      log = λ i. record { reads = items v.attempt.reads; writes = ((λ j. written_under (algorithm j) (granted j) y o) ∙ written-gated v.gate.algorithm v.gate.granted v g (more ++ v.steps.step_trace) o) i };
      kept = (λ j. kept_under (algorithm j) y o) ∙ kept-same v.gate.algorithm v y o o refl refl refl;
      opaque = record { legal = q.legal; reach = q.reach; sees = q.sees; kept = q.kept; explained = q.explained };
      granted = (λ j. granted_under (algorithm j) g v.lock) ∙ granted-same v.gate.algorithm g v.gate v.lock granted;
      revocable = revocable;
      closes = closes;
      marks = refl;
    })
      where
        y : View
        y = gated v g (more ++ v.steps.step_trace)

    pub promotes-taken : (gate : ℕ) (v w : View) (o p : Own) → p ≡ o → v.gate.phase ≡ In → o.committing ≡ false
        → closes_gate v.gate.algorithm ≡ true → is_irrevocable (known_of v o) ≡ false → IsOpaque good c n (known_of v o)
        → ClosesFor c n (Some gate) v w → Promotes c n good (promotes.Taken gate) (known_of v o) (known_of w p)
    promotes-taken gate v w o p own inside quiet closes revocable q a = subst (λ (r : Own). Promotes c n good (promotes.Taken gate) (known_of v o) (known_of w r)) (sym own)
        (waits-by v w v.gate a.0.0 o a.0.1 refl refl refl refl inside quiet closes revocable q, ap (λ (y : View). y.gate.holds) a.0.1, ap (λ (y : View). y.gate.checked) a.0.1, a.1, a.2, a.3)

    pub promotes-alone : (u v w : View) (o p : Own) → p ≡ o → u.gate.phase ≡ In → o.committing ≡ false → closes_gate u.gate.algorithm ≡ true → is_irrevocable (known_of u o) ≡ false → IsOpaque good c n (known_of u o)
        → ClosesFor c n None u v → LooksUntil c n good looks.Quiet v w → Promotes c n good promotes.Alone (known_of u o) (known_of w p)
    promotes-alone u v w o p own inside quiet closes revocable q a b = subst (λ (r : Own). Promotes c n good promotes.Alone (known_of u o) (known_of w r)) (sym own)
        (let t = takes-looked u v w a b.0 in (
          waits-by u w t.gate t.more o t.is t.phase t.algorithm t.fence t.granted inside quiet closes revocable q,
          ap (λ (y : View). y.gate.holds) t.is ∙ t.holds,
          b.1,
          (t.more, ap (λ (y : View). y.steps.step_trace) t.is, t.spares),
        ))

    pub promotes-busy : (k status : ℕ) (u v w : View) (o p : Own) → p ≡ o → u.gate.phase ≡ In → o.committing ≡ false
        → closes_gate u.gate.algorithm ≡ true → is_irrevocable (known_of u o) ≡ false → IsOpaque good c n (known_of u o)
        → ClosesFor c n None u v → LooksUntil c n good (looks.Busy k status) v w → Promotes c n good (promotes.Busy k status) (known_of u o) (known_of w p)
    promotes-busy k status u v w o p own inside quiet closes revocable q a b = subst (λ (r : Own). Promotes c n good (promotes.Busy k status) (known_of u o) (known_of w r)) (sym own)
        (let t = takes-looked u v w a b.0 in (
          waits-by u w t.gate t.more o t.is t.phase t.algorithm t.fence t.granted inside quiet closes revocable q,
          ap (λ (y : View). y.gate.holds) t.is ∙ t.holds,
          record {
            other = b.1.other;
            announced = b.1.announced;
            found = found-earlier _ status (known_of u (idle_own c)) (known_of v (idle_own c)) (known_of w (idle_own c)) b.1.found a.more
                (ap (λ (y : View). y.steps.step_trace) a.is);
            before = b.1.before;
          },
        ))

    or-no : (a b : Bool) → (a || b) ≡ false → (a ≡ false) × (b ≡ false)
    or-no true b e = absurd cc
    or-no false b e = (refl, e)

    -- an attempt of TML that can still be cancelled reads
    pub revocable-tml : (l : Local) (v : View) (o : Own) → IsInside good c n l v → v.gate.algorithm ≡ Tml
        → is_irrevocable (known_of v o) ≡ false → (v.gate.granted ≡ false) × (l.granted ≡ false) × (l.wrote ≡ false) × IsTml c l v
    revocable-tml l v o i tml revocable = (free.0, plain, clean l.wrote refl, reader)
      where
        free : (v.gate.granted ≡ false) × (not (is_empty (items v.attempt.stores)) ≡ false)
        free =
            or-no v.gate.granted (not (is_empty (items v.attempt.stores))) (subst
            (λ (a : Alg). irrevocable_under a (granted_under a v.gate v.lock) (not (is_empty (written_under a v.gate.granted v o))) ≡ false)
            tml revocable)

        plain : l.granted ≡ false
        plain = ap (λ b. b && l.granted) (sym (ap closes_gate (sym i.named ∙ tml))) ∙ (sym i.granted ∙ free.0)

        reader : IsTml c l v
        reader = tml-of good c n l v i tml plain

        clean : (b : Bool) → l.wrote ≡ b → b ≡ false
        clean true e = absurd (let k : false ≡ true = sym free.1 ∙ ap not (wrote-some v.attempt.stores (reader.dirty e)) in cc)
        clean false e = refl

    -- an attempt that closes the gate to be granted, and can still be cancelled, was not granted
    revocable-plain : (a : Alg) (v : View) (o : Own) → closes_gate a ≡ true → irrevocable_under a (granted_under a v.gate v.lock) (not (is_empty (written_under a v.gate.granted v o))) ≡ false → v.gate.granted ≡ false
    revocable-plain Cgl v o e r = absurd cc
    revocable-plain Tml v o e r = (or-no v.gate.granted (not (is_empty (items v.attempt.stores))) r).0
    revocable-plain OrecLazy v o e r = r
    revocable-plain OrecEager v o e r = r
    revocable-plain RingSw v o e r = r
    revocable-plain Serial v o e r = absurd cc

    -- nothing but the gate changes
    optimistic-gated : (v : View) (g : GateView) (step_trace : List TracedStep) → g.granted ≡ v.gate.granted → g.quiescent ≡ false → IsOptimistic v → IsOptimistic (gated v g step_trace)
    optimistic-gated v g step_trace granted quiescent k =
        record {
          unlocked = k.unlocked;
          unfixed = k.unfixed;
          unwritten = k.unwritten;
          uncommitted = k.uncommitted;
          ungranted = granted ∙ k.ungranted;
          not_quiescent = quiescent;
          unstored = k.unstored;
          rises = k.rises;
        }

    keeps-seized : (l : Local) (v : View) (step_trace : List TracedStep) (a : Alg) → closes_gate a ≡ true → Keeps c a false l v → Keeps c a false (record l { holds = true; next = 0 }) (gated v (seized v.gate) step_trace)
    keeps-seized l v step_trace Cgl e k = absurd cc
    keeps-seized l v step_trace Tml e k =
        record {
          inside = k.inside;
          settled = k.settled;
          unlocked = k.unlocked;
          uncommitted = k.uncommitted;
          unfixed = k.unfixed;
          ungranted = k.ungranted;
          even = k.even;
          writer = k.writer;
          clean = k.clean;
          dirty = k.dirty;
          not_quiescent = refl;
          rises = k.rises;
          limit = k.limit;
          unbuffered = k.unbuffered;
          marked = k.marked;
          sole = k.sole;
        }
    keeps-seized l v step_trace OrecLazy e k = record {
      optimistic = optimistic-gated v (seized v.gate) step_trace refl refl k.optimistic;
      buffers = record { wrote = k.buffers.wrote; once = k.buffers.once; inside = k.buffers.inside; small = k.buffers.small; apart = k.buffers.apart };
      inside = k.inside;
      lazy = k.lazy;
      open_yet = k.open_yet;
      unraised = k.unraised;
      unplaced = k.unplaced;
      undone = k.undone;
      repaid = k.repaid;
      unsampled = k.unsampled;
      unchecked = k.unchecked;
      reads = k.reads;
      locks = k.locks;
      places = k.places;
      few = k.few;
      versions = k.versions;
      open_handed = k.open_handed;
      locked = k.locked;
      committing = k.committing;
      marked = k.marked;
      olds = k.olds;
      sole = k.sole;
    }
    keeps-seized l v step_trace OrecEager e k = record {
      optimistic = optimistic-gated v (seized v.gate) step_trace refl refl k.optimistic;
      inside = k.inside;
      eager = k.eager;
      open_yet = k.open_yet;
      unraised = k.unraised;
      repaid = k.repaid;
      reads = k.reads;
      locks = k.locks;
      writes = k.writes;
      undo = k.undo;
      wrote = k.wrote;
      undoable = k.undoable;
      shorter = k.shorter;
      most = k.most;
      words = k.words;
      small = k.small;
      old_words = k.old_words;
      covered = k.covered;
      few = k.few;
      places = k.places;
      olds = k.olds;
      below = k.below;
      committing = k.committing;
      marked = k.marked;
      sole = k.sole;
    }
    keeps-seized l v step_trace RingSw e k = record {
      optimistic = optimistic-gated v (seized v.gate) step_trace refl refl k.optimistic;
      buffers = record { wrote = k.buffers.wrote; once = k.buffers.once; inside = k.buffers.inside; small = k.buffers.small; apart = k.buffers.apart };
      inside = k.inside;
      settled = k.settled;
      loaded = k.loaded;
      stored = k.stored;
      read = k.read;
      marked = k.marked;
      sole = k.sole;
    }
    keeps-seized l v step_trace Serial e k = absurd cc

    running-by : (l : Local) (v : View) (running holds : Bool) → v.gate.phase ≡ In → StandsBy good c n l running holds v → running ≡ true
    running-by l v true holds e s = refl
    running-by l v false true e s = absurd (let k : Closing ≡ In = sym s.phase ∙ e in cc)
    running-by l v false false e s = absurd (let k : Idle ≡ In = sym s.phase ∙ e in cc)

    -- the attempt that closed the gate stands
    pub seized-stands : (l : Local) (v w : View) (o : Own) (step_trace : List TracedStep) → w ≡ gated v (seized v.gate) step_trace
        → v.gate.phase ≡ In → closes_gate v.gate.algorithm ≡ true → is_irrevocable (known_of v o) ≡ false → Stands good c n l v
        → Stands good c n (record l { holds = true; next = 0 }) w
    seized-stands l v w o step_trace is inside closes revocable s =
        subst (λ (y : View). Stands good c n m y) (sym is) (record {
          holds = refl;
          lengths = s.lengths;
          by = subst (λ r. StandsBy good c n m r true y) (sym (running-by l v l.running l.holds inside s.by)) stays;
        })
      where
        m : Local
        m = record l { holds = true; next = 0 }

        y : View
        y = gated v (seized v.gate) step_trace

        i : IsInside good c n l v
        i = inside-of good c n l v inside s

        plain : l.granted ≡ false
        plain = ap (λ b. b && l.granted) (sym (ap closes_gate (sym i.named) ∙ closes)) ∙ (sym i.granted ∙ revocable-plain v.gate.algorithm v o closes revocable)

        keeps : Keeps c l.algorithm l.granted m y
        keeps = subst (λ b. Keeps c l.algorithm b m y) (sym plain) (keeps-seized l v step_trace l.algorithm (ap closes_gate (sym i.named) ∙ closes) (subst (λ b. Keeps c l.algorithm b l v) plain i.keeps))

        stays : IsInside good c n m y
        stays = record {
          phase = i.phase;
          named = i.named;
          spared = record { is = i.spared.is; fits = i.spared.fits };
          disowned = i.disowned;
          unentered = i.unentered;
          start = i.start;
          front = i.front;
          legal = i.legal;
          below = i.below;
          sees = i.sees;
          reads_inside = i.reads_inside;
          looked = λ e. record { low = omega arith; seen = λ k l d. absurd (omega arith); unseen = λ k e. absurd cc };
          granted = i.granted;
          steady = i.steady;
          keeps = keeps;
        }
