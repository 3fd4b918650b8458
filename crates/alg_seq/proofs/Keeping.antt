-- Serial: what the parts of a write and the end of an attempt that is taken back come to.
use Rattle.std.proofs.Common.{ℕ, ◌≡◌, ◌<◌, ◌≤◌, List, [], ◌∷◌, ◌++◌, length, Bool, true, false, refl, sym, ap, ◌∙◌, arith, subst, append_assoc}
use Rattle.std.specs.Prelude.{Option, Some, None, not, ◌&&◌, ◌==◌, if◌then◌else◌}
use Rattle.std.proofs.lemmas.Bool.Decides.{nat_tests}
use Rattle.stm_model.specs.Algorithms.{takes_lock, logs_writes, irrevocable_under}
use Rattle.stm_model.specs.declared.alg.Alg.{Alg}
use Rattle.stm_model.specs.declared.alg.Alg.TheVariants.{Serial}
use Rattle.stm_model.specs.declared.config.Config.{Config}
use Rattle.stm_model.specs.declared.config.TheConstants.{CLOCK_LIMIT}
use Rattle.stm_model.specs.Memories.{item_at, put}
use Rattle.stm_logs.specs.LogStates.{LogState}
use Rattle.rule_base.specs.declared.entries.Cell.{Cell}
use Rattle.rule_base.specs.declared.views.LockView.{LockView}
use Rattle.rule_base.specs.declared.views.TracedStep.{TracedStep}
use Rattle.rule_base.specs.declared.views.View.{View}
use Rattle.rule_base.specs.Bridge.{addresses, items}
use Rattle.rule_base.specs.Encodings.{fenced}
use Rattle.rule_base.specs.History.{member, touches, Inside}
use Rattle.rule_base.specs.Own.{Own}
use Rattle.rule_base.specs.StepKinds.{view_after}
use Rattle.rule_base.specs.World.{World}
use Rattle.rule_seq.specs.CglSteps.{store_heap, HasLock}
use Rattle.stm_rule.specs.declared.local.Local.{Local}
use Rattle.stm_rule.specs.Attempts.{IsInside, own_of}
use Rattle.stm_rule.specs.RecordsKept.{Apart}
use Rattle.stm_answers.specs.Answers.{Quits, EndsAt}
use Rattle.rule_base.specs.declared.layout.At.TheVariants.{Clock}
use Rattle.stm_answers.specs.Causes.{has_item, is_some, writes_full, FindsFull}
use Rattle.stm_answers.specs.Evidence.{Found}
use Rattle.stm_answers.specs.CallerState.{known_of, granted_under, kept_under, written_under, is_irrevocable, wrote}
use Rattle.stm_gate.specs.InnerLaws.{never-full}
use Rattle.stm_gate.proofs.KeptLaws.{member-item, length-addresses, kept-same, kept-irrevocable, kept-plain, cells-longer}
use Rattle.stm_gate.specs.LeavingLaws.{IsUnmade, quits-left, ended-left, step_trace-left, found-later, finds-full}
use Rattle.stm_gate.specs.Opacity.{opaque-inside}
use Rattle.alg_seq.specs.Storing.{GivesUp, IsClocked, HasLogged, HasPlace, MayStore}
use Rattle.alg_seq.proofs.Undoing.{covers-more}
use Rattle.alg_seq.proofs.Locked.{locked, keeps-by, IsLogged, logged-refl, tells-store, still-opaque}

-- the view with this lock and these steps
abbrev pub aside : View → LockView → List TracedStep → View
aside v k more = record v { lock = k; steps = record v.steps { step_trace = more ++ v.steps.step_trace } }

none-of : (o : Option ℕ) → is_some o ≡ false → o ≡ None
none-of None e = refl
none-of (Some x) e = absurd cc

apart : (k m : ℕ) → k < m → (k == m) ≡ false
apart k m l = grind (arith, nat_tests)

same_number : (k m : ℕ) → k ≡ m → (k == m) ≡ true
same_number k m e = grind (arith, nat_tests)

-- longer logs of an attempt of Serial leave alone what is known of it, but for what the view has of them
pub known-kept : (l m : Local) (w : View) → w.gate.algorithm ≡ Serial → m ≡ record l { undo = m.undo; writes = m.writes }
    → m.undo.len ≡ l.undo.len → m.writes.marks ≡ l.writes.marks → m.writes.marks_limit ≡ l.writes.marks_limit → known_of w (own_of m) ≡ known_of w (own_of l)
known-kept l m w serial is len marks limit =
    ap (λ (q : Local). known_of w (own_of q)) is
    ∙ (λ d. record (known_of w (own_of l)) { log = record { reads = items w.attempt.reads; writes = written d }; kept = kept d; marks = marks d; writes_limit = len d; marks_limit = limit d })
  where
    written : written_under w.gate.algorithm w.gate.granted w (own_of (record l { undo = m.undo; writes = m.writes })) ≡ written_under w.gate.algorithm w.gate.granted w (own_of l)
    written = (λ d. written_under (serial d) w.gate.granted w (own_of (record l { undo = m.undo; writes = m.writes }))) ∙ (λ d. written_under (sym serial d) w.gate.granted w (own_of l))

    kept : kept_under w.gate.algorithm w (own_of (record l { undo = m.undo; writes = m.writes })) ≡ kept_under w.gate.algorithm w (own_of l)
    kept = (λ d. kept_under (serial d) w (own_of (record l { undo = m.undo; writes = m.writes }))) ∙ (λ d. kept_under (sym serial d) w (own_of l))

-- there is room for an item of a, or there is none
roomy : (a : ℕ) (u : LogState) (limit : ℕ) → limit ≡ u.len → HasPlace true a u → (not (member (addresses u.items) a) && (length (addresses u.items) == limit)) ≡ false
roomy a u limit is place = by (has_item a u.items) refl
  where
    by : (b : Bool) → has_item a u.items ≡ b → (not (member (addresses u.items) a) && (length (addresses u.items) == limit)) ≡ false
    by true h = ap (λ b. not b && (length (addresses u.items) == limit)) (member-item a u.items ∙ h)
    by false h = let low = place (none-of (item_at a u.items) h) in let size = length-addresses u.items in
        ap (λ b. not b && (length (addresses u.items) == limit)) (member-item a u.items ∙ h) ∙ apart (length (addresses u.items)) limit (omega arith)

filled : (a : ℕ) (u : LogState) (limit : ℕ) → limit ≡ u.len → HasPlace false a u → (not (member (addresses u.items) a) && (length (addresses u.items) == limit)) ≡ true
filled a u limit is full = let size = length-addresses u.items in let long = full.1 in
    ap (λ b. not b && (length (addresses u.items) == limit)) (member-item a u.items ∙ ap is_some full.0) ∙ same_number (length (addresses u.items)) limit (omega arith)

module _ (good : List ℕ → Type 0) (c : Config) (n : ℕ) (l : Local) (v : View) (i : IsInside good c n l v) (serial : l.algorithm ≡ Serial) where
  pub named : v.gate.algorithm ≡ Serial
  named = i.named ∙ serial

  pub locks : takes_lock v.gate.algorithm ≡ true
  locks = ap takes_lock named

  -- it is irrevocable where it was granted
  pub irrevocable-by : v.lock.irrevocable ≡ l.granted
  irrevocable-by = (locked good c n l v locks i).irrevocable ∙ ap (λ a. irrevocable_under a l.granted l.wrote) serial

  pub revocable-by : (o : Own) → is_irrevocable (known_of v o) ≡ v.lock.irrevocable
  revocable-by o = ap (λ a. irrevocable_under a (granted_under a v.gate v.lock) (wrote (known_of v o))) named

  -- a word out of the fence's range beside others
  apart-more : (a x : ℕ) (cs : List Cell) → fenced l.fence a ≡ false → Apart l.fence cs → Apart l.fence (record { at = a; value = x } ∷ cs)
  apart-more a x cs out h b t = by (a == b) refl t
    where
      by : (q : Bool) → (a == b) ≡ q → (if q then true else touches cs b) ≡ true → fenced l.fence b ≡ false
      by true e f = subst (λ k. fenced l.fence k ≡ false) (let is : a ≡ b = grind (arith, nat_tests) in is) out
      by false e f = h b f

  stored : (log buffer : LogState) (k : LockView) (more : List TracedStep) (a x : ℕ) (m : World) → k.taken ≡ true → k.started ≡ true → k.irrevocable ≡ l.granted → l.start < CLOCK_LIMIT
      → (k.irrevocable ≡ false → (log.items ≡ items k.undo) × (length log.items ≤ log.len))
      → (k.irrevocable ≡ false → (b : ℕ) → touches (record { at = a; value = x } ∷ v.attempt.stores) b ≡ true → touches k.undo b ≡ true)
      → Inside c.words k.undo
      → (k.irrevocable ≡ false → (buffer.items ≡ put a x (items v.attempt.stores)) × (length buffer.marks ≡ l.depth)) → fenced l.fence a ≡ false
      → IsInside good c n (record l { undo = log; writes = buffer; wrote = true }) (view_after (store_heap a x) m (aside v k more) x)
  stored log buffer k more a x m taken started irrevocable low undone undoable within buffered out = let j = locked good c n l v locks i in record {
    phase = i.phase;
    named = i.named;
    spared = record { is = i.spared.is; fits = i.spared.fits };
    steady = i.steady;
    disowned = i.disowned;
    unentered = i.unentered;
    start = i.start;
    front = i.front;
    legal = i.legal;
    below = i.below;
    sees = i.sees;
    reads_inside = i.reads_inside;
    looked = λ e. absurd (let no : false ≡ true = sym j.reopened ∙ e in cc);
    granted = i.granted;
    keeps = keeps-by c l.algorithm l.granted (record l { undo = log; writes = buffer; wrote = true }) (view_after (store_heap a x) m (aside v k more) x) (ap takes_lock serial) (record {
      taken = taken;
      started = started;
      unwritten = j.unwritten;
      uncommitted = j.uncommitted;
      reopened = j.reopened;
      clean = λ e. absurd cc;
      dirty = λ e p. absurd cc;
      irrevocable = irrevocable ∙ sym (ap (λ b. irrevocable_under b l.granted true) serial);
      undone = λ e. (undone e).0;
      undoable = undoable;
      shorter = λ e. (let less = cells-longer (record { at = a; value = x } ∷ v.attempt.stores) k.undo (undoable e) in let w = ap length (buffered e).0 in let u = ap length (undone e).0 in omega arith);
      most = λ e. (undone e).1;
      within = within;
      writes = λ e. (buffered e).0;
      marked = λ e. (buffered e).1;
      apart = λ e. apart-more a x v.attempt.stores out (j.apart (irrevocable-by ∙ (sym irrevocable ∙ e)));
      rises = j.rises;
      limit = λ e. low;
    });
  }

  -- what is kept is what the undo log has
  kept-here : (o : Own) → v.lock.irrevocable ≡ false → (known_of v o).kept ≡ addresses l.undo.items
  kept-here o rev = ap (λ (alg : Alg). kept_under alg v o) named ∙ ap addresses (sym ((locked good c n l v locks i).undone rev))

  full-as : (a : ℕ) (o : Own) (b : Bool) → v.lock.irrevocable ≡ false → (not (member (addresses l.undo.items) a) && (length (addresses l.undo.items) == o.writes_limit)) ≡ b → writes_full a (known_of v o) ≡ b
  full-as a o b rev is = (λ j. logs_writes (named j) && (not ((revocable-by o ∙ rev) j) && (not (member (kept-here o rev j) a) && (length (kept-here o rev j) == o.writes_limit)))) ∙ is

  -- it has a place for the address, or none
  pub room-by : (a : ℕ) (o : Own) → l.granted ≡ false → o.writes_limit ≡ l.undo.len → HasPlace true a l.undo → writes_full a (known_of v o) ≡ false
  room-by a o plain limit place = full-as a o false (irrevocable-by ∙ plain) (roomy a l.undo o.writes_limit limit place)

  pub full-by : (a : ℕ) (o : Own) → l.granted ≡ false → o.writes_limit ≡ l.undo.len → HasPlace false a l.undo → writes_full a (known_of v o) ≡ true
  full-by a o plain limit full = full-as a o true (irrevocable-by ∙ plain) (filled a l.undo o.writes_limit limit full)

  -- once irrevocable a store needs nothing
  pub may-store-irrevocable : (a x : ℕ) → a < c.words → fenced l.fence a ≡ false → l.granted ≡ true → l.start < CLOCK_LIMIT → MayStore good c n a x l v v
  may-store-irrevocable a x within out granted low = let irrevocable = irrevocable-by ∙ granted in let j = locked good c n l v locks i in record {
    gate = refl;
    can =
        λ small.
        record {
          has = record { phase = i.phase; algorithm = locks; taken = j.taken };
          started = j.started;
          inside = within;
          small = small;
          undoable = λ e. absurd (let no : true ≡ false = sym irrevocable ∙ e in cc);
        };
    inside =
        λ m.
        stored l.undo l.writes v.lock [] a x m j.taken j.started irrevocable-by low
        (λ e. absurd (let no : true ≡ false = sym irrevocable ∙ e in cc)) (λ e. absurd (let no : true ≡ false = sym irrevocable ∙ e in cc))
        j.within (λ e. absurd (let no : true ≡ false = sym irrevocable ∙ e in cc)) out;
    written =
        λ o own m.
        tells-store good c n a x v v o m i.phase locks own.0 (never-full a (known_of v o) (revocable-by o ∙ irrevocable)).1
        (kept-same v.gate.algorithm v (view_after (store_heap a x) m v x) o o refl refl refl
        ∙ sym (kept-irrevocable a (known_of v o) (revocable-by o ∙ irrevocable))) (logged-refl v) refl (still-opaque good c n l v o i);
  }

  -- a store whose old value was kept
  pub may-store-logged : (a x : ℕ) (u w : View) (m : Local) → a < c.words → fenced l.fence a ≡ false → HasPlace true a l.undo
      → l.granted ≡ false → l.start < CLOCK_LIMIT → IsClocked v u → HasLogged c.words a x l u m w → MayStore good c n a x m v w
  may-store-logged a x u w m within out place revocable low k h = let j = locked good c n l v locks i in let rev : v.lock.irrevocable ≡ false = irrevocable-by ∙ revocable in record {
    gate = ap (λ (y : View). y.gate) path;
    can = λ small. record {
      has = subst (λ (y : View). HasLock y) (sym path) (record { phase = i.phase; algorithm = locks; taken = ap (λ (y : View). y.lock.taken) flat ∙ (ap (λ (y : View). y.lock.taken) k.is ∙ j.taken) });
      started = ap (λ (y : View). y.lock.started) flat ∙ (ap (λ (y : View). y.lock.started) k.is ∙ j.started);
      inside = within;
      small = small;
      undoable = λ e. h.logged;
    };
    inside = λ p. subst (λ (y : View). IsInside good c n (record m { wrote = true }) (view_after (store_heap a x) p y x)) (sym path)
        (subst (λ (q : Local). IsInside good c n (record q { wrote = true }) (view_after (store_heap a x) p (aside v w.lock more) x)) (sym h.local)
        (stored m.undo m.writes w.lock more a x p (ap (λ (y : View). y.lock.taken) flat ∙ (ap (λ (y : View). y.lock.taken) k.is ∙ j.taken))
        (ap (λ (y : View). y.lock.started) flat ∙ (ap (λ (y : View). y.lock.started) k.is ∙ j.started))
        (ap (λ (y : View). y.lock.irrevocable) flat ∙ (ap (λ (y : View). y.lock.irrevocable) k.is ∙ irrevocable-by)) low
        (λ e. (h.undone, h.most)) (λ e.
        covers-more a x v.attempt.stores w.lock.undo
        (λ b t. h.covers b (ap (λ (y : View). touches y.lock.undo b) k.is ∙ j.undoable rev b t)) h.logged) h.within
        (λ e. (h.writes ∙ ap (λ (y : View). put a x (items y.attempt.stores)) k.is, ap length h.marks ∙ j.marked rev)) out));
    written = λ o own p. tells-store good c n a x v w o p i.phase locks own.0
        (room-by a o revocable (own.1 ∙ h.undo_len) place)
        (ap (λ (alg : Alg). kept_under alg (view_after (store_heap a x) p w x) o) (ap (λ (y : View). y.gate.algorithm) path ∙ named)
        ∙ (h.kept
        ∙ (ap (λ (y : View).
        if member (addresses (items y.lock.undo)) a then addresses (items y.lock.undo) else addresses (items y.lock.undo) ++ a ∷ []) k.is
        ∙ sym (kept-plain a (known_of v o) (ap logs_writes named) (revocable-by o ∙ rev)
        ∙ ap (λ (alg : Alg). if member (kept_under alg v o) a then kept_under alg v o else kept_under alg v o ++ a ∷ []) named))))
        (subst (λ (y : View). IsLogged v y) (sym path)
        (record {
          history = refl;
          gate = refl;
          irrevocable = ap (λ (y : View). y.lock.irrevocable) flat ∙ ap (λ (y : View). y.lock.irrevocable) k.is;
          taken = ap (λ (y : View). y.lock.taken) flat ∙ ap (λ (y : View). y.lock.taken) k.is;
          writer = refl;
          fence = refl;
          start = refl;
          rises = refl;
          base = refl;
          installs = refl;
          step_trace = (more, refl);
        }))
        (ap (λ (y : View). y.attempt) path) (still-opaque good c n l v o i);
  }
    where
      more : List TracedStep
      more = h.more ++ k.more

      flat : w ≡ record u { lock = record u.lock { undo = w.lock.undo }; steps = record u.steps { step_trace = h.more ++ u.steps.step_trace } }
      flat = h.is

      same : record u.lock { undo = w.lock.undo } ≡ w.lock
      same = ap (λ (y : View). y.lock) (sym h.is)

      path : w ≡ aside v w.lock more
      path =
          h.is
          ∙ (λ d. record (k.is d) { lock = same d; steps = record (k.is d).steps { step_trace = h.more ++ (k.is d).steps.step_trace } })
          ∙ (λ d. record v { lock = w.lock; steps = record v.steps { step_trace = sym (append_assoc h.more k.more v.steps.step_trace) d } })

  pub unmade-clocked : (u t : View) → IsClocked v u → IsUnmade u t → IsUnmade v t
  unmade-clocked u t k m = record {
    carried = record {
      named = m.carried.named ∙ ap (λ (y : View). y.gate.algorithm) k.is;
      base = m.carried.base ∙ ap (λ (y : View). y.steps.rises_at_begin) k.is;
      installs = m.carried.installs ∙ ap (λ (y : View). y.steps.installs) k.is;
      fence = m.carried.fence ∙ ap (λ (y : View). y.fence) k.is;
      step_trace = (
        m.carried.step_trace.0 ++ k.more,
        m.carried.step_trace.1
            ∙ (ap (λ (y : View). m.carried.step_trace.0 ++ y.steps.step_trace) k.is
            ∙ sym (append_assoc m.carried.step_trace.0 k.more v.steps.step_trace)),
      );
      unlocked = m.carried.unlocked;
      unwritten = m.carried.unwritten;
    };
    history = m.history ∙ ap (λ (y : View). y.history) k.is;
  }

  -- THE REFUSAL: what was stored is taken back
  pub quits-back : (u w : View) (o : Own) → l.granted ≡ false → IsClocked v u → GivesUp n u w → Quits (known_of v o) (known_of w o)
  quits-back u w o revocable k g = let j = locked good c n l v locks i in
      subst (λ (y : View). Quits (known_of v o) (known_of y o)) (sym g.is)
      (quits-left n v g.before o (unmade-clocked u g.before k g.unmade)
      (let e = g.rises in
      let f : u.steps.rises ≡ v.steps.rises = ap (λ (y : View). y.steps.rises) k.is in let b = j.rises in (omega arith, omega arith))
      (revocable-by o ∙ (irrevocable-by ∙ revocable)))

  -- THE END AT THE START
  pub ended-back : (w : View) (o : Own) → GivesUp n v w → EndsAt good c n l.start (known_of v o) (known_of w o)
  ended-back w o g = subst (λ (y : View). EndsAt good c n l.start (known_of v o) (known_of y o)) (sym g.is) (ended-left n good c l.start v g.before o g.unmade (sym i.start) (opaque-inside good c n l v o i))

  -- the clock that was found at its limit, as it is told after the end
  pub full-after : (clock : ℕ) (u w : View) (o : Own) → CLOCK_LIMIT ≤ clock → Found Clock clock (known_of v o) (known_of u o) → GivesUp n u w → FindsFull clock (known_of v o) (known_of w o)
  full-after clock u w o high found g = let t = step_trace-left n u g.before g.unmade.carried in
      finds-full clock v w o o high (found-later Clock clock (known_of v o) (known_of u o) (known_of w o) found t.0 (ap (λ (y : View). y.steps.step_trace) g.is ∙ t.1))
