-- What the exchange of the clock in a commit of OrecLazy comes to, and the end after it.
use Rattle.std.proofs.Common.{ℕ, ◌≡◌, ◌≢◌, ◌<◌, ◌≤◌, ◌+◌, List, [], ◌∷◌, ◌++◌, length, Bool, true, false, refl, sym, ap, ◌∙◌, arith, subst, append_assoc, ⊎_elim, inl, inr}
use Rattle.std.specs.Prelude.{◌==◌, if◌then◌else◌, not, reverse}
use Rattle.std.proofs.lemmas.Bool.Decides.{nat_tests}
use Rattle.stm_model.specs.Algorithms.{has_records, asks_at_commit, entry_rise}
use Rattle.stm_model.specs.declared.alg.Alg.TheVariants.{OrecLazy}
use Rattle.stm_model.specs.declared.config.Config.{Config}
use Rattle.stm_model.specs.declared.config.TheConstants.{CLOCK_LIMIT}
use Rattle.stm_model.specs.declared.stop.Cause.TheVariants as causes
use Rattle.stm_model.specs.Histories as public
use Rattle.stm_model.specs.Logs.{Log}
use Rattle.stm_model.specs.Logs as logs
use Rattle.stm_model.specs.Memories.{is_empty}
use Rattle.rule_base.specs.Encodings.{fenced}
use Rattle.stm_rule.specs.Kinds.Lifting.{AreSpared}
use Rattle.rule_base.specs.declared.entries.Cell.{Cell}
use Rattle.rule_base.specs.declared.entries.Entry.{Entry}
use Rattle.rule_base.specs.declared.layout.At.TheVariants.{Clock}
use Rattle.rule_base.specs.declared.views.Act.TheVariants.{Load}
use Rattle.rule_base.specs.declared.views.GateView.{GateView}
use Rattle.rule_base.specs.declared.views.Phase.TheVariants.{Idle}
use Rattle.rule_base.specs.declared.views.SeenHistory.{SeenHistory}
use Rattle.rule_base.specs.declared.views.View.{View}
use Rattle.rule_base.specs.Bridge.{items, of_words, public_entry, public_history}
use Rattle.rule_base.specs.Lemmas.BridgeLemmas.{keeps-cells, legal-public, length-public_history}
use Rattle.rule_base.specs.History.{over, touches}
use Rattle.rule_base.specs.Lemmas.HistoryLemmas.{over-hit, over-miss}
use Rattle.rule_base.specs.Own.{Own}
use Rattle.rule_base.specs.Ranks.{home_of}
use Rattle.rule_base.specs.StepKinds.{Tells}
use Rattle.rule_base.specs.World.{World}
use Rattle.rule_orec.specs.OrecOwning.{entered_at}
use Rattle.rule_orec.specs.OrecSteps.{HasOrec, orec_limit, orec_entry, orec_commit, CanOrecCommit}
use Rattle.stm_rule.specs.declared.local.Local.{Local}
use Rattle.stm_rule.specs.Attempts.{IsInside, IsOutside, HasRoom, Stands, StandsBy, ended}
use Rattle.stm_rule.specs.RecordsKept.{cells_of, IsLazy}
use Rattle.alg_orec.proofs.OthersLaws.{clock-others}
use Rattle.alg_orec.specs.RecordFindings.{FindsClock, FindsCommit, Enters}
use Rattle.stm_answers.specs.Answers.{Quits, Commits, CommitsAt, KeepsRule, entry}
use Rattle.stm_answers.specs.declared.answers.Commit.TheVariants as commits
use Rattle.stm_answers.specs.Causes.Asked.{ToCommit}
use Rattle.stm_answers.specs.CallerState.{Grows, known_of, fenced_of, granted_under, kept_under, written_under, is_in, is_closing, wrote, zeros, locked_under}
use Rattle.stm_gate.specs.LeavingLaws.{IsUnmade, found-later, finds-full}
use Rattle.stm_gate.specs.Opacity.{opaque-inside}
use Rattle.alg_orec.specs.Committing.{CanCommit, CanFinish, readied, IsReady, IsStopped}
use Rattle.alg_orec.specs.Ending.{CanAbortLazy, GivesUp}
use Rattle.alg_orec.specs.Validating.{load_of}
use Rattle.alg_orec.proofs.AgainLaws as again
use Rattle.alg_orec.proofs.AgainLaws.{tried}
use Rattle.stm_gate.proofs.Cells.{items-cells, cells-some}
use Rattle.stm_gate.proofs.KeptLaws.{kept-same}
use Rattle.alg_orec.proofs.Lazy.LazyCommitLaws as laws
use Rattle.alg_orec.proofs.Proving.{Leads, conflicts-later, lazy-of, with_commit, quits-back, ended-by, quits-leads, full-leads, commits-leads}
use Rattle.stm_gate.specs.InnerLaws.{unlocked-of}

over-twice : (cs : List Cell) (a d : ℕ) → over cs a (over cs a d) ≡ over cs a d
over-twice cs a d = by (touches cs a) refl
  where
    by : (b : Bool) → touches cs a ≡ b → over cs a (over cs a d) ≡ over cs a d
    by true t = over-hit cs a (over cs a d) d t
    by false t = over-miss cs a (over cs a d) t

not-yes : (b : Bool) → not b ≡ true → b ≡ false
not-yes true e = absurd cc
not-yes false e = refl

-- an attempt that ended leaves a descriptor that stands
pub ended-stands : (good : List ℕ → Type 0) (c : Config) (n : ℕ) (q : Local) (z : View) → HasRoom q → IsOutside z → Stands good c n (ended q) z
ended-stands good c n q z lengths out = record { holds = sym out.reopened; lengths = lengths; by = out }

pub stopped-lengths : (l m : Local) → m ≡ record l { locks = m.locks } → m.locks.len ≡ l.locks.len → HasRoom l → HasRoom m
stopped-lengths l m is len same = let e = ap (λ (q : Local). q.undo.len) is in (
  ap (λ (q : Local). q.writes.len) is ∙ (same.0 ∙ sym e),
  (let h = same.1 in omega arith),
)

module _ (good : List ℕ → Type 0) (c : Config) (n : ℕ) (low : n < c.callers) where
  abbrev rule : (ℕ → ℕ) → Type 0
  rule = of_words good c.words

  -- what stands of the attempt, at the call
  module _ (l : Local) (v : View) (can : CanCommit good c n l v) (o : Own) (e : o.buffered ≡ cells_of l.writes.items) where
    i : IsInside good c n l v
    i = can.inside

    k : IsLazy c l v
    k = lazy-of good c n l v can.inside can.lazy can.plain

    lazy : v.gate.algorithm ≡ OrecLazy
    lazy = can.inside.named ∙ can.lazy

    -- an attempt that was taken back
    quits-here : (u z : View) → IsUnmade v u → u.steps.rises ≡ v.steps.rises → GivesUp n u z → Quits (known_of v o) (known_of z (with_commit false o))
    quits-here u z m rises g = quits-back n v u z o lazy k.optimistic.ungranted k.optimistic.rises m rises g

    pub tells-stopped : o.committing ≡ l.committing → (cause : causes.the_data) (m : Local) (u z : View) → IsStopped good c n cause l v m u
        → GivesUp n u z → Commits good c n (commits.Conflict cause) (known_of v o) (known_of z (with_commit false o))
    tells-stopped mid cause m u z s g = let t = ended-by n u z g in (
      quits-here u z s.unmade s.rises g,
      conflicts-later c n ToCommit cause (known_of v o) (known_of u o) (known_of z (with_commit false o)) lazy t.0 t.1 (s.conflicts o e mid),
      s.others,
      laws.wrote_is good c n low l v can o e,
    )

    -- THE LIMIT: a start there is a clock there
    pub has-orec : HasOrec v
    has-orec = record { runs = record { phase = i.phase; algorithm = ap has_records lazy; plain = k.optimistic.ungranted }; inside = k.inside }

    pub may-roll : (b : Bool) (clock : ℕ) (u : View) → Tells orec_limit (FindsClock c) v clock u → CanAbortLazy c (record l { committing = b }) u
    may-roll b clock u t = laws.can-roll good c n low l v can (record l { committing = b }) u v.owned.held v.check (load_of Clock clock ∷ []) t.2 k.locks k.places k.versions

    pub tells-full : (clock : ℕ) (u z : View) → CLOCK_LIMIT ≤ l.start → Tells orec_limit (FindsClock c) v clock u → GivesUp n u z
        → Commits good c n (commits.ClockFull clock) (known_of v o) (known_of z (with_commit false o))
    tells-full clock u z high t g = let f = ended-by n u z g in (
      quits-here u z
          (subst (IsUnmade v) (sym t.2)
          (record {
            carried = record {
              named = refl;
              base = refl;
              installs = refl;
              fence = refl;
              step_trace = (load_of Clock clock ∷ [], refl);
              unlocked = k.optimistic.unlocked;
              unwritten = k.optimistic.unwritten;
            };
            history = refl;
          })) (ap (λ (y : View). y.steps.rises) t.2) g,
      ap asks_at_commit lazy,
      laws.wrote_is good c n low l v can o e,
      finds-full clock v z o (with_commit false o) (let a = t.1.started in let b = i.start in omega arith)
          (found-later Clock clock (known_of v o) (known_of u o) (known_of z (with_commit false o)) (load_of Clock clock ∷ [], ap (λ (y : View). y.steps.step_trace) t.2, Load, (0, omega arith, refl)) f.0 f.1),
    )

    -- what is buffered lies outside the fence that the attempt knows
    pub are-spared : AreSpared (cells_of l.writes.items) v
    are-spared a t = ap (λ f. fenced f a) i.spared.is ∙ k.buffers.apart a t

    -- THE ENTRY
    pub may-enter : l.committing ≡ true → l.start < CLOCK_LIMIT → KeepsRule good c n (known_of v o) → CanOrecCommit (home_of c) rule c.words l.start (cells_of l.writes.items) (cells_of l.writes.items) v
    may-enter mid under keeps = record {
      has = has-orec;
      not_quiescent = k.optimistic.not_quiescent;
      from = sym i.start;
      limit = omega arith;
      ready = record {
        open_yet = k.open_yet;
        unraised = k.unraised;
        covered = k.locked mid;
        backed = λ a t. t;
        backs = over-twice (cells_of l.writes.items);
        there = λ a d t. over-miss (cells_of l.writes.items) a d t ∙ ap (λ (cs : List Cell). over cs a d) (sym k.unplaced);
      };
      wrote = cells-some l.writes.items (not-yes (is_empty l.writes.items) (sym k.buffers.wrote ∙ can.wrote)) (items-cells l.writes.items k.buffers.once);
      writes_inside = k.buffers.inside;
      writes_small = k.buffers.small;
      keeps = keeps-cells good c.words v.attempt.reads (cells_of l.writes.items) i.reads_inside
          (subst (λ (ws : List (ℕ × ℕ)). logs.Keeps good c.words (record { reads = items v.attempt.reads; writes = ws }))
          (laws.written good c n low l v can o e ∙ sym (items-cells l.writes.items k.buffers.once))
          (keeps (laws.wrote_is good c n low l v can o e)));
    }

    abbrev ws : List Cell
    ws = cells_of l.writes.items

    -- the view after the exchange, by whether it took
    abbrev exchanged : World → ℕ → Bool → View
    exchanged w now b = record v {
      history = if b then record v.history { made = orec_entry n (l.start + 1) ws v ∷ v.history.made; seen = orec_entry n (l.start + 1) ws v ∷ w.history; front = l.start + 1 } else v.history;
      steps = record v.steps { rises = if b then v.steps.rises + 1 else v.steps.rises; step_trace = tried l.start now ∷ v.steps.step_trace };
      owned = if b then entered_at (l.start + 1) ws v.owned else v.owned;
    }

    exchange_path : (now : ℕ) (u : View) (b : Bool) → (now == l.start) ≡ b → (t : Tells (orec_commit n l.start ws ws) (FindsCommit rule c n l.start ws) v now u) → u ≡ exchanged t.0 now b
    exchange_path now u b s t = t.2 ∙ (by (now == l.start) ∙ ap (exchanged t.0 now) s)
      where
        by : (d : Bool) → record v {
          history = if d then record v.history { made = orec_entry n (l.start + 1) ws v ∷ v.history.made; seen = orec_entry n (l.start + 1) ws v ∷ t.0.history; front = l.start + 1 } else v.history;
          steps = record (if d then record v.steps { rises = v.steps.rises + 1 } else v.steps) { step_trace = tried l.start now ∷ (if d then record v.steps { rises = v.steps.rises + 1 } else v.steps).step_trace };
          owned = if d then entered_at (l.start + 1) ws v.owned else v.owned;
        } ≡ exchanged t.0 now d
        by true = refl
        by false = refl

    -- it didn't: the attempt stands as before
    pub refused_path : (now : ℕ) (u : View) → now ≢ l.start → Tells (orec_commit n l.start ws ws) (FindsCommit rule c n l.start ws) v now u
        → u ≡ record v { steps = record v.steps { step_trace = tried l.start now ∷ v.steps.step_trace } }
    refused_path now u apart t = exchange_path now u false (grind (arith, nat_tests)) t

    pub refused-others : (now : ℕ) (u : View) → now ≢ l.start → Tells (orec_commit n l.start ws ws) (FindsCommit rule c n l.start ws) v now u → 1 < c.callers
    refused-others now u apart t = clock-others c n low t.0 v now t.1.clock (λ one. let a = k.sole one in let b = i.start in let d = k.optimistic.rises in omega arith) (λ s. apart (s ∙ i.start))

    -- it did: the entry is made
    pub may-finish : (b : Bool) (now : ℕ) (u : View) → now ≡ l.start → Tells (orec_commit n l.start ws ws) (FindsCommit rule c n l.start ws) v now u → CanFinish c (l.start + 1) (record l { committing = b }) u
    may-finish b now u same t = subst (CanFinish c (l.start + 1) (record l { committing = b })) (sym (exchange_path now u true (grind (arith, nat_tests)) t)) (record {
      has = record { runs = record { phase = i.phase; algorithm = ap has_records lazy; plain = k.optimistic.ungranted }; inside = k.inside };
      committed = refl;
      time = refl;
      undone = refl;
      back = refl;
      inside = k.buffers.inside;
      locks = k.locks;
      places = k.places;
      unlocked = k.optimistic.unlocked;
      unfixed = k.optimistic.unfixed;
      unwritten = k.optimistic.unwritten;
      uncommitted = k.optimistic.uncommitted;
      unstored = k.optimistic.unstored;
      unentered = i.unentered;
      holds = can.holds;
      named = sym i.named;
    })

    pub tells-committed : (now : ℕ) (u z : View) → now ≡ l.start
        → (t : Tells (orec_commit n l.start ws ws) (FindsCommit rule c n l.start ws) v now u) → GivesUp n u z
        → CommitsAt good c n (l.start + 1) (known_of v o) (known_of z (with_commit false o))
    tells-committed now u z same t g = record {
      ends = record { idle = ap4; grows = grown; alg = alg; base = base; installs = installs };
      rises = risen;
      wrote = laws.wrote_is good c n low l v can o e;
      made = ap (λ (h : SeenHistory). public_history h.made) history ∙ ap (λ (x : public.Entry). public_history v.history.made ++ x ∷ []) as_entry;
      before = public_history t.0.history;
      seen = ap (λ (h : SeenHistory). public_history h.seen) history ∙ ap (λ (x : public.Entry). public_history t.0.history ++ x ∷ []) as_entry;
      legal = subst (λ (h : SeenHistory). public.IsLegal good (zeros c.words) c.clock (public_history h.seen)) (sym history) (legal-public good c (made ∷ t.0.history) (l.start + 1 + 1) enters.below enters.legal);
      later = (let s = i.start in omega arith);
      above = (let f = i.front in omega arith);
      front = ap (λ (h : SeenHistory). h.front) history;
    }
      where
        made : Entry
        made = orec_entry n (l.start + 1) ws v

        enters : Enters rule c made t.0 v
        enters = t.1.enters same

        path : u ≡ exchanged t.0 now true
        path = exchange_path now u true (grind (arith, nat_tests)) t

        history : z.history ≡ record v.history { made = made ∷ v.history.made; seen = made ∷ t.0.history; front = l.start + 1 }
        history = ap (λ (y : View). y.history) g.is ∙ (g.unmade.history ∙ ap (λ (y : View). y.history) path)

        as_entry : public_entry made ≡ entry (l.start + 1) n (length (public_history v.history.made)) (known_of v o).log
        as_entry =
            λ j.
            record {
              time = l.start + 1;
              caller = n;
              number = sym (length-public_history v.history.made) j;
              reads = items v.attempt.reads;
              writes = (items-cells l.writes.items k.buffers.once ∙ sym (laws.written good c n low l v can o e)) j;
            }

        alg : z.gate.algorithm ≡ v.gate.algorithm
        alg = ap (λ (y : View). y.gate.algorithm) g.is ∙ (g.unmade.carried.named ∙ ap (λ (y : View). y.gate.algorithm) path)

        base : z.steps.rises_at_begin ≡ v.steps.rises_at_begin
        base = ap (λ (y : View). y.steps.rises_at_begin) g.is ∙ (g.unmade.carried.base ∙ ap (λ (y : View). y.steps.rises_at_begin) path)

        installs : reverse z.steps.installs ≡ reverse v.steps.installs
        installs = ap (λ (y : View). reverse y.steps.installs) g.is ∙ ap reverse (g.unmade.carried.installs ∙ ap (λ (y : View). y.steps.installs) path)

        risen : z.steps.rises ≡ v.steps.rises_at_begin + entry_rise v.gate.algorithm
        risen =
            let a = ap (λ (y : View). y.steps.rises) g.is in
            let b = g.rises in
            let d : u.steps.rises ≡ v.steps.rises + 1 = ap (λ (y : View). y.steps.rises) path in
            let f = k.optimistic.rises in let q : entry_rise v.gate.algorithm ≡ 1 = ap entry_rise lazy in omega arith

        ap4 : (z.gate.phase ≡ Idle) × (is_in z.gate.phase ≡ false) × (is_closing z.gate.phase ≡ false) × (z.gate.holds ≡ false) × (locked_under z.gate.algorithm z.lock.taken z.tml.writer ≡ false)
        ap4 = (g.outside.phase, ap is_in g.outside.phase, ap is_closing g.outside.phase, g.outside.reopened, unlocked-of z.gate.algorithm z.lock.taken z.tml.writer g.outside.clear.unlocked g.outside.clear.unwritten)

        grown : Grows (known_of v o) (known_of z (with_commit false o))
        grown = let f = ended-by n u z g in let h : z.history.front ≡ l.start + 1 = ap (λ (h : SeenHistory). h.front) history in record {
          later = public_entry made ∷ [];
          is = ap (λ (h : SeenHistory). public_history h.seen) history ∙ ap (λ (h : List public.Entry). h ++ public_entry made ∷ []) (sym (ap public_history enters.seen));
          ascending = ((let a = i.front in omega arith), tt);
          up_to = (omega arith, tt);
          front_rose = (let a = i.front in omega arith);
          more = f.0 ++ tried l.start now ∷ [];
          step_trace = f.1 ∙ (ap (λ (y : View). f.0 ++ y.steps.step_trace) path ∙ sym (append_assoc f.0 (tried l.start now ∷ []) v.steps.step_trace));
          reads_limit = refl;
          writes_limit = refl;
          marks_limit = refl;
          fenced = ap (λ (y : View). fenced_of y.fence) g.is ∙ ap fenced_of (g.unmade.carried.fence ∙ ap (λ (y : View). y.fence) path);
        }

  -- from the call to where it is ready
  module _ (l : Local) (v : View) (can : CanCommit good c n l v) (o : Own) (e : o.buffered ≡ cells_of l.writes.items) (m : Local) (w : View) (r : IsReady good c n l v m w) where
    at_call : IsLazy c l v
    at_call = lazy-of good c n l v can.inside can.lazy can.plain

    named : v.gate.algorithm ≡ OrecLazy
    named = can.inside.named ∙ can.lazy

    abbrev pub in_commit : Local
    in_commit = record m { committing = true }

    pub can-ready : CanCommit good c n in_commit w
    can-ready = record {
      inside = r.stays;
      lazy = ap (λ (q : Local). q.algorithm) r.local ∙ can.lazy;
      plain = ap (λ (q : Local). q.granted) r.local ∙ can.plain;
      wrote = ap (λ (q : Local). q.wrote) r.local ∙ can.wrote;
      running = ap (λ (q : Local). q.running) r.local ∙ can.running;
      holds = ap (λ (q : Local). q.holds) r.local ∙ (can.holds ∙ sym (ap (λ (y : View). y.gate.holds) r.is));
      lengths = (
        ap (λ (q : Local). q.writes.len) r.local ∙ (can.lengths.0 ∙ sym (ap (λ (q : Local). q.undo.len) r.local)),
        (let a = r.len in let b = can.lengths.1 in let e = ap (λ (q : Local). q.undo.len) r.local in omega arith),
      );
    }

    pub buffered : o.buffered ≡ cells_of m.writes.items
    buffered = e ∙ sym (ap (λ (q : Local). cells_of q.writes.items) r.local)

    log_at : (p : Own) (y : View) → p.buffered ≡ o.buffered → y.gate ≡ v.gate → y.attempt.reads ≡ v.attempt.reads → (known_of y p).log ≡ (known_of v o).log
    log_at p y b gate reads =
        (λ j.
        record {
          reads = items (reads j);
          writes = written_under ((ap (λ (g : GateView). g.algorithm) gate ∙ named) j)
              ((ap (λ (g : GateView). g.granted) gate ∙ at_call.optimistic.ungranted) j) y p;
        })
        ∙ (λ j. record { reads = items v.attempt.reads; writes = (ap items b ∙ sym (λ h. written_under (named h) (at_call.optimistic.ungranted h) v o)) j })

    begins : v.attempt.start ≤ m.start
    begins = let a = can.inside.start in let b = can.inside.front in let d = (r.grows o).front_rose in let f : w.history.front ≡ m.start = ap (λ (y : View). y.history.front) r.is in omega arith

    pub leads-ready : Leads (known_of v o) (known_of w o)
    leads-ready = record {
      made = ap (λ (y : View). public_history y.history.made) r.is;
      grows = r.grows o;
      alg = ap (λ (y : View). y.gate.algorithm) r.is;
      base = ap (λ (y : View). y.steps.rises_at_begin) r.is;
      installs = ap (λ (y : View). reverse y.steps.installs) r.is;
      start = (let a = begins in let b : w.attempt.start ≡ m.start = ap (λ (y : View). y.attempt.start) r.is in omega arith);
      log = log_at o w refl (ap (λ (y : View). y.gate) r.is) (ap (λ (y : View). y.attempt.reads) r.is);
      granted = ap (λ (y : View). granted_under y.gate.algorithm y.gate y.lock) r.is;
      kept = ap (λ (y : View). kept_under y.gate.algorithm w o) r.is ∙ kept-same v.gate.algorithm v w o o refl (ap (λ (y : View). y.owned.undo) r.is) (ap (λ (y : View). y.lock.undo) r.is);
    }

    pub keeps-ready : KeepsRule good c n (known_of v o) → KeepsRule good c n (known_of w o)
    keeps-ready keeps wrote = let a = leads-ready in subst (λ (g : Log). logs.Keeps good c.words g) (sym a.log) (keeps (ap (λ (g : Log). not (is_empty g.writes)) (sym a.log) ∙ wrote))

    -- the ends after it, as seen from the call
    pub full-call : (clock : ℕ) (u z : View) → CLOCK_LIMIT ≤ m.start → Tells orec_limit (FindsClock c) w clock u → GivesUp n u z
        → Commits good c n (commits.ClockFull clock) (known_of v o) (known_of z (with_commit false o))
    full-call clock u z high t g = let q = tells-full in_commit w can-ready o buffered clock u z high t g in (
      quits-leads (known_of v o) (known_of w o) (known_of z (with_commit false o)) leads-ready q.0,
      ap asks_at_commit named,
      laws.wrote_is good c n low l v can o e,
      full-leads (known_of v o) (known_of w o) (known_of z (with_commit false o)) clock leads-ready q.3,
    )

    pub committed-call : (now : ℕ) (u z : View) → now ≡ m.start
        → Tells (orec_commit n m.start (cells_of m.writes.items) (cells_of m.writes.items))
        (FindsCommit rule c n m.start (cells_of m.writes.items)) w now u → GivesUp n u z
        → CommitsAt good c n (m.start + 1) (known_of v o) (known_of z (with_commit false o))
    committed-call now u z same t g = commits-leads good c n (m.start + 1) (known_of v o) (known_of w o) (known_of z (with_commit false o)) leads-ready (tells-committed in_commit w can-ready o buffered now u z same t g)

    -- AGAIN: another commit was faster, and the attempt stands in the middle of its own
    module _ (now : ℕ) (u : View) (apart : now ≢ m.start) (t : Tells (orec_commit n m.start (cells_of m.writes.items) (cells_of m.writes.items)) (FindsCommit rule c n m.start (cells_of m.writes.items)) w now u) where
      still_path : u ≡ record w { steps = record w.steps { step_trace = tried m.start now ∷ w.steps.step_trace } }
      still_path = refused_path in_commit w can-ready o buffered now u apart t

      pub stays-again : IsInside good c n in_commit u
      stays-again = let i = r.stays in let k = lazy-of good c n in_commit w r.stays can-ready.lazy can-ready.plain in
          subst (IsInside good c n in_commit)
          (sym (still_path
          ∙ (λ j.
          record (record w { steps = record w.steps { step_trace = tried m.start now ∷ w.steps.step_trace } })
          { history = record w.history { front = i.front j }; attempt = record w.attempt { start = i.start j } })))
          (laws.stays-ready good c n low in_commit w can-ready m.start m.locks w.history.seen w.owned.held w.sample.loaded w.check
          (tried m.start now ∷ []) k.locks k.places k.few k.versions (k.locked refl) (k.olds refl) k.unchecked i.legal i.below i.sees
          k.sole)

      pub stands-again : Stands good c n in_commit u
      stands-again = record {
        holds = can-ready.holds ∙ sym (ap (λ (y : View). y.gate.holds) still_path);
        lengths = can-ready.lengths;
        by = subst (λ (b : Bool). StandsBy good c n in_commit b m.holds u) (sym can-ready.running) stays-again;
      }

      pub tells-again : o.committing ≡ l.committing → Commits good c n (commits.Again 0 m.start now) (known_of v o) (known_of u (with_commit true o))
      tells-again mid = (
        again.goes-on v r.more r.is now still_path c OrecLazy o named can.inside.phase begins (r.grows o)
            (again.start-moves v r.more r.is now still_path c o l.start can.inside.start
            (⊎_elim (λ s. inl s) (λ f. inr (f.0 o, f.1 o e mid)) r.start)),
        refl,
        log_at p u refl (ap (λ (y : View). y.gate) path) (ap (λ (y : View). y.attempt.reads) path),
        ap (λ (y : View). kept_under y.gate.algorithm u p) path ∙ kept-same v.gate.algorithm v u o p refl (ap (λ (y : View). y.owned.undo) path) (ap (λ (y : View). y.lock.undo) path),
        opaque-inside good c n in_commit u p stays-again,
        again.is-again v r.more r.is now still_path c n o (ap has_records named) apart (λ g. r.again (sym mid ∙ g) o),
        refused-others in_commit w can-ready o buffered now u apart t,
        laws.revocable good c n low l v can o,
        laws.wrote_is good c n low l v can o e,
      )
        where
          p : Own
          p = with_commit true o

          path : u ≡ readied v r.seen m.start r.held r.loaded r.check (tried m.start now ∷ r.more)
          path = again.path v r.more r.is now still_path
