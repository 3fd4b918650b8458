-- Each kind of step of OrecLazy and OrecEager keeps the rule.
use Rattle.std.proofs.Common.{◌≡◌, ℕ, ◌+◌, ◌<◌, ◌≤◌, List, [], ◌∷◌, Bool, true, false, arith, refl, sym, subst, ap, ◌∙◌, le_refl}
use Rattle.std.specs.Prelude.{if◌then◌else◌, ◌==◌, nat_le, ltb, max, length}
use Rattle.std.proofs.lemmas.Bool.{eqb-true}
use Rattle.std.proofs.lemmas.Bool.Decides.{nat_tests}
use Rattle.rule_base.specs.declared.entries.Cell.{Cell}
use Rattle.rule_base.specs.declared.entries.Entry.{Entry}
use Rattle.stm_model.specs.declared.config.Config.{Config}
use Rattle.stm_model.specs.declared.config.TheConstants.{CLOCK_LIMIT}
use Rattle.rule_base.specs.declared.views.Phase.TheVariants.{In}
use Rattle.rule_base.specs.declared.views.View.{View}
use Rattle.rule_base.specs.Lemmas.EncodingLemmas.{is_owned-free, version_of-free, is_owned-owned, owner_of-owned}
use Rattle.rule_base.specs.Encodings.{free_record, owned_record, is_owned, version_of, owner_of}
use Rattle.rule_base.specs.History.{over, touches, word_at, word_now, Explains, Below, upto, Follows, Legal}
use Rattle.rule_base.specs.HistoryRule.{HistoryRule, history_projection}
use Rattle.rule_base.specs.Lemmas.HistoryLemmas.{word_at-all, word_now-upto, below-upto, legal-upto, legal-good, legal-small}
use Rattle.rule_base.specs.Lemmas.HistoryRuleLemmas.{advances-same, advances-entry, history-kept, history-seen, history-upto, history-raised, history-entry}
use Rattle.rule_base.specs.Lemmas.PutLemmas.{put-all, parts-put, parts-kept}
use Rattle.rule_base.specs.Ranks.{Rec, rec_of}
use Rattle.rule_base.specs.Ranks.Rec.{Free, Taken}
use Rattle.rule_base.specs.RecordRule.{record_projection, RecordRule}
use Rattle.rule_base.specs.RunProjection.{run_projection}
use Rattle.rule_base.specs.StepKinds.{StepKind, Advances, view_after, world_after, answer, Nothing, StepOutcome, StepLaw}
use Rattle.rule_base.specs.Lemmas.StepsLemmas.{steps-kept, steps-raised}
use Rattle.rule_base.specs.StepsRule.{StepsRule, steps_projection}
use Rattle.rule_base.specs.World.{World, put, parts}
use Rattle.rule_seq.specs.AttemptRule.{attempt_projection, AttemptRule}
use Rattle.rule_seq.specs.AttemptLemmas.{busy-owned, attempts-in}
use Rattle.rule_seq.specs.CglSteps.{Begins}
use Rattle.rule_seq.specs.LockRule.{lock_projection, LockRule}
use Rattle.rule_seq.specs.LockLemmas.{lock_projection-kept}
use Rattle.rule_seq.specs.TmlSteps.{TmlSees}
use Rattle.rule_orec.specs.OrecRule.{orec_view, OrecProjection, rank, orec_projection, OwnReads, Own, OrecRule, OrecRuns, OrecWorld}
use Rattle.rule_base.specs.Ranks.{home_of}
use Rattle.rule_orec.specs.OrecRely.{Full, Next, full_of, rule_of, fresh, quiet, with_view}
use Rattle.rule_orec.specs.OrecReading as reading
use Rattle.rule_orec.specs.OrecOwning as owning
use Rattle.rule_orec.specs.OrecReading.{no_sample, no_check, passed, begun-fresh}
use Rattle.rule_orec.specs.OrecOwning.{holding, entered_at, restored, released}
use Rattle.rule_orec.specs.OrecSteps.{is_eager, orec_begin, CanOrecBegin, orec_sample, CanOrecSample, orec_load, CanOrecLoad, confirms, orec_confirm, CanOrecConfirm, OrecConfirms, orec_clock, CanOrecClock, OrecClocks, orec_clock_all, passes, orec_pass, CanOrecPass, orec_last, CanOrecLast, HasOrec, orec_look, orec_limit, orec_lock, CanOrecLock, orec_entry, orec_commit, CanOrecCommit, orec_write_back, CanOrecWriteBack, orec_release, CanOrecTime, CanOrecOld, CanOrecUp, orec_own_load, CanOrecOwnLoad, OrecOwnLoads, orec_save, CanOrecSave, orec_place, CanOrecPlace, orec_restore, CanOrecRestore, orec_raise_clock, CanOrecRaiseClock}

-- what a record word says
pub rec-free : (word : ℕ) → is_owned word ≡ false → rec_of word ≡ Free (version_of word)
rec-free word e = ap (λ (b : Bool). if b then Taken (owner_of word) else Free (version_of word)) e

pub rec-taken : (word : ℕ) → is_owned word ≡ true → rec_of word ≡ Taken (owner_of word)
rec-taken word e = ap (λ (b : Bool). if b then Taken (owner_of word) else Free (version_of word)) e

pub free-rec : (word v : ℕ) → rec_of word ≡ Free v → (is_owned word ≡ false) × (version_of word ≡ v)
free-rec word v e = go (is_owned word) refl e
  where
    go : (b : Bool) → is_owned word ≡ b → (if b then Taken (owner_of word) else Free (version_of word)) ≡ Free v → (b ≡ false) × (version_of word ≡ v)
    go true q k = absurd cc
    go false q k = (refl, cc)

pub taken-rec : (word n : ℕ) → rec_of word ≡ Taken n → (is_owned word ≡ true) × (owner_of word ≡ n)
taken-rec word n e = go (is_owned word) refl e
  where
    go : (b : Bool) → is_owned word ≡ b → (if b then Taken (owner_of word) else Free (version_of word)) ≡ Taken n → (b ≡ true) × (owner_of word ≡ n)
    go true q k = (refl, cc)
    go false q k = absurd cc

pub rec_of-free : (v : ℕ) → rec_of (free_record v) ≡ Free v
rec_of-free v = rec-free (free_record v) (is_owned-free v) ∙ ap Free (version_of-free v)

pub rec_of-owned : (n : ℕ) → rec_of (owned_record n) ≡ Taken n
rec_of-owned n = rec-taken (owned_record n) (is_owned-owned n) ∙ ap Taken (owner_of-owned n)

-- a record that passes
pub passed-at : (x : ℕ) (v : View) → passes x v ≡ true → (is_owned x ≡ false) × (version_of x ≤ v.attempt.start)
passed-at x v e = go (is_owned x) refl e
  where
    go : (b : Bool) → is_owned x ≡ b → (if b then false else nat_le (version_of x) v.attempt.start) ≡ true → (b ≡ false) × (version_of x ≤ v.attempt.start)
    go true q k = absurd cc
    go false q k = (refl, grind (arith, nat_tests, k))

-- the projection after one view changed
abbrev pub projection_put : World → World → ℕ → View → OrecProjection
projection_put w x n v = record { clock = x.clock; base = x.base; records = parts rec_of x.records; heap = x.heap; history = x.history; views = put (orec_projection w).views n (orec_view v) }

pub orec_projection-put : (w x : World) (n : ℕ) (v : View) → x.views ≡ put w.views n v → orec_projection x ≡ projection_put w x n v
orec_projection-put w x n v is = λ i. record { clock = x.clock; base = x.base; records = parts rec_of x.records; heap = x.heap; history = x.history; views = (ap (parts orec_view) is ∙ parts-put orec_view w.views n v) i }

-- and after one record did
records_put : (w : World) (r word : ℕ) (k : Rec) → rec_of word ≡ k → parts rec_of (put w.records r word) ≡ put (orec_projection w).records r k
records_put w r word k e = parts-put rec_of w.records r word ∙ ap (put (orec_projection w).records r) e

module _ (good : (ℕ → ℕ) → Type 0) (c : Config) where
  abbrev Fulls : OrecProjection → Type 0
  Fulls s = Full (home_of c) c.words s

  abbrev Nexts : OrecProjection → OrecProjection → Type 0
  Nexts = Next (home_of c) c.words

  pub full-world : (w : World) → OrecWorld good c w → Fulls (orec_projection w)
  full-world w r = full_of (home_of c) c.words (orec_projection w) r.history.below
      (λ q v e. let k = free-rec (w.records q) v e in subst (λ (u : ℕ). u ≤ w.clock) k.1 (r.records.free q k.0))
      (λ q m e. let k = taken-rec (w.records q) m e in subst (λ (u : ℕ). touches (w.views u).owned.held q ≡ true) k.1 (r.records.owned q k.0)) r.runs

  -- the clauses of the records that stand under every algorithm follow
  pub records-full : (x : World) → Fulls (orec_projection x) → AttemptRule (attempt_projection x) → RecordRule (record_projection x)
  records-full x g a = record {
    free = λ r e. g.whole.free r (version_of (x.records r)) (rec-free (x.records r) e);
    owned = λ r e. g.whole.owned r (owner_of (x.records r)) (rec-taken (x.records r) e);
    inside = λ n r t. a.busy n (busy-owned (x.views n) (in_of n r t (x.views n).owned.inside refl));
  }
    where
      in_of : (n r : ℕ) → touches (x.views n).owned.held r ≡ true → (b : Bool) → (x.views n).owned.inside ≡ b → b ≡ true
      in_of n r t true e = refl
      in_of n r t false e = absurd (let f : true ≡ false = sym t ∙ g.whole.shut n e r in cc)

  module _ (n : ℕ) where
    -- the clauses but for those of the steps, which speak of the step as it stands
    abbrev Parts : World → Type 0
    Parts y = HistoryRule good c (history_projection y) × LockRule (lock_projection y) × AttemptRule (attempt_projection y) × RecordRule (record_projection y) × OrecRuns c (run_projection y)

    whole_of : (y : World) → Parts y → StepsRule c (steps_projection y) → OrecWorld good c y
    whole_of y p s = record { history = p.0; steps = s; lock = p.1; attempts = p.2; records = p.3; runs = p.4 }

    -- the step leaves the lock and the phase alone, and of TML whether its caller is inside
    pub record LeavesOthers (w x : World) (v : View) : Type 0 where
      pub lock : x.lock ≡ w.lock
      pub taken : v.lock.taken ≡ (w.views n).lock.taken
      pub phase : v.gate.phase ≡ (w.views n).gate.phase
      pub inside : v.tml.inside ≡ (w.views n).tml.inside
      pub writer : v.tml.writer ≡ (w.views n).tml.writer

    parts_of : (w x : World) (v : View) → x.views ≡ put w.views n v → LeavesOthers w x v → (w.views n).gate.phase ≡ In
        → HistoryRule good c (history_projection x) → Fulls (projection_put w x n v) → OrecWorld good c w → Parts x
    parts_of w x v is leaves phase history full r = (
      history,
      subst LockRule (sym (lock_projection-kept w x n v is leaves.lock leaves.taken leaves.phase)) r.lock,
      attempts,
      records-full x at attempts,
      rule_of (home_of c) c.words (orec_projection x) at,
    )
      where
        in_it : v.gate.phase ≡ In
        in_it = leaves.phase ∙ phase

        attempts : AttemptRule (attempt_projection x)
        attempts = attempts-in w x n v is in_it r.attempts

        at : Fulls (orec_projection x)
        at = subst Fulls (sym (orec_projection-put w x n v is)) full

    -- no rank fell
    abbrev pub Ranks : World → World → Type 0
    Ranks w x = (q : ℕ) → rank (orec_projection w) q ≤ rank (orec_projection x) q

    ranks_of : (w x : World) (v : View) → x.views ≡ put w.views n v → Nexts (orec_projection w) (projection_put w x n v) → Ranks w x
    ranks_of w x v is next = subst (λ (s : OrecProjection). (q : ℕ) → rank (orec_projection w) q ≤ rank s q) (sym (orec_projection-put w x n v is)) next.1

    both_of : (w x : World) (v : View) → x.views ≡ put w.views n v → LeavesOthers w x v → (w.views n).gate.phase ≡ In
        → HistoryRule good c (history_projection x) → Nexts (orec_projection w) (projection_put w x n v) → OrecWorld good c w
        → Parts x × Ranks w x
    both_of w x v is leaves phase history next r = (parts_of w x v is leaves phase history next.0 r, ranks_of w x v is next)

    -- what an attempt sees with these reads
    sees_of : (w : World) → OrecWorld good c w → (w.views n).owned.inside ≡ true → (w.views n).owned.committed ≡ false → (reads : List Cell)
        → ((a : ℕ) → over reads a (word_at w.history (w.views n).attempt.start a) ≡ word_at w.history (w.views n).attempt.start a)
        → TmlSees good c (w.views n) reads
    sees_of w r i d reads sees = record {
      sees = λ a. subst (λ (x : ℕ). over reads a x ≡ x) (sym (value_of w r i d a)) (sees a);
      legal = subst (Legal good c) (sym (seen_of w r i d)) (legal-upto good c w.history (w.clock + 1) (w.views n).attempt.start r.history.below r.history.legal);
      below = subst (λ (h : List Entry). Below h ((w.views n).attempt.start + 1)) (sym (seen_of w r i d)) (below-upto w.history (w.clock + 1) (w.views n).attempt.start r.history.below);
    }
      where
        seen_of : (w : World) → OrecWorld good c w → (w.views n).owned.inside ≡ true → (w.views n).owned.committed ≡ false → (w.views n).history.seen ≡ upto w.history (w.views n).attempt.start
        seen_of w r i d = (r.history.known n).seen ∙ ap (upto w.history) ((r.runs.own n i).front d)

        value_of : (w : World) → OrecWorld good c w → (w.views n).owned.inside ≡ true → (w.views n).owned.committed ≡ false → (a : ℕ) → word_now (w.views n).history.seen a ≡ word_at w.history (w.views n).attempt.start a
        value_of w r i d a = ap (λ (h : List Entry). word_now h a) (seen_of w r i d) ∙ word_now-upto w.history (w.views n).attempt.start a

    seen_word : (w : World) → OrecWorld good c w → (w.views n).owned.inside ≡ true → (w.views n).owned.committed ≡ false → (a : ℕ) → word_now (w.views n).history.seen a ≡ word_at w.history (w.views n).attempt.start a
    seen_word w r i d a = ap (λ (h : List Entry). word_now h a) ((r.history.known n).seen ∙ ap (upto w.history) ((r.runs.own n i).front d)) ∙ word_now-upto w.history (w.views n).attempt.start a

    orec_begins-both : (w : World) → OrecWorld good c w → CanOrecBegin (w.views n) → Parts (world_after orec_begin n w) × Ranks w (world_after orec_begin n w)
    orec_begins-both w r may = both_of w x v refl (record { lock = refl; taken = refl; phase = refl; inside = refl; writer = refl }) may.runs.phase (history-seen good c w x n v refl refl refl refl r.history) next r
      where
        x : World
        x = world_after orec_begin n w

        v : View
        v = view_after orec_begin w (w.views n) w.clock

        g : Fulls (orec_projection w)
        g = full-world w r

        apart : (q : ℕ) → rec_of (w.records q) ≡ Taken n → ⊥
        apart q e = let t = g.whole.owned q n e in let f : true ≡ false = sym t ∙ ap (λ (cs : List Cell). touches cs q) may.disowned in cc

        f : OrecRule (home_of c) c.words (projection_put w x n v) × ((q : ℕ) → rank (orec_projection w) q ≤ rank (projection_put w x n v) q)
        f =
            fresh (home_of c) c.words (orec_projection w) n (orec_view v) apart (λ q. refl)
            (λ i.
            begun-fresh (home_of c) c.words (orec_projection w) n (is_eager (w.views n).gate.algorithm) v.attempt refl refl r.runs.based)
            r.runs

        next : Nexts (orec_projection w) (projection_put w x n v)
        next = (
          full_of (home_of c) c.words (projection_put w x n v) g.whole.below g.whole.free
              (λ q m e.
              put-all (orec_projection w).views n (orec_view v)
              (λ k u. (orec_projection w).records q ≡ Taken k → touches u.owned.held q ≡ true) (λ t. absurd (apart q t))
              (λ k d t. g.whole.owned q k t) m e) f.0,
          f.1,
        )

    pub orec_begins : StepLaw (OrecWorld good c) orec_begin (Begins good c) n CanOrecBegin
    orec_begins w r may = record {
      rule = whole_of (world_after orec_begin n w) (orec_begins-both w r may).0 (steps-kept c orec_begin n w refl refl refl r.steps);
      advances = advances-same w (world_after orec_begin n w) refl (le_refl w.clock) (le_refl w.done) refl;
      shown = record { legal = r.history.legal; below = r.history.below; seen = (r.history.known n).seen; front = (r.history.known n).front; limit = r.history.limit };
    }

    -- a step of an attempt that leaves the clock, the history and what is seen of it alone,
    -- after which these clauses stand
    plainly : (kind : StepKind) (shows : World → View → ℕ → Type 0) (w : World) → OrecWorld good c w → (w.views n).gate.phase ≡ In
        → ((world_after kind n w).clock ≡ w.clock) × ((world_after kind n w).lock ≡ w.lock) × ((world_after kind n w).done ≡ w.done) × ((world_after kind n w).gate ≡ w.gate) × ((world_after kind n w).history ≡ w.history)
        → ((kind.after w (w.views n) (answer kind w)).history ≡ (w.views n).history)
        × ((kind.after w (w.views n) (answer kind w)).steps.step_trace ≡ (w.views n).steps.step_trace)
        × ((kind.after w (w.views n) (answer kind w)).steps.rises ≡ (w.views n).steps.rises)
        → LeavesOthers w (world_after kind n w) (view_after kind w (w.views n) (answer kind w))
        → Fulls (projection_put w (world_after kind n w) n (view_after kind w (w.views n) (answer kind w))) → shows w (w.views n) (answer kind w) → StepOutcome (OrecWorld good c) kind shows n w
    plainly kind shows w r phase words own leaves full shown = record {
      rule = whole_of x (parts_of w x v refl leaves phase (history-kept good c w x n v refl words.0 words.4 own.0 r.history) full r) (steps-kept c kind n w words.0 own.1 own.2 r.steps);
      advances = advances-same w x words.3 (subst (λ (k : ℕ). w.clock ≤ k) (sym words.0) (le_refl w.clock)) (subst (λ (k : ℕ). w.done ≤ k) (sym words.2) (le_refl w.done)) words.4;
      shown = shown;
    }
      where
        x : World
        x = world_after kind n w

        v : View
        v = view_after kind w (w.views n) (answer kind w)

    orec_looks-next : (q : ℕ) → (w : World) → OrecWorld good c w → HasOrec (w.views n)
        → Nexts (orec_projection w)
        (projection_put w (world_after (orec_look q) n w) n (view_after (orec_look q) w (w.views n) (answer (orec_look q) w)))
    orec_looks-next q w r may = quiet (home_of c) c.words (orec_projection w) n (orec_view (w.views n)) refl (r.runs.own n) (full-world w r)

    pub orec_looks : (q : ℕ) → StepLaw (OrecWorld good c) (orec_look q) Nothing n HasOrec
    orec_looks q w r may = plainly (orec_look q) Nothing w r may.runs.phase (refl, refl, refl, refl, refl) (refl, refl, refl) (record { lock = refl; taken = refl; phase = refl; inside = refl; writer = refl })
        (orec_looks-next q w r may).0
        tt

    orec_limits-next : (w : World) → OrecWorld good c w → HasOrec (w.views n) → Nexts (orec_projection w) (projection_put w (world_after orec_limit n w) n (view_after orec_limit w (w.views n) (answer orec_limit w)))
    orec_limits-next w r may = quiet (home_of c) c.words (orec_projection w) n (orec_view (w.views n)) refl (r.runs.own n) (full-world w r)

    pub orec_limits : StepLaw (OrecWorld good c) orec_limit OrecClocks n HasOrec
    orec_limits w r may = plainly orec_limit OrecClocks w r may.runs.phase (refl, refl, refl, refl, refl) (refl, refl, refl) (record { lock = refl; taken = refl; phase = refl; inside = refl; writer = refl })
        (orec_limits-next w r may).0
        (record { sampled = reading.sample-old (home_of c) c.words (orec_projection w) n (full-world w r) may.inside })

    orec_samples-next : (q : ℕ) → (a : ℕ) → (w : World) → OrecWorld good c w → (CanOrecSample (home_of c) q a) (w.views n)
        → Nexts (orec_projection w)
        (projection_put w (world_after (orec_sample q a) n w) n (view_after (orec_sample q a) w (w.views n) (answer (orec_sample q a) w)))
    orec_samples-next q a w r may = go (is_owned (w.records q)) refl
      where
        go : (b : Bool) → is_owned (w.records q) ≡ b
            → Nexts (orec_projection w) (with_view (home_of c) c.words (orec_projection w) n
            (record (orec_view (w.views n)) {
              sample =
                  if b then no_sample else record { sampled = true; loaded = false; from = a; version = version_of (w.records q); value = 0 };
            }))
        go true e = reading.unsample-kept (home_of c) c.words (orec_projection w) n (full-world w r)
        go false e = reading.sample-kept (home_of c) c.words (orec_projection w) n a (version_of (w.records q)) (ap (λ (k : ℕ). rec_of (w.records k)) may.its ∙ rec-free (w.records q) e) (full-world w r)

    pub orec_samples : (q : ℕ) → (a : ℕ) → StepLaw (OrecWorld good c) (orec_sample q a) Nothing n (CanOrecSample (home_of c) q a)
    orec_samples q a w r may = plainly (orec_sample q a) Nothing w r may.has.runs.phase (refl, refl, refl, refl, refl) (refl, refl, refl) (record { lock = refl; taken = refl; phase = refl; inside = refl; writer = refl })
        (orec_samples-next q a w r may).0
        tt

    orec_loads-next : (a : ℕ) → (w : World) → OrecWorld good c w → (CanOrecLoad a) (w.views n)
        → Nexts (orec_projection w)
        (projection_put w (world_after (orec_load a) n w) n (view_after (orec_load a) w (w.views n) (answer (orec_load a) w)))
    orec_loads-next a w r may = reading.load-kept (home_of c) c.words (orec_projection w) n a may.has.inside may.sampled may.from may.version (full-world w r)

    pub orec_loads : (a : ℕ) → StepLaw (OrecWorld good c) (orec_load a) Nothing n (CanOrecLoad a)
    orec_loads a w r may = plainly (orec_load a) Nothing w r may.has.runs.phase (refl, refl, refl, refl, refl) (refl, refl, refl) (record { lock = refl; taken = refl; phase = refl; inside = refl; writer = refl })
        (orec_loads-next a w r may).0
        tt

    orec_confirms-next : (q : ℕ) → (w : World) → OrecWorld good c w → (CanOrecConfirm (home_of c) c.words q) (w.views n)
        → Nexts (orec_projection w)
        (projection_put w (world_after (orec_confirm q) n w) n (view_after (orec_confirm q) w (w.views n) (answer (orec_confirm q) w)))
    orec_confirms-next q w r may = go (w.records q == free_record (w.views n).sample.version) (λ e. eqb-true (w.records q) (free_record (w.views n).sample.version) e)
      where
        value : w.records q ≡ free_record (w.views n).sample.version → (w.views n).sample.value ≡ word_at w.history (w.views n).attempt.start (w.views n).sample.from
        value e =
            reading.confirmed (home_of c) c.words (orec_projection w) n may.opens.has.inside may.loaded
            (ap (λ (k : ℕ). rec_of (w.records k)) may.its ∙ ap rec_of e ∙ rec_of-free (w.views n).sample.version) (full-world w r)

        reads : Bool → List Cell
        reads b = if b then record { at = (w.views n).sample.from; value = (w.views n).sample.value } ∷ (w.views n).attempt.reads else (w.views n).attempt.reads

        own : OwnReads c.words (orec_projection w) (w.views n).attempt
        own = (r.runs.own n may.opens.has.inside).attempt

        sees : (b : Bool) → (b ≡ true → w.records q ≡ free_record (w.views n).sample.version) → (a : ℕ) → over (reads b) a (word_at w.history (w.views n).attempt.start a) ≡ word_at w.history (w.views n).attempt.start a
        sees true e a = grind (arith, own.sees a, value (e refl))
        sees false e a = own.sees a

        go : (b : Bool) → (b ≡ true → w.records q ≡ free_record (w.views n).sample.version)
            → Nexts (orec_projection w) (with_view (home_of c) c.words (orec_projection w) n
            (record (orec_view (w.views n))
            { attempt = record (w.views n).attempt { reads = reads b }; sample = no_sample; check = no_check }))
        go true e = reading.read-kept (home_of c) c.words (orec_projection w) n (w.views n).sample.from (w.views n).sample.value may.inside (λ i. value (e refl)) (full-world w r)
        go false e = reading.forget-kept (home_of c) c.words (orec_projection w) n (full-world w r)

    pub orec_confirms : (q : ℕ) → StepLaw (OrecWorld good c) (orec_confirm q) (OrecConfirms good c) n (CanOrecConfirm (home_of c) c.words q)
    orec_confirms q w r may =
        plainly (orec_confirm q) (OrecConfirms good c) w r may.opens.has.runs.phase (refl, refl, refl, refl, refl) (refl, refl, refl)
        (record { lock = refl; taken = refl; phase = refl; inside = refl; writer = refl })
        (orec_confirms-next q w r may).0
        (record {
          value = λ e. value e ∙ sym (seen_word w r may.opens.has.inside may.opens.open_yet (w.views n).sample.from);
          sees = sees_of w r may.opens.has.inside may.opens.open_yet (confirms (w.records q) (w.views n))
              (sees (w.records q == free_record (w.views n).sample.version) (λ e.
              eqb-true (w.records q) (free_record (w.views n).sample.version) e));
        })
      where
        value : w.records q ≡ free_record (w.views n).sample.version → (w.views n).sample.value ≡ word_at w.history (w.views n).attempt.start (w.views n).sample.from
        value e =
            reading.confirmed (home_of c) c.words (orec_projection w) n may.opens.has.inside may.loaded
            (ap (λ (k : ℕ). rec_of (w.records k)) may.its ∙ ap rec_of e ∙ rec_of-free (w.views n).sample.version) (full-world w r)

        reads : Bool → List Cell
        reads b = if b then record { at = (w.views n).sample.from; value = (w.views n).sample.value } ∷ (w.views n).attempt.reads else (w.views n).attempt.reads

        own : OwnReads c.words (orec_projection w) (w.views n).attempt
        own = (r.runs.own n may.opens.has.inside).attempt

        sees : (b : Bool) → (b ≡ true → w.records q ≡ free_record (w.views n).sample.version) → (a : ℕ) → over (reads b) a (word_at w.history (w.views n).attempt.start a) ≡ word_at w.history (w.views n).attempt.start a
        sees true e a = grind (arith, own.sees a, value (e refl))
        sees false e a = own.sees a

    orec_clocks-next : (todo : List Cell) → (w : World) → OrecWorld good c w → (CanOrecClock (home_of c) todo) (w.views n)
        → Nexts (orec_projection w)
        (projection_put w (world_after (orec_clock todo) n w) n (view_after (orec_clock todo) w (w.views n) (answer (orec_clock todo) w)))
    orec_clocks-next todo w r may = reading.begin-kept (home_of c) c.words (orec_projection w) n todo may.opens.open_yet may.mine may.old (full-world w r)

    pub orec_clocks : (todo : List Cell) → StepLaw (OrecWorld good c) (orec_clock todo) OrecClocks n (CanOrecClock (home_of c) todo)
    orec_clocks todo w r may =
        plainly (orec_clock todo) OrecClocks w r may.opens.has.runs.phase (refl, refl, refl, refl, refl) (refl, refl, refl)
        (record { lock = refl; taken = refl; phase = refl; inside = refl; writer = refl })
        (orec_clocks-next todo w r may).0
        (record { sampled = reading.sample-old (home_of c) c.words (orec_projection w) n (full-world w r) may.opens.has.inside })

    orec_passes-next : (q : ℕ) → (b : ℕ) → (w : World) → OrecWorld good c w → (CanOrecPass (home_of c) q b) (w.views n)
        → Nexts (orec_projection w)
        (projection_put w (world_after (orec_pass q b) n w) n (view_after (orec_pass q b) w (w.views n) (answer (orec_pass q b) w)))
    orec_passes-next q b w r may = go (passes (w.records q) (w.views n)) refl
      where
        go : (t : Bool) → passes (w.records q) (w.views n) ≡ t
            → Nexts (orec_projection w) (with_view (home_of c) c.words (orec_projection w) n
            (record (orec_view (w.views n)) { check = if t then passed b (w.views n).check else no_check }))
        go true e =
            let p = passed-at (w.records q) (w.views n) e in
            reading.pass-kept (home_of c) c.words (orec_projection w) n b (version_of (w.records q))
            (ap (λ (k : ℕ). rec_of (w.records k)) may.its ∙ rec-free (w.records q) p.0) p.1 (full-world w r)
        go false e = reading.uncheck-kept (home_of c) c.words (orec_projection w) n (full-world w r)

    pub orec_passes : (q : ℕ) → (b : ℕ) → StepLaw (OrecWorld good c) (orec_pass q b) Nothing n (CanOrecPass (home_of c) q b)
    orec_passes q b w r may = plainly (orec_pass q b) Nothing w r may.has.runs.phase (refl, refl, refl, refl, refl) (refl, refl, refl) (record { lock = refl; taken = refl; phase = refl; inside = refl; writer = refl })
        (orec_passes-next q b w r may).0
        tt

    orec_own_loads-next : (a : ℕ) → (w : World) → OrecWorld good c w → (CanOrecOwnLoad (home_of c) c.words a) (w.views n)
        → Nexts (orec_projection w)
        (projection_put w (world_after (orec_own_load a) n w) n (view_after (orec_own_load a) w (w.views n) (answer (orec_own_load a) w)))
    orec_own_loads-next a w r may = reading.read-kept (home_of c) c.words (orec_projection w) n a (w.heap a) may.inside (λ i. value) (full-world w r)
      where
        value : w.heap a ≡ word_at w.history (w.views n).attempt.start a
        value = reading.own-value (home_of c) c.words (orec_projection w) n a may.opens.has.inside may.opens.open_yet may.eager may.held may.unwritten (full-world w r)

        own : OwnReads c.words (orec_projection w) (w.views n).attempt
        own = (r.runs.own n may.opens.has.inside).attempt

        sees : (b : ℕ) → over (record { at = a; value = w.heap a } ∷ (w.views n).attempt.reads) b (word_at w.history (w.views n).attempt.start b) ≡ word_at w.history (w.views n).attempt.start b
        sees b = grind (arith, own.sees b, value)

    pub orec_own_loads : (a : ℕ) → StepLaw (OrecWorld good c) (orec_own_load a) (OrecOwnLoads good c a) n (CanOrecOwnLoad (home_of c) c.words a)
    orec_own_loads a w r may =
        plainly (orec_own_load a) (OrecOwnLoads good c a) w r may.opens.has.runs.phase (refl, refl, refl, refl, refl) (refl, refl, refl)
        (record { lock = refl; taken = refl; phase = refl; inside = refl; writer = refl })
        (orec_own_loads-next a w r may).0
        (record {
          value = value ∙ sym (seen_word w r may.opens.has.inside may.opens.open_yet a);
          sees = sees_of w r may.opens.has.inside may.opens.open_yet (record { at = a; value = w.heap a } ∷ (w.views n).attempt.reads) sees;
        })
      where
        value : w.heap a ≡ word_at w.history (w.views n).attempt.start a
        value = reading.own-value (home_of c) c.words (orec_projection w) n a may.opens.has.inside may.opens.open_yet may.eager may.held may.unwritten (full-world w r)

        own : OwnReads c.words (orec_projection w) (w.views n).attempt
        own = (r.runs.own n may.opens.has.inside).attempt

        sees : (b : ℕ) → over (record { at = a; value = w.heap a } ∷ (w.views n).attempt.reads) b (word_at w.history (w.views n).attempt.start b) ≡ word_at w.history (w.views n).attempt.start b
        sees b = grind (arith, own.sees b, value)

    orec_saves-next : (a : ℕ) → (w : World) → OrecWorld good c w → (CanOrecSave (home_of c) a) (w.views n)
        → Nexts (orec_projection w)
        (projection_put w (world_after (orec_save a) n w) n (view_after (orec_save a) w (w.views n) (answer (orec_save a) w)))
    orec_saves-next a w r may = owning.save-kept (home_of c) c.words (orec_projection w) n a may.opens.has.inside may.held may.opens.open_yet may.unwritten (full-world w r)

    pub orec_saves : (a : ℕ) → StepLaw (OrecWorld good c) (orec_save a) Nothing n (CanOrecSave (home_of c) a)
    orec_saves a w r may = plainly (orec_save a) Nothing w r may.opens.has.runs.phase (refl, refl, refl, refl, refl) (refl, refl, refl) (record { lock = refl; taken = refl; phase = refl; inside = refl; writer = refl })
        (orec_saves-next a w r may).0
        tt

    orec_places-next : (a : ℕ) → (k : ℕ) → (w : World) → OrecWorld good c w → (CanOrecPlace a) (w.views n)
        → Nexts (orec_projection w)
        (projection_put w (world_after (orec_place a k) n w) n (view_after (orec_place a k) w (w.views n) (answer (orec_place a k) w)))
    orec_places-next a k w r may = owning.place-kept (home_of c) c.words (orec_projection w) n a k may.opens.has.inside may.eager may.opens.open_yet may.undoable (full-world w r)

    pub orec_places : (a : ℕ) → (k : ℕ) → StepLaw (OrecWorld good c) (orec_place a k) Nothing n (CanOrecPlace a)
    orec_places a k w r may =
        plainly (orec_place a k) Nothing w r may.opens.has.runs.phase (refl, refl, refl, refl, refl) (refl, refl, refl)
        (record { lock = refl; taken = refl; phase = refl; inside = refl; writer = refl })
        (orec_places-next a k w r may).0
        tt

    orec_restores-next : (a : ℕ) → (k : ℕ) → (w : World) → OrecWorld good c w → (CanOrecRestore a k) (w.views n)
        → Nexts (orec_projection w) (projection_put w (world_after (orec_restore a k) n w) n
        (view_after (orec_restore a k) w (w.views n) (answer (orec_restore a k) w)))
    orec_restores-next a k w r may = owning.restore-kept (home_of c) c.words (orec_projection w) n a k may.has.inside may.logged may.value (full-world w r)

    pub orec_restores : (a : ℕ) → (k : ℕ) → StepLaw (OrecWorld good c) (orec_restore a k) Nothing n (CanOrecRestore a k)
    orec_restores a k w r may =
        plainly (orec_restore a k) Nothing w r may.has.runs.phase (refl, refl, refl, refl, refl) (refl, refl, refl)
        (record { lock = refl; taken = refl; phase = refl; inside = refl; writer = refl })
        (orec_restores-next a k w r may).0
        tt

    orec_writes_back-next : (a : ℕ) → (k : ℕ) → (w : World) → OrecWorld good c w → (CanOrecWriteBack a k) (w.views n)
        → Nexts (orec_projection w) (projection_put w (world_after (orec_write_back a k) n w) n
        (view_after (orec_write_back a k) w (w.views n) (answer (orec_write_back a k) w)))
    orec_writes_back-next a k w r may = owning.write_back-kept (home_of c) c.words (orec_projection w) n a k may.has.inside may.owed may.value (full-world w r)

    pub orec_writes_back : (a : ℕ) → (k : ℕ) → StepLaw (OrecWorld good c) (orec_write_back a k) Nothing n (CanOrecWriteBack a k)
    orec_writes_back a k w r may =
        plainly (orec_write_back a k) Nothing w r may.has.runs.phase (refl, refl, refl, refl, refl) (refl, refl, refl)
        (record { lock = refl; taken = refl; phase = refl; inside = refl; writer = refl })
        (orec_writes_back-next a k w r may).0
        tt

    orec_locks-next : (q : ℕ) → (version : ℕ) → (w : World) → OrecWorld good c w → (CanOrecLock version) (w.views n)
        → Nexts (orec_projection w) (projection_put w (world_after (orec_lock n q version) n w) n
        (view_after (orec_lock n q version) w (w.views n) (answer (orec_lock n q version) w)))
    orec_locks-next q version w r may = go (w.records q == free_record version) (λ e. eqb-true (w.records q) (free_record version) e)
      where
        go : (b : Bool) → (b ≡ true → w.records q ≡ free_record version)
            → Nexts (orec_projection w) (record (orec_projection w) {
              records =
                  parts rec_of (put w.records q (if b then owned_record n else w.records q));
              views = put (orec_projection w).views n
                  (record (orec_view (w.views n)) { owned = if b then holding q version (w.views n).owned else (w.views n).owned });
            })
        go true e =
            subst (λ (k : ℕ → Rec).
            Nexts (orec_projection w) (record (orec_projection w) {
              records = k;
              views = put (orec_projection w).views n (record (orec_view (w.views n)) { owned = holding q version (w.views n).owned });
            }))
            (sym (records_put w q (owned_record n) (Taken n) (rec_of-owned n)))
            (owning.lock-kept (home_of c) c.words (orec_projection w) n q version may.opens.has.inside may.opens.open_yet may.unraised (ap rec_of (e refl) ∙ rec_of-free version) may.new (full-world w r))
        go false e =
            subst (λ (k : ℕ → Rec).
            Nexts (orec_projection w)
            (record (orec_projection w) { records = k; views = put (orec_projection w).views n (orec_view (w.views n)) }))
            (sym (parts-kept rec_of w.records q (w.records q) refl))
            (quiet (home_of c) c.words (orec_projection w) n (orec_view (w.views n)) refl (r.runs.own n) (full-world w r))

    pub orec_locks : (q : ℕ) → (version : ℕ) → StepLaw (OrecWorld good c) (orec_lock n q version) Nothing n (CanOrecLock version)
    orec_locks q version w r may =
        plainly (orec_lock n q version) Nothing w r may.opens.has.runs.phase (refl, refl, refl, refl, refl) (refl, refl, refl)
        (record { lock = refl; taken = refl; phase = refl; inside = refl; writer = refl })
        (orec_locks-next q version w r may).0
        tt

    orec_times-next : (q : ℕ) → (version : ℕ) → (w : World) → OrecWorld good c w → (CanOrecTime (home_of c) q version) (w.views n)
        → Nexts (orec_projection w) (projection_put w (world_after (orec_release q version) n w) n
        (view_after (orec_release q version) w (w.views n) (answer (orec_release q version) w)))
    orec_times-next q version w r may =
        subst (λ (k : ℕ → Rec).
        Nexts (orec_projection w) (record (orec_projection w)
        { records = k; views = put (orec_projection w).views n (record (orec_view (w.views n)) { owned = released q (w.views n).owned }) }))
        (sym (records_put w q (free_record version) (Free version) (rec_of-free version)))
        (owning.release_time-kept (home_of c) c.words (orec_projection w) n q version may.gives.has.inside may.gives.held may.gives.clear may.done may.time (full-world w r))

    pub orec_times : (q : ℕ) → (version : ℕ) → StepLaw (OrecWorld good c) (orec_release q version) Nothing n (CanOrecTime (home_of c) q version)
    orec_times q version w r may =
        plainly (orec_release q version) Nothing w r may.gives.has.runs.phase (refl, refl, refl, refl, refl) (refl, refl, refl)
        (record { lock = refl; taken = refl; phase = refl; inside = refl; writer = refl })
        (orec_times-next q version w r may).0
        tt

    orec_olds-next : (q : ℕ) → (version : ℕ) → (w : World) → OrecWorld good c w → (CanOrecOld (home_of c) q version) (w.views n)
        → Nexts (orec_projection w) (projection_put w (world_after (orec_release q version) n w) n
        (view_after (orec_release q version) w (w.views n) (answer (orec_release q version) w)))
    orec_olds-next q version w r may =
        subst (λ (k : ℕ → Rec).
        Nexts (orec_projection w) (record (orec_projection w)
        { records = k; views = put (orec_projection w).views n (record (orec_view (w.views n)) { owned = released q (w.views n).owned }) }))
        (sym (records_put w q (free_record version) (Free version) (rec_of-free version)))
        (owning.release_old-kept (home_of c) c.words (orec_projection w) n q version may.gives.has.inside may.gives.held may.gives.clear may.undone may.lazy may.old (full-world w r))

    pub orec_olds : (q : ℕ) → (version : ℕ) → StepLaw (OrecWorld good c) (orec_release q version) Nothing n (CanOrecOld (home_of c) q version)
    orec_olds q version w r may =
        plainly (orec_release q version) Nothing w r may.gives.has.runs.phase (refl, refl, refl, refl, refl) (refl, refl, refl)
        (record { lock = refl; taken = refl; phase = refl; inside = refl; writer = refl })
        (orec_olds-next q version w r may).0
        tt

    orec_ups-next : (q : ℕ) → (version : ℕ) → (w : World) → OrecWorld good c w → (CanOrecUp (home_of c) q version) (w.views n)
        → Nexts (orec_projection w) (projection_put w (world_after (orec_release q version) n w) n
        (view_after (orec_release q version) w (w.views n) (answer (orec_release q version) w)))
    orec_ups-next q version w r may =
        subst (λ (k : ℕ → Rec).
        Nexts (orec_projection w) (record (orec_projection w)
        { records = k; views = put (orec_projection w).views n (record (orec_view (w.views n)) { owned = released q (w.views n).owned }) }))
        (sym (records_put w q (free_record version) (Free version) (rec_of-free version)))
        (owning.release_up-kept (home_of c) c.words (orec_projection w) n q version may.gives.has.inside may.gives.held may.gives.clear may.undone may.raised may.next (full-world w r))

    pub orec_ups : (q : ℕ) → (version : ℕ) → StepLaw (OrecWorld good c) (orec_release q version) Nothing n (CanOrecUp (home_of c) q version)
    orec_ups q version w r may =
        plainly (orec_release q version) Nothing w r may.gives.has.runs.phase (refl, refl, refl, refl, refl) (refl, refl, refl)
        (record { lock = refl; taken = refl; phase = refl; inside = refl; writer = refl })
        (orec_ups-next q version w r may).0
        tt

    orec_clocks_all-next : (w : World) → OrecWorld good c w → CanOrecClock (home_of c) [] (w.views n)
        → Nexts (orec_projection w) (projection_put w (world_after orec_clock_all n w) n (view_after orec_clock_all w (w.views n) w.clock))
    orec_clocks_all-next w r may = reading.all-kept (home_of c) c.words (orec_projection w) n may.opens.open_yet (λ a t. may.mine a t refl) (λ a t. may.old a t refl) (full-world w r)

    pub orec_clocks_all : StepLaw (OrecWorld good c) orec_clock_all OrecClocks n (CanOrecClock (home_of c) [])
    orec_clocks_all w r may = record {
      rule = whole_of x (parts_of w x v refl (record { lock = refl; taken = refl; phase = refl; inside = refl; writer = refl }) may.opens.has.runs.phase (history-seen good c w x n v refl refl refl refl r.history)
          (orec_clocks_all-next w r may).0 r) (steps-kept c orec_clock_all n w refl refl refl r.steps);
      advances = advances-same w x refl (le_refl w.clock) (le_refl w.done) refl;
      shown = record { sampled = reading.sample-old (home_of c) c.words (orec_projection w) n (full-world w r) may.opens.has.inside };
    }
      where
        x : World
        x = world_after orec_clock_all n w

        v : View
        v = view_after orec_clock_all w (w.views n) w.clock

    orec_lasts-both : (q b : ℕ) (w : World) → OrecWorld good c w → CanOrecLast (home_of c) q b (w.views n) → Parts (world_after (orec_last q b) n w) × Ranks w (world_after (orec_last q b) n w)
    orec_lasts-both q b w r may = go (passes (w.records q) (w.views n)) refl
      where
        next : Bool → View
        next t = record (view_after (orec_last q b) w (w.views n) (w.records q)) {
          history = if t then record (w.views n).history { seen = upto w.history (w.views n).check.upto; front = (w.views n).check.upto } else (w.views n).history;
          attempt = if t then record (w.views n).attempt { start = (w.views n).check.upto } else (w.views n).attempt;
          sample = if t then record (w.views n).sample { loaded = false } else (w.views n).sample;
        }

        at : Bool → World
        at t = record w { views = put w.views n (next t) }

        own : Own (home_of c) c.words (orec_projection w) n (orec_view (w.views n))
        own = r.runs.own n may.opens.has.inside

        go : (t : Bool) → passes (w.records q) (w.views n) ≡ t → Parts (at t) × Ranks w (at t)
        go true e = let p = passed-at (w.records q) (w.views n) e in both_of w (at true) (next true) refl (record { lock = refl; taken = refl; phase = refl; inside = refl; writer = refl }) may.opens.has.runs.phase
            (history-upto good c w (at true) n (w.views n).check.upto (next true) refl refl refl refl
            (let s = own.front may.opens.open_yet in let u = own.check.onward may.checking in omega arith) (own.check.upto may.checking)
            r.history)
            (reading.last-kept (home_of c) c.words (orec_projection w) n b (version_of (w.records q))
            (ap (λ (k : ℕ). rec_of (w.records k)) may.its ∙ rec-free (w.records q) p.0) p.1 may.checking may.rest (full-world w r)) r
        go false e = both_of w (at false) (next false) refl (record { lock = refl; taken = refl; phase = refl; inside = refl; writer = refl }) may.opens.has.runs.phase
            (history-kept good c w (at false) n (next false) refl refl refl refl r.history)
            (reading.uncheck-kept (home_of c) c.words (orec_projection w) n (full-world w r)) r

    pub orec_lasts : (q b : ℕ) → StepLaw (OrecWorld good c) (orec_last q b) Nothing n (CanOrecLast (home_of c) q b)
    orec_lasts q b w r may = record {
      rule = whole_of (world_after (orec_last q b) n w) (orec_lasts-both q b w r may).0 (steps-kept c (orec_last q b) n w refl refl refl r.steps);
      advances = advances-same w (world_after (orec_last q b) n w) refl (le_refl w.clock) (le_refl w.done) refl;
      shown = tt;
    }

    orec_raises_clock-next : (least : ℕ) (w : World) → OrecWorld good c w → CanOrecRaiseClock least (w.views n)
        → Nexts (orec_projection w)
        (projection_put w (world_after (orec_raise_clock least) n w) n (view_after (orec_raise_clock least) w (w.views n) w.clock))
    orec_raises_clock-next least w r may =
        owning.raise_clock-kept (home_of c) c.words (orec_projection w) n (max w.clock least) may.has.inside may.restored
        (grind (arith, nat_tests)) (λ q t. let k = may.above q t in grind (arith, nat_tests)) (full-world w r)

    pub orec_raises_clock : (least : ℕ) → n < c.callers → StepLaw (OrecWorld good c) (orec_raise_clock least) Nothing n (CanOrecRaiseClock least)
    orec_raises_clock least low w r may = record {
      rule = whole_of x (parts_of w x v refl (record { lock = refl; taken = refl; phase = refl; inside = refl; writer = refl }) may.has.runs.phase
          (subst (HistoryRule good c) (sym path) (history-raised good c (history_projection w) (max w.clock least) up limit r.history))
          (orec_raises_clock-next least w r may).0 r) (steps (ltb w.clock least) refl);
      advances = advances-same w x refl up (le_refl w.done) refl;
      shown = tt;
    }
      where
        x : World
        x = world_after (orec_raise_clock least) n w

        v : View
        v = view_after (orec_raise_clock least) w (w.views n) w.clock

        -- at most one more
        most : least ≤ w.clock + 1
        most = let g = may.greatest in let o = (r.runs.own n may.has.inside).owned.olds g.0 g.1 in let e = g.2 in omega arith

        up : w.clock ≤ max w.clock least
        up = grind (arith, nat_tests)

        limit : max w.clock least ≤ CLOCK_LIMIT
        limit = let l = may.limit in let k = r.history.limit in grind (arith, nat_tests, l, k)

        path : history_projection x ≡ record (history_projection w) { clock = max w.clock least }
        path = λ i. record { clock = max w.clock least; history = w.history; views = parts-kept (λ (u : View). u.history) w.views n v refl i }

        step_trace : (b : Bool) → (if b then record (w.views n).steps { rises = (w.views n).steps.rises + 1 } else (w.views n).steps).step_trace ≡ (w.views n).steps.step_trace
        step_trace true = refl
        step_trace false = refl

        steps : (b : Bool) → ltb w.clock least ≡ b → StepsRule c (steps_projection x)
        steps true q =
            steps-raised c (orec_raise_clock least) n w 1 low (let m = most in grind (arith, nat_tests, q, m))
            (step_trace (ltb w.clock least))
            (ap (λ (b : Bool). (if b then record (w.views n).steps { rises = (w.views n).steps.rises + 1 } else (w.views n).steps).rises) q)
            r.steps
        steps false q =
            steps-kept c (orec_raise_clock least) n w (grind (arith, nat_tests, q)) (step_trace (ltb w.clock least))
            (ap (λ (b : Bool). (if b then record (w.views n).steps { rises = (w.views n).steps.rises + 1 } else (w.views n).steps).rises) q)
            r.steps

    -- the entry, or the exchange refused
    orec_commits-both : (start : ℕ) (writes back : List Cell) → n < c.callers → (w : World) → OrecWorld good c w
        → CanOrecCommit (home_of c) good c.words start writes back (w.views n)
        → Parts (world_after (orec_commit n start writes back) n w) × Ranks w (world_after (orec_commit n start writes back) n w)
    orec_commits-both start writes back low w r may = go (w.clock == start) (λ q. eqb-true w.clock start q)
      where
        e : Entry
        e = orec_entry n (start + 1) writes (w.views n)

        next : Bool → View
        next b = record (view_after (orec_commit n start writes back) w (w.views n) w.clock) {
          history = if b then record (w.views n).history { made = e ∷ (w.views n).history.made; seen = e ∷ w.history; front = start + 1 } else (w.views n).history;
          owned = if b then entered_at (start + 1) back (w.views n).owned else (w.views n).owned;
        }

        at : Bool → World
        at b = record w { clock = if b then start + 1 else w.clock; history = if b then e ∷ w.history else w.history; views = put w.views n (next b) }

        own : OwnReads c.words (orec_projection w) (w.views n).attempt
        own = (r.runs.own n may.has.inside).attempt

        go : (b : Bool) → (b ≡ true → w.clock ≡ start) → Parts (at b) × Ranks w (at b)
        go true q = both_of w (at true) (next true) refl (record { lock = refl; taken = refl; phase = refl; inside = refl; writer = refl }) may.has.runs.phase
            (history-entry good c w (at true) n e (next true) refl refl refl refl refl (let k = q refl in omega arith) may.limit follows r.history)
            (owning.commit-kept (home_of c) c.words (orec_projection w) n e back may.has.inside (ap (λ k. k + 1) (sym (q refl))) may.ready (full-world w r)) r
          where
            sees : Explains (word_now w.history) (w.views n).attempt.reads
            sees a =
                subst (λ (k : ℕ). over (w.views n).attempt.reads a k ≡ k) (word_at-all w.history (w.clock + 1) (w.views n).attempt.start a
                r.history.below (let k = q refl in let f = may.from in omega arith)) (own.sees a)

            follows : Follows good c e w.history
            follows = record {
              caller = low;
              number = ap length (r.history.known n).made;
              later = let k = q refl in let o = r.history.opened in omega arith;
              reads = sees;
              reads_inside = own.reads_inside;
              writes_inside = may.writes_inside;
              writes_small = may.writes_small;
              writes_some = may.wrote;
              leaves = may.keeps (word_now w.history) (legal-good good c w.history r.history.legal) sees (λ a. legal-small good c w.history a r.history.legal);
            }
        go false q = both_of w (at false) (next false) refl (record { lock = refl; taken = refl; phase = refl; inside = refl; writer = refl }) may.has.runs.phase
            (history-kept good c w (at false) n (next false) refl refl refl refl r.history)
            (quiet (home_of c) c.words (orec_projection w) n (orec_view (w.views n)) refl (r.runs.own n) (full-world w r)) r

    pub orec_commits : (start : ℕ) (writes back : List Cell) → n < c.callers → StepLaw (OrecWorld good c) (orec_commit n start writes back) Nothing n (CanOrecCommit (home_of c) good c.words start writes back)
    orec_commits start writes back low w r may = record {
      rule = whole_of x (orec_commits-both start writes back low w r may).0 (steps (w.clock == start) refl (λ q. eqb-true w.clock start q));
      advances = grows (w.clock == start) (λ q. eqb-true w.clock start q);
      shown = tt;
    }
      where
        x : World
        x = world_after (orec_commit n start writes back) n w

        e : Entry
        e = orec_entry n (start + 1) writes (w.views n)

        next : Bool → View
        next b = record (view_after (orec_commit n start writes back) w (w.views n) w.clock) {
          history = if b then record (w.views n).history { made = e ∷ (w.views n).history.made; seen = e ∷ w.history; front = start + 1 } else (w.views n).history;
          owned = if b then entered_at (start + 1) back (w.views n).owned else (w.views n).owned;
        }

        at : Bool → World
        at b = record w { clock = if b then start + 1 else w.clock; history = if b then e ∷ w.history else w.history; views = put w.views n (next b) }

        grows : (b : Bool) → (b ≡ true → w.clock ≡ start) → Advances w (at b)
        grows true q = let k = q refl in advances-entry w (at true) e refl (omega arith) (le_refl (start + 1)) (le_refl w.done) refl
        grows false q = advances-same w (at false) refl (le_refl w.clock) (le_refl w.done) refl

        step_trace : (b : Bool) → (if b then record (w.views n).steps { rises = (w.views n).steps.rises + 1 } else (w.views n).steps).step_trace ≡ (w.views n).steps.step_trace
        step_trace true = refl
        step_trace false = refl

        steps : (b : Bool) → (w.clock == start) ≡ b → (b ≡ true → w.clock ≡ start) → StepsRule c (steps_projection x)
        steps true q k =
            steps-raised c (orec_commit n start writes back) n w 1 low
            (ap (λ (b : Bool). if b then start + 1 else w.clock) q ∙ ap (λ u. u + 1) (sym (k refl))) (step_trace (w.clock == start))
            (ap (λ (b : Bool). (if b then record (w.views n).steps { rises = (w.views n).steps.rises + 1 } else (w.views n).steps).rises) q)
            r.steps
        steps false q k =
            steps-kept c (orec_commit n start writes back) n w (ap (λ (b : Bool). if b then start + 1 else w.clock) q)
            (step_trace (w.clock == start))
            (ap (λ (b : Bool). (if b then record (w.views n).steps { rises = (w.views n).steps.rises + 1 } else (w.views n).steps).rises) q)
            r.steps

    -- no kind lets a rank fall
    pub orec_begins-ranks : (w : World) → OrecWorld good c w → CanOrecBegin (w.views n) → Ranks w (world_after (orec_begin) n w)
    orec_begins-ranks w g may = (orec_begins-both w g may).1

    pub orec_samples-ranks : (r : ℕ) (a : ℕ) → (w : World) → OrecWorld good c w → CanOrecSample (home_of c) r a (w.views n) → Ranks w (world_after (orec_sample r a) n w)
    orec_samples-ranks r a w g may = ranks_of w (world_after (orec_sample r a) n w) (view_after (orec_sample r a) w (w.views n) (answer (orec_sample r a) w)) refl (orec_samples-next r a w g may)

    pub orec_loads-ranks : (a : ℕ) → (w : World) → OrecWorld good c w → CanOrecLoad a (w.views n) → Ranks w (world_after (orec_load a) n w)
    orec_loads-ranks a w g may = ranks_of w (world_after (orec_load a) n w) (view_after (orec_load a) w (w.views n) (answer (orec_load a) w)) refl (orec_loads-next a w g may)

    pub orec_confirms-ranks : (r : ℕ) → (w : World) → OrecWorld good c w → CanOrecConfirm (home_of c) c.words r (w.views n) → Ranks w (world_after (orec_confirm r) n w)
    orec_confirms-ranks r w g may = ranks_of w (world_after (orec_confirm r) n w) (view_after (orec_confirm r) w (w.views n) (answer (orec_confirm r) w)) refl (orec_confirms-next r w g may)

    pub orec_clocks-ranks : (todo : List Cell) → (w : World) → OrecWorld good c w → CanOrecClock (home_of c) todo (w.views n) → Ranks w (world_after (orec_clock todo) n w)
    orec_clocks-ranks todo w g may = ranks_of w (world_after (orec_clock todo) n w) (view_after (orec_clock todo) w (w.views n) (answer (orec_clock todo) w)) refl (orec_clocks-next todo w g may)

    pub orec_clocks_all-ranks : (w : World) → OrecWorld good c w → CanOrecClock (home_of c) [] (w.views n) → Ranks w (world_after (orec_clock_all) n w)
    orec_clocks_all-ranks w g may = ranks_of w (world_after (orec_clock_all) n w) (view_after (orec_clock_all) w (w.views n) (answer (orec_clock_all) w)) refl (orec_clocks_all-next w g may)

    pub orec_passes-ranks : (r : ℕ) (b : ℕ) → (w : World) → OrecWorld good c w → CanOrecPass (home_of c) r b (w.views n) → Ranks w (world_after (orec_pass r b) n w)
    orec_passes-ranks r b w g may = ranks_of w (world_after (orec_pass r b) n w) (view_after (orec_pass r b) w (w.views n) (answer (orec_pass r b) w)) refl (orec_passes-next r b w g may)

    pub orec_lasts-ranks : (r : ℕ) (b : ℕ) → (w : World) → OrecWorld good c w → CanOrecLast (home_of c) r b (w.views n) → Ranks w (world_after (orec_last r b) n w)
    orec_lasts-ranks r b w g may = (orec_lasts-both r b w g may).1

    pub orec_looks-ranks : (r : ℕ) → (w : World) → OrecWorld good c w → HasOrec (w.views n) → Ranks w (world_after (orec_look r) n w)
    orec_looks-ranks r w g may = ranks_of w (world_after (orec_look r) n w) (view_after (orec_look r) w (w.views n) (answer (orec_look r) w)) refl (orec_looks-next r w g may)

    pub orec_limits-ranks : (w : World) → OrecWorld good c w → HasOrec (w.views n) → Ranks w (world_after (orec_limit) n w)
    orec_limits-ranks w g may = ranks_of w (world_after (orec_limit) n w) (view_after (orec_limit) w (w.views n) (answer (orec_limit) w)) refl (orec_limits-next w g may)

    pub orec_locks-ranks : (r : ℕ) (version : ℕ) → (w : World) → OrecWorld good c w → CanOrecLock version (w.views n) → Ranks w (world_after (orec_lock n r version) n w)
    orec_locks-ranks r version w g may = ranks_of w (world_after (orec_lock n r version) n w) (view_after (orec_lock n r version) w (w.views n) (answer (orec_lock n r version) w)) refl (orec_locks-next r version w g may)

    pub orec_commits-ranks : (start : ℕ) (writes : List Cell) (back : List Cell) → n < c.callers → (w : World) → OrecWorld good c w
        → CanOrecCommit (home_of c) good c.words start writes back (w.views n) → Ranks w (world_after (orec_commit n start writes back) n w)
    orec_commits-ranks start writes back low w g may = (orec_commits-both start writes back low w g may).1

    pub orec_writes_back-ranks : (a : ℕ) (x : ℕ) → (w : World) → OrecWorld good c w → CanOrecWriteBack a x (w.views n) → Ranks w (world_after (orec_write_back a x) n w)
    orec_writes_back-ranks a x w g may = ranks_of w (world_after (orec_write_back a x) n w) (view_after (orec_write_back a x) w (w.views n) (answer (orec_write_back a x) w)) refl (orec_writes_back-next a x w g may)

    pub orec_times-ranks : (r : ℕ) (version : ℕ) → (w : World) → OrecWorld good c w → CanOrecTime (home_of c) r version (w.views n) → Ranks w (world_after (orec_release r version) n w)
    orec_times-ranks r version w g may =
        ranks_of w (world_after (orec_release r version) n w)
        (view_after (orec_release r version) w (w.views n) (answer (orec_release r version) w)) refl (orec_times-next r version w g may)

    pub orec_olds-ranks : (r : ℕ) (version : ℕ) → (w : World) → OrecWorld good c w → CanOrecOld (home_of c) r version (w.views n) → Ranks w (world_after (orec_release r version) n w)
    orec_olds-ranks r version w g may =
        ranks_of w (world_after (orec_release r version) n w)
        (view_after (orec_release r version) w (w.views n) (answer (orec_release r version) w)) refl (orec_olds-next r version w g may)

    pub orec_ups-ranks : (r : ℕ) (version : ℕ) → (w : World) → OrecWorld good c w → CanOrecUp (home_of c) r version (w.views n) → Ranks w (world_after (orec_release r version) n w)
    orec_ups-ranks r version w g may = ranks_of w (world_after (orec_release r version) n w) (view_after (orec_release r version) w (w.views n) (answer (orec_release r version) w)) refl (orec_ups-next r version w g may)

    pub orec_own_loads-ranks : (a : ℕ) → (w : World) → OrecWorld good c w → CanOrecOwnLoad (home_of c) c.words a (w.views n) → Ranks w (world_after (orec_own_load a) n w)
    orec_own_loads-ranks a w g may = ranks_of w (world_after (orec_own_load a) n w) (view_after (orec_own_load a) w (w.views n) (answer (orec_own_load a) w)) refl (orec_own_loads-next a w g may)

    pub orec_saves-ranks : (a : ℕ) → (w : World) → OrecWorld good c w → CanOrecSave (home_of c) a (w.views n) → Ranks w (world_after (orec_save a) n w)
    orec_saves-ranks a w g may = ranks_of w (world_after (orec_save a) n w) (view_after (orec_save a) w (w.views n) (answer (orec_save a) w)) refl (orec_saves-next a w g may)

    pub orec_places-ranks : (a : ℕ) (x : ℕ) → (w : World) → OrecWorld good c w → CanOrecPlace a (w.views n) → Ranks w (world_after (orec_place a x) n w)
    orec_places-ranks a x w g may = ranks_of w (world_after (orec_place a x) n w) (view_after (orec_place a x) w (w.views n) (answer (orec_place a x) w)) refl (orec_places-next a x w g may)

    pub orec_restores-ranks : (a : ℕ) (x : ℕ) → (w : World) → OrecWorld good c w → CanOrecRestore a x (w.views n) → Ranks w (world_after (orec_restore a x) n w)
    orec_restores-ranks a x w g may = ranks_of w (world_after (orec_restore a x) n w) (view_after (orec_restore a x) w (w.views n) (answer (orec_restore a x) w)) refl (orec_restores-next a x w g may)

    pub orec_raises_clock-ranks : (least : ℕ) → (w : World) → OrecWorld good c w → CanOrecRaiseClock least (w.views n) → Ranks w (world_after (orec_raise_clock least) n w)
    orec_raises_clock-ranks least w g may =
        ranks_of w (world_after (orec_raise_clock least) n w)
        (view_after (orec_raise_clock least) w (w.views n) (answer (orec_raise_clock least) w)) refl (orec_raises_clock-next least w g may)
