-- What begin and read of OrecEager come to.
use Rattle.std.proofs.Common.{ℕ, ◌≡◌, ◌≢◌, ◌<◌, ◌+◌, List, [], ◌∷◌, ◌++◌, length, Bool, true, false, refl, sym, ap, ◌∙◌, arith, subst, inl, inr}
use Rattle.std.specs.Prelude.{None}
use Rattle.stm_model.specs.Algorithms.{has_records}
use Rattle.stm_model.specs.declared.alg.Alg.{Alg}
use Rattle.stm_model.specs.declared.alg.Alg.TheVariants.{OrecEager}
use Rattle.stm_model.specs.declared.config.Config.{Config}
use Rattle.stm_model.specs.declared.stop.Cause.{Cause}
use Rattle.stm_model.specs.Memories.{item_at, put}
use Rattle.rule_base.specs.declared.entries.Cell.{Cell}
use Rattle.rule_base.specs.declared.entries.Entry.{Entry}
use Rattle.rule_base.specs.declared.views.Ownership.{Ownership}
use Rattle.rule_base.specs.declared.views.Sample.{Sample}
use Rattle.rule_base.specs.declared.views.TracedStep.{TracedStep}
use Rattle.rule_base.specs.declared.views.Validation.{Validation}
use Rattle.rule_base.specs.declared.views.View.{View}
use Rattle.rule_base.specs.Bridge.{items, of_words}
use Rattle.rule_base.specs.Lemmas.BridgeLemmas.{item-some}
use Rattle.rule_base.specs.History.{word_now, Below, Explains, Inside, Legal}
use Rattle.rule_base.specs.Lemmas.HistoryLemmas.{inside-more}
use Rattle.rule_base.specs.Own.{Own}
use Rattle.rule_base.specs.StepKinds.{Tells}
use Rattle.rule_orec.specs.OrecReading.{no_check, no_sample}
use Rattle.rule_orec.specs.OrecSteps.{is_eager, HasOpen, orec_begin}
use Rattle.stm_rule.specs.declared.local.Local.{Local}
use Rattle.stm_rule.specs.Attempts.{own_of, IsInside}
use Rattle.stm_rule.specs.Attempts as attempts
use Rattle.stm_rule.specs.EagerKept.{IsEager}
use Rattle.alg_orec.specs.RecordFindings.{FindsStart}
use Rattle.stm_answers.specs.declared.answers.Read.TheVariants as answers
use Rattle.stm_answers.specs.Answers.{HasRead, Quits}
use Rattle.stm_answers.specs.CallerState.{known_of, is_irrevocable, has_written}
use Rattle.stm_logs.specs.LogStates.{LogState}
use Rattle.stm_gate.specs.Logging.{put-new}
use Rattle.stm_gate.specs.Starts.{CanBegin, StartsAt}
use Rattle.alg_orec.proofs.Eager.EagerCalls.{RunsEager}
use Rattle.alg_orec.proofs.Eager.EagerProving as proving
use Rattle.alg_orec.proofs.LockingLaws.{unheld-of}
use Rattle.alg_orec.proofs.RecordReads as reads
use Rattle.alg_orec.proofs.RecordReads.{IsReading}
use Rattle.alg_orec.specs.EagerEnding.{CanAbortEager, AbortsEager}
use Rattle.alg_orec.specs.EagerTaking.{CanLoadWord}
use Rattle.alg_orec.specs.Loading.{moved, MayMove, RefusesRead, HasLoaded}
use Rattle.alg_orec.specs.Validating.{HasVersions}

module _ (good : List ℕ → Type 0) (c : Config) (n : ℕ) (l : Local) (v : View) where
  abbrev pub rule : (ℕ → ℕ) → Type 0
  rule = of_words good c.words

  module _ (runs : RunsEager good c n l v) where
    abbrev o : Own
    o = own_of l

    abbrev i : IsInside good c n l v
    i = runs.inside

    abbrev eager : v.gate.algorithm ≡ OrecEager
    eager = runs.eager

    abbrev k : IsEager c l v
    k = runs.kept

    ungranted : v.gate.granted ≡ false
    ungranted = k.optimistic.ungranted

    pub reading : IsReading good c n l v
    reading = record {
      inside = i;
      orec = inr eager;
      ungranted = ungranted;
      quiet = runs.quiet;
      reads = k.reads;
      written = λ w gate owned. proving.written c l v k eager w o gate (ap (λ (h : Ownership). h.in_place) owned);
    }

    pub written-here : (known_of v o).log.writes ≡ l.writes.items
    written-here = proving.written c l v k eager v o refl refl

    pub revocable : is_irrevocable (known_of v o) ≡ false
    revocable = proving.revocable c l v k eager v o refl

    versions : HasVersions l
    versions r version e = let p = item-some v.owned.held r version (sym (ap (item_at r) k.locks) ∙ e) in let b = k.below r p.0 in let s = p.1 in omega arith

    -- THE REFUSALS
    pub opens : HasOpen v
    opens = record { has = record { runs = record { phase = i.phase; algorithm = ap has_records eager; plain = ungranted }; inside = k.inside }; open_yet = k.open_yet }

    pub may-take : (m : Local) (start : ℕ) (seen : List Entry) (rs : List Cell) (sample : Sample) (check : Validation)
        (more : List TracedStep) → m.locks ≡ l.locks → m.undo ≡ l.undo → CanAbortEager c m (moved v start seen rs sample check more)
    may-take m start seen rs sample check more locks undo = record {
      gives = record {
        opens = record { has = record { runs = record { phase = i.phase; algorithm = ap has_records eager; plain = ungranted }; inside = k.inside }; open_yet = k.open_yet };
        repaid = k.repaid;
        undo = ap (λ (q : LogState). q.items) undo ∙ k.undo;
        undoable = k.undoable;
        words = k.old_words;
        locks = ap (λ (q : LogState). q.items) locks ∙ k.locks;
        places = k.places;
        below = k.below;
        earlier = λ quiescent. absurd (let f : true ≡ false = sym quiescent ∙ k.optimistic.not_quiescent in cc);
      };
      unlocked = k.optimistic.unlocked;
      unfixed = k.optimistic.unfixed;
      unwritten = k.optimistic.unwritten;
      uncommitted = k.optimistic.uncommitted;
      unstored = k.optimistic.unstored;
      unentered = i.unentered;
    }

    pub may-take-here : CanAbortEager c l v
    may-take-here = subst (CanAbortEager c l) (sym (reads.here reading)) (may-take l v.attempt.start v.history.seen v.attempt.reads v.sample v.check [] refl refl)

    clean : (u : View) → u.gate ≡ v.gate → u.owned ≡ v.owned → has_written (known_of u o) ≡ false → u.owned.held ≡ []
    clean u gate owned e = ap (λ (h : Ownership). h.held) owned ∙ proving.never-held c l v k eager u o gate (ap (λ (h : Ownership). h.undo) owned) e

    -- the attempt ended from a view that the load came to
    pub quits-moved : (start : ℕ) (seen : List Entry) (rs : List Cell) (sample : Sample) (check : Validation) (more : List TracedStep)
        (w : View) → MayMove rule c n start seen more v → AbortsEager n (moved v start seen rs sample check more) w
        → Quits (known_of v o) (known_of w o)
    quits-moved start seen rs sample check more w moves g = subst (λ (y : View). Quits (known_of v o) (known_of y o)) (sym g.is) (reads.quits-moved reading start seen more moves rs sample check g.before g.unmade
        (proving.rose n v (moved v start seen rs sample check more) w o eager ungranted k.optimistic.rises refl (clean v refl refl) g))

    pub quits-here : (w : View) → AbortsEager n v w → Quits (known_of v o) (known_of w o)
    quits-here w g = quits-moved v.attempt.start v.history.seen v.attempt.reads v.sample v.check [] w (inl (refl, refl)) (subst (λ (y : View). AbortsEager n y w) (reads.here reading) g)

    pub may-load : (a : ℕ) → a < c.words → item_at a l.writes.items ≡ None → CanLoadWord c a l v
    may-load a low unwritten = record {
      can = record {
        opens = opens;
        start = i.start;
        reads = k.reads;
        locks = k.locks;
        versions = versions;
        level = λ one. i.start ∙ (k.sole one ∙ ap (λ (q : ℕ). c.clock + q) (sym k.optimistic.rises));
      };
      eager = k.eager;
      olds = λ r t. (let s = i.start in let o = k.olds r t in omega arith);
      unwritten = unheld-of v.owned.in_place l.writes.items a k.writes unwritten;
      front = i.front;
      inside = low;
    }

    pub may-take-refused : (a : ℕ) (cause : Cause) (m : Local) (u : View) → RefusesRead rule c n a cause l v m u → CanAbortEager c m u
    may-take-refused a cause m u h = subst (CanAbortEager c m) (sym h.is) (may-take m m.start h.seen v.attempt.reads u.sample u.check h.more (ap (λ (q : Local). q.locks) h.local) (ap (λ (q : Local). q.undo) h.local))

    pub reads-refused : (a : ℕ) (cause : Cause) (m : Local) (u w : View) → item_at a l.writes.items ≡ None → item_at a l.reads.items ≡ None
        → length l.reads.items ≢ l.reads.len → RefusesRead rule c n a cause l v m u → AbortsEager n u w
        → HasRead good c n a (answers.Conflict cause) (known_of v o) (known_of w o)
    reads-refused a cause m u w unwritten unread room h g =
        subst (λ (y : View). HasRead good c n a (answers.Conflict cause) (known_of v o) (known_of y o)) (sym g.is) (reads.reads-refused
        reading a cause m u g.before unwritten unread room h g.unmade
        (subst (λ (y : View). Quits (known_of v o) (known_of y o)) g.is (quits-moved m.start h.seen v.attempt.reads u.sample u.check h.more w h.moves (subst (λ (y : View). AbortsEager n y w) h.is g))))

    -- the attempt stands where the load came to, and its descriptor has what was read
    pub stays-moved : (start : ℕ) (seen : List Entry) (rs : List Cell) (sample : Sample) (check : Validation) (more : List TracedStep)
        (log : LogState) → MayMove rule c n start seen more v → Legal rule c seen → Below seen (start + 1) → Explains (word_now seen) rs
        → Inside c.words rs → log.items ≡ items rs → IsInside good c n (record l { start = start; reads = log }) (moved v start seen rs sample check more)
    stays-moved start seen rs sample check more log moves legal below sees inside is = reads.stays-moved reading start seen more moves rs sample check log legal below sees inside
        (keeps-eager (record {
          optimistic = reads.optimistic-moved reading start seen more moves rs sample check k.optimistic;
          inside = k.inside;
          eager = k.eager;
          open_yet = k.open_yet;
          unraised = k.unraised;
          repaid = k.repaid;
          reads = is;
          locks = k.locks;
          writes = k.writes;
          undo = k.undo;
          wrote = k.wrote;
          undoable = k.undoable;
          words = k.words;
          small = k.small;
          old_words = k.old_words;
          covered = k.covered;
          shorter = k.shorter;
          most = k.most;
          few = k.few;
          places = k.places;
          olds = λ r t. (let o = k.olds r t in let s = i.start in let b = reads.begins reading start seen more moves in omega arith);
          below = k.below;
          committing = k.committing;
          marked = k.marked;
          sole = reads.sole-at reading start seen more moves k.sole;
        }))
      where
        u : View
        u = moved v start seen rs sample check more

        q : Local
        q = record l { start = start; reads = log }

        keeps-eager : IsEager c q u → attempts.Keeps c q.algorithm q.granted q u
        keeps-eager p = subst (λ (b : Alg). attempts.Keeps c b l.granted q u) (sym (sym i.named ∙ eager)) (subst (λ (b : Bool). attempts.Keeps c OrecEager b q u) (sym runs.plain) p)

    -- with the read in its log
    pub stays-read : (a x : ℕ) (m : Local) (w : View) (log : LogState) → a < c.words → item_at a l.reads.items ≡ None
        → log ≡ record l.reads { items = l.reads.items ++ (a, x) ∷ [] } → HasLoaded rule c n a x l v m w
        → IsInside good c n (record m { reads = log }) w
    stays-read a x m w log low unread is h = subst (λ (y : View). IsInside good c n (record m { reads = log }) y) (sym h.is) (subst (λ (q : Local). IsInside good c n (record q { reads = log }) u) (sym h.local)
        (stays-moved m.start h.seen reads no_sample no_check h.more log h.moves h.legal h.below h.sees
        (inside-more c.words (record { at = a; value = x }) v.attempt.reads low i.reads_inside)
        (ap (λ (q : LogState). q.items) is ∙ (sym (put-new a x l.reads.items unread) ∙ ap (put a x) k.reads))))
      where
        reads : List Cell
        reads = record { at = a; value = x } ∷ v.attempt.reads

        u : View
        u = moved v m.start h.seen reads no_sample no_check h.more

-- BEGIN
pub tells-started : (good : List ℕ → Type 0) (c : Config) (n : ℕ) (v : View) → CanBegin OrecEager v → (clock : ℕ) (w : View)
    → Tells orec_begin (FindsStart (of_words good c.words) c) v clock w → StartsAt good c n OrecEager clock v w
tells-started good c n v can clock w t = reads.tells-started good c n OrecEager (inr refl) v can clock w t (λ l. record {
  optimistic = reads.optimistic-begun good c n OrecEager (inr refl) v can clock w t;
  inside = refl;
  eager = ap is_eager can.named;
  open_yet = refl;
  unraised = refl;
  repaid = refl;
  reads = refl;
  locks = refl;
  writes = refl;
  undo = refl;
  wrote = refl;
  undoable = λ a e. absurd cc;
  shorter = omega arith;
  most = omega arith;
  words = λ a e. absurd cc;
  small = λ a d e. e;
  old_words = λ a e. absurd cc;
  covered = λ a e. absurd cc;
  few = omega arith;
  places = λ a e. absurd cc;
  olds = λ r e. absurd cc;
  below = λ r e. absurd cc;
  committing = λ e. absurd cc;
  marked = refl;
  sole = reads.sole-begun good c n OrecEager (inr refl) v can clock w t;
}) (λ o fresh. refl)
