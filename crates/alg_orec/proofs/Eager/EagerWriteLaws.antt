-- What a write of OrecEager comes to.
use Rattle.std.proofs.Common.{ℕ, ◌≡◌, ◌≢◌, ◌<◌, ◌≤◌, ◌+◌, List, [], ◌∷◌, ◌++◌, length, Bool, true, false, refl, sym, ap, ◌∙◌, arith, subst, inl, inr, append_assoc, length-append}
use Rattle.std.specs.Prelude.{◌^◌, ◌⊎◌, ◌==◌, ◌&&◌, not, if◌then◌else◌, Option, Some, None}
use Rattle.std.proofs.lemmas.Bool.Decides.{nat_tests}
use Rattle.std.proofs.lemmas.List.Elements.{Contains-append_right}
use Rattle.stm_model.specs.Algorithms.{has_records, logs_writes, asks_at_write}
use Rattle.stm_model.specs.declared.alg.Alg.{Alg}
use Rattle.stm_model.specs.declared.alg.Alg.TheVariants.{OrecEager, Tml}
use Rattle.stm_model.specs.declared.config.Config.{Config}
use Rattle.stm_model.specs.declared.config.TheConstants.{CLOCK_LIMIT}
use Rattle.stm_model.specs.declared.stop.Cause.{Cause}
use Rattle.stm_model.specs.Memories.{item_at, put, is_empty}
use Rattle.rule_base.specs.Encodings.{fenced}
use Rattle.rule_base.specs.declared.entries.Cell.{Cell}
use Rattle.rule_base.specs.declared.entries.Entry.{Entry}
use Rattle.rule_base.specs.declared.layout.At.TheVariants.{Clock, Heap}
use Rattle.rule_base.specs.declared.seats.SeatView.{SeatView}
use Rattle.rule_base.specs.declared.views.Act.TheVariants.{Load, Store}
use Rattle.rule_base.specs.declared.views.Sample.{Sample}
use Rattle.rule_base.specs.declared.views.TracedStep.{TracedStep}
use Rattle.rule_base.specs.declared.views.Validation.{Validation}
use Rattle.rule_base.specs.declared.views.View.{View}
use Rattle.rule_base.specs.Bridge.{addresses, items, of_words}
use Rattle.rule_base.specs.History.{member, touches, Inside}
use Rattle.rule_base.specs.Lemmas.HistoryLemmas.{inside-more, small-more}
use Rattle.rule_base.specs.Own.{Own}
use Rattle.rule_base.specs.Ranks.{home_of}
use Rattle.rule_base.specs.StepKinds.{Nothing, Tells}
use Rattle.rule_orec.specs.OrecSteps.{orec_place, CanOrecPlace}
use Rattle.stm_gate.proofs.KeptLaws.{cells-longer, cells-shorter, kept-put, kept-there, length-addresses, member-item}
use Rattle.stm_gate.specs.Leaving.{left}
use Rattle.stm_gate.specs.LeavingLaws.{step_trace-left, finds-full, found-later}
use Rattle.stm_gate.specs.Logging.{put-new}
use Rattle.stm_gate.specs.Opacity.{opaque-at}
use Rattle.stm_gate.proofs.Peeling.{has-touched}
use Rattle.stm_rule.specs.declared.local.Local.{Local}
use Rattle.stm_rule.specs.Attempts.{own_of, IsInside, HasRoom}
use Rattle.stm_rule.specs.Attempts as attempts
use Rattle.stm_rule.specs.EagerKept.{IsEager}
use Rattle.stm_answers.specs.declared.answers.Write.{Write}
use Rattle.stm_answers.specs.declared.answers.Write.TheVariants as writes
use Rattle.stm_answers.specs.Answers.{HasWritten, StartMoves, kept_with}
use Rattle.stm_answers.specs.Causes.{Conflicts, FindsNewer, has_item, is_some, writes_full}
use Rattle.stm_answers.specs.Causes.Asked.{ForWord}
use Rattle.stm_answers.specs.Evidence.{Found}
use Rattle.stm_answers.specs.CallerState.{Grows, known_of, kept_under, written_under, is_in, is_closing, is_irrevocable}
use Rattle.stm_logs.specs.declared.push.Push.{Push}
use Rattle.stm_logs.specs.declared.push.Push.TheVariants as pushes
use Rattle.stm_logs.specs.LogStates.{LogState, Pushes}
use Rattle.alg_orec.proofs.Eager.EagerCalls.{RunsEager}
use Rattle.alg_orec.proofs.Eager.EagerLaws as laws
use Rattle.alg_orec.proofs.Eager.EagerProving as proving
use Rattle.alg_orec.proofs.LoadLaws.{owed-later}
use Rattle.alg_orec.proofs.RecordReads as records
use Rattle.alg_orec.proofs.LockingLaws.{held-of, unheld-of}
use Rattle.alg_orec.specs.EagerEnding.{AllBelow, CanAbortEager, AbortsEager}
use Rattle.alg_orec.specs.EagerTaking.{AllSeen, CanTake, HasTaken, FindsLimit, RefusesTake, CanStoreFirst, StoresFirst}
use Rattle.alg_orec.specs.Loading.{MayMove, MovesOwed, RefusesRead}
use Rattle.alg_orec.specs.Validating.{load_of}

pub held-some : (cs : List Cell) (ws : List (ℕ × ℕ)) (a : ℕ) → ws ≡ items cs → is_some (item_at a ws) ≡ true → touches cs a ≡ true
held-some cs ws a is e = by (item_at a ws) refl e
  where
    by : (m : Option ℕ) → item_at a ws ≡ m → is_some m ≡ true → touches cs a ≡ true
    by (Some x) f g = held-of cs ws a x is f
    by None f g = absurd cc

some-put : (a x : ℕ) (ws : List (ℕ × ℕ)) → is_empty (put a x ws) ≡ false
some-put a x [] = refl
some-put a x (w ∷ ws) = by (w.0 == a)
  where
    by : (b : Bool) → is_empty (if b then (a, x) ∷ ws else w ∷ put a x ws) ≡ false
    by true = refl
    by false = refl

-- two steps of a seat, one after the other
pub seat-then : {K : Type 0} → (s u w : SeatView K) → u ≡ record s { view = u.view } → w ≡ record u { view = w.view } → w ≡ record s { view = w.view }
seat-then {K} s u w e f =
    λ j.
    record {
      who = (ap (λ (y : SeatView K). y.who) f ∙ ap (λ (y : SeatView K). y.who) e) j;
      view = w.view;
      gathered = (ap (λ (y : SeatView K). y.gathered) f ∙ ap (λ (y : SeatView K). y.gathered) e) j;
    }

-- the view after a store of x at a
abbrev pub stored : View → ℕ → List Entry → List Cell → Sample → Validation → ℕ → ℕ → List Cell → List TracedStep → View
stored v start seen held sample check a x undo more = record v {
  history = record v.history { seen = seen; front = start };
  attempt = record v.attempt { start = start };
  owned = record v.owned { held = held; in_place = record { at = a; value = x } ∷ v.owned.in_place; undo = undo };
  sample = sample;
  check = check;
  steps = record v.steps { step_trace = more ++ v.steps.step_trace };
}

module _ (good : List ℕ → Type 0) (c : Config) (n : ℕ) (l : Local) (v : View) where
  abbrev rule : (ℕ → ℕ) → Type 0
  rule = of_words good c.words

  -- what a store leaves, of a word that was or wasn't written before
  pub record Stores (a x : ℕ) (q : Local) (w : View) : Type 0 where
    pub local : q ≡ record l { start = q.start; locks = q.locks; undo = q.undo; writes = q.writes; wrote = true }
    pub seen : List Entry
    pub held : List Cell
    pub sample : Sample
    pub check : Validation
    pub undo : List Cell
    pub more : List TracedStep
    pub is : w ≡ stored v q.start seen held sample check a x undo more
    pub moves : MayMove rule c n q.start seen more v
    pub owed : MovesOwed c a q.start more v
    pub locks : q.locks.items ≡ items held
    pub writes : q.writes.items ≡ put a x l.writes.items
    pub undos : q.undo.items ≡ items undo
    pub undoable : (b : ℕ) → touches (record { at = a; value = x } ∷ v.owned.in_place) b ≡ true → touches undo b ≡ true
    pub covered : (b : ℕ) → touches undo b ≡ true → touches held (home_of c b) ≡ true
    pub kept : addresses (items undo) ≡ kept_with a (known_of v (own_of l))
    pub old_words : Inside c.words undo
    pub most : length q.undo.items ≤ q.undo.len
    pub few : length q.locks.items ≤ length q.undo.items
    pub places : Inside c.records held
    pub olds : AllSeen q.start held
    pub below : AllBelow CLOCK_LIMIT held
    pub undo_len : q.undo.len ≡ l.undo.len
    pub writes_len : q.writes.len ≡ l.writes.len
    pub marks : q.writes.marks ≡ l.writes.marks
    pub marks_limit : q.writes.marks_limit ≡ l.writes.marks_limit
    pub locks_len : q.locks.len ≡ l.locks.len

  module _ (runs : RunsEager good c n l v) where
    abbrev i : IsInside good c n l v
    i = runs.inside

    abbrev eager : v.gate.algorithm ≡ OrecEager
    eager = runs.eager

    abbrev quiet : l.committing ≡ false
    quiet = runs.quiet

    abbrev k : IsEager c l v
    k = runs.kept

    abbrev o : Own
    o = own_of l

    ungranted : v.gate.granted ≡ false
    ungranted = k.optimistic.ungranted

    here-written : (known_of v o).log.writes ≡ l.writes.items
    here-written = laws.written-here good c n l v runs

    -- WHAT IS KEPT, as contracts see it, is what the undo log has
    kept-here : (known_of v o).kept ≡ addresses (items v.owned.undo)
    kept-here = proving.kept-here c l v k eager v o refl refl

    pub is-kept : (a : ℕ) → member (known_of v o).kept a ≡ is_some (item_at a l.undo.items)
    is-kept a = ap (λ (ks : List ℕ). member ks a) kept-here ∙ (member-item a (items v.owned.undo) ∙ ap (has_item a) (sym k.undo))

    logged-touched : (a : ℕ) (b : Bool) → is_some (item_at a l.undo.items) ≡ b → touches v.owned.undo a ≡ b
    logged-touched a b e = has-touched a v.owned.undo ∙ (ap (has_item a) (sym k.undo) ∙ e)

    -- a word that is written has an item
    pub written-logged : (a : ℕ) → is_some (item_at a l.writes.items) ≡ true → is_some (item_at a l.undo.items) ≡ true
    written-logged a there = ap (has_item a) k.undo ∙ (sym (has-touched a v.owned.undo) ∙ k.undoable a (held-some v.owned.in_place l.writes.items a k.writes there))

    logs : logs_writes v.gate.algorithm ≡ true
    logs = ap logs_writes eager

    revocable : is_irrevocable (known_of v o) ≡ false
    revocable = laws.revocable good c n l v runs

    -- by whether the undo log has its length
    filled : (a : ℕ) (m b : Bool) → is_some (item_at a l.undo.items) ≡ m → (length l.undo.items == l.undo.len) ≡ b → writes_full a (known_of v o) ≡ (not m && b)
    filled a m b at count = λ j. logs j && (not (revocable j) && (not ((is-kept a ∙ at) j) && (ap (λ (k : ℕ). k == l.undo.len) size ∙ count) j))
      where
        size : length (known_of v o).kept ≡ length l.undo.items
        size = ap (λ (ks : List ℕ). length ks) kept-here ∙ (length-addresses (items v.owned.undo) ∙ ap (λ (ws : List (ℕ × ℕ)). length ws) (sym k.undo))

    pub room-free : (a : ℕ) → item_at a l.undo.items ≡ None → length l.undo.items ≢ l.undo.len → writes_full a (known_of v o) ≡ false
    room-free a none room = filled a false false (ap is_some none) (grind (arith, nat_tests))

    pub room-again : (a : ℕ) → is_some (item_at a l.undo.items) ≡ true → writes_full a (known_of v o) ≡ false
    room-again a there = filled a true (length l.undo.items == l.undo.len) there refl

    -- THE REFUSALS
    pub writes-full : (a x : ℕ) (w : View) → item_at a l.undo.items ≡ None → length l.undo.items ≡ l.undo.len → AbortsEager n v w → HasWritten good c n a x (writes.Full l.undo.len) (known_of v o) (known_of w o)
    writes-full a x w none full g = (laws.quits-here good c n l v runs w g, filled a false true (ap is_some none) (grind (arith, nat_tests)), refl)

    pub may-take : (a : ℕ) → a < c.words → 0 < c.records → HasRoom l → item_at a l.writes.items ≡ None → length l.undo.items ≢ l.undo.len → CanTake c a l v
    may-take a low records lengths none room = let most = k.most in let can = laws.may-load good c n l v runs a low none in record {
      can = can.can;
      unraised = k.unraised;
      olds = can.olds;
      below = k.below;
      places = k.places;
      room = λ unheld. (let f = k.few in let g = lengths.1 in let h : length l.undo.items < l.undo.len = grind (arith, room, most) in omega arith);
      records = records;
      front = can.front;
      inside = low;
    }

    pub writes-refused : (a x : ℕ) (cause : Cause) (m : Local) (u w : View) → item_at a l.undo.items ≡ None
        → length l.undo.items ≢ l.undo.len → RefusesRead rule c n a cause l v m u → AbortsEager n u w
        → HasWritten good c n a x (writes.Conflict cause) (known_of v o) (known_of w o)
    writes-refused a x cause m u w none room h g = (
      laws.quits-moved good c n l v runs m.start h.seen v.attempt.reads u.sample u.check h.more w h.moves (subst (λ (y : View). AbortsEager n y w) h.is g),
      subst (λ (y : View). Conflicts c n (ForWord a) cause (known_of v o) (known_of y o)) (sym g.is)
          (proving.conflicts-later c n (ForWord a) cause (known_of v o) (known_of u o) (known_of (left n g.before) o) (ap has_records eager) more.0 more.1 (h.why o o)),
      h.others,
      room-free a none room,
    )
      where
        more : (more : List TracedStep) × ((left n g.before).steps.step_trace ≡ more ++ u.steps.step_trace)
        more = step_trace-left n u g.before g.unmade.carried

    pub may-take-full : (clock : ℕ) (m : Local) (u : View) → FindsLimit rule c n clock l v m u → CanAbortEager c m u
    may-take-full clock m u h =
        subst (CanAbortEager c m) (sym h.is)
        (laws.may-take good c n l v runs m m.start h.seen v.attempt.reads u.sample u.check h.more (ap (λ (q : Local). q.locks) h.local)
        (ap (λ (q : Local). q.undo) h.local))

    pub writes-limit : (a x clock : ℕ) (m : Local) (u w : View) → item_at a l.undo.items ≡ None → length l.undo.items ≢ l.undo.len
        → FindsLimit rule c n clock l v m u → AbortsEager n u w
        → HasWritten good c n a x (writes.ClockFull clock) (known_of v o) (known_of w o)
    writes-limit a x clock m u w none room h g = let more = proving.ended-by n u w g in (
      laws.quits-moved good c n l v runs m.start h.seen v.attempt.reads u.sample u.check h.more w h.moves (subst (λ (y : View). AbortsEager n y w) h.is g),
      ap asks_at_write eager,
      finds-full clock v w o o h.limit (found-later Clock clock (known_of v o) (known_of u o) (known_of w o) (h.more, ap (λ (y : View). y.steps.step_trace) h.is, Load, h.found) more.0 more.1),
      room-free a none room,
    )

    -- whatever refused it
    pub refused-local : (a : ℕ) (refusal : Write) (m : Local) (u : View) → RefusesTake rule c n a refusal l v m u → (m ≡ record l { start = m.start }) × (u.gate ≡ v.gate)
    refused-local a writes.Done m u h = absurd h
    refused-local a (writes.Conflict cause) m u h = (h.local, ap (λ (y : View). y.gate) h.is)
    refused-local a (writes.Full limit) m u h = absurd h
    refused-local a (writes.ClockFull clock) m u h = (h.local, ap (λ (y : View). y.gate) h.is)

    pub may-take-refusal : (a : ℕ) (refusal : Write) (m : Local) (u : View) → RefusesTake rule c n a refusal l v m u → CanAbortEager c m u
    may-take-refusal a writes.Done m u h = absurd h
    may-take-refusal a (writes.Conflict cause) m u h = laws.may-take-refused good c n l v runs a cause m u h
    may-take-refusal a (writes.Full limit) m u h = absurd h
    may-take-refusal a (writes.ClockFull clock) m u h = may-take-full clock m u h

    pub writes-refusal : (a x : ℕ) (refusal : Write) (m : Local) (u w : View) → item_at a l.undo.items ≡ None
        → length l.undo.items ≢ l.undo.len → RefusesTake rule c n a refusal l v m u → AbortsEager n u w
        → HasWritten good c n a x refusal (known_of v o) (known_of w o)
    writes-refusal a x writes.Done m u w none room h g = absurd h
    writes-refusal a x (writes.Conflict cause) m u w none room h g = writes-refused a x cause m u w none room h g
    writes-refusal a x (writes.Full limit) m u w none room h g = absurd h
    writes-refusal a x (writes.ClockFull clock) m u w none room h g = writes-limit a x clock m u w none room h g

    -- THE STORES: of a word under a record that was taken, or was held
    pub may-store : (a : ℕ) (m : Local) (u : View) → fenced v.gate.fence a ≡ false → HasRoom l → item_at a l.writes.items ≡ None
        → item_at a l.undo.items ≡ None → length l.undo.items ≢ l.undo.len → HasTaken rule c n a l v m u → CanStoreFirst c a m u
    may-store a m u spared lengths none new room h = subst (λ (y : View). CanStoreFirst c a m y) (sym h.is) (subst (λ (q : Local). CanStoreFirst c a q (laws_taken)) (sym h.local) (record {
      opens = record { has = record { runs = record { phase = i.phase; algorithm = ap has_records eager; plain = ungranted }; inside = k.inside }; open_yet = k.open_yet };
      eager = k.eager;
      spared = spared;
      held = h.its;
      unwritten = unheld-of v.owned.in_place l.writes.items a k.writes none;
      fresh = new;
      unlogged = none;
      undo_room = low;
      room = (let e = k.shorter in let g = lengths.0 in let f = low in omega arith);
    }))
      where
        low : length l.undo.items < l.undo.len
        low = let most = k.most in grind (arith, room, most)

        laws_taken : View
        laws_taken =
            record v {
              history = record v.history { seen = h.seen; front = m.start };
              attempt = record v.attempt { start = m.start };
              owned = record v.owned { held = h.held };
              sample = h.sample;
              check = h.check;
              steps = record v.steps { step_trace = h.more ++ v.steps.step_trace };
            }

    pub stores-first : (a x : ℕ) (m q : Local) (u w : View) → a < c.words → item_at a l.writes.items ≡ None → item_at a l.undo.items ≡ None
        → length l.undo.items < l.undo.len → HasTaken rule c n a l v m u → StoresFirst a x m u q w → Stores a x q w
    stores-first a x m q u w low none new space h s = record {
      local = by;
      seen = h.seen;
      held = h.held;
      sample = h.sample;
      check = h.check;
      undo = record { at = a; value = s.old } ∷ v.owned.undo;
      more = s.more ++ h.more;
      is = s.is ∙ (ap (λ (y : View).
          record y {
            owned = record y.owned
                { in_place = record { at = a; value = x } ∷ y.owned.in_place; undo = record { at = a; value = s.old } ∷ y.owned.undo };
            steps = record y.steps { step_trace = s.more ++ y.steps.step_trace };
          }) h.is
          ∙ ((λ j. stored_at (sym start_is j) (sym (append_assoc s.more h.more v.steps.step_trace) j))));
      moves = moves_all;
      owed = owed-later c a q.start h.more s.more v (subst (λ (t : ℕ). MovesOwed c a t h.more v) (sym start_is) h.owed);
      locks = ap (λ (k : Local). k.locks.items) s.local ∙ h.locks;
      writes = ap (λ (k : Local). k.writes.items) s.local ∙ (ap (λ (k : Local). k.writes.items ++ (a, x) ∷ []) h.local ∙ sym (put-new a x l.writes.items none));
      undos = undo_items ∙ (ap (λ (ws : List (ℕ × ℕ)). ws ++ (a, s.old) ∷ []) k.undo ∙ sym undo_more);
      undoable = undoable;
      covered = covered;
      kept = kept-put a s.old (items v.owned.undo) (known_of v o) logs revocable kept-here;
      old_words = inside-more c.words (record { at = a; value = s.old }) v.owned.undo low k.old_words;
      most = (let e = more_undo in let d = ap (λ (p : Local). p.undo.len) s.local in let g = ap (λ (p : Local). p.undo.len) h.local in omega arith);
      few = (let e = more_undo in let g = h.few in let b = k.few in let d = ap (λ (p : Local). length p.locks.items) s.local in omega arith);
      places = h.places;
      olds = λ r t. (let b = h.olds r t in let e = start_is in omega arith);
      below = h.below;
      undo_len = ap (λ (p : Local). p.undo.len) s.local ∙ ap (λ (p : Local). p.undo.len) h.local;
      writes_len = ap (λ (p : Local). p.writes.len) s.local ∙ ap (λ (p : Local). p.writes.len) h.local;
      marks = ap (λ (p : Local). p.writes.marks) s.local ∙ ap (λ (p : Local). p.writes.marks) h.local;
      marks_limit = ap (λ (p : Local). p.writes.marks_limit) s.local ∙ ap (λ (p : Local). p.writes.marks_limit) h.local;
      locks_len = ap (λ (p : Local). p.locks.len) s.local ∙ h.len;
    }
      where
        start_is : q.start ≡ m.start
        start_is = ap (λ (p : Local). p.start) s.local

        undo_items : q.undo.items ≡ l.undo.items ++ (a, s.old) ∷ []
        undo_items = ap (λ (p : Local). p.undo.items) s.local ∙ ap (λ (p : Local). p.undo.items ++ (a, s.old) ∷ []) h.local

        more_undo : length q.undo.items ≡ length l.undo.items + 1
        more_undo = ap (λ (ws : List (ℕ × ℕ)). length ws) undo_items ∙ length-append l.undo.items ((a, s.old) ∷ [])

        undo_more : put a s.old (items v.owned.undo) ≡ items v.owned.undo ++ (a, s.old) ∷ []
        undo_more = put-new a s.old (items v.owned.undo) (sym (ap (item_at a) k.undo) ∙ new)

        undoable : (b : ℕ) → touches (record { at = a; value = x } ∷ v.owned.in_place) b ≡ true → touches (record { at = a; value = s.old } ∷ v.owned.undo) b ≡ true
        undoable b t = by (a == b) t
          where
            by : (d : Bool) → (if d then true else touches v.owned.in_place b) ≡ true → (if d then true else touches v.owned.undo b) ≡ true
            by true f = refl
            by false f = k.undoable b f

        covered : (b : ℕ) → touches (record { at = a; value = s.old } ∷ v.owned.undo) b ≡ true → touches h.held (home_of c b) ≡ true
        covered b t = by (a == b) refl t
          where
            by : (d : Bool) → (a == b) ≡ d → (if d then true else touches v.owned.undo b) ≡ true → touches h.held (home_of c b) ≡ true
            by true e f = let same : a ≡ b = grind (arith, nat_tests) in subst (λ (z : ℕ). touches h.held (home_of c z) ≡ true) same h.its
            by false e f = h.keeps (home_of c b) (k.covered b f)

        stored_at : ℕ → List TracedStep → View
        stored_at start step_trace = record v {
          history = record v.history { seen = h.seen; front = start };
          attempt = record v.attempt { start = start };
          owned = record v.owned { held = h.held; in_place = record { at = a; value = x } ∷ v.owned.in_place; undo = record { at = a; value = s.old } ∷ v.owned.undo };
          sample = h.sample;
          check = h.check;
          steps = record v.steps { step_trace = step_trace };
        }

        moves_all : MayMove rule c n q.start h.seen (s.more ++ h.more) v
        moves_all = go h.moves
          where
            go : MayMove rule c n m.start h.seen h.more v → MayMove rule c n q.start h.seen (s.more ++ h.more) v
            go (inl e) = inl (start_is ∙ e.0, e.1)
            go (inr e) = subst (λ (t : ℕ). MayMove rule c n t h.seen (s.more ++ h.more) v) (sym start_is) (inr (Contains-append_right s.more h.more (load_of Clock m.start) e.0, e.1, e.2))

        -- the descriptor's fields, one after the other
        by : q ≡ record l { start = q.start; locks = q.locks; undo = q.undo; writes = q.writes; wrote = true }
        by = s.local ∙ ap (λ (p : Local). record p { undo = record m.undo { items = m.undo.items ++ (a, s.old) ∷ [] }; writes = record m.writes { items = m.writes.items ++ (a, x) ∷ [] }; wrote = true }) h.local
            ∙ sym (λ j.
            record l {
              start = ap (λ (p : Local). p.start) s.local j;
              locks = ap (λ (p : Local). p.locks) s.local j;
              undo = ap (λ (p : Local). p.undo) s.local j;
              writes = ap (λ (p : Local). p.writes) s.local j;
              wrote = true;
            })

    pub may-place : (a : ℕ) → is_some (item_at a l.undo.items) ≡ true → CanOrecPlace a v
    may-place a there = record {
      opens = record { has = record { runs = record { phase = i.phase; algorithm = ap has_records eager; plain = ungranted }; inside = k.inside }; open_yet = k.open_yet };
      eager = k.eager;
      undoable = logged-touched a true there;
    }

    -- of a word whose old value is kept
    pub stores-again : (a x : ℕ) (log : LogState) (p : Push) (w : View) → HasRoom l → is_some (item_at a l.undo.items) ≡ true
        → Tells (orec_place a x) Nothing v x w → Pushes l.writes a (put a x l.writes.items) p log
        → Stores a x (record l { writes = log; wrote = true }) w
    stores-again a x log pushes.Done w room there t push = record {
      local = refl;
      seen = v.history.seen;
      held = v.owned.held;
      sample = v.sample;
      check = v.check;
      undo = v.owned.undo;
      more = record { place = Heap a; act = Store x; found = None } ∷ [];
      is =
          t.2
          ∙ (λ j.
          record v {
            history = record v.history { front = i.front j };
            attempt = record v.attempt { start = i.start j };
            owned = record v.owned { in_place = record { at = a; value = x } ∷ v.owned.in_place };
            steps = record v.steps { step_trace = record { place = Heap a; act = Store x; found = None } ∷ v.steps.step_trace };
          });
      moves = inl (sym i.start, refl);
      owed = inl (sym i.start);
      locks = k.locks;
      writes = ap (λ (q : LogState). q.items) push.1;
      undos = k.undo;
      undoable = λ b t. by b (a == b) refl t;
      covered = k.covered;
      kept = sym kept-here ∙ sym (kept-there a (known_of v o) (is-kept a ∙ there));
      old_words = k.old_words;
      most = k.most;
      few = k.few;
      places = k.places;
      olds = k.olds;
      below = k.below;
      undo_len = refl;
      writes_len = ap (λ (q : LogState). q.len) push.1;
      marks = ap (λ (q : LogState). q.marks) push.1;
      marks_limit = ap (λ (q : LogState). q.marks_limit) push.1;
      locks_len = refl;
    }
      where
        by : (b : ℕ) (d : Bool) → (a == b) ≡ d → (if d then true else touches v.owned.in_place b) ≡ true → touches v.owned.undo b ≡ true
        by b true e f = let same : a ≡ b = grind (arith, nat_tests) in subst (λ (z : ℕ). touches v.owned.undo z ≡ true) same (logged-touched a true there)
        by b false e f = k.undoable b f
    stores-again a x log (pushes.Full limit) w room there t push = absurd (
        let new = cells-shorter a v.owned.in_place v.owned.undo k.undoable (logged-touched a true there) (unheld-of v.owned.in_place l.writes.items a k.writes push.0) in
        let ws = ap (λ (ws : List (ℕ × ℕ)). length ws) k.writes in
        let us = ap (λ (ws : List (ℕ × ℕ)). length ws) k.undo in
        let full = push.1 in let most = k.most in let same = room.0 in omega arith)

    -- WHAT IS TOLD
    module _ (a x : ℕ) (q : Local) (w : View) (s : Stores a x q w) where
      abbrev p : Own
      p = own_of q

      abbrev y : View
      y = stored v q.start s.seen s.held s.sample s.check a x s.undo s.more

      grown : Grows (known_of v o) (known_of y p)
      grown = let g = records.grown (laws.reading good c n l v runs) q.start s.seen s.more s.moves v.attempt.reads s.sample s.check p (ap (λ (d : Local). d.reads.len) s.local) s.undo_len s.marks_limit in
          record {
            later = g.later;
            is = g.is;
            ascending = g.ascending;
            up_to = g.up_to;
            front_rose = g.front_rose;
            more = g.more;
            step_trace = g.step_trace;
            reads_limit = g.reads_limit;
            writes_limit = g.writes_limit;
            marks_limit = g.marks_limit;
            fenced = g.fenced;
          }

      start-moves : MayMove rule c n q.start s.seen s.more v → MovesOwed c a q.start s.more v
          → (q.start ≡ v.attempt.start) ⊎ (Found Clock q.start (known_of v o) (known_of y p) × FindsNewer c a (known_of v o) (known_of y p))
      start-moves (inl e) d = inl e.0
      start-moves (inr e) (inl d) = inl d
      start-moves (inr e) (inr d) = inr ((s.more, refl, Load, e.0), records.newer-shown c a s.more v y o p refl d)

      wrote-put : written_under v.gate.algorithm v.gate.granted y p ≡ put a x (known_of v o).log.writes
      wrote-put = (λ j. written_under (eager j) (ungranted j) y p) ∙ ap (put a x) (sym k.writes ∙ sym here-written)

      pub writes-done : writes_full a (known_of v o) ≡ false → HasWritten good c n a x writes.Done (known_of v o) (known_of w p)
      writes-done room = subst (λ (z : View). HasWritten good c n a x writes.Done (known_of v o) (known_of z p)) (sym s.is) (
        record {
          continues =
              record {
                running = ap is_in i.phase;
                closing = ap is_closing i.phase;
                made = refl;
                grows = grown;
                alg = refl;
                fence = refl;
                base = refl;
                rises = (omega arith, omega arith);
                later = records.begins (laws.reading good c n l v runs) q.start s.seen s.more s.moves;
                installs = refl;
                depth = ap (λ (d : Local). d.depth) s.local;
                locked = inl refl;
              };
          start = subst (λ (b : Alg). StartMoves c (ForWord a) b (known_of v o) (known_of y p)) (sym eager) (start-moves s.moves s.owed);
          granted = refl;
          holds = refl;
          checked = refl;
          marks = s.marks;
        },
        ap (λ (d : Local). d.committing) s.local ∙ quiet,
        (refl, λ b. ap (item_at b) wrote-put),
        opaque-at good c n y p q.start refl refl (records.legal-at (laws.reading good c n l v runs) q.start s.seen s.more s.moves)
            (records.below-at (laws.reading good c n l v runs) q.start s.seen s.more s.moves)
            (records.sees-at (laws.reading good c n l v runs) q.start s.seen s.more s.moves) i.reads_inside,
        room,
        ap (λ (b : Alg). kept_under b y p) eager ∙ s.kept,
        λ tml free. absurd (let no : OrecEager ≡ Tml = sym eager ∙ tml in cc),
      )

      abbrev kept : Local
      kept = record l { start = q.start; locks = q.locks; undo = q.undo; writes = q.writes; wrote = true }

      pub stays-stored : a < c.words → x < 2 ^ 64 → IsInside good c n q w
      stays-stored low small = subst (λ (z : View). IsInside good c n q z) (sym s.is) (subst (λ (d : Local). IsInside good c n d y) (sym s.local) (record {
        phase = i.phase;
        named = i.named;
        disowned = λ e. absurd (let f : false ≡ true = sym e ∙ ap has_records (sym i.named ∙ eager) in cc);
        unentered = i.unentered;
        start = refl;
        front = refl;
        legal = records.legal-at (laws.reading good c n l v runs) q.start s.seen s.more s.moves;
        below = records.below-at (laws.reading good c n l v runs) q.start s.seen s.more s.moves;
        sees = records.sees-at (laws.reading good c n l v runs) q.start s.seen s.more s.moves;
        reads_inside = i.reads_inside;
        looked = λ e. let h = i.looked e in record { low = h.low; seen = h.seen; unseen = h.unseen };
        granted = i.granted;
        steady = i.steady;
        spared = record { is = i.spared.is; fits = i.spared.fits };
        keeps = keeps-eager (record {
          optimistic =
              record {
                unlocked = k.optimistic.unlocked;
                unfixed = k.optimistic.unfixed;
                unwritten = k.optimistic.unwritten;
                uncommitted = k.optimistic.uncommitted;
                ungranted = ungranted;
                not_quiescent = k.optimistic.not_quiescent;
                unstored = k.optimistic.unstored;
                rises = k.optimistic.rises;
              };
          inside = k.inside;
          eager = k.eager;
          open_yet = k.open_yet;
          unraised = k.unraised;
          repaid = k.repaid;
          reads = k.reads;
          locks = s.locks;
          writes = s.writes ∙ ap (put a x) k.writes;
          undo = s.undos;
          wrote = ap not (sym (ap is_empty s.writes ∙ some-put a x l.writes.items));
          undoable = s.undoable;
          shorter = shorter;
          most = s.most;
          words = inside-more c.words (record { at = a; value = x }) v.owned.in_place low k.words;
          small = small-more (record { at = a; value = x }) v.owned.in_place small k.small;
          old_words = s.old_words;
          covered = s.covered;
          few = s.few;
          places = s.places;
          olds = s.olds;
          below = s.below;
          committing = λ e. refl;
          marked = ap length s.marks ∙ k.marked;
          sole = records.sole-at (laws.reading good c n l v runs) q.start s.seen s.more s.moves k.sole;
        });
      }))
        where
          shorter : length q.writes.items ≤ length q.undo.items
          shorter =
              let all = cells-longer (record { at = a; value = x } ∷ v.owned.in_place) s.undo s.undoable in
              let ws = ap (λ (ws : List (ℕ × ℕ)). length ws) (s.writes ∙ ap (put a x) k.writes) in
              let us = ap (λ (ws : List (ℕ × ℕ)). length ws) s.undos in
              omega arith

          keeps-eager : IsEager c kept y → attempts.Keeps c kept.algorithm kept.granted kept y
          keeps-eager d = subst (λ (b : Alg). attempts.Keeps c b l.granted kept y) (sym (sym i.named ∙ eager)) (subst (λ (b : Bool). attempts.Keeps c OrecEager b kept y) (sym runs.plain) d)

      pub lengths-stored : HasRoom l → HasRoom q
      lengths-stored same = let u = s.undo_len in let k = s.locks_len in (s.writes_len ∙ (same.0 ∙ sym u), (let h = same.1 in omega arith))
