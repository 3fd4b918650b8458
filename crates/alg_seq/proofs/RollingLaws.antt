-- Serial: what a roll back in place comes to.
use Rattle.std.proofs.Common.{ℕ, ◌≡◌, ◌≤◌, List, [], ◌∷◌, ◌++◌, length, take, Bool, true, false, refl, sym, ap, ◌∙◌, arith, subst, append_assoc}
use Rattle.std.specs.Prelude.{not, ◌||◌}
use Rattle.std.proofs.lemmas.List.{length-take-le}
use Rattle.stm_model.specs.Algorithms.{asks_at_begin, irrevocable_under, takes_lock}
use Rattle.stm_model.specs.declared.alg.Alg.TheVariants.{Serial}
use Rattle.stm_model.specs.declared.config.Config.{Config}
use Rattle.stm_model.specs.Memories.{is_empty}
use Rattle.rule_base.specs.declared.entries.Cell.{Cell}
use Rattle.rule_base.specs.declared.views.TracedStep.{TracedStep}
use Rattle.rule_base.specs.declared.views.View.{View}
use Rattle.rule_base.specs.Bridge.{addresses, items}
use Rattle.rule_base.specs.Encodings.{fenced}
use Rattle.rule_base.specs.History.{touches, Inside}
use Rattle.rule_seq.specs.CglSteps.{HasLock}
use Rattle.stm_rule.specs.declared.local.Local.{Local}
use Rattle.stm_rule.specs.Attempts.{own_of, IsInside, IsLocked}
use Rattle.stm_answers.specs.Answers.{IsRolled}
use Rattle.stm_answers.specs.Causes.{has_item}
use Rattle.stm_answers.specs.CallerState.{known_of}
use Rattle.stm_logs.specs.LogStates.{LogState, rolled, firsts}
use Rattle.stm_gate.proofs.Peeling.{has-touched, no-items}
use Rattle.stm_gate.proofs.RollItems.{has-by, has-take, first-addresses, first-fewer}
use Rattle.alg_seq.specs.Nesting.{is_sequential, HasOlds, IsStoredBack, CanStoreAgain, IsStoredAgain}
use Rattle.alg_seq.proofs.Keeping.{irrevocable-by}
use Rattle.alg_seq.proofs.Locked.{locked, keeps-by, or-last, written-plain}
use Rattle.alg_seq.proofs.NestingLaws.{inside-at, rolls-at}
use Rattle.alg_seq.proofs.Undoing.{taken}

empty : (ws : List (ℕ × ℕ)) → length ws ≡ 0 → not (is_empty ws) ≡ false
empty [] f = refl
empty (x ∷ ws) f = absurd (omega arith)

module _ (good : List ℕ → Type 0) (c : Config) (n : ℕ) (l : Local) (v : View) (i : IsInside good c n l v) (serial : v.gate.algorithm ≡ Serial) (plain : l.granted ≡ false) where
  locks : takes_lock v.gate.algorithm ≡ true
  locks = ap takes_lock serial

  k : IsLocked c l v
  k = locked good c n l v locks i

  rev : v.lock.irrevocable ≡ false
  rev = irrevocable-by good c n l v i (sym i.named ∙ serial) ∙ plain

  -- every word that is stored has its old value
  pub has-olds : HasOlds c.words l.undo.items l.writes.items v
  has-olds = record {
    has = record { phase = i.phase; algorithm = locks; taken = k.taken };
    started = k.started;
    undone = k.undone rev;
    stored = k.writes rev;
    undoable = k.undoable rev;
    within = k.within;
  }

  pub writes-few : length l.writes.items ≤ l.undo.len
  writes-few = let a = k.shorter rev in let b = k.most rev in omega arith

  pub mark-count : length l.writes.marks ≡ l.depth
  mark-count = k.marked rev

  module _ (quiet : l.committing ≡ false) (log : LogState) (d : ℕ) (low : 1 ≤ d) (high : d ≤ l.depth) (is : log ≡ rolled d l.writes) (prefix : firsts log.items ≡ take (length log.items) (firsts l.writes.items)) where
    abbrev left : ℕ
    left = length log.items

    pub fewer : left ≤ length l.writes.items
    fewer = first-fewer log.items l.writes.items prefix

    of-stores : addresses log.items ≡ addresses (take left (items v.attempt.stores))
    of-stores = first-addresses log.items l.writes.items prefix ∙ ap (λ (ws : List (ℕ × ℕ)). addresses (take left ws)) (k.writes rev)

    stored-at : (a : ℕ) → has_item a log.items ≡ true → touches v.attempt.stores a ≡ true
    stored-at a h = has-touched a v.attempt.stores ∙ has-take a left (items v.attempt.stores) (sym (has-by a log.items (take left (items v.attempt.stores)) of-stores) ∙ h)

    spared-at : (a : ℕ) → has_item a log.items ≡ true → fenced l.fence a ≡ false
    spared-at a h = k.apart rev a (stored-at a h)

    -- the first words are stored still
    module _ (u : View) (back : IsStoredBack left v u) where
      pub may-store-again : CanStoreAgain c.words log.items u
      may-store-again = record {
        has = subst (λ (y : View). HasLock y) (sym back.is) (record { phase = i.phase; algorithm = locks; taken = k.taken });
        started = ap (λ (y : View). y.lock.started) back.is ∙ k.started;
        within = subst (λ (y : View). Inside c.words y.lock.undo) (sym back.is) k.within;
        stored = of-stores ∙ ap addresses (sym back.stores);
        undoable = λ a h. ap (λ (y : View). touches y.lock.undo a) back.is ∙ k.undoable rev a (stored-at a h);
        spared = λ a h. ap (λ (y : View). fenced y.gate.fence a) back.is ∙ (ap (λ (f : ℕ). fenced f a) i.spared.is ∙ spared-at a h);
      }

      -- and have the values that they had at the mark
      module _ (w : View) (again : IsStoredAgain log.items u w) (wrote : Bool) (some : wrote ≡ not (is_empty log.items)) where
        abbrev m : Local
        m = record l { writes = log; wrote = wrote; depth = d }

        abbrev more : List TracedStep
        more = again.more ++ back.more

        abbrev after : List Cell → View
        after stores = taken v stores more

        pub path : w ≡ after w.attempt.stores
        path = again.is ∙ ((λ j. record (back.is j) { attempt = record (back.is j).attempt { stores = w.attempt.stores }; steps = record (back.is j).steps { step_trace = again.more ++ (back.is j).steps.step_trace } })
            ∙ (λ j. record v { attempt = record v.attempt { stores = w.attempt.stores }; steps = record v.steps { step_trace = sym (append_assoc again.more back.more v.steps.step_trace) j } }))

        nothing-left : wrote ≡ false → log.items ≡ []
        nothing-left e = by log.items (sym some ∙ e)
          where
            by : (ws : List (ℕ × ℕ)) → not (is_empty ws) ≡ false → ws ≡ []
            by [] f = refl
            by (x ∷ ws) f = absurd cc

        was-written : wrote ≡ true → l.wrote ≡ true
        was-written e = by l.wrote refl
          where
            by : (b : Bool) → l.wrote ≡ b → b ≡ true
            by true f = refl
            by false f =
                absurd (let none : length l.writes.items ≡ 0 =
                ap length (k.writes rev) ∙ ap (λ (cs : List Cell). length (items cs)) (k.clean f) in
                let g = fewer in
                let zero_left : left ≡ 0 = omega arith in let no : true ≡ false = sym e ∙ (some ∙ empty log.items zero_left) in cc)

        stays-at : (stores : List Cell) → items stores ≡ log.items → IsInside good c n m (after stores)
        stays-at stores stored = inside-at good c n l v i log wrote d stores more (keeps-by c l.algorithm l.granted m (after stores) (ap takes_lock (sym i.named) ∙ locks) (record {
          taken = k.taken;
          started = k.started;
          unwritten = k.unwritten;
          uncommitted = k.uncommitted;
          reopened = k.reopened;
          clean = λ e. no-items stores (stored ∙ nothing-left e);
          dirty = λ e none. absurd (let no : true ≡ false = sym e ∙ (some ∙ ap (λ (ws : List (ℕ × ℕ)). not (is_empty ws)) (sym stored ∙ ap items none)) in cc);
          irrevocable = k.irrevocable ∙ ((λ j. irrevocable_under (named-by j) l.granted l.wrote) ∙ (λ j. irrevocable_under (sym named-by j) l.granted wrote));
          undone = k.undone;
          undoable = λ e a t. k.undoable e a (stored-at a (ap (has_item a) (sym stored) ∙ (sym (has-touched a stores) ∙ t)));
          shorter = λ e. (let f = fewer in let g = k.shorter e in omega arith);
          most = k.most;
          within = k.within;
          writes = λ e. sym stored;
          marked = λ e. ap (λ (q : LogState). length q.marks) is ∙ length-take-le d l.writes.marks (let h = mark-count in omega arith);
          apart = λ e a t. spared-at a (ap (has_item a) (sym stored) ∙ (sym (has-touched a stores) ∙ t));
          rises = k.rises;
          limit = λ e. k.limit (limit-by e);
        }))
          where
            named-by : l.algorithm ≡ Serial
            named-by = sym i.named ∙ serial

            limit-by : asks_at_begin l.algorithm || (l.granted || wrote) ≡ true → asks_at_begin l.algorithm || (l.granted || l.wrote) ≡ true
            limit-by e = or-last (asks_at_begin l.algorithm) l.granted l.wrote (was-written ((λ j. sym plain j || wrote) ∙ ((λ j. asks_at_begin (sym named-by j) || (l.granted || wrote)) ∙ e)))

        pub stays-rolled : IsInside good c n (record l { writes = log; wrote = wrote; depth = d }) w
        stays-rolled = subst (λ (y : View). IsInside good c n m y) (sym path) (stays-at w.attempt.stores again.stores)

        tells-at : (stores : List Cell) → items stores ≡ log.items → IsInside good c n m (after stores) → IsRolled good c n d (known_of v (own_of l)) (known_of (after stores) (own_of m))
        tells-at stores stored inside = rolls-at good c n l v i log wrote d stores more quiet is (let h = mark-count in omega arith) (ap is_sequential serial)
            (written-plain v.gate.algorithm v.gate.granted (after stores) (own_of m) locks ∙ stored) inside

        pub rolls-back : IsRolled good c n d (known_of v (own_of l)) (known_of w (own_of (record l { writes = log; wrote = wrote; depth = d })))
        rolls-back = subst (λ (y : View). IsRolled good c n d (known_of v (own_of l)) (known_of y (own_of m))) (sym path)
            (tells-at w.attempt.stores again.stores (stays-at w.attempt.stores again.stores))
