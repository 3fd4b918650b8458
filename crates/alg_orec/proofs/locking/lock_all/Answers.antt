use Rattle.std.proofs.Common.{ℕ, ◌≡◌, ◌<◌, ◌≤◌, ◌+◌, [], ◌∷◌, length, get_or, refl, sym, ap, ◌∙◌, subst, arith, rules, inl, true}
use Rattle.std.specs.Prelude.{None, Err, is_some, ◌%◌}
use Rattle.std.proofs.lemmas.Nat.{mod_below}
use Rattle.std.proofs.lemmas.Result.{err_from_is_err_and}
use Rattle.stm_model.specs.Memories.{item_at}
use Rattle.rule_base.specs.declared.layout.At.TheVariants.{Record}
use Rattle.rule_base.specs.declared.seats.SeatView.{SeatView}
use Rattle.rule_base.specs.declared.views.View.{View}
use Rattle.rule_base.specs.Encodings.{free_record}
use Rattle.rule_base.specs.History.{over, touches}
use Rattle.rule_base.specs.Ranks.{home_of}
use Rattle.stm_rule.specs.declared.local.Local.{Local}
use Rattle.stm_rule.specs.RecordsKept.{cells_of}
use Rattle.alg_orec.specs.Locking.{HasLocked, IsOfWritten, Locks, LocksOne, lock_item}
use Rattle.alg_orec.specs.Validating.{load_of}
use Rattle.stm_gate.proofs.Cells.{cells-there}
use Rattle.alg_orec.proofs.Seats.{seat-on}
use Rattle.alg_orec.proofs.LockAllLaws as turns
use Rattle.alg_orec.proofs.LockingLaws as laws
use Rattle.alg_orec.proofs.locking.lock_all.Goals as goal
use Rattle.alg_orec.proofs.locking.lock_all.Goals.{then-is_none+in_ok-version, else-is_none}

pub loop-i-init : goal.loop-i-init
loop-i-init g c = let k = c.requires.view in record {
  table = refl;
  id = refl;
  steps = omega arith;
  bare = refl;
  seat = refl;
  more = [];
  locks = laws.locks-none c.args.stm.now.config c.args.caller c.args.local.now c.args.seat.now.me.0.view k;
  covered = λ j lt. absurd (omega arith);
  olds = λ r t. absurd (laws.none-held c.args.stm.now.config c.args.local.now c.args.seat.now.me.0.view k r t);
  found = inl refl;
  room = laws.none-logged c.args.stm.now.config c.args.local.now c.args.seat.now.me.0.view k;
}

pub lock_record-requires-clause-view : goal.lock_record-requires-clause-view
lock_record-requires-clause-view g c = let i = c.loop-i.invariant in
    laws.can-lock c.args.stm.now.config c.args.caller c.args.local.now c.args.seat.now.me.0.view c.requires.view c.loop-i.local c.loop-i.seat.me.0.view i.more i.locks

pub loop-i-preserved : goal.loop-i-preserved
loop-i-preserved g c =
    let f = c.args.stm.now.config in
    let n = c.args.caller in
    let l = c.args.local.now in
    let v = c.args.seat.now.me.0.view in
    let i = c.loop-i.invariant in
    let m = c.loop-i.local in
    let u = c.loop-i.seat.me.0 in
    let r = c.item-a.result.0 % f.records in
    let p = c.if-is_none.local in
    let t = c.if-is_none.seat in
    let low : r < f.records = mod_below c.item-a.result.0 f.records c.requires.view.records in
    let item_is : c.item-a.result ≡ get_or l.writes.items c.loop-i.i (0, 0) = c.item-a.ensures ∙ ap (λ (q : Local). get_or q.writes.items c.loop-i.i (0, 0)) i.locks.holds.local in
    let low_item : c.loop-i.i < length l.writes.items = omega (arith, c.loop-i-test.true, c.count-i-end.ensures.count) in
    let written = subst (λ (q : ℕ × ℕ). touches (cells_of l.writes.items) q.0 ≡ true) (sym item_is) (cells-there l.writes.items c.loop-i.i low_item) in
    elim c.if-is_none.branch [
      | then-is_none+in_ok-version w ↦
          let version = w.in_ok-version.version in
          let same = w.lock_record.ensures.same in
          let to_seat : t.me.0 ≡ w.lock_record.new.seat.me.0 = ap (λ q. q.me.0) w.seat-is in
          let h : HasLocked f n r version m u.view p t.me.0.view = subst
          (λ (y : SeatView g.row.K.Denot). HasLocked f n r version m u.view p y.view) (sym to_seat) (subst
          (λ (q : Local). HasLocked f n r version m u.view q w.lock_record.new.seat.me.0.view) (sym w.local-is)
          (subst (λ (j : ℕ). HasLocked f n j version m u.view w.lock_record.new.local w.lock_record.new.seat.me.0.view) c.record_of-r.ensures w.in_ok-version.ensures.locks)) in
          let unlogged : item_at c.record_of-r.result m.locks.items ≡ None = search rules in
          let none : item_at r m.locks.items ≡ None = subst (λ (j : ℕ). item_at j m.locks.items ≡ None) c.record_of-r.ensures unlogged in
          let new = laws.unheld-of u.view.owned.held m.locks.items r i.locks.holds.locks none in
          let held : t.me.0.view.owned.held ≡ record { at = r; value = version } ∷ u.view.owned.held = ap (λ (y : View). y.owned.held) h.is in
          let most = turns.at-least-both c.loop-i.newest version c.if-is_none.newest (w.newest-is ∙ w.max-newest.ensures) in
          record {
            table = ap (λ q. q.table_id) w.seat-is ∙ (same.0.0 ∙ i.table);
            id = ap (λ q. q.id) w.seat-is ∙ (same.0.1 ∙ i.id);
            bare = ap (λ q. q.me.1) w.seat-is ∙ (same.0.2 ∙ i.bare);
            steps = (let e = ap (λ (y : SeatView g.row.K.Denot). length y.view.steps.step_trace) to_seat in let k = w.lock_record.ensures.steps in let q = i.steps in omega arith);
            seat = seat-on c.args.seat.now.me.0 u t.me.0 t.me.0.view i.seat (to_seat ∙ (same.1 ∙ ap (λ (y : SeatView g.row.K.Denot). record u { view = y.view }) (sym to_seat)));
            more = lock_item n r version (free_record version) ∷ load_of (Record r) (free_record version) ∷ i.more;
            locks =
                laws.locks-more f n l v r version m p u.view t.me.0.view i.more i.locks h low new
                (let one = turns.one-logged f n r version c.loop-i.i m p u.view t.me.0.view h i.room in
                let within = c.count-i-end.ensures.within in let count = c.count-i-end.ensures.count in omega arith);
            covered = laws.next-item (λ j. touches t.me.0.view.owned.held (home_of f (get_or l.writes.items j (0, 0)).0) ≡ true) c.loop-i.i
                (λ j lt. laws.touches-more u.view.owned.held t.me.0.view.owned.held r version (home_of f (get_or l.writes.items j (0, 0)).0) held (i.covered j lt))
                (subst (λ (q : ℕ × ℕ). touches t.me.0.view.owned.held (q.0 % f.records) ≡ true) item_is (laws.touches-new u.view.owned.held t.me.0.view.owned.held r version held));
            olds = laws.versions-more u.view.owned.held t.me.0.view.owned.held r version c.loop-i.newest c.if-is_none.newest held most.0 most.1 i.olds;
            found = turns.found-more f n l c.item-a.result.0 version c.loop-i.newest c.if-is_none.newest (lock_item n r version (free_record version)) i.more written (w.newest-is ∙ w.max-newest.ensures) i.found;
            room = turns.one-logged f n r version c.loop-i.i m p u.view t.me.0.view h i.room;
          }
      | else-is_none w ↦
          let to_seat : t.me.0 ≡ u = ap (λ q. q.me.0) w.seat-is in
          let logged : is_some (item_at c.record_of-r.result m.locks.items) ≡ true = search rules in
          let some : is_some (item_at r m.locks.items) ≡ true = subst (λ (j : ℕ). is_some (item_at j m.locks.items) ≡ true) c.record_of-r.ensures logged in
          record {
            table = ap (λ q. q.table_id) w.seat-is ∙ i.table;
            id = ap (λ q. q.id) w.seat-is ∙ i.id;
            bare = ap (λ q. q.me.1) w.seat-is ∙ i.bare;
            steps = (let e = ap (λ (y : SeatView g.row.K.Denot). length y.view.steps.step_trace) to_seat in let q = i.steps in omega arith);
            seat = to_seat ∙ (i.seat ∙ ap (λ (y : SeatView g.row.K.Denot). record c.args.seat.now.me.0 { view = y.view }) (sym to_seat));
            more = i.more;
            locks = subst (λ (y : SeatView g.row.K.Denot). Locks f n l v p y.view i.more) (sym to_seat) (subst (λ (q : Local). Locks f n l v q u.view i.more) (sym w.local-is) i.locks);
            covered = subst (λ (y : SeatView g.row.K.Denot). (j : ℕ) → j < c.loop-i.i + 1 → touches y.view.owned.held (home_of f (get_or l.writes.items j (0, 0)).0) ≡ true) (sym to_seat)
                (laws.next-item (λ j. touches u.view.owned.held (home_of f (get_or l.writes.items j (0, 0)).0) ≡ true) c.loop-i.i i.covered
                (subst (λ (q : ℕ × ℕ). touches u.view.owned.held (q.0 % f.records) ≡ true) item_is (turns.held-some u.view.owned.held m.locks.items r i.locks.holds.locks some)));
            olds =
                subst (λ (y : SeatView g.row.K.Denot).
                (q : ℕ) → touches y.view.owned.held q ≡ true → over y.view.owned.held q 0 ≤ c.if-is_none.newest) (sym to_seat) (λ q b.
                let old = i.olds q b in let same = w.newest-is in omega arith);
            found = subst (λ (k : ℕ). IsOfWritten f n l k i.more) (sym w.newest-is) i.found;
            room = (let same : length p.locks.items ≡ length m.locks.items = ap (λ (q : Local). length q.locks.items) w.local-is in let room = i.room in omega arith);
          }
    ]

pub returns-in_err-version-clause-locks : goal.returns-in_err-version-clause-locks
returns-in_err-version-clause-locks g c =
    let f = c.args.stm.now.config in
    let n = c.args.caller in
    let l = c.args.local.now in
    let v = c.args.seat.now.me.0.view in
    let i = c.loop-i.invariant in
    let m = c.loop-i.local in
    let u = c.loop-i.seat.me.0.view in
    let r = c.item-a.result.0 % f.records in
    let low : c.loop-i.i < length l.writes.items = omega (arith, c.loop-i-test.true, c.count-i-end.ensures.count) in
    let item_is : c.item-a.result ≡ get_or l.writes.items c.loop-i.i (0, 0) = c.item-a.ensures ∙ ap (λ (q : Local). get_or q.writes.items c.loop-i.i (0, 0)) i.locks.holds.local in
    let written = subst (λ (q : ℕ × ℕ). touches (cells_of l.writes.items) q.0 ≡ true) (sym item_is) (cells-there l.writes.items c.loop-i.i low) in
    let unlogged : item_at c.record_of-r.result m.locks.items ≡ None = search rules in
    let none : item_at r m.locks.items ≡ None = subst (λ (j : ℕ). item_at j m.locks.items ≡ None) c.record_of-r.ensures unlogged in
    let unheld = laws.unheld-of u.owned.held m.locks.items r i.locks.holds.locks none in
    let e = subst (λ (j : ℕ). LocksOne f n j (Err c.in_err-version.field-0.0) m u c.lock_record.new.local c.lock_record.new.seat.me.0.view) c.record_of-r.ensures c.in_err-version.ensures.locks in
    let p = err_from_is_err_and c.from_residual.result c.from_residual.ensures.1 in
    rw (p.1, p.2) (laws.locks-stop f n l v _ c.item-a.result.0 m c.lock_record.new.local u c.lock_record.new.seat.me.0.view i.more e.1.0 i.locks unheld written e.0 e.1.1 e.1.2)

pub returns-clause-locks : goal.returns-clause-locks
returns-clause-locks g c =
    let f = c.args.stm.now.config in
    let l = c.args.local.now in
    let v = c.args.seat.now.me.0.view in
    let i = c.loop-i.invariant in
    record {
      more = i.more;
      locks = i.locks;
      covered = laws.covers-all f c.args.caller l v c.loop-i.seat.me.0.view.owned.held (λ j lt. i.covered j (omega (arith, c.loop-i-test.false, c.count-i-end.ensures.count)));
      olds = i.olds;
      found = i.found;
    }
