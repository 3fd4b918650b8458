-- THE LAW OF RISES: what a turn raises the clock by is covered,
-- by an item that is done or by an attempt that is counted.
use Rattle.std.proofs.Common.{ℕ, ◌≡◌, ◌<◌, ◌≤◌, ◌+◌, ◌*◌, Bool, true, false, List, [], ◌∷◌, length, refl, sym, ap, ◌∙◌, arith, subst}
use Rattle.std.proofs.Math.Nat.{mul-add}
use Rattle.std.proofs.lemmas.List.Elements.{All-head, All-tail}
use Rattle.std.proofs.lemmas.List.Sums.{sum_by-cons}
use Rattle.std.specs.Prelude.{Option, Some, None, All, sum_by}
use Rattle.work_profile.specs.declared.policy.Policy.TheVariants.{Fixed}
use Rattle.stm_rule.specs.declared.stm.Stm.{Stm}
use Rattle.work_script.specs.declared.workload.Item.{Item}
use Rattle.work_script.specs.declared.workload.Item.TheVariants.{Tx, Switch, Reserve}
use Rattle.stm_answers.specs.CallerState.{owed, caller_of}
use Rattle.stm_tx.specs.Descs.{known}
use Rattle.work_trace.specs.declared.said.Phase.{Phase}
use Rattle.work_trace.specs.declared.said.Phase.TheVariants.{Between, Inside, Closing, Quiet}
use Rattle.work_trace.specs.declared.said.Said.{Said}
use Rattle.work_trace.specs.declared.said.Said.TheVariants.{TryBegin, Reply, Stopped, TryCancel, TryIrrevocable, TryCommit, TryClose, Looked, Installed, Reserved, Idle, Dropped, Reopened}
use Rattle.work_trace.specs.Places.{CallerProgress, after, clock_of, most_failed}
use Rattle.work_trace.specs.Turns.{MaySay, MayWind, MayFinish}
use Rattle.work_worker.specs.declared.worker.Worker.{Worker}
use Rattle.work_worker.specs.RiseCovers.{raised, failed_rises, Covers, CoversBut, CoversAfter, CoversOnceDone, CoversOnceDoneAfter, CoversWinding, CoversWindingAfter, AllowsOneMore, Covered, dropped_of, uncovered_at, uncovered_by, IsCountedFor, CountsNext}
use Rattle.work_worker.specs.Workers.{place_of, IsAt, Sound, Turned}
use Rattle.work_worker.proofs.RiseLaws.{raised-in, raised-out, owed-in, owed-out}
use Rattle.work_worker.proofs.CoveredLaws.{failed_rises-low, each-item, under, tx-less, said-covered, wound-covered, settles, dropped-low, dropped-tx}
use Rattle.work_worker.proofs.CountLaws.{CountsAt, alone-failed, counted-none, said-counts}

-- a turn leads to its place, with the same items in all
covered-there : {K : Type 0} (good : List ℕ → Type 0) (stm : Stm K) (may : CallerProgress → Said → Type 0) (u : Worker K) (said : Said) (w : Worker K) (uncovered each most : ℕ) → Turned good stm may u said w
    → Covered uncovered each most (length u.all.now) (known w.desc) (after (place_of u) said) → CoversBut uncovered each most w
covered-there good stm may u said w uncovered each most t h =
    subst (λ items. Covered uncovered each most (length items) (known w.desc) (place_of w)) (sym t.same.kept.all)
    (subst (Covered uncovered each most (length u.all.now) (known w.desc)) (sym t.now) h)

-- what was uncovered is the one rise of an attempt that found the clock full, if it did
all-covered : {K : Type 0} (w : Worker K) (each most : ℕ) (clock : Option ℕ) → CoversBut (0 + uncovered_at clock) each most w → CoversAfter each most clock w
all-covered w each most None h = omega (arith, h)
all-covered w each most (Some clock) h = omega (arith, h)

-- while the schedule goes on no attempt is dropped
pub same-uncovered : (at : CallerProgress) (said : Said) → MaySay at said → uncovered_by said ≡ uncovered_at (clock_of said)
same-uncovered at (TryBegin b) may = refl
same-uncovered at (Reply op reply) may = refl
same-uncovered at (Stopped op stop) may = refl
same-uncovered at (TryCancel c) may = refl
same-uncovered at (TryIrrevocable r) may = refl
same-uncovered at (TryCommit c) may = refl
same-uncovered at (TryClose c) may = refl
same-uncovered at (Looked l) may = refl
same-uncovered at (Installed alg) may = refl
same-uncovered at (Reserved reads writes) may = refl
same-uncovered at Idle may = refl
same-uncovered at Dropped may = absurd may
same-uncovered at Reopened may = absurd may

module _ {K : Type 0} (good : List ℕ → Type 0) (stm : Stm K) (u : Worker K) (said : Said) (w : Worker K) (s : Sound good stm u) where
  -- an attempt is counted until there have been 16: so many rises cover them, two more for the one that ends the item,
  -- and what was uncovered stays so
  pub turned-covers-but : (uncovered each most : ℕ) → Turned good stm MaySay u said w → most_failed ≤ most → most + 3 ≤ each → CoversBut uncovered each most u → CoversBut (uncovered + uncovered_by said) each most w
  turned-covers-but uncovered each most t much wide covers =
      covered-there good stm MaySay u said w (uncovered + uncovered_by said) each most t
      (said-covered good stm u s uncovered each most (length u.all.now) (λ e. let f = s.counted e in omega arith) wide covers said (known w.desc) t.here t.told)

  -- with one caller no attempt is counted, and one that must be irrevocable follows on one whose log was too short
  pub alone-covers-but : (uncovered each most : ℕ) → Turned good stm MaySay u said w → u.failed ≡ 0 → 1 ≤ most → most + 3 ≤ each → CoversBut uncovered each most u → CoversBut (uncovered + uncovered_by said) each most w
  alone-covers-but uncovered each most t none one wide covers =
      covered-there good stm MaySay u said w (uncovered + uncovered_by said) each most t
      (said-covered good stm u s uncovered each most (length u.all.now) (λ e. omega arith) wide covers said (known w.desc) t.here t.told)

  after-turn : (each most : ℕ) → Turned good stm MaySay u said w → CoversBut (0 + uncovered_by said) each most w → CoversAfter each most (clock_of said) w
  after-turn each most t h = all-covered w each most (clock_of said) (subst (λ n. CoversBut (0 + n) each most w) (same-uncovered (place_of u) said t.here) h)

  -- A TURN PAYS for what it raised the clock by
  pub turned-covers : (each most : ℕ) → Turned good stm MaySay u said w → 17 ≤ most → most + 3 ≤ each → Covers each most u → CoversAfter each most (clock_of said) w
  turned-covers each most t much wide covers = after-turn each most t (turned-covers-but 0 each most t (omega arith) wide (omega (arith, covers)))

-- after the schedule, once nothing is open, no more may be said than before
finish-says : (at : CallerProgress) (said : Said) → MayFinish at said → MaySay at said
finish-says at (TryBegin b) may = may
finish-says at (Reply op reply) may = may
finish-says at (Stopped op stop) may = may
finish-says at (TryCancel c) may = may
finish-says at (TryIrrevocable r) may = may
finish-says at (TryCommit c) may = may
finish-says at (TryClose c) may = may
finish-says at (Looked l) may = may
finish-says at (Installed alg) may = may
finish-says at (Reserved reads writes) may = may
finish-says at Idle may = absurd may
finish-says at Dropped may = may
finish-says at Reopened may = may

module _ {K : Type 0} (good : List ℕ → Type 0) (stm : Stm K) (u : Worker K) (said : Said) (w : Worker K) (s : Sound good stm u) where
  -- with one caller no attempt is counted, whatever may be said
  pub none-failed : (may : CallerProgress → Said → Type 0) → Turned good stm may u said w → stm.config.callers ≡ 1 → u.failed ≡ 0 → w.failed ≡ 0
  none-failed may t one none = ap (λ (p : CallerProgress). p.failed) t.now ∙ alone-failed good stm.config (caller_of u.desc.who.role) one said (place_of u) (known u.desc) (known w.desc) none t.told

  -- and so one that must be irrevocable follows only on one whose log was too short
  pub turned-covers-alone : (each most : ℕ) → Turned good stm MaySay u said w → stm.config.callers ≡ 1 → u.failed ≡ 0 → 1 ≤ most
      → most + 3 ≤ each → Covers each most u → CoversAfter each most (clock_of said) w × (w.failed ≡ 0)
  turned-covers-alone each most t one none much wide covers = (
    after-turn good stm u said w s each most t (alone-covers-but good stm u said w s 0 each most t none much wide (omega (arith, covers))),
    none-failed MaySay t one none,
  )

  -- only attempts of the transaction that comes next are counted
  pub turned-counts : Turned good stm MaySay u said w → CountsNext u → CountsNext w
  turned-counts t h = subst CountsAt (sym t.now) (said-counts said (place_of u) (λ e. (under good stm u s e).here) t.here h)

pub starts-counts : {K : Type 0} (w : Worker K) → w.failed ≡ 0 → w.must ≡ false → CountsNext w
starts-counts w f m = subst (λ b. IsCountedFor w.items_left.now w.failed b) (sym m) (subst (λ n. IsCountedFor w.items_left.now n false) (sym f) (counted-none w.items_left.now))

-- so the items of a caller bound what it raised
all-covers : (uncovered each most all : ℕ) (left : List Item) (failed : ℕ) (must : Bool) (risen : ℕ) → IsCountedFor left failed must → (must ≡ false → failed ≤ most) → most ≤ each
    → risen + each * length left ≤ each * all + failed_rises most failed must + uncovered → risen ≤ each * all + uncovered
all-covers uncovered each most all [] failed must risen counts few wide covers =
    let e : failed_rises most failed must ≡ 0 = (λ i. failed_rises most (counts.0 i) (counts.1 i)) in omega (arith, e, covers)
all-covers uncovered each most all (Tx caller script ∷ items) failed must risen counts few wide covers =
    let m = failed_rises-low most failed must few in
    let one = each-item each (Tx caller script ∷ items) refl in
    omega (arith, m, one, covers)
all-covers uncovered each most all (Switch caller alg ∷ items) failed must risen counts few wide covers =
    let e : failed_rises most failed must ≡ 0 = (λ i. failed_rises most (counts.0 i) (counts.1 i)) in omega (arith, e, covers)
all-covers uncovered each most all (Reserve caller reads writes ∷ items) failed must risen counts few wide covers =
    let e : failed_rises most failed must ≡ 0 = (λ i. failed_rises most (counts.0 i) (counts.1 i)) in omega (arith, e, covers)

pub covers-all : {K : Type 0} (uncovered each most : ℕ) (w : Worker K) → CountsNext w → (w.must ≡ false → w.failed ≤ most) → most ≤ each
    → CoversBut uncovered each most w → raised (known w.desc) ≤ each * length w.all.now + uncovered
covers-all uncovered each most w counts few wide covers = all-covers uncovered each most (length w.all.now) w.items_left.now w.failed w.must (raised (known w.desc)) counts few wide (omega (arith, covers))

-- while an item is left that is not all
some-left : (uncovered each most all : ℕ) (left : List Item) (failed : ℕ) (must : Bool) (risen : ℕ) → 0 < length left → (must ≡ false → failed ≤ most) → most + 2 ≤ each
    → risen + each * length left ≤ each * all + failed_rises most failed must + uncovered → risen + 2 ≤ each * all + uncovered
some-left uncovered each most all [] failed must risen some few wide covers = absurd (omega arith)
some-left uncovered each most all (x ∷ items) failed must risen some few wide covers =
    let m = failed_rises-low most failed must few in
    let one = each-item each (x ∷ items) refl in
    omega (arith, m, one, covers)

pub covers-left : {K : Type 0} (uncovered each most : ℕ) (w : Worker K) → 0 < length w.items_left.now → (w.must ≡ false → w.failed ≤ most)
    → most + 2 ≤ each → CoversBut uncovered each most w → raised (known w.desc) + 2 ≤ each * length w.all.now + uncovered
covers-left uncovered each most w some few wide covers = some-left uncovered each most (length w.all.now) w.items_left.now w.failed w.must (raised (known w.desc)) some few wide (omega (arith, covers))

-- the same, where the item covers an attempt that was dropped
done-covered : {K : Type 0} (w : Worker K) (each most : ℕ) (clock : Option ℕ) → CoversBut (dropped_of w.items_left.now + uncovered_at clock) each most w → CoversOnceDoneAfter each most clock w
done-covered w each most None h = omega (arith, h)
done-covered w each most (Some clock) h = h

module _ {K : Type 0} (good : List ℕ → Type 0) (stm : Stm K) (u : Worker K) (said : Said) (w : Worker K) (s : Sound good stm u) where
  settled-there : (may : CallerProgress → Said → Type 0) (each most : ℕ) → Turned good stm may u said w → MaySay (place_of u) said
      → u.policy ≡ Fixed → AllowsOneMore most u → most + 3 ≤ each → CoversOnceDone each most u
      → CoversOnceDoneAfter each most (clock_of said) w
  settled-there may each most t says fixed few wide covers =
      done-covered w each most (clock_of said) (subst (λ n. CoversBut (dropped_of w.items_left.now + n) each most w) (same-uncovered (place_of u) said says)
      (subst (λ (at : CallerProgress). CoversBut (dropped_of at.left + uncovered_by said) each most w) (sym t.now)
      (covered-there good stm may u said w (dropped_of (after (place_of u) said).left + uncovered_by said) each most t
      (settles good stm u s fixed each most (length u.all.now) few wide covers said (known w.desc) says t.told))))

  pub finished-covers : (each most : ℕ) → Turned good stm MayFinish u said w → u.policy ≡ Fixed → AllowsOneMore most u → most + 3 ≤ each → CoversOnceDone each most u → CoversOnceDoneAfter each most (clock_of said) w
  finished-covers each most t fixed few wide covers = settled-there MayFinish each most t (finish-says (place_of u) said t.here) fixed few wide covers

-- an attempt that goes on after the schedule was not dropped
winds : {K : Type 0} (w : Worker K) (each most : ℕ) (clock : Option ℕ) → CoversBut (0 + uncovered_at clock) each most w → CoversWindingAfter each most clock w
winds w each most None h = (omega (arith, h), λ e. omega (arith, h))
winds w each most (Some clock) h = omega (arith, h)

module _ {K : Type 0} (good : List ℕ → Type 0) (stm : Stm K) (u : Worker K) (s : Sound good stm u) (each most : ℕ)
    (few : AllowsOneMore most u) (wide : most + 3 ≤ each) (covers : CoversWinding each most u) (w : Worker K) where
  goes-on : (said : Said) → Turned good stm MayWind u said w → u.phase ≡ Inside → MaySay (place_of u) said → CoversWindingAfter each most (clock_of said) w
  goes-on said t inside says =
      let now : Covers each most u = covers.1 inside in
      winds w each most (clock_of said) (subst (λ n. CoversBut (0 + n) each most w) (same-uncovered (place_of u) said says)
      (covered-there good stm MayWind u said w (0 + uncovered_by said) each most t
      (said-covered good stm u s 0 each most (length u.all.now) few wide (omega (arith, now)) said (known w.desc) says t.told)))

  -- it has nothing open any more
  outside : (at : CallerProgress) → at.phase ≡ Between → place_of w ≡ at → w.phase ≡ Inside → Covers each most w
  outside at between now e = absurd (let f : Between ≡ Inside = sym between ∙ (sym (ap (λ (p : CallerProgress). p.phase) now) ∙ e) in cc)

  -- after the schedule: an attempt is dropped, or a closing given up, or an attempt that can't be cancelled goes on
  pub wound-covers : (said : Said) → Turned good stm MayWind u said w → CoversWindingAfter each most (clock_of said) w
  wound-covers (TryBegin b) t = goes-on (TryBegin b) t t.here.0 t.here.2
  wound-covers (Reply op reply) t = goes-on (Reply op reply) t t.here.0 t.here.2
  wound-covers (Stopped op stop) t = goes-on (Stopped op stop) t t.here.0 t.here.2
  wound-covers (TryCancel c) t = goes-on (TryCancel c) t t.here.0 t.here.2
  wound-covers (TryIrrevocable r) t = goes-on (TryIrrevocable r) t t.here.0 t.here.2
  wound-covers (TryCommit c) t = goes-on (TryCommit c) t t.here.0 t.here.2
  wound-covers (TryClose c) t = goes-on (TryClose c) t t.here.0 t.here.2
  wound-covers (Looked l) t = goes-on (Looked l) t t.here.0 t.here.2
  wound-covers (Installed alg) t = goes-on (Installed alg) t t.here.0 t.here.2
  wound-covers (Reserved reads writes) t = goes-on (Reserved reads writes) t t.here.0 t.here.2
  wound-covers Idle t = goes-on Idle t t.here.0 t.here.2
  wound-covers Dropped t =
      let now : Covers each most u = covers.1 t.here.0 in
      let one : dropped_of w.items_left.now ≡ 1 = ap (λ (p : CallerProgress). dropped_of p.left) t.now ∙ dropped-tx u.items_left.now (under good stm u s t.here.0).here in
      let h : CoversBut 1 each most w = covered-there good stm MayWind u Dropped w 1 each most t
      (wound-covered good stm u s 0 each most (length u.all.now) few wide (omega (arith, now)) Dropped (known w.desc) t.here t.told) in
      (omega (arith, h, one), outside (after (place_of u) Dropped) refl t.now)
  wound-covers Reopened t =
      let same : dropped_of w.items_left.now ≡ dropped_of u.items_left.now = ap (λ (p : CallerProgress). dropped_of p.left) t.now in
      let h : CoversBut (dropped_of u.items_left.now + 0) each most w = covered-there good stm MayWind u Reopened w (dropped_of u.items_left.now + 0) each most t
      (wound-covered good stm u s (dropped_of u.items_left.now) each most (length u.all.now) few wide covers.0 Reopened (known w.desc) t.here t.told) in
      (omega (arith, h, same), outside (record (place_of u) { phase = Between }) refl t.now)

-- whatever is open, with what an open attempt may still raise: the items of a caller bound it
done-all : (uncovered each most all : ℕ) (left : List Item) (failed : ℕ) (must : Bool) (risen : ℕ) → IsCountedFor left failed must → (must ≡ false → failed + 1 ≤ most) → most + 1 ≤ each
    → risen + each * length left ≤ each * all + failed_rises most failed must + (dropped_of left + uncovered) → risen ≤ each * all + uncovered
done-all uncovered each most all [] failed must risen counts few wide covers =
    let e : failed_rises most failed must ≡ 0 = (λ i. failed_rises most (counts.0 i) (counts.1 i)) in omega (arith, e, covers)
done-all uncovered each most all (Tx caller script ∷ items) failed must risen counts few wide covers =
    let m = failed_rises-low most failed must (λ off. let f = few off in omega arith) in
    let one = each-item each (Tx caller script ∷ items) refl in
    omega (arith, m, one, covers)
done-all uncovered each most all (Switch caller alg ∷ items) failed must risen counts few wide covers =
    let e : failed_rises most failed must ≡ 0 = (λ i. failed_rises most (counts.0 i) (counts.1 i)) in omega (arith, e, covers)
done-all uncovered each most all (Reserve caller reads writes ∷ items) failed must risen counts few wide covers =
    let e : failed_rises most failed must ≡ 0 = (λ i. failed_rises most (counts.0 i) (counts.1 i)) in omega (arith, e, covers)

module _ {K : Type 0} (good : List ℕ → Type 0) (stm : Stm K) (w : Worker K) (s : Sound good stm w) (uncovered each most : ℕ) (counts : CountsNext w) (few : AllowsOneMore most w) (wide : most + 3 ≤ each)
    (covers : CoversBut (dropped_of w.items_left.now + uncovered) each most w) where
  open-owes : (known w.desc).running ≡ true → w.phase ≡ Inside → owed (known w.desc) ≤ each * length w.all.now + uncovered
  open-owes now inside =
      let a = raised-in (known w.desc) now in
      let b = owed-in (known w.desc) now in
      let m = failed_rises-low most w.failed w.must (λ off. let f = few off in omega arith) in
      let one = each-item each w.items_left.now (tx-less w.items_left.now (under good stm w s inside).here) in
      let d = dropped-low w.items_left.now in
      omega (arith, a, b, m, one, d, covers)

  shut-owes : (known w.desc).running ≡ false → owed (known w.desc) ≤ each * length w.all.now + uncovered
  shut-owes out =
      let a = raised-out (known w.desc) out in
      let b = owed-out (known w.desc) out in
      let h : raised (known w.desc) ≤ each * length w.all.now + uncovered = done-all uncovered each most (length w.all.now) w.items_left.now
      w.failed w.must (raised (known w.desc)) counts few (omega arith) (omega (arith, covers)) in
      omega (arith, a, b, h)

  -- THE ITEMS PAY FOR ALL that their caller raised, and may still raise by what it has open
  pub owes-all : owed (known w.desc) ≤ each * length w.all.now + uncovered
  owes-all = by w.phase refl s.at
    where
      by : (p : Phase) → w.phase ≡ p → IsAt good stm.config (caller_of w.desc.who.role) p (known w.desc) → owed (known w.desc) ≤ each * length w.all.now + uncovered
      by Between e at = shut-owes at.1
      by Inside e at = open-owes at e
      by Closing e at = shut-owes at.running
      by Quiet e at = shut-owes at.0.running

-- and those of all callers what all of them raised, and may still raise
pub all-owe : {K : Type 0} (each : ℕ) (uncovered : Worker K → ℕ) (ws : List (Worker K)) → All (λ (w : Worker K). owed (known w.desc) ≤ each * length w.all.now + uncovered w) ws
    → sum_by (λ (w : Worker K). owed (known w.desc)) ws ≤ each * sum_by (λ (w : Worker K). length w.all.now) ws + sum_by uncovered ws
all-owe each uncovered [] h = omega arith
all-owe {K = K} each uncovered (w ∷ ws) h =
    let P : Worker K → Type 0 = λ (w : Worker K). owed (known w.desc) ≤ each * length w.all.now + uncovered w in
    let one : owed (known w.desc) ≤ each * length w.all.now + uncovered w = All-head P w ws h in
    let rest = all-owe each uncovered ws (All-tail P w ws h) in
    let a = sum_by-cons (λ (w : Worker K). owed (known w.desc)) w ws in
    let b = sum_by-cons uncovered w ws in
    let c : each * sum_by (λ (w : Worker K). length w.all.now) (w ∷ ws) ≡ each * length w.all.now + each * sum_by (λ (w : Worker K). length w.all.now) ws =
    ap (λ n. each * n) (sum_by-cons (λ (w : Worker K). length w.all.now) w ws) ∙ mul-add each (length w.all.now) (sum_by (λ (w : Worker K). length w.all.now) ws) in
    omega (arith, one, rest, a, b, c)
