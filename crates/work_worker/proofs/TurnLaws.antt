-- From the clauses of a call to what its turn did.
use Rattle.std.proofs.Common.{ℕ, suc, ◌≡◌, ◌<◌, ◌≤◌, ◌+◌, Bool, true, false, List, [], ◌∷◌, ◌++◌, length, drop, refl, sym, ap, ◌∙◌, arith, subst, length-append, inl, inr}
use Rattle.std.proofs.lemmas.Bool.Decides.{nat_tests}
use Rattle.std.proofs.lemmas.List.{append-nil}
use Rattle.std.specs.Prelude.{◌⊎◌, ◌||◌, ◌&&◌, not, slice_index_or, Option, Some, None}
use Rattle.std.specs.Borrow.{Bor}
use Rattle.stm_model.specs.Algorithms.{irrevocable_under}
use Rattle.stm_model.specs.AlgorithmLaws.{granted-irrevocable, irrevocable-wrote}
use Rattle.stm_model.specs.Configs.{IsConfig}
use Rattle.stm_model.specs.declared.config.Config.{Config}
use Rattle.stm_model.specs.Logs.{IsExplained, Log}
use Rattle.stm_model.specs.Memories.{is_empty}
use Rattle.stm_model.specs.declared.alg.Alg.{Alg}
use Rattle.stm_model.specs.declared.stop.Stop.{Stop}
use Rattle.stm_model.specs.declared.stop.Stop.TheVariants as stops
use Rattle.work_profile.specs.declared.outcome.Outcome.{Outcome}
use Rattle.work_profile.specs.declared.outcome.Outcome.TheVariants as outcomes
use Rattle.work_profile.specs.Profiles.{Noted, with_outcome}
use Rattle.work_script.specs.declared.op.Op.{Op}
use Rattle.work_script.specs.declared.op.Op.TheVariants.{Cancel, Irrev}
use Rattle.work_script.specs.declared.report.Kind.{Kind}
use Rattle.work_script.specs.declared.report.Kind.TheVariants.{W, R, C}
use Rattle.work_script.specs.declared.workload.Header.{Header}
use Rattle.work_script.specs.declared.workload.Item.{Item}
use Rattle.work_script.specs.Operations.{emits_of, is_cancel, is_irrev}
use Rattle.work_script.specs.Outputs.{Output}
use Rattle.work_script.specs.Reports.{scripts_of}
use Rattle.work_script.specs.Scripts.{run}
use Rattle.work_script.specs.ScriptLaws.{GaveOver, ran_one}
use Rattle.stm_rule.specs.Callers.{Handle, IsOf, IsSameCaller}
use Rattle.stm_rule.specs.declared.stm.Stm.{Stm}
use Rattle.rule_base.specs.declared.views.View.{View}
use Rattle.stm_answers.specs.Answers.{BeginsAt, Continues, HoldsClosed, Quits, Stays}
use Rattle.stm_answers.specs.Answers as answers
use Rattle.stm_answers.specs.Causes.Asked.{ToCommit}
use Rattle.stm_answers.specs.CallerState.{CallerState, Grows, IsIdle, IsUnrolled, IsRunning, caller_of, is_irrevocable, known_of}
use Rattle.stm_answers.specs.CallerState as knows
use Rattle.stm_answers.specs.CallerStateLaws.{Carries, IsStillIn, grows-same, grows-trans}
use Rattle.stm_answers.specs.declared.answers.Begin.TheVariants.{Begun}
use Rattle.stm_answers.specs.declared.answers.Cancel.TheVariants.{Cancelled, Irrevocable}
use Rattle.stm_answers.specs.declared.answers.Commit.TheVariants.{Committed, ReadOnly, Again}
use Rattle.stm_answers.specs.declared.answers.Irrev.TheVariants.{Granted, Busy}
use Rattle.stm_tx.specs.Descs.{Reserves, known}
use Rattle.work_trace.specs.Adapting.{no_profile, outcome_of}
use Rattle.work_trace.specs.declared.said.Phase.{Phase}
use Rattle.work_trace.specs.declared.said.Phase.TheVariants.{Between, Inside, Closing, Quiet}
use Rattle.work_trace.specs.declared.said.Said.{Said}
use Rattle.work_trace.specs.declared.said.Said.TheVariants.{TryBegin, Reply, Stopped, TryCancel, TryIrrevocable, TryCommit, TryClose, Looked, Installed, Reserved, Idle, Dropped, Reopened}
use Rattle.work_trace.proofs.FairLaws.{IsPlaceOf}
use Rattle.work_trace.specs.Places.{CallerProgress, script_at, rest_of, ended, after, failed_next, granted_at, is_forced, must_next, most_failed, irrevocable, writes}
use Rattle.work_trace.specs.Places as places
use Rattle.work_trace.specs.Turns.{BeforeTx, Comes, HasSizes, IsFair, Lengthens, MaySay, MayWind, MustSwitchTo, Next, SwitchesTo, is_call}
use Rattle.work_worker.specs.declared.worker.Worker.{Worker}
use Rattle.work_worker.specs.Goings.{Going, no_log, no_replies}
use Rattle.work_worker.specs.Tellings.{Tells, IsOutside, StoppedBy}
use Rattle.work_worker.specs.Courses.{IsUncut, MayTurn, installed, is_cut}
use Rattle.work_worker.proofs.InstallLaws.{say-turn}
use Rattle.work_worker.specs.Workers.{place_of, IsAt, IsCounted, IsKept, IsSame, IsUnderWay, ToSwitch, WhenInside, ItemsFit, DidFirst, Works, WorksSince, Stands, cleared, spares, WroteRow, EndsWith, adapted, Sound, Starved, Turned, Refused, stopped_by}
use Rattle.work_worker.proofs.Calls.{grew, nothing, commits, quits}
use Rattle.work_worker.proofs.GoingLaws.{wrote-one, going-begun, going-step, going-refused, going-asked, going-later, gave-all, gave-cut, cut-unasked}
use Rattle.work_worker.proofs.RoomLaws.{room-of}
use Rattle.work_worker.proofs.RowLaws.{row-wrote, row-read, row-cancelled, row_of}
use Rattle.work_worker.proofs.StandLaws.{callers-same, cleared-more, cleared-told, did-first, drop-head, drop-more, few-emits, head-fits, next-is, rest-between, rest-closed, rest-fits, rest-quiet, rest-runs, rest-stands, Rest, reserve-left, room-next, room-told, since-begin, since-later, stands-rest, switch-left, at-closed, tx-scripts, when-rest, works-later, works-over}
use Rattle.work_worker.proofs.TellLaws.{Asks, stops-quits, tells-fair, tells-found, tells-installs, tells-knows, tells-owed}

began-at : (at : CallerProgress) (ops : List Op) (o : Output) (alg : Alg) → ops ≡ script_at at.left → o.replies ≡ [] → o.emits ≡ []
    → record at { phase = Inside; alg = alg; rest = ops; replies = o.replies; emits = o.emits; wrote = false; granted = false } ≡ after at (TryBegin (Begun alg))
began-at at ops o alg r a b = cc

operated-at : (at : CallerProgress) (ops : List Op) (o : Output) (wrote : Bool) (op : Op) (reply : ℕ) → ops ≡ rest_of at.rest
    → wrote ≡ at.wrote || writes op reply → o.replies ≡ at.replies ++ reply ∷ [] → o.emits ≡ at.emits ++ emits_of op reply
    → record at { rest = ops; replies = o.replies; emits = o.emits; wrote = wrote } ≡ after at (Reply op reply)
operated-at at ops o wrote op reply r w a b = cc

or-false : (a : Bool) → a ≡ a || false
or-false true = refl
or-false false = refl

append-none : (xs : List ℕ) → xs ≡ xs ++ []
append-none [] = refl
append-none (x ∷ xs) = ap (λ w. x ∷ w) (append-none xs)

refused-at : (at : CallerProgress) (ops : List Op) (o : Output) → ops ≡ rest_of at.rest → o.replies ≡ at.replies ++ 0 ∷ [] → o.emits ≡ at.emits
    → record at { rest = ops; replies = o.replies; emits = o.emits } ≡ after at (TryCancel Irrevocable)
refused-at at ops o r a b = let w = or-false at.wrote in let e = append-none at.emits in cc

asked-at : (at : CallerProgress) (ops : List Op) (o : Output) → ops ≡ rest_of at.rest → o.replies ≡ at.replies ++ 1 ∷ [] → o.emits ≡ at.emits
    → record at { rest = ops; replies = o.replies; emits = o.emits; granted = true } ≡ granted_at false at
asked-at at ops o r a b = let w = or-false at.wrote in let e = append-none at.emits in cc

installed-at : (at : CallerProgress) (left : List Item) → at.chosen ≡ None → left ≡ rest_of at.left → record at { left = left; phase = Between } ≡ places.switched at.chosen at
installed-at at left none l = ap (λ x. record at { left = x; phase = Between }) l ∙ sym (ap (λ (x : Option Alg). places.switched x at) none)

besides-at : (at : CallerProgress) (chosen : Alg) → at.chosen ≡ Some chosen → record at { phase = Between; profile = no_profile; chosen = None } ≡ places.switched at.chosen at
besides-at at chosen some = sym (ap (λ (x : Option Alg). places.switched x at) some)

cancelled-at : (at : CallerProgress) (o p : Output) (t : ℕ) → at.replies ≡ o.replies → at.emits ≡ o.emits → p ≡ record o { replies = o.replies ++ 1 ∷ [] }
    → ended C t (record at { replies = p.replies; emits = p.emits }) ≡ after at (TryCancel (Cancelled t))
cancelled-at at o p t r e told =
    let a : p.replies ≡ at.replies ++ 1 ∷ [] = ap (λ (x : Output). x.replies) told ∙ ap (λ s. s ++ 1 ∷ []) (sym r) in
    let b : p.emits ≡ at.emits = ap (λ (x : Output). x.emits) told ∙ sym e in
    ap (λ s. ended C t (record at { replies = s; emits = p.emits })) a ∙ ap (λ s. ended C t (record at { replies = at.replies ++ 1 ∷ []; emits = s })) b

and-left : (a b : Bool) → (a && not b) ≡ false → a ≡ true → b ≡ true
and-left true true h e = refl
and-left true false h e = absurd cc
and-left false b h e = absurd cc

still-few : (failed : ℕ) (must : Bool) → IsCounted failed must → IsCounted (failed_next must failed) (must_next must failed)
still-few failed true few e = absurd cc
still-few failed false few e = let lt = few refl in grind (arith, nat_tests)

uncut-one : (said : Said) → is_cut said ≡ false → IsUncut (said ∷ [])
uncut-one (TryBegin b) e = tt
uncut-one (Reply op reply) e = tt
uncut-one (Stopped op stop) e = tt
uncut-one (TryCancel c) e = tt
uncut-one (TryIrrevocable r) e = tt
uncut-one (TryCommit c) e = tt
uncut-one (TryClose c) e = tt
uncut-one (Looked l) e = tt
uncut-one (Installed alg) e = tt
uncut-one (Reserved reads writes) e = tt
uncut-one Idle e = tt
uncut-one Dropped e = absurd cc
uncut-one Reopened e = tt

self-kept : {K : Type 0} (w : Worker K) → IsKept w w
self-kept w = record { same = record { table = refl; who = refl }; all = refl; regions = refl; policy = refl }

pub self-same : {K : Type 0} (w : Worker K) → IsSame false w w
self-same w = record { kept = self-kept w; course = []; went = λ h sizes. refl; uncut = λ e. tt; installs = sym (append-nil (known w.desc).installs); alone = λ one. refl }

-- the row is written, and then the policy asked
pub ends-with : {K : Type 0} (kind : Kind) (time : ℕ) (v m w : Worker K) (outcome : Outcome) → outcome ≡ outcome_of kind → WroteRow kind time v m → w ≡ adapted outcome m → EndsWith kind time v w
ends-with kind time v m w outcome is h e = subst (EndsWith kind time v) (sym e) (record {
  at = ap (λ (p : CallerProgress). places.adapted outcome p) h.at ∙ ap (λ (o : Outcome). places.adapted o (places.recorded kind time (place_of v))) is;
  desc = h.desc;
  all = h.all;
  regions = h.regions;
  roomy = record { spare = h.roomy.spare; rows = h.roomy.rows };
})

asks-out : {K : Type 0} (good : List ℕ → Type 0) (stm : Stm K) (u : Worker K) → Sound good stm u → Rest u.phase → (known u.desc).running ≡ false
asks-out good stm u s r = rest-runs good stm.config (caller_of u.desc.who.role) u.phase (known u.desc) r s.at

module _ {K : Type 0} (good : List ℕ → Type 0) (stm : Stm K) (u : Worker K) (s : Sound good stm u) where
  pub resting-now : Rest u.phase → Works good stm.config.words u.regions.now u.all.now (caller_of u.desc.who.role) (known u.desc) u.rows.items
  resting-now r = rest-stands good stm.config.words u.regions.now u.all.now (caller_of u.desc.who.role) (known u.desc) u.rows.items u.phase r s.stands

  pub inside-now : u.phase ≡ Inside → WorksSince good stm.config.words u.regions.now u.all.now (caller_of u.desc.who.role) (known u.desc) u.rows.items
  inside-now e = subst (Stands good stm.config.words u.regions.now u.all.now (caller_of u.desc.who.role) (known u.desc) u.rows.items) e s.stands

  pub attempt-now : u.phase ≡ Inside → IsUnderWay good stm.config.words u
  attempt-now e = subst (λ p. WhenInside p (IsUnderWay good stm.config.words u)) e s.under_way

  pub idle-now : u.phase ≡ Between → IsIdle (known u.desc)
  idle-now e = subst (λ p. IsAt good stm.config (caller_of u.desc.who.role) p (known u.desc)) e s.at

  pub runs-now : u.phase ≡ Inside → (known u.desc).running ≡ true
  runs-now e = subst (λ p. IsAt good stm.config (caller_of u.desc.who.role) p (known u.desc)) e s.at

  pub closed-now : (u.phase ≡ Closing) ⊎ (u.phase ≡ Quiet) → HoldsClosed (known u.desc)
  closed-now e = at-closed good stm.config (caller_of u.desc.who.role) u.phase (known u.desc) e s.at

  pub quiet-now : u.phase ≡ Quiet → answers.SeesQuiet good stm.config (caller_of u.desc.who.role) (known u.desc)
  quiet-now e = (subst (λ p. IsAt good stm.config (caller_of u.desc.who.role) p (known u.desc)) e s.at).1

  -- the place tells whether the attempt can be cancelled
  pub irrevocable-place : u.phase ≡ Inside → irrevocable (place_of u) ≡ is_irrevocable (known u.desc)
  irrevocable-place e = (attempt-now e).going.irrevocable

  place-is : u.phase ≡ Inside → IsPlaceOf (known u.desc) (place_of u)
  place-is e = let g = (attempt-now e).going in record { alg = sym g.named; wrote = g.writer; irrevocable = g.irrevocable }

  -- an attempt that isn't forced is not in the middle of its commit while operations are left
  pub runs-free : u.phase ≡ Inside → (op : Op) → Next op u.operations_left.now → IsRunning (known u.desc)
  runs-free e op next = (runs-now e, by (known u.desc).committing refl)
    where
      by : (b : Bool) → (known u.desc).committing ≡ b → b ≡ false
      by true c = absurd (subst (Next op) ((attempt-now e).committing c).0 next)
      by false c = refl

  pub runs-forced : u.phase ≡ Inside → is_forced (place_of u) ≡ true → IsRunning (known u.desc)
  runs-forced e forced = (runs-now e, by (known u.desc).committing refl)
    where
      by : (b : Bool) → (known u.desc).committing ≡ b → b ≡ false
      by true c = absurd (let f : true ≡ false = sym forced ∙ ((attempt-now e).committing c).1 in cc)
      by false c = refl

  -- who is in an attempt is inside
  pub inside-of-running : (p : Phase) → IsAt good stm.config (caller_of u.desc.who.role) p (known u.desc) → (known u.desc).running ≡ true → p ≡ Inside
  inside-of-running Between h e = absurd (let f : true ≡ false = sym e ∙ h.1 in cc)
  inside-of-running Inside h e = refl
  inside-of-running Closing h e = absurd (let f : true ≡ false = sym e ∙ h.running in cc)
  inside-of-running Quiet h e = absurd (let f : true ≡ false = sym e ∙ h.0.running in cc)

  module _ (may : CallerProgress → Said → Type 0) (said : Said) (w : Worker K) (config : IsConfig stm.config) (goes : may (place_of u) said → MayTurn (place_of u) said) where
    fair-turn : Asks said (known u.desc) → Tells good stm.config (caller_of u.desc.who.role) said (known u.desc) (known w.desc) → (h : Header) → HasSizes stm.config h → IsFair h (place_of u) said
    fair-turn asks told h sizes =
        tells-fair good stm.config (caller_of u.desc.who.role) h (place_of u) config sizes refl said (known u.desc) (known w.desc) asks
        (λ e. place-is (inside-of-running u.phase s.at e)) (refl, refl) told

    -- a turn by what its call told, and by what it left
    pub turned-by : may (place_of u) said → Asks said (known u.desc)
        → Tells good stm.config (caller_of u.desc.who.role) said (known u.desc) (known w.desc) → place_of w ≡ after (place_of u) said
        → IsKept u w → Sound good stm w → Turned good stm may u said w
    turned-by here asks told now kept sound = let fair = fair-turn asks told in record {
      sound = sound;
      here = here;
      told = told;
      now = now;
      same = record {
        kept = kept;
        course = said ∷ [];
        went = λ h sizes. (goes here, fair h (subst (λ c. HasSizes c h) s.own.config sizes), sym now);
        uncut = uncut-one said;
        installs = tells-installs good stm.config (caller_of u.desc.who.role) said (known u.desc) (known w.desc) told ∙ ap (λ l. (known u.desc).installs ++ l) (sym (append-nil (installed said)));
        alone = λ one. tells-knows good stm.config (caller_of u.desc.who.role) said (known u.desc) (known w.desc) (sym (ap (λ (c : Config). c.callers) s.own.config) ∙ one) told;
      };
      fair = fair;
      owes = tells-owed good stm.config (caller_of u.desc.who.role) said (known u.desc) (known w.desc) asks told;
      found = tells-found good stm.config (caller_of u.desc.who.role) said (known u.desc) (known w.desc) told;
      installs = tells-installs good stm.config (caller_of u.desc.who.role) said (known u.desc) (known w.desc) told;
    }

  pub turned-idle : u.phase ≡ Between → u.items_left.now ≡ [] → u.chosen ≡ None → Turned good stm MaySay u Idle u
  turned-idle between left none = turned-by MaySay Idle u stm.ranges (λ m. m) (between, left, none) tt refl refl (self-kept u) s

  module _ (d : Handle K) (same : IsSameCaller u.desc d) (grows : Grows (known u.desc) (known d)) where
    n_is : caller_of d.who.role ≡ caller_of u.desc.who.role
    n_is = callers-same u.desc d same

    pub own-same : IsOf d stm
    own-same = record { table = same.table ∙ s.own.table; config = ap (λ x. x.config) same.who ∙ s.own.config; rule = ap (λ x. x.rule) same.who ∙ s.own.rule }

    -- the call left the place as it was
    pub place-now : place_of (record u { desc = d }) ≡ place_of u
    place-now = λ i. record (place_of u) { caller = n_is i; reads_limit = grows.reads_limit i; writes_limit = grows.writes_limit i }

    -- whatever changed of the attempt, the rows are as they were
    sound-noted : (q : Noted) (p : Phase) (alg : Alg) (r : Bor (List Op)) (o : Output) (wrote granted must b : Bool) (failed : ℕ) → IsAt good stm.config (caller_of u.desc.who.role) p (known d) → cleared o ≡ cleared u.out
        → Stands good stm.config.words u.regions.now u.all.now (caller_of u.desc.who.role) (known d) u.rows.items p → IsCounted failed must → ToSwitch p u.chosen u.items_left.now
        → WhenInside p (IsUnderWay good stm.config.words (record u {
          desc = d;
          phase = p;
          alg = alg;
          operations_left = r;
          out = o;
          wrote = wrote;
          granted = granted;
          must = must;
          failed = failed;
          passed = b;
          profile = q;
        }))
        → Sound good stm (record u { desc = d; phase = p; alg = alg; operations_left = r; out = o; wrote = wrote; granted = granted; must = must; failed = failed; passed = b; profile = q })
    sound-noted q p alg r o wrote granted must b failed at room stands few turning under = record {
      own = own-same;
      at = subst (λ n. IsAt good stm.config n p (known d)) (sym n_is) at;
      stands = subst (λ n. Stands good stm.config.words u.regions.now u.all.now n (known d) u.rows.items p) (sym n_is) stands;
      done = s.done;
      todo = subst (λ n. scripts_of n u.items_left.now ≡ drop (length u.rows.items) (scripts_of n u.all.now)) (sym n_is) s.todo;
      within = subst (λ n. length u.rows.items ≤ length (scripts_of n u.all.now)) (sym n_is) s.within;
      counted = few;
      fits = subst (λ n. ItemsFit good stm.config.words u.regions.now n u.items_left.now) (sym n_is) s.fits;
      roomy = record {
        spare = ap (λ x. u.spare.items ++ x ∷ []) room ∙ s.roomy.spare;
        rows = s.roomy.rows;
      };
      turning = turning;
      plain = s.plain;
      under_way = under;
    }

    -- and nothing is noted
    sound-of : (p : Phase) (alg : Alg) (r : Bor (List Op)) (o : Output) (wrote granted must b : Bool) (failed : ℕ) → IsAt good stm.config (caller_of u.desc.who.role) p (known d) → cleared o ≡ cleared u.out
        → Stands good stm.config.words u.regions.now u.all.now (caller_of u.desc.who.role) (known d) u.rows.items p → IsCounted failed must → ToSwitch p u.chosen u.items_left.now
        → WhenInside p (IsUnderWay good stm.config.words (record u { desc = d; phase = p; alg = alg; operations_left = r; out = o; wrote = wrote; granted = granted; must = must; failed = failed; passed = b }))
        → Sound good stm (record u { desc = d; phase = p; alg = alg; operations_left = r; out = o; wrote = wrote; granted = granted; must = must; failed = failed; passed = b })
    sound-of p alg r o wrote granted must b failed at room stands few turning under = sound-noted u.profile p alg r o wrote granted must b failed at room stands few turning under

    -- no attempt is open, before and after
    pub rested : (p : Phase) → Rest u.phase → Rest p → (known d).made ≡ (known u.desc).made → IsAt good stm.config (caller_of u.desc.who.role) p (known d) → ToSwitch p u.chosen u.items_left.now
        → Sound good stm (record u { desc = d; phase = p })
    rested p r q made at turning =
        sound-of p u.alg u.operations_left u.out u.wrote u.granted u.must u.passed u.failed at refl
        (stands-rest good stm.config.words u.regions.now u.all.now (caller_of u.desc.who.role) (known d) u.rows.items p q
        (works-later good stm.config.words u.regions.now u.all.now (caller_of u.desc.who.role) (known u.desc) (known d) u.rows.items made (grew (known u.desc) (known d) grows) (resting-now r)))
        s.counted turning (when-rest p q _)

    -- the attempt is over, without a row
    pub over : (q : Noted) (must b : Bool) (failed : ℕ) (o : Output) → u.phase ≡ Inside → IsIdle (known d) → (known d).made ≡ (known u.desc).made → o ≡ cleared u.out → IsCounted failed must
        → Sound good stm (record u { desc = d; phase = Between; out = o; must = must; failed = failed; passed = b; profile = q })
    over q must b failed o inside idle made clear few =
        sound-noted q Between u.alg u.operations_left o u.wrote u.granted must b failed idle (ap cleared clear)
        (works-over good stm.config.words u.regions.now u.all.now (caller_of u.desc.who.role) (known u.desc) (known d) u.rows.items made (grew (known u.desc) (known d) grows) (inside-now inside))
        few tt tt

    pub began : (alg : Alg) (r : Bor (List Op)) (o : Output) → u.phase ≡ Between → BeforeTx u.items_left.now
        → r.now ≡ script_at u.items_left.now → o ≡ cleared u.out
        → BeginsAt good stm.config (caller_of u.desc.who.role) alg (known u.desc) (known d)
        → Sound good stm (record u { desc = d; phase = Inside; alg = alg; operations_left = r; out = o; wrote = false; granted = false; passed = false })
    began alg r o between here is clear h =
        let f = head-fits good stm.config.words u.regions.now (caller_of u.desc.who.role) u.items_left.now here s.fits in
        let room : o.room ≡ u.out.room = ap (λ (x : Output). x.room) clear in
        let replies : o.replies ≡ [] = ap (λ (x : Output). x.replies) clear in
        let emits : o.emits ≡ [] = ap (λ (x : Output). x.emits) clear in
        let most : length (script_at u.items_left.now) ≤ o.room = (let e = room-of u.items_left.now u.spare.items u.out here s.roomy.spare in omega (arith, e, room)) in
        let going = going-begun good stm.config.words u.regions.now (script_at u.items_left.now) (known d) alg o f.0 f.1 most replies emits h.log h.opaque.explained h.named h.granted in
        sound-of Inside alg r o false false u.must false u.failed h.running (ap cleared clear)
        (since-begin good stm.config.words u.regions.now u.all.now (caller_of u.desc.who.role) (known u.desc) (known d) u.rows.items h.made
        (grew (known u.desc) (known d) grows) h.fresh (resting-now (rest-between u.phase between)))
        s.counted tt (record {
          going = subst (λ ops. Going good stm.config.words u.regions.now (script_at u.items_left.now) ops (known d) alg false o false) (sym is) going;
          here = here;
          unfenced = h.unfenced s.plain;
          unrolled = λ e. h.bare;
          committing = λ e. absurd (let f : true ≡ false = sym e ∙ h.committing in cc);
          waits = λ e f. refl;
        })

    pub began-now : (alg : Alg) (r : Bor (List Op)) (o : Output) → r.now ≡ script_at u.items_left.now → o ≡ cleared u.out
        → place_of
        (record u { desc = d; phase = Inside; alg = alg; operations_left = r; out = o; wrote = false; granted = false; passed = false })
        ≡ after (place_of u) (TryBegin (Begun alg))
    began-now alg r o is clear =
        began-at (place_of (record u { desc = d })) r.now o alg is (ap (λ (x : Output). x.replies) clear)
        (ap (λ (x : Output). x.emits) clear) ∙ ap (λ (p : CallerProgress). after p (TryBegin (Begun alg))) place-now

    -- the attempt goes on, from where the script was
    stays-in : (alg : Alg) (r : Bor (List Op)) (o : Output) (wrote granted must b : Bool) (failed : ℕ) → u.phase ≡ Inside
        → (known d).running ≡ true → (known d).made ≡ (known u.desc).made → (known u.desc).start ≤ (known d).start
        → cleared o ≡ cleared u.out
        → IsCounted failed must
        → IsUnderWay good stm.config.words (record u {
          desc = d;
          phase = u.phase;
          alg = alg;
          operations_left = r;
          out = o;
          wrote = wrote;
          granted = granted;
          must = must;
          failed = failed;
          passed = b;
        })
        → Sound good stm (record u { desc = d; phase = u.phase; alg = alg; operations_left = r; out = o; wrote = wrote; granted = granted; must = must; failed = failed; passed = b })
    stays-in alg r o wrote granted must b failed inside runs made start room few under =
        sound-of u.phase alg r o wrote granted must b failed (subst (λ p. IsAt good stm.config (caller_of u.desc.who.role) p (known d)) (sym inside) runs) room
        (subst (Stands good stm.config.words u.regions.now u.all.now (caller_of u.desc.who.role) (known d) u.rows.items) (sym inside)
        (since-later good stm.config.words u.regions.now u.all.now (caller_of u.desc.who.role) (known u.desc) (known d) u.rows.items made (grew (known u.desc) (known d) grows) start (inside-now inside)))
        few s.turning (subst (λ p.
        WhenInside p (IsUnderWay good stm.config.words (record u {
          desc = d;
          phase = u.phase;
          alg = alg;
          operations_left = r;
          out = o;
          wrote = wrote;
          granted = granted;
          must = must;
          failed = failed;
          passed = b;
        }))) (sym inside) under)

    pub operated : (op : Op) (reply : ℕ) (r : Bor (List Op)) (o : Output) (wrote : Bool) → Comes op (place_of u) → is_cancel op ≡ false
        → is_irrev op ≡ false → r.now ≡ rest_of u.operations_left.now → wrote ≡ u.wrote || writes op reply
        → Carries (known u.desc) (known d) → IsRunning (known d)
        → GaveOver good stm.config.words (ran_one u.regions.now op) (known u.desc).log u.out (known d).log o
        → (IsExplained good stm.config.words (known u.desc).log → IsExplained good stm.config.words (known d).log) → o ≡ record u.out { replies = u.out.replies ++ reply ∷ []; emits = u.out.emits ++ emits_of op reply }
        → Sound good stm (record u { desc = d; operations_left = r; out = o; wrote = wrote })
    operated op reply r o wrote comes plain unasked is was carries runs gave more told =
        let inside = comes.0 in
        let at = attempt-now inside in
        let ops = next-is op u.operations_left.now comes.2 in
        let g = subst (λ x. Going good stm.config.words u.regions.now (script_at u.items_left.now) x (known u.desc) u.alg u.granted u.out u.wrote) ops at.going in
        let still = carries.going runs.0 in
        let written : knows.wrote (known d) ≡ u.wrote || writes op reply = sym (going-writes ops gave told g (more g.explained)) in
        let certain : irrevocable_under u.alg u.granted (u.wrote || writes op reply) ≡ is_irrevocable (known d) = irrevocable-after carries still (g.named) (g.writer) written g.irrevocable in
        let step = going-step good stm.config.words u.regions.now (script_at u.items_left.now) op (rest_of u.operations_left.now)
        (known u.desc) (known d) u.alg u.granted u.granted u.out o u.wrote reply plain (λ off. unasked) told g gave (more g.explained)
        carries.alg certain (λ i. (carries.irrevocable (runs-now inside) i).1) (room-next u.out o reply (length (rest_of u.operations_left.now)) (emits_of op reply) told (few-emits op reply) g.room) in
        let going = subst (λ x. Going good stm.config.words u.regions.now (script_at u.items_left.now) x (known d) u.alg u.granted o wrote) (sym is)
        (subst (λ b. Going good stm.config.words u.regions.now (script_at u.items_left.now) (rest_of u.operations_left.now) (known d) u.alg u.granted o b) (sym was) step) in
        stays-in u.alg r o wrote u.granted u.must u.passed u.failed inside runs.0 carries.made still.start (cleared-more u.out o (u.out.replies ++ reply ∷ []) (u.out.emits ++ emits_of op reply) told) s.counted (record {
          going = going;
          here = at.here;
          unfenced = still.fence ∙ at.unfenced;
          unrolled = still.unrolled at.unrolled;
          committing = λ e. absurd (let f : true ≡ false = sym e ∙ runs.1 in cc);
          waits =
              λ e off.
              absurd (let now = and-left u.must (irrevocable (place_of u)) comes.1 e in
              let later = ap (irrevocable_under u.alg u.granted) was ∙ irrevocable-wrote u.alg u.granted u.wrote (writes op reply) now in
              let f : true ≡ false = sym later ∙ off in cc);
        })
      where
        going-writes : u.operations_left.now ≡ op ∷ rest_of u.operations_left.now
            → GaveOver good stm.config.words (ran_one u.regions.now op) (known u.desc).log u.out (known d).log o
            → o ≡ record u.out { replies = u.out.replies ++ reply ∷ []; emits = u.out.emits ++ emits_of op reply }
            → Going good stm.config.words u.regions.now (script_at u.items_left.now) (op ∷ rest_of u.operations_left.now) (known u.desc)
            u.alg u.granted u.out u.wrote → IsExplained good stm.config.words (known d).log
            → u.wrote || writes op reply ≡ knows.wrote (known d)
        going-writes ops gave told g ex = wrote-one good stm.config.words u.regions.now op (known u.desc) (known d) u.out o u.wrote reply told g.writer gave ex

        irrevocable-after : Carries (known u.desc) (known d) → IsStillIn (known u.desc) (known d) → (known u.desc).alg ≡ u.alg → u.wrote ≡ knows.wrote (known u.desc) → knows.wrote (known d) ≡ u.wrote || writes op reply
            → irrevocable_under u.alg u.granted u.wrote ≡ is_irrevocable (known u.desc) → irrevocable_under u.alg u.granted (u.wrote || writes op reply) ≡ is_irrevocable (known d)
        irrevocable-after c still named was now irrevocable =
            by u.alg u.granted (known u.desc).granted u.wrote (writes op reply)
            (subst
            (λ a. irrevocable_under u.alg u.granted u.wrote ≡ irrevocable_under a (known u.desc).granted (knows.wrote (known u.desc))) named
            irrevocable ∙ ap (irrevocable_under u.alg (known u.desc).granted) (sym was))
            ∙ ((λ i. irrevocable_under (sym (c.alg ∙ named) i) (sym still.granted i) (sym now i)))
          where
            by : (a : Alg) (x y w m : Bool) → irrevocable_under a x w ≡ irrevocable_under a y w → irrevocable_under a x (w || m) ≡ irrevocable_under a y (w || m)
            by Alg.Cgl x y w m h = refl
            by Alg.Tml true true w m h = refl
            by Alg.Tml false false w m h = refl
            by Alg.Tml true false true m h = refl
            by Alg.Tml true false false m h = absurd cc
            by Alg.Tml false true true m h = refl
            by Alg.Tml false true false m h = absurd cc
            by Alg.OrecLazy x y w m h = h
            by Alg.OrecEager x y w m h = h
            by Alg.RingSw x y w m h = h
            by Alg.Serial x y w m h = h

    pub operated-now : (op : Op) (reply : ℕ) (r : Bor (List Op)) (o : Output) (wrote : Bool) → r.now ≡ rest_of u.operations_left.now
        → wrote ≡ u.wrote || writes op reply
        → o ≡ record u.out { replies = u.out.replies ++ reply ∷ []; emits = u.out.emits ++ emits_of op reply }
        → place_of (record u { desc = d; operations_left = r; out = o; wrote = wrote }) ≡ after (place_of u) (Reply op reply)
    operated-now op reply r o wrote is was told =
        operated-at (place_of (record u { desc = d })) r.now o wrote op reply is was (ap (λ (x : Output). x.replies) told)
        (ap (λ (x : Output). x.emits) told) ∙ ap (λ (p : CallerProgress). after p (Reply op reply)) place-now

    -- the caller knows what it knew: the call changed nothing
    same-known : known d ≡ known u.desc → Stands good stm.config.words u.regions.now u.all.now (caller_of u.desc.who.role) (known d) u.rows.items u.phase
    same-known knows = subst (λ v. Stands good stm.config.words u.regions.now u.all.now (caller_of u.desc.who.role) v u.rows.items u.phase) (sym knows) s.stands

    pub refused : (r : Bor (List Op)) (o : Output) → Comes Cancel (place_of u) → r.now ≡ rest_of u.operations_left.now
        → known d ≡ known u.desc → is_irrevocable (known u.desc) ≡ true → o ≡ record u.out { replies = u.out.replies ++ 0 ∷ [] }
        → Sound good stm (record u { desc = d; operations_left = r; out = o })
    refused r o comes is knows certain told =
        let inside = comes.0 in
        let at = attempt-now inside in
        let g = subst (λ x. Going good stm.config.words u.regions.now (script_at u.items_left.now) x (known u.desc) u.alg u.granted u.out u.wrote) (next-is Cancel u.operations_left.now comes.2) at.going in
        let step = going-refused good stm.config.words u.regions.now (script_at u.items_left.now) (rest_of u.operations_left.now)
        (known u.desc) u.alg u.granted u.out o u.wrote g certain told
        (room-told u.out o 0 (length (rest_of u.operations_left.now)) told g.room) in
        let going = subst (λ v. Going good stm.config.words u.regions.now (script_at u.items_left.now) r.now v u.alg u.granted o u.wrote)
        (sym knows) (subst
        (λ x. Going good stm.config.words u.regions.now (script_at u.items_left.now) x (known u.desc) u.alg u.granted o u.wrote) (sym is)
        step) in
        sound-of u.phase u.alg r o u.wrote u.granted u.must u.passed u.failed (subst (IsAt good stm.config (caller_of u.desc.who.role) u.phase) (sym knows) s.at) (cleared-told u.out o (u.out.replies ++ 0 ∷ []) told)
        (same-known knows) s.counted s.turning (subst (λ p. WhenInside p (IsUnderWay good stm.config.words (record u { desc = d; operations_left = r; out = o }))) (sym inside) (record {
          going = going;
          here = at.here;
          unfenced = ap (λ (v : CallerState). v.fence) knows ∙ at.unfenced;
          unrolled = subst IsUnrolled (sym knows) at.unrolled;
          committing = λ e. absurd (let f = (at.committing (sym (ap (λ (v : CallerState). v.committing) knows) ∙ e)).0 in subst (Next Cancel) f comes.2);
          waits = at.waits;
        }))

    pub refused-now : (r : Bor (List Op)) (o : Output) → r.now ≡ rest_of u.operations_left.now
        → o ≡ record u.out { replies = u.out.replies ++ 0 ∷ [] }
        → place_of (record u { desc = d; operations_left = r; out = o }) ≡ after (place_of u) (TryCancel Irrevocable)
    refused-now r o is told =
        refused-at (place_of (record u { desc = d })) r.now o is (ap (λ (x : Output). x.replies) told) (ap (λ (x : Output). x.emits) told)
        ∙ ap (λ (p : CallerProgress). after p (TryCancel Irrevocable)) place-now

    -- a cancel was refused outside the script
    pub refused-drop : u.phase ≡ Inside → known d ≡ known u.desc → is_irrevocable (known u.desc) ≡ true → Refused good stm u (record u { desc = d })
    refused-drop inside knows certain = record {
      sound = sound-of u.phase u.alg u.operations_left u.out u.wrote u.granted u.must u.passed u.failed (subst (IsAt good stm.config (caller_of u.desc.who.role) u.phase) (sym knows) s.at) refl
          (same-known knows) s.counted s.turning (subst (λ p. WhenInside p (IsUnderWay good stm.config.words (record u { desc = d }))) (sym inside) (let at = attempt-now inside in record {
            going = subst (λ v. Going good stm.config.words u.regions.now (script_at u.items_left.now) u.operations_left.now v u.alg u.granted u.out u.wrote) (sym knows) at.going;
            here = at.here;
            unfenced = ap (λ (v : CallerState). v.fence) knows ∙ at.unfenced;
            unrolled = subst IsUnrolled (sym knows) at.unrolled;
            committing = λ e. at.committing (sym (ap (λ (v : CallerState). v.committing) knows) ∙ e);
            waits = at.waits;
          }));
      irrevocable_now = irrevocable-place inside ∙ certain;
      now = place-now;
      knows = knows;
      same = record {
        kept = record { same = same; all = refl; regions = refl; policy = refl };
        course = [];
        went = λ h sizes. sym place-now;
        uncut = λ e. tt;
        installs = ap (λ (v : CallerState). v.installs) knows ∙ sym (append-nil (known u.desc).installs);
        alone = λ one. ap (λ (v : CallerState). v.alg) knows;
      };
    }

    -- granted because it must be: the script is where it was
    pub granted-forced : u.phase ≡ Inside → answers.TriesIrrevocable good stm.config (caller_of u.desc.who.role) (known u.desc) (known d) → Sound good stm (record u { desc = d; granted = true })
    granted-forced inside h =
        let at = attempt-now inside in
        let certain = granted-irrevocable u.alg u.wrote in
        stays-in u.alg u.operations_left u.out u.wrote true u.must u.passed u.failed inside h.continues.running h.continues.made h.continues.later refl s.counted (record {
          going =
              going-later good stm.config.words u.regions.now (script_at u.items_left.now) u.operations_left.now (known u.desc) (known d)
              u.alg u.granted true u.out u.wrote at.going h.log h.continues.alg h.opaque.explained (certain ∙ sym h.irrevocable) (λ off.
              absurd (let f : true ≡ false = sym h.irrevocable ∙ off in cc));
          here = at.here;
          unfenced = h.continues.fence ∙ at.unfenced;
          unrolled = λ e. h.kept (at.unrolled (ap (λ (g : Log). not (is_empty g.writes)) (sym h.log) ∙ e));
          committing = λ e. absurd (let f : true ≡ false = sym e ∙ h.uncommitted in cc);
          waits = λ e off. absurd (let f : true ≡ false = sym certain ∙ off in cc);
        })

    pub granted-asked : (r : Bor (List Op)) (o : Output) → Comes Irrev (place_of u) → r.now ≡ rest_of u.operations_left.now
        → o ≡ record u.out { replies = u.out.replies ++ 1 ∷ [] }
        → answers.TriesIrrevocable good stm.config (caller_of u.desc.who.role) (known u.desc) (known d)
        → Sound good stm (record u { desc = d; operations_left = r; out = o; granted = true })
    granted-asked r o comes is told h =
        let inside = comes.0 in
        let at = attempt-now inside in
        let certain = granted-irrevocable u.alg u.wrote in
        let g = subst (λ x. Going good stm.config.words u.regions.now (script_at u.items_left.now) x (known u.desc) u.alg u.granted u.out u.wrote) (next-is Irrev u.operations_left.now comes.2) at.going in
        let step = going-asked good stm.config.words u.regions.now (script_at u.items_left.now) (rest_of u.operations_left.now)
        (known u.desc) (known d) u.alg u.granted true u.out o u.wrote g h.log h.continues.alg h.opaque.explained certain h.irrevocable told
        (room-told u.out o 1 (length (rest_of u.operations_left.now)) told g.room) in
        stays-in u.alg r o u.wrote true u.must u.passed u.failed inside h.continues.running h.continues.made h.continues.later (cleared-told u.out o (u.out.replies ++ 1 ∷ []) told) s.counted (record {
          going = subst (λ x. Going good stm.config.words u.regions.now (script_at u.items_left.now) x (known d) u.alg true o u.wrote) (sym is) step;
          here = at.here;
          unfenced = h.continues.fence ∙ at.unfenced;
          unrolled = λ e. h.kept (at.unrolled (ap (λ (g : Log). not (is_empty g.writes)) (sym h.log) ∙ e));
          committing = λ e. absurd (let f : true ≡ false = sym e ∙ h.uncommitted in cc);
          waits = λ e off. absurd (let f : true ≡ false = sym certain ∙ off in cc);
        })

    pub forced-now : is_forced (place_of u) ≡ true → place_of (record u { desc = d; granted = true }) ≡ after (place_of u) (TryIrrevocable Granted)
    forced-now e = ap (λ (p : CallerProgress). record p { granted = true }) place-now ∙ sym (ap (λ b. granted_at b (place_of u)) e)

    pub asked-now : (r : Bor (List Op)) (o : Output) → is_forced (place_of u) ≡ false → r.now ≡ rest_of u.operations_left.now
        → o ≡ record u.out { replies = u.out.replies ++ 1 ∷ [] }
        → place_of (record u { desc = d; operations_left = r; out = o; granted = true }) ≡ after (place_of u) (TryIrrevocable Granted)
    asked-now r o e is told =
        asked-at (place_of (record u { desc = d })) r.now o is (ap (λ (x : Output). x.replies) told) (ap (λ (x : Output). x.emits) told)
        ∙ (ap (granted_at false) place-now ∙ sym (ap (λ b. granted_at b (place_of u)) e))

    -- the attempt waits to be alone, or to commit
    waits-on : (b : Bool) → u.phase ≡ Inside → Continues (known u.desc) (known d) → (known d).log ≡ (known u.desc).log
        → (known d).kept ≡ (known u.desc).kept → (known d).granted ≡ (known u.desc).granted
        → answers.IsOpaque good stm.config (caller_of u.desc.who.role) (known d)
        → ((known d).committing ≡ true → (u.operations_left.now ≡ []) × (is_forced (place_of u) ≡ false)) → Sound good stm (record u { desc = d; passed = b })
    waits-on b inside h log kept grant opaque committing =
        let at = attempt-now inside in
        let same_irrevocable : is_irrevocable (known d) ≡ is_irrevocable (known u.desc) = λ i. irrevocable_under (h.alg i) (grant i) (knows.wrote (record (known u.desc) { log = log i })) in
        stays-in u.alg u.operations_left u.out u.wrote u.granted u.must b u.failed inside h.running h.made h.later refl s.counted (record {
          going =
              going-later good stm.config.words u.regions.now (script_at u.items_left.now) u.operations_left.now (known u.desc) (known d)
              u.alg u.granted u.granted u.out u.wrote at.going log h.alg opaque.explained (at.going.irrevocable ∙ sym same_irrevocable)
              (λ off. sym same_irrevocable ∙ off);
          here = at.here;
          unfenced = h.fence ∙ at.unfenced;
          unrolled = λ e. kept ∙ at.unrolled (ap (λ (g : Log). not (is_empty g.writes)) (sym log) ∙ e);
          committing = committing;
          waits = at.waits;
        })

    pub busied : u.phase ≡ Inside → answers.Waits good stm.config (caller_of u.desc.who.role) (known u.desc) (known d) → Sound good stm (record u { desc = d; passed = u.passed })
    busied inside h = waits-on u.passed inside h.continues h.log h.kept h.granted h.opaque (λ e. absurd (let f : true ≡ false = sym e ∙ h.uncommitted in cc))

    pub again : (b : Bool) → u.phase ≡ Inside → u.operations_left.now ≡ [] → is_forced (place_of u) ≡ false
        → answers.GoesOn stm.config ToCommit (known u.desc) (known d) → (known d).log ≡ (known u.desc).log
        → (known d).kept ≡ (known u.desc).kept → answers.IsOpaque good stm.config (caller_of u.desc.who.role) (known d)
        → Sound good stm (record u { desc = d; passed = b })
    again b inside none free h log kept opaque = waits-on b inside h.continues log kept h.granted opaque (λ e. (none, free))

    pub same-place : (b : Bool) → place_of (record u { desc = d; passed = b }) ≡ place_of u
    same-place b = place-now

    pub still-same : (b : Bool) → IsKept u (record u { desc = d; passed = b })
    still-same b = record { same = same; all = refl; regions = refl; policy = refl }

    pub over-now : (said : Said) (q : Noted) (must b : Bool) (failed : ℕ) (o : Output) → o ≡ cleared u.out
        → record (place_of u) { phase = Between; replies = []; emits = []; failed = failed; must = must; profile = q }
        ≡ after (place_of u) said
        → place_of (record u { desc = d; phase = Between; out = o; must = must; failed = failed; passed = b; profile = q }) ≡ after (place_of u) said
    over-now said q must b failed o clear is =
        let r : o.replies ≡ [] = ap (λ (x : Output). x.replies) clear in
        let e : o.emits ≡ [] = ap (λ (x : Output). x.emits) clear in
        (λ i. record (place-now i) { phase = Between; replies = r i; emits = e i; failed = failed; must = must; profile = q }) ∙ is

    script-here : BeforeTx u.items_left.now → slice_index_or (scripts_of (caller_of u.desc.who.role) u.all.now) (length u.rows.items) [] ≡ script_at u.items_left.now
    script-here b =
        (drop-head (length u.rows.items) [] (script_at u.items_left.now) (scripts_of (caller_of u.desc.who.role) u.all.now)
        (scripts_of (caller_of u.desc.who.role) (rest_of u.items_left.now))
        (sym (tx-scripts good stm.config.words u.regions.now (caller_of u.desc.who.role) u.items_left.now b s.fits) ∙ s.todo)).0

    -- the row is written, whose replies are those in o
    row-ended : (kind : Kind) (time : ℕ) (o : Output) (b : Bool) (w : Worker K) → u.phase ≡ Inside → IsIdle (known d)
        → Works good stm.config.words u.regions.now u.all.now (caller_of u.desc.who.role) (known d)
        (u.rows.items ++ row_of kind time (caller_of u.desc.who.role) (length u.rows.items) o ∷ [])
        → EndsWith kind time (record u { desc = d; out = o; passed = b }) w
        → Sound good stm w × IsKept u w × (place_of w ≡ ended kind time (record (place_of u) { replies = o.replies; emits = o.emits }))
    row-ended kind time o b w inside idle works ends =
        let n = caller_of u.desc.who.role in
        let first = (attempt-now inside).here in
        let row = row_of kind time n (length u.rows.items) o in
        let at : place_of w ≡ ended kind time (record (place_of u) { replies = o.replies; emits = o.emits }) = ends.at ∙ ap
        (λ (p : CallerProgress). ended kind time (record p { replies = o.replies; emits = o.emits })) place-now in
        let caller : caller_of w.desc.who.role ≡ n = ap (λ (p : CallerProgress). p.caller) at in
        let rows : w.rows.items ≡ u.rows.items ++ row ∷ [] = ap (λ (p : CallerProgress). p.rows) at in
        let left : w.items_left.now ≡ rest_of u.items_left.now = ap (λ (p : CallerProgress). p.left) at in
        let phase : w.phase ≡ Between = ap (λ (p : CallerProgress). p.phase) at in
        let failed : w.failed ≡ 0 = ap (λ (p : CallerProgress). p.failed) at in
        let policy : w.policy ≡ u.policy = ap (λ (p : CallerProgress). p.policy) at in
        let long : length w.rows.items ≡ length u.rows.items + 1 = ap length rows ∙ length-append u.rows.items (row ∷ []) in
        let todo = sym (tx-scripts good stm.config.words u.regions.now n u.items_left.now first s.fits) ∙ s.todo in
        let next = (drop-head (length u.rows.items) [] (script_at u.items_left.now) (scripts_of n u.all.now) (scripts_of n (rest_of u.items_left.now)) todo).1 in
        let room : suc (length u.rows.items) ≤ length (scripts_of n u.all.now) = drop-more (length u.rows.items) (script_at u.items_left.now) (scripts_of n u.all.now) (scripts_of n (rest_of u.items_left.now)) todo in
        let one : suc (length u.rows.items) ≡ length w.rows.items = omega arith in
        let worked : Works good stm.config.words w.regions.now w.all.now (caller_of w.desc.who.role) (known w.desc) w.rows.items =
        subst (λ x. Works good stm.config.words w.regions.now w.all.now (caller_of w.desc.who.role) (known w.desc) x) (sym rows)
        (subst (λ k. Works good stm.config.words w.regions.now w.all.now k (known w.desc) (u.rows.items ++ row ∷ [])) (sym caller)
        (subst (λ (h : Handle K). Works good stm.config.words w.regions.now w.all.now n (known h) (u.rows.items ++ row ∷ [])) (sym ends.desc)
        (subst (λ x. Works good stm.config.words w.regions.now x n (known d) (u.rows.items ++ row ∷ [])) (sym ends.all)
        (subst (λ x. Works good stm.config.words x u.all.now n (known d) (u.rows.items ++ row ∷ [])) (sym ends.regions) works)))) in
        let rests : Rest w.phase = rest-between w.phase phase in (
          record {
            own = subst (λ (h : Handle K). IsOf h stm) (sym ends.desc) own-same;
            at = subst (λ p. IsAt good stm.config (caller_of w.desc.who.role) p (known w.desc)) (sym phase) (subst (λ (h : Handle K). IsIdle (known h)) (sym ends.desc) idle);
            stands = stands-rest good stm.config.words w.regions.now w.all.now (caller_of w.desc.who.role) (known w.desc) w.rows.items w.phase rests worked;
            done = subst (λ x. DidFirst x w.items_left.now) (sym ends.all) (subst (DidFirst u.all.now) (sym left) (did-first u.all.now u.items_left.now s.done));
            todo = subst (λ k. scripts_of k w.items_left.now ≡ drop (length w.rows.items) (scripts_of k w.all.now)) (sym caller)
                (ap (scripts_of n) left ∙ (next ∙ (ap (λ k. drop k (scripts_of n u.all.now)) one ∙ ap (λ x. drop (length w.rows.items) (scripts_of n x)) (sym ends.all))));
            within = subst (λ k. length w.rows.items ≤ length (scripts_of k w.all.now)) (sym caller) (subst (λ x. length w.rows.items ≤ length (scripts_of n x)) (sym ends.all) (omega arith));
            counted = λ e. subst (λ k. k < most_failed) (sym failed) (omega arith);
            fits = subst (λ k. ItemsFit good stm.config.words w.regions.now k w.items_left.now) (sym caller)
                (subst (λ l. ItemsFit good stm.config.words w.regions.now n l) (sym left)
                (subst (λ x. ItemsFit good stm.config.words x n (rest_of u.items_left.now)) (sym ends.regions) (rest-fits good stm.config.words u.regions.now n u.items_left.now s.fits)));
            roomy = ends.roomy;
            turning = subst (λ p. ToSwitch p w.chosen w.items_left.now) (sym phase) tt;
            plain = s.plain;
            under_way = when-rest w.phase rests _;
          },
          record {
            same = subst (IsSameCaller u.desc) (sym ends.desc) same;
            all = ends.all;
            regions = ends.regions;
            policy = policy;
          },
          at,
        )

    script-over : u.phase ≡ Inside → u.operations_left.now ≡ [] → GaveOver good stm.config.words (run u.regions.now (script_at u.items_left.now)) no_log no_replies (known u.desc).log u.out
    script-over inside none = gave-all good stm.config.words u.regions.now (script_at u.items_left.now) u.operations_left.now (known u.desc) u.alg u.granted u.out u.wrote (attempt-now inside).going none

    pub committed : (t : ℕ) (b : Bool) (w : Worker K) → u.phase ≡ Inside → u.operations_left.now ≡ []
        → answers.CommitsAt good stm.config (caller_of u.desc.who.role) t (known u.desc) (known d)
        → EndsWith W t (record u { desc = d; passed = b }) w
        → Sound good stm w × IsKept u w × (place_of w ≡ after (place_of u) (TryCommit (Committed t)))
    committed t b w inside none h ends =
        row-ended W t u.out b w inside h.ends.idle
        (row-wrote good u.regions.now u.all.now stm.config (caller_of u.desc.who.role) (known u.desc) (known d) u.rows.items
        (script_at u.items_left.now) u.out (script-here (attempt-now inside).here) (inside-now inside) t (script-over inside none)
        (commits good stm.config (caller_of u.desc.who.role) t (known u.desc) (known d) h))
        ends

    pub readonly : (t : ℕ) (b : Bool) (w : Worker K) → u.phase ≡ Inside → u.operations_left.now ≡ []
        → answers.EndsAt good stm.config (caller_of u.desc.who.role) t (known u.desc) (known d) → knows.wrote (known u.desc) ≡ false
        → EndsWith R t (record u { desc = d; passed = b }) w
        → Sound good stm w × IsKept u w × (place_of w ≡ after (place_of u) (TryCommit (ReadOnly t)))
    readonly t b w inside none h unwritten ends =
        row-ended R t u.out b w inside h.ends.idle
        (row-read good u.regions.now u.all.now stm.config (caller_of u.desc.who.role) (known u.desc) (known d) u.rows.items
        (script_at u.items_left.now) u.out (script-here (attempt-now inside).here) (inside-now inside) t (script-over inside none)
        (quits good stm.config (caller_of u.desc.who.role) t (known u.desc) (known d) h) (nothing (known u.desc) unwritten))
        ends

    pub cancelled : (t : ℕ) (o : Output) (w : Worker K) → Comes Cancel (place_of u)
        → answers.EndsAt good stm.config (caller_of u.desc.who.role) t (known u.desc) (known d) → is_irrevocable (known u.desc) ≡ false
        → o ≡ record u.out { replies = u.out.replies ++ 1 ∷ [] } → EndsWith C t (record u { desc = d; out = o }) w
        → Sound good stm w × IsKept u w × (place_of w ≡ after (place_of u) (TryCancel (Cancelled t)))
    cancelled t o w comes h off told ends =
        let inside = comes.0 in
        let g = subst
        (λ x. Going good stm.config.words u.regions.now (script_at u.items_left.now) x (known u.desc) u.alg u.granted u.out u.wrote)
        (next-is Cancel u.operations_left.now comes.2) (attempt-now inside).going in
        let e = row-ended C t o u.passed w inside h.ends.idle
        (row-cancelled good u.regions.now u.all.now stm.config (caller_of u.desc.who.role) (known u.desc) (known d) u.rows.items
        (script_at u.items_left.now) u.out (script-here (attempt-now inside).here) (inside-now inside) t o
        (gave-cut good stm.config.words u.regions.now (script_at u.items_left.now) (rest_of u.operations_left.now) (known u.desc) u.alg u.granted u.out u.wrote g off) (g.ends refl)
        (cut-unasked good stm.config.words u.regions.now (script_at u.items_left.now) (rest_of u.operations_left.now) (known u.desc) u.alg u.granted u.out u.wrote g off)
        (quits good stm.config (caller_of u.desc.who.role) t (known u.desc) (known d) h) told)
        ends in
        (e.0, e.1, e.2 ∙ cancelled-at (place_of u) u.out o t refl refl told)

    rests-again : Rest u.phase → (known d).made ≡ (known u.desc).made → Works good stm.config.words u.regions.now u.all.now (caller_of d.who.role) (known d) u.rows.items
    rests-again r made = subst (λ k. Works good stm.config.words u.regions.now u.all.now k (known d) u.rows.items) (sym n_is)
        (works-later good stm.config.words u.regions.now u.all.now (caller_of u.desc.who.role) (known u.desc) (known d) u.rows.items made (grew (known u.desc) (known d) grows) (resting-now r))

    -- the switch of the text is done
    pub switched : (alg : Alg) (r : Bor (List Item)) → u.phase ≡ Quiet → u.chosen ≡ None → SwitchesTo alg u.items_left.now → r.now ≡ rest_of u.items_left.now → IsIdle (known d) → (known d).made ≡ (known u.desc).made
        → Sound good stm (record u { desc = d; items_left = r; phase = Between })
        × IsKept u (record u { desc = d; items_left = r; phase = Between })
        × (place_of (record u { desc = d; items_left = r; phase = Between }) ≡ after (place_of u) (Installed alg))
    switched alg r quiet none to is idle made =
        let n = caller_of u.desc.who.role in
        let left = switch-left n alg u.items_left.now to in (
          record {
            own = own-same;
            at = idle;
            stands = rests-again (rest-quiet u.phase quiet) made;
            done = subst (DidFirst u.all.now) (sym is) (did-first u.all.now u.items_left.now s.done);
            todo = subst (λ k. scripts_of k r.now ≡ drop (length u.rows.items) (scripts_of k u.all.now)) (sym n_is) (ap (scripts_of n) is ∙ (left.0 ∙ s.todo));
            within = subst (λ k. length u.rows.items ≤ length (scripts_of k u.all.now)) (sym n_is) s.within;
            counted = s.counted;
            fits =
                subst (λ k. ItemsFit good stm.config.words u.regions.now k r.now) (sym n_is)
                (subst (ItemsFit good stm.config.words u.regions.now n) (sym is)
                (rest-fits good stm.config.words u.regions.now n u.items_left.now s.fits));
            roomy = record { spare = s.roomy.spare ∙ (left.1 ∙ ap spares (sym is)); rows = s.roomy.rows };
            turning = tt;
            plain = s.plain;
            under_way = tt;
          },
          record {
            same = same;
            all = refl;
            regions = refl;
            policy = refl;
          },
          installed-at (place_of (record u { desc = d })) r.now none is ∙ ap (λ (p : CallerProgress). places.switched p.chosen p) place-now,
        )

    -- the switch that the policy asked for is done
    pub switched-besides : (alg chosen : Alg) → u.phase ≡ Quiet → u.chosen ≡ Some chosen → chosen ≡ alg → IsIdle (known d) → (known d).made ≡ (known u.desc).made
        → Sound good stm (record u { desc = d; phase = Between; profile = no_profile; chosen = None })
        × IsKept u (record u { desc = d; phase = Between; profile = no_profile; chosen = None })
        × (place_of (record u { desc = d; phase = Between; profile = no_profile; chosen = None }) ≡ after (place_of u) (Installed alg))
    switched-besides alg chosen quiet some to idle made = (
      record {
        own = own-same;
        at = idle;
        stands = rests-again (rest-quiet u.phase quiet) made;
        done = s.done;
        todo = subst (λ k. scripts_of k u.items_left.now ≡ drop (length u.rows.items) (scripts_of k u.all.now)) (sym n_is) s.todo;
        within = subst (λ k. length u.rows.items ≤ length (scripts_of k u.all.now)) (sym n_is) s.within;
        counted = s.counted;
        fits = subst (λ k. ItemsFit good stm.config.words u.regions.now k u.items_left.now) (sym n_is) s.fits;
        roomy = record { spare = s.roomy.spare; rows = s.roomy.rows };
        turning = tt;
        plain = s.plain;
        under_way = tt;
      },
      record { same = same; all = refl; regions = refl; policy = refl },
      besides-at (place_of (record u { desc = d })) chosen some ∙ ap (λ (p : CallerProgress). places.switched p.chosen p) place-now,
    )

-- whoever took the same steps is outside in the same way
pub outside : {K : Type 0} (d e : Handle K) → e.view ≡ d.view → IsOutside (known d) (known e)
outside d e same =
    subst (λ (v : View).
    known_of v e.own
    ≡ record (known d) {
      committing = e.own.committing;
      log = (known_of v e.own).log;
      depth = e.own.depth;
      marks = e.own.marks;
      kept = (known_of v e.own).kept;
      reads_limit = e.own.reads_limit;
      writes_limit = e.own.writes_limit;
      marks_limit = e.own.marks_limit;
    }) (sym same) refl

-- each call's turn
module _ {K : Type 0} (good : List ℕ → Type 0) (stm : Stm K) (u : Worker K) (s : Sound good stm u) (d : Handle K) (same : IsSameCaller u.desc d) where
  is-between : Rest u.phase → (known u.desc).running ≡ false
  is-between r = asks-out good stm u s r

  pub turned-began : (alg : Alg) (r : Bor (List Op)) (o : Output) → u.phase ≡ Between → BeforeTx u.items_left.now → u.chosen ≡ None
      → r.now ≡ script_at u.items_left.now → o ≡ cleared u.out
      → BeginsAt good stm.config (caller_of u.desc.who.role) alg (known u.desc) (known d)
      → Turned good stm MaySay u (TryBegin (Begun alg)) (record u { desc = d; phase = Inside; alg = alg; operations_left = r; out = o; wrote = false; granted = false; passed = false })
  turned-began alg r o between here unasked is clear h = turned-by good stm u s MaySay (TryBegin (Begun alg)) _ stm.ranges (λ m. m) (between, here, unasked) (idle-now good stm u s between).1 h
      (began-now good stm u s d same h.grows alg r o is clear)
      (record { same = same; all = refl; regions = refl; policy = refl })
      (began good stm u s d same h.grows alg r o between here is clear h)

  -- nothing began
  pub turned-stayed : (said : Said) → u.phase ≡ Between → MaySay (place_of u) said → Asks said (known u.desc)
      → Tells good stm.config (caller_of u.desc.who.role) said (known u.desc) (known d) → place_of u ≡ after (place_of u) said
      → Stays stm.config (known u.desc) (known d)
      → Turned good stm MaySay u said (record u { desc = d })
  turned-stayed said between here asks told is h =
      let r = rest-between u.phase between in
      turned-by good stm u s MaySay said _ stm.ranges (say-turn (place_of u) said) here asks told (same-place good stm u s d same h.grows u.passed ∙ is)
      (record { same = same; all = refl; regions = refl; policy = refl })
      (rested good stm u s d same h.grows u.phase r r h.made (subst (λ p. IsAt good stm.config (caller_of u.desc.who.role) p (known d)) (sym between) h.idle) s.turning)

  -- the gate is closed, or stays so
  pub turned-closed : (said : Said) (p : Phase) → Rest u.phase → Rest p → MaySay (place_of u) said → Asks said (known u.desc)
      → Tells good stm.config (caller_of u.desc.who.role) said (known u.desc) (known d)
      → record (place_of u) { phase = p } ≡ after (place_of u) said
      → (grows : Grows (known u.desc) (known d)) → (known d).made ≡ (known u.desc).made
      → IsAt good stm.config (caller_of u.desc.who.role) p (known d) → ToSwitch p u.chosen u.items_left.now
      → Turned good stm MaySay u said (record u { desc = d; phase = p })
  turned-closed said p r q here asks told is grows made at turning =
      turned-by good stm u s MaySay said _ stm.ranges (say-turn (place_of u) said) here asks told (ap (λ (q : CallerProgress). record q { phase = p }) (place-now good stm u s d same grows) ∙ is)
      (record { same = same; all = refl; regions = refl; policy = refl })
      (rested good stm u s d same grows p r q made at turning)

  -- the closing is given up
  pub turned-reopened : (u.phase ≡ Closing) ⊎ (u.phase ≡ Quiet)
      → answers.Reopens good stm.config (caller_of u.desc.who.role) (known u.desc) (known d)
      → Turned good stm MayWind u Said.Reopened (record u { desc = d; phase = Between })
  turned-reopened closing h =
      let r = rest-closed u.phase closing in
      turned-by good stm u s MayWind Said.Reopened _ stm.ranges (λ m. m) closing (is-between r) h (ap (λ (q : CallerProgress). record q { phase = Between }) (place-now good stm u s d same h.grows))
      (record { same = same; all = refl; regions = refl; policy = refl })
      (rested good stm u s d same h.grows Between r tt h.made h.idle tt)

  pub turned-operated : (op : Op) (reply : ℕ) (r : Bor (List Op)) (o : Output) (wrote : Bool) → Comes op (place_of u) → is_call op ≡ false → r.now ≡ rest_of u.operations_left.now → wrote ≡ u.wrote || writes op reply
      → Carries (known u.desc) (known d) → IsRunning (known d)
      → GaveOver good stm.config.words (ran_one u.regions.now op) (known u.desc).log u.out (known d).log o
      → (IsExplained good stm.config.words (known u.desc).log → IsExplained good stm.config.words (known d).log) → o ≡ record u.out { replies = u.out.replies ++ reply ∷ []; emits = u.out.emits ++ emits_of op reply }
      → Turned good stm MaySay u (Reply op reply) (record u { desc = d; operations_left = r; out = o; wrote = wrote })
  turned-operated op reply r o wrote comes plain is was carries runs gave more told =
      let kinds = or-none (is_cancel op) (is_irrev op) plain in
      turned-by good stm u s MaySay (Reply op reply) _ stm.ranges (λ m. m) (comes, plain) (runs-now good stm u s comes.0) (carries, runs)
      (operated-now good stm u s d same carries.grows op reply r o wrote is was told)
      (record { same = same; all = refl; regions = refl; policy = refl })
      (operated good stm u s d same carries.grows op reply r o wrote comes kinds.0 kinds.1 is was carries runs gave more told)
    where
      or-none : (a b : Bool) → a || b ≡ false → (a ≡ false) × (b ≡ false)
      or-none true b h = absurd cc
      or-none false b h = (refl, h)

  -- the attempt is over, without a row
  pub turned-over : (may : CallerProgress → Said → Type 0) (said : Said) (q : Noted) (must b : Bool) (failed : ℕ) (o : Output)
      → (may (place_of u) said → MayTurn (place_of u) said) → u.phase ≡ Inside → may (place_of u) said → Asks said (known u.desc)
      → Tells good stm.config (caller_of u.desc.who.role) said (known u.desc) (known d)
      → record (place_of u) { phase = Between; replies = []; emits = []; failed = failed; must = must; profile = q } ≡ after (place_of u) said
      → (grows : Grows (known u.desc) (known d)) → IsIdle (known d) → (known d).made ≡ (known u.desc).made → o ≡ cleared u.out → IsCounted failed must
      → Turned good stm may u said (record u { desc = d; phase = Between; out = o; must = must; failed = failed; passed = b; profile = q })
  turned-over may said q must b failed o goes inside here asks told is grows idle made clear few =
      turned-by good stm u s may said _ stm.ranges goes here asks told (over-now good stm u s d same grows said q must b failed o clear is)
      (record { same = same; all = refl; regions = refl; policy = refl })
      (over good stm u s d same grows q must b failed o inside idle made clear few)

  pub few-next : IsCounted (failed_next u.must u.failed) (must_next u.must u.failed)
  few-next = still-few u.failed u.must s.counted

  -- by a refusal
  pub turned-quit : (said : Said) (q : Noted) (must b : Bool) (failed : ℕ) (o : Output) → u.phase ≡ Inside → MaySay (place_of u) said
      → Tells good stm.config (caller_of u.desc.who.role) said (known u.desc) (known d) → Asks said (known u.desc)
      → record (place_of u) { phase = Between; replies = []; emits = []; failed = failed; must = must; profile = q } ≡ after (place_of u) said
      → Quits (known u.desc) (known d) → o ≡ cleared u.out → IsCounted failed must
      → Turned good stm MaySay u said (record u { desc = d; phase = Between; out = o; must = must; failed = failed; passed = b; profile = q })
  turned-quit said q must b failed o inside here told asks is h clear few = turned-over MaySay said q must b failed o (say-turn (place_of u) said) inside here asks told is h.ends.grows h.ends.idle h.made clear few

  pub turned-refused : (r : Bor (List Op)) (o : Output) → Comes Cancel (place_of u) → r.now ≡ rest_of u.operations_left.now
      → known d ≡ known u.desc → is_irrevocable (known u.desc) ≡ true → o ≡ record u.out { replies = u.out.replies ++ 0 ∷ [] }
      → Turned good stm MaySay u (TryCancel Irrevocable) (record u { desc = d; operations_left = r; out = o })
  turned-refused r o comes is knows certain told =
      let grows = subst (Grows (known u.desc)) (sym knows) (grows-same (known u.desc) (known u.desc) refl refl [] refl refl refl refl refl) in
      turned-by good stm u s MaySay (TryCancel Irrevocable) _ stm.ranges (λ m. m) comes (runs-now good stm u s comes.0) (knows, certain) (refused-now good stm u s d same grows r o is told)
      (record { same = same; all = refl; regions = refl; policy = refl })
      (refused good stm u s d same grows r o comes is knows certain told)

  pub dropped-refused : u.phase ≡ Inside → known d ≡ known u.desc → is_irrevocable (known u.desc) ≡ true → Refused good stm u (record u { desc = d })
  dropped-refused inside knows certain = refused-drop good stm u s d same (subst (Grows (known u.desc)) (sym knows) (grows-same (known u.desc) (known u.desc) refl refl [] refl refl refl refl refl)) inside knows certain

  pub turned-forced : u.phase ≡ Inside → is_forced (place_of u) ≡ true
      → answers.TriesIrrevocable good stm.config (caller_of u.desc.who.role) (known u.desc) (known d)
      → Turned good stm MaySay u (TryIrrevocable Granted) (record u { desc = d; granted = true })
  turned-forced inside forced h =
      turned-by good stm u s MaySay (TryIrrevocable Granted) _ stm.ranges (λ m. m) (inl (inside, forced)) (runs-now good stm u s inside) h (forced-now good stm u s d same h.continues.grows forced)
      (record { same = same; all = refl; regions = refl; policy = refl })
      (granted-forced good stm u s d same h.continues.grows inside h)

  pub turned-asked : (r : Bor (List Op)) (o : Output) → Comes Irrev (place_of u) → r.now ≡ rest_of u.operations_left.now
      → o ≡ record u.out { replies = u.out.replies ++ 1 ∷ [] }
      → answers.TriesIrrevocable good stm.config (caller_of u.desc.who.role) (known u.desc) (known d)
      → Turned good stm MaySay u (TryIrrevocable Granted) (record u { desc = d; operations_left = r; out = o; granted = true })
  turned-asked r o comes is told h =
      turned-by good stm u s MaySay (TryIrrevocable Granted) _ stm.ranges (λ m. m) (inr comes) (runs-now good stm u s comes.0) h (asked-now good stm u s d same h.continues.grows r o comes.1 is told)
      (record { same = same; all = refl; regions = refl; policy = refl })
      (granted-asked good stm u s d same h.continues.grows r o comes is told h)

  pub turned-busy : (k status : ℕ) → u.phase ≡ Inside → MaySay (place_of u) (TryIrrevocable (Busy k status))
      → answers.Irrevs good stm.config (caller_of u.desc.who.role) (Busy k status) (known u.desc) (known d)
      → Turned good stm MaySay u (TryIrrevocable (Busy k status)) (record u { desc = d })
  turned-busy k status inside here h =
      turned-by good stm u s MaySay (TryIrrevocable (Busy k status)) _ stm.ranges (λ m. m) here (runs-now good stm u s inside) h (same-place good stm u s d same h.0.continues.grows u.passed)
      (still-same good stm u s d same h.0.continues.grows u.passed)
      (busied good stm u s d same h.0.continues.grows inside h.0)

  pub turned-again : (word had now : ℕ) (b : Bool) → u.phase ≡ Inside → u.operations_left.now ≡ [] → is_forced (place_of u) ≡ false
      → answers.Commits good stm.config (caller_of u.desc.who.role) (Again word had now) (known u.desc) (known d)
      → Turned good stm MaySay u (TryCommit (Again word had now)) (record u { desc = d; passed = b })
  turned-again word had now b inside none free h =
      turned-by good stm u s MaySay (TryCommit (Again word had now)) _ stm.ranges (λ m. m) (inside, free, none) (runs-now good stm u s inside) h (same-place good stm u s d same h.0.continues.grows b)
      (still-same good stm u s d same h.0.continues.grows b)
      (again good stm u s d same h.0.continues.grows b inside none free h.0 h.2 h.3 h.4)

  pub turned-committed : (t : ℕ) (b : Bool) (w : Worker K) → u.phase ≡ Inside → u.operations_left.now ≡ [] → is_forced (place_of u) ≡ false
      → answers.CommitsAt good stm.config (caller_of u.desc.who.role) t (known u.desc) (known d)
      → EndsWith W t (record u { desc = d; passed = b }) w
      → Turned good stm MaySay u (TryCommit (Committed t)) w
  turned-committed t b w inside none free h ends =
      let e = committed good stm u s d same h.ends.grows t b w inside none h ends in
      turned-by good stm u s MaySay (TryCommit (Committed t)) w stm.ranges (λ m. m) (inside, free, none) (runs-now good stm u s inside)
      (subst (λ (k : Handle K). answers.CommitsAt good stm.config (caller_of u.desc.who.role) t (known u.desc) (known k)) (sym ends.desc) h)
      e.2 e.1 e.0

  pub turned-readonly : (t : ℕ) (b : Bool) (w : Worker K) → u.phase ≡ Inside → u.operations_left.now ≡ [] → is_forced (place_of u) ≡ false
      → answers.Commits good stm.config (caller_of u.desc.who.role) (ReadOnly t) (known u.desc) (known d)
      → EndsWith R t (record u { desc = d; passed = b }) w
      → Turned good stm MaySay u (TryCommit (ReadOnly t)) w
  turned-readonly t b w inside none free h ends =
      let e = readonly good stm u s d same h.0.ends.grows t b w inside none h.0 h.2 ends in
      turned-by good stm u s MaySay (TryCommit (ReadOnly t)) w stm.ranges (λ m. m) (inside, free, none) (runs-now good stm u s inside)
      (subst (λ (k : Handle K). answers.Commits good stm.config (caller_of u.desc.who.role) (ReadOnly t) (known u.desc) (known k))
      (sym ends.desc) h) e.2 e.1 e.0

  pub turned-cancelled : (t : ℕ) (o : Output) (w : Worker K) → Comes Cancel (place_of u)
      → answers.Cancels good stm.config (caller_of u.desc.who.role) (Cancelled t) (known u.desc) (known d)
      → o ≡ record u.out { replies = u.out.replies ++ 1 ∷ [] } → EndsWith C t (record u { desc = d; out = o }) w
      → Turned good stm MaySay u (TryCancel (Cancelled t)) w
  turned-cancelled t o w comes h told ends =
      let e = cancelled good stm u s d same h.0.ends.grows t o w comes h.0 h.3 told ends in
      turned-by good stm u s MaySay (TryCancel (Cancelled t)) w stm.ranges (λ m. m) comes (runs-now good stm u s comes.0)
      (subst (λ (k : Handle K). answers.Cancels good stm.config (caller_of u.desc.who.role) (Cancelled t) (known u.desc) (known k))
      (sym ends.desc) h) e.2 e.1 e.0

  pub turned-switched : (alg : Alg) (r : Bor (List Item)) (x : CallerState) → u.phase ≡ Quiet → u.chosen ≡ None
      → MustSwitchTo alg u.chosen u.items_left.now → r.now ≡ rest_of u.items_left.now
      → answers.Installs good stm.config (caller_of u.desc.who.role) alg (known u.desc) x
      → answers.Reopens good stm.config (caller_of u.desc.who.role) x (known d)
      → Turned good stm MaySay u (Installed alg) (record u { desc = d; items_left = r; phase = Between })
  turned-switched alg r x quiet none to is i h =
      let grows = grows-trans (known u.desc) x (known d) i.closed.grows h.grows in
      let e = switched good stm u s d same grows alg r quiet none (subst (λ (c : Option Alg). MustSwitchTo alg c u.items_left.now) none to) is h.idle (h.made ∙ i.closed.made) in
      turned-by good stm u s MaySay (Installed alg) _ stm.ranges (λ m. m) (quiet, to) (is-between (rest-quiet u.phase quiet)) (x, i, h) e.2 e.1 e.0

  pub turned-besides : (alg chosen : Alg) (x : CallerState) → u.phase ≡ Quiet → u.chosen ≡ Some chosen
      → MustSwitchTo alg u.chosen u.items_left.now → answers.Installs good stm.config (caller_of u.desc.who.role) alg (known u.desc) x
      → answers.Reopens good stm.config (caller_of u.desc.who.role) x (known d)
      → Turned good stm MaySay u (Installed alg) (record u { desc = d; phase = Between; profile = no_profile; chosen = None })
  turned-besides alg chosen x quiet some to i h =
      let grows = grows-trans (known u.desc) x (known d) i.closed.grows h.grows in
      let e = switched-besides good stm u s d same grows alg chosen quiet some (subst (λ (c : Option Alg). MustSwitchTo alg c u.items_left.now) some to) h.idle (h.made ∙ i.closed.made) in
      turned-by good stm u s MaySay (Installed alg) _ stm.ranges (λ m. m) (quiet, to) (is-between (rest-quiet u.phase quiet)) (x, i, h) e.2 e.1 e.0

  -- the logs are longer: nothing else is said of the caller than that its next item is done
  pub turned-lengthened : (reads writes : ℕ) (r : Bor (List Item)) → u.phase ≡ Between → u.chosen ≡ None
      → Lengthens reads writes u.items_left.now → r.now ≡ rest_of u.items_left.now → Reserves reads writes (known u.desc) (known d)
      → IsOutside (known u.desc) (known d)
      → Turned good stm MaySay u (Reserved reads writes) (record u { desc = d; items_left = r })
  turned-lengthened reads writes r between none here is sizes outside =
      let n = caller_of u.desc.who.role in
      let n_is = callers-same u.desc d same in
      let rest = rest-between u.phase between in
      let left = reserve-left n reads writes u.items_left.now here in
      let idle : IsIdle (known d) = subst IsIdle (sym outside) (idle-now good stm u s between) in
      let works : Works good stm.config.words u.regions.now u.all.now n (known d) u.rows.items =
      subst (λ (v : CallerState). Works good stm.config.words u.regions.now u.all.now n v u.rows.items) (sym outside) (resting-now good stm u s rest) in
      turned-by good stm u s MaySay (Reserved reads writes) _ stm.ranges (λ m. m) (between, here, none) (is-between rest) (sizes, outside)
      (λ i. record (place_of u) { caller = n_is i; left = is i; reads_limit = sizes.0 i; writes_limit = sizes.1 i })
      (record {
        same = same;
        all = refl;
        regions = refl;
        policy = refl;
      })
      (record {
        own = record { table = same.table ∙ s.own.table; config = ap (λ x. x.config) same.who ∙ s.own.config; rule = ap (λ x. x.rule) same.who ∙ s.own.rule };
        at = subst (λ p. IsAt good stm.config (caller_of d.who.role) p (known d)) (sym between) idle;
        stands =
            stands-rest good stm.config.words u.regions.now u.all.now (caller_of d.who.role) (known d) u.rows.items u.phase rest
            (subst (λ k. Works good stm.config.words u.regions.now u.all.now k (known d) u.rows.items) (sym n_is) works);
        done = subst (DidFirst u.all.now) (sym is) (did-first u.all.now u.items_left.now s.done);
        todo = subst (λ k. scripts_of k r.now ≡ drop (length u.rows.items) (scripts_of k u.all.now)) (sym n_is) (ap (scripts_of n) is ∙ (left.0 ∙ s.todo));
        within = subst (λ k. length u.rows.items ≤ length (scripts_of k u.all.now)) (sym n_is) s.within;
        counted = s.counted;
        fits =
            subst (λ k. ItemsFit good stm.config.words u.regions.now k r.now) (sym n_is)
            (subst (ItemsFit good stm.config.words u.regions.now n) (sym is)
            (rest-fits good stm.config.words u.regions.now n u.items_left.now s.fits));
        roomy = record { spare = s.roomy.spare ∙ (left.1 ∙ ap spares (sym is)); rows = s.roomy.rows };
        turning = subst (λ p. ToSwitch p u.chosen r.now) (sym between) tt;
        plain = s.plain;
        under_way = when-rest u.phase rest _;
      })

  -- memory for longer logs was refused
  pub starved : (reads writes : ℕ) → u.phase ≡ Between → Lengthens reads writes u.items_left.now → d ≡ u.desc → Starved good stm u (record u { desc = d })
  starved reads writes between here still =
      let whole : record u { desc = d } ≡ u = ap (λ (x : Handle K). record u { desc = x }) still in
      record {
        sound = subst (Sound good stm) (sym whole) s;
        between = between;
        next = (reads, writes, here);
        still = whole;
      }

  stopped-is : (op : Op) (stop : Stop) (o : Output) → Comes op (place_of u) → is_call op ≡ false → StoppedBy good stm.config (caller_of u.desc.who.role) op stop (known u.desc) (known d) → o ≡ cleared u.out
      → Turned good stm MaySay u (Stopped op stop) (stopped_by stop (record u { desc = d; out = o }))
  stopped-is op (stops.Conflict cause) o comes plain h clear =
      let q = stops-quits good stm.config (caller_of u.desc.who.role) h.address (stops.Conflict cause) h.before (known d) h.stops in
      turned-over MaySay (Stopped op (stops.Conflict cause)) (with_outcome u.profile outcomes.Conflict) (must_next u.must u.failed) u.passed
      (failed_next u.must u.failed) (cleared o) (λ m. m) comes.0 (comes, plain) (runs-now good stm u s comes.0) h refl
      (grows-trans (known u.desc) h.before (known d) h.carries.grows q.ends.grows) q.ends.idle (q.made ∙ h.carries.made) (ap cleared clear) few-next
  stopped-is op (stops.Full limit) o comes plain h clear =
      let q = stops-quits good stm.config (caller_of u.desc.who.role) h.address (stops.Full limit) h.before (known d) h.stops in
      turned-over MaySay (Stopped op (stops.Full limit)) (with_outcome u.profile outcomes.Full) true u.passed u.failed (cleared o) (λ m. m) comes.0 (comes, plain) (runs-now good stm u s comes.0) h refl
      (grows-trans (known u.desc) h.before (known d) h.carries.grows q.ends.grows) q.ends.idle (q.made ∙ h.carries.made) (ap cleared clear) (λ e. absurd cc)
  stopped-is op (stops.ClockFull clock) o comes plain h clear =
      let q = stops-quits good stm.config (caller_of u.desc.who.role) h.address (stops.ClockFull clock) h.before (known d) h.stops in
      turned-over MaySay (Stopped op (stops.ClockFull clock)) u.profile u.must u.passed u.failed (cleared o) (λ m. m) comes.0 (comes, plain) (runs-now good stm u s comes.0) h refl
      (grows-trans (known u.desc) h.before (known d) h.carries.grows q.ends.grows) q.ends.idle (q.made ∙ h.carries.made) (ap cleared clear) s.counted

  -- an operation was stopped, and its attempt is over
  pub turned-stopped : (op : Op) (stop : Stop) (o : Output) (w : Worker K) → Comes op (place_of u) → is_call op ≡ false
      → StoppedBy good stm.config (caller_of u.desc.who.role) op stop (known u.desc) (known d) → o ≡ u.out
      → w ≡ stopped_by stop (record u { desc = d; out = o })
      → Turned good stm MaySay u (Stopped op stop) w
  turned-stopped op stop o w comes plain h same_out is =
      subst (Turned good stm MaySay u (Stopped op stop)) (sym is) (subst
      (λ x. Turned good stm MaySay u (Stopped op stop) (stopped_by stop (record u { desc = d; out = x }))) (sym same_out)
      (stopped-again op stop comes plain h))
    where
      stopped-again : (op : Op) (stop : Stop) → Comes op (place_of u) → is_call op ≡ false
          → StoppedBy good stm.config (caller_of u.desc.who.role) op stop (known u.desc) (known d)
          → Turned good stm MaySay u (Stopped op stop) (stopped_by stop (record u { desc = d }))
      stopped-again op (stops.Conflict cause) comes plain h = stopped-is op (stops.Conflict cause) (cleared u.out) comes plain h refl
      stopped-again op (stops.Full limit) comes plain h = stopped-is op (stops.Full limit) (cleared u.out) comes plain h refl
      stopped-again op (stops.ClockFull clock) comes plain h = stopped-is op (stops.ClockFull clock) (cleared u.out) comes plain h refl
