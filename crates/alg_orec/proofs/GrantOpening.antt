-- What a call that grants knows of its attempt, of OrecLazy or OrecEager alike, and what it tells of it.
use Rattle.std.proofs.Common.{ℕ, ◌≡◌, List, [], ◌++◌, Bool, true, false, refl, sym, ap, ◌∙◌, arith, subst, inl}
use Rattle.std.specs.Prelude.{◌&&◌, Contains}
use Rattle.stm_model.specs.Algorithms.{has_records, asks_at_grant, closes_gate, irrevocable_under}
use Rattle.stm_model.specs.declared.alg.Alg.{Alg}
use Rattle.stm_model.specs.declared.alg.Alg.TheVariants.{Cgl, Tml, OrecLazy, OrecEager, RingSw, Serial}
use Rattle.stm_model.specs.declared.config.Config.{Config}
use Rattle.rule_base.specs.declared.entries.Cell.{Cell}
use Rattle.rule_base.specs.declared.entries.Entry.{Entry}
use Rattle.rule_base.specs.declared.layout.At.TheVariants.{Clock}
use Rattle.rule_base.specs.declared.seats.Who.{Who}
use Rattle.rule_base.specs.declared.views.Act.TheVariants.{Load}
use Rattle.rule_base.specs.declared.views.GateView.{GateView}
use Rattle.rule_base.specs.declared.views.LockView.{LockView}
use Rattle.rule_base.specs.declared.views.TracedStep.{TracedStep}
use Rattle.rule_base.specs.declared.views.View.{View}
use Rattle.rule_base.specs.Bridge.{items, of_words, public_history}
use Rattle.rule_base.specs.Own.{Own}
use Rattle.stm_rule.specs.declared.local.Local.{Local}
use Rattle.stm_rule.specs.declared.stm.Stm.{Stm}
use Rattle.stm_rule.specs.Attempts.{Keeps, IsInside, IsFenceOf, HasRoom, Stands, ended, own_of}
use Rattle.stm_rule.specs.Callers.{Handle}
use Rattle.stm_rule.proofs.StandLemmas.{inside-of}
use Rattle.alg_orec.specs.RecordFindings.{Moves}
use Rattle.stm_logs.specs.LogStates.{LogState}
use Rattle.stm_answers.specs.declared.answers.Irrev.TheVariants as irrevs
use Rattle.stm_answers.specs.Answers.{TriesIrrevocable, Irrevs, Quits, Waits}
use Rattle.stm_answers.specs.Causes.Asked.{ToPromote}
use Rattle.stm_answers.specs.CallerState.{CallerState, IsRunning, known_of, caller_of, granted_under, kept_under, written_under, is_irrevocable, is_in, is_closing, wrote}
use Rattle.stm_gate.specs.Granting.{IsAlone, Grants, irrevs-after, irrevocable-already}
use Rattle.stm_gate.specs.Knowing.{known, number}
use Rattle.stm_gate.specs.LeavingLaws.{IsUnmade, found-later, finds-full}
use Rattle.stm_gate.specs.Opacity.{opaque-at, later-seen}
use Rattle.stm_gate.proofs.Opening.{Opened, is-known, of-seen}
use Rattle.stm_gate.specs.Promoting.{SparesRecords}
use Rattle.stm_gate.proofs.Standing.{in-of}
use Rattle.stm_gate.proofs.Told.{stands-on}
use Rattle.alg_orec.specs.Granting.{promoted_at, RefusesGrant, IsNotPromoted}
use Rattle.alg_orec.specs.Validating.{load_of}
use Rattle.alg_orec.proofs.Eager.EagerProving.{conflicts-later}
use Rattle.alg_orec.proofs.Proving.{with_commit}
use Rattle.stm_rule.specs.RecordsKept.{IsOptimistic}

-- what holds of both holds of an algorithm with records
pub both : (P : Alg → Type 0) → P OrecLazy → P OrecEager → (a : Alg) → has_records a ≡ true → P a
both P lazy eager Cgl has = absurd cc
both P lazy eager Tml has = absurd cc
both P lazy eager OrecLazy has = lazy
both P lazy eager OrecEager has = eager
both P lazy eager RingSw has = absurd cc
both P lazy eager Serial has = absurd cc

-- under both, to be irrevocable is to be promoted
irrevocable-is : (a : Alg) → has_records a ≡ true → (g : GateView) (k : LockView) (b : Bool) → irrevocable_under a (granted_under a g k) b ≡ g.granted
irrevocable-is a has g k b = both (λ (a : Alg). irrevocable_under a (granted_under a g k) b ≡ g.granted) refl refl a has

granted-is : (a : Alg) → has_records a ≡ true → (g : GateView) (k : LockView) → granted_under a g k ≡ g.granted
granted-is a has g k = both (λ (a : Alg). granted_under a g k ≡ g.granted) refl refl a has

closes-is : (a : Alg) → has_records a ≡ true → (b : Bool) → (closes_gate a && b) ≡ b
closes-is a has b = both (λ (a : Alg). (closes_gate a && b) ≡ b) refl refl a has

pub granted-known : (good : List ℕ → Type 0) (c : Config) (n : ℕ) (l : Local) (v : View) → IsInside good c n l v → has_records v.gate.algorithm ≡ true → is_irrevocable (known_of v (own_of l)) ≡ l.granted
granted-known good c n l v i has = irrevocable-is v.gate.algorithm has v.gate v.lock (wrote (known_of v (own_of l)))
    ∙ (i.granted ∙ closes-is l.algorithm (ap has_records (sym i.named) ∙ has) l.granted)

-- an attempt that is alone, not in the middle of its commit, and not promoted yet
pub record CanGrant (alg : Alg) (good : List ℕ → Type 0) (c : Config) (n : ℕ) (l : Local) (v : View) : Type 0 where
  pub inside : IsInside good c n l v
  pub under : v.gate.algorithm ≡ alg
  pub named : l.algorithm ≡ alg
  pub plain : l.granted ≡ false
  pub free : l.committing ≡ false
  pub alone : IsAlone c.callers n v

module _ {K : Type 0} (good : K → List ℕ → Type 0) (stm : Stm K) {e : Handle K} {who : Who K} {v : View} {n : ℕ} {l : Local}
    (a : Opened good stm e who v n l) (runs : IsRunning (known e)) (alg : Alg) (has : has_records alg ≡ true)
    (named : (known e).alg ≡ alg) where
  inside : IsInside (good stm.rule) stm.config n l v
  inside = inside-of (good stm.rule) stm.config n l v (in-of v.gate.phase (ap (λ (k : CallerState). k.running) (sym a.knows) ∙ runs.0)) a.stands

  under : v.gate.algorithm ≡ alg
  under = ap (λ (k : CallerState). k.alg) (sym a.knows) ∙ named

  granted-of : is_irrevocable (known_of v (own_of l)) ≡ l.granted
  granted-of = granted-known (good stm.rule) stm.config n l v inside (ap has_records under ∙ has)

  pub can-grant : is_irrevocable (known e) ≡ false → IsAlone stm.config.callers (number e) e.view → CanGrant alg (good stm.rule) stm.config n l v
  can-grant revocable alone = record {
    inside = inside;
    under = under;
    named = sym inside.named ∙ under;
    plain = sym granted-of ∙ (ap is_irrevocable (sym a.knows) ∙ revocable);
    free = ap (λ (k : CallerState). k.committing) (sym a.knows) ∙ runs.1;
    alone = of-seen good stm a (IsAlone stm.config.callers) alone;
  }

  -- one that was promoted before stays as it was
  pub already : l.granted ≡ true → TriesIrrevocable (good stm.rule) stm.config (number e) (known e) (known e)
  already granted = is-known good stm a (λ (k : ℕ) (w : CallerState). TriesIrrevocable (good stm.rule) stm.config k w w)
      (irrevocable-already (good stm.rule) stm.config n l v (own_of l) (ap (λ (k : CallerState). k.committing) (sym a.knows) ∙ runs.1) inside (granted-of ∙ granted))

-- of e came y by a promotion, and of that z
pub granted-alone : {K : Type 0} (good : List ℕ → Type 0) (c : Config) (r : irrevs.the_data) (e y z : Handle K) → y.who ≡ e.who
    → Waits good c (number e) (known e) (known y) → SparesRecords (known e) (known y) → Grants good c (number y) r (known y) (known z)
    → Irrevs good c (number e) r (known e) (known z)
granted-alone {K} good c r e y z who waits spares grants =
    irrevs-after good c (number e) r (known e) (known y) (known z) waits spares (subst (λ (k : ℕ). Grants good c k r (known y) (known z)) (ap (λ (w : Who K). caller_of w.role) who) grants)

module _ {alg : Alg} {good : List ℕ → Type 0} {c : Config} {n : ℕ} {l : Local} {v : View} (can : CanGrant alg good c n l v) (has : has_records alg ≡ true) where
  i : IsInside good c n l v
  i = can.inside

  has-here : has_records v.gate.algorithm ≡ true
  has-here = ap has_records can.under ∙ has

  optimistic : IsOptimistic v
  optimistic = by alg has (subst (λ (a : Alg). Keeps c a false l v) can.named (subst (λ (b : Bool). Keeps c l.algorithm b l v) can.plain i.keeps))
    where
      by : (a : Alg) → has_records a ≡ true → Keeps c a false l v → IsOptimistic v
      by Cgl e k = absurd cc
      by Tml e k = absurd cc
      by OrecLazy e k = k.optimistic
      by OrecEager e k = k.optimistic
      by RingSw e k = absurd cc
      by Serial e k = absurd cc

  -- IT ISN'T PROMOTED: what the rollback asks
  module _ {refusal : irrevs.the_data} {m : Local} {u : View} (q : IsNotPromoted c n refusal l v m u) where
    pub holds-kept : l.holds ≡ v.gate.holds → m.holds ≡ u.gate.holds
    holds-kept e = ap (λ (x : Local). x.holds) q.local ∙ (e ∙ sym (ap (λ (y : View). y.gate.holds) q.is))

    pub named-kept : m.algorithm ≡ u.gate.algorithm
    named-kept = ap (λ (x : Local). x.algorithm) q.local ∙ (sym i.named ∙ sym (ap (λ (y : View). y.gate.algorithm) q.is))

    pub fence-kept : IsFenceOf m u
    fence-kept = subst (λ (x : Local). IsFenceOf x u) (sym q.local) (record { is = ap (λ (y : View). y.gate.fence) q.is ∙ i.spared.is; fits = i.spared.fits })

    pub unmade : IsUnmade v u
    unmade =
        subst (IsUnmade v) (sym q.is)
        (record {
          carried = record {
            named = refl;
            base = refl;
            installs = refl;
            fence = refl;
            step_trace = (q.more, refl);
            unlocked = optimistic.unlocked;
            unwritten = optimistic.unwritten;
          };
          history = refl;
        })

    -- and what is told after it
    pub tells-refused : (z : View) (p : Local) → p ≡ ended (record m { committing = false })
        → Quits (known_of v (own_of l)) (known_of z (with_commit false (own_of l)))
        → (more : List TracedStep) × (z.steps.step_trace ≡ more ++ u.steps.step_trace)
        → Grants good c n refusal (known_of v (own_of l)) (known_of z (own_of p))
    tells-refused z p idle quits t =
        subst (λ (x : Local). Grants good c n refusal (known_of v o) (known_of z (own_of x)))
        (sym (idle ∙ ap (λ (x : Local). ended (record x { committing = false })) q.local)) (by refusal q.why)
      where
        o : Own
        o = own_of l

        by : (r : irrevs.the_data) → RefusesGrant c n r v u → Grants good c n r (known_of v o) (known_of z (with_commit false o))
        by irrevs.Granted why = absurd why
        by (irrevs.Busy caller status) why = absurd why
        by (irrevs.Taken gate) why = absurd why
        by (irrevs.Conflict cause) why = (quits, conflicts-later c n ToPromote cause (known_of v o) (known_of u o) (known_of z (with_commit false o)) has-here t.0 t.1 (why.0 o), why.1)
        by (irrevs.ClockFull clock) why = (
          quits,
          both (λ (a : Alg). asks_at_grant a ≡ true) refl refl v.gate.algorithm has-here,
          finds-full clock v z o (with_commit false o) why.0 (found-later Clock clock (known_of v o) (known_of u o) (known_of z (with_commit false o)) (why.1 o) t.0 t.1),
        )

  -- IT IS PROMOTED, to the clock t: this is stored, and these are the words that it still keeps with its descriptor
  module _ (seen : List Entry) (t : ℕ) (more : List TracedStep) (stores : List Cell) (words : LogState) (moves : Moves (of_words good c.words) c seen v t) where
    abbrev promoted : Local
    promoted = record l { start = t; writes = words; granted = true }

    abbrev y : View
    y = record (promoted_at v seen t more) { attempt = record { start = t; reads = v.attempt.reads; stores = stores; entered = false } }

    pub stands-promoted : Stands good c n l v → HasRoom promoted → (m : Local) (w : View) → m ≡ promoted → w ≡ y → Keeps c alg true promoted y → Stands good c n m w
    stands-promoted s room m w local is keeps = subst (λ (q : Local). Stands good c n q w) (sym local) (subst (Stands good c n promoted) (sym is) (stands-on good c n l promoted v y i.phase s refl refl room refl (record {
      phase = i.phase;
      named = i.named;
      disowned = λ e. absurd (let f : true ≡ false = sym (ap has_records can.named ∙ has) ∙ e in cc);
      unentered = refl;
      start = refl;
      front = refl;
      legal = moves.legal;
      below = moves.below;
      sees = moves.sees;
      reads_inside = i.reads_inside;
      looked = λ e. let h = i.looked e in record { low = h.low; seen = h.seen; unseen = h.unseen };
      granted = sym (closes-is l.algorithm (ap has_records can.named ∙ has) true);
      steady = λ e. can.free;
      spared = record { is = i.spared.is; fits = i.spared.fits };
      keeps = subst (λ (a : Alg). Keeps c a true promoted y) (sym can.named) keeps;
    })))

    pub tells-promoted : words.marks_limit ≡ l.writes.marks_limit → Contains more (load_of Clock t) → written_under alg true y (own_of promoted) ≡ written_under alg false v (own_of l)
        → (kept_under alg v (own_of l) ≡ [] → kept_under alg y (own_of promoted) ≡ []) → v.gate.granted ≡ false → (m : Local) (w : View)
        → m ≡ promoted → w ≡ y
        → Grants good c n irrevs.Granted (known_of v (own_of l)) (known_of w (own_of m))
    tells-promoted limit found written kept ungranted m w local is =
        subst (λ (q : Local). TriesIrrevocable good c n (known_of v o) (known_of w (own_of q))) (sym local) (subst
        (λ (q : View). TriesIrrevocable good c n (known_of v o) (known_of q p)) (sym is) (record {
          continues = record {
            running = ap is_in i.phase;
            closing = ap is_closing i.phase;
            made = refl;
            grows = (let q = later-seen seen v.history.front t moves.below moves.front in record {
              later = q.0;
              is = q.1 ∙ ap (λ (hs : List Entry). public_history hs ++ q.0) (sym moves.seen);
              ascending = q.2;
              up_to = q.3;
              front_rose = moves.front;
              more = more;
              step_trace = refl;
              reads_limit = refl;
              writes_limit = refl;
              marks_limit = limit;
              fenced = refl;
            });
            alg = refl;
            fence = refl;
            base = refl;
            rises = (omega arith, omega arith);
            later = (let a = i.start in let b = i.front in let d = moves.front in omega arith);
            installs = refl;
            depth = refl;
            locked = inl refl;
          };
          still = refl;
          uncommitted = can.free;
          kept = λ none. ap (λ (a : Alg). kept_under a y p) can.under ∙ kept (ap (λ (a : Alg). kept_under a v o) (sym can.under) ∙ none);
          log = (λ j. record { reads = items v.attempt.reads; writes = written_under (can.under j) true y p }) ∙ ((λ j. record { reads = items v.attempt.reads; writes = written j })
              ∙ (λ j. record { reads = items v.attempt.reads; writes = written_under (sym can.under j) (sym ungranted j) v o }));
          irrevocable = irrevocable-is v.gate.algorithm has-here y.gate y.lock (wrote (known_of y p));
          opaque = opaque-at good c n y p t refl refl moves.legal moves.below moves.sees i.reads_inside;
          before = λ e. absurd (let f : true ≡ false = sym e ∙ (irrevocable-is v.gate.algorithm has-here v.gate v.lock (wrote (known_of v o)) ∙ ungranted) in cc);
          now = λ e. (granted-is v.gate.algorithm has-here y.gate y.lock, (more, refl, Load, found));
          alone = λ e q. (can.alone.holds, can.alone.quiet);
        }))
      where
        o : Own
        o = own_of l

        p : Own
        p = own_of promoted
