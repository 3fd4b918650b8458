-- What a call on the marks of an attempt knows of it, of OrecLazy or OrecEager alike, and what it tells.
use Rattle.std.proofs.Common.{ℕ, ◌≡◌, ◌≤◌, List, [], length, Bool, true, false, refl, sym, ap, ◌∙◌}
use Rattle.stm_model.specs.Algorithms.{has_records}
use Rattle.stm_model.specs.declared.alg.Alg.{Alg}
use Rattle.stm_model.specs.declared.config.Config.{Config}
use Rattle.rule_base.specs.declared.seats.Who.{Who}
use Rattle.rule_base.specs.declared.entries.Cell.{Cell}
use Rattle.rule_base.specs.declared.views.TracedStep.{TracedStep}
use Rattle.rule_base.specs.declared.views.View.{View}
use Rattle.rule_base.specs.Own.{Own}
use Rattle.stm_rule.specs.declared.local.Local.{Local}
use Rattle.stm_rule.specs.declared.stm.Stm.{Stm}
use Rattle.stm_rule.specs.Attempts.{Keeps, Stands, good_by, own_of, IsInside}
use Rattle.stm_rule.specs.Callers.{Handle}
use Rattle.stm_rule.proofs.StandLemmas.{inside-of}
use Rattle.stm_answers.specs.declared.answers.Roll.TheVariants.{Rolled}
use Rattle.stm_answers.specs.Answers.{Rolls, kept_rolled}
use Rattle.stm_answers.specs.CallerState.{CallerState, IsRunning, known_of, written_under, is_irrevocable, is_in, is_closing}
use Rattle.stm_answers.specs.CallerStateLaws.{grows-same}
use Rattle.stm_logs.specs.LogStates.{LogState, rolled}
use Rattle.stm_gate.specs.Knowing.{known}
use Rattle.stm_gate.specs.Opacity.{opaque-inside}
use Rattle.stm_gate.proofs.Opening.{Opened}
use Rattle.stm_gate.proofs.Standing.{in-of}
use Rattle.stm_gate.proofs.Told.{stands-on}
use Rattle.alg_orec.specs.EagerEnding.{restoring}
use Rattle.alg_orec.proofs.GrantOpening.{granted-known}

-- the attempt goes on, and k is what contracts see of it
pub record GoesOn (good : List ℕ → Type 0) (c : Config) (n : ℕ) (l : Local) (v : View) (k : CallerState) : Type 0 where
  pub knows : k ≡ known_of v (own_of l)
  pub stands : Stands good c n l v
  pub inside : IsInside good c n l v
  pub quiet : l.committing ≡ false

by-known : (good : List ℕ → Type 0) (c : Config) (n : ℕ) (l : Local) (v : View) (k : CallerState) → k ≡ known_of v (own_of l) → IsRunning k → Stands good c n l v → GoesOn good c n l v k
by-known good c n l v k knows runs stands = record {
  knows = knows;
  stands = stands;
  inside = inside-of good c n l v (in-of v.gate.phase (ap (λ (q : CallerState). q.running) (sym knows) ∙ runs.0)) stands;
  quiet = ap (λ (q : CallerState). q.committing) (sym knows) ∙ runs.1;
}

-- of the descriptor e, which is d, in a call that is not given the memory
pub goes-on : {K : Type 0} (good : K → List ℕ → Type 0) {d e : Handle K} (n : ℕ) (l : Local) → d ≡ e → d.own ≡ own_of l
    → IsRunning (known e) → Stands (good_by good d.who.rule) d.who.config n l d.view
    → GoesOn (good_by good d.who.rule) d.who.config n l d.view (known e)
goes-on {K} good {d} {e} n l same own = by-known (good_by good d.who.rule) d.who.config n l d.view (known e) (ap known (sym same) ∙ ap (λ (o : Own). known_of d.view o) own)

-- and in one that is
pub goes-on-of : {K : Type 0} (good : K → List ℕ → Type 0) (stm : Stm K) {e : Handle K} {who : Who K} {v : View} {n : ℕ} {l : Local}
    → Opened good stm e who v n l → IsRunning (known e) → GoesOn (good stm.rule) stm.config n l v (known e)
goes-on-of {K} good stm {e} {who} {v} {n} {l} a runs = by-known (good stm.rule) stm.config n l v (known e) a.knows runs a.stands

module _ {good : List ℕ → Type 0} {c : Config} {n : ℕ} {l : Local} {v : View} {k : CallerState} (a : GoesOn good c n l v k) where
  i : IsInside good c n l v
  i = a.inside

  -- with another log of writes and at another depth, where this is in place after these steps
  pub inside-at : (log : LogState) (wrote : Bool) (d : ℕ) (in_place : List Cell) (more : List TracedStep)
      → Keeps c l.algorithm l.granted (record l { writes = log; wrote = wrote; depth = d }) (restoring v in_place more)
      → IsInside good c n (record l { writes = log; wrote = wrote; depth = d }) (restoring v in_place more)
  inside-at log wrote d in_place more keeps = record {
    phase = i.phase;
    named = i.named;
    disowned = i.disowned;
    unentered = i.unentered;
    start = i.start;
    front = i.front;
    legal = i.legal;
    below = i.below;
    sees = i.sees;
    reads_inside = i.reads_inside;
    looked = λ e. let h = i.looked e in record { low = h.low; seen = h.seen; unseen = h.unseen };
    granted = i.granted;
    steady = i.steady;
    spared = record { is = i.spared.is; fits = i.spared.fits };
    keeps = keeps;
  }

  -- where nothing moved
  pub inside-with : (log : LogState) (wrote : Bool) (d : ℕ)
      → Keeps c l.algorithm l.granted (record l { writes = log; wrote = wrote; depth = d }) v
      → IsInside good c n (record l { writes = log; wrote = wrote; depth = d }) v
  inside-with log wrote d keeps = inside-at log wrote d v.owned.in_place [] keeps

  pub stands-with : (log : LogState) (wrote : Bool) (d : ℕ) → log.len ≡ l.writes.len
      → Keeps c l.algorithm l.granted (record l { writes = log; wrote = wrote; depth = d }) v
      → Stands good c n (record l { writes = log; wrote = wrote; depth = d }) v
  stands-with log wrote d len keeps =
      stands-on good c n l (record l { writes = log; wrote = wrote; depth = d }) v v i.phase a.stands refl refl
      (len ∙ a.stands.lengths.0, a.stands.lengths.1) refl (inside-with log wrote d keeps)

  pub rolls-log : has_records v.gate.algorithm ≡ true → l.granted ≡ false → (log : LogState) (wrote : Bool) (d : ℕ) (in_place : List Cell) (more : List TracedStep) → log ≡ rolled d l.writes → d ≤ length l.writes.marks
      → (known_of (restoring v in_place more) (own_of (record l { writes = log; wrote = wrote; depth = d }))).kept
      ≡ kept_rolled v.gate.algorithm (known_of v (own_of l)).kept
      (known_of (restoring v in_place more) (own_of (record l { writes = log; wrote = wrote; depth = d }))).log.writes
      → written_under v.gate.algorithm v.gate.granted (restoring v in_place more) (own_of (record l { writes = log; wrote = wrote; depth = d })) ≡ log.items
      → IsInside good c n (record l { writes = log; wrote = wrote; depth = d }) (restoring v in_place more)
      → Rolls good c n d Rolled (known_of v (own_of l)) (known_of (restoring v in_place more) (own_of (record l { writes = log; wrote = wrote; depth = d })))
  rolls-log has plain log wrote d in_place more is within kept written inside = (
    record {
      stays = record {
        running = ap is_in i.phase;
        uncommitted = a.quiet;
        closing = ap is_closing i.phase;
        made = refl;
        grows = grows-same (known_of v (own_of l)) (known_of (restoring v in_place more) (own_of m)) refl refl more refl refl refl (ap (λ (q : LogState). q.marks_limit) is) refl;
        alg = refl;
        fence = refl;
        base = refl;
        rises = refl;
        start = refl;
        installs = refl;
        granted = refl;
        holds = refl;
        checked = refl;
        locked = refl;
      };
      within = within;
      reads = refl;
      writes = written ∙ ap (λ (q : LogState). q.items) is;
      depth = refl;
      kept = kept;
      marks = ap (λ (q : LogState). q.marks) is;
      opaque = opaque-inside good c n m (restoring v in_place more) (own_of m) inside;
    },
    granted-known good c n l v i has ∙ plain,
  )
    where
      m : Local
      m = record l { writes = log; wrote = wrote; depth = d }

  -- ONCE IRREVOCABLE a mark is a number
  module _ (alg : Alg) (has : has_records alg ≡ true) (named : k.alg ≡ alg) (granted : l.granted ≡ true) where
    has-here : has_records v.gate.algorithm ≡ true
    has-here = ap has_records (ap (λ (q : CallerState). q.alg) (sym a.knows) ∙ named) ∙ has

    irrevocable : is_irrevocable (known_of v (own_of l)) ≡ true
    irrevocable = granted-known good c n l v i has-here ∙ granted

    pub irrevocable-now : is_irrevocable k ≡ true
    irrevocable-now = ap is_irrevocable a.knows ∙ irrevocable
