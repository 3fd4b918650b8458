-- What a call knows of an attempt with ownership records that it is given, and what it tells of it.
use Rattle.std.proofs.Common.{ℕ, ◌≡◌, ◌<◌, ◌*◌, List, false, sym, ap, ◌∙◌, subst}
use Rattle.std.specs.Prelude.{None}
use Rattle.stm_model.specs.Memories.{item_at}
use Rattle.rule_base.specs.declared.seats.SeatView.{SeatView}
use Rattle.rule_base.specs.declared.seats.Who.{Who}
use Rattle.rule_base.specs.declared.views.View.{View}
use Rattle.stm_rule.specs.declared.local.Local.{Local}
use Rattle.stm_rule.specs.declared.stm.Stm.{Stm}
use Rattle.stm_rule.specs.Attempts.{HasRoom, IsInside, Stands, ended, good_by, own_of}
use Rattle.stm_rule.specs.Callers.{Handle, IsTied}
use Rattle.stm_answers.specs.CallerState.{CallerState, known_of}
use Rattle.stm_gate.specs.Knowing.{known, number}
use Rattle.stm_gate.proofs.Opening.{Opened, is-known, of-view, shows, stands-after}
use Rattle.stm_gate.proofs.Told.{stands-on}
use Rattle.stm_logs.specs.Probing.{IsPlace}
use Rattle.alg_orec.specs.Loading.{HasPlace}
use Rattle.alg_orec.proofs.RecordReads.{IsReading, written-here}
use Rattle.alg_orec.proofs.ReadCalls.{ended-moved, ended-own}

module _ {K : Type 0} (good : K → List ℕ → Type 0) (stm : Stm K) where
  -- e is the descriptor, with this seat and these fields, of an attempt that was not promoted
  pub record RecordOpening (e : Handle K) (me : SeatView K × List (ℕ × Unit {0})) (n : ℕ) (l : Local) : Type 0 where
    pub opening : Opened good stm e me.0.who me.0.view n l
    pub tied : IsTied n me
    pub reading : IsReading (good stm.rule) stm.config n l me.0.view

  module _ {e : Handle K} {me : SeatView K × List (ℕ × Unit {0})} {n : ℕ} {l : Local} (a : RecordOpening e me n l) where
    pub unwritten : (at : ℕ) → item_at at (known e).log.writes ≡ None → item_at at l.writes.items ≡ None
    unwritten at none = ap (item_at at) (sym (written-here a.reading)) ∙ of-view good stm a.opening (λ n v. item_at at v.log.writes ≡ None) none

    pub unread : (at : ℕ) → item_at at (known e).log.reads ≡ None → item_at at l.reads.items ≡ None
    unread at none = ap (item_at at) a.reading.reads ∙ of-view good stm a.opening (λ n v. item_at at v.log.reads ≡ None) none

    -- a place in the read log, by what contracts see of the attempt
    pub place-here : (at place : ℕ) → HasPlace at place (known e) → IsPlace (2 * l.reads.len) l.reads.items at place
    place-here at place is = subst (λ (xs : List (ℕ × ℕ)). IsPlace (2 * l.reads.len) xs at place) (sym a.reading.reads) (of-view good stm a.opening (λ n v. HasPlace at place v) is)

    pub place-told : (at place : ℕ) → IsPlace (2 * l.reads.len) l.reads.items at place → HasPlace at place (known e)
    place-told at place is = is-known good stm a.opening (λ n v. HasPlace at place v) (subst (λ (xs : List (ℕ × ℕ)). IsPlace (2 * l.reads.len) xs at place) a.reading.reads is)

    -- after the call the seat is w, and q are the descriptor's fields
    pub stays-tied : {y : View} (q : Local) (w : SeatView K × List (ℕ × Unit {0})) → w.0 ≡ record me.0 { view = y } → w.1 ≡ me.1
        → q.running ≡ l.running → q.holds ≡ l.holds → HasRoom q → w.0.view.gate.holds ≡ me.0.view.gate.holds
        → IsInside (good stm.rule) stm.config n q w.0.view
        → IsTied n w × Stands (good_by good w.0.who.rule) w.0.who.config n q w.0.view
    stays-tied q w seated empty running held lengths gate inside = (
      record {
        named = ap (λ (y : Who K). y.role) who ∙ a.tied.named;
        low = subst (λ (y : Who K). n < y.config.callers) (sym who) a.tied.low;
        bare = ap (λ (y : SeatView K). y.gathered) seated ∙ a.tied.bare;
        empty = empty ∙ a.tied.empty;
      },
      stands-after good stm a.opening w.0 q who (stands-on (good stm.rule) stm.config n l q me.0.view w.0.view a.reading.inside.phase a.opening.stands running held lengths gate inside),
    )
      where
        who : w.0.who ≡ me.0.who
        who = ap (λ (y : SeatView K). y.who) seated

    -- the attempt ended, from where it was or from where its start had moved to
    pub answers-ended : (P : ℕ → CallerState → CallerState → Type 0) (w : View) (m : Local) → m ≡ ended (record l { committing = false })
        → P n (known_of me.0.view (own_of l)) (known_of w (own_of l)) → P (number e) (known e) (known_of w (own_of m))
    answers-ended P w m is p = shows good stm a.opening P w m (ended-own l m a.reading.quiet is) p

    pub answers-moved : (P : ℕ → CallerState → CallerState → Type 0) (q : Local) (w : View) (m : Local) → q ≡ record l { start = q.start }
        → m ≡ ended (record q { committing = false }) → P n (known_of me.0.view (own_of l)) (known_of w (own_of l))
        → P (number e) (known e) (known_of w (own_of m))
    answers-moved P q w m moved is p = shows good stm a.opening P w m (ended-moved l q m a.reading.quiet moved is) p
