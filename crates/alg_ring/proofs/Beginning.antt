-- What the begin of RingSW comes to.
use Rattle.std.proofs.Common.{ℕ, ◌≡◌, ◌<◌, List, [], ◌∷◌, ◌++◌, true, false, refl, sym, ap, ◌∙◌, arith, subst}
use Rattle.std.specs.Prelude.{Some, slice_index}
use Rattle.std.proofs.lemmas.List.{get_or-replicate}
use Rattle.stm_model.specs.declared.alg.Alg.{Alg}
use Rattle.stm_model.specs.declared.alg.Alg.TheVariants.{RingSw}
use Rattle.stm_model.specs.declared.config.Config.{Config}
use Rattle.rule_base.specs.declared.entries.Entry.{Entry}
use Rattle.rule_base.specs.declared.layout.At.TheVariants.{Done}
use Rattle.rule_base.specs.declared.layout.TheConstants.{SLOT_WORDS}
use Rattle.rule_base.specs.declared.views.Act.TheVariants.{Load}
use Rattle.rule_base.specs.declared.views.View.{View}
use Rattle.rule_base.specs.Bridge.{items, of_words, public_history, addresses}
use Rattle.rule_base.specs.History.{upto}
use Rattle.rule_base.specs.StepKinds.{Tells, view_after}
use Rattle.rule_ring.specs.RingSteps.{ring_begin, CanRingBegin, RingBegins}
use Rattle.rule_ring.specs.SlotFilter.{slot_filter}
use Rattle.stm_rule.specs.Attempts.{no_filter}
use Rattle.alg_ring.specs.RingFindings.{FindsStart}
use Rattle.stm_answers.specs.CallerState.{granted_under, written_under, kept_under}
use Rattle.rule_base.specs.declared.entries.Cell.{Cell}
use Rattle.stm_gate.specs.Opacity.{opaque-at, later-seen}
use Rattle.stm_gate.specs.Starts.{CanBegin, StartsAt}
use Rattle.alg_ring.proofs.Seen.{upto-upto}
use Rattle.stm_gate.specs.InnerLaws.{unlocked-of}

-- the filter of no address
pub no-word : (i : ℕ) → i < SLOT_WORDS → slice_index no_filter i ≡ slot_filter.word [] i
unfolding slot_filter
no-word i low = get_or-replicate 16 i 0 0 low

module _ (good : List ℕ → Type 0) (c : Config) (n : ℕ) (v : View) (can : CanBegin RingSw v) where
  pub tells-started : (done : ℕ) (w : View) → Tells ring_begin (FindsStart (of_words good c.words) c) v done w → StartsAt good c n RingSw done v w
  tells-started done w t = subst (λ (y : View). StartsAt good c n RingSw done v y) (sym t.2) (record {
    inside = λ l fenced free. record {
      steady = λ e. refl;
      spared = record { is = fenced.is; fits = fenced.fits };
      phase = can.phase;
      named = can.named;
      disowned = λ e. can.clear.disowned;
      unentered = can.clear.unentered;
      start = refl;
      front = refl;
      legal = b.legal;
      below = b.below;
      sees = λ a. refl;
      reads_inside = λ a e. absurd cc;
      looked = λ e. absurd (let f : false ≡ true = sym free ∙ e in cc);
      granted = can.ungranted;
      keeps = record {
        optimistic = record {
          unlocked = can.clear.unlocked;
          unfixed = can.clear.unfixed;
          unwritten = can.clear.unwritten;
          uncommitted = can.clear.uncommitted;
          ungranted = can.ungranted;
          not_quiescent = t.1.not_quiescent can.reopened;
          unstored = refl;
          rises = can.rises;
        };
        buffers = record { wrote = refl; once = tt; inside = λ a e. absurd cc; small = λ a d low. low; apart = λ a e. absurd cc };
        inside = refl;
        settled = refl;
        loaded = no-word;
        stored = no-word;
        read = λ i low. get_or-replicate 16 i 0 0 low;
        marked = record { count = refl; sound = λ j e. absurd (omega arith) };
        sole = λ one. (let q = t.1.sole can.clear.uncommitted can.clear.unentered one in let r = can.rises in omega arith);
      };
    };
    reopened = can.reopened;
    fence = refl;
    rises = can.rises;
    starts = λ o fresh. record {
      keeps = record {
        made = refl;
        grows = (let q = later-seen (upto t.0.history done) v.history.front done b.below b.front in record {
          later = q.0;
          is = subst (λ (h : List Entry). public_history (upto t.0.history done) ≡ public_history h ++ q.0) (upto-upto t.0.history done v.history.front b.front ∙ sym b.seen) q.1;
          ascending = q.2;
          up_to = q.3;
          front_rose = b.front;
          more = record { place = Done; act = Load; found = Some done } ∷ [];
          step_trace = refl;
          reads_limit = refl;
          writes_limit = refl;
          marks_limit = refl;
          fenced = refl;
        });
        rises = refl;
        installs = refl;
      };
      found = (_ ∷ [], refl, Load, (0, omega arith, refl));
      is = refl;
      fresh = b.front;
      log = λ j. record { reads = []; writes = ((λ i. written_under (can.named i) (can.ungranted i) y o) ∙ ap items fresh.1) j };
      bare = ap (λ (a : Alg). kept_under a y o) can.named ∙ ap (λ (cs : List Cell). addresses (items cs)) fresh.1;
      granted = ap (λ (a : Alg). granted_under a v.gate v.lock) can.named ∙ can.ungranted;
      opaque = opaque-at good c n y o done refl refl b.legal b.below (λ a. refl) (λ a e. absurd cc);
      locked = unlocked-of v.gate.algorithm v.lock.taken v.tml.writer can.clear.unlocked can.clear.unwritten;
      took = λ e. absurd cc;
    };
  })
    where
      y : View
      y = view_after ring_begin t.0 v done

      b : RingBegins (of_words good c.words) c t.0 v done
      b = t.1.begins

  pub may-begin : CanRingBegin v
  may-begin = record { runs = record { phase = can.phase; algorithm = can.named; plain = can.ungranted }; unlocked = can.clear.unlocked }
