-- What a check showed to its caller.
use Rattle.std.proofs.Common.{ℕ, ◌≡◌, List, ◌++◌, refl, sym, ◌∙◌, subst}
use Rattle.stm_model.specs.declared.config.Config.{Config}
use Rattle.rule_base.specs.declared.entries.Entry.{Entry}
use Rattle.rule_base.specs.declared.views.GateView.{GateView}
use Rattle.rule_base.specs.declared.views.View.{View}
use Rattle.rule_base.specs.Bridge.{of_words, public_history}
use Rattle.rule_base.specs.History.{upto}
use Rattle.alg_ring.proofs.Seen.{upto-upto}
use Rattle.rule_base.specs.Own.{Own}
use Rattle.rule_ring.specs.RingSteps.{RingBegins}
use Rattle.stm_answers.specs.CallerState.{Grows, known_of}
use Rattle.stm_gate.specs.Opacity.{later-seen}
use Rattle.alg_ring.specs.Checking.{Passes}

-- where it passed, what the caller has seen grew
module _ (good : List ℕ → Type 0) (c : Config) (gate : GateView) (start : ℕ) (v w : View) (p : Passes good c gate start v w) where
  begins : RingBegins (of_words good c.words) c p.world v start
  begins = p.sees.begins

  pub passes-grows : (o q : Own) → q.reads_limit ≡ o.reads_limit → q.writes_limit ≡ o.writes_limit → q.marks_limit ≡ o.marks_limit → Grows (known_of v o) (known_of w q)
  passes-grows o q reads writes marks = subst (λ (y : View). Grows (known_of v o) (known_of y q)) (sym p.is) (
      let f = later-seen (upto p.world.history start) v.history.front start begins.below begins.front in record {
        later = f.0;
        is = subst (λ (h : List Entry). public_history (upto p.world.history start) ≡ public_history h ++ f.0) (upto-upto p.world.history start v.history.front begins.front ∙ sym begins.seen) f.1;
        ascending = f.2;
        up_to = f.3;
        front_rose = begins.front;
        more = p.more;
        step_trace = refl;
        reads_limit = reads;
        writes_limit = writes;
        marks_limit = marks;
        fenced = refl;
      })
