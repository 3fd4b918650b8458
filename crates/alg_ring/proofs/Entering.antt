-- What the stores of a slot and of the clock come to.
use Rattle.std.proofs.Common.{ℕ, ◌≡◌, ◌≢◌, ◌<◌, List, [], ◌∷◌, ◌++◌, length, true, refl, sym, ap, ◌∙◌, arith, subst, length-append}
use Rattle.std.specs.Prelude.{not, None}
use Rattle.stm_model.specs.Memories.{is_empty}
use Rattle.stm_model.specs.declared.config.Config.{Config}
use Rattle.rule_base.specs.declared.entries.Cell.{Cell}
use Rattle.rule_base.specs.declared.layout.At.TheVariants.{Clock}
use Rattle.rule_base.specs.declared.layout.TheConstants.{SLOT_WORDS}
use Rattle.rule_base.specs.declared.views.Act.TheVariants.{Store}
use Rattle.rule_base.specs.declared.views.TracedStep.{TracedStep}
use Rattle.rule_base.specs.declared.views.View.{View}
use Rattle.rule_base.specs.Bridge.{of_words}
use Rattle.rule_base.specs.StepKinds.{Tells}
use Rattle.rule_ring.specs.RingSteps.{CanRingSlot, CanRingEnter, RingEnters, ring_enter}
use Rattle.stm_rule.specs.declared.local.Local.{Local}
use Rattle.stm_rule.specs.RecordsKept.{cells_of}
use Rattle.alg_ring.specs.Calls.{CanEnter, Enters}

-- the view with this word of the slot to be stored next
abbrev pub slotted_at : View → ℕ → List Cell → List TracedStep → View
slotted_at v i writes more = record v { ring_commit = record v.ring_commit { slotted = i; writes = writes }; steps = record v.steps { step_trace = more ++ v.steps.step_trace } }

-- a log with an item has a cell
pub some-cells : (ws : List (ℕ × ℕ)) → not (is_empty ws) ≡ true → cells_of ws ≢ []
some-cells [] e n = absurd cc
some-cells (w ∷ ws) e n = let last : List Cell = record { at = w.0; value = w.1 } ∷ [] in let l = length-append (cells_of ws) last in let k : length (cells_of ws ++ last) ≡ 0 = ap length n in absurd (omega arith)

module _ (good : List ℕ → Type 0) (c : Config) (time : ℕ) (l : Local) (v : View) (can : CanEnter good c time l v) where
  abbrev ws : List Cell
  ws = cells_of l.writes.items

  pub may-slot : (i : ℕ) (writes : List Cell) (more : List TracedStep) → i < SLOT_WORDS → (0 < i → ws ≡ writes) → CanRingSlot time i ws (slotted_at v i writes more)
  may-slot i writes more low same = record {
    turn =
        record {
          has = record {
            runs =
                record { phase = can.turn.has.runs.phase; algorithm = can.turn.has.runs.algorithm; plain = can.turn.has.runs.plain };
            inside = can.turn.has.inside;
          };
          taken = can.turn.taken;
          unentered = can.turn.unentered;
        };
    ticked = can.ticked;
    checked = can.checked;
    next = can.next;
    index = refl;
    low = low;
    same = same;
  }

  pub may-enter : (writes : List Cell) (more : List TracedStep) → ws ≡ writes → CanRingEnter (of_words good c.words) c.words time (slotted_at v SLOT_WORDS writes more)
  may-enter writes more same = subst (λ (cs : List Cell). CanRingEnter (of_words good c.words) c.words time (slotted_at v SLOT_WORDS cs more)) same (record {
    turn =
        record {
          has = record {
            runs =
                record { phase = can.turn.has.runs.phase; algorithm = can.turn.has.runs.algorithm; plain = can.turn.has.runs.plain };
            inside = can.turn.has.inside;
          };
          taken = can.turn.taken;
          unentered = can.turn.unentered;
        };
    ticked = can.ticked;
    checked = can.checked;
    full = refl;
    time = can.next;
    limit = can.limit;
    settled = can.settled;
    free = can.not_quiescent;
    wrote = some-cells l.writes.items (sym can.buffers.wrote ∙ can.wrote);
    writes_inside = can.buffers.inside;
    writes_small = can.buffers.small;
    keeps = can.keeps;
  })

  pub tells-entered : (n : ℕ) (writes : List Cell) (more : List TracedStep) (w : View) → ws ≡ writes
      → Tells (ring_enter n time) (RingEnters (of_words good c.words) c n time) (slotted_at v SLOT_WORDS writes more) time w
      → Enters good c n time l v w
  tells-entered n writes more w same t = by (subst (λ (cs : List Cell). Tells (ring_enter n time) (RingEnters (of_words good c.words) c n time) (slotted_at v SLOT_WORDS cs more) time w) (sym same) t)
    where
      by : Tells (ring_enter n time) (RingEnters (of_words good c.words) c n time) (slotted_at v SLOT_WORDS ws more) time w → Enters good c n time l v w
      by s = record { world = s.0; more = record { place = Clock; act = Store time; found = None } ∷ more; is = s.2; shown = record { legal = s.1.legal; below = s.1.below; seen = s.1.seen } }
