-- What the marks of an attempt of OrecLazy come to.
use Rattle.std.proofs.Common.{ℕ, ◌≡◌, ◌≤◌, ◌-◌, List, [], length, Bool, true, false, sym, ap, ◌∙◌, arith, subst}
use Rattle.std.specs.Prelude.{not}
use Rattle.stm_model.specs.Algorithms.{has_records}
use Rattle.stm_model.specs.declared.alg.Alg.{Alg}
use Rattle.stm_model.specs.declared.alg.Alg.TheVariants.{OrecLazy}
use Rattle.stm_model.specs.declared.config.Config.{Config}
use Rattle.stm_model.specs.Memories.{is_empty, Once}
use Rattle.rule_base.specs.declared.entries.Cell.{Cell}
use Rattle.rule_base.specs.declared.views.View.{View}
use Rattle.rule_base.specs.Bridge.{items}
use Rattle.stm_rule.specs.declared.local.Local.{Local}
use Rattle.stm_rule.specs.Attempts.{Keeps, Stands, own_of}
use Rattle.stm_rule.specs.RecordsKept.{IsLazy, IsWriteSet, HasMarks}
use Rattle.stm_answers.specs.declared.answers.Roll.TheVariants.{Rolled}
use Rattle.stm_answers.specs.Answers.{Rolls, kept_rolled}
use Rattle.stm_answers.specs.CallerState.{CallerState, known_of, kept_under, written_under}
use Rattle.stm_logs.specs.LogStates.{LogState, rolled}
use Rattle.stm_gate.proofs.MarkLaws.{marks-take}
use Rattle.stm_gate.proofs.Cells.{items-cells}
use Rattle.alg_orec.proofs.NestingOpening.{GoesOn, inside-with, stands-with, rolls-log}
use Rattle.alg_orec.proofs.Proving.{lazy-of}

-- an attempt that was not promoted
module _ {good : List ℕ → Type 0} {c : Config} {n : ℕ} {l : Local} {v : View} {q : CallerState} (a : GoesOn good c n l v q) (named : q.alg ≡ OrecLazy) (plain : l.granted ≡ false) where
  lazy : v.gate.algorithm ≡ OrecLazy
  lazy = ap (λ (p : CallerState). p.alg) (sym a.knows) ∙ named

  pub kept : IsLazy c l v
  kept = lazy-of good c n l v a.inside (sym a.inside.named ∙ lazy) plain

  abbrev k : IsLazy c l v
  k = kept

  abbrev with_log : LogState → Bool → ℕ → Local
  with_log log wrote d = record l { writes = log; wrote = wrote; depth = d }

  written-now : (log : LogState) (wrote : Bool) (d : ℕ) → Once log.items → written_under v.gate.algorithm v.gate.granted v (own_of (with_log log wrote d)) ≡ log.items
  written-now log wrote d once = (λ j. written_under (lazy j) (k.optimistic.ungranted j) v (own_of (with_log log wrote d))) ∙ items-cells log.items once

  keeps-with : (log : LogState) (wrote : Bool) (d : ℕ) → IsWriteSet c l.fence log.items → wrote ≡ not (is_empty log.items) → HasMarks c l.fence log.marks d → Keeps c l.algorithm l.granted (with_log log wrote d) v
  keeps-with log wrote d set some marks =
      subst (λ (a : Alg). Keeps c a l.granted (with_log log wrote d) v) (sym (sym a.inside.named ∙ lazy))
      (subst (λ (b : Bool). Keeps c OrecLazy b (with_log log wrote d) v) (sym plain) keeps)
    where
      keeps : IsLazy c (with_log log wrote d) v
      keeps = record {
        optimistic = k.optimistic;
        buffers = record { wrote = some; once = set.once; inside = set.inside; small = set.small; apart = set.apart };
        inside = k.inside;
        lazy = k.lazy;
        open_yet = k.open_yet;
        unraised = k.unraised;
        unplaced = k.unplaced;
        undone = k.undone;
        repaid = k.repaid;
        unsampled = k.unsampled;
        unchecked = k.unchecked;
        reads = k.reads;
        locks = k.locks;
        places = k.places;
        few = (let e : length l.locks.items ≡ 0 = ap length k.locks ∙ ap (λ (cs : List Cell). length (items cs)) (k.open_handed a.quiet) in omega arith);
        versions = k.versions;
        open_handed = k.open_handed;
        locked = λ e. absurd (let f : false ≡ true = sym a.quiet ∙ e in cc);
        committing = λ e. absurd (let f : false ≡ true = sym a.quiet ∙ e in cc);
        marked = marks;
        olds = λ e. absurd (let f : false ≡ true = sym a.quiet ∙ e in cc);
        sole = k.sole;
      }

  -- A ROLL BACK
  module _ (log : LogState) (wrote : Bool) (d : ℕ) (low : 1 ≤ d) (high : d ≤ l.depth) (is : log ≡ rolled d l.writes) (some : wrote ≡ not (is_empty log.items)) where
    abbrev m : Local
    m = with_log log wrote d

    set : IsWriteSet c l.fence log.items
    set = subst (IsWriteSet c l.fence) (sym (ap (λ (q : LogState). q.items) is)) (k.marked.sound (d - 1) (let h = k.marked.count in omega arith))

    keeps : Keeps c l.algorithm l.granted m v
    keeps = keeps-with log wrote d set some (subst (λ (ms : List (List (ℕ × ℕ))). HasMarks c l.fence ms d) (sym (ap (λ (q : LogState). q.marks) is)) (marks-take c l.fence l.writes.marks l.depth d k.marked high))

    pub stands-rolled : Stands good c n (record l { writes = log; wrote = wrote; depth = d }) v
    stands-rolled = stands-with a log wrote d (ap (λ (q : LogState). q.len) is) keeps

    pub rolls-back : Rolls good c n d Rolled (known_of v (own_of l)) (known_of v (own_of (record l { writes = log; wrote = wrote; depth = d })))
    rolls-back = rolls-log a (ap has_records lazy) plain log wrote d v.owned.in_place [] is (let h = k.marked.count in omega arith) kept-now (written-now log wrote d set.once) (inside-with a log wrote d keeps)
      where
        kept-now : (known_of v (own_of m)).kept ≡ kept_rolled v.gate.algorithm (known_of v (own_of l)).kept (known_of v (own_of m)).log.writes
        kept-now = ap (λ (b : Alg). kept_under b v (own_of m)) lazy
            ∙ sym (λ j. kept_rolled (lazy j) (known_of v (own_of l)).kept (written_under (lazy j) (k.optimistic.ungranted j) v (own_of m)))
