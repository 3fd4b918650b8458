-- A script that ran over a ledger, and its row.
use Rattle.std.proofs.Common.{ℕ, ◌≡◌, List, [], ◌++◌, refl, sym, ap, ◌∙◌, length, subst}
use Rattle.std.specs.Prelude.{not, ◌||◌}
use Rattle.stm_model.specs.declared.plain.PlainWord.{PlainWord}
use Rattle.stm_model.specs.Memories.{AreWords, overlay, is_empty, Explains}
use Rattle.stm_model.specs.Logs.{SameMemories}
use Rattle.stm_model.specs.Plains.{openings, own_writes, plain_log, reads_from}
use Rattle.stm_model.specs.PlainLaws.{plain-explained, openings-length}
use Rattle.data_effects.specs.Effects.{Under}
use Rattle.data_regions.specs.declared.region.Region.{Region}
use Rattle.data_regions.specs.Regions.{AllWellFormed}
use Rattle.work_script.specs.declared.op.Op.{Op}
use Rattle.work_script.specs.declared.report.Kind.{Kind}
use Rattle.work_script.specs.declared.report.Kind.TheVariants.{W, R, C}
use Rattle.work_script.specs.Outputs.{Output}
use Rattle.work_script.specs.Scripts.{Ran, run, run_row, ran_to_end, cancel_replied, before_cancel}
use Rattle.work_script.specs.ScriptLaws.{GaveOver}
use Rattle.work_check.specs.Runs.{CanEnd, left_by}

-- the replies, emits and whether it wrote are those of the row
pub record GaveRow (regions : List Region) (kind : Kind) (ops : List Op) (m : List ℕ) (now : List PlainWord) (after : Output) : Type 0 where
  pub replies : after.replies ≡ (run_row regions kind ops m).replies
  pub emits : after.emits ≡ (run_row regions kind ops m).emits
  pub wrote : not (is_empty (own_writes now)) ≡ (run_row regions kind ops m).wrote
  pub left : left_by kind m (own_writes now) ≡ (run_row regions kind ops m).memory

by-kind : (regions : List Region) (kind : Kind) (ops : List Op) (m : List ℕ) (now : List PlainWord) (after : Output) → CanEnd kind ops
    → after.replies ≡ (ran_to_end regions kind ops m).replies → after.emits ≡ (ran_to_end regions kind ops m).emits → not (is_empty (own_writes now)) ≡ (ran_to_end regions kind ops m).wrote
    → overlay m (own_writes now) ≡ (ran_to_end regions kind ops m).memory → GaveRow regions kind ops m now after
by-kind regions W ops m now after can r e w l = record { replies = r; emits = e; wrote = w; left = l }
by-kind regions R ops m now after can r e w l = record { replies = r; emits = e; wrote = w; left = l }
by-kind regions C ops m now after can r e w l =
    let x : Ran = run regions (before_cancel ops) m in
    record {
      replies = r ∙ ap (λ b. (cancel_replied b x).replies) can.0;
      emits = e ∙ ap (λ b. (cancel_replied b x).emits) can.0;
      wrote = w ∙ ap (λ b. (cancel_replied b x).wrote) can.0;
      left = refl;
    }

pub gave-row : (regions : List Region) (kind : Kind) (ops : List Op) (old now : List PlainWord) (before after : Output) → CanEnd kind ops → own_writes old ≡ [] → before.replies ≡ [] → before.emits ≡ []
    → SameMemories (λ m. m ≡ openings old) (λ m. m ≡ openings now) → AreWords (openings now)
    → GaveOver (λ m. m ≡ openings old) (length old) (ran_to_end regions kind ops) (plain_log old) before (plain_log now) after
    → GaveRow regions kind ops (openings old) now after
gave-row regions kind ops old now before after can settled none-r none-e same small over =
    let m = openings old in
    let same' : openings old ≡ openings now = (same m).0 refl in
    let ex : Explains m (reads_from 0 now) = subst (λ k. Explains k (reads_from 0 now)) (sym same') (explained now small) in
    let g = over m refl (openings-length old) ex in
    let under : overlay m (own_writes old) ≡ m = ap (overlay m) settled in
    by-kind regions kind ops m now after can
    (g.replied ∙ (ap (λ w. w ++ (ran_to_end regions kind ops (overlay m (own_writes old))).replies) none-r ∙ ap (λ k. (ran_to_end regions kind ops k).replies) under))
    (g.emitted ∙ (ap (λ w. w ++ (ran_to_end regions kind ops (overlay m (own_writes old))).emits) none-e ∙ ap (λ k. (ran_to_end regions kind ops k).emits) under))
    (g.wrote ∙ (ap (λ w. not (is_empty w) || (ran_to_end regions kind ops (overlay m (own_writes old))).wrote) settled ∙ ap (λ k. (ran_to_end regions kind ops k).wrote) under))
    (g.left ∙ ap (λ k. (ran_to_end regions kind ops k).memory) under)
  where
    explained : (now : List PlainWord) → AreWords (openings now) → Explains (openings now) (reads_from 0 now)
    explained now small = let x = plain-explained now small in subst (λ k. Explains k (reads_from 0 now)) x.1 x.3

-- the regions are well formed on what is left
pub well-left : (regions : List Region) (kind : Kind) (old now : List PlainWord) → openings old ≡ openings now → AreWords (openings now) → AllWellFormed regions (openings old)
    → Under (λ m. m ≡ openings now) (length now) (plain_log now) (AllWellFormed regions) → AllWellFormed regions (left_by kind (openings now) (own_writes now))
well-left regions W old now same small well under = let x = plain-explained now small in subst (λ k. AllWellFormed regions (overlay k (own_writes now))) x.1 (under x.0 x.1 x.2 x.3)
well-left regions R old now same small well under = let x = plain-explained now small in subst (λ k. AllWellFormed regions (overlay k (own_writes now))) x.1 (under x.0 x.1 x.2 x.3)
well-left regions C old now same small well under = subst (AllWellFormed regions) same well
