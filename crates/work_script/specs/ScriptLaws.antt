-- A script over a log, whole and in the middle.
use Rattle.std.specs.Prelude.{ℕ, ◌≡◌, Bool, true, false, ◌||◌, not, ◌<◌, List, [], ◌∷◌, ◌++◌, length, take}
use Rattle.std.proofs.Common.{refl, sym, ap, ◌∙◌, append_assoc}
use Rattle.stm_model.specs.Memories.{overlay, Explains, is_empty}
use Rattle.stm_model.specs.Logs.{Log, IsExplained}
use Rattle.work_script.specs.declared.op.Op.{Op}
use Rattle.data_regions.specs.declared.region.Region.{Region}
use Rattle.work_script.specs.Operations.{effect_of}
use Rattle.work_script.specs.Scripts.{Ran, run}
use Rattle.work_script.specs.Outputs.{Output}

-- over the memory m under the log l, what ran (a script or one operation) gave this, told in `out`, after what `before`
-- has
pub record Gave (ran : List ℕ → Ran) (m : List ℕ) (l : Log) (before : Output) (k : Log) (after : Output) : Type 0 where
  pub explained : Explains m l.reads
  pub replied : after.replies ≡ before.replies ++ (ran (overlay m l.writes)).replies
  pub emitted : after.emits ≡ before.emits ++ (ran (overlay m l.writes)).emits
  pub left : overlay m k.writes ≡ (ran (overlay m l.writes)).memory
  pub wrote : not (is_empty k.writes) ≡ not (is_empty l.writes) || (ran (overlay m l.writes)).wrote

abbrev pub GaveOver : (List ℕ → Type 0) → ℕ → (List ℕ → Ran) → Log → Output → Log → Output → Type 0
GaveOver good words ran l before k after = (m : List ℕ) → good m → length m ≡ words → Explains m k.reads → Gave ran m l before k after

-- the operations before the one that stopped gave this: so many of them, and the log then
pub record GaveUpTo (good : List ℕ → Type 0) (words : ℕ) (regions : List Region) (ops : List Op) (l : Log) (before after : Output) : Type 0 where
  pub count : ℕ
  pub log : Log
  pub within : count < length ops
  pub explained : IsExplained good words l → IsExplained good words log
  pub gave : GaveOver good words (run regions (take count ops)) l before log after

-- one operation
abbrev pub ran_one : List Region → Op → List ℕ → Ran
ran_one regions op m = run regions (op ∷ []) m

-- where the rest gives something, the whole gives it
abbrev pub GivesOn : List Region → List Op → List Op → List ℕ → Log → Output → Log → Output → Type 0
GivesOn regions all rest m l before k now = (j : Log) (after : Output) → Gave (run regions rest) m k now j after → Gave (run regions all) m l before j after

or-assoc : (a b c : Bool) → (a || b) || c ≡ a || (b || c)
or-assoc true b c = refl
or-assoc false b c = refl

or-false : (a : Bool) → a || false ≡ a
or-false true = refl
or-false false = refl

append-nil : (xs : List ℕ) → xs ++ [] ≡ xs
append-nil [] = refl
append-nil (x ∷ xs) = ap (λ w. x ∷ w) (append-nil xs)

pub gives-step : (regions : List Region) (all : List Op) (op : Op) (rest : List Op) (m : List ℕ) (l : Log) (before : Output) (k : Log) (now : Output) (j : Log) (next : Output)
    → GivesOn regions all (op ∷ rest) m l before k now → Gave (ran_one regions op) m k now j next → GivesOn regions all rest m l before j next
gives-step regions all op rest m l before k now j next on one = λ i after h. on i after (record {
  explained = one.explained;
  replied = h.replied ∙ (ap (λ w. w ++ (run regions rest (overlay m j.writes)).replies) one.replied ∙ (append_assoc now.replies
      ((effect_of regions op (overlay m k.writes)).reply ∷ []) (run regions rest (overlay m j.writes)).replies
      ∙ ap (λ w. now.replies ++ ((effect_of regions op (overlay m k.writes)).reply ∷ (run regions rest w).replies)) one.left));
  emitted = h.emitted ∙ (ap (λ w. w ++ (run regions rest (overlay m j.writes)).emits)
      (one.emitted ∙ ap (λ w. now.emits ++ w) (append-nil (effect_of regions op (overlay m k.writes)).emits)) ∙ (append_assoc now.emits
      (effect_of regions op (overlay m k.writes)).emits (run regions rest (overlay m j.writes)).emits
      ∙ ap (λ w. now.emits ++ ((effect_of regions op (overlay m k.writes)).emits ++ (run regions rest w).emits)) one.left));
  left = h.left ∙ ap (λ w. (run regions rest w).memory) one.left;
  wrote = h.wrote ∙ (ap (λ w. w || (run regions rest (overlay m j.writes)).wrote)
      (one.wrote ∙ ap (λ w. not (is_empty k.writes) || w) (or-false (effect_of regions op (overlay m k.writes)).wrote)) ∙
      (or-assoc (not (is_empty k.writes)) (effect_of regions op (overlay m k.writes)).wrote (run regions rest (overlay m j.writes)).wrote
      ∙ ap (λ w. not (is_empty k.writes) || ((effect_of regions op (overlay m k.writes)).wrote || (run regions rest w).wrote)) one.left));
})

-- nothing left to run
pub gives-none : (regions : List Region) (m : List ℕ) (k : Log) (now : Output) → Explains m k.reads → Gave (run regions []) m k now k now
gives-none regions m k now h = record {
  explained = h;
  replied = sym (append-nil now.replies);
  emitted = sym (append-nil now.emits);
  left = refl;
  wrote = sym (or-false (not (is_empty k.writes)));
}
