-- A script that ran in two parts.
use Rattle.std.proofs.Common.{ℕ, ◌≡◌, List, [], ◌∷◌, ◌++◌, Bool, true, false, ◌||◌, refl, sym, ap, ◌∙◌, append_assoc}
use Rattle.std.specs.Prelude.{not, Result, Ok, Err, IfErr}
use Rattle.stm_model.specs.Memories.{overlay, is_empty}
use Rattle.stm_model.specs.Logs.{Log, SameMemories, IsExplained}
use Rattle.work_script.specs.declared.op.Op.{Op}
use Rattle.data_regions.specs.declared.region.Region.{Region}
use Rattle.work_script.specs.Operations.{Effect, effect_of}
use Rattle.work_script.specs.Outputs.{Output}
use Rattle.work_script.specs.Scripts.{Ran, then_ran, run}
use Rattle.work_script.specs.ScriptLaws.{Gave, GaveOver, ran_one}

or-assoc : (a b c : Bool) → (a || b) || c ≡ a || (b || c)
or-assoc true b c = refl
or-assoc false b c = refl

abbrev both : Ran → Ran → Ran
both a b = record { replies = a.replies ++ b.replies; emits = a.emits ++ b.emits; memory = b.memory; wrote = a.wrote || b.wrote }

both-then : (e : Effect) (a b : Ran) → then_ran e (both a b) ≡ both (then_ran e a) b
both-then e a b =
    ap (λ x. let r : Ran = record { replies = e.reply ∷ (a.replies ++ b.replies); emits = x; memory = b.memory; wrote = e.wrote || (a.wrote || b.wrote) } in r) (sym (append_assoc e.emits a.emits b.emits))
    ∙ ap (λ x. let r : Ran = record { replies = e.reply ∷ (a.replies ++ b.replies); emits = (e.emits ++ a.emits) ++ b.emits; memory = b.memory; wrote = x } in r) (sym (or-assoc e.wrote a.wrote b.wrote))

run-append : (regions : List Region) (xs ys : List Op) (m : List ℕ) → run regions (xs ++ ys) m ≡ both (run regions xs m) (run regions ys (run regions xs m).memory)
run-append regions [] ys m = refl
run-append regions (op ∷ xs) ys m =
    let e = effect_of regions op m in
    ap (then_ran e) (run-append regions xs ys e.memory) ∙ both-then e (run regions xs e.memory) (run regions ys (run regions xs e.memory).memory)

-- what one part gave, and then the other
gave-append : (regions : List Region) (xs ys : List Op) (m : List ℕ) (l : Log) (before : Output) (k : Log) (now : Output) (j : Log) (after : Output)
    → Gave (run regions xs) m l before k now → Gave (run regions ys) m k now j after → Gave (run regions (xs ++ ys)) m l before j after
gave-append regions xs ys m l before k now j after one two =
    let x = overlay m l.writes in
    let first = run regions xs x in
    let then : run regions ys (overlay m k.writes) ≡ run regions ys first.memory = ap (run regions ys) one.left in
    let all = sym (run-append regions xs ys x) in
    let none = not (is_empty l.writes) in
    record {
      explained = one.explained;
      replied = two.replied ∙ (ap (λ w. w ++ (run regions ys (overlay m k.writes)).replies) one.replied ∙ (append_assoc before.replies first.replies (run regions ys (overlay m k.writes)).replies
          ∙ (ap (λ (r : Ran). before.replies ++ (first.replies ++ r.replies)) then ∙ ap (λ (r : Ran). before.replies ++ r.replies) all)));
      emitted = two.emitted ∙ (ap (λ w. w ++ (run regions ys (overlay m k.writes)).emits) one.emitted ∙ (append_assoc before.emits first.emits (run regions ys (overlay m k.writes)).emits
          ∙ (ap (λ (r : Ran). before.emits ++ (first.emits ++ r.emits)) then ∙ ap (λ (r : Ran). before.emits ++ r.emits) all)));
      left = two.left ∙ (ap (λ (r : Ran). r.memory) then ∙ ap (λ (r : Ran). r.memory) all);
      wrote = two.wrote ∙ (ap (λ w. w || (run regions ys (overlay m k.writes)).wrote) one.wrote ∙ (or-assoc none first.wrote (run regions ys (overlay m k.writes)).wrote
          ∙ (ap (λ (r : Ran). none || (first.wrote || r.wrote)) then ∙ ap (λ (r : Ran). none || r.wrote) all)));
    }

-- one operation more
pub gave-more : (good : List ℕ → Type 0) (words : ℕ) (regions : List Region) (xs : List Op) (op : Op) (l : Log) (before : Output) (k : Log) (now : Output) (j : Log) (after : Output)
    → GaveOver good words (run regions xs) l before k now → GaveOver good words (ran_one regions op) k now j after → GaveOver good words (run regions (xs ++ op ∷ [])) l before j after
gave-more good words regions xs op l before k now j after first more = λ m fine len ex.
    let one = more m fine len ex in
    gave-append regions xs (op ∷ []) m l before k now j after (first m fine len one.explained) one

-- the same memories explain a log
pub same-explained : (good now : List ℕ → Type 0) (words then : ℕ) (l : Log) → SameMemories good now → then ≡ words → IsExplained now then l → IsExplained good words l
same-explained good now words then l same is h = (h.0, (same h.0).1 h.1, h.2 ∙ is, h.3, h.4)

pub if-err : {A E : Type 0} (P : Type 0) (r : Result A E) → P → IfErr r (λ e. P)
if-err P (Ok x) h = tt
if-err P (Err e) h = h
