-- Each wish has its moment in the hall's history.
use Rattle.std.proofs.Common.{ℕ, zero, suc, ◌≡◌, ◌≤◌, ◌+◌, List, [], ◌∷◌, Bool, true, false, Option, Some, None, IfSome, IfNone, length, refl, sym, ap, ◌∙◌, arith, subst}
use Rattle.std.specs.Prelude.{if◌then◌else◌, not, ◌==◌}
use Rattle.std.proofs.lemmas.Bool.Decides.{nat_tests}
use Rattle.std.proofs.lemmas.List.{length-replicate}
use Rattle.nekchhaul.specs.Config.{Config}
use Rattle.nekchhaul.specs.Histories.{Entry, made_by}
use Rattle.nekchhaul.specs.HistoryLaws.{length-memory_at}
use Rattle.nekchhaul.specs.Logs.{Log}
use Rattle.nekchhaul.specs.Memories.{is_empty}
use Rattle.nekchhaul.specs.Handles.{BeginsHistory}
use Rattle.nekchhaul.specs.Insert.{Insert}
use Rattle.nekchhaul.specs.Insert.TheVariants.{Added, Present}
use Rattle.nekchhaul.specs.Effects.{Does, DoesOver, unchanged}
use Rattle.nekchhaul.specs.Keys.{has, free_from}
use Rattle.nekchhaul.specs.Trees.{IsTree, keys, tag, inserted_by, inserted_in}
use Rattle.nekchhaul.specs.CallerState.{CallerState, no_log}
use Rattle.nekchhaul.specs.Attempts.{TookEffect}
use Rattle.nekchhaul.specs.Extends.{Extends}
use Rattle.nekchhaul.specs.Moments.{Happened}
use Rattle.nekchhaul.specs.MomentLaws.{happened}
use Rattle.example_seats.specs.declared.hall.Seats.{Seats}
use Rattle.example_seats.specs.declared.sale.TheConstants.{CONFIG, HALL}
use Rattle.example_seats.specs.Sales.{Answered, free_hall, hall_at, seats_taken}

-- an insertion that adds writes
wrote-by : (key : ℕ) (m : List ℕ) (b : Bool) (o : Option ℕ) → (if b then unchanged Present m else inserted_by HALL key m o).reply ≡ Added → (if b then unchanged Present m else inserted_by HALL key m o).wrote ≡ true
wrote-by key m true o e = absurd cc
wrote-by key m false None e = absurd cc
wrote-by key m false (Some cell) e = refl

wrote-added : (key : ℕ) (m : List ℕ) → (inserted_in HALL key m).reply ≡ Added → (inserted_in HALL key m).wrote ≡ true
wrote-added key m e = wrote-by key m (has key (keys HALL m)) (free_from (tag HALL m) 0 HALL.cells) e

-- what a wish's log tells
abbrev pub Tells : ℕ → Insert → Log → Type 0
Tells seat came log = DoesOver (IsTree HALL) 31 (inserted_in HALL seat) no_log came log

answered : (when : ℕ → Type 0) (seat : ℕ) (u w : CallerState) (history : List Entry) (came : Insert)
    → ((at : ℕ) → u.front ≤ at → at ≤ w.front → when at) → Happened (IsTree HALL) CONFIG (Tells seat came) u w history
    → Answered when history seat came
answered when seat u w history came due h =
    let m : List ℕ = hall_at h.at history in
    let long = length-memory_at h.at history free_hall ∙ length-replicate {A = ℕ} 31 0 in
    let does : Does (inserted_in HALL seat) m no_log came h.log = h.told m h.kept long h.read in
    record {
      at = h.at;
      due = due h.at h.later h.sooner;
      told = does.replied;
      taken = λ added.
          let wrote : not (is_empty h.log.writes) ≡ true = does.wrote ∙ wrote-added seat m (sym does.replied ∙ added) in
          (h.wrote wrote).1 ∙ does.left;
    }

-- a wish that took effect has its moment
moment : (config : Config) (rule : Seats) (n seat : ℕ) (came : Insert) (u w k : CallerState) (history : List Entry) → config ≡ CONFIG → rule ≡ record { taken = HALL }
    → TookEffect (IsTree rule.taken) config n
    (λ log. DoesOver (IsTree rule.taken) config.words (inserted_in rule.taken seat) no_log came log) u.front u w → Extends w k
    → BeginsHistory k.seen k.front history → Happened (IsTree HALL) CONFIG (Tells seat came) u w history
moment config rule n seat came u w k history of under took grows begun =
    let here = subst (λ (r : Seats). TookEffect (IsTree r.taken) config n (λ log. DoesOver (IsTree r.taken) config.words (inserted_in r.taken seat) no_log came log) u.front u w) under took in
    let there = subst (λ (c : Config). TookEffect (IsTree HALL) c n (λ log. DoesOver (IsTree HALL) c.words (inserted_in HALL seat) no_log came log) u.front u w) of here in
    happened (IsTree HALL) CONFIG n (Tells seat came) u w history k there grows begun

-- whether an insertion wrote is whether it took the seat
takes-by : (key : ℕ) (m : List ℕ) (b : Bool) (o : Option ℕ) (e : Bool)
    → not e ≡ (if b then unchanged Present m else inserted_by HALL key m o).wrote
    → (if e then 0 else 1) ≡ seats_taken (Some (if b then unchanged Present m else inserted_by HALL key m o).reply)
takes-by key m true o true w = refl
takes-by key m true o false w = absurd cc
takes-by key m false None true w = refl
takes-by key m false None false w = absurd cc
takes-by key m false (Some cell) true w = absurd cc
takes-by key m false (Some cell) false w = refl

counted : (seat : ℕ) (u w : CallerState) (history : List Entry) (came : Insert) → Happened (IsTree HALL) CONFIG (Tells seat came) u w history → length w.made ≡ length u.made + seats_taken (Some came)
counted seat u w history came h =
    let m : List ℕ = hall_at h.at history in
    let long = length-memory_at h.at history free_hall ∙ length-replicate {A = ℕ} 31 0 in
    let does : Does (inserted_in HALL seat) m no_log came h.log = h.told m h.kept long h.read in
    let takes = takes-by seat m (has seat (keys HALL m)) (free_from (tag HALL m) 0 HALL.cells) (is_empty h.log.writes) does.wrote in
    h.made ∙ ap (λ k. length u.made + k) (takes ∙ ap (λ r. seats_taken (Some r)) (sym does.replied))

-- what came of a wish, and how many entries its caller made by it
pub wished : (when : ℕ → Type 0) (config : Config) (rule : Seats) (n seat : ℕ) (o : Option Insert) (u w k : CallerState)
    (history : List Entry) → config ≡ CONFIG → rule ≡ record { taken = HALL } → ((at : ℕ) → u.front ≤ at → at ≤ w.front → when at)
    → IfSome o (λ came.
    TookEffect (IsTree rule.taken) config n (λ log. DoesOver (IsTree rule.taken) config.words (inserted_in rule.taken seat) no_log came log)
    u.front u w) → IfNone o (w.made ≡ u.made) → Extends w k → BeginsHistory k.seen k.front history
    → IfSome o (Answered when history seat) × (length w.made ≡ length u.made + seats_taken o)
wished when config rule n seat None u w k history of under due took none grows begun = (tt, ap length none ∙ (omega arith))
wished when config rule n seat (Some came) u w k history of under due took none grows begun =
    let h = moment config rule n seat came u w k history of under took grows begun in
    (answered when seat u w history came due h, counted seat u w history came h)

equal : (a : ℕ) → a == a ≡ true
equal a = grind (arith, nat_tests)

none-behind : (e : Entry) (es : List Entry) (n : ℕ) (b : Bool) → (if b then e ∷ made_by n es else made_by n es) ≡ [] → made_by n es ≡ []
none-behind e es n true is = absurd cc
none-behind e es n false is = is

split-by : (e : Entry) (es : List Entry) (k : ℕ) → e.caller ≡ k → ((n : ℕ) → 2 ≤ n → made_by n (e ∷ es) ≡ [])
    → length es ≡ length (made_by 0 es) + length (made_by 1 es)
    → length (e ∷ es) ≡ length (made_by 0 (e ∷ es)) + length (made_by 1 (e ∷ es))
split-by e es zero is none later = rw is (omega (arith, later))
split-by e es (suc zero) is none later = rw is (omega (arith, later))
split-by e es (suc (suc k)) is none later =
    let all = none (suc (suc k)) (omega arith) in
    let yes : e.caller == suc (suc k) ≡ true = ap (λ n. n == suc (suc k)) is ∙ equal (suc (suc k)) in
    let some : e ∷ made_by (suc (suc k)) es ≡ [] = ap (λ b. if b then e ∷ made_by (suc (suc k)) es else made_by (suc (suc k)) es) (sym yes) ∙ all in
    absurd cc

-- two callers made all entries
pub of-two : (es : List Entry) → ((n : ℕ) → 2 ≤ n → made_by n es ≡ []) → length es ≡ length (made_by 0 es) + length (made_by 1 es)
of-two [] none = refl
of-two (e ∷ es) none = split-by e es e.caller refl none (of-two es (λ n le. none-behind e es n (e.caller == n) (none n le)))
