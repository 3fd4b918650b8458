-- Each transaction that took effect has its moment in the one history.
use Rattle.std.proofs.Common.{ℕ, suc, ◌≡◌, ◌<◌, ◌≤◌, ◌+◌, ◌-◌, List, [], ◌∷◌, ◌++◌, true, false, refl, length, length-append, get_or, sym, ap, ◌∙◌, arith, subst, append_assoc, inl, inr}
use Rattle.std.specs.Prelude.{◌⊎◌, Bool, if◌then◌else◌, not}
use Rattle.std.proofs.Math.Seq.{get_or-append_seam}
use Rattle.stm_model.specs.declared.config.Config.{Config}
use Rattle.stm_model.specs.Histories.{Entry, memory_at}
use Rattle.stm_model.specs.HistoryLaws.{memory_at-append, memory_at-early, memory_at-entry}
use Rattle.stm_model.specs.Logs.{Log}
use Rattle.stm_model.specs.Memories.{overlay, Explains, is_empty}
use Rattle.stm_rule.specs.Callers.{BeginsHistory}
use Rattle.stm_answers.specs.declared.answers.Commit.TheVariants.{Committed, ReadOnly}
use Rattle.stm_answers.specs.Answers.{Commits, CommitsAt, EndsAt, entry}
use Rattle.stm_answers.specs.CallerState.{CallerState, wrote, zeros}
use Rattle.stm_answers.specs.CallerStateLaws.{ascending-append}
use Rattle.tx_atomic.specs.Attempts.{TookEffect}
use Rattle.tx_atomic.specs.Extends.{Extends}
use Rattle.tx_atomic.specs.Moments.{Happened}

-- what was seen before begins the history too
pub begun-before : (w k : CallerState) (history : List Entry) → Extends w k → BeginsHistory k.seen k.front history → BeginsHistory w.seen w.front history
begun-before w k history grows begun = (
  grows.later ++ begun.0,
  begun.1 ∙ (ap (λ l. l ++ begun.0) grows.is ∙ append_assoc w.seen grows.later begun.0),
  ascending-append w.front k.front grows.later begun.0 grows.ascending grows.up_to grows.front_rose begun.2,
)

-- up to the front the memory is that after what was seen
pub same-memory : (s front : ℕ) (seen history : List Entry) (m : List ℕ) → BeginsHistory seen front history → s ≤ front → memory_at s history m ≡ memory_at s seen m
same-memory s front seen history m begun le =
    ap (λ es. memory_at s es m) begun.1 ∙ (memory_at-append s seen begun.0 m ∙ memory_at-early s front begun.0 (memory_at s seen m) le begun.2)

not-empty : (b : Bool) → not b ≡ true → b ≡ false
not-empty true e = absurd cc
not-empty false e = refl

is-empty : (b : Bool) → not b ≡ false → b ≡ true
is-empty true e = refl
is-empty false e = absurd cc

module _ (good : List ℕ → Type 0) (c : Config) (n : ℕ) (tells : Log → Type 0) (u w : CallerState) (history : List Entry) where
  abbrev zero_words : List ℕ
  zero_words = zeros c.words

  committed : (time : ℕ) (v : CallerState) → tells v.log → u.front ≤ v.start → v.made ≡ u.made → BeginsHistory w.seen w.front history → CommitsAt good c n time v w → Happened good c tells u w history
  committed time v told later made begun h =
      let e = entry time n (length v.made) v.log in
      let k = length h.before in
      let es = w.seen in
      let here : get_or es k e ≡ e = ap (λ l. get_or l k e) h.seen ∙ get_or-append_seam h.before e [] e in
      let many = ap length h.seen ∙ length-append h.before (e ∷ []) in
      let lt : k < length es = omega (arith, many) in
      let front : time ≤ w.front = omega (arith, h.front) in
      let past : time - 1 ≤ w.front = omega (arith, front) in
      let positive = h.later in
      let next : suc (time - 1) ≡ time = omega (arith, positive) in
      let held : memory_at (time - 1) history zero_words ≡ memory_at (time - 1) es zero_words = same-memory (time - 1) w.front es history zero_words begun past in
      let after : memory_at time history zero_words ≡ memory_at time es zero_words = same-memory time w.front es history zero_words begun front in
      let step : memory_at time es zero_words ≡ overlay (memory_at (time - 1) es zero_words) v.log.writes = subst
      (λ (d : Entry). memory_at d.time es zero_words ≡ overlay (memory_at (d.time - 1) es zero_words) d.writes) here
      (memory_at-entry c.clock es zero_words k e h.legal.ascending lt) in
      let reads : Explains (memory_at (time - 1) es zero_words) v.log.reads = subst (λ (d : Entry). Explains (memory_at (d.time - 1) es zero_words) d.reads) here (h.legal.reads k e lt) in
      let some : is_empty v.log.writes ≡ false = not-empty (is_empty v.log.writes) h.wrote in
      let longer : length w.made ≡ length u.made + 1 = ap length h.made ∙ (length-append v.made (e ∷ []) ∙ ap (λ l. length l + 1) made) in
      record {
        log = v.log;
        told = told;
        at = time - 1;
        later = omega (arith, later, positive);
        sooner = past;
        kept = subst good (sym held) (h.legal.good_always (time - 1));
        read = subst (λ m. Explains m v.log.reads) (sym held) reads;
        wrote = λ _. (omega (arith, next, front), ap (λ s. memory_at s history zero_words) next ∙ (after ∙ (step ∙ ap (λ m. overlay m v.log.writes) (sym held))));
        made = longer ∙ ap (λ b. length u.made + (if b then 0 else 1)) (sym some);
      }

  ended : (time : ℕ) (v : CallerState) → tells v.log → u.front ≤ v.start → v.made ≡ u.made → BeginsHistory w.seen w.front history → EndsAt good c n time v w → wrote v ≡ false → Happened good c tells u w history
  ended time v told later made begun h none =
      let held : memory_at time history zero_words ≡ memory_at time w.seen zero_words = same-memory time w.front w.seen history zero_words begun h.seen in
      let empty : is_empty v.log.writes ≡ true = is-empty (is_empty v.log.writes) none in
      let same : length w.made ≡ length u.made + 0 = ap length (h.made ∙ made) ∙ (omega arith) in
      record {
        log = v.log;
        told = told;
        at = time;
        later = (let is = h.is_start in omega (arith, later, is));
        sooner = h.seen;
        kept = subst good (sym held) h.kept;
        read = subst (λ m. Explains m v.log.reads) (sym held) h.sees;
        wrote = λ some. absurd (let no : true ≡ false = sym some ∙ none in cc);
        made = same ∙ ap (λ b. length u.made + (if b then 0 else 1)) (sym empty);
      }

  pub happened : (k : CallerState) → TookEffect good c n tells u.front u w → Extends w k → BeginsHistory k.seen k.front history → Happened good c tells u w history
  happened k t grows begun = by t.commits where
    start : BeginsHistory w.seen w.front history
    start = begun-before w k history grows begun

    by : Commits good c n (Committed t.time) t.before w ⊎ Commits good c n (ReadOnly t.time) t.before w → Happened good c tells u w history
    by (inl h) = committed t.time t.before t.told t.later t.made start h
    by (inr h) = ended t.time t.before t.told t.later t.made start h.0 h.2
