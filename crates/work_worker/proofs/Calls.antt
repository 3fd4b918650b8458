-- What a row takes from the answer that ended its attempt.
use Rattle.std.proofs.Common.{ℕ, ◌≡◌, ◌<◌, ◌≤◌, Bool, true, false, List, [], ◌∷◌, ◌++◌, refl, arith}
use Rattle.std.specs.Prelude.{not, length}
use Rattle.stm_model.specs.Memories.{Explains, is_empty}
use Rattle.stm_model.specs.Histories.{Entry, memory_at}
use Rattle.stm_model.specs.declared.config.Config.{Config}
use Rattle.work_script.specs.GrowthLaws.{Grew}
use Rattle.work_script.specs.Reports.{zeros}
use Rattle.stm_answers.specs.Answers as answers
use Rattle.stm_answers.specs.CallerState.{CallerState, Grows, wrote}

pub grew : (v w : CallerState) → Grows v w → Grew v.seen v.front w.seen w.front
grew v w g = record { later = g.later; is = g.is; ascending = g.ascending; up_to = g.up_to; front_rose = g.front_rose }

is-some : (b : Bool) → not b ≡ true → b ≡ false
is-some true h = absurd cc
is-some false h = refl

is-none : (b : Bool) → not b ≡ false → b ≡ true
is-none true h = refl
is-none false h = absurd cc

pub record CommitsAt (time : ℕ) (v w : CallerState) : Type 0 where
  pub grows : Grew v.seen v.front w.seen w.front
  pub entry : Entry
  pub made : w.made ≡ v.made ++ entry ∷ []
  pub timed : entry.time ≡ time
  pub reads : entry.reads ≡ v.log.reads
  pub writes : entry.writes ≡ v.log.writes
  pub later : v.start < time
  pub front : time ≤ w.front
  pub wrote : is_empty v.log.writes ≡ false

pub commits : (good : List ℕ → Type 0) (c : Config) (n time : ℕ) (v w : CallerState) → answers.CommitsAt good c n time v w → CommitsAt time v w
commits good c n time v w h =
    record {
      grows = grew v w h.ends.grows;
      entry = answers.entry time n (length v.made) v.log;
      made = h.made;
      timed = refl;
      reads = refl;
      writes = refl;
      later = h.later;
      front = (let e = h.front in omega arith);
      wrote = is-some (is_empty v.log.writes) h.wrote;
    }

-- the attempt ended at its start, without an entry
pub record QuitsAt (good : List ℕ → Type 0) (c : Config) (time : ℕ) (v w : CallerState) : Type 0 where
  pub grows : Grew v.seen v.front w.seen w.front
  pub made : w.made ≡ v.made
  pub start : time ≡ v.start
  pub front : time ≤ w.front
  pub kept : good (memory_at time w.seen (zeros c.words))
  pub explained : Explains (memory_at time w.seen (zeros c.words)) v.log.reads

pub quits : (good : List ℕ → Type 0) (c : Config) (n time : ℕ) (v w : CallerState) → answers.EndsAt good c n time v w → QuitsAt good c time v w
quits good c n time v w h = record { grows = grew v w h.ends.grows; made = h.made; start = h.is_start; front = h.seen; kept = h.kept; explained = h.sees }

pub nothing : (v : CallerState) → wrote v ≡ false → is_empty v.log.writes ≡ true
nothing v h = is-none (is_empty v.log.writes) h
