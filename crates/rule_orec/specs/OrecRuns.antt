-- Every list of steps of OrecLazy and OrecEager.
use Rattle.std.specs.Prelude.{ℕ, ◌<◌, ◌≤◌, List, []}
use Rattle.rule_base.specs.declared.entries.Cell.{Cell}
use Rattle.stm_model.specs.declared.config.Config.{Config}
use Rattle.rule_base.specs.declared.views.View.{View}
use Rattle.rule_base.specs.Runs.{KeepsAlong}
use Rattle.rule_base.specs.StepKinds.{StepKind, world_after}
use Rattle.rule_base.specs.World.{World}
use Rattle.rule_orec.specs.OrecRule.{orec_projection, OrecWorld, stamp}
use Rattle.rule_base.specs.Ranks.{home_of}
use Rattle.rule_orec.specs.OrecSteps.{orec_begin, CanOrecBegin, orec_sample, CanOrecSample, orec_load, CanOrecLoad, orec_confirm, CanOrecConfirm, orec_clock, CanOrecClock, orec_clock_all, orec_pass, CanOrecPass, orec_last, CanOrecLast, HasOrec, orec_look, orec_limit, orec_lock, CanOrecLock, orec_commit, CanOrecCommit, orec_write_back, CanOrecWriteBack, orec_release, CanOrecTime, CanOrecOld, CanOrecUp, orec_own_load, CanOrecOwnLoad, orec_save, CanOrecSave, orec_place, CanOrecPlace, orec_restore, CanOrecRestore, orec_raise_clock, CanOrecRaiseClock}

-- a step by its kind and its numbers
pub data OrecStep : Type 0 where
  orec_begins : OrecStep
  orec_samples : (r : ℕ) (a : ℕ) → OrecStep
  orec_loads : (a : ℕ) → OrecStep
  orec_confirms : (r : ℕ) → OrecStep
  orec_clocks : (todo : List Cell) → OrecStep
  orec_clocks_all : OrecStep
  orec_passes : (r : ℕ) (b : ℕ) → OrecStep
  orec_lasts : (r : ℕ) (b : ℕ) → OrecStep
  orec_looks : (r : ℕ) → OrecStep
  orec_limits : OrecStep
  orec_locks : (r : ℕ) (version : ℕ) → OrecStep
  orec_commits : (start : ℕ) (writes : List Cell) (back : List Cell) → OrecStep
  orec_writes_back : (a : ℕ) (x : ℕ) → OrecStep
  orec_times : (r : ℕ) (version : ℕ) → OrecStep
  orec_olds : (r : ℕ) (version : ℕ) → OrecStep
  orec_ups : (r : ℕ) (version : ℕ) → OrecStep
  orec_own_loads : (a : ℕ) → OrecStep
  orec_saves : (a : ℕ) → OrecStep
  orec_places : (a : ℕ) (x : ℕ) → OrecStep
  orec_restores : (a : ℕ) (x : ℕ) → OrecStep
  orec_raises_clock : (least : ℕ) → OrecStep

abbrev pub orec_kind : ℕ → OrecStep → StepKind
orec_kind n orec_begins = orec_begin
orec_kind n (orec_samples r a) = orec_sample r a
orec_kind n (orec_loads a) = orec_load a
orec_kind n (orec_confirms r) = orec_confirm r
orec_kind n (orec_clocks todo) = orec_clock todo
orec_kind n orec_clocks_all = orec_clock_all
orec_kind n (orec_passes r b) = orec_pass r b
orec_kind n (orec_lasts r b) = orec_last r b
orec_kind n (orec_looks r) = orec_look r
orec_kind n orec_limits = orec_limit
orec_kind n (orec_locks r version) = orec_lock n r version
orec_kind n (orec_commits start writes back) = orec_commit n start writes back
orec_kind n (orec_writes_back a x) = orec_write_back a x
orec_kind n (orec_times r version) = orec_release r version
orec_kind n (orec_olds r version) = orec_release r version
orec_kind n (orec_ups r version) = orec_release r version
orec_kind n (orec_own_loads a) = orec_own_load a
orec_kind n (orec_saves a) = orec_save a
orec_kind n (orec_places a x) = orec_place a x
orec_kind n (orec_restores a x) = orec_restore a x
orec_kind n (orec_raises_clock least) = orec_raise_clock least

module _ (good : (ℕ → ℕ) → Type 0) (c : Config) where
  abbrev pub OrecMayAs : OrecStep → View → Type 0
  OrecMayAs orec_begins v = CanOrecBegin v
  OrecMayAs (orec_samples r a) v = CanOrecSample (home_of c) r a v
  OrecMayAs (orec_loads a) v = CanOrecLoad a v
  OrecMayAs (orec_confirms r) v = CanOrecConfirm (home_of c) c.words r v
  OrecMayAs (orec_clocks todo) v = CanOrecClock (home_of c) todo v
  OrecMayAs orec_clocks_all v = CanOrecClock (home_of c) [] v
  OrecMayAs (orec_passes r b) v = CanOrecPass (home_of c) r b v
  OrecMayAs (orec_lasts r b) v = CanOrecLast (home_of c) r b v
  OrecMayAs (orec_looks r) v = HasOrec v
  OrecMayAs orec_limits v = HasOrec v
  OrecMayAs (orec_locks r version) v = CanOrecLock version v
  OrecMayAs (orec_commits start writes back) v = CanOrecCommit (home_of c) good c.words start writes back v
  OrecMayAs (orec_writes_back a x) v = CanOrecWriteBack a x v
  OrecMayAs (orec_times r version) v = CanOrecTime (home_of c) r version v
  OrecMayAs (orec_olds r version) v = CanOrecOld (home_of c) r version v
  OrecMayAs (orec_ups r version) v = CanOrecUp (home_of c) r version v
  OrecMayAs (orec_own_loads a) v = CanOrecOwnLoad (home_of c) c.words a v
  OrecMayAs (orec_saves a) v = CanOrecSave (home_of c) a v
  OrecMayAs (orec_places a x) v = CanOrecPlace a v
  OrecMayAs (orec_restores a x) v = CanOrecRestore a x v
  OrecMayAs (orec_raises_clock least) v = CanOrecRaiseClock least v

  -- a caller of this memory may take the step where its view allows it
  abbrev pub OrecMay : ℕ → OrecStep → View → Type 0
  OrecMay n s v = (n < c.callers) × OrecMayAs s v

  -- whatever steps of the record algorithms any callers take, each allowed where it comes, the rule holds after each
  abbrev pub OrecKeepsAlong : Type 0
  OrecKeepsAlong = KeepsAlong orec_kind OrecMay (OrecWorld good c)

  -- and at none of them does the stamp of a record fall
  abbrev pub StampsGrow : Type 0
  StampsGrow = (n : ℕ) (s : OrecStep) (w : World) → OrecWorld good c w → OrecMay n s (w.views n) → (r : ℕ) → stamp (orec_projection w) r ≤ stamp (orec_projection (world_after (orec_kind n s) n w)) r
