-- Every list of TML's steps.
use Rattle.std.specs.Prelude.{ℕ}
use Rattle.stm_model.specs.declared.config.Config.{Config}
use Rattle.rule_base.specs.declared.views.View.{View}
use Rattle.rule_base.specs.StepKinds.{StepKind}
use Rattle.rule_seq.specs.TmlSteps.{tml_begin, CanTmlBegin, tml_load, CanTmlLoad, tml_again, CanTmlAgain, tml_write, CanTmlWrite, tml_store, CanTmlStore, tml_commit, CanTmlCommit}

-- a step by its kind and its numbers
pub data TmlStep : Type 0 where
  tml_begins : TmlStep
  tml_loads : (a : ℕ) → TmlStep
  tml_agains : TmlStep
  tml_writes : (start : ℕ) → TmlStep
  tml_stores : (a x : ℕ) → TmlStep
  tml_commits : (t : ℕ) → TmlStep

abbrev pub tml_kind : ℕ → TmlStep → StepKind
tml_kind n tml_begins = tml_begin
tml_kind n (tml_loads a) = tml_load a
tml_kind n tml_agains = tml_again
tml_kind n (tml_writes start) = tml_write start
tml_kind n (tml_stores a x) = tml_store a x
tml_kind n (tml_commits t) = tml_commit n t

module _ (good : (ℕ → ℕ) → Type 0) (c : Config) where
  abbrev pub TmlMayAs : TmlStep → View → Type 0
  TmlMayAs tml_begins v = CanTmlBegin v
  TmlMayAs (tml_loads a) v = CanTmlLoad c.words a v
  TmlMayAs tml_agains v = CanTmlAgain v
  TmlMayAs (tml_writes start) v = CanTmlWrite start v
  TmlMayAs (tml_stores a x) v = CanTmlStore c.words a x v
  TmlMayAs (tml_commits t) v = CanTmlCommit good t v
