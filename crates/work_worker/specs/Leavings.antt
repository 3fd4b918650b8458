-- How a worker leaves what it has open.
use Rattle.std.specs.Prelude.{◌≡◌, ◌≤◌, ◌⊎◌, ◌++◌, ℕ, true, false, None, List, [], ◌∷◌, length}
use Rattle.stm_model.specs.declared.config.Config.{Config}
use Rattle.work_script.specs.declared.op.Op.{Op}
use Rattle.work_script.specs.declared.report.Row.{Row}
use Rattle.work_script.specs.declared.workload.Item.{Item}
use Rattle.work_script.specs.declared.workload.Item.TheVariants.{Tx, Switch, Reserve}
use Rattle.work_script.specs.Reports.{scripts_of}
use Rattle.stm_rule.specs.declared.stm.Stm.{Stm}
use Rattle.stm_rule.specs.Callers.{IsOf, IsSameCaller}
use Rattle.stm_answers.specs.Answers.{CommitsAt}
use Rattle.stm_answers.specs.CallerState.{CallerState, Grows, IsIdle, caller_of, is_irrevocable, owed}
use Rattle.stm_tx.specs.Descs.{known}
use Rattle.work_trace.specs.declared.said.Phase.TheVariants.{Between, Inside}
use Rattle.work_trace.specs.declared.said.Said.{Said}
use Rattle.work_trace.specs.Places.{CallerProgress, clock_of, irrevocable}
use Rattle.work_trace.specs.Turns.{MayWind}
use Rattle.work_worker.specs.declared.worker.Worker.{Worker}
use Rattle.work_worker.specs.Workers.{place_of, IsSame, Sound, Turned, Works}

-- no attempt and no closing is open
abbrev pub HasNothingOpen : CallerProgress → Type 0
HasNothingOpen at = at.phase ≡ Between

-- nothing is open but an attempt that can't be cancelled
abbrev pub HasOnlyIrrevocableOpen : CallerProgress → Type 0
HasOnlyIrrevocableOpen at = (at.phase ≡ Between) ⊎ ((at.phase ≡ Inside) × (irrevocable at ≡ true))

module _ {K : Type 0} (good : List ℕ → Type 0) (stm : Stm K) where
  -- nothing is open that can be given up
  pub record NothingToGiveUp (v w : Worker K) : Type 0 where
    pub sound : Sound good stm w
    pub now : place_of w ≡ place_of v
    pub knows : known w.desc ≡ known v.desc
    pub same : IsSame false v w
    pub irrevocable_open : HasOnlyIrrevocableOpen (place_of w)

  -- what was open is given up, and this said of it
  pub record GaveUp (v : Worker K) (said : Said) (w : Worker K) : Type 0 where
    pub turned : Turned good stm MayWind v said w
    pub calm : clock_of said ≡ None
    pub nothing_open : HasNothingOpen (place_of w)

-- what the caller made and installed when its descriptor was left idle: an attempt that can be cancelled makes no
-- entry, and another at most the one of its log
pub record KeepsMade (good : List ℕ → Type 0) (c : Config) (n : ℕ) (v w : CallerState) : Type 0 where
  pub grows : Grows v w
  pub made : (w.made ≡ v.made) ⊎ ((v.running ≡ true) × (is_irrevocable v ≡ true) × ((time : ℕ) × CommitsAt good c n time v w))
  pub installs : w.installs ≡ v.installs

-- after the first items the first operations of the transaction that comes next
abbrev pub BeginsNext : List Item → List Item → List Item → Type 0
BeginsNext first [] did = ⊥
BeginsNext first (Tx caller script ∷ left) did = (ops rest : List Op) × (script ≡ ops ++ rest) × (did ≡ first ++ Tx caller ops ∷ [])
BeginsNext first (Switch caller alg ∷ left) did = ⊥
BeginsNext first (Reserve caller reads writes ∷ left) did = ⊥

-- of all items the first ones, after which these are left,
-- and maybe the first operations of the transaction that comes next
abbrev pub IsPart : List Item → List Item → List Item → Type 0
IsPart all left did = (first : List Item) × (all ≡ first ++ left) × ((did ≡ first) ⊎ BeginsNext first left did)

module _ {K : Type 0} (good : List ℕ → Type 0) (stm : Stm K) where
  -- what the caller has done: a part of its items, with a row for each transaction; an attempt that couldn't be
  -- cancelled, and so was committed, has that of the operations that it had done
  pub record DidPart (v w : Worker K) : Type 0 where
    pub items : List Item
    pub part : IsPart v.all.now v.items_left.now items
    pub calm : v.phase ≡ Between → v.all.now ≡ items ++ v.items_left.now
    pub rows : List Row
    -- those that it had, or one more
    pub behind : (v.all.now ≡ items ++ v.items_left.now) × (rows ≡ v.rows.items)
        ⊎ (v.phase ≡ Inside) × ((first : List Item) × (v.all.now ≡ first ++ v.items_left.now) × BeginsNext first v.items_left.now items)
        × ((row : Row) × (rows ≡ v.rows.items ++ row ∷ []))
    pub works : Works good stm.config.words v.regions.now items (caller_of v.desc.who.role) (known w.desc) rows
    pub whole : length rows ≡ length (scripts_of (caller_of v.desc.who.role) items)

  -- ended without a line: the descriptor is idle, and the clock rose by no more than was owed
  pub record MadeIdle (v w : Worker K) : Type 0 where
    pub own : IsOf w.desc stm
    pub idle : IsIdle (known w.desc)
    -- and so has no range of words out of the transactions
    pub plain : stm.config.fence ≡ false
    pub owes : (known w.desc).rises ≤ owed (known v.desc)
    pub keeps : KeepsMade good stm.config (caller_of v.desc.who.role) (known v.desc) (known w.desc)
    pub did : DidPart v w
    pub same : IsSameCaller v.desc w.desc
    pub rows : w.rows.items ≡ v.rows.items
    pub still : v.phase ≡ Between → w ≡ v
