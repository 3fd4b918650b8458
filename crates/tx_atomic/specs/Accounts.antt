-- What a caller keeps of its attempts: what was counted of them, and what its observer was told; and how long its logs
-- may become.
use Rattle.std.specs.Prelude.{ℕ, zero, suc, Bool, true, false, Option, Some, None}
use Rattle.tx_atomic.specs.declared.pace.Pacing.{Pacing}
use Rattle.tx_atomic.specs.declared.tally.Ended.{Ended}
use Rattle.tx_atomic.specs.declared.tally.Tally.{Tally}
use Rattle.tx_atomic.specs.Tallies.{noted, with_commit, with_promotion}

pub record Account (H : Type 0) : Type 0 where
  pub tally : Tally
  -- what the observer knows of what it was told
  pub heard : H
  -- up to which length they are lengthened, 0 where they aren't
  pub most : ℕ

abbrev pub account : {O H : Type 0} → (O → H) → Pacing O → Account H
account heard p = record { tally = p.tally; heard = heard p.observer; most = p.growth.most }

module _ {H : Type 0} where
  -- an attempt that committed was counted, or one that ended so
  abbrev pub ended_in : Option Ended → Account H → Account H
  ended_in None a = record a { tally = with_commit a.tally }
  ended_in (Some e) a = record a { tally = noted e a.tally }

  -- an attempt was made irrevocable, or not
  abbrev pub promoted_in : Bool → Account H → Account H
  promoted_in true a = record a { tally = with_promotion a.tally }
  promoted_in false a = a

module _ {H : Type 0} (hears : Ended → Option ℕ → H → H) where
  -- the observer was told why an attempt ended, or a call was refused, and at which address; nothing where it committed
  abbrev pub told : Option Ended → Option ℕ → Account H → Account H
  told None at a = a
  told (Some e) at a = record a { heard = hears e at a.heard }

  -- a call was refused after which the attempt goes on: that is told, and counted
  abbrev pub met : Ended → Account H → Account H
  met e a = ended_in (Some e) (told (Some e) None a)

  abbrev pub met_times : ℕ → Ended → Account H → Account H
  met_times zero e a = a
  met_times (suc k) e a = met e (met_times k e a)
