-- How far a caller goes on after a schedule: what it may say, and how it stands before and after its turns.
use Rattle.work_trace.specs.declared.said.Said.{Said}
use Rattle.work_trace.specs.Places.{CallerProgress}
use Rattle.work_trace.specs.Turns.{MayWind, MayFinish, IsOver}
use Rattle.work_worker.specs.Leavings.{HasNothingOpen, HasOnlyIrrevocableOpen}
use Rattle.work_driver.specs.declared.finishing.Until.{Until}
use Rattle.work_driver.specs.declared.finishing.Until.TheVariants.{NothingOpen, NothingLeft}

abbrev pub may_until : Until → CallerProgress → Said → Type 0
may_until NothingOpen = MayWind
may_until NothingLeft = MayFinish

abbrev pub stands_until : Until → CallerProgress → Type 0
stands_until NothingOpen = HasNothingOpen
stands_until NothingLeft = IsOver

abbrev pub ready_until : Until → CallerProgress → Type 0
ready_until NothingOpen = HasOnlyIrrevocableOpen
ready_until NothingLeft = λ at. Unit {0}
