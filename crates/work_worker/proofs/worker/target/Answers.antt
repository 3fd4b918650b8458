use Rattle.std.proofs.Common.{refl, subst, sym}
use Rattle.work_trace.specs.Turns.{MustSwitch, MustSwitchTo}
use Rattle.work_worker.proofs.worker.target.Goals as goal

pub returns-in-Some : goal.returns-in-Some
returns-in-Some c = subst (λ chosen. MustSwitchTo c.in-Some.alg chosen c.args.items.now) (sym c.in-Some.is) refl

pub next_target-requires : goal.next_target-requires
next_target-requires c = record { here = subst (λ chosen. MustSwitch chosen c.args.items.now) c.in-None.is c.requires.here }

pub returns-in-None : goal.returns-in-None
returns-in-None c = subst (λ chosen. MustSwitchTo c.next_target.result chosen c.args.items.now) (sym c.in-None.is) c.next_target.ensures
