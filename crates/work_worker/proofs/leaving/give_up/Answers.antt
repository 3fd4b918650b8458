use Rattle.std.proofs.Common.{refl, inl}
use Rattle.work_worker.proofs.TurnLaws.{self-same}
use Rattle.work_worker.proofs.leaving.give_up.Goals as goal

pub returns-in-Between : goal.returns-in-Between
returns-in-Between g c = record { sound = c.requires; now = refl; knows = refl; same = self-same c.args.w.now; irrevocable_open = inl c.in-Between.is }
