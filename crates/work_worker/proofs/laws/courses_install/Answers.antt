use Rattle.work_worker.proofs.InstallLaws.{courses-install}
use Rattle.work_worker.proofs.laws.courses_install.Goals as goal

pub returns : goal.returns
returns c = courses-install
