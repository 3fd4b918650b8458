use Rattle.stm_tx.specs.Descs.{known}
use Rattle.stm_answers.specs.CallerStateLaws.{carries-refl}
use Rattle.tx_checked.proofs.alone.close.Goals as goal

pub returns-then-closing-clause-grew : goal.returns-then-closing-clause-grew
returns-then-closing-clause-grew c = (carries-refl (known c.args.desc.now)).grows
