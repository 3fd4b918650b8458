use Rattle.work_worker.proofs.RiseCoverLaws.{turned-covers, turned-covers-alone, wound-covers, finished-covers, owes-all}
use Rattle.work_worker.proofs.laws.turns_cover.Goals as goal

pub returns : goal.returns
returns g c = record {
  covers = λ stm u said w each most s t much wide covers. turned-covers (g.K.MemRule.good c.args._rule.now) stm u said w s each most t much wide covers;
  alone = λ stm u said w each most s t one none much wide covers. turned-covers-alone (g.K.MemRule.good c.args._rule.now) stm u said w s each most t one none much wide covers;
  winding = λ stm u said w each most s t few wide covers. wound-covers (g.K.MemRule.good c.args._rule.now) stm u s each most few wide covers w said t;
  finishing = λ stm u said w each most s t fixed few wide covers. finished-covers (g.K.MemRule.good c.args._rule.now) stm u said w s each most t fixed few wide covers;
  items = λ stm w uncovered each most s counts few wide covers. owes-all (g.K.MemRule.good c.args._rule.now) stm w s uncovered each most counts few wide covers;
}
