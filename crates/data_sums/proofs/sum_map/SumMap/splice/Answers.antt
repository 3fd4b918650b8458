use Rattle.data_effects.specs.EffectLaws.{turns-write, turns-then}
use Rattle.data_sums.specs.Sums.{tag_at, left_at, right_at, value_at, sum_at}
use Rattle.data_sums.proofs.sum_map.SumMap.splice.Goals as goal

pub returns-clause-turns : goal.returns-clause-turns
returns-clause-turns g c =
    let r = c.args.self.now in
    let i = c.args.cell in
    turns-then _ _ _ _ _ (turns-then _ _ _ _ _ (turns-then _ _ _ _ _ (turns-then _ _ _ _ _ (turns-then _ _ _ _ _
    (turns-write _ _ c.args.link c.args.word c.in_ok-write.ensures.value)
    (turns-write _ _ (tag_at r i) 0 c.in_ok-write-2.ensures.value))
    (turns-write _ _ (left_at r i) 0 c.in_ok-write-3.ensures.value))
    (turns-write _ _ (right_at r i) 0 c.in_ok-write-4.ensures.value))
    (turns-write _ _ (value_at r i) 0 c.in_ok-write-5.ensures.value))
    (turns-write _ _ (sum_at r i) 0 c.in_ok-write-6.ensures.value)
