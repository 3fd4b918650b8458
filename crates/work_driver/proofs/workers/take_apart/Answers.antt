use Rattle.std.proofs.Common.{List, length, ap, ◌∙◌, ◌++◌, arith, subst}
use Rattle.std.specs.Prelude.{IsPermutation}
use Rattle.work_script.specs.declared.report.Row.{Row}
use Rattle.work_driver.specs.Gatherings.{joined}
use Rattle.work_driver.proofs.workers.take_apart.Goals as goal

pub gather-requires : goal.gather-requires
gather-requires g c =
    let all = ap length (ap joined c.as_mut_slice.ensures.value ∙ c.part_from_rows.ensures.rows) in
    let none = c.requires.empty.5 in
    let room = c.requires.rows in
    omega (arith, all, none, room)

pub returns-clause-rows : goal.returns-clause-rows
returns-clause-rows g c =
    let all = ap joined c.as_mut_slice.ensures.value ∙ c.part_from_rows.ensures.rows in
    let from = ap (λ (l : List Row). l ++ joined c.as_mut_slice.result.now) c.requires.empty.4 ∙ all in
    subst (λ (l : List Row). IsPermutation l c.gather.new.to.items) from c.gather.ensures
