use Rattle.std.proofs.Common.{ℕ, ◌%◌, ◌^◌, List, ap, ◌∙◌}
use Rattle.data_effects.specs.Keys.{how_many}
use Rattle.work_gen.specs.Summaries.{committed, sum_in, is_used}
use Rattle.work_script.specs.declared.report.Row.{Row}
use Rattle.work_gen.proofs.summary.Summary.of.Goals as goal

pub returns : goal.returns
returns c =
    let commits = c.committed.ensures ∙ ap (λ (rs : List Row). committed rs) c.as_slice.ensures in
    let accounts = c.sum.ensures ∙ ap (λ (ps : List (ℕ × ℕ)). sum_in ps 0 64 % 2 ^ 64) c.as_slice-memory.ensures in
    let counter = c.sum-2.ensures ∙ ap (λ (ps : List (ℕ × ℕ)). sum_in ps 64 4 % 2 ^ 64) c.as_slice-memory.ensures in
    let list = c.used_cells.ensures ∙ ap (λ (ps : List (ℕ × ℕ)). how_many (is_used ps) 32) c.as_slice-memory.ensures in
    λ i. record { commits = commits i; accounts = accounts i; counter = counter i; list = list i }
