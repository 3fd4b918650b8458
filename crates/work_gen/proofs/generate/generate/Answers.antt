use Rattle.std.proofs.Common.{◌≡◌, [], sym, subst, ◌∙◌}
use Rattle.work_script.specs.declared.workload.Workload.{Workload}
use Rattle.work_text.specs.Parsed.{IsParsed}
use Rattle.work_text.specs.declared.parse.Mode.TheVariants.{Run}
use Rattle.work_gen.specs.Generated.{generated, header_for, items_for}
use Rattle.work_gen.proofs.ParsedLaws.{generated-is_parsed}
use Rattle.work_gen.proofs.generate.generate.Goals as goal

pub returns-clause-is_parsed : goal.returns-clause-is_parsed
returns-clause-is_parsed c =
    let a = c.args in
    let header : header_for a.callers ≡ c.in_ok-header_for.field-0 = sym c.in_ok-header_for.ensures in
    let items : items_for a.transactions a.callers a.seed ≡ c.new.result = sym (c.new.ensures ∙ c.in_ok-items.ensures) in
    let schedule : [] ≡ c.new-3.result = sym (c.new-3.ensures ∙ c.new-2.ensures.items) in
    let is : generated a.transactions a.callers a.seed ≡ record { header = c.in_ok-header_for.field-0; items = c.new.result; schedule = c.new-3.result } =
    λ i. record { header = header i; items = items i; schedule = schedule i } in
    subst (λ (w : Workload). IsParsed Run w) is (generated-is_parsed a.transactions a.callers a.seed c.requires.transactions c.requires.callers.0 c.requires.callers.1)
