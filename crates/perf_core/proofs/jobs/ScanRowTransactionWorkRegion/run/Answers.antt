use Rattle.std.proofs.Common.{rules, arith, sym, subst}
use Rattle.data_effects.specs.Effects.{DoesOver}
use Rattle.data_effects.specs.FreshLaws.{nothing}
use Rattle.tx_transaction.specs.WordLaws.{read-then, does-write}
use Rattle.data_regions.specs.declared.region.Region.{Region}
use Rattle.data_regions.specs.Regions.{WellFormed}
use Rattle.perf_core.specs.Jobs.{IsScanned, scanned_in}
use Rattle.perf_core.proofs.jobs.ScanRowTransactionWorkRegion.run.Goals as goal

pub returns-in_err-write_words-in-Counter-clause-keeps : goal.returns-in_err-write_words-in-Counter-clause-keeps
returns-in_err-write_words-in-Counter-clause-keeps g c = search (rules, g.met.A.Access.keeps_trans)

pub returns-in_ok-write_words-in-Counter-clause-keeps : goal.returns-in_ok-write_words-in-Counter-clause-keeps
returns-in_ok-write_words-in-Counter-clause-keeps g c = search (rules, g.met.A.Access.keeps_trans)

pub returns-in_ok-write_words-in-Counter-clause-postcondition : goal.returns-in_ok-write_words-in-Counter-clause-postcondition
returns-in_ok-write_words-in-Counter-clause-postcondition g c =
    let job = c.args.self.now in
    let region = c.args.work_region.now.region in
    let words = g.A.Access.words c.args.memory.now in
    let sum = c.in_ok-sum-in-Counter.sum in
    let left = g.A.Access.log c.write_words.new.memory in
    let found = read-then c.in_ok-sum-in-Counter.ensures.found c.in_ok-sum-in-Counter.ensures.frame c.in_ok-found-in-Counter.ensures.found in
    let does : DoesOver (WellFormed region) words (scanned_in job) nothing sum left =
    does-write c.requires.good c.requires.fresh found c.in_ok-write_words-in-Counter.ensures.wrote
    (λ m s ex. grind (arith, ex.0, ex.1.0)) in
    let counts = subst (λ (r : Region). DoesOver (WellFormed r) words (scanned_in job) nothing sum left) c.in-Counter.is does in
    subst (λ (r : Region). IsScanned r job words sum left) (sym c.in-Counter.is) counts
