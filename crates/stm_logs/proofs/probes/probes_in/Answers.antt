use Rattle.std.proofs.Common.{ℕ, ◌≡◌, ◌+◌, length, subst, rules, arith}
use Rattle.stm_logs.specs.Probing.{IsProbed}
use Rattle.stm_logs.proofs.BucketLemmas.{index-empty}
use Rattle.stm_logs.proofs.ProbingLaws.{probed}
use Rattle.stm_logs.proofs.probes.probes_in.Goals as goal

pub take_all-requires-clause-blank : goal.take_all-requires-clause-blank
take_all-requires-clause-blank c = index-empty 1 c.clear_marks.new.index (λ x l. omega (arith, c.clear_marks.ensures.marks x l))

pub returns-clause-probed : goal.returns-clause-probed
returns-clause-probed c =
    let size : length c.take_all.new.index ≡ c.args.buckets = search rules in
    subst (λ (m : ℕ). IsProbed m c.args.items.now c.args.a (c.look_up.result.distance + 1)) size
    (probed 1 c.args.items.now c.take_all.new.index c.args.a c.look_up.result c.take_all.ensures.indexed
    (omega (arith, size, c.requires.room)) c.look_up.ensures)
