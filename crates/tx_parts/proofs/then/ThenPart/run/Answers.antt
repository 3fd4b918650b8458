use Rattle.std.proofs.Common.{ℕ, ◌≡◌, subst, inl, inr, rules}
use Rattle.std.specs.Prelude.{Some, None}
use Rattle.data_effects.specs.Effects.{Under}
use Rattle.tx_parts.proofs.then.ThenPart.run.Goals as goal

pub returns-in_default-clause-postcondition : goal.returns-in_default-clause-postcondition
returns-in_default-clause-postcondition g c =
    let log = g.N.Access.log in
    let z0 = c.args.memory.now in
    let gave : g.P.Part.postcondition c.args.self.now.first c.args.rule.now (g.N.Access.words z0) None (log z0) (log c.run.new.memory) = search (rules, c.in_ok-first.ensures.postcondition) in
    inl gave

pub returns-in_default-2-clause-postcondition : goal.returns-in_default-2-clause-postcondition
returns-in_default-2-clause-postcondition g c =
    let log = g.N.Access.log in
    let z0 = c.args.memory.now in
    let z1 = c.run.new.memory in
    let z2 = c.run-2.new.memory in
    let one = c.in_ok-first.ensures in
    let two = c.in_ok-second.ensures in
    let did : g.P.Part.postcondition c.args.self.now.first c.args.rule.now (g.N.Access.words z0) (Some c.in-Some.first) (log z0) (log z1) = search (rules, one.postcondition) in
    let gave : g.Q.Part.postcondition c.args.self.now.second c.args.rule.now (g.N.Access.words z1) None (log z1) (log z2) = search (rules, two.postcondition) in
    inr (
      c.in-Some.first,
      log z1,
      did,
      g.met.N.Nesting.keeps_reads z0 z1 one.keeps one.goes,
      g.met.N.Nesting.keeps_reads z1 z2 two.keeps two.goes,
      subst (λ (w : ℕ). g.Q.Part.postcondition c.args.self.now.second c.args.rule.now w None (log z1) (log z2)) (g.met.N.Nesting.keeps_words z0 z1 one.keeps) gave,
    )

pub returns-clause-kept : goal.returns-clause-kept
returns-clause-kept g c =
    let log = g.N.Access.log in
    let words = g.N.Access.words in
    let z0 = c.args.memory.now in
    let z1 = c.run.new.memory in
    let z2 = c.run-2.new.memory in
    let good = g.K.MemRule.good c.args.rule.now in
    let same : words z1 ≡ words z0 = g.met.N.Nesting.keeps_words z0 z1 c.in_ok-first.ensures.keeps in
    let two : Under good (words z1) (log z2) good = search (rules, c.in_ok-second.ensures.kept) in
    subst (λ (w : ℕ). Under good w (log z2) good) same two

pub returns-clause-postcondition : goal.returns-clause-postcondition
returns-clause-postcondition g c =
    let log = g.N.Access.log in
    let z0 = c.args.memory.now in
    let z1 = c.run.new.memory in
    let z2 = c.run-2.new.memory in
    let one = c.in_ok-first.ensures in
    let two = c.in_ok-second.ensures in
    let did : g.P.Part.postcondition c.args.self.now.first c.args.rule.now (g.N.Access.words z0) (Some c.in-Some.first) (log z0) (log z1) = search (rules, one.postcondition) in
    let done : g.Q.Part.postcondition c.args.self.now.second c.args.rule.now (g.N.Access.words z1) (Some c.in-Some-2.second) (log z1) (log z2) = search (rules, two.postcondition) in (
      log z1,
      did,
      g.met.N.Nesting.keeps_reads z0 z1 one.keeps one.goes,
      g.met.N.Nesting.keeps_reads z1 z2 two.keeps two.goes,
      subst (λ (w : ℕ). g.Q.Part.postcondition c.args.self.now.second c.args.rule.now w (Some c.in-Some-2.second) (log z1) (log z2)) (g.met.N.Nesting.keeps_words z0 z1 one.keeps) done,
    )
