use Rattle.std.proofs.Common.{ℕ, List, ◌≡◌, ◌+◌, ◌++◌, sym, ap, ◌∙◌, subst, inr, rules}
use Rattle.std.specs.Prelude.{None}
use Rattle.stm_model.specs.Logs.{Log}
use Rattle.data_effects.specs.Effects.{Under}
use Rattle.tx_parts.specs.Laying.{ReadsMore, OnlyReads, EitherTells, back_to}
use Rattle.tx_parts.specs.LayingLaws.{keeps-more, answer-then, ok-then, room-second}
use Rattle.tx_parts.proofs.or_else.OrElsePart.run.Goals as goal

pub returns-clause-postcondition : goal.returns-clause-postcondition
returns-clause-postcondition g c =
    let n = g.N.Nesting in
    let log = g.N.Access.log in
    let z0 = c.args.memory.now in
    let z1 = c.mark.new.self in
    let z2 = c.run.new.memory in
    let z3 = c.roll_back.new.self in
    let z4 = c.run-2.new.memory in
    let kept = c.in_ok-done.ensures.keeps in
    let gave : g.P.Part.postcondition c.args.self.now.first c.args.rule.now (g.N.Access.words z0) None (log z0) (log z2) = search (rules, c.in_ok-done.ensures.postcondition) in
    let words : g.N.Access.words z3 ≡ g.N.Access.words z0 = c.roll_back.ensures.words ∙ (g.met.N.Nesting.keeps_words z1 z2 kept ∙ c.mark.ensures.words) in
    let more = g.met.N.Nesting.keeps_reads z1 z2 kept c.in_ok-done.ensures.goes in
    let reads : ReadsMore (log z0) (log z3) = (more.0, c.roll_back.ensures.reads ∙ (more.1 ∙ ap (λ (l : Log). l.reads ++ more.0) c.mark.ensures.log)) in
    let only : OnlyReads (log z0) (log z3) = (reads, c.roll_back.ensures.writes z0 z1 c.mark.ensures.opens kept) in
    let from : log z3 ≡ back_to (log z0) (log z2) = (λ i. record { reads = c.roll_back.ensures.reads i; writes = only.1 i }) in
    ok-then c.run-2.result (λ o. g.Q.Part.postcondition c.args.self.now.second c.args.rule.now (g.N.Access.words z3) o (log z3) (log z4))
    (λ o. EitherTells (g.P.Part.postcondition c.args.self.now.first c.args.rule.now (g.N.Access.words z0)) (g.Q.Part.postcondition c.args.self.now.second c.args.rule.now (g.N.Access.words z0)) o (log z0) (log z4))
    (g.N.Access.stopped z4 ≡ None) c.run-2.ensures.goes c.run-2.ensures.postcondition
    (λ o goes t.
    let last = g.met.N.Nesting.keeps_reads z3 z4 c.run-2.ensures.keeps goes in
    inr (
      log z2,
      gave,
      (more.0, more.1 ∙ ap (λ (l : Log). l.reads ++ more.0) c.mark.ensures.log),
      (last.0, last.1 ∙ ap (λ (rs : List (ℕ × ℕ)). rs ++ last.0) c.roll_back.ensures.reads),
      subst (λ (l : Log). g.Q.Part.postcondition c.args.self.now.second c.args.rule.now (g.N.Access.words z0) o l (log z4)) from
          (subst (λ (w : ℕ). g.Q.Part.postcondition c.args.self.now.second c.args.rule.now w o (log z3) (log z4)) words t),
    ))

pub run-requires-2-clause-sound : goal.run-requires-2-clause-sound
run-requires-2-clause-sound g c =
    let log = g.N.Access.log in
    let words = g.N.Access.words in
    let z0 = c.args.memory.now in
    let z1 = c.mark.new.self in
    let z2 = c.run.new.memory in
    let z3 = c.roll_back.new.self in
    let good = g.K.MemRule.good c.args.rule.now in
    let kept = c.in_ok-done.ensures.keeps in
    let same : words z3 ≡ words z0 = c.roll_back.ensures.words ∙ (g.met.N.Nesting.keeps_words z1 z2 kept ∙ c.mark.ensures.words) in
    let more = g.met.N.Nesting.keeps_reads z1 z2 kept c.in_ok-done.ensures.goes in
    let only : OnlyReads (log z0) (log z3) = ((more.0, c.roll_back.ensures.reads ∙ (more.1 ∙ ap (λ (l : Log). l.reads ++ more.0) c.mark.ensures.log)), c.roll_back.ensures.writes z0 z1 c.mark.ensures.opens kept) in
    subst (λ (w : ℕ). Under good w (log z3) good) (sym same) (keeps-more good (words z0) (log z0) (log z3) only c.requires.sound)

pub run-requires-2-clause-shallow : goal.run-requires-2-clause-shallow
run-requires-2-clause-shallow g c =
    let z0 = c.args.memory.now in
    let z1 = c.mark.new.self in
    let z3 = c.roll_back.new.self in
    let same = g.met.N.Nesting.keeps_depth z0 z3 (c.roll_back.ensures.keeps z0 z1 c.mark.ensures.opens c.in_ok-done.ensures.keeps) c.roll_back.ensures.goes in
    let s = c.requires.shallow in
    room-second (g.N.Nesting.depth z0) (g.N.Nesting.depth z3) (g.P.Part.depth c.args.self.now.first + 1) (g.Q.Part.depth c.args.self.now.second) _ same s

pub returns-clause-kept : goal.returns-clause-kept
returns-clause-kept g c =
    let words = g.N.Access.words in
    let z0 = c.args.memory.now in
    let z1 = c.mark.new.self in
    let z2 = c.run.new.memory in
    let z3 = c.roll_back.new.self in
    let good = g.K.MemRule.good c.args.rule.now in
    let same : words z3 ≡ words z0 = c.roll_back.ensures.words ∙ (g.met.N.Nesting.keeps_words z1 z2 c.in_ok-done.ensures.keeps ∙ c.mark.ensures.words) in
    answer-then c.run-2.result (λ r. Under good (words z3) (g.N.Access.log c.run-2.new.memory) good) (λ r. Under good (words z0) (g.N.Access.log c.run-2.new.memory) good) c.run-2.ensures.kept
    (λ r k. subst (λ (w : ℕ). Under good w (g.N.Access.log c.run-2.new.memory) good) same k)
