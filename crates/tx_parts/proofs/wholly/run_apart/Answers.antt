use Rattle.std.proofs.Common.{rules, ℕ, ◌≡◌, List, length, ap, ◌∙◌, subst, arith}
use Rattle.std.specs.Prelude.{Some, None}
use Rattle.stm_model.specs.Logs.{Log}
use Rattle.tx_parts.specs.Laying.{over, IsFilled}
use Rattle.tx_parts.specs.LayingLaws.{keeps-like, keeps-more, goes-either}
use Rattle.tx_parts.proofs.wholly.run_apart.Goals as goal

pub run-came-requires-clause-shallow : goal.run-came-requires-clause-shallow
run-came-requires-clause-shallow g c = let e = ap length c.requires.empty.1 in let s = c.requires.shallow in omega arith

pub returns-in_ok-settle-in-Ok-Some-clause-comes : goal.returns-in_ok-settle-in-Ok-Some-clause-comes
returns-in_ok-settle-in-Ok-Some-clause-comes g c =
    let a = g.A.Access in
    let good = g.K.MemRule.good c.args.rule.now in
    let s = c.args.overlay.now in
    let t = c.run-came.new.memory in
    let l = a.log s.below in
    let j = over t.room.items (a.log t.below) in
    let k = a.log c.settle.new.self.below in
    let words = a.words s.below in
    let first : over s.room.items l ≡ l = ap (λ (is : List (ℕ × ℕ)). over is l) c.requires.empty.0 in
    let came = c.in-Ok-Some.ensures in
    let told = rw c.in-Ok-Some.field-0-is at came.postcondition in
    let kept = rw c.in-Ok-Some.field-0-is at came.kept in
    let same = c.in_ok-settle-in-Ok-Some.ensures.lays in
    let only = (came.keeps.1.marks came.goes).2 in
    rw c.in-Ok-Some.field-0-is (
      (j, subst (λ (q : Log). g.P.Part.postcondition c.args.part.now c.args.rule.now words (Some c.in-Ok-Some.done) q j) first told, same),
      (only.0.0, same.0 ∙ only.0.1),
      λ h. keeps-like good words j k same kept,
    )

pub returns-in-Ok-None-clause-comes : goal.returns-in-Ok-None-clause-comes
returns-in-Ok-None-clause-comes g c =
    let a = g.A.Access in
    let s = c.args.overlay.now in
    let t = c.run-came.new.memory in
    let l = a.log s.below in
    let j = over t.room.items (a.log t.below) in
    let words = a.words s.below in
    let first : over s.room.items l ≡ l = ap (λ (is : List (ℕ × ℕ)). over is l) c.requires.empty.0 in
    let came = c.in-Ok-None.ensures in
    let told = rw c.in-Ok-None.field-0-is at came.postcondition in
    let only = (came.keeps.1.marks came.goes).2 in
    ((j, subst (λ (q : Log). g.P.Part.postcondition c.args.part.now c.args.rule.now words None q j) first told, (λ i. record { reads = (a.log t.below).reads; writes = only.1 i })), only)

pub returns-in-Ok-None-clause-frame : goal.returns-in-Ok-None-clause-frame
returns-in-Ok-None-clause-frame g c =
    let t = c.run-came.new.memory in
    record {
      explained = search rules;
      goes = goes-either (g.A.Access.stopped t.below) t.stopped c.no_room-full.result c.no_room-full.ensures.goes c.no_room-full.ensures.none c.in-Ok-None.ensures.goes;
      stops = search rules;
      good = search rules;
      words = search rules;
      keeps = search rules;
    }

pub returns-in_ok-settle-in-Ok-Some-clause-kept : goal.returns-in_ok-settle-in-Ok-Some-clause-kept
returns-in_ok-settle-in-Ok-Some-clause-kept g c =
    let a = g.A.Access in
    let t = c.run-came.new.memory in
    let kept = rw c.in-Ok-Some.field-0-is at c.in-Ok-Some.ensures.kept in
    keeps-like (g.K.MemRule.good c.args.rule.now) (a.words c.args.overlay.now.below) (over t.room.items (a.log t.below)) (a.log c.settle.new.self.below) c.in_ok-settle-in-Ok-Some.ensures.lays kept

pub returns-in-Ok-None-clause-kept : goal.returns-in-Ok-None-clause-kept
returns-in-Ok-None-clause-kept g c =
    let a = g.A.Access in
    let s = c.args.overlay.now in
    let came = c.in-Ok-None.ensures in
    keeps-more (g.K.MemRule.good c.args.rule.now) (a.words s.below) (a.log s.below) (a.log c.run-came.new.memory.below) (came.keeps.1.marks came.goes).2 c.requires.sound

pub returns-in-Some-clause-kept : goal.returns-in-Some-clause-kept
returns-in-Some-clause-kept g c =
    let a = g.A.Access in
    let s = c.args.overlay.now in
    let full = rw c.in-Some.is at c.no_room-full.ensures.goes in
    keeps-more (g.K.MemRule.good c.args.rule.now) (a.words s.below) (a.log s.below) (a.log c.run-came.new.memory.below) (c.in-Err.ensures.keeps.1.reads full).1 c.requires.sound

pub returns-in-Some-clause-frame : goal.returns-in-Some-clause-frame
returns-in-Some-clause-frame g c = record {
  explained = (rw c.in-Some.is at c.no_room-full.ensures.some).2;
  goes = rw c.in-Some.is at c.no_room-full.ensures.goes;
  stops = search rules;
  good = search rules;
  words = search rules;
  keeps = search rules;
}

pub returns-in-Some-clause-full : goal.returns-in-Some-clause-full
returns-in-Some-clause-full g c = subst (λ (n : ℕ). IsFilled n c.run-came.new.memory.room) c.in-Err.ensures.keeps.1.still (rw c.in-Some.is at c.no_room-full.ensures.some).3
