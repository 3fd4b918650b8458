use Rattle.std.proofs.Common.{◌≢◌, ◌%◌, sym, ap, ◌∙◌, arith}
use Rattle.work_gen.specs.Draws.{generator_at}
use Rattle.work_gen.specs.Generated.{draws_before}
use Rattle.work_gen.proofs.DrawLaws.{moves-else, draws-on}
use Rattle.work_gen.proofs.generate.operation.Goals as goal

pub returns-in_default : goal.returns-in_default
returns-in_default c = λ seed h.
    let drawn = c.drawn_move.ensures seed (draws_before c.args.i) h in
    let a : c.args.i % 4 ≢ 2 = λ e. absurd (omega arith) in
    let b : c.args.i % 4 ≢ 3 = λ e. absurd (omega arith) in
    (drawn.0 ∙ sym (moves-else seed c.args.i a b), drawn.1 ∙ ap (λ k. generator_at seed k) (draws-on c.args.i a b))
