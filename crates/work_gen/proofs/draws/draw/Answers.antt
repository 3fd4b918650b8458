use Rattle.std.proofs.Common.{ℕ, ◌%◌, ap, ◌∙◌}
use Rattle.rand_pcg.specs.Lcg.{Lcg}
use Rattle.rand_pcg.specs.Pcg.{pcg32}
use Rattle.work_gen.proofs.DrawLaws.{one-more}
use Rattle.work_gen.proofs.draws.draw.Goals as goal

pub returns : goal.returns
returns c = λ seed k is. (
  ap (λ (p : ℕ × Lcg). p.0 % c.args.below) c.next_word.ensures ∙ ap (λ (g : Lcg). (pcg32 g).0 % c.args.below) is,
  ap (λ (p : ℕ × Lcg). p.1) c.next_word.ensures ∙ (ap (λ (g : Lcg). (pcg32 g).1) is ∙ one-more seed k),
)
