use Rattle.std.proofs.Common.{[], ◌∷◌, ◌++◌, ap, ◌∙◌, arith}
use Rattle.stm_model.specs.AlgorithmLaws.{install-low}
use Rattle.work_driver.proofs.opening.install_first.Goals as goal

pub returns-clause-new : goal.returns-clause-new
returns-clause-new g c =
    let before = c.look_until_quiet.ensures.closed.done in
    let i = c.install.ensures.installs in
    let r = c.reopen.ensures.reopens in
    let rose = i.rises.1 in
    let still = r.rises in
    let none = before.rises in
    let low = install-low c.args.alg in
    record {
      idle = r.idle;
      done = record {
        made = r.made ∙ (i.closed.made ∙ before.made);
        rises = omega (arith, rose, still, none, low);
        installs = r.installs ∙ (i.installs ∙ ap (λ l. l ++ c.args.alg ∷ []) before.installs);
      };
    }

pub returns-clause-knows : goal.returns-clause-knows
returns-clause-knows g c = λ one. c.reopen.ensures.reopens.sole one ∙ c.install.ensures.installs.named
