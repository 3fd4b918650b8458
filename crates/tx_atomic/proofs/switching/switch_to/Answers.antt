use Rattle.std.proofs.Common.{subst, ◌∙◌}
use Rattle.stm_answers.specs.Answers.{Installs, Reopens}
use Rattle.stm_answers.specs.CallerStateLaws.{grows-trans}
use Rattle.stm_tx.specs.Descs.{known}
use Rattle.tx_atomic.specs.AttemptLaws.{same-number}
use Rattle.tx_atomic.proofs.switching.switch_to.Goals as goal

pub returns-clause-grew : goal.returns-clause-grew
returns-clause-grew g c =
    let u = known c.args.desc.now in
    let installed = grows-trans u (known c.close_alone-looks.new.desc) (known c.install.new.desc) c.close_alone-looks.ensures.grew c.install.ensures.installs.closed.grows in
    grows-trans u (known c.install.new.desc) (known c.reopen-rung.new.desc) installed c.reopen-rung.ensures.reopens.grows

pub returns-clause-switches : goal.returns-clause-switches
returns-clause-switches g c =
    let stm = c.args.stm.now in
    let good = g.K.MemRule.good stm.rule in
    let alone = c.close_alone-looks.new.desc in
    let installed = c.install.new.desc in
    let first = same-number c.args.desc.now alone c.close_alone-looks.ensures.same in
    let second = same-number alone installed c.install.ensures.same ∙ first in
    record {
      alone = known alone;
      comes = c.close_alone-looks.ensures.looks;
      installed = known installed;
      installs = subst (λ n. Installs good stm.config n c.args.alg (known alone) (known installed)) first c.install.ensures.installs;
      reopens = subst (λ n. Reopens good stm.config n (known installed) (known c.reopen-rung.new.desc)) second c.reopen-rung.ensures.reopens;
    }
