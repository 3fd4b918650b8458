use Rattle.std.proofs.Common.{rules, ◌∙◌}
use Rattle.stm_tx.specs.Descs.{known}
use Rattle.stm_answers.specs.CallerStateLaws.{grows-trans}
use Rattle.tx_checked.proofs.calls.install_alone.Goals as goal

pub returns-clause-switched : goal.returns-clause-switched
returns-clause-switched c =
    let u = known c.args.desc.now in
    let installed = grows-trans u (known c.close_alone.new.desc) (known c.install.new.desc) c.close_alone.ensures.grew c.install.ensures.installs.closed.grows in
    record {
      grew = grows-trans u (known c.install.new.desc) (known c.reopen.new.desc) installed c.reopen.ensures.reopens.grows;
      made = c.reopen.ensures.reopens.made ∙ (c.install.ensures.installs.closed.made ∙ c.close_alone.ensures.made);
      rises = search rules;
      installs = search rules;
    }

pub returns-clause-grew : goal.returns-clause-grew
returns-clause-grew c =
    let u = known c.args.desc.now in
    let installed = grows-trans u (known c.close_alone.new.desc) (known c.install.new.desc) c.close_alone.ensures.grew c.install.ensures.installs.closed.grows in
    grows-trans u (known c.install.new.desc) (known c.reopen.new.desc) installed c.reopen.ensures.reopens.grows
