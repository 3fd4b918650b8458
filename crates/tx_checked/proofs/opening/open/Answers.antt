use Rattle.std.proofs.Common.{◌∙◌, [], ◌∷◌, ap, arith}
use Rattle.stm_model.specs.declared.config.Config.{Config}
use Rattle.tx_checked.proofs.Newcomers.{all-hindered, all-new}
use Rattle.tx_checked.proofs.opening.open.Goals as goal

pub install_first-installed-requires-clause-some : goal.install_first-installed-requires-clause-some
install_first-installed-requires-clause-some c =
    let stm = c.in-Ok.opened.0 in
    let count = c.in-Ok.ensures.descs.1 in
    let asked = ap (λ (k : Config). k.callers) c.in-Ok.ensures.stm.0 in
    let least = stm.ranges.callers.0 in
    omega arith

pub returns-in-Ok-installed-clause-new : goal.returns-in-Ok-installed-clause-new
returns-in-Ok-installed-clause-new c =
    let shared = c.in-Ok-share.ensures in
    all-new c.in-Ok.opened.0 c.args.config (c.args.alg ∷ []) c.install_first-installed.new.descs.items c.in-Ok-share.callers.items
    c.in-Ok.ensures.stm.0 c.in-Ok-installed.ensures.fresh shared.descs shared.unused

pub returns-in-Err-installed-clause-refused : goal.returns-in-Err-installed-clause-refused
returns-in-Err-installed-clause-refused c =
    let shared = c.in-Ok-share.ensures in
    let met = c.in-Err-installed.ensures in (
      c.in-Ok.ensures.in_range,
      all-hindered c.in-Ok.opened.0 c.args.config c.in-Err-installed.hindrance c.install_first-installed.new.descs.items c.in-Ok-share.callers.items
          c.in-Ok.ensures.stm.0 (met.count ∙ c.in-Ok.ensures.descs.1) met.bare met.hindered shared.descs shared.unused,
    )
