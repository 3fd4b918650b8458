use Rattle.std.proofs.Common.{ℕ, ◌∙◌, subst}
use Rattle.stm_tx.specs.Descs.{known, number}
use Rattle.tx_atomic.specs.AttemptLaws.{same-number}
use Rattle.tx_checked.specs.Ranges.{GivesBack}
use Rattle.tx_checked.proofs.Beside.{beside-between}
use Rattle.tx_checked.proofs.Giving.{given, stays-closed}
use Rattle.tx_checked.proofs.Refused.{finds-full}
use Rattle.tx_checked.proofs.ranges.put_back.Goals as goal

pub returns-clause-given : goal.returns-clause-given
returns-clause-given c =
    let config = c.args.stm.now.config in
    let d = c.args.desc.now in
    let e = c.close_alone.new.desc in
    let u = known d in
    let x = known c.reopen.new.desc in
    let told = given config (number e) c.give_back-answer.result u (known e) (known c.give_back-answer.new.desc) x
    c.close_alone.ensures.grew c.close_alone.ensures.made c.give_back-answer.ensures.gives c.reopen.ensures.reopens in
    subst (λ (n : ℕ). GivesBack config n c.give_back-answer.result u x) (same-number d e c.close_alone.ensures.same) told

pub returns-clause-full : goal.returns-clause-full
returns-clause-full c =
    let d = c.args.desc.now in
    let e = c.close_alone.new.desc in
    finds-full c.args.stm.now.config (number d) c.args.closing c.give_back-answer.result (number e) (known d) (known e)
    (known c.give_back-answer.new.desc) (known c.reopen.new.desc) (same-number d e c.close_alone.ensures.same)
    c.in_ok-close_alone.ensures.alone c.give_back-answer.ensures.gives c.reopen.ensures.reopens

pub returns-clause-grew : goal.returns-clause-grew
returns-clause-grew c =
    let v = known c.close_alone.new.desc in
    let w = known c.give_back-answer.new.desc in
    let stays = stays-closed c.args.stm.now.config (number c.close_alone.new.desc) c.give_back-answer.result v w c.give_back-answer.ensures.gives in
    beside-between (known c.args.desc.now) v w (known c.reopen.new.desc) c.close_alone.ensures.grew stays.grows c.reopen.ensures.reopens.grows

pub returns-clause-installs : goal.returns-clause-installs
returns-clause-installs c =
    let v = known c.close_alone.new.desc in
    let w = known c.give_back-answer.new.desc in
    let stays = stays-closed c.args.stm.now.config (number c.close_alone.new.desc) c.give_back-answer.result v w c.give_back-answer.ensures.gives in
    c.reopen.ensures.reopens.installs ∙ (stays.installs ∙ c.close_alone.ensures.installs)
