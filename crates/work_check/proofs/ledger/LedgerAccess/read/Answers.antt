use Rattle.std.proofs.Common.{◌≡◌, ◌<◌, List, length, sym, subst}
use Rattle.std.specs.Prelude.{MatchOption}
use Rattle.stm_model.specs.declared.plain.PlainWord.{PlainWord}
use Rattle.stm_model.specs.Logs.{Reads}
use Rattle.stm_model.specs.Memories.{AreWords}
use Rattle.stm_model.specs.Plains.{openings, plain_log}
use Rattle.stm_model.specs.PlainLaws.{plain-reads, plain-explained}
use Rattle.work_check.proofs.ledger.LedgerAccess.read.Goals as goal

pub returns-clause-value : goal.returns-clause-value
returns-clause-value c =
    let v = c.value-v.result in
    let found = subst (λ (w : PlainWord). MatchOption w.own (v ≡ w.opening) (λ x. v ≡ x)) c.index.ensures c.value-v.ensures in
    subst (λ (ws : List PlainWord). Reads (plain_log ws) c.args.a v (plain_log ws)) c.self.view_is
    (plain-reads c.self.inside.words.items c.args.a c.index.result.now v (subst (λ (xs : List PlainWord). c.args.a < length xs) (sym c.self.view_is) c.requires.within) found)

pub returns-clause-explained : goal.returns-clause-explained
returns-clause-explained c = plain-explained c.args.self.now (subst (λ (ws : List PlainWord). AreWords (openings ws)) c.self.view_is c.self.invariant.2)
