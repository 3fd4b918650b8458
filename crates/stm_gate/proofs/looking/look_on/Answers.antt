use Rattle.std.proofs.Common.{arith, subst, sym, ap, ◌∙◌, ◌≡◌, ◌<◌, refl, rules}
use Rattle.stm_rule.specs.Attempts.{HasLooked}
use Rattle.stm_gate.specs.Knowing.{number}
use Rattle.stm_gate.specs.Looking.{Finds}
use Rattle.stm_gate.proofs.LookingLaws.{looks-none, looks-more, looks-busy}
use Rattle.stm_answers.specs.CallerState.{caller_of}
use Rattle.stm_gate.proofs.looking.look_on.Goals as goal

pub look_at-status-requires-clause-stm : goal.look_at-status-requires-clause-stm
look_at-status-requires-clause-stm g c = c.loop-other.invariant.of

pub look_at-status-requires-clause-holds : goal.look_at-status-requires-clause-holds
look_at-status-requires-clause-holds g c = c.loop-other.invariant.holds

pub look_at-status-requires-clause-looked : goal.look_at-status-requires-clause-looked
look_at-status-requires-clause-looked g c =
    subst (λ m. HasLooked c.args.stm.now.config.callers m c.loop-other.other c.loop-other.desc.view) (sym (ap (λ q. caller_of q.role) c.loop-other.invariant.same.who)) c.loop-other.invariant.looked

pub returns-then-status-ne0-clause-looks : goal.returns-then-status-ne0-clause-looks
returns-then-status-ne0-clause-looks g c =
    let name : number c.loop-other.desc ≡ (number c.args.desc.now) = ap (λ q. caller_of q.role) c.loop-other.invariant.same.who in
    looks-busy c.args.stm.now.config (number c.args.desc.now) (g.K.MemRule.good c.args.stm.now.rule) c.loop-other.other
    c.look_at-status.result c.args.desc.now.view c.loop-other.desc.view c.look_at-status.new.desc.view
    (subst (λ m. m < c.args.stm.now.config.callers) name c.look_at-status.ensures.own.1) (search rules) (search rules)
    c.loop-other.invariant.looks c.look_at-status.ensures.looks (subst
    (λ m. Finds c.args.stm.now.config m c.loop-other.other c.look_at-status.result c.loop-other.desc.view c.look_at-status.new.desc.view)
    name c.look_at-status.ensures.found)

pub loop-other-preserved : goal.loop-other-preserved
loop-other-preserved g c =
    let looks = c.look_at-status.ensures.looks in
    record {
      of =
          record {
            table = c.look_at-status.ensures.same.table ∙ c.loop-other.invariant.of.table;
            config = ap (λ q. q.config) c.look_at-status.ensures.same.who ∙ c.loop-other.invariant.of.config;
            rule = ap (λ q. q.rule) c.look_at-status.ensures.same.who ∙ c.loop-other.invariant.of.rule;
          };
      same = record { table = c.look_at-status.ensures.same.table ∙ c.loop-other.invariant.same.table; who = c.look_at-status.ensures.same.who ∙ c.loop-other.invariant.same.who };
      own = c.look_at-status.ensures.own.0 ∙ c.loop-other.invariant.own;
      holds = ap (λ y. y.gate.holds) looks.is ∙ c.loop-other.invariant.holds;
      looked =
          (subst (λ m.
          Finds c.args.stm.now.config m c.loop-other.other c.look_at-status.result c.loop-other.desc.view c.look_at-status.new.desc.view)
          (ap (λ q. caller_of q.role) c.loop-other.invariant.same.who) c.look_at-status.ensures.found).idle (search rules);
      steps = (let q = c.look_at-status.ensures.steps in let p = c.loop-other.invariant.steps in omega arith);
      looks = looks-more c.args.desc.now.view c.loop-other.desc.view c.look_at-status.new.desc.view c.loop-other.invariant.looks looks;
    }

pub loop-other-init : goal.loop-other-init
loop-other-init g c = record {
  of = c.requires.stm;
  same = record { table = refl; who = refl };
  own = refl;
  holds = c.requires.holds;
  looked = subst (λ q. HasLooked q.callers (number c.args.desc.now) c.first_unseen-other.result c.args.desc.now.view) c.requires.stm.config c.first_unseen-other.ensures;
  steps = omega arith;
  looks = looks-none c.args.desc.now.view;
}
