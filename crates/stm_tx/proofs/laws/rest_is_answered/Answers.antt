use Rattle.std.proofs.Common.{◌≡◌, Bool, true, false, refl, sym, ◌∙◌}
use Rattle.std.specs.Prelude.{◌&&◌}
use Rattle.stm_model.specs.Algorithms.{closes_gate}
use Rattle.stm_model.specs.declared.alg.Alg.{Alg}
use Rattle.stm_model.specs.declared.alg.Alg.TheVariants.{Cgl, Tml, OrecLazy, OrecEager, RingSw, Serial}
use Rattle.rule_base.specs.declared.views.View.{View}
use Rattle.rule_base.specs.Fence.{without_fence}
use Rattle.stm_rule.proofs.KindLaws.FencedRest.{rest-of, at-rest-of}
use Rattle.stm_rule.specs.Kept.{good_of}
use Rattle.stm_rule.proofs.KindLaws.RestLaws.{quiet-rests, granted-rests}
use Rattle.stm_answers.specs.CallerState.{granted_under}
use Rattle.stm_tx.proofs.laws.rest_is_answered.Goals as goal

pub returns : goal.returns
returns g c = record {
  quiet =
      λ rule config n own w r closed quiet.
      at-rest-of (good_of g.K.MemRule.good config rule) config n w r (quiet-rests (good_of g.K.MemRule.good config rule) config n
      (without_fence w) r.core (record { closing = closed.phase; checked = quiet }));
  granted =
      λ rule config n own w r closes granted.
      rest-of (good_of g.K.MemRule.good config rule) config n w r (granted-rests (good_of g.K.MemRule.good config rule) config n
      (without_fence w) r.core (promoted (w.views n) (w.views n).gate.algorithm closes granted));
  installed = λ rule config n own w r closed settled. let s = all-three (w.views n).gate.quiescent (w.views n).gate.rebased (w.views n).gate.completed settled in
      let t = r.core.install.time n s.0 in
      ((r.core.install.rebased n s.1).1 ∙ sym t, (r.core.install.completed n s.2).1 ∙ sym t);
}
  where
    all-three : (a b d : Bool) → (a && b && d) ≡ true → (a ≡ true) × (b ≡ true) × (d ≡ true)
    all-three true true true e = (refl, refl, refl)
    all-three true true false e = absurd cc
    all-three true false d e = absurd cc
    all-three false b d e = absurd cc

    promoted : (v : View) (a : Alg) → closes_gate a ≡ true → granted_under a v.gate v.lock ≡ true → v.gate.granted ≡ true
    promoted v Cgl closes granted = granted
    promoted v Tml closes granted = granted
    promoted v OrecLazy closes granted = granted
    promoted v OrecEager closes granted = granted
    promoted v RingSw closes granted = granted
    promoted v Serial closes granted = absurd cc
