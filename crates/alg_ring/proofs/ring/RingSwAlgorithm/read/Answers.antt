use Rattle.std.proofs.Common.{ℕ, ◌≡◌, ap, sym, subst, ◌∙◌, false, rules}
use Rattle.std.specs.Prelude.{Some}
use Rattle.stm_model.specs.Memories.{item_at}
use Rattle.stm_model.specs.declared.alg.Alg.TheVariants.{RingSw}
use Rattle.stm_rule.specs.Attempts.{own_of}
use Rattle.stm_rule.specs.Callers.{Handle, handle_of}
use Rattle.stm_answers.specs.declared.answers.Read.TheVariants.{Value}
use Rattle.stm_answers.specs.Answers.{HasRead}
use Rattle.stm_answers.specs.CallerState.{caller_of}
use Rattle.stm_gate.specs.Knowing.{known}
use Rattle.stm_gate.proofs.Standing.{runs-of}
use Rattle.alg_ring.proofs.Ending.{plain-of, ring-of}
use Rattle.alg_ring.proofs.Writing.{reads-own}
use Rattle.alg_ring.proofs.ring.RingSwAlgorithm.read.Goals as goal

pub returns-in-Some-clause-read : goal.returns-in-Some-clause-read
returns-in-Some-clause-read g c =
    let good = g.K.MemRule.good c.args.stm.now.rule in
    let i = runs-of g.K.MemRule.good _ _ _ _ _ _ c.desc.view_is c.requires.stm.config c.requires.stm.rule c.requires.running.0 c.desc.invariant.1 in
    let name : caller_of c.desc.inside.seat.me.0.who.role ≡ c.desc.inside.number = ap caller_of c.desc.invariant.0.named in
    let named = subst (λ (p : Handle g.row.K.Denot). (known p).alg ≡ RingSw) (sym c.desc.view_is) c.requires.algorithm in
    let plain = plain-of _ _ _ _ _ i named (own_of c.desc.inside.local) (subst (λ (p : Handle g.row.K.Denot). (known p).granted ≡ false) (sym c.desc.view_is) c.requires.unpromoted) in
    let own : item_at c.args.a c.desc.inside.local.writes.items ≡ Some c.in-Some.x = sym c.find.ensures ∙ c.in-Some.is in
    subst (λ (p : Handle g.row.K.Denot).
    HasRead good c.args.stm.now.config (caller_of p.who.role) c.args.a (Value c.in-Some.x) (known p) (known p)) c.desc.view_is
    (subst (λ (n : ℕ).
    HasRead good c.args.stm.now.config n c.args.a (Value c.in-Some.x) (known (handle_of c.desc.inside.seat (own_of c.desc.inside.local)))
    (known (handle_of c.desc.inside.seat (own_of c.desc.inside.local)))) (sym name)
    (reads-own good c.args.stm.now.config c.desc.inside.number c.args.a c.desc.inside.local c.desc.inside.seat.me.0.view i named plain
    (ap (λ (p : Handle g.row.K.Denot). (known p).committing) c.desc.view_is ∙ c.requires.running.1)
    (ring-of good c.args.stm.now.config c.desc.inside.number c.desc.inside.local c.desc.inside.seat.me.0.view i named plain) c.in-Some.x own
    (search rules)))
