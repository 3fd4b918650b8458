use Rattle.std.proofs.Common.{◌≡◌, ◌≤◌, ◌∙◌, true, subst, sym, ap, rules}
use Rattle.stm_model.specs.declared.alg.Alg.TheVariants.{Serial}
use Rattle.rule_base.specs.declared.seats.SeatView.{SeatView}
use Rattle.rule_base.specs.Own.{Own}
use Rattle.stm_rule.specs.declared.local.Local.{Local}
use Rattle.stm_rule.specs.Attempts.{own_of}
use Rattle.stm_rule.specs.Callers.{Handle, handle_of}
use Rattle.stm_rule.proofs.StandLemmas.{tells-of}
use Rattle.stm_gate.specs.Knowing.{known, number}
use Rattle.stm_gate.proofs.Standing.{runs-of}
use Rattle.stm_answers.specs.CallerState.{known_of}
use Rattle.stm_gate.proofs.Told.{told}
use Rattle.stm_model.specs.Algorithms.{asks_at_grant}
use Rattle.stm_model.specs.declared.config.TheConstants.{CLOCK_LIMIT}
use Rattle.rule_seq.specs.CglSteps.{load_limit, LoadsLimit}
use Rattle.stm_logs.specs.LogStates.{LogState}
use Rattle.stm_answers.specs.declared.answers.Irrev.TheVariants as grants
use Rattle.stm_answers.specs.Answers.{Irrevs, TriesIrrevocable}
use Rattle.stm_answers.specs.CallerState.{caller_of}
use Rattle.alg_seq.proofs.Locked.{stays-irrevocable}
use Rattle.alg_seq.proofs.Keeping.{irrevocable-by, revocable-by, quits-back, full-after}
use Rattle.alg_seq.proofs.Granting.{clocked-full, tells-granted}
use Rattle.alg_seq.proofs.serial.SerialAlgorithm.try_irrevocable.Goals as goal

pub returns-then-desc-clause-irrevs : goal.returns-then-desc-clause-irrevs
returns-then-desc-clause-irrevs g c =
    let good = g.K.MemRule.good c.args.stm.now.rule in
    let o = own_of c.desc.inside.local in
    let i = runs-of g.K.MemRule.good c.args.stm.now.config c.args.stm.now.rule (handle_of c.desc.inside.seat o) c.args.desc.now
    c.desc.inside.number c.desc.inside.local c.desc.view_is c.requires.stm.config c.requires.stm.rule c.requires.running.0
    c.desc.invariant.1 in
    let serial : c.desc.inside.local.algorithm ≡ Serial = sym i.named ∙ (subst (λ (h : Handle g.row.K.Denot). (known h).alg ≡ Serial) (sym c.desc.view_is) c.requires.algorithm) in
    subst (λ (h : Handle g.row.K.Denot). TriesIrrevocable good c.args.stm.now.config (number h) (known h) (known h)) c.desc.view_is
    (subst
    (λ k. TriesIrrevocable good c.args.stm.now.config k (known_of c.desc.inside.seat.me.0.view o) (known_of c.desc.inside.seat.me.0.view o))
    (sym (ap caller_of c.desc.invariant.0.named))
    (stays-irrevocable good c.args.stm.now.config c.desc.inside.number c.desc.inside.local c.desc.inside.seat.me.0.view o i
    (ap (λ (p : Handle g.row.K.Denot). (known p).committing) c.desc.view_is ∙ c.requires.running.1)
    (revocable-by good c.args.stm.now.config c.desc.inside.number c.desc.inside.local c.desc.inside.seat.me.0.view i serial o
    ∙ (irrevocable-by good c.args.stm.now.config c.desc.inside.number c.desc.inside.local c.desc.inside.seat.me.0.view i serial
    ∙ c.if-desc.true))))

pub returns-then-clock-ge-CLOCK_LIMIT-clause-irrevs : goal.returns-then-clock-ge-CLOCK_LIMIT-clause-irrevs
returns-then-clock-ge-CLOCK_LIMIT-clause-irrevs g c =
    let good = g.K.MemRule.good c.args.stm.now.rule in
    let o = own_of c.desc.inside.local in
    let i = runs-of g.K.MemRule.good c.args.stm.now.config c.args.stm.now.rule (handle_of c.desc.inside.seat o) c.args.desc.now
    c.desc.inside.number c.desc.inside.local c.desc.view_is c.requires.stm.config c.requires.stm.rule c.requires.running.0
    c.desc.invariant.1 in
    let named = subst (λ (h : Handle g.row.K.Denot). (known h).alg ≡ Serial) (sym c.desc.view_is) c.requires.algorithm in
    let serial : c.desc.inside.local.algorithm ≡ Serial = sym i.named ∙ named in
    let high : CLOCK_LIMIT ≤ c.load_limit-clock.result = search rules in
    let k = clocked-full c.desc.inside.seat.me.0.view c.load_limit-clock.new.seat.me.0.view c.load_limit-clock.result high (tells-of (load_limit true) LoadsLimit _ _ _ c.load_limit-clock.ensures.step) in
    told (λ n v w. Irrevs good c.args.stm.now.config n (grants.ClockFull c.load_limit-clock.result) v w) (handle_of c.desc.inside.seat o)
    c.args.desc.now c.desc.inside.number c.abort.new.seat.me.0 c.abort.new.local c.desc.view_is
    (ap (λ (y : SeatView g.row.K.Denot). y.who) c.abort.ensures.same.1
    ∙ ap (λ (y : SeatView g.row.K.Denot). y.who) c.load_limit-clock.ensures.step.3) c.desc.invariant.0.named
    (subst (λ (m : Local).
    Irrevs good c.args.stm.now.config c.desc.inside.number (grants.ClockFull c.load_limit-clock.result)
    (known_of c.desc.inside.seat.me.0.view o) (known_of c.abort.new.seat.me.0.view (own_of m))) (sym c.abort.ensures.ended) (
      quits-back good c.args.stm.now.config c.desc.inside.number c.desc.inside.local c.desc.inside.seat.me.0.view i serial
          c.load_limit-clock.new.seat.me.0.view c.abort.new.seat.me.0.view o c.if-desc.false k.0 c.abort.ensures.gives_up,
      ap asks_at_grant named,
      full-after good c.args.stm.now.config c.desc.inside.number c.desc.inside.local c.desc.inside.seat.me.0.view i serial
          c.load_limit-clock.result c.load_limit-clock.new.seat.me.0.view c.abort.new.seat.me.0.view o high (k.1 o) c.abort.ensures.gives_up,
    ))

pub returns-clause-irrevs : goal.returns-clause-irrevs
returns-clause-irrevs g c =
    let o = own_of c.desc.inside.local in
    let i = runs-of g.K.MemRule.good c.args.stm.now.config c.args.stm.now.rule (handle_of c.desc.inside.seat o) c.args.desc.now
    c.desc.inside.number c.desc.inside.local c.desc.view_is c.requires.stm.config c.requires.stm.rule c.requires.running.0
    c.desc.invariant.1 in
    let m : Local = record c.desc.inside.local { granted = true; undo = c.clear.new.self } in
    told (λ n v w. Irrevs (g.K.MemRule.good c.args.stm.now.rule) c.args.stm.now.config n grants.Granted v w)
    (handle_of c.desc.inside.seat o) c.args.desc.now c.desc.inside.number c.load_limit-clock.new.seat.me.0 m c.desc.view_is
    (ap (λ (y : SeatView g.row.K.Denot). y.who) c.load_limit-clock.ensures.step.3) c.desc.invariant.0.named
    (subst (λ (p : Own).
    Irrevs (g.K.MemRule.good c.args.stm.now.rule) c.args.stm.now.config c.desc.inside.number grants.Granted
    (known_of c.desc.inside.seat.me.0.view o) (known_of c.load_limit-clock.new.seat.me.0.view p))
    (sym (ap (λ (q : LogState). record o { writes_limit = q.len }) c.clear.ensures))
    (tells-granted (g.K.MemRule.good c.args.stm.now.rule) c.args.stm.now.config c.desc.inside.number c.desc.inside.local
    c.desc.inside.seat.me.0.view i
    (sym i.named ∙ (subst (λ (h : Handle g.row.K.Denot). (known h).alg ≡ Serial) (sym c.desc.view_is) c.requires.algorithm))
    c.load_limit-clock.result c.load_limit-clock.new.seat.me.0.view o
    (ap (λ (p : Handle g.row.K.Denot). (known p).committing) c.desc.view_is ∙ c.requires.running.1) c.if-desc.false (search rules)
    (tells-of (load_limit true) LoadsLimit c.desc.inside.seat.me.0 c.load_limit-clock.result c.load_limit-clock.new.seat.me.0
    c.load_limit-clock.ensures.step)))
