use Rattle.std.proofs.Common.{Bool, [], refl, sym, ap, ◌∙◌, subst}
use Rattle.stm_model.specs.Algorithms.{takes_lock, asks_at_begin, asks_at_write}
use Rattle.rule_base.specs.Encodings.{fenced}
use Rattle.alg_seq.specs.Storing.{HasPlace}
use Rattle.alg_seq.proofs.Keeping.{named, may-store-irrevocable, may-store-logged, quits-back, full-after, full-by, room-by}
use Rattle.alg_seq.proofs.Locked.{locked, or-middle}
use Rattle.alg_seq.proofs.serial.keep_old.Goals as goal

pub returns-then-local-clause-keeps : goal.returns-then-local-clause-keeps
returns-then-local-clause-keeps g c =
    record {
      is = refl;
      undo_len = refl;
      writes_len = refl;
      marks = refl;
      marks_limit = refl;
      may =
          may-store-irrevocable (g.K.MemRule.good c.args.stm.now.rule) c.args.stm.now.config c.args.caller c.args.local.now
          c.args.seat.now.me.0.view c.requires.attempt c.requires.serial c.args.a c.args.x c.requires.inside
          (ap (λ k. fenced k c.args.a) (sym c.requires.attempt.spared.is) ∙ c.requires.spared) c.if-local.true
          ((locked (g.K.MemRule.good c.args.stm.now.rule) c.args.stm.now.config c.args.caller c.args.local.now c.args.seat.now.me.0.view
          (ap takes_lock (c.requires.attempt.named ∙ c.requires.serial)) c.requires.attempt).limit
          (or-middle (asks_at_begin c.args.local.now.algorithm) c.args.local.now.granted c.args.local.now.wrote c.if-local.true));
    }

pub log_old-requires-clause-place : goal.log_old-requires-clause-place
log_old-requires-clause-place g c = subst (λ (b : Bool). HasPlace b c.args.a c.args.local.now.undo) c.if-not-has_place.false c.has_place.ensures

pub returns-then-not-has_place-clause-keeps : goal.returns-then-not-has_place-clause-keeps
returns-then-not-has_place-clause-keeps g c =
    let good = g.K.MemRule.good c.args.stm.now.rule in
    let r = c.abort.ensures in (
      r.ended,
      r.gives_up.outside,
      λ o own. (
        quits-back good c.args.stm.now.config c.args.caller c.args.local.now c.args.seat.now.me.0.view c.requires.attempt c.requires.serial
            c.args.seat.now.me.0.view c.abort.new.seat.me.0.view o c.if-local.false (record { more = []; is = refl }) r.gives_up,
        full-by good c.args.stm.now.config c.args.caller c.args.local.now c.args.seat.now.me.0.view c.requires.attempt c.requires.serial
            c.args.a o c.if-local.false own.1
            (subst (λ (b : Bool). HasPlace b c.args.a c.args.local.now.undo) c.if-not-has_place.true c.has_place.ensures),
        c.len-limit.ensures ∙ sym own.1,
      ),
    )

pub returns-in-Err-clause-keeps : goal.returns-in-Err-clause-keeps
returns-in-Err-clause-keeps g c =
    let good = g.K.MemRule.good c.args.stm.now.rule in
    let r = c.abort-in-Err.ensures in (
      r.ended,
      r.gives_up.outside,
      λ o own. (
        quits-back good c.args.stm.now.config c.args.caller c.args.local.now c.args.seat.now.me.0.view c.requires.attempt c.requires.serial
            c.below_limit.new.seat.me.0.view c.abort-in-Err.new.seat.me.0.view o c.if-local.false c.in-Err.ensures.below.0 r.gives_up,
        ap asks_at_write (named good c.args.stm.now.config c.args.caller c.args.local.now c.args.seat.now.me.0.view c.requires.attempt c.requires.serial),
        full-after good c.args.stm.now.config c.args.caller c.args.local.now c.args.seat.now.me.0.view c.requires.attempt c.requires.serial
            c.in-Err.clock c.below_limit.new.seat.me.0.view c.abort-in-Err.new.seat.me.0.view o c.in-Err.ensures.below.2
            (c.in-Err.ensures.below.3 o) r.gives_up,
        room-by good c.args.stm.now.config c.args.caller c.args.local.now c.args.seat.now.me.0.view c.requires.attempt c.requires.serial
            c.args.a o c.if-local.false own.1
            (subst (λ (b : Bool). HasPlace b c.args.a c.args.local.now.undo) c.if-not-has_place.false c.has_place.ensures),
      ),
    )

pub returns-clause-keeps : goal.returns-clause-keeps
returns-clause-keeps g c =
    record {
      is = c.log_old.ensures.logs.local;
      undo_len = c.log_old.ensures.logs.undo_len;
      writes_len = c.log_old.ensures.logs.writes_len;
      marks = c.log_old.ensures.logs.marks;
      marks_limit = c.log_old.ensures.logs.marks_limit;
      may =
          may-store-logged (g.K.MemRule.good c.args.stm.now.rule) c.args.stm.now.config c.args.caller c.args.local.now
          c.args.seat.now.me.0.view c.requires.attempt c.requires.serial c.args.a c.args.x c.below_limit.new.seat.me.0.view
          c.log_old.new.seat.me.0.view c.log_old.new.local c.requires.inside
          (ap (λ k. fenced k c.args.a) (sym c.requires.attempt.spared.is) ∙ c.requires.spared)
          (subst (λ (b : Bool). HasPlace b c.args.a c.args.local.now.undo) c.if-not-has_place.false c.has_place.ensures) c.if-local.false
          c.in_default.ensures.below.1 c.in_default.ensures.below.0 c.log_old.ensures.logs;
    }
