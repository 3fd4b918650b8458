use Rattle.std.proofs.Common.{◌≡◌, ◌-◌, ◌+◌, length, take, refl, sym, subst, ◌∙◌, arith, get_or, add-one, ◌∷◌, [], ◌++◌}
use Rattle.std.proofs.Math.Seq.{take-suc, take_all}
use Rattle.std.proofs.lemmas.List.Elements.{All-get_or}
use Rattle.std.proofs.lemmas.Result.{err_from_is_err_and}
use Rattle.work_script.specs.Operations.{OnlyReads}
use Rattle.work_script.specs.ScriptLaws.{GaveOver, GaveUpTo, gives-none}
use Rattle.work_script.specs.Scripts.{run}
use Rattle.work_script.proofs.KeptLogs.{keeps-gave, keeps-run}
use Rattle.work_script.proofs.Rooms.{room-reply}
use Rattle.work_script.proofs.RunLaws.{gave-more, same-explained, if-err}
use Rattle.work_script.specs.declared.op.Op.TheVariants.{Read}
use Rattle.work_script.proofs.interpret.perform_all.Goals as goal

pub loop-op-init : goal.loop-op-init
loop-op-init g c = record {
  going = c.requires.going;
  words = refl;
  good = λ m. ((λ h. h), (λ h. h));
  keeps = g.met.A.Access.keeps_refl _;
  within = c.requires.within;
  well = c.requires.well;
  kept_room = refl;
  room = (let a = c.requires.room.0 in omega arith, let b = c.requires.room.1 in omega arith);
  left = λ n h. (let a = h.0 in omega arith, let b = h.1 in omega arith);
  explained = λ e. e;
  gave = λ m good len ex. gives-none c.args.regions.now m (g.A.Access.log c.args.acc.now) c.args.out.now ex;
}

pub loop-op-preserved : goal.loop-op-preserved
loop-op-preserved g c =
    let s = c.args.ops.now in
    let i = c.loop-op.op-index in
    let op = get_or s i (Read 0) in
    let good = g.A.Access.good c.args.acc.now in
    let words = g.A.Access.words c.args.acc.now in
    let regions = c.args.regions.now in
    let inv = c.loop-op.invariant in
    let step = c.in_ok-perform.ensures in
    let more : take (i + 1) s ≡ take i s ++ op ∷ [] = rw add-one (take-suc s i (Read 0) c.loop-op-test.true) in
    record {
      going = step.goes;
      words = step.words ∙ inv.words;
      good = λ m. ((λ h. (step.good m).0 ((inv.good m).0 h)), (λ h. (inv.good m).1 ((step.good m).1 h)));
      keeps = g.met.A.Access.keeps_trans _ _ _ inv.keeps step.keeps;
      within = inv.within;
      well = step.well;
      kept_room = step.kept_room ∙ inv.kept_room;
      room = room-reply c.loop-op.out _ op _ (length s - (i + 1)) step.told (let a = inv.room.0 in let b = inv.room.1 in let lt = c.loop-op-test.true in (omega arith, omega arith));
      left = λ n h. room-reply c.loop-op.out _ op _ (length s - (i + 1) + n) step.told (let k = inv.left n h in let a = k.0 in let b = k.1 in let lt = c.loop-op-test.true in (omega arith, omega arith));
      explained = λ e. step.explained (inv.explained e);
      gave = subst (λ ops. GaveOver good words (run regions ops) (g.A.Access.log c.args.acc.now) c.args.out.now (g.A.Access.log c.perform.new.acc) c.perform.new.out) (sym more)
          (gave-more good words regions (take i s) op _ _ _ _ _ _ inv.gave (λ m fine len ex. step.gave m ((inv.good m).0 fine) (len ∙ sym inv.words) ex));
    }

pub returns-clause-gave : goal.returns-clause-gave
returns-clause-gave g c =
    let good = g.A.Access.good c.args.acc.now in
    let words = g.A.Access.words c.args.acc.now in
    let all : take c.loop-op.op-index c.args.ops.now ≡ c.args.ops.now = take_all c.loop-op.op-index c.args.ops.now c.loop-op-test.false in
    subst (λ ops. GaveOver good words (run c.args.regions.now ops) (g.A.Access.log c.args.acc.now) c.args.out.now (g.A.Access.log c.loop-op.acc) c.loop-op.out) all c.loop-op.invariant.gave

pub returns-clause-keeps_rule : goal.returns-clause-keeps_rule
returns-clause-keeps_rule g c = λ each.
    let good = g.A.Access.good c.args.acc.now in
    let words = g.A.Access.words c.args.acc.now in
    keeps-gave good words (run c.args.regions.now c.args.ops.now) (g.A.Access.log c.args.acc.now) c.args.out.now (g.A.Access.log c.loop-op.acc) c.loop-op.out (returns-clause-gave g c) (keeps-run good words c.args.regions.now c.args.ops.now each)

pub returns-clause-room : goal.returns-clause-room
returns-clause-room g c = λ n h. let k = c.loop-op.invariant.left n h in let a = k.0 in let b = k.1 in let lt = c.loop-op-test.false in (omega arith, omega arith)

pub returns-in_err-perform-clause-cause : goal.returns-in_err-perform-clause-cause
returns-in_err-perform-clause-cause g c = λ all.
    let s = c.args.ops.now in
    let p = err_from_is_err_and c.from_residual.result c.from_residual.ensures.1 in
    let stop = c.in_err-perform.ensures.cause (All-get_or OnlyReads s c.loop-op.op-index (Read 0) c.loop-op-test.true all) in
    rw (p.1, p.2) stop

pub returns-in_err-perform-clause-gave_up_to : goal.returns-in_err-perform-clause-gave_up_to
returns-in_err-perform-clause-gave_up_to g c =
    let inv = c.loop-op.invariant in
    let good = g.A.Access.good c.args.acc.now in
    let words = g.A.Access.words c.args.acc.now in
    let log = g.A.Access.log c.args.acc.now in
    let before = c.args.out.now in
    let stopped : GaveUpTo good words c.args.regions.now c.args.ops.now log before c.loop-op.out = record {
      count = c.loop-op.op-index;
      log = g.A.Access.log c.loop-op.acc;
      within = c.loop-op-test.true;
      explained = λ e. same-explained good (g.A.Access.good c.loop-op.acc) words (g.A.Access.words c.loop-op.acc) (g.A.Access.log c.loop-op.acc) inv.good inv.words (inv.explained e);
      gave = inv.gave;
    } in
    if-err (GaveUpTo good words c.args.regions.now c.args.ops.now log before c.perform.new.out) c.from_residual.result
    (subst (λ o. GaveUpTo good words c.args.regions.now c.args.ops.now log before o) (sym c.in_err-perform.ensures.untold) stopped)
