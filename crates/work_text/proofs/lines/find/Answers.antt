use Rattle.std.proofs.Common.{◌≡◌, ◌++◌, ◌∷◌, [], ◌+◌, take, get_or, add-one, sym, subst}
use Rattle.std.proofs.Math.Seq.{take-suc}
use Rattle.work_text.specs.LineLaws.{lacks-snoc}
use Rattle.work_text.specs.Lines.{Lacks}
use Rattle.work_text.proofs.lines.find.Goals as goal

pub loop-i-preserved : goal.loop-i-preserved
loop-i-preserved c =
    let s = c.args.s.now in
    let i = c.loop-i.i in
    let e : take (i + 1) s ≡ take i s ++ get_or s i 0 ∷ [] = rw add-one (take-suc s i 0 c.loop-i-test.true) in
    subst (Lacks c.args.b) (sym e) (lacks-snoc c.args.b (get_or s i 0) (take i s) c.loop-i.invariant c.if-x-b.false)
