use Rattle.std.proofs.Common.{rules, ◌≡◌, ◌+◌, ◌++◌, ◌∷◌, [], take, get_or, add-one, sym, subst, true}
use Rattle.std.proofs.Math.Seq.{take-suc}
use Rattle.work_text.specs.Reading.{is_visible}
use Rattle.work_text.specs.WordLaws.{Visible}
use Rattle.work_text.proofs.ReadingLaws.{visible-snoc}
use Rattle.work_text.proofs.lines.long_word.Goals as goal

pub loop-i-preserved : goal.loop-i-preserved
loop-i-preserved c =
    let s = c.args.s.now in
    let i = c.loop-i.i in
    let e : take (i + 1) s ≡ take i s ++ get_or s i 0 ∷ [] = rw add-one (take-suc s i 0 c.loop-i-test.true) in
    let seen : is_visible (get_or s i 0) ≡ true = search rules in
    subst Visible (sym e) (visible-snoc (take i s) (get_or s i 0) c.loop-i.invariant seen)
