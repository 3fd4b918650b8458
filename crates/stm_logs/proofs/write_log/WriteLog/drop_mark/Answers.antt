use Rattle.std.proofs.Common.{◌≡◌, ◌<◌, ◌≤◌, ◌-◌, List, ◌++◌, length, get_or, set, take, drop, refl, sym, ap, ◌∙◌, arith}
use Rattle.std.proofs.lemmas.List.{length-set}
use Rattle.stm_logs.specs.declared.marks.Mark.{Mark}
use Rattle.stm_logs.specs.LogStates.{LogState}
use Rattle.stm_logs.specs.Marks.{marked, merged, blank_mark}
use Rattle.stm_logs.proofs.BucketLemmas.{written-over}
use Rattle.stm_logs.proofs.MarkTies.{rooms-set, length-marks, can-merge, dropped-tied}
use Rattle.stm_logs.proofs.write_log.WriteLog.drop_mark.Goals as goal

pub merge-requires-clause-can : goal.merge-requires-clause-can
merge-requires-clause-can c =
    let i = c.self.invariant in
    let ms = c.self.inside.marks.items in
    let d = c.self.inside.depth in
    let g = c.self.inside.log in
    let size = length-marks ms d g.items (omega (arith, i.0)) in
    let some : 1 < d = (let v = ap (λ (l : LogState). length l.marks) c.self.view_is in let r = c.requires in let f = c.if-self-eq1.false in omega arith) in
    rw c.deref_mut.ensures.value (can-merge ms d g.len g.items some (omega (arith, i.0)) i.1 (omega (arith, c.count-count.ensures.count, c.count-count.ensures.within)) i.2)

pub invariant_of-self-2 : goal.invariant_of-self-2
invariant_of-self-2 c =
    let i = c.self.invariant in
    let ms = c.self.inside.marks.items in
    let d = c.self.inside.depth in
    let g = c.self.inside.log in
    let size = length-marks ms d g.items (omega (arith, i.0)) in
    let some : 1 < d = (let v = ap (λ (l : LogState). length l.marks) c.self.view_is in let r = c.requires in let f = c.if-self-eq1.false in omega arith) in
    let most : d ≤ length ms = omega (arith, i.0) in
    let n = merged (get_or ms (d - 1 - 1) blank_mark) (get_or ms (d - 1) blank_mark) in
    let after : c.merge.new.marks ≡ set ms (d - 1 - 1) n = c.merge.ensures ∙ ap
    (λ (ks : List Mark). set ks (d - 1 - 1) (merged (get_or ks (d - 1 - 1) blank_mark) (get_or ks (d - 1) blank_mark)))
    c.deref_mut.ensures.value in
    let long : length c.merge.new.marks ≡ length ms = ap length after ∙ length-set ms (d - 1 - 1) n in
    let whole : take c.self.inside.marks.len (c.merge.new.marks ++ drop (length c.merge.new.marks) ms) ≡ set ms (d - 1 - 1) n =
    written-over {X = Mark} c.merge.new.marks ms c.self.inside.marks.len long (sym c.deref_mut.ensures.len ∙ (ap length c.deref_mut.ensures.value ∙ sym long)) ∙ after in
    let room : g.len ≤ n.olds.len = i.1 (d - 1 - 1) (omega arith) in
    rw whole ((let s = length-set ms (d - 1 - 1) n in omega (arith, i.0)), rooms-set g.len ms (d - 1 - 1) n i.1 room, (dropped-tied ms d n g.items some most refl i.2).0)

pub returns : goal.returns
returns c =
    let i = c.self.invariant in
    let ms = c.self.inside.marks.items in
    let d = c.self.inside.depth in
    let g = c.self.inside.log in
    let size = length-marks ms d g.items (omega (arith, i.0)) in
    let some : 1 < d = (let v = ap (λ (l : LogState). length l.marks) c.self.view_is in let r = c.requires in let f = c.if-self-eq1.false in omega arith) in
    let most : d ≤ length ms = omega (arith, i.0) in
    let n = merged (get_or ms (d - 1 - 1) blank_mark) (get_or ms (d - 1) blank_mark) in
    let after : c.merge.new.marks ≡ set ms (d - 1 - 1) n = c.merge.ensures ∙ ap
    (λ (ks : List Mark). set ks (d - 1 - 1) (merged (get_or ks (d - 1 - 1) blank_mark) (get_or ks (d - 1) blank_mark)))
    c.deref_mut.ensures.value in
    let long : length c.merge.new.marks ≡ length ms = ap length after ∙ length-set ms (d - 1 - 1) n in
    let whole : take c.self.inside.marks.len (c.merge.new.marks ++ drop (length c.merge.new.marks) ms) ≡ set ms (d - 1 - 1) n =
    written-over {X = Mark} c.merge.new.marks ms c.self.inside.marks.len long (sym c.deref_mut.ensures.len ∙ (ap length c.deref_mut.ensures.value ∙ sym long)) ∙ after in
    ap (λ (ks : List Mark). let l : LogState = record g { marks = marked (take (d - 1) ks) g.items; marks_limit = length ks } in l) whole
    ∙ ((λ j. let l : LogState = record g { marks = (dropped-tied ms d n g.items some most refl i.2).1 j; marks_limit = length-set ms (d - 1 - 1) n j } in l)
    ∙ ap (λ (l : LogState). let k : LogState = record l { marks = take (length l.marks - 1) l.marks } in k) c.self.view_is)
