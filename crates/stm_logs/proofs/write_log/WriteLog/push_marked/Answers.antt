use Rattle.std.proofs.Common.{◌≡◌, ◌<◌, ◌≤◌, ◌-◌, length, get_or, sym, ap, subst, ◌∙◌, arith}
use Rattle.std.proofs.lemmas.List.{get_or_default}
use Rattle.stm_logs.specs.declared.marks.Mark.{Mark}
use Rattle.stm_logs.specs.LogStates.{LogState}
use Rattle.stm_logs.specs.Marks.{Saves, saved, blank_mark}
use Rattle.stm_logs.proofs.MarkTies.{rooms-set, length-marks, top-tied, pushed-stands, pushed-view}
use Rattle.stm_logs.proofs.write_log.WriteLog.push_marked.Goals as goal

pub save-requires-clause-saves : goal.save-requires-clause-saves
save-requires-clause-saves c =
    let i = c.self.invariant in
    let ms = c.self.inside.marks.items in
    let d = c.self.inside.depth in
    let size = length-marks ms d c.self.inside.log.items (omega (arith, i.0)) in
    let some : 0 < d = (let v = ap (λ (l : LogState). length l.marks) c.self.view_is in let r = c.requires in omega arith) in
    let old : c.index_mut.result.now ≡ get_or ms (d - 1) blank_mark = c.index_mut.ensures.value ∙ get_or_default ms (d - 1) c.index_mut.result.now blank_mark (omega (arith, i.0)) in
    subst (λ (m : Mark). Saves m c.self.inside.log.items) (sym old) (top-tied ms d c.self.inside.log.items some (omega (arith, i.0)) i.2).0

pub invariant_of-self : goal.invariant_of-self
invariant_of-self c =
    let i = c.self.invariant in
    let ms = c.self.inside.marks.items in
    let d = c.self.inside.depth in
    let g = c.self.inside.log in
    let n = c.save.new.mark in
    let size = length-marks ms d c.self.inside.log.items (omega (arith, i.0)) in
    let some : 0 < d = (let v = ap (λ (l : LogState). length l.marks) c.self.view_is in let r = c.requires in omega arith) in
    let most : d ≤ length ms = omega (arith, i.0) in
    let old : c.index_mut.result.now ≡ get_or ms (d - 1) blank_mark = c.index_mut.ensures.value ∙ get_or_default ms (d - 1) c.index_mut.result.now blank_mark (omega (arith, i.0)) in
    let is : n ≡ saved c.args.a g.items (get_or ms (d - 1) blank_mark) = c.save.ensures ∙ ap (saved c.args.a g.items) old in
    let room : g.len ≤ n.olds.len = (let r = i.1 (d - 1) (omega arith) in let e = ap (λ (m : Mark). m.olds.len) is in omega arith) in
    pushed-stands ms d c.args.a c.args.v n g c.push.new.self c.push.result some most is c.count-count.ensures.once (rooms-set g.len ms (d - 1) n i.1 room) i.2 c.push.ensures

pub returns : goal.returns
returns c =
    let i = c.self.invariant in
    let ms = c.self.inside.marks.items in
    let d = c.self.inside.depth in
    let g = c.self.inside.log in
    let n = c.save.new.mark in
    let size = length-marks ms d c.self.inside.log.items (omega (arith, i.0)) in
    let some : 0 < d = (let v = ap (λ (l : LogState). length l.marks) c.self.view_is in let r = c.requires in omega arith) in
    let most : d ≤ length ms = omega (arith, i.0) in
    let old : c.index_mut.result.now ≡ get_or ms (d - 1) blank_mark = c.index_mut.ensures.value ∙ get_or_default ms (d - 1) c.index_mut.result.now blank_mark (omega (arith, i.0)) in
    let is : n ≡ saved c.args.a g.items (get_or ms (d - 1) blank_mark) = c.save.ensures ∙ ap (saved c.args.a g.items) old in
    rw (← c.self.view_is) (pushed-view ms d c.args.a c.args.v n g c.push.new.self c.push.result some most is c.count-count.ensures.once i.2 c.push.ensures)
