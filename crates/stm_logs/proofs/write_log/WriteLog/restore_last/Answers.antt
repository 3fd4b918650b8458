use Rattle.std.proofs.Common.{◌≡◌, ◌<◌, ◌≤◌, ◌-◌, [], length, get_or, set, take, sym, ap, subst, ◌∙◌, arith}
use Rattle.std.proofs.lemmas.List.{length-set, get_or_default}
use Rattle.stm_logs.specs.declared.marks.Mark.{Mark}
use Rattle.stm_logs.specs.LogStates.{LogState, firsts}
use Rattle.stm_logs.specs.Marks.{Saves, marked, at_mark, emptied_mark, blank_mark}
use Rattle.stm_logs.proofs.MarkTies.{rooms-set, length-marks, top-tied, restored-tied, last-marked, at-prefix}
use Rattle.stm_logs.proofs.write_log.WriteLog.restore_last.Goals as goal

pub restore-requires : goal.restore-requires
restore-requires c =
    let i = c.self.invariant in
    let ms = c.self.inside.marks.items in
    let d = c.self.inside.depth in
    let size = length-marks ms d c.self.inside.log.items (omega (arith, i.0)) in
    let some : 0 < d = (let v = ap (λ (l : LogState). length l.marks) c.self.view_is in let r = c.requires in omega arith) in
    let old : c.index_mut.result.now ≡ get_or ms (d - 1) blank_mark = c.index_mut.ensures.value ∙ get_or_default ms (d - 1) c.index_mut.result.now blank_mark (omega (arith, i.0)) in
    record { saves = subst (λ (m : Mark). Saves m c.self.inside.log.items) (sym old) (top-tied ms d c.self.inside.log.items some (omega (arith, i.0)) i.2).0 }

pub invariant_of-self : goal.invariant_of-self
invariant_of-self c =
    let i = c.self.invariant in
    let ms = c.self.inside.marks.items in
    let d = c.self.inside.depth in
    let g = c.self.inside.log in
    let n = c.restore.new.mark in
    let size = length-marks ms d g.items (omega (arith, i.0)) in
    let some : 0 < d = (let v = ap (λ (l : LogState). length l.marks) c.self.view_is in let r = c.requires in omega arith) in
    let most : d ≤ length ms = omega (arith, i.0) in
    let old : c.index_mut.result.now ≡ get_or ms (d - 1) blank_mark = c.index_mut.ensures.value ∙ get_or_default ms (d - 1) c.index_mut.result.now blank_mark (omega arith) in
    let is : n ≡ emptied_mark (get_or ms (d - 1) blank_mark) = c.restore.ensures.mark ∙ ap emptied_mark old in
    let room : g.len ≤ n.olds.len = (let r = i.1 (d - 1) (omega arith) in let e = ap (λ (m : Mark). m.olds.len) is in omega arith) in
    let log = c.restore.ensures.log ∙ ap (λ (m : Mark). let k : LogState = record g { items = at_mark m g.items } in k) old in
    rw log ((let s = length-set ms (d - 1) n in omega (arith, i.0)), rooms-set g.len ms (d - 1) n i.1 room, (restored-tied ms d n g.items some most is i.2).0)

pub returns-clause-restored : goal.returns-clause-restored
returns-clause-restored c =
    let i = c.self.invariant in
    let ms = c.self.inside.marks.items in
    let d = c.self.inside.depth in
    let g = c.self.inside.log in
    let n = c.restore.new.mark in
    let size = length-marks ms d g.items (omega (arith, i.0)) in
    let some : 0 < d = (let v = ap (λ (l : LogState). length l.marks) c.self.view_is in let r = c.requires in omega arith) in
    let most : d ≤ length ms = omega (arith, i.0) in
    let old : c.index_mut.result.now ≡ get_or ms (d - 1) blank_mark = c.index_mut.ensures.value ∙ get_or_default ms (d - 1) c.index_mut.result.now blank_mark (omega arith) in
    let is : n ≡ emptied_mark (get_or ms (d - 1) blank_mark) = c.restore.ensures.mark ∙ ap emptied_mark old in
    let log = c.restore.ensures.log ∙ ap (λ (m : Mark). let k : LogState = record g { items = at_mark m g.items } in k) old in
    ap (λ (h : LogState). let k : LogState = record h { marks = marked (take d (set ms (d - 1) n)) h.items; marks_limit = length (set ms (d - 1) n) } in k) log
    ∙ ((λ j. let k : LogState = record g { items = sym (last-marked ms d g.items some most) j; marks = (restored-tied ms d n g.items some most is i.2).1 j; marks_limit = length-set ms (d - 1) n j } in k)
    ∙ ap (λ (l : LogState). let k : LogState = record l { items = get_or l.marks (length l.marks - 1) [] } in k) c.self.view_is)

pub returns-clause-prefix : goal.returns-clause-prefix
returns-clause-prefix c =
    let i = c.self.invariant in
    let ms = c.self.inside.marks.items in
    let d = c.self.inside.depth in
    let g = c.self.inside.log in
    let size = length-marks ms d g.items (omega (arith, i.0)) in
    let some : 0 < d = (let v = ap (λ (l : LogState). length l.marks) c.self.view_is in let r = c.requires in omega arith) in
    let most : d ≤ length ms = omega (arith, i.0) in
    let old : c.index_mut.result.now ≡ get_or ms (d - 1) blank_mark = c.index_mut.ensures.value ∙ get_or_default ms (d - 1) c.index_mut.result.now blank_mark (omega arith) in
    let items : c.restore.new.log.items ≡ at_mark (get_or ms (d - 1) blank_mark) g.items = ap (λ (l : LogState). l.items) c.restore.ensures.log ∙ ap (λ (m : Mark). at_mark m g.items) old in
    ap firsts items
    ∙ (at-prefix (get_or ms (d - 1) blank_mark) g.items (top-tied ms d g.items some most i.2).0.count
    ∙ ((λ j. take (length (sym items j)) (firsts g.items))
    ∙ ap (λ (l : LogState). take (length c.restore.new.log.items) (firsts l.items)) c.self.view_is))
