use Rattle.std.proofs.Common.{◌≡◌, ◌<◌, ◌≤◌, [], ◌++◌, ◌∷◌, length, get_or, ap, ◌∙◌, arith}
use Rattle.std.proofs.lemmas.List.{length-set, get_or_default}
use Rattle.stm_logs.specs.declared.marks.Mark.{Mark}
use Rattle.stm_logs.specs.LogStates.{LogState}
use Rattle.stm_logs.specs.Marks.{blank_mark}
use Rattle.stm_logs.proofs.MarkTies.{mark-tied, rooms-set, length-marks}
use Rattle.stm_logs.proofs.write_log.WriteLog.mark.Goals as goal

pub index_mut-requires : goal.index_mut-requires
index_mut-requires c =
    let i = c.self.invariant in
    let s = length-marks c.self.inside.marks.items c.self.inside.depth c.self.inside.log.items (omega (arith, i.0)) in
    let v = ap (λ (l : LogState). length l.marks) c.self.view_is in
    let w = ap (λ (l : LogState). l.marks_limit) c.self.view_is in
    let r = c.requires in
    omega (arith, i.0)

pub invariant_of-self : goal.invariant_of-self
invariant_of-self c =
    let i = c.self.invariant in
    let ms = c.self.inside.marks.items in
    let d = c.self.inside.depth in
    let ws = c.self.inside.log.items in
    let n = c.begin.new.mark in
    let low : d < length ms = (let s = length-marks ms d ws (omega (arith, i.0)) in let v = ap (λ (l : LogState). length l.marks) c.self.view_is in let w = ap (λ (l : LogState). l.marks_limit) c.self.view_is in let r = c.requires in omega (arith, i.0)) in
    let old : c.index_mut.result.now ≡ get_or ms d blank_mark = c.index_mut.ensures.value ∙ get_or_default ms d c.index_mut.result.now blank_mark low in
    let room : c.self.inside.log.len ≤ n.olds.len = (let r = i.1 d low in let e = ap (λ (m : Mark). m.olds.len) c.begin.ensures in let f = ap (λ (m : Mark). m.olds.len) old in omega arith) in (
      (let s = length-set ms d n in omega (arith, low)),
      rooms-set c.self.inside.log.len ms d n i.1 room,
      (mark-tied ms d n ws low (ap (λ (m : Mark). m.count) c.begin.ensures ∙ c.count-count.ensures.count) (ap (λ (m : Mark). m.olds.items) c.begin.ensures) i.2).0,
    )

pub returns : goal.returns
returns c =
    let i = c.self.invariant in
    let ms = c.self.inside.marks.items in
    let d = c.self.inside.depth in
    let g = c.self.inside.log in
    let n = c.begin.new.mark in
    let low : d < length ms = (let s = length-marks ms d g.items (omega (arith, i.0)) in let v = ap (λ (l : LogState). length l.marks) c.self.view_is in let w = ap (λ (l : LogState). l.marks_limit) c.self.view_is in let r = c.requires in omega (arith, i.0)) in
    let marks =
    (mark-tied ms d n g.items low (ap (λ (m : Mark). m.count) c.begin.ensures ∙ c.count-count.ensures.count)
    (ap (λ (m : Mark). m.olds.items) c.begin.ensures) i.2).1 in
    (λ j. let l : LogState = record g { marks = marks j; marks_limit = length-set ms d n j } in l)
    ∙ ap (λ (l : LogState). let k : LogState = record l { marks = l.marks ++ l.items ∷ [] } in k) c.self.view_is
