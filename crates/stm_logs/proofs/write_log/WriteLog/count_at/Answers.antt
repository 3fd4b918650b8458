use Rattle.std.proofs.Common.{◌≡◌, ◌<◌, ◌-◌, [], length, get_or, sym, ap, ◌∙◌, arith}
use Rattle.std.proofs.lemmas.List.{get_or_default}
use Rattle.stm_logs.specs.declared.marks.Mark.{Mark}
use Rattle.stm_logs.specs.LogStates.{LogState}
use Rattle.stm_logs.specs.Marks.{blank_mark}
use Rattle.stm_logs.proofs.MarkTies.{length-marks, count-marked}
use Rattle.stm_logs.proofs.write_log.WriteLog.count_at.Goals as goal

pub index-requires : goal.index-requires
index-requires c =
    let i = c.self.invariant in
    let size = length-marks c.self.inside.marks.items c.self.inside.depth c.self.inside.log.items (omega (arith, i.0)) in
    let v = ap (λ (l : LogState). length l.marks) c.self.view_is in
    let r = c.requires.high in
    let s = c.requires.low in
    omega (arith, i.0)

pub returns : goal.returns
returns c =
    let i = c.self.invariant in
    let ms = c.self.inside.marks.items in
    let d = c.self.inside.depth in
    let ws = c.self.inside.log.items in
    let size = length-marks ms d ws (omega (arith, i.0)) in
    let high : c.args.depth - 1 < d = (let v = ap (λ (l : LogState). length l.marks) c.self.view_is in let r = c.requires.high in let s = c.requires.low in omega arith) in
    let old : c.index.result.now ≡ get_or ms (c.args.depth - 1) blank_mark = c.index.ensures ∙ get_or_default ms (c.args.depth - 1) c.index.result.now blank_mark (omega (arith, i.0)) in
    ap (λ (m : Mark). m.count) old ∙ (sym (count-marked ms d (c.args.depth - 1) ws high (omega (arith, i.0)) i.2) ∙ ap (λ (l : LogState). length (get_or l.marks (c.args.depth - 1) [])) c.self.view_is)
