use Rattle.std.proofs.Common.{◌≡◌, ℕ, ◌<◌, ◌≤◌, ◌≢◌, ◌+◌, ◌-◌, ◌∙◌, suc, refl, sym, arith, Some}
use Rattle.stm_model.specs.Memories.{overlay}
use Rattle.data_effects.specs.EffectLaws.{shows-read, same-trans}
use Rattle.data_effects.specs.Keys.{free_from}
use Rattle.data_effects.proofs.KeyLaws.{free-on, free-here, free-none}
use Rattle.std.proofs.Math.Nat.{mul-le-mul_left}
use Rattle.data_effects.specs.declared.cells.Cells.{Cells}
use Rattle.data_effects.specs.Tags.{CellsFit, tag, tag_at}
use Rattle.data_effects.proofs.cells.Cells.free_cell.Goals as goal

tag-inside : (r : Cells) (words j : ℕ) → CellsFit r words → j < r.count → tag_at r j < words
tag-inside r words j fits lt = let le : suc j ≤ r.count = omega arith in let m = mul-le-mul_left r.width le in let pos = fits.0 in let room = fits.1 in omega arith

pub loop-cell-init : goal.loop-cell-init
loop-cell-init g c = record {
  going = c.requires.going;
  words = refl;
  good = λ m. ((λ h. h), (λ h. h));
  keeps = g.met.A.Access.keeps_refl _;
  writes = refl;
  explained = c.requires.explained;
  shows = λ m fine len ex. (ex, (let q : c.args.self.now.count - 0 ≡ c.args.self.now.count = omega arith in rw q refl));
}

pub returns-then-tag-eq0-clause-frees : goal.returns-then-tag-eq0-clause-frees
returns-then-tag-eq0-clause-frees g c =
    let r = c.args.self.now in
    let inv = c.loop-cell.invariant in
    let j = c.loop-cell.cell in
    let w = c.requires.within in
    let s = c.loop-cell-test.true in
    let pos : 0 < r.count - j = omega arith in
    let z = c.if-tag-eq0.true in
    shows-read (g.A.Access.good c.args.acc.now) (g.A.Access.words c.args.acc.now) (g.A.Access.log c.args.acc.now) _ _
    (λ m. free_from (tag r m) 0 r.count ≡ free_from (tag r m) j (r.count - j)) (λ m. Some j ≡ free_from (tag r m) 0 r.count) (tag_at r j)
    c.in_ok-tag.tag inv.shows inv.writes
    (tag-inside r _ j w s) c.in_ok-tag.ensures.value (λ m h x. sym (h ∙ free-here (tag r m) j (r.count - j) pos (sym x ∙ z)))

pub loop-cell-preserved : goal.loop-cell-preserved
loop-cell-preserved g c =
    let r = c.args.self.now in
    let inv = c.loop-cell.invariant in
    let one = c.in_ok-tag.ensures in
    let j = c.loop-cell.cell in
    let w = c.requires.within in
    let s = c.loop-cell-test.true in
    let z = c.if-tag-eq0.false in
    let n : r.count - j ≡ suc (r.count - (j + 1)) = omega arith in
    let ne : c.in_ok-tag.tag ≢ 0 = λ e. absurd (omega arith) in
    record {
      going = one.goes;
      words = one.words ∙ inv.words;
      good = same-trans _ _ _ inv.good one.good;
      keeps = g.met.A.Access.keeps_trans _ _ _ inv.keeps one.keeps;
      writes = one.value.0 ∙ inv.writes;
      explained = one.explained;
      shows = shows-read (g.A.Access.good c.args.acc.now) (g.A.Access.words c.args.acc.now) (g.A.Access.log c.args.acc.now) _ _ (λ m. free_from (tag r m) 0 r.count ≡ free_from (tag r m) j (r.count - j))
          (λ m. free_from (tag r m) 0 r.count ≡ free_from (tag r m) (j + 1) (r.count - (j + 1))) (tag_at r j) c.in_ok-tag.tag inv.shows inv.writes
          (tag-inside r _ j w s) one.value (λ m h x. h ∙ free-on (tag r m) j (r.count - j) (r.count - (j + 1)) n (λ e. ne (x ∙ e)));
    }

pub returns-clause-frees : goal.returns-clause-frees
returns-clause-frees g c = λ m fine len ex.
    let r = c.args.self.now in
    let s = c.loop-cell.invariant.shows m fine len ex in
    let t = c.loop-cell-test.false in
    let q : r.count - c.loop-cell.cell ≡ 0 = omega arith in
    (s.0, sym (s.1 ∙ free-none (tag r (overlay m (g.A.Access.log c.args.acc.now).writes)) c.loop-cell.cell (r.count - c.loop-cell.cell) q))
