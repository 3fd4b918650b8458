use Rattle.std.proofs.Common.{◌≡◌, ◌≢◌, ◌+◌, ◌-◌, ◌∙◌, suc, set, get_or, arith, true, false}
use Rattle.data_effects.specs.EffectLaws.{does-stay, does-change, shows-read, turns-write, turns-then, under-after, same-trans}
use Rattle.data_cells.specs.Chains.{IsChains, position_of, tag_at, next_at, removed_in}
use Rattle.data_cells.proofs.ChainEffects.{absent-stays, removed, removed-keeps}
use Rattle.data_cells.proofs.chains.Chains.remove.Goals as goal

pub returns-then-position-key-clause-reply : goal.returns-then-position-key-clause-reply
returns-then-position-key-clause-reply g c =
    let r = c.args.self.now in
    let s = c.in_ok-position.position in
    let one = c.in_ok-position.ensures in
    let t = c.if-position-key.true in
    let n : s.tag ≢ c.args.key + 1 = λ e. absurd (omega arith) in
    does-stay (g.A.Access.good c.args.acc.now) (g.A.Access.words c.args.acc.now) (g.A.Access.log c.args.acc.now) (removed_in r c.args.key) _ false (IsChains r) c.requires.well one.writes
    (λ m. s ≡ position_of r m c.args.key) one.finds (λ m w e. absent-stays r m c.args.key w c.requires.within.0 s e n)

pub returns-clause-reply : goal.returns-clause-reply
returns-clause-reply g c =
    let good = g.A.Access.good c.args.acc.now in
    let words = g.A.Access.words c.args.acc.now in
    let log = g.A.Access.log c.args.acc.now in
    let r = c.args.self.now in
    let s = c.in_ok-position.position in
    let key = c.args.key in
    let i = s.next - 1 in
    let v = c.in_ok-after.after in
    let one = c.in_ok-position.ensures in
    let two = c.in_ok-after.ensures in
    let t = c.if-position-key.false in
    let in' = one.inside in
    let pos : s.next ≢ 0 = λ z. (let y = in'.2 z in absurd (omega arith)) in
    let e : s.next ≡ suc i = omega arith in
    let lies = c.requires.within.1 in
    let w1 = turns-write _ _ s.link v c.in_ok-write.ensures.value in
    let w2 = turns-write _ _ (tag_at r i) 0 c.in_ok-write-2.ensures.value in
    let w3 = turns-write _ _ (next_at r i) 0 c.in_ok-write-3.ensures.value in
    does-change good words log (removed_in r key) _ _ true (IsChains r) c.requires.well (two.value.0 ∙ one.writes)
    (λ m. (s ≡ position_of r m key) × (v ≡ get_or m (next_at r i) 0))
    (shows-read good words log _ _ (λ m. s ≡ position_of r m key) (λ m. (s ≡ position_of r m key) × (v ≡ get_or m (next_at r i) 0)) (next_at r i) v one.finds one.writes (omega arith) two.value (λ m h x. (h, x)))
    (λ m. set (set (set m s.link v) (tag_at r i) 0) (next_at r i) 0)
    (turns-then _ _ _ _ _ (turns-then _ _ _ _ _ w1 w2) w3)
    (λ m w h. removed r m key w c.requires.within.0 s i v h.0 (omega arith) e h.1)

pub returns-clause-well : goal.returns-clause-well
returns-clause-well g c =
    let r = c.args.self.now in
    let key = c.args.key in
    let lies = c.requires.within.1 in
    let q0 = c.in_ok-position.ensures in
    let q1 = c.in_ok-after.ensures in
    let q2 = c.in_ok-write.ensures in
    let q3 = c.in_ok-write-2.ensures in
    let q4 = c.in_ok-write-3.ensures in
    under-after (g.A.Access.good c.args.acc.now) (g.A.Access.words c.args.acc.now) (g.A.Access.log c.args.acc.now) (removed_in r key) _ _ _
    true (IsChains r) (IsChains r) (returns-clause-reply g c) c.requires.well
    (same-trans _ _ _ q0.frame.good (same-trans _ _ _ q1.good (same-trans _ _ _ q2.good (same-trans _ _ _ q3.good (q4.good)))))
    (q4.words ∙ (q3.words ∙ (q2.words ∙ (q1.words ∙ q0.frame.words))))
    (λ m len w. removed-keeps r m key w c.requires.within.0 (omega arith))
