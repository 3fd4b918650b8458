use Rattle.std.proofs.Common.{◌≡◌, ◌<◌, ◌≢◌, ◌+◌, ◌^◌, ◌∙◌, set, sym, arith}
use Rattle.data_effects.specs.declared.insert.Insert.TheVariants.{Added, Present, NoRoom}
use Rattle.data_effects.specs.EffectLaws.{does-stay, does-change, shows-then, turns-write, turns-then, under-after, same-trans}
use Rattle.data_effects.specs.Keys.{free_from}
use Rattle.data_tree.specs.Trees.{IsTree, position_of, tag, tag_at, inserted_in}
use Rattle.data_tree.proofs.TreeEffects.{present, no-room, added, inserted-keeps}
use Rattle.data_tree.proofs.tree.Tree.insert.Goals as goal

pub returns-then-position-tag-clause-reply : goal.returns-then-position-tag-clause-reply
returns-then-position-tag-clause-reply g c =
    let r = c.args.self.now in
    let s = c.in_ok-position.position in
    let one = c.in_ok-position.ensures in
    let f = c.ranges.key in
    let small : c.args.key < 2 ^ 32 = omega arith in
    does-stay (g.A.Access.good c.args.acc.now) (g.A.Access.words c.args.acc.now) (g.A.Access.log c.args.acc.now) (inserted_in r c.args.key) _ Present (IsTree r) c.requires.well one.writes
    (λ m. s ≡ position_of r m c.args.key) one.finds (λ m w e. present r m c.args.key w small s e c.if-position-tag.true)

pub returns-in-None-clause-reply : goal.returns-in-None-clause-reply
returns-in-None-clause-reply g c =
    let good = g.A.Access.good c.args.acc.now in
    let words = g.A.Access.words c.args.acc.now in
    let log = g.A.Access.log c.args.acc.now in
    let r = c.args.self.now in
    let s = c.in_ok-position.position in
    let o = c.in_ok-free_cell.field-0 in
    let one = c.in_ok-position.ensures in
    let two = c.in_ok-free_cell.ensures in
    let t = c.if-position-tag.false in
    let f = c.ranges.key in
    let small : c.args.key < 2 ^ 32 = omega arith in
    let n : s.tag ≢ c.args.key + 1 = λ e. absurd (omega arith) in
    does-stay good words log (inserted_in r c.args.key) _ NoRoom (IsTree r) c.requires.well (two.writes ∙ one.writes)
    (λ m. (s ≡ position_of r m c.args.key) × (o ≡ free_from (tag r m) 0 r.cells))
    (shows-then good words log (g.A.Access.log c.find.new.acc) (g.A.Access.log c.free_cell.new.acc) _ _ (λ m. s ≡ position_of r m c.args.key) (λ m. o ≡ free_from (tag r m) 0 r.cells) one.finds one.writes one.frame.good one.frame.words two.frees)
    (λ m w e. no-room r m c.args.key w small s e.0 n (sym c.in-None.is ∙ e.1))

pub returns-in_ok-write-in-Some-2-clause-reply : goal.returns-in_ok-write-in-Some-2-clause-reply
returns-in_ok-write-in-Some-2-clause-reply g c =
    let good = g.A.Access.good c.args.acc.now in
    let words = g.A.Access.words c.args.acc.now in
    let log = g.A.Access.log c.args.acc.now in
    let r = c.args.self.now in
    let s = c.in_ok-position.position in
    let o = c.in_ok-free_cell.field-0 in
    let i = c.in-Some.cell in
    let key = c.args.key in
    let one = c.in_ok-position.ensures in
    let two = c.in_ok-free_cell.ensures in
    let t = c.if-position-tag.false in
    let f = c.ranges.key in
    let small : key < 2 ^ 32 = omega arith in
    let n : s.tag ≢ key + 1 = λ e. absurd (omega arith) in
    let w1 = turns-write _ _ (tag_at r i) (key + 1) c.in_ok-write-in-Some.ensures.value in
    let w2 = turns-write _ _ s.link (i + 1) c.in_ok-write-in-Some-2.ensures.value in
    does-change good words log (inserted_in r key) _ _ Added (IsTree r) c.requires.well (two.writes ∙ one.writes)
    (λ m. (s ≡ position_of r m key) × (o ≡ free_from (tag r m) 0 r.cells))
    (shows-then good words log (g.A.Access.log c.find.new.acc) (g.A.Access.log c.free_cell.new.acc) _ _ (λ m. s ≡ position_of r m key) (λ m. o ≡ free_from (tag r m) 0 r.cells) one.finds one.writes one.frame.good one.frame.words two.frees)
    (λ m. set (set m (tag_at r i) (key + 1)) s.link (i + 1))
    (turns-then _ _ _ _ _ w1 w2)
    (λ m w e. added r m key w small s i e.0 n (sym c.in-Some.is ∙ e.1))

pub returns-in_ok-write-in-Some-2-clause-well : goal.returns-in_ok-write-in-Some-2-clause-well
returns-in_ok-write-in-Some-2-clause-well g c =
    let r = c.args.self.now in
    let key = c.args.key in
    let lies = c.requires.within.0 in
    let f = c.ranges.key in
    let small : key < 2 ^ 32 = omega arith in
    let q0 = c.in_ok-position.ensures in
    let q1 = c.in_ok-free_cell.ensures in
    let q2 = c.in_ok-write-in-Some.ensures in
    let q3 = c.in_ok-write-in-Some-2.ensures in
    under-after (g.A.Access.good c.args.acc.now) (g.A.Access.words c.args.acc.now) (g.A.Access.log c.args.acc.now) (inserted_in r key) _ _ _
    Added (IsTree r) (IsTree r) (returns-in_ok-write-in-Some-2-clause-reply g c) c.requires.well
    (same-trans _ _ _ q0.frame.good (same-trans _ _ _ q1.frame.good (same-trans _ _ _ q2.good (q3.good))))
    (q3.words ∙ (q2.words ∙ (q1.frame.words ∙ q0.frame.words)))
    (λ m len w. inserted-keeps r m key w small (omega arith))
