use Rattle.std.proofs.Common.{rules, ◌≡◌, ◌<◌, ◌≤◌, ◌≢◌, ◌+◌, ◌-◌, ◌∙◌, suc, refl, sym, get_or, ap, arith, inl}
use Rattle.stm_model.specs.Memories.{overlay}
use Rattle.data_effects.specs.EffectLaws.{shows-none, shows-read, shown, same-trans}
use Rattle.data_tree.specs.Shapes.{top}
use Rattle.data_tree.proofs.ShapeOrder.{cell-end}
use Rattle.data_tree.proofs.ShapeWalks.{find-end, find-stop, find-on, word-inside, side-is, side-inside, side-word}
use Rattle.data_tree.specs.Shapes.{IsShape, find, position_of, tag, tag_at, side_at}
use Rattle.data_tree.proofs.Walking.{Walked}
use Rattle.data_tree.proofs.pool.Pool.find.Goals as goal

pub loop-step-init : goal.loop-step-init
loop-step-init g c =
    let good = g.A.Access.good c.args.acc.now in
    let words = g.A.Access.words c.args.acc.now in
    let log = g.A.Access.log c.args.acc.now in
    let r = c.args.self.now in
    let v = c.in_ok-next.next in
    let one = c.in_ok-next.ensures in
    let inside : r.at < words = (let w = c.requires.within in omega arith) in
    let shows = shows-read good words log log _ (IsShape r) (Walked r c.args.key r.at v (r.cells - 0)) r.at v (shows-none good words log (IsShape r) c.requires.well) refl inside one.value
    (λ m w e. record { well = w; on = (let q : r.cells - 0 ≡ r.cells = omega arith in rw q refl); at = e }) in
    record {
      going = one.goes;
      words = one.words;
      good = one.good;
      keeps = one.keeps;
      writes = one.value.0;
      explained = one.explained;
      inside = inside;
      below = shown good words log (g.A.Access.log c.read.new.self) _ _ (Walked r c.args.key r.at v (r.cells - 0)) (v ≤ r.cells) shows one.good one.words one.explained
          (λ m h. let le = word-inside r m h.well.0 0 top r.at h.well.1 (inl (refl, refl, refl)) in let e = h.at in omega arith);
      shows = shows;
    }

pub returns-clause-inside : goal.returns-clause-inside
returns-clause-inside g c = (c.loop-step.invariant.inside, omega arith, λ e. refl)

pub returns-then-next-eq0-clause-finds : goal.returns-then-next-eq0-clause-finds
returns-then-next-eq0-clause-finds g c = λ m fine len ex.
    let r = c.args.self.now in
    let s = c.loop-step.invariant.shows m fine len ex in
    (s.0, find-end r _ c.args.key (r.cells - c.loop-step._step) c.loop-step.link c.loop-step.next s.1.at c.if-next-eq0.true ∙ sym s.1.on)

pub returns-then-tag-key-clause-finds : goal.returns-then-tag-key-clause-finds
returns-then-tag-key-clause-finds g c =
    let r = c.args.self.now in
    let a = c.loop-step.link in
    let v = c.loop-step.next in
    let j = v - 1 in
    let t = c.in_ok-tag.tag in
    let n = r.cells - c.loop-step._step in
    let inv = c.loop-step.invariant in
    let z = c.if-next-eq0.false in
    let b = inv.below in
    let w = c.requires.within in
    let s = c.loop-step-test.true in
    let pos : 0 < n = omega arith in
    let e : v ≡ suc j = omega arith in
    let room = cell-end r j (omega arith) in
    let same = c.if-tag-key.true in
    shows-read (g.A.Access.good c.args.acc.now) (g.A.Access.words c.args.acc.now) (g.A.Access.log c.args.acc.now) _ _
    (Walked r c.args.key a v n) (λ m. record { link = a; next = v; tag = t } ≡ position_of r m c.args.key) (tag_at r j) t inv.shows
    inv.writes
    (omega arith) c.in_ok-tag.ensures.value (λ m h x. find-stop r m c.args.key n a v j t pos h.at e x same ∙ sym h.on)

pub loop-step-preserved : goal.loop-step-preserved
loop-step-preserved g c =
    let good = g.A.Access.good c.args.acc.now in
    let words = g.A.Access.words c.args.acc.now in
    let log = g.A.Access.log c.args.acc.now in
    let r = c.args.self.now in
    let key = c.args.key in
    let a = c.loop-step.link in
    let v = c.loop-step.next in
    let j = v - 1 in
    let t = c.in_ok-tag.tag in
    let d = c.side-link.result in
    let u = c.in_ok-next-2.next in
    let n = r.cells - c.loop-step._step in
    let less = r.cells - (c.loop-step._step + 1) in
    let inv = c.loop-step.invariant in
    let one = c.in_ok-tag.ensures in
    let two = c.in_ok-next-2.ensures in
    let z = c.if-next-eq0.false in
    let b = inv.below in
    let w = c.requires.within in
    let s = c.loop-step-test.true in
    let e : v ≡ suc j = omega arith in
    let k : n ≡ suc less = omega arith in
    let in' : j < r.cells = omega arith in
    let room = cell-end r j in' in
    let other : t ≢ key + 1 = λ x. (let f = c.if-tag-key.false in absurd (omega arith)) in
    let near = side-inside r key j t d c.side-link.ensures in
    let tags = shows-read good words log _ _ (Walked r key a v n) (λ m. Walked r key a v n m × (t ≡ tag r m j)) (tag_at r j) t inv.shows inv.writes (omega arith) one.value (λ m h x. (h, x)) in
    let shows = shows-read good words log _ _ (λ m. Walked r key a v n m × (t ≡ tag r m j)) (λ m. Walked r key d u less m × (d ≡ side_at r m key j)) d u tags (one.value.0 ∙ inv.writes) (omega arith) two.value
    (λ m h x. let y = side-is r m key j t d h.1 c.side-link.ensures in
    (record { well = h.0.well; on = h.0.on ∙ (find-on r m key n less a v j t k h.0.at e h.1 other ∙ ap (find r m key less) (sym y)); at = x }, y)) in
    let good' = same-trans _ _ _ inv.good (same-trans _ _ _ one.good two.good) in
    let words' = two.words ∙ (one.words ∙ inv.words) in
    record {
      going = two.goes;
      words = words';
      good = good';
      keeps = g.met.A.Access.keeps_trans _ _ _ inv.keeps (g.met.A.Access.keeps_trans _ _ _ one.keeps two.keeps);
      writes = two.value.0 ∙ (one.value.0 ∙ inv.writes);
      explained = two.explained;
      inside = omega arith;
      below = shown good words log (g.A.Access.log c.read-in-loop-step-2.new.self) _ _ (λ m. Walked r key d u less m × (d ≡ side_at r m key j)) (u ≤ r.cells) shows good' words' two.explained
          (λ m h. let x = h.0.at in let le = side-word r m h.0.well.0 key j h.0.well.1 in' in let y : get_or m d 0 ≡ get_or m (side_at r m key j) 0 = ap (λ i. get_or m i 0) h.1 in omega arith);
      shows = λ m fine len ex. let x = shows m fine len ex in (x.0, x.1.0);
    }

pub returns-clause-finds : goal.returns-clause-finds
returns-clause-finds g c = λ m fine len ex.
    let r = c.args.self.now in
    let s = c.loop-step.invariant.shows m fine len ex in
    let t = c.loop-step-test.false in
    let q : r.cells - c.loop-step._step ≡ 0 = omega arith in
    (s.0, sym (s.1.on ∙ ap (λ n. find r (overlay m (g.A.Access.log c.args.acc.now).writes) c.args.key n c.loop-step.link) q))

pub returns-in_err-next-2-clause-frame : goal.returns-in_err-next-2-clause-frame
returns-in_err-next-2-clause-frame g c =
    record {
      explained = search rules;
      goes = search rules;
      stops = search rules;
      good = same-trans _ _ _ c.loop-step.invariant.good (same-trans _ _ _ c.in_ok-tag.ensures.good c.in_err-next-2.ensures.good);
      words = c.in_err-next-2.ensures.words ∙ (c.in_ok-tag.ensures.words ∙ c.loop-step.invariant.words);
      keeps = g.met.A.Access.keeps_trans _ _ _ c.loop-step.invariant.keeps (g.met.A.Access.keeps_trans _ _ _ c.in_ok-tag.ensures.keeps c.in_err-next-2.ensures.keeps);
    }
