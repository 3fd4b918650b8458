use Rattle.std.proofs.Common.{rules, ◌≡◌, ◌<◌, ◌≤◌, ◌≢◌, ◌+◌, ◌-◌, ◌∙◌, refl, sym, ap, arith, subst, inl, inr, ℕ, suc, List, true, false, nat_eq}
use Rattle.std.specs.Prelude.{not, slice_index}
use Rattle.stm_model.specs.Memories.{is_empty}
use Rattle.data_effects.specs.EffectLaws.{shows-none, shows-read, shown, same-trans}
use Rattle.data_tree.proofs.ShapeWalks.{side-inside}
use Rattle.data_sums.specs.Sums.{pool, LinksFrom, tag, tag_at, raised, raised_in, mended_in}
use Rattle.data_sums.proofs.SumWalks.{Walks, Mending, mending-over, walks-shown, walks-read, walks-does, walked, walks-end, does-wrote, mending-begins, mending-ends, mending-stops, mending-found, mending-on, word-most, mended-is, wrote-true, wrote-here}
use Rattle.data_sums.proofs.sum_map.SumMap.mend.Goals.{In_ok-found}
use Rattle.data_sums.proofs.sum_map.SumMap.mend.Goals as goal

pub loop-step-init : goal.loop-step-init
loop-step-init g c =
    let good = g.A.Access.good c.args.acc.now in
    let words = g.A.Access.words c.args.acc.now in
    let log = g.A.Access.log c.args.acc.now in
    let r = c.args.self.now in
    let key = c.args.key in
    let from = c.args.from in
    let d = c.args.by in
    let v = c.in_ok-link.link in
    let one = c.in_ok-link.ensures in
    let b = not (nat_eq v 0) in
    let shows = shows-read good words log log _ (LinksFrom r from) (λ m. LinksFrom r from m × (v ≡ slice_index m from)) from v
    (shows-none good words log (LinksFrom r from) c.requires.links) refl (omega arith) one.value (λ m w e. (w, e)) in
    record {
      going = one.goes;
      words = one.words;
      good = one.good;
      keeps = one.keeps;
      explained = one.explained;
      below =
          shown good words log (g.A.Access.log c.read.new.self) _ _ (λ m. LinksFrom r from m × (v ≡ slice_index m from)) (v ≤ r.cells) shows
          one.good one.words one.explained (λ m h. let le = h.0.from in let e = h.1 in omega arith);
      wrote = inl (refl, one.value.0, refl);
      walks = walks-shown good words log (g.A.Access.log c.read.new.self) (λ m. LinksFrom r from m × (v ≡ slice_index m from)) (Mending r from key d v (r.cells - 0) b) shows one.value.0
          (λ m h. let q : r.cells - 0 ≡ r.cells = omega arith in subst (λ n. Mending r from key d v n b m m) (sym q) (mending-begins r from key d v m h.1 h.0.links));
    }

pub returns-then-link-eq0-clause-reply : goal.returns-then-link-eq0-clause-reply
returns-then-link-eq0-clause-reply g c =
    let r = c.args.self.now in
    let inv = c.loop-step.invariant in
    let z = c.if-link-eq0.true in
    mending-over (g.A.Access.good c.args.acc.now) (g.A.Access.words c.args.acc.now) (g.A.Access.log c.args.acc.now)
    (g.A.Access.log c.loop-step.acc) r c.args.from c.args.key c.args.by c.loop-step.link (r.cells - c.loop-step._step) c.loop-step._step
    (not (nat_eq c.in_ok-link.link 0)) inv.walks inv.wrote (λ e. z) (λ x. mending-ends r c.args.key c.args.by c.loop-step.link _ x z)

pub returns-clause-reply : goal.returns-clause-reply
returns-clause-reply g c =
    let r = c.args.self.now in
    let inv = c.loop-step.invariant in
    let z = c.loop-step-test.false in
    let below = inv.below in
    let q : r.cells - c.loop-step._step ≡ 0 = omega arith in
    mending-over (g.A.Access.good c.args.acc.now) (g.A.Access.words c.args.acc.now) (g.A.Access.log c.args.acc.now)
    (g.A.Access.log c.loop-step.acc) r c.args.from c.args.key c.args.by c.loop-step.link (r.cells - c.loop-step._step) c.loop-step._step
    (not (nat_eq c.in_ok-link.link 0)) inv.walks inv.wrote (λ e. omega arith) (λ x.
    mending-stops r c.args.key c.args.by c.loop-step.link _ x q)

-- with the cell's sum raised, and its tag read: y is the memory before the raise
raised-walk : (g : _) (c : In_ok-found g) → Walks (g.A.Access.good c.args.acc.now) (g.A.Access.words c.args.acc.now) (g.A.Access.log c.args.acc.now) (g.A.Access.log c.read-in-loop-step.new.self)
    (λ m x.
    (y : List ℕ)
    × Mending c.args.self.now c.args.from c.args.key c.args.by c.loop-step.link (c.args.self.now.cells - c.loop-step._step)
    (not (nat_eq c.in_ok-link.link 0)) m y × (x ≡ raised c.args.self.now c.args.by (c.loop-step.link - 1) y)
    × (c.in_ok-found.found ≡ tag c.args.self.now (raised c.args.self.now c.args.by (c.loop-step.link - 1) y) (c.loop-step.link - 1)))
raised-walk g c =
    let good = g.A.Access.good c.args.acc.now in
    let words = g.A.Access.words c.args.acc.now in
    let log = g.A.Access.log c.args.acc.now in
    let r = c.args.self.now in
    let d = c.args.by in
    let inv = c.loop-step.invariant in
    let v = c.loop-step.link in
    let j = v - 1 in
    let t = c.in_ok-found.found in
    let z = c.if-link-eq0.false in
    let below = inv.below in
    let within = c.requires.within.1.0 in
    let M = λ (m y : List ℕ). Mending r c.args.from c.args.key d v (r.cells - c.loop-step._step) (not (nat_eq c.in_ok-link.link 0)) m y in
    let w1 = walks-does good words log (g.A.Access.log c.loop-step.acc) (g.A.Access.log c.raise.new.acc) _ _ M
    (λ m x. (y : List ℕ) × M m y × (x ≡ raised r d j y)) (raised_in r d j) c.in_ok-raise.field-0 inv.walks inv.good inv.words
    c.in_ok-raise.ensures.reply
    (λ m x h i. (x, h, refl)) in
    walks-read good words log (g.A.Access.log c.raise.new.acc) (g.A.Access.log c.read-in-loop-step.new.self)
    (λ m x. (y : List ℕ) × M m y × (x ≡ raised r d j y))
    (λ m x. (y : List ℕ) × M m y × (x ≡ raised r d j y) × (t ≡ tag r (raised r d j y) j)) (tag_at r j) t w1 (omega arith)
    c.in_ok-found.ensures.value
    (λ m x h i. (h.0, h.1, h.2, i ∙ ap (λ q. tag r q j) h.2))

raised-wrote : (g : _) (c : In_ok-found g) → (is_empty (g.A.Access.log c.read-in-loop-step.new.self).writes ≡ false) × (not (nat_eq c.in_ok-link.link 0) ≡ true)
raised-wrote g c =
    let one = c.in_ok-raise.ensures in
    let z = c.if-link-eq0.false in (
      ap is_empty c.in_ok-found.ensures.value.0
          ∙ does-wrote (g.A.Access.good c.loop-step.acc) (g.A.Access.words c.loop-step.acc) (g.A.Access.log c.loop-step.acc)
          (g.A.Access.log c.raise.new.acc) _ _ (raised_in c.args.self.now c.args.by (c.loop-step.link - 1)) c.in_ok-raise.field-0 one.reply
          one.frame.good one.frame.words one.frame.explained (λ m. refl),
      wrote-true c.loop-step._step (g.A.Access.log c.args.acc.now) (g.A.Access.log c.loop-step.acc) _ c.loop-step.link c.loop-step.invariant.wrote (λ x. absurd (omega arith)),
    )

pub returns-then-found-tag-clause-reply : goal.returns-then-found-tag-clause-reply
returns-then-found-tag-clause-reply g c =
    let f = (goal.at.returns-then-found-tag-clause-reply g c).In_ok-found in
    let log = g.A.Access.log c.args.acc.now in
    let r = c.args.self.now in
    let key = c.args.key in
    let d = c.args.by in
    let v = c.loop-step.link in
    let b = not (nat_eq c.in_ok-link.link 0) in
    let n = r.cells - c.loop-step._step in
    let z = c.if-link-eq0.false in
    let s = c.loop-step-test.true in
    let pos : 0 < n = omega arith in
    let e : v ≡ suc (v - 1) = omega arith in
    let wrote = raised-wrote g f in
    walks-end (g.A.Access.good c.args.acc.now) (g.A.Access.words c.args.acc.now) log (g.A.Access.log c.read-in-loop-step.new.self)
    (mended_in r c.args.from key d) b b (wrote-here log (g.A.Access.log c.read-in-loop-step.new.self) b wrote.0 wrote.1)
    (λ m fine len ex.
    let p = raised-walk g f m fine len ex in
    let h = p.1 in (
      p.0,
      mended-is r c.args.from key d b _ _
          (h.1.on ∙ (mending-found r key d v n (v - 1) c.in_ok-found.found h.0 e pos h.3 c.if-found-tag.true ∙ sym h.2)) h.1.first,
    ))

pub loop-step-preserved : goal.loop-step-preserved
loop-step-preserved g c =
    let good = g.A.Access.good c.args.acc.now in
    let words = g.A.Access.words c.args.acc.now in
    let log = g.A.Access.log c.args.acc.now in
    let r = c.args.self.now in
    let key = c.args.key in
    let from = c.args.from in
    let d = c.args.by in
    let inv = c.loop-step.invariant in
    let v = c.loop-step.link in
    let j = v - 1 in
    let b = not (nat_eq c.in_ok-link.link 0) in
    let n = r.cells - c.loop-step._step in
    let less = r.cells - (c.loop-step._step + 1) in
    let t = c.in_ok-found.found in
    let a = c.side.result in
    let u = c.in_ok-link-2.link in
    let one = c.in_ok-raise.ensures in
    let two = c.in_ok-found.ensures in
    let three = c.in_ok-link-2.ensures in
    let z = c.if-link-eq0.false in
    let below = inv.below in
    let within = c.requires.within.1.0 in
    let s = c.loop-step-test.true in
    let e : v ≡ suc j = omega arith in
    let k : n ≡ suc less = omega arith in
    let in' : j < r.cells = omega arith in
    let other : t ≢ key + 1 = λ x. (let y = c.if-found-tag.false in absurd (omega arith)) in
    let f = (goal.at.loop-step-preserved g c).In_ok-found in
    let wrote = raised-wrote g f in
    let near = side-inside (pool r) key j t a c.side.ensures in
    let w3 = walks-read good words log (g.A.Access.log c.read-in-loop-step.new.self) (g.A.Access.log c.read-in-loop-step-2.new.self)
    (λ m x. (y : List ℕ) × Mending r from key d v n b m y × (x ≡ raised r d j y) × (t ≡ tag r (raised r d j y) j))
    (λ m x. Mending r from key d u less b m x × (u ≤ r.cells)) a u (raised-walk g f) (omega arith) three.value
    (λ m x h i. let y : u ≡ slice_index (raised r d j h.0) a = i ∙ ap (λ q. slice_index q a) h.2 in
    (subst (Mending r from key d u less b m) (sym h.2) (mending-on r from key d v n less j t a u b m h.0 h.1 e k h.3 other c.side.ensures y), word-most r from key d v n j t a u b m h.0 h.1 in' c.side.ensures y)) in
    let good' = same-trans _ _ _ inv.good (same-trans _ _ _ one.frame.good (same-trans _ _ _ two.good three.good)) in
    let words' = three.words ∙ (two.words ∙ (one.frame.words ∙ inv.words)) in
    record {
      going = three.goes;
      words = words';
      good = good';
      keeps = g.met.A.Access.keeps_trans _ _ _ inv.keeps (g.met.A.Access.keeps_trans _ _ _ one.frame.keeps (g.met.A.Access.keeps_trans _ _ _ two.keeps three.keeps));
      explained = three.explained;
      below = walked good words log (g.A.Access.log c.read-in-loop-step-2.new.self) _ _ (λ m x. Mending r from key d u less b m x × (u ≤ r.cells)) (u ≤ r.cells) w3 good' words' three.explained (λ m x h. h.1);
      wrote = inr (ap is_empty three.value.0 ∙ wrote.0, wrote.1);
      walks = λ m fine len ex. let p = w3 m fine len ex in (p.0, p.1.0);
    }

pub returns-in_err-raise-clause-frame : goal.returns-in_err-raise-clause-frame
returns-in_err-raise-clause-frame g c =
    record {
      explained = search rules;
      goes = search rules;
      stops = search rules;
      good = same-trans _ _ _ c.loop-step.invariant.good c.in_err-raise.ensures.frame.good;
      words = c.in_err-raise.ensures.frame.words ∙ c.loop-step.invariant.words;
      keeps = g.met.A.Access.keeps_trans _ _ _ c.loop-step.invariant.keeps c.in_err-raise.ensures.frame.keeps;
    }

pub returns-in_err-found-clause-frame : goal.returns-in_err-found-clause-frame
returns-in_err-found-clause-frame g c =
    record {
      explained = search rules;
      goes = search rules;
      stops = search rules;
      good = same-trans _ _ _ c.loop-step.invariant.good (same-trans _ _ _ c.in_ok-raise.ensures.frame.good c.in_err-found.ensures.good);
      words = c.in_err-found.ensures.words ∙ (c.in_ok-raise.ensures.frame.words ∙ c.loop-step.invariant.words);
      keeps = g.met.A.Access.keeps_trans _ _ _ c.loop-step.invariant.keeps (g.met.A.Access.keeps_trans _ _ _ c.in_ok-raise.ensures.frame.keeps c.in_err-found.ensures.keeps);
    }

pub returns-then-found-tag-clause-frame : goal.returns-then-found-tag-clause-frame
returns-then-found-tag-clause-frame g c =
    record {
      explained = search rules;
      goes = search rules;
      stops = search rules;
      good = same-trans _ _ _ c.loop-step.invariant.good (same-trans _ _ _ c.in_ok-raise.ensures.frame.good c.in_ok-found.ensures.good);
      words = c.in_ok-found.ensures.words ∙ (c.in_ok-raise.ensures.frame.words ∙ c.loop-step.invariant.words);
      keeps = g.met.A.Access.keeps_trans _ _ _ c.loop-step.invariant.keeps (g.met.A.Access.keeps_trans _ _ _ c.in_ok-raise.ensures.frame.keeps c.in_ok-found.ensures.keeps);
    }

pub returns-in_err-link-2-clause-frame : goal.returns-in_err-link-2-clause-frame
returns-in_err-link-2-clause-frame g c =
    record {
      explained = search rules;
      goes = search rules;
      stops = search rules;
      good = same-trans _ _ _ c.loop-step.invariant.good (same-trans _ _ _ c.in_ok-raise.ensures.frame.good (same-trans _ _ _ c.in_ok-found.ensures.good c.in_err-link-2.ensures.good));
      words = c.in_err-link-2.ensures.words ∙ (c.in_ok-found.ensures.words ∙ (c.in_ok-raise.ensures.frame.words ∙ c.loop-step.invariant.words));
      keeps = g.met.A.Access.keeps_trans _ _ _ c.loop-step.invariant.keeps (g.met.A.Access.keeps_trans _ _ _ c.in_ok-raise.ensures.frame.keeps (g.met.A.Access.keeps_trans _ _ _ c.in_ok-found.ensures.keeps c.in_err-link-2.ensures.keeps));
    }
