use Rattle.std.proofs.Common.{◌≡◌, ◌≤◌, ◌+◌, ◌-◌, ◌∙◌, suc, refl, arith}
use Rattle.data_effects.specs.EffectLaws.{shows-none, shows-read, shown, same-trans, does-stay}
use Rattle.data_cells.specs.Chains.{IsChains, next_at, counted_in}
use Rattle.data_cells.proofs.ChainLength.{Counted, counted-start, counted-on, counted-inside, counted-end, counted-out}
use Rattle.data_cells.proofs.chains.Chains.len.Goals as goal

pub loop-step-init : goal.loop-step-init
loop-step-init g c =
    let good = g.A.Access.good c.args.acc.now in
    let words = g.A.Access.words c.args.acc.now in
    let log = g.A.Access.log c.args.acc.now in
    let r = c.args.self.now in
    let v = c.in_ok-next.next in
    let one = c.in_ok-next.ensures in
    let shows = shows-read good words log log _ (IsChains r) (Counted r 0 v) r.at v (shows-none good words log (IsChains r) c.requires.well) refl (let w = c.requires.within in omega arith) one.value
    (λ m w e. counted-start r m v w c.requires.one e) in
    record {
      going = one.goes;
      words = one.words;
      good = one.good;
      keeps = one.keeps;
      writes = one.value.0;
      explained = one.explained;
      below = shown good words log (g.A.Access.log c.read.new.self) _ _ (Counted r 0 v) (v ≤ r.cells) shows one.good one.words one.explained (λ m h. counted-inside r m 0 v h);
      count = refl;
      shows = shows;
    }

pub loop-step-preserved : goal.loop-step-preserved
loop-step-preserved g c =
    let good = g.A.Access.good c.args.acc.now in
    let words = g.A.Access.words c.args.acc.now in
    let log = g.A.Access.log c.args.acc.now in
    let r = c.args.self.now in
    let v = c.loop-step.next in
    let n = c.loop-step.count in
    let j = v - 1 in
    let u = c.in_ok-next-2.next in
    let inv = c.loop-step.invariant in
    let one = c.in_ok-next-2.ensures in
    let z = c.if-next-eq0.false in
    let b = inv.below in
    let w = c.requires.within.1 in
    let e : v ≡ suc j = omega arith in
    let k = inv.count in
    let shows = shows-read good words log _ _ (Counted r n v) (Counted r (n + 1) u) (next_at r j) u inv.shows inv.writes (omega arith) one.value (λ m h x. counted-on r m n v j u h e x) in
    let good' = same-trans _ _ _ inv.good one.good in
    let words' = one.words ∙ inv.words in
    record {
      going = one.goes;
      words = words';
      good = good';
      keeps = g.met.A.Access.keeps_trans _ _ _ inv.keeps one.keeps;
      writes = one.value.0 ∙ inv.writes;
      explained = one.explained;
      below = shown good words log (g.A.Access.log c.read-in-loop-step.new.self) _ _ (Counted r (n + 1) u) (u ≤ r.cells) shows good' words' one.explained (λ m h. counted-inside r m (n + 1) u h);
      count = omega arith;
      shows = shows;
    }

pub returns-then-next-eq0-clause-reply : goal.returns-then-next-eq0-clause-reply
returns-then-next-eq0-clause-reply g c =
    let r = c.args.self.now in
    let inv = c.loop-step.invariant in
    does-stay (g.A.Access.good c.args.acc.now) (g.A.Access.words c.args.acc.now) (g.A.Access.log c.args.acc.now) (counted_in r) _ c.loop-step.count (IsChains r) c.requires.well inv.writes
    (Counted r c.loop-step.count c.loop-step.next) inv.shows (λ m w h. counted-end r m c.loop-step.count c.loop-step.next c.requires.one h c.if-next-eq0.true)

pub returns-clause-reply : goal.returns-clause-reply
returns-clause-reply g c =
    let r = c.args.self.now in
    let inv = c.loop-step.invariant in
    let t = c.loop-step-test.false in
    let k = inv.count in
    does-stay (g.A.Access.good c.args.acc.now) (g.A.Access.words c.args.acc.now) (g.A.Access.log c.args.acc.now) (counted_in r) _ c.loop-step.count (IsChains r) c.requires.well inv.writes
    (Counted r c.loop-step.count c.loop-step.next) inv.shows (λ m w h. counted-out r m c.loop-step.count c.loop-step.next c.requires.one h (omega arith))
