use Rattle.std.proofs.Common.{rules, ◌≡◌, ◌<◌, ◌+◌, ◌-◌, ◌%◌, ◌^◌, ◌∙◌, refl, ap, set, length, arith, true}
use Rattle.stm_model.specs.Overlays.{overlay-length}
use Rattle.data_effects.specs.Effects.{Shows, changed}
use Rattle.data_effects.specs.EffectLaws.{turns-write, same-trans}
use Rattle.data_sums.specs.declared.sum_map.MapPut.TheVariants.{Replaced}
use Rattle.data_sums.specs.Sums.{IsSumMap, HasKey, value, value_at, mended_in, replaced_in}
use Rattle.data_sums.proofs.SumWalks.{Walks, walks-shown, walks-read, walks-turns, walks-does, walks-end, does-after, wrote-here}
use Rattle.data_sums.proofs.SumPuts.{Replacing, replaced-links, replaced-is}
use Rattle.data_sums.proofs.sum_map.SumMap.replace.Goals.{In_ok-mend, In_ok-write}
use Rattle.data_sums.proofs.sum_map.SumMap.replace.Goals as goal

-- up to the write
written : (g : _) (c : In_ok-write g)
    → Walks (g.A.Access.good c.args.acc.now) (g.A.Access.words c.args.acc.now) (g.A.Access.log c.args.acc.now)
    (g.A.Access.log c.write.new.self) (λ m x.
    Replacing c.args.self.now (g.A.Access.words c.args.acc.now) c.args.key c.args.value c.args.cell c.in_ok-old.old m x)
written g c =
    let good = g.A.Access.good c.args.acc.now in
    let words = g.A.Access.words c.args.acc.now in
    let log = g.A.Access.log c.args.acc.now in
    let r = c.args.self.now in
    let key = c.args.key in
    let v = c.args.value in
    let j = c.args.cell in
    let old = c.in_ok-old.old in
    let q1 = c.in_ok-old.ensures in
    let q2 = c.in_ok-write.ensures in
    let w = c.requires.within in
    let start : Shows good words log log (λ m. HasKey r key j m × (length m ≡ words)) = λ m fine len ex. (ex, (c.requires.well m fine len ex, overlay-length m log.writes ∙ len)) in
    let w0 = walks-shown good words log log (λ m. HasKey r key j m × (length m ≡ words)) (λ m x. (HasKey r key j m × (length m ≡ words)) × (x ≡ m)) start refl (λ m h. (h, refl)) in
    let w1 = walks-read good words log log (g.A.Access.log c.read.new.self) (λ m x. (HasKey r key j m × (length m ≡ words)) × (x ≡ m))
    (λ m x. Replacing r words key v j old m (set x (value_at r j) v)) (value_at r j) old w0 (omega arith) q1.value
    (λ m x h i. record { well = h.0.0.well; long = h.0.1; at = h.0.0.at; held = i ∙ ap (λ y. value r y j) h.1; now = ap (λ y. set y (value_at r j) v) h.1 }) in
    walks-turns good words log (g.A.Access.log c.read.new.self) (g.A.Access.log c.write.new.self)
    (λ m x. Replacing r words key v j old m (set x (value_at r j) v)) (λ m x. Replacing r words key v j old m x)
    (λ x. set x (value_at r j) v) w1 (turns-write _ _ (value_at r j) v q2.value) (λ m x h. h)

pub mend-requires-clause-links : goal.mend-requires-clause-links
mend-requires-clause-links g c =
    let r = c.args.self.now in
    let words = g.A.Access.words c.args.acc.now in
    let q1 = c.in_ok-old.ensures in
    let q2 = c.in_ok-write.ensures in
    let fk = c.ranges.key in
    let small : c.args.key < 2 ^ 32 = omega arith in
    let same = same-trans _ _ _ q1.good q2.good in
    let words' = q2.words ∙ q1.words in
    λ m fine len ex.
    let p = written g (goal.at.mend-requires-clause-links g c).In_ok-write m ((same m).1 fine) (len ∙ words') ex in
    let l = replaced-links r words c.args.key c.args.value c.args.cell c.in_ok-old.old _ _ p.1 small c.requires.within.1.0
    c.requires.within.0 q1.range in
    record { links = l; from = l.0 }

mended-all : (g : _) (c : In_ok-mend g)
    → Walks (g.A.Access.good c.args.acc.now) (g.A.Access.words c.args.acc.now) (g.A.Access.log c.args.acc.now)
    (g.A.Access.log c.write.new.self) (λ m x.
    Replacing c.args.self.now (g.A.Access.words c.args.acc.now) c.args.key c.args.value c.args.cell c.in_ok-old.old m x)
    → Walks (g.A.Access.good c.args.acc.now) (g.A.Access.words c.args.acc.now) (g.A.Access.log c.args.acc.now) (g.A.Access.log c.mend.new.acc)
    (λ m x. (replaced_in c.args.self.now c.args.key c.args.value c.args.cell m ≡ changed Replaced x) × IsSumMap c.args.self.now x)
mended-all g c before =
    let good = g.A.Access.good c.args.acc.now in
    let words = g.A.Access.words c.args.acc.now in
    let log = g.A.Access.log c.args.acc.now in
    let r = c.args.self.now in
    let key = c.args.key in
    let v = c.args.value in
    let j = c.args.cell in
    let old = c.in_ok-old.old in
    let q1 = c.in_ok-old.ensures in
    let q2 = c.in_ok-write.ensures in
    let q3 = c.in_ok-mend.ensures in
    let fk = c.ranges.key in
    let small : key < 2 ^ 32 = omega arith in
    let d = (v + (2 ^ 64 - old)) % 2 ^ 64 in
    let same = same-trans _ _ _ q1.good q2.good in
    let words' = q2.words ∙ q1.words in
    walks-does good words log (g.A.Access.log c.write.new.self) (g.A.Access.log c.mend.new.acc) (g.A.Access.good c.write.new.self)
    (g.A.Access.words c.write.new.self) (λ m x. Replacing r words key v j old m x)
    (λ m x. (replaced_in r key v j m ≡ changed Replaced x) × IsSumMap r x) (mended_in r r.at key d) c.in_ok-mend.field-0 before same words'
    q3.reply
    (λ m x h i. replaced-is r words key v j old m x h small c.requires.within.1.0 c.requires.within.0 q1.range)

pub returns-clause-reply : goal.returns-clause-reply
returns-clause-reply g c =
    let at = goal.at.returns-clause-reply g c in
    let good = g.A.Access.good c.args.acc.now in
    let words = g.A.Access.words c.args.acc.now in
    let log = g.A.Access.log c.args.acc.now in
    let r = c.args.self.now in
    let key = c.args.key in
    let v = c.args.value in
    let j = c.args.cell in
    let q2 = c.in_ok-write.ensures in
    let q3 = c.in_ok-mend.ensures in
    let d = (v + (2 ^ 64 - c.in_ok-old.old)) % 2 ^ 64 in
    let t = turns-write (g.A.Access.log c.read.new.self) (g.A.Access.log c.write.new.self) (value_at r j) v q2.value in
    let some = does-after (g.A.Access.good c.write.new.self) (g.A.Access.words c.write.new.self) (g.A.Access.log c.write.new.self)
    (g.A.Access.log c.mend.new.acc) _ _ (mended_in r r.at key d) c.in_ok-mend.field-0 q3.reply q3.frame.good q3.frame.words q3.frame.explained t.wrote in
    walks-end good words log (g.A.Access.log c.mend.new.acc) (replaced_in r key v j) Replaced true
    (wrote-here log (g.A.Access.log c.mend.new.acc) true some refl) (λ m fine len ex.
    let p = mended-all g at.In_ok-mend (written g at.In_ok-write) m fine len ex in (p.0, p.1.0))

pub returns-clause-well : goal.returns-clause-well
returns-clause-well g c =
    let at = goal.at.returns-clause-well g c in
    let q1 = c.in_ok-old.ensures in
    let q2 = c.in_ok-write.ensures in
    let q3 = c.in_ok-mend.ensures in
    let all = same-trans _ _ _ q1.good (same-trans _ _ _ q2.good q3.frame.good) in
    λ m fine len ex. (mended-all g at.In_ok-mend (written g at.In_ok-write) m ((all m).1 fine) (len ∙ (q3.frame.words ∙ (q2.words ∙ q1.words))) ex).1.1

pub returns-clause-frame : goal.returns-clause-frame
returns-clause-frame g c =
    record {
      explained = search rules;
      goes = search rules;
      stops = search rules;
      good = same-trans _ _ _ c.in_ok-old.ensures.good (same-trans _ _ _ c.in_ok-write.ensures.good c.in_ok-mend.ensures.frame.good);
      words = c.in_ok-mend.ensures.frame.words ∙ (c.in_ok-write.ensures.words ∙ c.in_ok-old.ensures.words);
      keeps = g.met.A.Access.keeps_trans _ _ _ c.in_ok-old.ensures.keeps (g.met.A.Access.keeps_trans _ _ _ c.in_ok-write.ensures.keeps c.in_ok-mend.ensures.frame.keeps);
    }
