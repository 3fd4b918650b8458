use Rattle.std.proofs.Common.{rules, subst, ◌≡◌, ◌<◌, ◌+◌, ◌-◌, ◌^◌, ◌∙◌, refl, sym, ap, set, length, arith, suc, true}
use Rattle.stm_model.specs.Memories.{overlay}
use Rattle.stm_model.specs.Overlays.{overlay-length}
use Rattle.stm_model.specs.Logs.{SameMemories}
use Rattle.data_effects.specs.Effects.{Shows, changed}
use Rattle.data_effects.specs.EffectLaws.{shows-then, does-stay, turns-write, turns-then, same-trans}
use Rattle.data_effects.specs.Keys.{free_from}
use Rattle.data_sums.specs.declared.sum_map.MapPut.TheVariants.{Added, Replaced, NoRoom}
use Rattle.data_sums.specs.Sums.{IsSumMap, tag, tag_at, value_at, position_of, attached, mended_in, put_in, HasKey, put_by, replaced_in}
use Rattle.data_sums.proofs.SumWalks.{Walks, walks-shown, walks-turns, walks-does, walks-end, does-after, wrote-here}
use Rattle.data_sums.proofs.SumPuts.{Adding, has-key, added-links, added-is, full-is}
use Rattle.data_sums.proofs.SumCalls.{does-then}
use Rattle.data_sums.proofs.sum_map.SumMap.put.Goals.{In_ok-write-in-Some-3, In_ok-mend-in-Some}
use Rattle.data_sums.proofs.sum_map.SumMap.put.Goals as goal

pub find-requires-clause-well : goal.find-requires-clause-well
find-requires-clause-well g c = λ m fine len ex. let h = c.requires.well m fine len ex in (h.0, h.1.shape)

-- THE VALUE REPLACED
pub replace-requires-clause-well : goal.replace-requires-clause-well
replace-requires-clause-well g c = λ m fine len ex.
    let r = c.args.self.now in
    let s = c.in_ok-position.position in
    let one = c.in_ok-position.ensures in
    let fk = c.ranges.key in
    let small : c.args.key < 2 ^ 32 = omega arith in
    let z = c.if-position-ne0.true in
    let n : s.next ≡ suc (s.next - 1) = omega arith in
    let x = one.finds m ((one.frame.good m).1 fine) (len ∙ one.frame.words) ex in
    subst (λ w. HasKey r c.args.key (s.next - 1) (overlay m w)) (sym one.writes) (has-key r _ c.args.key (s.next - 1) s (c.requires.well m ((one.frame.good m).1 fine) (len ∙ one.frame.words) x.0) small x.1 n)

pub returns-then-position-ne0-clause-reply : goal.returns-then-position-ne0-clause-reply
returns-then-position-ne0-clause-reply g c =
    let good = g.A.Access.good c.args.acc.now in
    let words = g.A.Access.words c.args.acc.now in
    let log = g.A.Access.log c.args.acc.now in
    let r = c.args.self.now in
    let key = c.args.key in
    let s = c.in_ok-position.position in
    let one = c.in_ok-position.ensures in
    let two = c.in_ok-replace.ensures in
    let z = c.if-position-ne0.true in
    let n : s.next ≡ suc (s.next - 1) = omega arith in
    does-then good words log (g.A.Access.log c.find.new.acc) (g.A.Access.log c.replace.new.acc) _ _ one.frame.good one.frame.words
    (put_in r key c.args.value) (replaced_in r key c.args.value (s.next - 1)) Replaced (IsSumMap r) (λ m. s ≡ position_of r m key)
    c.requires.well one.writes one.finds two.reply
    (λ m w e. ap (put_by r key c.args.value m) (ap (λ p. p.next) (sym e) ∙ n))

-- A CELL ADDED
small-key : (g : _) (c : In_ok-write-in-Some-3 g) → c.args.key < 2 ^ 32
small-key g c = let f = c.ranges.key in omega arith

no-cell : (g : _) (c : In_ok-write-in-Some-3 g) → c.in_ok-position.position.next ≡ 0
no-cell g c = let z = c.if-position-ne0.false in omega arith

adding : (g : _) (c : In_ok-write-in-Some-3 g)
    → Walks (g.A.Access.good c.args.acc.now) (g.A.Access.words c.args.acc.now) (g.A.Access.log c.args.acc.now)
    (g.A.Access.log c.write-in-Some-2.new.self) (λ m x.
    Adding c.args.self.now (g.A.Access.words c.args.acc.now) c.args.key c.args.value c.in_ok-position.position c.in-Some.cell m x)
adding g c =
    let good = g.A.Access.good c.args.acc.now in
    let words = g.A.Access.words c.args.acc.now in
    let log = g.A.Access.log c.args.acc.now in
    let r = c.args.self.now in
    let key = c.args.key in
    let v = c.args.value in
    let s = c.in_ok-position.position in
    let i = c.in-Some.cell in
    let o = c.in_ok-free_cell.field-0 in
    let q0 = c.in_ok-position.ensures in
    let q1 = c.in_ok-free_cell.ensures in
    let l1 = g.A.Access.log c.free_cell.new.acc in
    let l2 = g.A.Access.log c.write.new.self in
    let l3 = g.A.Access.log c.write-in-Some.new.self in
    let l4 = g.A.Access.log c.write-in-Some-2.new.self in
    let start : Shows good words log (g.A.Access.log c.find.new.acc) (λ m. (IsSumMap r m × (length m ≡ words)) × (s ≡ position_of r m key)) =
    shows-then good words log log (g.A.Access.log c.find.new.acc) good words (λ m. IsSumMap r m × (length m ≡ words))
    (λ m. s ≡ position_of r m key) (λ m fine len ex. (ex, (c.requires.well m fine len ex, overlay-length m log.writes ∙ len))) refl
    (λ m. ((λ h. h), (λ h. h))) refl q0.finds in
    let both : Shows good words log l1 (λ m. ((IsSumMap r m × (length m ≡ words)) × (s ≡ position_of r m key)) × (o ≡ free_from (tag r m) 0 r.cells)) =
    shows-then good words log (g.A.Access.log c.find.new.acc) l1 _ _ (λ m. (IsSumMap r m × (length m ≡ words)) × (s ≡ position_of r m key))
    (λ m. o ≡ free_from (tag r m) 0 r.cells) start q0.writes q0.frame.good q0.frame.words q1.frees in
    let w1 = walks-shown good words log l1
    (λ m. ((IsSumMap r m × (length m ≡ words)) × (s ≡ position_of r m key)) × (o ≡ free_from (tag r m) 0 r.cells))
    (λ m x. Adding r words key v s i m (attached r key v i s.link x)) both (q1.writes ∙ q0.writes)
    (λ m h. record { well = h.0.0.0; long = h.0.0.1; place = h.0.1; free = sym c.in-Some.is ∙ h.1; now = refl }) in
    let k1 : key + 1 ≡ suc key = omega arith in
    let k2 : i + 1 ≡ suc i = omega arith in
    let t = turns-then _ _ _ _ _ (turns-then _ _ _ _ _ (turns-write l1 l2 (tag_at r i) (key + 1) c.in_ok-write-in-Some.ensures.value)
    (turns-write l2 l3 (value_at r i) v c.in_ok-write-in-Some-2.ensures.value))
    (turns-write l3 l4 s.link (i + 1) c.in_ok-write-in-Some-3.ensures.value) in
    walks-turns good words log l1 l4 (λ m x. Adding r words key v s i m (attached r key v i s.link x)) (λ m x. Adding r words key v s i m x)
    (λ x. set (set (set x (tag_at r i) (key + 1)) (value_at r i) v) s.link (i + 1)) w1 t (λ m x h. rw (k1, k2) h)

adding-good : (g : _) (c : In_ok-write-in-Some-3 g) → SameMemories (g.A.Access.good c.args.acc.now) (g.A.Access.good c.write-in-Some-2.new.self)
adding-good g c =
    same-trans _ _ _ c.in_ok-position.ensures.frame.good (same-trans _ _ _ c.in_ok-free_cell.ensures.frame.good
    (same-trans _ _ _ c.in_ok-write-in-Some.ensures.good
    (same-trans _ _ _ c.in_ok-write-in-Some-2.ensures.good c.in_ok-write-in-Some-3.ensures.good)))

adding-words : (g : _) (c : In_ok-write-in-Some-3 g) → g.A.Access.words c.write-in-Some-2.new.self ≡ g.A.Access.words c.args.acc.now
adding-words g c = c.in_ok-write-in-Some-3.ensures.words ∙ (c.in_ok-write-in-Some-2.ensures.words ∙ (c.in_ok-write-in-Some.ensures.words ∙ (c.in_ok-free_cell.ensures.frame.words ∙ c.in_ok-position.ensures.frame.words)))

adding-keeps : (g : _) (c : In_ok-write-in-Some-3 g) → g.A.Access.keeps c.args.acc.now c.write-in-Some-2.new.self
adding-keeps g c =
    let chain = g.met.A.Access.keeps_trans in
    chain _ _ _ c.in_ok-position.ensures.frame.keeps (chain _ _ _ c.in_ok-free_cell.ensures.frame.keeps
    (chain _ _ _ c.in_ok-write-in-Some.ensures.keeps
    (chain _ _ _ c.in_ok-write-in-Some-2.ensures.keeps c.in_ok-write-in-Some-3.ensures.keeps)))

pub mend-requires-clause-links : goal.mend-requires-clause-links
mend-requires-clause-links g c =
    let o = (goal.at.mend-requires-clause-links g c).In_ok-write-in-Some-3 in
    λ m fine len ex. let p = adding g o m ((adding-good g o m).1 fine) (len ∙ adding-words g o) ex in
    (let l = added-links c.args.self.now (g.A.Access.words c.args.acc.now) c.args.key c.args.value c.in_ok-position.position c.in-Some.cell
    _ _ p.1 (small-key g o) c.requires.within.0 (no-cell g o) in
    record { links = l; from = l.0 })

added : (g : _) (c : In_ok-mend-in-Some g)
    → Walks (g.A.Access.good c.args.acc.now) (g.A.Access.words c.args.acc.now) (g.A.Access.log c.args.acc.now)
    (g.A.Access.log c.write-in-Some-2.new.self) (λ m x.
    Adding c.args.self.now (g.A.Access.words c.args.acc.now) c.args.key c.args.value c.in_ok-position.position c.in-Some.cell m x)
    → SameMemories (g.A.Access.good c.args.acc.now) (g.A.Access.good c.write-in-Some-2.new.self)
    → g.A.Access.words c.write-in-Some-2.new.self ≡ g.A.Access.words c.args.acc.now → c.args.key < 2 ^ 32
    → c.in_ok-position.position.next ≡ 0
    → Walks (g.A.Access.good c.args.acc.now) (g.A.Access.words c.args.acc.now) (g.A.Access.log c.args.acc.now)
    (g.A.Access.log c.mend.new.acc) (λ m x.
    (put_in c.args.self.now c.args.key c.args.value m ≡ changed Added x) × IsSumMap c.args.self.now x)
added g c walks same long small none =
    let words = g.A.Access.words c.args.acc.now in
    let r = c.args.self.now in
    let s = c.in_ok-position.position in
    walks-does (g.A.Access.good c.args.acc.now) words (g.A.Access.log c.args.acc.now) (g.A.Access.log c.write-in-Some-2.new.self)
    (g.A.Access.log c.mend.new.acc) (g.A.Access.good c.write-in-Some-2.new.self) (g.A.Access.words c.write-in-Some-2.new.self) (λ m x.
    Adding r words c.args.key c.args.value s c.in-Some.cell m x)
    (λ m x. (put_in r c.args.key c.args.value m ≡ changed Added x) × IsSumMap r x) (mended_in r r.at c.args.key c.args.value)
    c.in_ok-mend-in-Some.field-0 walks same long c.in_ok-mend-in-Some.ensures.reply (λ m x h y.
    added-is r words c.args.key c.args.value s c.in-Some.cell m x h small c.requires.within.0 none)

pub returns-in_ok-mend-in-Some-clause-reply : goal.returns-in_ok-mend-in-Some-clause-reply
returns-in_ok-mend-in-Some-clause-reply g c =
    let at = goal.at.returns-in_ok-mend-in-Some-clause-reply g c in
    let o = at.In_ok-write-in-Some-3 in
    let log = g.A.Access.log c.args.acc.now in
    let r = c.args.self.now in
    let q5 = c.in_ok-mend-in-Some.ensures in
    let l3 = g.A.Access.log c.write-in-Some.new.self in
    let l4 = g.A.Access.log c.write-in-Some-2.new.self in
    let l5 = g.A.Access.log c.mend.new.acc in
    let t4 = turns-write l3 l4 c.in_ok-position.position.link (c.in-Some.cell + 1) c.in_ok-write-in-Some-3.ensures.value in
    let some = does-after (g.A.Access.good c.write-in-Some-2.new.self) (g.A.Access.words c.write-in-Some-2.new.self) l4 l5 _ _
    (mended_in r r.at c.args.key c.args.value) c.in_ok-mend-in-Some.field-0 q5.reply q5.frame.good q5.frame.words q5.frame.explained t4.wrote in
    walks-end (g.A.Access.good c.args.acc.now) (g.A.Access.words c.args.acc.now) log l5 (put_in r c.args.key c.args.value) Added true (wrote-here log l5 true some refl)
    (λ m fine len ex. let p = added g at.In_ok-mend-in-Some (adding g o) (adding-good g o) (adding-words g o) (small-key g o) (no-cell g o) m fine len ex in (p.0, p.1.0))

pub returns-in_ok-mend-in-Some-clause-well : goal.returns-in_ok-mend-in-Some-clause-well
returns-in_ok-mend-in-Some-clause-well g c =
    let at = goal.at.returns-in_ok-mend-in-Some-clause-well g c in
    let o = at.In_ok-write-in-Some-3 in
    let q5 = c.in_ok-mend-in-Some.ensures in
    let all = same-trans _ _ _ (adding-good g o) q5.frame.good in
    λ m fine len ex. (added g at.In_ok-mend-in-Some (adding g o) (adding-good g o) (adding-words g o) (small-key g o) (no-cell g o) m ((all m).1 fine) (len ∙ (q5.frame.words ∙ adding-words g o)) ex).1.1

-- NO ROOM
pub returns-in-None-clause-reply : goal.returns-in-None-clause-reply
returns-in-None-clause-reply g c =
    let good = g.A.Access.good c.args.acc.now in
    let words = g.A.Access.words c.args.acc.now in
    let log = g.A.Access.log c.args.acc.now in
    let r = c.args.self.now in
    let key = c.args.key in
    let s = c.in_ok-position.position in
    let o = c.in_ok-free_cell.field-0 in
    let one = c.in_ok-position.ensures in
    let two = c.in_ok-free_cell.ensures in
    let z = c.if-position-ne0.false in
    let n : s.next ≡ 0 = omega arith in
    does-stay good words log (put_in r key c.args.value) _ NoRoom (IsSumMap r) c.requires.well (two.writes ∙ one.writes)
    (λ m. (s ≡ position_of r m key) × (o ≡ free_from (tag r m) 0 r.cells))
    (shows-then good words log (g.A.Access.log c.find.new.acc) (g.A.Access.log c.free_cell.new.acc) _ _ (λ m. s ≡ position_of r m key)
    (λ m. o ≡ free_from (tag r m) 0 r.cells) one.finds one.writes one.frame.good one.frame.words two.frees)
    (λ m w e. full-is r key c.args.value s m e.0 n (sym c.in-None.is ∙ e.1))

pub returns-in_err-write-in-Some-3-clause-frame : goal.returns-in_err-write-in-Some-3-clause-frame
returns-in_err-write-in-Some-3-clause-frame g c =
    record {
      explained = search rules;
      goes = search rules;
      stops = search rules;
      good = same-trans _ _ _ c.in_ok-position.ensures.frame.good (same-trans _ _ _ c.in_ok-free_cell.ensures.frame.good (same-trans _ _ _ c.in_ok-write-in-Some.ensures.good (same-trans _ _ _ c.in_ok-write-in-Some-2.ensures.good c.in_err-write-in-Some-3.ensures.good)));
      words = c.in_err-write-in-Some-3.ensures.words ∙ (c.in_ok-write-in-Some-2.ensures.words ∙ (c.in_ok-write-in-Some.ensures.words ∙ (c.in_ok-free_cell.ensures.frame.words ∙ c.in_ok-position.ensures.frame.words)));
      keeps = g.met.A.Access.keeps_trans _ _ _ c.in_ok-position.ensures.frame.keeps (g.met.A.Access.keeps_trans _ _ _ c.in_ok-free_cell.ensures.frame.keeps (g.met.A.Access.keeps_trans _ _ _ c.in_ok-write-in-Some.ensures.keeps (g.met.A.Access.keeps_trans _ _ _ c.in_ok-write-in-Some-2.ensures.keeps c.in_err-write-in-Some-3.ensures.keeps)));
    }

pub returns-in_err-mend-in-Some-clause-frame : goal.returns-in_err-mend-in-Some-clause-frame
returns-in_err-mend-in-Some-clause-frame g c =
    let o = (goal.at.returns-in_err-mend-in-Some-clause-frame g c).In_ok-write-in-Some-3 in
    record {
      explained = search rules;
      goes = search rules;
      stops = search rules;
      good = same-trans _ _ _ (adding-good g o) c.in_err-mend-in-Some.ensures.frame.good;
      words = c.in_err-mend-in-Some.ensures.frame.words ∙ adding-words g o;
      keeps = g.met.A.Access.keeps_trans _ _ _ (adding-keeps g o) c.in_err-mend-in-Some.ensures.frame.keeps;
    }

pub returns-in_ok-mend-in-Some-clause-frame : goal.returns-in_ok-mend-in-Some-clause-frame
returns-in_ok-mend-in-Some-clause-frame g c =
    let o = (goal.at.returns-in_ok-mend-in-Some-clause-frame g c).In_ok-write-in-Some-3 in
    record {
      explained = search rules;
      goes = search rules;
      stops = search rules;
      good = same-trans _ _ _ (adding-good g o) c.in_ok-mend-in-Some.ensures.frame.good;
      words = c.in_ok-mend-in-Some.ensures.frame.words ∙ adding-words g o;
      keeps = g.met.A.Access.keeps_trans _ _ _ (adding-keeps g o) c.in_ok-mend-in-Some.ensures.frame.keeps;
    }

pub returns-then-position-ne0-clause-frame : goal.returns-then-position-ne0-clause-frame
returns-then-position-ne0-clause-frame g c =
    record {
      explained = search rules;
      goes = search rules;
      stops = search rules;
      good = same-trans _ _ _ c.in_ok-position.ensures.frame.good c.in_ok-replace.ensures.frame.good;
      words = c.in_ok-replace.ensures.frame.words ∙ c.in_ok-position.ensures.frame.words;
      keeps = g.met.A.Access.keeps_trans _ _ _ c.in_ok-position.ensures.frame.keeps c.in_ok-replace.ensures.frame.keeps;
    }
