use Rattle.std.proofs.Common.{rules, ◌≡◌, ◌≢◌, ◌<◌, ◌-◌, ◌^◌, ◌∙◌, ℕ, refl, sym, subst, ap, length, arith, suc, true, false}
use Rattle.stm_model.specs.Memories.{overlay}
use Rattle.stm_model.specs.Overlays.{overlay-length}
use Rattle.data_effects.specs.EffectLaws.{does-stay, same-trans}
use Rattle.data_sums.specs.declared.sum_map.MapPut.TheVariants.{Replaced}
use Rattle.data_sums.specs.Sums.{IsSumMap, HasKey, IsEmptied, position_of, replaced_in, taken_in, removed_in}
use Rattle.data_sums.proofs.SumPuts.{has-key}
use Rattle.data_sums.proofs.SumCalls.{does-then, does-both}
use Rattle.data_sums.proofs.SumTakes.{emptied-of, remove-none, remove-some}
use Rattle.data_sums.proofs.sum_map.SumMap.remove.Goals as goal

pub find-requires-clause-well : goal.find-requires-clause-well
find-requires-clause-well g c = λ m fine len ex. let h = c.requires.well m fine len ex in (h.0, h.1.shape)

pub returns-then-position-eq0-clause-reply : goal.returns-then-position-eq0-clause-reply
returns-then-position-eq0-clause-reply g c =
    let r = c.args.self.now in
    let s = c.in_ok-position.position in
    let one = c.in_ok-position.ensures in
    does-stay (g.A.Access.good c.args.acc.now) (g.A.Access.words c.args.acc.now) (g.A.Access.log c.args.acc.now) (removed_in r c.args.key) _
    false (IsSumMap r) c.requires.well one.writes (λ m. s ≡ position_of r m c.args.key) one.finds (λ m w e.
    remove-none r m c.args.key s e c.if-position-eq0.true)

next-is : (n : ℕ) → n ≢ 0 → n ≡ suc (n - 1)
next-is n d = omega arith

pub replace-requires-clause-well : goal.replace-requires-clause-well
replace-requires-clause-well g c = λ m fine len ex.
    let r = c.args.self.now in
    let s = c.in_ok-position.position in
    let one = c.in_ok-position.ensures in
    let fk = c.ranges.key in
    let small : c.args.key < 2 ^ 32 = omega arith in
    let x = one.finds m ((one.frame.good m).1 fine) (len ∙ one.frame.words) ex in
    subst (λ w. HasKey r c.args.key (s.next - 1) (overlay m w)) (sym one.writes) (has-key r _ c.args.key (s.next - 1) s (c.requires.well m ((one.frame.good m).1 fine) (len ∙ one.frame.words) x.0) small x.1 (next-is s.next c.if-position-eq0.false))

pub take_out-requires-clause-well : goal.take_out-requires-clause-well
take_out-requires-clause-well g c = λ m fine len ex.
    let r = c.args.self.now in
    let key = c.args.key in
    let log = g.A.Access.log c.args.acc.now in
    let s = c.in_ok-position.position in
    let j = s.next - 1 in
    let one = c.in_ok-position.ensures in
    let two = c.in_ok-replace.ensures in
    let fk = c.ranges.key in
    let small : key < 2 ^ 32 = omega arith in
    let room = c.requires.within.0 in
    let fine1 = (two.frame.good m).1 fine in
    let len1 = len ∙ two.frame.words in
    let d = two.reply m fine1 len1 ex in
    let x = one.finds m ((one.frame.good m).1 fine1) (len1 ∙ one.frame.words) d.explained in
    let long : length (overlay m log.writes) ≡ g.A.Access.words c.args.acc.now = overlay-length m log.writes ∙ (len1 ∙ one.frame.words) in
    let left = d.left ∙ ap (λ w. (replaced_in r key 0 j (overlay m w)).memory) one.writes in
    subst (IsEmptied r j s.link) (sym left)
    (emptied-of r (overlay m log.writes) key j s (c.requires.well m ((one.frame.good m).1 fine1) (len1 ∙ one.frame.words) x.0) small x.1 (next-is s.next c.if-position-eq0.false) (omega arith) (subst (IsSumMap r) left (two.well m fine len ex)))

pub returns-clause-reply : goal.returns-clause-reply
returns-clause-reply g c =
    let good = g.A.Access.good c.args.acc.now in
    let words = g.A.Access.words c.args.acc.now in
    let log = g.A.Access.log c.args.acc.now in
    let r = c.args.self.now in
    let key = c.args.key in
    let s = c.in_ok-position.position in
    let j = s.next - 1 in
    let one = c.in_ok-position.ensures in
    let two = c.in_ok-replace.ensures in
    let three = c.in_ok-take_out.ensures in
    let both = does-both (g.A.Access.good c.find.new.acc) (g.A.Access.words c.find.new.acc) (g.A.Access.log c.find.new.acc)
    (g.A.Access.log c.replace.new.acc) (g.A.Access.log c.take_out.new.acc) (g.A.Access.good c.replace.new.acc)
    (g.A.Access.words c.replace.new.acc) two.frame.good two.frame.words
    (replaced_in r key 0 j) (taken_in r j s.link) (λ m. taken_in r j s.link (replaced_in r key 0 j m).memory) Replaced true two.reply three.reply (λ m. refl) (λ m. refl) in
    does-then good words log (g.A.Access.log c.find.new.acc) (g.A.Access.log c.take_out.new.acc) (g.A.Access.good c.find.new.acc)
    (g.A.Access.words c.find.new.acc) one.frame.good one.frame.words (removed_in r key) (λ m. taken_in r j s.link (replaced_in r key 0 j m).memory) true
    (IsSumMap r) (λ m. s ≡ position_of r m key) c.requires.well one.writes one.finds both
    (λ m w e. remove-some r m key j s e (next-is s.next c.if-position-eq0.false))

pub returns-clause-frame : goal.returns-clause-frame
returns-clause-frame g c =
    record {
      explained = search rules;
      goes = search rules;
      stops = search rules;
      good = same-trans _ _ _ c.in_ok-position.ensures.frame.good (same-trans _ _ _ c.in_ok-replace.ensures.frame.good c.in_ok-take_out.ensures.frame.good);
      words = c.in_ok-take_out.ensures.frame.words ∙ (c.in_ok-replace.ensures.frame.words ∙ c.in_ok-position.ensures.frame.words);
      keeps = g.met.A.Access.keeps_trans _ _ _ c.in_ok-position.ensures.frame.keeps (g.met.A.Access.keeps_trans _ _ _ c.in_ok-replace.ensures.frame.keeps c.in_ok-take_out.ensures.frame.keeps);
    }
