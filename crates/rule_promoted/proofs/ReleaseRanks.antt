-- No stamp falls where a promoted attempt gives a record back.
use Rattle.std.proofs.Common.{◌≡◌, ◌≢◌, ℕ, ◌≤◌, ◌*◌, ◌+◌, true, false, arith, refl, sym, subst, ◌∙◌, ap, le_refl, le_trans}
use Rattle.rule_base.specs.declared.views.Ownership.{Ownership}
use Rattle.rule_base.specs.declared.views.View.{View}
use Rattle.rule_base.specs.Encodings.{free_record, version_of}
use Rattle.rule_base.specs.History.{over, touches}
use Rattle.rule_base.specs.Lemmas.HistoryLemmas.{over-without}
use Rattle.rule_base.specs.Lemmas.PutLemmas.{put-all, parts-put}
use Rattle.rule_base.specs.Ranks.{Rec, rec_of, rank_in, rank_one}
use Rattle.rule_base.specs.Ranks.Rec.{Free, Taken}
use Rattle.rule_base.specs.RecordRule.{record_projection, RecordRule}
use Rattle.rule_base.specs.World.{World, put, parts}
use Rattle.rule_orec.specs.OrecLaws.{free-rec, taken-rec, rec_of-free, orec_projection-put}
use Rattle.rule_orec.specs.OrecOwning.{released}
use Rattle.rule_orec.specs.OrecRule.{orec_view, OrecProjection, orec_projection, rank, rank_of}
use Rattle.rule_promoted.specs.PromotedRule.{suit_projection, OrecSuits}

-- the version t is as high as caller n owes of record q
abbrev pub Covers : ℕ → ℕ → ℕ → World → Type 0
Covers n q t w = rank_one (w.views n).owned q (rec_of (w.records q)) ≤ 2 * t + 1

module _ (home : ℕ → ℕ) (n q t : ℕ) (w : World) (suits : OrecSuits home (suit_projection n w)) (held : touches (w.views n).owned.held q ≡ true) where
  -- the entry's time is: the clock was raised above the old version
  pub entry-covers : RecordRule (record_projection w) → (w.views n).attempt.entered ≡ true → t ≡ w.clock → Covers n q t w
  entry-covers records entered time = go (rec_of (w.records q)) refl
    where
      go : (k : Rec) → rec_of (w.records q) ≡ k → rank_one (w.views n).owned q k ≤ 2 * t + 1
      go (Free u) is = let f = free-rec (w.records q) u is in let low : version_of (w.records q) ≤ w.clock = records.free q f.0 in let same = f.1 in let now = time in omega arith
      go (Taken m) is = grind (arith, time, suits.uncommitted, suits.older entered q held)

  -- without an entry the old version and one more is
  pub next-covers : t ≡ over (w.views n).owned.held q 0 + 1 → Covers n q t w
  next-covers next = go (rec_of (w.records q)) refl
    where
      go : (k : Rec) → rec_of (w.records q) ≡ k → rank_one (w.views n).owned q k ≤ 2 * t + 1
      go (Free u) is = absurd (let f : true ≡ false = sym (suits.locked q held) ∙ (free-rec (w.records q) u is).0 in cc)
      go (Taken m) is = grind (arith, next, suits.uncommitted)

-- what the attempt's other records vouch for they vouch for still
other-one : (o : Ownership) (q r : ℕ) → (r ≡ q → ⊥) → (k : Rec) → rank_one o r k ≤ rank_one (released q o) r k
other-one o q r d (Free u) = le_refl (2 * u + 1)
other-one o q r d (Taken m) = grind (arith, d, over-without o.held q r 0)

pub release-stamps : (n q t : ℕ) (w : World) → Covers n q t w → (k r : ℕ) → k ≤ rank_one (w.views n).owned r (rec_of (w.records r))
    → k ≤ rank_one (released q (w.views n).owned) r (rec_of (put w.records q (free_record t) r))
release-stamps n q t w high k = put-all w.records q (free_record t) (λ r word. k ≤ rank_one (w.views n).owned r (rec_of (w.records r)) → k ≤ rank_one (released q (w.views n).owned) r (rec_of word))
    (λ low. subst (λ (x : Rec). k ≤ rank_one (released q (w.views n).owned) q x) (sym (rec_of-free t)) (le_trans low high))
    (λ r d low. le_trans low (other-one (w.views n).owned q r d (rec_of (w.records r))))

-- the record is the caller's alone: x is the world after it, and v its view
module _ (n q t : ℕ) (w x : World) (v : View) (views : x.views ≡ put w.views n v) (own : v.owned ≡ released q (w.views n).owned)
    (words : x.records ≡ put w.records q (free_record t)) (records : RecordRule (record_projection w))
    (alone : (m : ℕ) → m ≢ n → touches (w.views m).owned.held q ≡ true → ⊥) (high : Covers n q t w) where
  abbrev was : OrecProjection
  was = orec_projection w

  here : (k : Rec) → rec_of (w.records q) ≡ k → rank_one (w.views n).owned q k ≤ 2 * t + 1 → rank_of was.views q k ≤ 2 * t + 1
  here (Free u) is low = low
  here (Taken m) is low =
      let o = taken-rec (w.records q) m is in
      let its : touches (w.views m).owned.held q ≡ true = subst (λ (k : ℕ). touches (w.views k).owned.held q ≡ true) o.1 (records.owned q o.0) in
      let same : m ≢ n → ⊥ = λ other. alone m other its in
      grind (arith, same, low)

  kept : (r : ℕ) → r ≢ q → (k : Rec) → rank_of was.views r k ≤ rank_of (put was.views n (orec_view v)) r k
  kept r d (Free u) = le_refl (2 * u + 1)
  kept r d (Taken m) = put-all was.views n (orec_view v) (λ j u. rank_in (was.views j).owned r ≤ rank_in u.owned r)
      (subst (λ (o : Ownership). rank_in (w.views n).owned r ≤ rank_in o r) (sym own) (grind (arith, d, over-without (w.views n).owned.held q r 0)))
      (λ j e. le_refl (rank_in (was.views j).owned r)) m

  pub release-ranks : (r : ℕ) → rank (orec_projection w) r ≤ rank (orec_projection x) r
  release-ranks r = subst (λ (s : OrecProjection). rank was r ≤ rank s r) (sym (orec_projection-put w x n v views))
      (subst (λ (f : ℕ → Rec). rank was r ≤ rank_of (put was.views n (orec_view v)) r (f r)) (sym (ap (parts rec_of) words ∙ (parts-put rec_of w.records q (free_record t) ∙ ap (put was.records q) (rec_of-free t))))
      (put-all was.records q (Free t) (λ i k. rank was i ≤ rank_of (put was.views n (orec_view v)) i k) (here (rec_of (w.records q)) refl high) (λ i d. kept i d (rec_of (w.records i))) r))
