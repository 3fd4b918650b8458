-- The clauses of the records after a step that takes and gives back none.
use Rattle.std.proofs.Common.{◌≡◌, ℕ, ◌≤◌, List, true, false, arith, sym, subst, ap, ◌∙◌, le_trans}
use Rattle.rule_base.specs.declared.views.Phase.TheVariants.{In}
use Rattle.rule_base.specs.declared.views.View.{View}
use Rattle.rule_base.specs.declared.entries.Cell.{Cell}
use Rattle.rule_base.specs.Encodings.{free_record, is_owned, version_of, owner_of}
use Rattle.rule_base.specs.Lemmas.EncodingLemmas.{is_owned-free, version_of-free}
use Rattle.rule_base.specs.History.{touches, without}
use Rattle.rule_base.specs.Lemmas.HistoryLemmas.{touches-without}
use Rattle.rule_base.specs.Lemmas.PutLemmas.{put-all, put-here, put-else, parts-put, parts-kept}
use Rattle.rule_base.specs.RecordRule.{record_projection, RecordRule}
use Rattle.rule_base.specs.World.{World, put, parts}

-- who holds a record is in its attempt after the step
pub records-after : (w x : World) (n : ℕ) (v : View) → x.views ≡ put w.views n v → w.clock ≤ x.clock → x.records ≡ w.records → v.owned.held
    ≡ (w.views n).owned.held → ((r : ℕ) → touches (w.views n).owned.held r ≡ true → v.gate.phase ≡ In)
    → RecordRule (record_projection w) → RecordRule (record_projection x)
records-after w x n v is up records own inside r = subst RecordRule (sym path) (record {
  free = λ k e. le_trans (r.free k e) up;
  owned = r.owned;
  inside = λ m k. put-all w.views n v (λ j u. touches (w.views j).owned.held k ≡ true → u.gate.phase ≡ In) (inside k) (λ j d. r.inside j k) m;
})
  where
    path : record_projection x ≡ record { clock = x.clock; records = w.records; held = (record_projection w).held; phases = parts (λ (u : View). u.gate.phase) (put w.views n v) }
    path = λ i. record {
      clock = x.clock;
      records = records i;
      held = (ap (parts (λ (u : View). u.owned.held)) is ∙ parts-kept (λ (u : View). u.owned.held) w.views n v own) i;
      phases = ap (parts (λ (u : View). u.gate.phase)) is i;
    }

-- a step that leaves the phase alone
pub records-stay : (w x : World) (n : ℕ) (v : View) → x.views ≡ put w.views n v → w.clock ≤ x.clock → x.records ≡ w.records → v.owned.held ≡
    (w.views n).owned.held → v.gate.phase ≡ (w.views n).gate.phase → RecordRule (record_projection w) → RecordRule (record_projection x)
records-stay w x n v is up records own phase r = records-after w x n v is up records own (λ k t. phase ∙ r.inside n k t) r

-- a caller gives a record back with a version that is at most the clock
pub records-given : (w x : World) (n r version : ℕ) (v : View) → x.views ≡ put w.views n v → x.clock ≡ w.clock → x.records ≡ put w.records r
    (free_record version) → v.owned.held ≡ without (w.views n).owned.held r → v.gate.phase ≡ (w.views n).gate.phase → version ≤ w.clock
    → RecordRule (record_projection w) → RecordRule (record_projection x)
records-given w x n r version v is clock records own phase low g = subst RecordRule (sym path) (record {
  free = put-all w.records r (free_record version) (λ q word. is_owned word ≡ false → version_of word ≤ w.clock) (λ e. subst (λ (k : ℕ). k ≤ w.clock) (sym (version_of-free version)) low) (λ q d. g.free q);
  owned =
      put-all w.records r (free_record version) (λ q word. is_owned word ≡ true → touches (held (owner_of word)) q ≡ true)
      (λ t. absurd (let f : false ≡ true = sym (is_owned-free version) ∙ t in cc)) (λ q d t.
      kept (owner_of (w.records q)) q d (g.owned q t));
  inside = λ m q. put-all w.views n v (λ j u. touches (put (record_projection w).held n v.owned.held j) q ≡ true → u.gate.phase ≡ In)
      (λ t. phase ∙ g.inside n q (less q (subst (λ (k : List Cell). touches k q ≡ true) (put-here (record_projection w).held n v.owned.held) t)))
      (λ j d t. g.inside j q (subst (λ (k : List Cell). touches k q ≡ true) (put-else (record_projection w).held n j v.owned.held d) t)) m;
})
  where
    held : ℕ → List Cell
    held = put (record_projection w).held n v.owned.held

    kept : (m q : ℕ) → (q ≡ r → ⊥) → touches (w.views m).owned.held q ≡ true → touches (held m) q ≡ true
    kept m q d = put-all (record_projection w).held n v.owned.held (λ j k. touches (w.views j).owned.held q ≡ true → touches k q ≡ true)
        (λ t. subst (λ (k : List Cell). touches k q ≡ true) (sym own) (grind (arith, t, d, touches-without (w.views n).owned.held r q)))
        (λ j e t. t) m

    less : (q : ℕ) → touches v.owned.held q ≡ true → touches (w.views n).owned.held q ≡ true
    less q t = let k : touches (without (w.views n).owned.held r) q ≡ true = subst (λ (h : List Cell). touches h q ≡ true) own t in grind (arith, k, touches-without (w.views n).owned.held r q)

    path : record_projection x ≡ record { clock = w.clock; records = put w.records r (free_record version); held = held; phases = parts (λ (u : View). u.gate.phase) (put w.views n v) }
    path = λ i. record {
      clock = clock i;
      records = records i;
      held = (ap (parts (λ (u : View). u.owned.held)) is ∙ parts-put (λ (u : View). u.owned.held) w.views n v) i;
      phases = ap (parts (λ (u : View). u.gate.phase)) is i;
    }
