-- What a promotion of OrecEager asks and comes to.
use Rattle.std.proofs.Common.{ℕ, ◌≡◌, ◌≢◌, List, [], true, false, refl, sym, ap, ◌∙◌, arith, subst}
use Rattle.std.specs.Prelude.{not}
use Rattle.stm_model.specs.Algorithms.{has_records, entry_rise}
use Rattle.stm_model.specs.declared.alg.Alg.TheVariants.{OrecEager}
use Rattle.stm_model.specs.declared.config.Config.{Config}
use Rattle.stm_model.specs.Memories.{item_at, is_empty}
use Rattle.rule_base.specs.declared.views.View.{View}
use Rattle.rule_base.specs.Bridge.{items}
use Rattle.rule_base.specs.Lemmas.BridgeLemmas.{item-some}
use Rattle.stm_rule.specs.declared.local.Local.{Local}
use Rattle.stm_rule.specs.Attempts.{Stands, ended, own_of}
use Rattle.stm_rule.specs.EagerKept.{IsEager}
use Rattle.stm_answers.specs.declared.answers.Irrev.TheVariants as irrevs
use Rattle.stm_answers.specs.CallerState.{known_of, has_written}
use Rattle.stm_gate.specs.Granting.{Grants}
use Rattle.stm_gate.proofs.Peeling.{no-items}
use Rattle.alg_orec.specs.EagerEnding.{CanAbortEager, AbortsEager}
use Rattle.alg_orec.specs.Granting.{CanPromote, IsPromoted, IsNotPromoted}
use Rattle.alg_orec.proofs.Eager.EagerProving.{eager-of, ended-by, held-within, length-none, never-held, no-writes, none-held, quits-back}
use Rattle.alg_orec.proofs.GrantOpening.{CanGrant}
use Rattle.alg_orec.proofs.GrantOpening as opening

module _ {good : List ℕ → Type 0} {c : Config} {n : ℕ} {l : Local} {v : View} (can : CanGrant OrecEager good c n l v) where
  k : IsEager c l v
  k = eager-of good c n l v can.inside can.named can.plain

  pub may-promote : CanPromote c n l v
  may-promote = record {
    validates = record {
      opens = record { has = record { runs = record { phase = can.inside.phase; algorithm = ap has_records can.under; plain = k.optimistic.ungranted }; inside = k.inside }; open_yet = k.open_yet };
      start = can.inside.start;
      reads = k.reads;
      locks = k.locks;
      versions = λ r version e. let p = item-some v.owned.held r version (sym (ap (item_at r) k.locks) ∙ e) in let b = k.below r p.0 in let q = p.1 in omega arith;
      level = λ one. let a = can.inside.start in let b = k.sole one in let d = k.optimistic.rises in omega arith;
    };
    alone = can.alone;
    stores = record { unlocked = k.optimistic.unlocked; inside = k.words; small = k.small };
    not_quiescent = k.optimistic.not_quiescent;
    olds = k.olds;
    below = k.below;
  }

  -- it can be taken back
  pub may-abort : {refusal : irrevs.the_data} {m : Local} {u : View} → IsNotPromoted c n refusal l v m u → CanAbortEager c m u
  may-abort {refusal} {m} {u} q = subst (λ (x : Local). CanAbortEager c x u) (sym q.local) (subst (CanAbortEager c l) (sym q.is) (record {
    gives = record {
      opens = record { has = record { runs = record { phase = can.inside.phase; algorithm = ap has_records can.under; plain = k.optimistic.ungranted }; inside = k.inside }; open_yet = k.open_yet };
      repaid = k.repaid;
      undo = k.undo;
      undoable = k.undoable;
      words = k.old_words;
      locks = k.locks;
      places = k.places;
      below = k.below;
      earlier = q.earlier;
    };
    unlocked = k.optimistic.unlocked;
    unfixed = k.optimistic.unfixed;
    unwritten = k.optimistic.unwritten;
    uncommitted = k.optimistic.uncommitted;
    unstored = k.optimistic.unstored;
    unentered = can.inside.unentered;
  }))

  pub tells-refused : {refusal : irrevs.the_data} {m : Local} {u : View} → IsNotPromoted c n refusal l v m u → (z : View) (p : Local)
      → p ≡ ended (record m { committing = false }) → AbortsEager n u z
      → Grants good c n refusal (known_of v (own_of l)) (known_of z (own_of p))
  tells-refused {refusal} {m} {u} q z p idle g = opening.tells-refused can refl q z p idle
      (quits-back n v u z (own_of l) can.under k.optimistic.ungranted k.optimistic.rises (ap (λ (y : View). y.steps.rises) q.is) unheld g (opening.unmade can refl q)) (ended-by n u z g)
    where
      unheld : has_written (known_of v (own_of l)) ≡ false → u.owned.held ≡ []
      unheld e = ap (λ (y : View). y.owned.held) q.is ∙ never-held c l v k can.under v (own_of l) refl refl e

  -- THE GRANT: what was written stays in place
  module _ {m : Local} {w : View} (r : IsPromoted good c l v m w) where
    abbrev promoted : Local
    promoted = record l { start = m.start; granted = true }

    stores-some : l.wrote ≡ true → v.owned.in_place ≢ []
    stores-some dirty none = let e : is_empty l.writes.items ≡ true = ap is_empty (k.writes ∙ ap items none) in let f : false ≡ true = sym (ap not e) ∙ (sym k.wrote ∙ dirty) in absurd cc

    stores-none : l.wrote ≡ false → v.owned.in_place ≡ []
    stores-none clean = no-items v.owned.in_place (sym k.writes ∙ length-none l.writes.items (let e = no-writes c l v k clean in omega arith))

    pub stands-promoted : (p : Local) → p ≡ promoted → Stands good c n l v → Stands good c n p w
    stands-promoted p local s = opening.stands-promoted can refl r.seen m.start r.more v.owned.in_place l.writes r.moves s s.lengths p w local r.is (record {
      granted = refl;
      quiescent = refl;
      holds = s.holds ∙ can.alone.holds;
      unlocked = k.optimistic.unlocked;
      unfixed = k.optimistic.unfixed;
      unwritten = k.optimistic.unwritten;
      uncommitted = k.optimistic.uncommitted;
      locks = k.locks;
      places = k.places;
      below = k.below;
      disowned = none-held c l v k;
      few = held-within c l v k;
      clean = stores-none;
      dirty = stores-some;
      rises = k.optimistic.rises;
      limit = (let a = r.limit in let q : entry_rise l.algorithm ≡ 1 = ap entry_rise can.named in omega arith);
    })

    pub tells-granted : (p : Local) → p ≡ promoted → Grants good c n irrevs.Granted (known_of v (own_of l)) (known_of w (own_of p))
    tells-granted p local = opening.tells-promoted can refl r.seen m.start r.more v.owned.in_place l.writes r.moves refl r.found refl (λ none. none) k.optimistic.ungranted p w local r.is
