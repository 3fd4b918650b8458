-- What a promotion of OrecLazy asks and comes to.
use Rattle.std.proofs.Common.{ℕ, ◌≡◌, ◌<◌, ◌≤◌, List, [], ◌∷◌, ◌++◌, Bool, true, false, refl, sym, ap, ◌∙◌, arith, subst, append_assoc}
use Rattle.std.specs.Prelude.{None, Some, not}
use Rattle.std.proofs.lemmas.List.Elements.{Contains-append_right}
use Rattle.stm_model.specs.Algorithms.{has_records, entry_rise}
use Rattle.stm_model.specs.declared.alg.Alg.TheVariants.{OrecLazy}
use Rattle.stm_model.specs.declared.config.Config.{Config}
use Rattle.stm_model.specs.declared.config.TheConstants.{CLOCK_LIMIT}
use Rattle.stm_model.specs.Memories.{item_at, is_empty}
use Rattle.rule_base.specs.declared.entries.Cell.{Cell}
use Rattle.rule_base.specs.declared.layout.At.TheVariants.{Clock}
use Rattle.rule_base.specs.declared.views.TracedStep.{TracedStep}
use Rattle.rule_base.specs.declared.views.View.{View}
use Rattle.rule_base.specs.Bridge.{items}
use Rattle.rule_base.specs.Encodings.{fenced}
use Rattle.rule_base.specs.History.{over, touches, Inside, Small}
use Rattle.stm_rule.specs.declared.local.Local.{Local}
use Rattle.stm_rule.specs.Attempts.{Stands, emptied, ended, own_of}
use Rattle.stm_rule.specs.RecordsKept.{cells_of, IsLazy}
use Rattle.stm_answers.specs.declared.answers.Irrev.TheVariants as irrevs
use Rattle.stm_answers.specs.CallerState.{known_of}
use Rattle.stm_gate.specs.Granting.{Grants}
use Rattle.alg_orec.specs.Ending.{CanAbortLazy, GivesUp}
use Rattle.alg_orec.specs.Granting.{CanPromote, promoted_at, IsPromoted, IsNotPromoted, CanStoreAll, StoresAll}
use Rattle.alg_orec.specs.Validating.{load_of}
use Rattle.stm_gate.proofs.Cells.{items-cells, cells-some}
use Rattle.alg_orec.proofs.GrantOpening.{CanGrant}
use Rattle.alg_orec.proofs.GrantOpening as opening
use Rattle.alg_orec.proofs.Proving.{lazy-of, quits-back, ended-by}

module _ {good : List ℕ → Type 0} {c : Config} {n : ℕ} {l : Local} {v : View} (can : CanGrant OrecLazy good c n l v) where
  k : IsLazy c l v
  k = lazy-of good c n l v can.inside can.named can.plain

  none-held : v.owned.held ≡ []
  none-held = k.open_handed can.free

  no-locks : l.locks.items ≡ []
  no-locks = k.locks ∙ ap items none-held

  -- it holds no record
  unheld : (P : ℕ → Type 0) (r : ℕ) → touches v.owned.held r ≡ true → P r
  unheld P r held = absurd (let e : touches v.owned.held r ≡ false = ap (λ (cs : List Cell). touches cs r) none-held in let f : true ≡ false = sym held ∙ e in cc)

  pub may-promote : CanPromote c n l v
  may-promote = record {
    validates = record {
      opens = record { has = record { runs = record { phase = can.inside.phase; algorithm = ap has_records can.under; plain = k.optimistic.ungranted }; inside = k.inside }; open_yet = k.open_yet };
      start = can.inside.start;
      reads = k.reads;
      locks = k.locks;
      versions = λ r version e. absurd (let f : None ≡ Some version = sym (ap (item_at r) no-locks) ∙ e in cc);
      level = λ one. let a = can.inside.start in let b = k.sole one in let d = k.optimistic.rises in omega arith;
    };
    alone = can.alone;
    stores = record {
      unlocked = k.optimistic.unlocked;
      inside = subst (Inside c.words) (sym k.unplaced) (λ a t. absurd cc);
      small = subst Small (sym k.unplaced) (λ a d lt. lt);
    };
    not_quiescent = k.optimistic.not_quiescent;
    olds = unheld (λ (r : ℕ). over v.owned.held r 0 ≤ l.start);
    below = unheld (λ (r : ℕ). over v.owned.held r 0 < CLOCK_LIMIT);
  }

  -- it can be taken back
  pub may-abort : {refusal : irrevs.the_data} {m : Local} {u : View} → IsNotPromoted c n refusal l v m u → CanAbortLazy c m u
  may-abort {refusal} {m} {u} q = subst (λ (x : Local). CanAbortLazy c x u) (sym q.local) (subst (CanAbortLazy c l) (sym q.is) (record {
    opens = record { has = record { runs = record { phase = can.inside.phase; algorithm = ap has_records can.under; plain = k.optimistic.ungranted }; inside = k.inside }; open_yet = k.open_yet };
    lazy = k.lazy;
    unplaced = k.unplaced;
    undone = k.undone;
    repaid = k.repaid;
    locks = k.locks;
    places = k.places;
    versions = may-promote.validates.versions;
    unlocked = k.optimistic.unlocked;
    unfixed = k.optimistic.unfixed;
    unwritten = k.optimistic.unwritten;
    uncommitted = k.optimistic.uncommitted;
    unstored = k.optimistic.unstored;
    unentered = can.inside.unentered;
  }))

  pub tells-refused : {refusal : irrevs.the_data} {m : Local} {u : View} → IsNotPromoted c n refusal l v m u → (z : View) (p : Local)
      → p ≡ ended (record m { committing = false }) → GivesUp n u z
      → Grants good c n refusal (known_of v (own_of l)) (known_of z (own_of p))
  tells-refused {refusal} {m} {u} q z p idle g = opening.tells-refused can refl q z p idle
      (quits-back n v u z (own_of l) can.under k.optimistic.ungranted k.optimistic.rises (opening.unmade can refl q) (ap (λ (y : View). y.steps.rises) q.is) g) (ended-by n u z g)

  -- THE GRANT: what was written is stored
  pub may-store : {m : Local} {u : View} → IsPromoted good c l v m u → CanStoreAll c.words m u
  may-store r = record {
    granted = ap (λ (y : View). y.gate.granted) r.is;
    unstored = ap (λ (y : View). y.attempt.stores) r.is ∙ k.unplaced;
    inside = subst (λ (q : Local). Inside c.words (cells_of q.writes.items)) (sym r.local) k.buffers.inside;
    spared = λ a t. ap (λ (y : View). fenced y.gate.fence a) r.is ∙ (ap (λ f. fenced f a) can.inside.spared.is ∙ k.buffers.apart a (subst (λ (q : Local). touches (cells_of q.writes.items) a ≡ true) r.local t));
  }

  module _ {m : Local} {u w : View} (r : IsPromoted good c l v m u) (st : StoresAll m u w) where
    abbrev promoted : Local
    promoted = record l { start = m.start; writes = emptied l.writes; granted = true }

    abbrev y : View
    y = record (promoted_at v r.seen m.start (st.more ++ r.more)) { attempt = record { start = m.start; reads = v.attempt.reads; stores = cells_of l.writes.items; entered = false } }

    path : w ≡ y
    path = st.is ∙ ((λ j.
        record (r.is j) {
          attempt = record (r.is j).attempt { stores = cells_of (ap (λ (q : Local). q.writes.items) r.local j) };
          steps = record (r.is j).steps { step_trace = st.more ++ (r.is j).steps.step_trace };
        })
        ∙ ap (λ (t : List TracedStep). record y { steps = record v.steps { step_trace = t } }) (sym (append_assoc st.more r.more v.steps.step_trace)))

    pub stands-promoted : (p : Local) → p ≡ promoted → Stands good c n l v → Stands good c n p w
    stands-promoted p local s = opening.stands-promoted can refl r.seen m.start (st.more ++ r.more) (cells_of l.writes.items) (emptied l.writes) r.moves s s.lengths p w local path (record {
      granted = refl;
      quiescent = refl;
      holds = s.holds ∙ can.alone.holds;
      clear = record { unlocked = k.optimistic.unlocked; unfixed = k.optimistic.unfixed; disowned = none-held; unwritten = k.optimistic.unwritten; uncommitted = k.optimistic.uncommitted; unentered = refl };
      clean = λ e. none_written l.writes.items (no-not (is_empty l.writes.items) (sym k.buffers.wrote ∙ e));
      dirty = λ e. cells-some l.writes.items (not-yes (is_empty l.writes.items) (sym k.buffers.wrote ∙ e)) (items-cells l.writes.items k.buffers.once);
      rises = k.optimistic.rises;
      limit = (let a = r.limit in let q : entry_rise l.algorithm ≡ 1 = ap entry_rise can.named in omega arith);
    })
      where
        none_written : (ws : List (ℕ × ℕ)) → is_empty ws ≡ true → cells_of ws ≡ []
        none_written [] e = refl
        none_written (x ∷ xs) e = absurd cc

        no-not : (b : Bool) → not b ≡ false → b ≡ true
        no-not true e = refl
        no-not false e = absurd cc

        not-yes : (b : Bool) → not b ≡ true → b ≡ false
        not-yes true e = absurd cc
        not-yes false e = refl

    pub tells-granted : (p : Local) → p ≡ promoted → Grants good c n irrevs.Granted (known_of v (own_of l)) (known_of w (own_of p))
    tells-granted p local = opening.tells-promoted can refl r.seen m.start (st.more ++ r.more) (cells_of l.writes.items) (emptied l.writes) r.moves refl
        (Contains-append_right st.more r.more (load_of Clock m.start) r.found) refl (λ none. refl) k.optimistic.ungranted p w local path
