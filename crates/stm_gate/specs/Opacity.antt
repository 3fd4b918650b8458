-- What an attempt knows of the memory at its start, as a user is told it.
use Rattle.std.proofs.Common.{ℕ, ◌≡◌, ◌<◌, ◌≤◌, ◌+◌, ◌-◌, List, [], ◌∷◌, ◌++◌, Bool, true, false, refl, sym, ap, ◌∙◌, arith, subst, le_refl, append_assoc}
use Rattle.std.proofs.lemmas.List.{length-replicate, append-nil}
use Rattle.std.proofs.lemmas.Bool.Decides.{nat_tests}
use Rattle.std.specs.Prelude.{nat_le, if◌then◌else◌}
use Rattle.stm_model.specs.Histories.{memory_at, Ascending}
use Rattle.stm_model.specs.Histories as public
use Rattle.stm_model.specs.HistoryLaws.{Within, length-memory_at}
use Rattle.stm_model.specs.Memories as public_memories
use Rattle.rule_base.specs.declared.entries.Cell.{Cell}
use Rattle.rule_base.specs.declared.entries.Entry.{Entry}
use Rattle.stm_model.specs.declared.config.Config.{Config}
use Rattle.rule_base.specs.declared.views.View.{View}
use Rattle.rule_base.specs.Bridge.{items, words_of, of_words, public_entry, public_history}
use Rattle.rule_base.specs.Lemmas.BridgeLemmas.{memories, words_of-same, explains-items, legal-always, legal-public}
use Rattle.rule_base.specs.History.{word_at, word_now, Inside, Below, upto, Explains, Legal}
use Rattle.rule_base.specs.Lemmas.HistoryLemmas.{word_at-all, upto-all}
use Rattle.stm_answers.specs.Answers.{IsOpaque}
use Rattle.stm_answers.specs.CallerState.{known_of, zeros}
use Rattle.rule_base.specs.Own.{Own}
use Rattle.stm_rule.specs.declared.local.Local.{Local}
use Rattle.stm_rule.specs.Attempts.{IsInside}
use Rattle.stm_answers.specs.CallerStateLaws.{ascending-append, within-append}

-- the memory at the start is that after what was seen
pub memory-now : (words : ℕ) (h : List Entry) (s : ℕ) → Below h (s + 1) → memory_at s (public_history h) (zeros words) ≡ words_of words (word_now h)
memory-now words h s b = memories words s h ∙ words_of-same words (word_at h s) (word_now h) (λ a. word_at-all h (s + 1) s a b (le_refl (s + 1)))

module _ (good : List ℕ → Type 0) (c : Config) (n : ℕ) where
  pub kept-at : (h : List Entry) (s : ℕ) → Legal (of_words good c.words) c h → Below h (s + 1) → good (memory_at s (public_history h) (zeros c.words))
  kept-at h s legal below = subst good (sym (memories c.words s h)) (legal-always good c h (s + 1) s below legal)

  pub sees-at : (h : List Entry) (s : ℕ) (reads : List Cell) → Below h (s + 1) → Explains (word_now h) reads → Inside c.words reads → public_memories.Explains (memory_at s (public_history h) (zeros c.words)) (items reads)
  sees-at h s reads below sees inside = subst (λ (m : List ℕ). public_memories.Explains m (items reads)) (sym (memory-now c.words h s below)) (explains-items c.words (word_now h) reads inside sees)

  pub opaque-at : (v : View) (o : Own) (s : ℕ) → v.attempt.start ≡ s → v.history.front ≡ s → Legal (of_words good c.words) c v.history.seen → Below v.history.seen (s + 1)
      → Explains (word_now v.history.seen) v.attempt.reads → Inside c.words v.attempt.reads → IsOpaque good c n (known_of v o)
  opaque-at v o s is front legal below sees inside =
      let kept = kept-at v.history.seen s legal below in
      let all = sees-at v.history.seen s v.attempt.reads below sees inside in
      subst (λ (k : ℕ). good (memory_at k (public_history v.history.seen) (zeros c.words)) → public_memories.Explains (memory_at k (public_history v.history.seen) (zeros c.words)) (items v.attempt.reads) → IsOpaque good c n (known_of v o)) is
      (λ g e. record {
        legal = legal-public good c v.history.seen (s + 1) below legal;
        reach = (let a = is in let b = front in omega arith);
        sees = e;
        kept = g;
        explained = (
          memory_at v.attempt.start (public_history v.history.seen) (zeros c.words),
          g,
          length-memory_at v.attempt.start (public_history v.history.seen) (zeros c.words) ∙ length-replicate c.words 0,
          e,
          (legal-public good c v.history.seen (s + 1) below legal).words_always v.attempt.start,
        );
      }) kept all

  -- an open attempt has read the memory at its start
  pub opaque-inside : (l : Local) (v : View) (o : Own) → IsInside good c n l v → IsOpaque good c n (known_of v o)
  opaque-inside l v o i = opaque-at v o l.start i.start i.front i.legal i.below i.sees i.reads_inside

-- what a later clock shows comes after what was seen
pub later-seen : (h : List Entry) (front clock : ℕ) → Below h (clock + 1) → front ≤ clock
    → (later : List public.Entry) × (public_history h ≡ public_history (upto h front) ++ later) × Ascending front later × Within clock later
later-seen [] front clock b le = ([], refl, tt, tt)
later-seen (e ∷ h) front clock b le = by (nat_le e.time front) refl (λ lt. later-seen h front (e.time - 1) (subst (Below h) (omega arith) b.1) (omega arith))
  where
    by : (t : Bool) → nat_le e.time front ≡ t
        → (front < e.time → (later : List public.Entry) × (public_history h ≡ public_history (upto h front) ++ later) × Ascending front later × Within (e.time - 1) later)
        → (later : List public.Entry) × (public_history (e ∷ h) ≡ public_history (if t then e ∷ upto h front else upto h front) ++ later) × Ascending front later × Within clock later
    by true q rec = let all : upto h front ≡ h = upto-all h e.time front b.1 (grind (arith, nat_tests)) in
        ([], rw all (sym (append-nil (public_history (e ∷ h)))), tt, tt)
    by false q rec =
        let lt : front < e.time = grind (arith, nat_tests) in
        let r = rec lt in
        let last = public_entry e in
        let top = b.0 in (
          r.0 ++ last ∷ [],
          ap (λ l. l ++ last ∷ []) r.1 ∙ append_assoc (public_history (upto h front)) r.0 (last ∷ []),
          ascending-append front (e.time - 1) r.0 (last ∷ []) r.2 r.3 (omega arith) (omega arith, tt),
          within-append (e.time - 1) clock r.0 (last ∷ []) r.3 (omega arith) (omega arith, tt),
        )
