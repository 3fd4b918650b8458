-- Laws of what callers leave.
use Rattle.std.proofs.Common.{ℕ, zero, suc, ◌≡◌, ◌<◌, ◌+◌, ◌∙◌, List, [], ◌∷◌, map, length, get_or, set, refl, sym, ap, arith, subst}
use Rattle.std.proofs.lemmas.List.{get_or-map, length-map}
use Rattle.stm_model.specs.declared.alg.Alg.{Alg}
use Rattle.rule_base.specs.declared.views.View.{View}
use Rattle.rule_base.specs.Bridge.{public_history}
use Rattle.stm_rule.specs.declared.stm.Stm.{Stm}
use Rattle.stm_rule.specs.Callers.{Handle, AllOpened}
use Rattle.stm_rule.specs.Closings.{Ended, Told, AllTold, installs_of}
use Rattle.stm_answers.specs.CallerState.{caller_of}
use Rattle.stm_tx.specs.Descs.{known, number}
use Rattle.tx_atomic.specs.Callers.{AllReady, IsThrough}
use Rattle.tx_atomic.specs.CallerLaws.{ready-each}
use Rattle.tx_jobs.specs.Known.{Known}
use Rattle.tx_jobs.specs.Stories.{IsStory}
use Rattle.tx_start.specs.declared.working.Left.{Left}
use Rattle.tx_start.specs.Lefts.{desc_in, descs_in, answer_in, answers_in, tally_in, tallies_in, AllNew, Works}
use Rattle.tx_atomic.specs.declared.tally.Tally.{Tally}
use Rattle.tx_atomic.specs.Tallies.{none}
use Rattle.tx_start.specs.Counts.{AllCounted, Counts, IsCounted}
use Rattle.tx_start.specs.Pasts.{commits_of, past_of}
use Rattle.tx_start.specs.Seats.{shown}
use Rattle.tx_start.specs.SeatLaws.{top-within}

module _ {K : Type 0} (stm : Stm K) where
  -- callers that were opened have made and installed nothing
  pub opened-new : (n : ℕ) (ds : List (Handle K)) → AllOpened stm n ds → (i : ℕ) (x : Handle K) → i < length ds → ((known (get_or ds i x)).made ≡ []) × ((known (get_or ds i x)).installs ≡ [])
  opened-new n [] h i x lt = absurd (omega arith)
  opened-new n (d ∷ ds) h zero x lt = (ap (λ (v : View). public_history v.history.made) h.2, ap installs_of h.2)
  opened-new n (d ∷ ds) h (suc i) x lt = opened-new (suc n) ds h.4 i x (omega (arith, lt))

  -- a caller's number
  numbered : (n i : ℕ) (ds : List (Handle K)) (x : Handle K) → AllReady stm n ds → i < length ds → number (get_or ds i x) ≡ n + i
  numbered n i [] x h lt = absurd (omega arith)
  numbered n zero (d ∷ ds) x h lt = let e : n ≡ n + 0 = omega arith in ap caller_of h.1 ∙ e
  numbered n (suc i) (d ∷ ds) x h lt = let e : suc n + i ≡ n + suc i = omega arith in numbered (suc n) i ds x h.3 (omega (arith, lt)) ∙ e

-- the first of them installed the memory's first algorithm
pub new-set : {K : Type 0} (alg : Alg) (ds : List (Handle K)) (e : Handle K) → ((i : ℕ) (x : Handle K) → i < length ds → ((known (get_or ds i x)).made ≡ []) × ((known (get_or ds i x)).installs ≡ []))
    → (known e).made ≡ [] → (known e).installs ≡ alg ∷ [] → AllNew alg (set ds 0 e)
new-set alg [] e all made installs i x lt = absurd (omega (arith, lt))
new-set alg (d ∷ ds) e all made installs zero x lt = (made, installs)
new-set alg (d ∷ ds) e all made installs (suc i) x lt = all (suc i) x lt

told-at : {K : Type 0} (e : Ended) (n i : ℕ) (ds : List (Handle K)) (x : Handle K) → AllTold e n ds → i < length ds → Told e (n + i) (get_or ds i x)
told-at e n i [] x h lt = absurd (omega arith)
told-at e n zero (d ∷ ds) x h lt = let s : n ≡ n + 0 = omega arith in subst (λ k. Told e k d) s h.0
told-at e n (suc i) (d ∷ ds) x h lt = let s : suc n + i ≡ n + suc i = omega arith in subst (λ k. Told e k (get_or ds i x)) s (told-at e (suc n) i ds x h.1 (omega (arith, lt)))

module _ {K V : Type 0} (good : List ℕ → Type 0) (stm : Stm K) (alg : Alg) (tells : ℕ → V → Known → Known → Type 0) where
  -- each caller did its job
  pub each-worked : (ds : List (Handle K)) (ls : List (Left K V)) → AllReady stm 0 ds → length ls ≡ length ds
      → ((i : ℕ) (l : Left K V) (x : Handle K) → i < length ds → Works good stm.config tells (get_or ds i x) (get_or ls i l)) → AllReady stm 0 (descs_in ls)
  each-worked ds [] ready count each = ready-each stm 0 ds [] ready count (λ i x lt. absurd (omega (arith, lt, count)))
  each-worked ds (l ∷ ls) ready count each =
      let many = length-map (l ∷ ls) desc_in in
      ready-each stm 0 ds (descs_in (l ∷ ls)) ready (many ∙ count) (λ i x lt. subst (λ (e : Handle K). IsThrough (get_or ds i x) e) (sym (get_or-map desc_in (l ∷ ls) i l x (omega (arith, lt, count)))) (each i l x lt).through)

  -- all that it did is in the history
  last-told : (ls : List (Left K V)) (d : Left K V) (e : Ended) (i : ℕ) → i < length ls → AllTold e 0 (descs_in ls) → Told e i (get_or ls i d).desc
  last-told ls d e i lt told =
      let place : i < length (descs_in ls) = let many = length-map ls desc_in in omega (arith, lt, many) in
      let at : get_or (descs_in ls) i d.desc ≡ (get_or ls i d).desc = get_or-map desc_in ls i d d.desc lt in
      let zero_i : 0 + i ≡ i = omega arith in
      subst (λ k. Told e k (get_or ls i d).desc) zero_i (subst (λ (x : Handle K). Told e (0 + i) x) at (told-at e 0 i (descs_in ls) d.desc told place))

  -- and what it installed is told
  installed : (ls : List (Left K V)) (d : Left K V) (e : Ended) (i : ℕ) → i < length ls → e.installs ≡ map (λ (x : Handle K). installs_of x.view) (descs_in ls)
      → get_or e.installs i [] ≡ installs_of (get_or ls i d).desc.view
  installed ls d e i lt installs =
      let place : i < length (descs_in ls) = let many = length-map ls desc_in in omega (arith, lt, many) in
      let at : get_or (descs_in ls) i d.desc ≡ (get_or ls i d).desc = get_or-map desc_in ls i d d.desc lt in
      ap (λ (xs : List (List Alg)). get_or xs i []) installs
      ∙ (get_or-map (λ (x : Handle K). installs_of x.view) (descs_in ls) i d.desc [] place ∙ ap (λ (x : Handle K). installs_of x.view) at)

  -- so its tally counts all that it did
  counted-at : (ds : List (Handle K)) (ls : List (Left K V)) (e : Ended) → AllReady stm 0 ds → AllNew alg ds → length ls ≡ length ds
      → ((i : ℕ) (l : Left K V) (x : Handle K) → i < length ds → Works good stm.config tells (get_or ds i x) (get_or ls i l))
      → AllTold e 0 (descs_in ls) → e.installs ≡ map (λ (d : Handle K). installs_of d.view) (descs_in ls) → (i : ℕ) (t : Tally) → i < length (tallies_in ls)
      → IsCounted good stm.config alg e i (get_or (tallies_in ls) i t)
  counted-at ds [] e ready new count each told installs i t lt = absurd (omega (arith, lt))
  counted-at ds (l ∷ ls) e ready new count each told installs i t lt =
      let here : i < length (l ∷ ls) = let many = length-map (l ∷ ls) tally_in in omega (arith, lt, many) in
      let within : i < length ds = omega (arith, here, count) in
      let one : Left K V = get_or (l ∷ ls) i l in
      let first : Handle K = get_or ds i l.desc in
      let zero_i : 0 + i ≡ i = omega arith in
      let nth : number first ≡ i = numbered stm 0 i ds l.desc ready within ∙ zero_i in
      let mine = subst (λ k. Counts good stm.config k (known first) (known one.desc) none one.tally) nth (each i l l.desc within).counts in
      record {
        before = known first;
        after = known one.desc;
        fresh = (new i l.desc within).0;
        begun = (new i l.desc within).1;
        made = (last-told (l ∷ ls) l e i here told).made;
        installed = installed (l ∷ ls) l e i here installs;
        counts = subst (λ (q : Tally). Counts good stm.config i (known first) (known one.desc) none q) (sym (get_or-map tally_in (l ∷ ls) i l t here)) mine;
      }

  pub all-counted : (ds : List (Handle K)) (ls : List (Left K V)) (e : Ended) → AllReady stm 0 ds → AllNew alg ds → length ls ≡ length ds → length ds ≡ stm.config.callers
      → ((i : ℕ) (l : Left K V) (x : Handle K) → i < length ds → Works good stm.config tells (get_or ds i x) (get_or ls i l))
      → AllTold e 0 (descs_in ls) → e.installs ≡ map (λ (d : Handle K). installs_of d.view) (descs_in ls) → AllCounted good stm.config alg e (tallies_in ls)
  all-counted ds ls e ready new count many each told installs = record {
    count = length-map ls tally_in ∙ (count ∙ many);
    each = counted-at ds ls e ready new count each told installs;
  }

  -- and has its story
  pub stories : (ds : List (Handle K)) (ls : List (Left K V)) (e : Ended) → AllReady stm 0 ds → AllNew alg ds → length ls ≡ length ds
      → ((i : ℕ) (l : Left K V) (x : Handle K) → i < length ds → Works good stm.config tells (get_or ds i x) (get_or ls i l))
      → AllTold e 0 (descs_in ls) → e.installs ≡ map (λ (d : Handle K). installs_of d.view) (descs_in ls) → (i : ℕ) (a : V) → i < length ds
      → IsStory alg (tells i) (past_of e (tallies_in ls)) i (get_or (answers_in ls) i a)
  stories ds [] e ready new count each told installs i a lt = absurd (omega (arith, lt, count))
  stories ds (l ∷ ls) e ready new count each told installs i a lt =
      let here : i < length (l ∷ ls) = omega (arith, lt, count) in
      let x : Handle K = l.desc in
      let one : Left K V = get_or (l ∷ ls) i l in
      let this = last-told (l ∷ ls) l e i here told in
      let works = each i l x lt in
      let before : Known = shown (known (get_or ds i x)) 0 in
      let after : Known = shown (known one.desc) one.tally.commits in
      let answer : get_or (answers_in (l ∷ ls)) i a ≡ one.answer = get_or-map answer_in (l ∷ ls) i l a here in
      let nth : number (get_or ds i x) ≡ i = numbered stm 0 i ds x ready lt ∙ (let zero_i : 0 + i ≡ i = omega arith in zero_i) in
      let counts : i < length (tallies_in (l ∷ ls)) = let many = length-map (l ∷ ls) tally_in in omega (arith, here, many) in
      record {
        before = before;
        after = after;
        told = subst (λ (b : V). tells i b before after) (sym answer) (subst (λ k. tells k one.answer before after) nth works.told);
        fresh = ((new i x lt).0, refl);
        begun = (new i x lt).1;
        made = this.made;
        seen = this.seen;
        installed = installed (l ∷ ls) l e i here installs;
        counted = get_or-map commits_of (tallies_in (l ∷ ls)) i l.tally 0 counts ∙ ap commits_of (get_or-map tally_in (l ∷ ls) i l l.tally here);
        found = top-within e.clock one.desc.view.steps.step_trace this.clocks;
      }
