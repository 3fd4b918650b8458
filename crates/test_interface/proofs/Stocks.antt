-- The small program's rule: two stocks, the words 0 and 1, have room for so many pieces together.
use Rattle.std.specs.Prelude.{◌⊎◌}
use Rattle.std.proofs.Common.{ℕ, ◌≡◌, ◌+◌, ◌<◌, ◌≤◌, List, [], length, get_or, set, true, false, sym, ap, ◌∙◌, arith, subst, inl, inr}
use Rattle.std.proofs.lemmas.List.{get_or-set_same, get_or-set_other}
use Rattle.stm_model.specs.declared.config.Config.{Config}
use Rattle.stm_model.specs.Logs.{Log, Reads, Writes}
use Rattle.stm_model.specs.Memories.{overlay, Explains}
use Rattle.stm_model.specs.Overlays.{reads-see, writes-see}
use Rattle.stm_answers.specs.declared.answers.Cancel.{Cancel}
use Rattle.stm_answers.specs.declared.answers.Cancel.TheVariants.{Cancelled, Irrevocable}
use Rattle.stm_answers.specs.Answers.{Cancels}
use Rattle.stm_answers.specs.CallerState.{CallerState, IsIdle, is_irrevocable, no_log}

-- an attempt that goes on as it was can still be cancelled
pub still-revocable : (v w : CallerState) → w.alg ≡ v.alg → w.granted ≡ v.granted → w.log ≡ v.log → is_irrevocable v ≡ false → is_irrevocable w ≡ false
still-revocable v w alg granted log revocable = let is : is_irrevocable w ≡ is_irrevocable v = cc in is ∙ revocable

-- and is over once it was
pub cancels-idle : (good : List ℕ → Type 0) (c : Config) (n : ℕ) (r : Cancel) (v w : CallerState) → is_irrevocable v ≡ false → Cancels good c n r v w → IsIdle w
cancels-idle good c n (Cancelled time) v w revocable h = h.0.ends.idle
cancels-idle good c n Irrevocable v w revocable h = absurd (let no : false ≡ true = sym revocable ∙ h.1 in cc)

abbrev pub HasRoom : ℕ → List ℕ → Type 0
HasRoom room m = get_or m 0 0 + get_or m 1 0 ≤ room

-- both words were read, and nothing was written
pub stocks-read : (m : List ℕ) (a b c : Log) (left right : ℕ) → a ≡ no_log → Reads a 0 left b → Reads b 1 right c → 1 < length m → Explains m c.reads
    → (get_or m 0 0 ≡ left) × (get_or m 1 0 ≡ right) × (c.writes ≡ [])
stocks-read m a b c left right none first second long ex =
    let two = reads-see m b 1 right c long second ex in
    let one = reads-see m a 0 left b (omega arith) first two.0 in
    let at_first : a.writes ≡ [] = ap (λ (l : Log). l.writes) none in
    let then_ : b.writes ≡ [] = first.0 ∙ at_first in
    (subst (λ ws. get_or (overlay m ws) 0 0 ≡ left) at_first one.1, subst (λ ws. get_or (overlay m ws) 1 0 ≡ right) then_ two.1, second.0 ∙ then_)

-- one piece more on a stock, where there is room for it
pub stocks-put : (room stock value left right : ℕ) (m : List ℕ) (c d : Log) → 1 < length m → (get_or m 0 0 ≡ left) × (get_or m 1 0 ≡ right) × (c.writes ≡ []) → Writes c stock value d
    → ((stock ≡ 0) × (value ≡ left + 1)) ⊎ ((stock ≡ 1) × (value ≡ right + 1)) → left + right < room → HasRoom room (overlay m d.writes)
stocks-put room stock value left right m c d long was w more lt =
    let bare : overlay m c.writes ≡ m = ap (overlay m) was.2 in
    let is : overlay m d.writes ≡ set m stock value = (writes-see m c stock value d w).1 ∙ ap (λ (x : List ℕ). set x stock value) bare in
    subst (HasRoom room) (sym is) (go more)
  where
    go : ((stock ≡ 0) × (value ≡ left + 1)) ⊎ ((stock ≡ 1) × (value ≡ right + 1)) → HasRoom room (set m stock value)
    go (inl h) = subst (λ i. HasRoom room (set m i value)) (sym h.0)
        (let here : get_or (set m 0 value) 0 0 ≡ value = get_or-set_same m 0 value 0 (omega arith) in
        let other : get_or (set m 0 value) 1 0 ≡ get_or m 1 0 = get_or-set_other m 0 1 value 0 (omega arith) in
        let is_more = h.1 in let one = was.1 in omega arith)
    go (inr h) = subst (λ i. HasRoom room (set m i value)) (sym h.0)
        (let here : get_or (set m 1 value) 1 0 ≡ value = get_or-set_same m 1 value 0 long in
        let other : get_or (set m 1 value) 0 0 ≡ get_or m 0 0 = get_or-set_other m 1 0 value 0 (omega arith) in
        let is_more = h.1 in let one = was.0 in omega arith)
