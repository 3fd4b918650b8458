-- Laying writes over a memory, and writing them one after the other.
use Rattle.std.proofs.Common.{ℕ, ◌≡◌, ◌≢◌, List, [], ◌∷◌, set, Bool, true, false, refl, sym, ap, ◌∙◌, arith}
use Rattle.std.specs.Prelude.{Some, None, All, ◌<◌, ◌^◌, ◌==◌, if◌then◌else◌}
use Rattle.std.proofs.lemmas.List.Elements.{All-head, All-tail, All-set}
use Rattle.std.proofs.lemmas.Bool.Decides.{nat_tests}
use Rattle.stm_model.specs.Memories.{AreWords, overlay, written, item_at, Once}
use Rattle.stm_model.specs.Overlays.{set_apart}

none-apart : (a b v : ℕ) (ws : List (ℕ × ℕ)) (t : Bool) → (b == a) ≡ t → (if t then Some v else item_at a ws) ≡ None → (b ≢ a) × (item_at a ws ≡ None)
none-apart a b v ws true e h = absurd cc
none-apart a b v ws false e h = (grind (arith, nat_tests), h)

-- a write of an address that the list lacks may come before it or after
overlay-set : (m : List ℕ) (a v : ℕ) (ws : List (ℕ × ℕ)) → item_at a ws ≡ None → overlay (set m a v) ws ≡ set (overlay m ws) a v
overlay-set m a v [] h = refl
overlay-set m a v (w ∷ ws) h =
    let n = none-apart a w.0 w.1 ws (w.0 == a) refl h in
    ap (λ x. set x w.0 w.1) (overlay-set m a v ws n.1) ∙ set_apart (overlay m ws) a w.0 v w.1 (λ e. n.0 (sym e))

-- words under words are words
pub overlay-words : (m : List ℕ) (ws : List (ℕ × ℕ)) → AreWords m → All (λ (w : ℕ × ℕ). w.1 < 2 ^ 64) ws → AreWords (overlay m ws)
overlay-words m [] are small = are
overlay-words m (w ∷ ws) are small = All-set (λ (v : ℕ). v < 2 ^ 64) (overlay m ws) w.0 w.1 (All-head (λ (v : ℕ × ℕ). v.1 < 2 ^ 64) w ws small) (overlay-words m ws are (All-tail (λ (v : ℕ × ℕ). v.1 < 2 ^ 64) w ws small))

pub overlay-written : (m : List ℕ) (ws : List (ℕ × ℕ)) → Once ws → overlay m ws ≡ written m ws
overlay-written m [] h = refl
overlay-written m (w ∷ ws) h = sym (overlay-set m w.0 w.1 ws h.0) ∙ overlay-written (set m w.0 w.1) ws h.1
