use Rattle.std.proofs.Common.{ℕ, zero, suc, ◌≡◌, ◌<◌, ◌++◌, List, [], ◌∷◌, length, drop, refl, sym, ap, ◌∙◌, arith, string_bytes}
use Rattle.std.specs.Prelude.{codes}
use Rattle.draw_pictures.specs.Shown.{shown, shown_words}
use Rattle.draw_pictures.proofs.shown.put_shown.Goals as goal

-- no room is left, and a byte is
cut-off : (room before i : ℕ) (bs : List ℕ) → room ≡ 0 → i < length bs → shown room before (drop i bs) ≡ codes ".."
cut-off room before i [] none lt = absurd (omega arith)
cut-off room before zero (b ∷ bs) none lt = rw none refl
cut-off room before (suc i) (b ∷ bs) none lt = cut-off room before i bs none (omega arith)

pub returns-then-room-eq0 : goal.returns-then-room-eq0
returns-then-room-eq0 c =
    let bs = c.as_bytes-bytes.result.now in
    c.in_ok-push_str.ensures.bytes
    ∙ (ap (λ t. string_bytes c.loop-i.text ++ t) (sym (cut-off c.loop-i.room c.loop-i.before c.loop-i.i bs c.if-room-eq0.true c.loop-i-test.true))
    ∙ (c.loop-i.invariant.bytes ∙ ap (λ t. string_bytes c.args.text.now ++ shown_words t) c.as_bytes-bytes.ensures.value))
