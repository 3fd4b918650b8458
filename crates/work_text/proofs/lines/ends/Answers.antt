use Rattle.std.proofs.Common.{rules, ℕ, ◌≡◌, ◌↔◌, ◌<◌, ◌+◌, ◌-◌, ◌%◌, ◌^◌, false, take, replicate, get_or, refl, sym, subst, arith, w8}
use Rattle.std.specs.Prelude.{ltb}
use Rattle.std.specs.Simd.Lanes.{zip2}
use Rattle.std.specs.Int.{bit_at}
use Rattle.std.proofs.lemmas.Simd.{bitmask_splat}
use Rattle.work_text.specs.Reading.{is_visible}
use Rattle.work_text.proofs.ReadingLaws.{length-lanes, ends-told}
use Rattle.work_text.proofs.lines.ends.Goals as goal

abbrev less : ℕ → ℕ → ℕ
less a b = (a + (2 ^ 8 - b)) % 2 ^ 8

pub returns : goal.returns
returns c k =
    let s = c.args.s.now in
    let turned : (b : ℕ) → b < 256 → less b 127 ≡ (b + 129) % 256 = λ b lt. refl in
    let bytes : (j : ℕ) → get_or s j 0 < 256 = search rules in
    let x = zip2 less (take 16 s) (replicate 16 127) in
    subst (λ m. (bit_at m k ≡ 1) ↔ ((k < 16) × (is_visible (get_or s k 0) ≡ false)))
    (sym (bitmask_splat w8 ltb x 16 162 (length-lanes less s c.requires turned bytes) (omega arith))) (ends-told less s c.requires turned bytes k)
