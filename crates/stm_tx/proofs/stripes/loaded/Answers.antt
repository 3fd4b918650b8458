use Rattle.std.proofs.Common.{ℕ, ◌≡◌, ◌/◌, ◌%◌, slice_index, subst, arith}
use Rattle.std.specs.Int.{bit_at}
use Rattle.stm_tx.proofs.StripeLaws.{or-words}
use Rattle.stm_tx.proofs.stripes.loaded.Goals as goal

pub returns : goal.returns
returns c = λ a e.
    let same : a % 64 % 32 ≡ a % 32 = omega arith in
    subst (λ (k : ℕ). bit_at c.of_bits.result.bits k ≡ 1) same
    (c.of_bits.ensures (a % 64) (omega arith)
    (or-words (slice_index c.args.filter.now) c.word.result c.word-2.result c.word-3.result c.word-4.result c.word.ensures c.word-2.ensures c.word-3.ensures c.word-4.ensures (a % 256 / 64) (a % 64) (omega arith) e))
