use Rattle.std.proofs.Common.{◌≡◌, List, replicate, sym, subst}
use Rattle.stm_model.specs.declared.plain.PlainWord.{PlainWord}
use Rattle.stm_model.specs.Memories.{AreWords, overlay}
use Rattle.stm_model.specs.Plains.{openings, own_writes}
use Rattle.test_data.proofs.PlainZeros.{zero_word, zero-words, zero-memory}
use Rattle.test_data.proofs.shared.zeros.Goals as goal

pub new-requires : goal.new-requires
new-requires c = record { words = subst (λ (ws : List PlainWord). AreWords (openings ws)) (sym (c.in_ok-vec.ensures.items_if_clones_equal (λ y e. e))) (zero-words c.args.words) }

pub returns-clause-zeros : goal.returns-clause-zeros
returns-clause-zeros c =
    let n = c.args.words in
    let items : c.in_ok-vec.field-0.items ≡ replicate n zero_word = c.in_ok-vec.ensures.items_if_clones_equal (λ y e. e) in
    let made : c.new.result ≡ c.in_ok-vec.field-0.items = c.new.ensures in
    subst (λ (ws : List PlainWord). overlay (openings ws) (own_writes ws) ≡ replicate n 0) (sym made)
    (subst (λ (ws : List PlainWord). overlay (openings ws) (own_writes ws) ≡ replicate n 0) (sym items) (zero-memory n))
