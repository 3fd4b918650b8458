use Rattle.std.proofs.Common.{sym, ◌∙◌, slice_index}
use Rattle.stm_logs.proofs.FilterLemmas.{lowest-next, lowest-here, lowest-none, meets-lowest}
use Rattle.stm_logs.proofs.filter.Filter.common.Goals as goal

pub returns-then-bits-ne0-clause-common : goal.returns-then-bits-ne0-clause-common
returns-then-bits-ne0-clause-common c =
    let f = slice_index c.self.inside.words in
    let g = slice_index c.other.inside.words in
    rw (← c.self.view_is, ← c.other.view_is) (sym (lowest-here f g c.loop-i.i c.loop-i-test.true c.if-bits-ne0.true) ∙ c.loop-i.invariant)

pub loop-i-preserved : goal.loop-i-preserved
loop-i-preserved c =
    let f = slice_index c.self.inside.words in
    let g = slice_index c.other.inside.words in
    sym (lowest-next f g c.loop-i.i c.loop-i-test.true c.if-bits-ne0.false) ∙ c.loop-i.invariant

pub returns-clause-common : goal.returns-clause-common
returns-clause-common c =
    let f = slice_index c.self.inside.words in
    let g = slice_index c.other.inside.words in
    rw (← c.self.view_is, ← c.other.view_is) (sym (lowest-none f g c.loop-i.i c.loop-i-test.false) ∙ c.loop-i.invariant)

pub returns-clause-some : goal.returns-clause-some
returns-clause-some c =
    let f = slice_index c.self.inside.words in
    let g = slice_index c.other.inside.words in
    rw (← c.self.view_is, ← c.other.view_is) (λ h e. meets-lowest f g h (sym c.loop-i.invariant ∙ lowest-none f g c.loop-i.i c.loop-i-test.false))
