-- Laws of how what a caller knows goes on.
use Rattle.std.proofs.Common.{ℕ, ◌≤◌, ◌++◌, ◌∙◌, [], sym, ap, arith, append_assoc, inl, inr}
use Rattle.std.proofs.lemmas.List.{append-nil}
use Rattle.stm_answers.specs.CallerState.{CallerState, Grows}
use Rattle.stm_answers.specs.CallerStateLaws.{ascending-append, carries-refl, within-append}
use Rattle.tx_atomic.specs.Extends.{Extends}
use Rattle.tx_atomic.specs.Lengths.{Lengthens, MayLengthen}

pub grows-extends : (v w : CallerState) → Grows v w → Extends v w
grows-extends v w g = let r = g.reads_limit in let l = g.writes_limit in record {
  later = g.later;
  is = g.is;
  ascending = g.ascending;
  up_to = g.up_to;
  front_rose = g.front_rose;
  more = g.more;
  step_trace = g.step_trace;
  reads_limit = omega (arith, r);
  writes_limit = omega (arith, l);
  fenced = g.fenced;
}

pub extends-refl : (v : CallerState) → Extends v v
extends-refl v = grows-extends v v (carries-refl v).grows

pub extends-trans : (u v w : CallerState) → Extends u v → Extends v w → Extends u w
extends-trans u v w a b =
    let fg = a.front_rose in let gh = b.front_rose in
    let r = a.reads_limit in let s = b.reads_limit in
    let l = a.writes_limit in let k = b.writes_limit in
    record {
      later = a.later ++ b.later;
      is = b.is ∙ (ap (λ s. s ++ b.later) a.is ∙ append_assoc u.seen a.later b.later);
      ascending = ascending-append u.front v.front a.later b.later a.ascending a.up_to a.front_rose b.ascending;
      up_to = within-append v.front w.front a.later b.later a.up_to b.front_rose b.up_to;
      front_rose = omega arith;
      more = b.more ++ a.more;
      step_trace = b.step_trace ∙ (ap (λ t. b.more ++ t) a.step_trace ∙ sym (append_assoc b.more a.more u.step_trace));
      reads_limit = omega (arith, r, s);
      writes_limit = omega (arith, l, k);
      fenced = b.fenced ∙ a.fenced;
    }

-- a log that was lengthened is no shorter
no-shorter : (most len new : ℕ) → MayLengthen most len new → len ≤ new
no-shorter most len new (inl same) = omega (arith, same)
no-shorter most len new (inr longer) = let lt = longer.0 in omega (arith, lt)

pub lengthens-extends : (most : ℕ) (v w : CallerState) → Lengthens most v w → Extends v w
lengthens-extends most v w h = record {
  later = [];
  is = ap (λ (k : CallerState). k.seen) h.is ∙ sym (append-nil v.seen);
  ascending = tt;
  up_to = tt;
  front_rose = (let front = ap (λ (k : CallerState). k.front) h.is in omega (arith, front));
  more = [];
  step_trace = ap (λ (k : CallerState). k.step_trace) h.is;
  reads_limit = no-shorter most v.reads_limit w.reads_limit h.reads;
  writes_limit = no-shorter most v.writes_limit w.writes_limit h.writes;
  fenced = ap (λ (k : CallerState). k.fenced) h.is;
}
