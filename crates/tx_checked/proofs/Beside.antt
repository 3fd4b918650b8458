-- What a caller knows grows, but for its range.
use Rattle.std.proofs.Common.{◌≡◌, [], ◌∷◌, refl, ap}
use Rattle.stm_answers.specs.Fences.{StaysBeside}
use Rattle.stm_answers.specs.CallerState.{CallerState, Grows}
use Rattle.stm_answers.specs.CallerStateLaws.{grows-same, grows-trans}
use Rattle.tx_checked.specs.Ranges.{GrowsBeside}

pub beside-of : (v w : CallerState) → Grows v w → GrowsBeside v w
beside-of v w g =
    record {
      later = g.later;
      is = g.is;
      ascending = g.ascending;
      up_to = g.up_to;
      front_rose = g.front_rose;
      more = g.more;
      step_trace = g.step_trace;
      reads_limit = g.reads_limit;
      writes_limit = g.writes_limit;
      marks_limit = g.marks_limit;
      fenced = refl;
    }

pub beside-trans : (u v w : CallerState) → GrowsBeside u v → GrowsBeside v w → GrowsBeside u w
beside-trans u v w a b =
    let rest : Grows (record v { fenced = u.fenced }) (record w { fenced = u.fenced }) = record {
      later = b.later;
      is = b.is;
      ascending = b.ascending;
      up_to = b.up_to;
      front_rose = b.front_rose;
      more = b.more;
      step_trace = b.step_trace;
      reads_limit = b.reads_limit;
      writes_limit = b.writes_limit;
      marks_limit = b.marks_limit;
      fenced = refl;
    } in
    grows-trans u (record v { fenced = u.fenced }) (record w { fenced = u.fenced }) a rest

pub beside-same : (v w : CallerState) → w ≡ v → GrowsBeside v w
beside-same v w e =
    grows-same v (record w { fenced = v.fenced }) (ap (λ (k : CallerState). k.seen) e) (ap (λ (k : CallerState). k.front) e) []
    (ap (λ (k : CallerState). k.step_trace) e) (ap (λ (k : CallerState). k.reads_limit) e) (ap (λ (k : CallerState). k.writes_limit) e) (ap (λ (k : CallerState). k.marks_limit) e) refl

pub beside-stays : (v w : CallerState) → StaysBeside v w → GrowsBeside v w
beside-stays v w s =
    grows-same v (record w { fenced = v.fenced }) (ap (λ (k : CallerState). k.seen) s.is) (ap (λ (k : CallerState). k.front) s.is)
    (s.item ∷ []) s.step_trace (ap (λ (k : CallerState). k.reads_limit) s.is) (ap (λ (k : CallerState). k.writes_limit) s.is) (ap (λ (k : CallerState). k.marks_limit) s.is) refl

-- between the closing of the gate and its reopening
pub beside-between : (u v w x : CallerState) → Grows u v → GrowsBeside v w → Grows w x → GrowsBeside u x
beside-between u v w x a b c = beside-trans u w x (beside-trans u v w (beside-of u v a) b) (beside-of w x c)
