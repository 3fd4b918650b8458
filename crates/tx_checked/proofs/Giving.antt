-- A range that is given back, through the gate that was closed before and is reopened after it.
use Rattle.std.proofs.Common.{ℕ, ◌≡◌, List, [], ◌∷◌, ◌++◌, length, sym, ap, subst, ◌∙◌, arith}
use Rattle.stm_model.specs.declared.config.Config.{Config}
use Rattle.stm_model.specs.Histories.{Entry, IsLegal}
use Rattle.stm_model.specs.Memories.{is_empty}
use Rattle.stm_answers.specs.declared.answers.Give.{Give}
use Rattle.stm_answers.specs.declared.answers.Give.TheVariants.{Committed, Unchanged, ClockFull}
use Rattle.stm_answers.specs.Answers.{Stays, entry}
use Rattle.stm_answers.specs.Fences.{Gives, StaysClosed}
use Rattle.stm_answers.specs.CallerState.{CallerState, Grows, Fenced, zeros}
use Rattle.tx_checked.specs.Ranges.{GivesBack}
use Rattle.tx_checked.specs.Phases.{Any}

pub given : (c : Config) (n : ℕ) (r : Give) (u v w x : CallerState) → Grows u v → v.made ≡ u.made → Gives Any c n r v w → Stays c w x → GivesBack c n r u x
given c n (Committed time) u v w x grew made g s =
    let same : entry time n (length v.made) v.fenced.log ≡ entry time n (length u.made) u.fenced.log = (λ i. entry time n (length (made i)) ((grew.fenced i).log)) in
    let le = grew.front_rose in let lt = g.above in let rose = s.grows.front_rose in let at = g.front in
    record {
      made = s.made ∙ (g.made ∙ (λ i. made i ++ same i ∷ []));
      back = ap (λ (f : Fenced). f.held) s.grows.fenced ∙ g.none.1;
      meanwhile = g.since;
      taken = g.taken ∙ ap (λ (f : Fenced). f.seen ++ g.since) grew.fenced;
      before = g.before;
      legal = subst (λ (es : List Entry). IsLegal Any (zeros c.words) c.clock es) (g.seen ∙ ap (λ (e : Entry). g.before ++ e ∷ []) same) g.legal;
      since = s.grows.later;
      seen = s.grows.is ∙ ap (λ (es : List Entry). es ++ s.grows.later) (g.seen ∙ ap (λ (e : Entry). g.before ++ e ∷ []) same);
      later = omega (arith, le, lt);
      front = omega (arith, rose, at);
    }
given c n Unchanged u v w x grew made g s = (s.made ∙ (g.0.made ∙ made), ap (λ (f : Fenced). f.held) s.grows.fenced ∙ g.1.1, ap (λ (f : Fenced). is_empty f.log.writes) (sym grew.fenced) ∙ g.2)
given c n (ClockFull clock) u v w x grew made g s = (s.made ∙ (g.0.made ∙ made), s.grows.fenced ∙ (g.2 ∙ grew.fenced), g.4.limit)

pub stays-closed : (c : Config) (n : ℕ) (r : Give) (v w : CallerState) → Gives Any c n r v w → StaysClosed v w
stays-closed c n (Committed time) v w g = g.closed
stays-closed c n Unchanged v w g = g.0.closed
stays-closed c n (ClockFull clock) v w g = g.0.closed
