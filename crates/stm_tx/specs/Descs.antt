-- What contracts see of a descriptor, and what an access over an attempt leaves alone.
use Rattle.std.proofs.Common.{ℕ, ◌≡◌, List, Bool, true, false, refl, sym, ap, subst, ◌∙◌}
use Rattle.std.specs.Prelude.{max, Option, Some, None, Result, Ok, Err}
use Rattle.stm_model.specs.declared.stop.Stop.TheVariants as stops
use Rattle.stm_answers.specs.declared.answers.Read.{Read}
use Rattle.stm_answers.specs.declared.answers.Read.TheVariants as reads
use Rattle.stm_answers.specs.declared.answers.Write.{Write}
use Rattle.stm_answers.specs.declared.answers.Write.TheVariants as writes
use Rattle.stm_model.specs.declared.alg.Alg.{Alg}
use Rattle.stm_model.specs.declared.alg.Alg.TheVariants.{Cgl, Tml, OrecLazy, OrecEager, RingSw, Serial}
use Rattle.stm_model.specs.Logs.{IsLog}
use Rattle.stm_model.specs.Memories.{Once}
use Rattle.rule_base.specs.declared.seats.Who.{Who}
use Rattle.rule_base.specs.declared.views.View.{View}
use Rattle.rule_base.specs.Lemmas.BridgeLemmas.{items-once}
use Rattle.rule_base.specs.Own.{Own}
use Rattle.stm_rule.specs.declared.stm.Stm.{Stm}
use Rattle.stm_model.specs.declared.config.Config.{Config}
use Rattle.stm_model.specs.declared.stop.Stop.{Stop}
use Rattle.stm_tx.specs.declared.live.Halt.{Halt}
use Rattle.stm_rule.specs.Callers.{Handle, IsSameCaller}
use Rattle.stm_answers.specs.Answers.{Stops}
use Rattle.stm_answers.specs.CallerState.{CallerState, known_of, caller_of, written_under}
use Rattle.stm_answers.specs.CallerStateLaws.{Carries, carries-refl, carries-trans}

-- the answers of a read and of a write as an access gives them
abbrev pub as_read : Read → Result ℕ Stop
as_read (reads.Value x) = Ok x
as_read (reads.Conflict cause) = Err (stops.Conflict cause)
as_read (reads.Full limit) = Err (stops.Full limit)

abbrev pub as_write : Write → Result (Unit {0}) Stop
as_write writes.Done = Ok tt
as_write (writes.Conflict cause) = Err (stops.Conflict cause)
as_write (writes.Full limit) = Err (stops.Full limit)
as_write (writes.ClockFull clock) = Err (stops.ClockFull clock)

abbrev pub stop_of : Option Halt → Option Stop
stop_of None = None
stop_of (Some halt) = Some halt.stop

-- the address of the access that was refused
abbrev pub address_of : Option Halt → Option ℕ
address_of None = None
address_of (Some halt) = Some halt.at

module _ {K : Type 0} where
  abbrev pub known : Handle K → CallerState
  known d = known_of d.view d.own

  abbrev pub number : Handle K → ℕ
  number d = caller_of d.who.role

-- who takes attempts for such ones serves this one
abbrev pub Serves : (Alg → Bool → Alg × Bool) → CallerState → Type 0
Serves acts_as v = acts_as v.alg v.granted ≡ (v.alg, v.granted)

-- and as long as neither changes
pub serves-on : (acts_as : Alg → Bool → Alg × Bool) (v w : CallerState) → w.alg ≡ v.alg → w.granted ≡ v.granted → Serves acts_as v → Serves acts_as w
serves-on acts_as v w alg granted h = (λ j. acts_as (alg j) (granted j)) ∙ (h ∙ λ j. (sym alg j, sym granted j))

-- each log is as long as it was, or as was asked, if that is more; and there may be as many marks as before
abbrev pub Reserves : ℕ → ℕ → CallerState → CallerState → Type 0
Reserves reads writes v w = (w.reads_limit ≡ max v.reads_limit reads) × (w.writes_limit ≡ max v.writes_limit writes) × (w.marks_limit ≡ v.marks_limit)

module _ (good : List ℕ → Type 0) (c : Config) (n : ℕ) where
  -- an attempt was stopped there and so: what was known right before the refused call
  pub record StoppedAt (halt : Halt) (v w : CallerState) : Type 0 where
    pub before : CallerState
    pub carries : Carries v before
    pub running : before.running ≡ true
    pub stops : Stops good c n halt.at halt.stop before w

  -- what a caller knows since it knew v: an attempt that goes on carries it; one that was stopped says where;
  -- and after that nothing changes
  abbrev pub Since : Option Halt → CallerState → Option Halt → CallerState → Type 0
  Since None v None w = Carries v w
  Since None v (Some halt) w = Carries v w × StoppedAt halt v w
  Since (Some halt) v after w = (after ≡ Some halt) × (w ≡ v)

  pub since-refl : (p : Option Halt) (v : CallerState) → Since p v p v
  since-refl None v = carries-refl v
  since-refl (Some halt) v = (refl, refl)

  pub since-trans : (p q r : Option Halt) (u v w : CallerState) → Since p u q v → Since q v r w → Since p u r w
  since-trans None None None u v w a b = carries-trans u v w a b
  since-trans None None (Some halt) u v w a b = (
    carries-trans u v w a b.0,
    record {
      before = b.1.before;
      carries = carries-trans u v b.1.before a b.1.carries;
      running = b.1.running;
      stops = b.1.stops;
    },
  )
  since-trans None (Some halt) r u v w a b = subst (λ (o : Option Halt). Since None u o w) (sym b.0) (subst (λ (k : CallerState). Since None u (Some halt) k) (sym b.1) a)
  since-trans (Some halt) q r u v w a b = let c = subst (λ (o : Option Halt). Since o v r w) a.0 b in (c.0, c.1 ∙ a.1)

module _ {K : Type 0} where
  -- what the calls of an access leave alone, by whether it had been stopped, and is
  abbrev pub Frames : (List ℕ → Type 0) → Config → Option Halt → Handle K → Option Halt → Handle K → Type 0
  Frames good c p d q e = IsSameCaller d e × Since good c (number d) p (known d) q (known e)

  pub frames-refl : (good : List ℕ → Type 0) (c : Config) (p : Option Halt) (d : Handle K) → Frames good c p d p d
  frames-refl good c p d = (record { table = refl; who = refl }, since-refl good c (number d) p (known d))

  -- for two accesses to one memory
  pub frames-trans : (good : K → List ℕ → Type 0) (s t : Stm K) (p q r : Option Halt) (d e f : Handle K) → t ≡ s
      → Frames (good s.rule) s.config p d q e → Frames (good t.rule) t.config q e r f → Frames (good s.rule) s.config p d r f
  frames-trans good s t p q r d e f same a b =
      let c = subst (λ (m : Stm K). Since (good m.rule) m.config (number e) q (known e) r (known f)) same b.1 in
      let name : number e ≡ number d = ap (λ (w : Who K). caller_of w.role) a.0.who in (
        record { table = b.0.table ∙ a.0.table; who = b.0.who ∙ a.0.who },
        since-trans (good s.rule) s.config (number d) p q r (known d) (known e) (known f) a.1 (subst (λ n. Since (good s.rule) s.config n q (known e) r (known f)) name c),
      )

writes-once : (a : Alg) (granted : Bool) (v : View) (o : Own) → Once (written_under a granted v o)
writes-once Cgl granted v o = items-once v.attempt.stores
writes-once Tml granted v o = items-once v.attempt.stores
writes-once OrecLazy false v o = items-once o.buffered
writes-once OrecLazy true v o = items-once v.attempt.stores
writes-once OrecEager false v o = items-once v.owned.in_place
writes-once OrecEager true v o = items-once v.attempt.stores
writes-once RingSw false v o = items-once o.buffered
writes-once RingSw true v o = items-once v.attempt.stores
writes-once Serial granted v o = items-once v.attempt.stores

-- a log has one item an address
pub log-once : (v : View) (o : Own) → IsLog (known_of v o).log
log-once v o = record { reads = items-once v.attempt.reads; writes = writes-once v.gate.algorithm v.gate.granted v o }
