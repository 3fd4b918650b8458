-- What the opening of a memory leaves in the handles.
use Rattle.std.specs.Prelude.{ℕ, ◌≡◌, ◌<◌, ◌⊎◌, true, map, All, List, [], length, get_or, Option, Some, None}
use Rattle.nekchhaul_c.specs.declared.handle.Handle.{Handle}
use Rattle.nekchhaul_c.specs.declared.opening.Sizes.{Sizes}
use Rattle.nekchhaul_c.specs.Codes.{open_code}
use Rattle.nekchhaul_c.specs.Says.{algorithm_numbered}
use Rattle.std.specs.declared.alloc.Global.{Global}
use Rattle.std_alloc.specs.declared.boxed.Box.{Box}
use Rattle.stm_model.specs.declared.alg.Alg.{Alg}
use Rattle.stm_model.specs.declared.config.Config.{Config}
use Rattle.tx_atomic.specs.declared.switching.Hindrance.{Hindrance}
use Rattle.tx_loops.specs.declared.looping_caller.LoopingCaller.{LoopingCaller}
use Rattle.tx_checked.specs.declared.opening.OpenError.{OpenError}
use Rattle.tx_checked.specs.Ready.{IsOpenError}
use Rattle.tx_loops.specs.Openings.{AreHinderedLooping, AreNewLooping}

abbrev pub insides : List Handle → List (Option LoopingCaller)
insides hs = map (λ (h : Handle). h.inside) hs

abbrev pub NoneHeld : List Handle → Type 0
NoneHeld hs = All (λ (h : Handle). h.inside ≡ None) hs

abbrev pub value_in : Box LoopingCaller Global → LoopingCaller
value_in b = b.value

abbrev pub values_in : List (Box LoopingCaller Global) → List LoopingCaller
values_in bs = map value_in bs

-- m is the caller of place i
abbrev pub IsAt : List LoopingCaller → ℕ → LoopingCaller → Type 0
IsAt ms i m = (d : LoopingCaller) → get_or ms i d ≡ m

abbrev pub HoldsAt : List LoopingCaller → ℕ → Handle → Type 0
HoldsAt ms i h = (m : LoopingCaller) × (h.inside ≡ Some m) × IsAt ms i m

-- each handle holds the caller of its place
abbrev pub EachHolds : List LoopingCaller → List Handle → Type 0
EachHolds ms hs = (i : ℕ) (h : Handle) → i < length hs → HoldsAt ms i (get_or hs i h)

-- the handles hold the callers of one new memory under the algorithm
pub record HoldNew (c : Config) (alg : Alg) (hs : List Handle) : Type 0 where
  pub callers : List LoopingCaller
  pub count : length callers ≡ length hs
  pub held : EachHolds callers hs
  pub new : AreNewLooping c alg callers

-- under the algorithm of that number
abbrev pub HoldNewUnder : Option Alg → Config → List Handle → Type 0
HoldNewUnder None c hs = ⊥
HoldNewUnder (Some alg) c hs = HoldNew c alg hs

-- they hold the callers of one new memory under which nothing was installed, and what the first of them met is why
pub record HoldHindered (c : Config) (hs : List Handle) : Type 0 where
  pub callers : List LoopingCaller
  pub held : EachHolds callers hs
  pub hindrance : Hindrance
  pub hindered : AreHinderedLooping c hindrance callers

-- no such algorithm, a handle that holds a caller, or what tx_checked refused, and handed out no callers
abbrev pub IsOpenRefusal : ℕ → Config → List Handle → ℕ → Type 0
IsOpenRefusal number c hs k = ((k ≡ 21) × (algorithm_numbered number ≡ None)) ⊎ (((k ≡ 24) × (NoneHeld hs → ⊥)) ⊎ ((e : OpenError) × (k ≡ open_code e) × IsOpenError c e []))

-- the sizes, for so many callers; a transaction within another is a mark
abbrev pub config_for : Sizes → ℕ → Config
config_for s n = record { words = s.words; records = s.records; ring = s.ring; callers = n; reads = s.reads; writes = s.writes; clock = s.clock; fence = true; marks = 8 }
