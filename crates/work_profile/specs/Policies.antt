-- THE POLICY TABLE: the algorithm that a policy chooses by a profile while this one runs.
use Rattle.std.specs.Prelude.{ℕ, ◌≡◌, ◌<◌, ◌≤◌, length}
use Rattle.stm_model.specs.declared.alg.Alg.{Alg}
use Rattle.stm_model.specs.declared.alg.Alg.TheVariants.{Cgl, Tml, OrecLazy, OrecEager, RingSw, Serial}
use Rattle.work_profile.specs.declared.policy.Policy.{Policy}
use Rattle.work_profile.specs.declared.policy.Policy.TheVariants.{Fixed, Round, Expert, State}
use Rattle.work_profile.specs.declared.profile.TheConstants.{WINDOW}
use Rattle.work_profile.specs.Profiles.{Noted, conflicts, full_logs, commits}

-- the cycle of the algorithms
abbrev pub next_in_cycle : Alg → Alg
next_in_cycle Cgl = Tml
next_in_cycle Tml = OrecLazy
next_in_cycle OrecLazy = OrecEager
next_in_cycle OrecEager = RingSw
next_in_cycle RingSw = Serial
next_in_cycle Serial = Cgl

-- one place to the right in RingSW, OrecLazy, OrecEager, TML, Serial, CGL; the last one stays
abbrev pub to_right : Alg → Alg
to_right RingSw = OrecLazy
to_right OrecLazy = OrecEager
to_right OrecEager = Tml
to_right Tml = Serial
to_right Serial = Cgl
to_right Cgl = Cgl

-- one place to the left there; the first one stays
abbrev pub to_left : Alg → Alg
to_left RingSw = RingSw
to_left OrecLazy = RingSw
to_left OrecEager = OrecLazy
to_left Tml = OrecEager
to_left Serial = Tml
to_left Cgl = Serial

-- Round: the next in the cycle after so many attempts
pub record ByRound (n since : ℕ) (alg next : Alg) : Type 0 where
  pub moves : n ≤ since → next ≡ next_in_cycle alg
  pub stays : since < n → next ≡ alg

-- Expert: of these lines the first that holds, with c conflicts, f full logs and w commits in a full window
pub record ByExpert (c f w : ℕ) (next : Alg) : Type 0 where
  pub full : 1 ≤ f → next ≡ Cgl
  pub most : f < 1 → 12 ≤ c → next ≡ Serial
  pub readers : f < 1 → c < 12 → w ≡ 0 → next ≡ Tml
  pub some : f < 1 → c < 12 → 0 < w → 4 ≤ c → next ≡ OrecLazy
  pub few : f < 1 → c < 4 → 0 < w → 1 ≤ c → next ≡ RingSw
  pub none : f < 1 → c < 1 → 0 < w → next ≡ OrecEager

-- State: to the right at n conflicts, to the left at none, with c conflicts in a full window
pub record ByState (n c : ℕ) (alg next : Alg) : Type 0 where
  pub many : n ≤ c → next ≡ to_right alg
  pub none : c < n → c ≡ 0 → next ≡ to_left alg
  pub some : c < n → 0 < c → next ≡ alg

-- as long as the window isn't full the algorithm stays
pub record OnceFull (p : Noted) (alg next : Alg) (By : Type 0) : Type 0 where
  pub early : length p.window < WINDOW → next ≡ alg
  pub full : WINDOW ≤ length p.window → By

abbrev pub Chooses : Policy → Noted → Alg → Alg → Type 0
Chooses Fixed p alg next = next ≡ alg
Chooses (Round n) p alg next = ByRound n p.since alg next
Chooses Expert p alg next = OnceFull p alg next (ByExpert (conflicts p.window) (full_logs p.window) (commits p.window) next)
Chooses (State n) p alg next = OnceFull p alg next (ByState n (conflicts p.window) alg next)

-- the policy by which caller 0 goes: that of the words, and the text's where they leave it fixed
abbrev pub ruling : Policy → Policy → Policy
ruling Fixed text = text
ruling (Round n) text = Round n
ruling Expert text = Expert
ruling (State n) text = State n
