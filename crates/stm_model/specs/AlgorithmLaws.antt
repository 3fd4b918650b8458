-- What the table says of every algorithm.
use Rattle.std.proofs.Common.{◌≡◌, ◌≤◌, ◌<◌, Bool, true, false, arith, refl}
use Rattle.std.specs.Prelude.{◌||◌}
use Rattle.stm_model.specs.Algorithms.{alg_number, entry_rise, quit_rise, install_rise, begins_even, irrevocable_under}
use Rattle.stm_model.specs.declared.alg.Alg.{Alg}
use Rattle.stm_model.specs.declared.alg.Alg.TheVariants.{Cgl, Tml, OrecLazy, OrecEager, RingSw, Serial}

pub number-low : (alg : Alg) → alg_number alg < 256
number-low Cgl = omega arith
number-low Tml = omega arith
number-low OrecLazy = omega arith
number-low OrecEager = omega arith
number-low RingSw = omega arith
number-low Serial = omega arith

pub entry-some : (alg : Alg) → 0 < entry_rise alg
entry-some Cgl = omega arith
entry-some Tml = omega arith
entry-some OrecLazy = omega arith
entry-some OrecEager = omega arith
entry-some RingSw = omega arith
entry-some Serial = omega arith

pub entry-low : (alg : Alg) → entry_rise alg ≤ 2
entry-low Cgl = omega arith
entry-low Tml = omega arith
entry-low OrecLazy = omega arith
entry-low OrecEager = omega arith
entry-low RingSw = omega arith
entry-low Serial = omega arith

pub quit-low : (alg : Alg) (some : Bool) → quit_rise alg some ≤ 1
quit-low Cgl some = omega arith
quit-low Tml some = omega arith
quit-low OrecLazy some = omega arith
quit-low OrecEager true = omega arith
quit-low OrecEager false = omega arith
quit-low RingSw some = omega arith
quit-low Serial some = omega arith

pub quit-none : (alg : Alg) (some : Bool) → some ≡ false → quit_rise alg some ≡ 0
quit-none Cgl some e = refl
quit-none Tml some e = refl
quit-none OrecLazy some e = refl
quit-none OrecEager true e = absurd cc
quit-none OrecEager false e = refl
quit-none RingSw some e = refl
quit-none Serial some e = refl

pub install-low : (alg : Alg) → install_rise alg ≤ 1
install-low Cgl = omega arith
install-low Tml = omega arith
install-low OrecLazy = omega arith
install-low OrecEager = omega arith
install-low RingSw = omega arith
install-low Serial = omega arith

pub even-rises : (alg : Alg) → begins_even alg ≡ true → install_rise alg ≡ 1
even-rises Cgl e = absurd cc
even-rises Tml e = refl
even-rises OrecLazy e = absurd cc
even-rises OrecEager e = absurd cc
even-rises RingSw e = absurd cc
even-rises Serial e = absurd cc

-- once granted, an attempt can't be cancelled
pub granted-irrevocable : (alg : Alg) (wrote : Bool) → irrevocable_under alg true wrote ≡ true
granted-irrevocable Cgl wrote = refl
granted-irrevocable Tml wrote = refl
granted-irrevocable OrecLazy wrote = refl
granted-irrevocable OrecEager wrote = refl
granted-irrevocable RingSw wrote = refl
granted-irrevocable Serial wrote = refl

-- a write doesn't make it so that it can
pub irrevocable-writer : (alg : Alg) (granted wrote : Bool) → irrevocable_under alg granted wrote ≡ true → irrevocable_under alg granted true ≡ true
irrevocable-writer Cgl granted wrote h = refl
irrevocable-writer Tml true wrote h = refl
irrevocable-writer Tml false wrote h = refl
irrevocable-writer OrecLazy granted wrote h = h
irrevocable-writer OrecEager granted wrote h = h
irrevocable-writer RingSw granted wrote h = h
irrevocable-writer Serial granted wrote h = h

pub irrevocable-wrote : (alg : Alg) (granted wrote more : Bool) → irrevocable_under alg granted wrote ≡ true → irrevocable_under alg granted (wrote || more) ≡ true
irrevocable-wrote alg granted true more h = h
irrevocable-wrote alg granted false true h = irrevocable-writer alg granted false h
irrevocable-wrote alg granted false false h = h
