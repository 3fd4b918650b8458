-- Where a caller stands whose line may not come.
use Rattle.std.proofs.Common.{ℕ, ◌≡◌, ◌<◌, ◌≤◌, List, length, true, false, refl, sym, ap, ◌∙◌, arith}
use Rattle.std.specs.Prelude.{ltb}
use Rattle.std.proofs.lemmas.Bool.Decides.{nat_tests}
use Rattle.work_script.specs.declared.workload.Version.{Version}
use Rattle.draw_core.specs.declared.misfit.Misfit.TheVariants.{NoCaller}
use Rattle.draw_core.specs.Misfits.{misfit_at, misfit_in}
use Rattle.draw_core.specs.Turns.{Stand}
use Rattle.draw_core.specs.Walks.{stand_at}

pub misfit-out : (version : Version) (stands : List Stand) (n k : ℕ) → k ≡ length stands → length stands ≤ n → NoCaller k ≡ misfit_in version stands n
misfit-out version stands n k same le = let t : ltb n (length stands) ≡ false = grind (arith, nat_tests) in ap NoCaller same ∙ rw t refl

pub misfit-among : (version : Version) (stands : List Stand) (n : ℕ) (at : Stand) → n < length stands → stand_at stands n ≡ at → misfit_at version at ≡ misfit_in version stands n
misfit-among version stands n at lt is = let t : ltb n (length stands) ≡ true = grind (arith, nat_tests) in ap (misfit_at version) (sym is) ∙ rw t refl
