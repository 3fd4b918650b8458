-- What is seen of a history up to a time, as a part of what is seen up to a later one.
use Rattle.std.proofs.Common.{ℕ, ◌≡◌, ◌≤◌, List, [], ◌∷◌, refl, arith}
use Rattle.rule_base.specs.declared.entries.Entry.{Entry}
use Rattle.rule_base.specs.History.{upto}

pub upto-upto : (h : List Entry) (f g : ℕ) → g ≤ f → upto (upto h f) g ≡ upto h g
upto-upto [] f g l = refl
upto-upto (e ∷ h) f g l = grind (arith, upto-upto h f g l)
