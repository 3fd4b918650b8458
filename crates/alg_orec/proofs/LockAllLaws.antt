-- One turn of the loop by which a commit takes the records of what it writes.
use Rattle.std.proofs.Common.{ℕ, ◌≡◌, ◌≤◌, ◌+◌, List, [], ◌∷◌, ◌++◌, Bool, length, length-append, true, false, refl, sym, ap, ◌∙◌, subst, inl, inr, ⊎_elim, arith, nat_cmp}
use Rattle.std.specs.Prelude.{Option, Some, None, is_some, ltb, Contains}
use Rattle.std.specs.Ordering.{ord_max}
use Rattle.std.proofs.lemmas.Bool.Decides.{nat_tests}
use Rattle.std.proofs.lemmas.List.Elements.{Contains-append_right}
use Rattle.stm_model.specs.declared.config.Config.{Config}
use Rattle.stm_model.specs.Memories.{item_at}
use Rattle.rule_base.specs.declared.entries.Cell.{Cell}
use Rattle.rule_base.specs.declared.layout.At.TheVariants.{Record}
use Rattle.rule_base.specs.declared.views.TracedStep.{TracedStep}
use Rattle.rule_base.specs.declared.views.View.{View}
use Rattle.rule_base.specs.Bridge.{items}
use Rattle.rule_base.specs.Encodings.{free_record}
use Rattle.rule_base.specs.History.{touches}
use Rattle.rule_base.specs.Ranks.{home_of}
use Rattle.stm_rule.specs.declared.local.Local.{Local}
use Rattle.stm_rule.specs.RecordsKept.{cells_of}
use Rattle.alg_orec.specs.Locking.{HasLocked, IsOfWritten}
use Rattle.alg_orec.specs.Validating.{load_of}
use Rattle.alg_orec.proofs.LockingLaws.{held-of}

-- a record with an item is held
pub held-some : (cs : List Cell) (ws : List (ℕ × ℕ)) (r : ℕ) → ws ≡ items cs → is_some (item_at r ws) ≡ true → touches cs r ≡ true
held-some cs ws r is some = by (item_at r ws) refl some
  where
    by : (o : Option ℕ) → item_at r ws ≡ o → is_some o ≡ true → touches cs r ≡ true
    by None e t = absurd cc
    by (Some x) e t = held-of cs ws r x is e

-- a record that was taken is one item more
pub one-logged : (c : Config) (n r version i : ℕ) (m m' : Local) (w w' : View) → HasLocked c n r version m w m' w' → length m.locks.items ≤ i → length m'.locks.items ≤ i + 1
one-logged c n r version i m m' w w' h room =
    let e : length m'.locks.items ≡ length (m.locks.items ++ (r, version) ∷ []) = ap (λ (q : Local). length q.locks.items) h.local in
    omega (arith, length-append m.locks.items ((r, version) ∷ []))

-- the greater of two versions is at least each
pub at-least-both : (a b x : ℕ) → x ≡ ord_max nat_cmp a b → (a ≤ x) × (b ≤ x)
at-least-both a b x e = (grind (arith, nat_tests), grind (arith, nat_tests))

-- the greater of two versions was found where they were
pub found-more : (c : Config) (n : ℕ) (l : Local) (a version newest next : ℕ) (item : TracedStep) (more : List TracedStep)
    → touches (cells_of l.writes.items) a ≡ true → next ≡ ord_max nat_cmp newest version → IsOfWritten c n l newest more
    → IsOfWritten c n l next (item ∷ load_of (Record (home_of c a)) (free_record version) ∷ more)
found-more c n l a version newest next item more written is old = by (ltb newest version) refl
  where
    by : (b : Bool) → ltb newest version ≡ b → IsOfWritten c n l next (item ∷ load_of (Record (home_of c a)) (free_record version) ∷ more)
    by true q = inr (a, written, let e : next ≡ version = grind (arith, nat_tests, nat_cmp) in (1, omega arith, ap (λ (k : ℕ). load_of (Record (home_of c a)) (free_record k)) (sym e)))
    by false q = let e : next ≡ newest = grind (arith, nat_tests, nat_cmp) in ⊎_elim
        (λ z. inl (e ∙ z))
        (λ f.
        inr (
          f.0,
          f.1,
          Contains-append_right (item ∷ load_of (Record (home_of c a)) (free_record version) ∷ []) more
              (load_of (Record (home_of c f.0)) (free_record next))
              (subst (λ (k : ℕ). Contains more (load_of (Record (home_of c f.0)) (free_record k))) (sym e) f.2),
        ))
        old
