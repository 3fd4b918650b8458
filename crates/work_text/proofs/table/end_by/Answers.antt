use Rattle.std.proofs.Common.{ℕ, suc, ◌≡◌, ◌+◌, ◌-◌, List, [], ◌∷◌, true, Some, None, sym, ap, ◌∙◌, arith, refl, length}
use Rattle.std.specs.Prelude.{leb, slice_get}
use Rattle.std.proofs.lemmas.Bool.Decides.{nat_tests}
use Rattle.data_regions.specs.declared.region.Region.{Region}
use Rattle.data_regions.specs.Regions.{start_of, size_of}
use Rattle.work_text.specs.Grammar.{end_of}
use Rattle.work_text.proofs.table.end_by.Goals as goal

end-last : (rs : List Region) (r : Region) → slice_get rs (length rs - 1) ≡ Some r → end_of rs ≡ start_of r + size_of r
end-last [] r is = cc
end-last (x ∷ []) r is = let same : x ≡ r = cc in ap (λ y. start_of y + size_of y) same
end-last (x ∷ y ∷ rs) r is =
    let more : length (x ∷ y ∷ rs) - 1 ≡ suc (length (y ∷ rs) - 1) = omega arith in
    end-last (y ∷ rs) r (sym (ap (slice_get (x ∷ y ∷ rs)) more) ∙ is)

end-none : (rs : List Region) → slice_get rs (length rs - 1) ≡ None → end_of rs ≡ 0
end-none [] is = refl
end-none (x ∷ []) is = cc
end-none (x ∷ y ∷ rs) is =
    let more : length (x ∷ y ∷ rs) - 1 ≡ suc (length (y ∷ rs) - 1) = omega arith in
    end-none (y ∷ rs) (sym (ap (slice_get (x ∷ y ∷ rs)) more) ∙ is)

zero-first : (a : ℕ) → true ≡ leb 0 a
zero-first a = grind (arith, nat_tests)

pub returns-in-None : goal.returns-in-None
returns-in-None c =
    zero-first c.args.a ∙ sym (ap (λ n. leb n c.args.a) (end-none c.args.regions.now (sym c.in-None.ensures.value)))

pub returns-in-Some : goal.returns-in-Some
returns-in-Some c =
    c.ends_by.ensures ∙ sym (ap (λ n. leb n c.args.a) (end-last c.args.regions.now c.in-Some.last.now (sym c.in-Some.ensures.value)))
