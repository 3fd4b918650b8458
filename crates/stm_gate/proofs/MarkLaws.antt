-- What stays of the marks of a write log that is marked, rolled back or released.
use Rattle.std.proofs.Common.{ℕ, ◌≡◌, ◌≤◌, ◌+◌, List, [], ◌∷◌, ◌++◌, length, get_or, take, Bool, true, false, refl, sym, ap, ◌∙◌, arith, subst, inl, inr, length-append}
use Rattle.std.specs.Prelude.{not, nat_lt}
use Rattle.std.proofs.lemmas.Bool.{cases_lt}
use Rattle.std.proofs.lemmas.Bool.Decides.{nat_tests}
use Rattle.std.proofs.lemmas.List.{length-take-le, get_or-take, get_or_append_left}
use Rattle.std.proofs.Math.Seq.{get_or-append_seam}
use Rattle.stm_model.specs.declared.alg.Alg.{Alg}
use Rattle.stm_model.specs.declared.alg.Alg.TheVariants.{Cgl, Tml, OrecLazy, OrecEager, RingSw, Serial}
use Rattle.stm_model.specs.declared.config.Config.{Config}
use Rattle.stm_model.specs.Memories.{is_empty}
use Rattle.rule_base.specs.declared.views.View.{View}
use Rattle.rule_base.specs.Bridge.{items}
use Rattle.rule_base.specs.Own.{Own}
use Rattle.stm_rule.specs.RecordsKept.{IsWriteSet, HasMarks}
use Rattle.stm_answers.specs.CallerState.{written_under}

-- the same is written where the same is buffered
pub written-same : (a : Alg) (granted : Bool) (v : View) (o p : Own) → p.buffered ≡ o.buffered → written_under a granted v p ≡ written_under a granted v o
written-same Cgl granted v o p e = refl
written-same Tml granted v o p e = refl
written-same OrecLazy false v o p e = ap items e
written-same OrecLazy true v o p e = refl
written-same OrecEager false v o p e = refl
written-same OrecEager true v o p e = refl
written-same RingSw false v o p e = ap items e
written-same RingSw true v o p e = refl
written-same Serial granted v o p e = refl

-- a list that counts more than none is not empty
pub some-by : (ws : List (ℕ × ℕ)) (n : ℕ) → n ≡ length ws → nat_lt 0 n ≡ not (is_empty ws)
some-by [] n e = ap (nat_lt 0) e
some-by (w ∷ ws) n e = grind (arith, nat_tests)

-- the marks up to one
pub marks-take : (c : Config) (fence : ℕ) (marks : List (List (ℕ × ℕ))) (depth d : ℕ) → HasMarks c fence marks depth → d ≤ depth → HasMarks c fence (take d marks) d
marks-take c fence marks depth d h l = let n = h.count in let size : length (take d marks) ≡ d = length-take-le d marks (omega arith) in record {
  count = size;
  sound = λ j e. subst (IsWriteSet c fence) (sym (get_or-take d marks j [] (omega arith))) (h.sound j (omega arith));
}

-- and one more
pub marks-more : (c : Config) (fence : ℕ) (marks : List (List (ℕ × ℕ))) (depth : ℕ) (ws : List (ℕ × ℕ)) → HasMarks c fence marks depth → IsWriteSet c fence ws → HasMarks c fence (marks ++ ws ∷ []) (depth + 1)
marks-more c fence marks depth ws h w = let n = h.count in let size = length-append marks (ws ∷ []) in record {
  count = omega arith;
  sound = λ j e. elim (cases_lt j (length marks)) [
    | inl l ↦ subst (IsWriteSet c fence) (sym (get_or_append_left marks (ws ∷ []) [] j l)) (h.sound j l)
    | inr l ↦ (let z : j ≡ length marks = omega arith in subst (IsWriteSet c fence) (sym (ap (λ (k : ℕ). get_or (marks ++ ws ∷ []) k []) z ∙ get_or-append_seam marks ws [] [])) w)
  ];
}
