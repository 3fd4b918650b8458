use Rattle.std.proofs.Common.{ℕ, ◌≡◌, ◌≤◌, ◌+◌, ◌∙◌, List, ap, arith, subst, length, length-append}
use Rattle.std.specs.Prelude.{IfOk}
use Rattle.work_text.specs.Lines.{lines_of}
use Rattle.work_text.specs.Grammar.{workload_of}
use Rattle.work_text.specs.Parting.{to_done, after_done, lines_to_done}
use Rattle.work_text.specs.declared.parse.Mode.TheVariants.{Step as Stepwise}
use Rattle.work_check.specs.Checks.{FindsOf, FindsWantedOf, IsPart, pair_by}
use Rattle.work_check.proofs.checking.check.Goals as goal

along : (P : List ℕ → ℕ → List ℕ → Type 0) (head head' : List ℕ) (n n' : ℕ) (rest rest' : List ℕ) → head ≡ head' → n ≡ n' → rest ≡ rest' → P head n rest → P head' n' rest'
along P head head' n n' rest rest' a b c p = subst (λ h. P h n' rest') a (subst (λ k. P head k rest') b (subst (λ r. P head n r) c p))

pub check_parts-requires : goal.check_parts-requires
check_parts-requires c =
    let text = c.args.text.now in
    let behind : length c.part_at_done.result.1.now ≡ length (after_done text) = ap length c.part_at_done.ensures.rest in
    let head : length c.part_at_done.result.0.now ≡ length (to_done text) = ap length c.part_at_done.ensures.head in
    let whole : length text ≡ length (to_done text) + length (after_done text) = ap length (c.text_is_parted.ensures text).whole ∙ length-append (to_done text) (after_done text) in
    let above = c.count_lines.ensures.least in
    let most = c.requires in
    omega arith

pub returns : goal.returns
returns c =
    let text = c.args.text.now in
    let part = c.part_at_done.ensures in
    let counted : c.count_lines.result ≡ lines_to_done text = c.count_lines.ensures.count ∙ ap (λ (t : List ℕ). length (lines_of t)) part.head in
    let h = c.part_at_done.result.0.now in
    let r = c.part_at_done.result.1.now in
    record {
      finding = along (λ h n r. IfOk c.check_parts.result (λ k. FindsOf (pair_by h n r) n k.finding)) h (to_done text) c.count_lines.result (lines_to_done text) r (after_done text) part.head counted part.rest c.check_parts.ensures.finding;
      wanted = along (λ h n r. IfOk c.check_parts.result (λ k. FindsWantedOf (pair_by h n r) k.finding k.wanted)) h (to_done text) c.count_lines.result (lines_to_done text) r (after_done text) part.head counted part.rest c.check_parts.ensures.wanted;
      part = subst (λ (t : List ℕ). IfOk c.check_parts.result (λ k. IsPart (workload_of Stepwise t) k.part)) part.head c.check_parts.ensures.part;
    }
