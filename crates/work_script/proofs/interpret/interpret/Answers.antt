use Rattle.std.proofs.Common.{ℕ, ◌≡◌, refl, sym, ap, ◌∙◌, subst, List, length, inl, inr, arith, take}
use Rattle.std.proofs.lemmas.List.Elements.{All-take}
use Rattle.std.specs.Prelude.{◌⊎◌, All, OnOk, IfErr}
use Rattle.stm_model.specs.Logs.{IsReadStop}
use Rattle.data_effects.specs.Effects.{Under}
use Rattle.data_regions.specs.declared.region.Region.{Region}
use Rattle.work_script.specs.declared.report.Kind.{Kind}
use Rattle.work_script.specs.declared.report.Kind.TheVariants.{W, R}
use Rattle.work_script.specs.Keeping.{OpKeeps, ScriptKeeps}
use Rattle.work_script.specs.Operations.{OnlyReads}
use Rattle.work_script.specs.declared.op.Op.{Op}
use Rattle.work_script.specs.Outputs.{HasRoom}
use Rattle.work_script.specs.Scripts.{run, up_to_end, ran_to_end}
use Rattle.work_script.specs.ScriptLaws.{GaveOver, GaveUpTo}
use Rattle.work_script.proofs.Rooms.{room-cancel, one-more}
use Rattle.work_script.proofs.interpret.interpret.Goals as goal

pub reply-requires : goal.reply-requires
reply-requires g c =
    let most = c.first_cancel-end.ensures.within in
    let other = c.if-end-ops.false in
    one-more c.perform_all-in-C.new.out
    (c.in_ok-perform_all-in-C.ensures.room 1
    (room-cancel c.args.out.now c.as_slice-ops.result.now _ c.first_cancel-end.result refl (grind arith)
    (subst (λ (ops : List Op). HasRoom c.args.out.now (length ops)) (sym c.as_slice-ops.ensures) c.requires.room)))

to-end : (regions : List Region) (kind : Kind) (ops : List Op) → (kind ≡ W) ⊎ (kind ≡ R) → ran_to_end regions kind ops ≡ run regions ops
to-end regions kind ops (inl e) = ap (λ k. ran_to_end regions k ops) e
to-end regions kind ops (inr e) = ap (λ k. ran_to_end regions k ops) e

ops-to-end : (kind : Kind) (ops : List Op) → (kind ≡ W) ⊎ (kind ≡ R) → up_to_end kind ops ≡ ops
ops-to-end kind ops (inl e) = ap (λ k. up_to_end k ops) e
ops-to-end kind ops (inr e) = ap (λ k. up_to_end k ops) e

pub returns-in-W : goal.returns-in-W
returns-in-W g c =
    let p = c.perform_all.ensures in
    let good = g.A.Access.good c.args.acc.now in
    let words = g.A.Access.words c.args.acc.now in
    let same = c.as_slice-ops.ensures in
    let log = g.A.Access.log c.args.acc.now in
    let then = g.A.Access.log c.perform_all.new.acc in
    let whole = to-end c.args.regions.now c.args.kind c.args.script.now c.in-W.is in
    let gave = subst (λ ops. OnOk c.perform_all.result (GaveOver good words (run c.args.regions.now ops) log c.args.out.now then c.perform_all.new.out)) same p.gave in
    record {
      gave = subst (λ f. OnOk c.perform_all.result (GaveOver good words f log c.args.out.now then c.perform_all.new.out)) (sym whole) gave;
      gave_up_to = subst (λ ops. IfErr c.perform_all.result (λ s. GaveUpTo good words c.args.regions.now ops log c.args.out.now c.perform_all.new.out)) (same ∙ sym (ops-to-end c.args.kind c.args.script.now c.in-W.is)) p.gave_up_to;
      explained = p.explained;
      keeps_rule = subst (λ ops. OnOk c.perform_all.result (ScriptKeeps good words c.args.regions.now ops → Under good words log good → Under good words then good)) same p.keeps_rule;
      well = p.well;
      kept_room = p.kept_room;
      goes = p.goes;
      stops = p.stops;
      cause = subst (λ ops. All OnlyReads ops → IfErr c.perform_all.result IsReadStop) same p.cause;
      good = p.good;
      words = p.words;
      keeps = p.keeps;
    }

-- the operations before a cancel keep the rule, as all do
first-keep : (good : List ℕ → Type 0) (words : ℕ) (regions : List Region) (end : ℕ) (ops script : List Op) → ops ≡ script → ScriptKeeps good words regions script → ScriptKeeps good words regions (take end ops)
first-keep good words regions end ops script same each = All-take (OpKeeps good words regions) end ops (subst (ScriptKeeps good words regions) (sym same) each)

pub returns-then-end-ops-clause-keeps_rule : goal.returns-then-end-ops-clause-keeps_rule
returns-then-end-ops-clause-keeps_rule g c = λ each.
    c.in_ok-perform_all-in-C.ensures.keeps_rule (first-keep (g.A.Access.good c.args.acc.now) (g.A.Access.words c.args.acc.now) c.args.regions.now c.first_cancel-end.result c.as_slice-ops.result.now c.args.script.now c.as_slice-ops.ensures each)

pub returns-else-end-ops-clause-keeps_rule : goal.returns-else-end-ops-clause-keeps_rule
returns-else-end-ops-clause-keeps_rule g c = λ each.
    c.in_ok-perform_all-in-C.ensures.keeps_rule (first-keep (g.A.Access.good c.args.acc.now) (g.A.Access.words c.args.acc.now) c.args.regions.now c.first_cancel-end.result c.as_slice-ops.result.now c.args.script.now c.as_slice-ops.ensures each)
