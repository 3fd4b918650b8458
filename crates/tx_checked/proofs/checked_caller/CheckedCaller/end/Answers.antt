use Rattle.std.proofs.Common.{ℕ, ◌≡◌, ◌<◌, ◌≤◌, ◌∙◌, refl, sym, ap, subst}
use Rattle.std.specs.Arc.{arc_value}
use Rattle.std.specs.Prelude.{List, slice_index}
use Rattle.rule_base.specs.declared.seats.Who.{Who}
use Rattle.rule_base.specs.Encodings.{fenced}
use Rattle.stm_model.specs.declared.rule.AnyMem.{AnyMem}
use Rattle.stm_model.specs.Histories.{Entry, memory_after, IsLegal}
use Rattle.stm_rule.specs.declared.stm.Stm.{Stm}
use Rattle.stm_tx.specs.Descs.{known}
use Rattle.stm_answers.specs.CallerState.{CallerState, Fenced, caller_of, zeros}
use Rattle.tx_checked.specs.OneHistory.{IsOfCallers}
use Rattle.tx_checked.specs.Phases.{Any}
use Rattle.tx_checked.proofs.Beside.{beside-stays, beside-trans}
use Rattle.tx_checked.proofs.Ending.{within}
use Rattle.tx_checked.proofs.checked_caller.CheckedCaller.end.Goals as goal

pub copy_out-requires-clause-all : goal.copy_out-requires-clause-all
copy_out-requires-clause-all c = λ a lt.
    c.in-Ok.ensures.taken.words a ∙ within a c.deref.result.now.config.words (subst (λ (s : Stm AnyMem). a < s.config.words) (c.deref-in-Ok.ensures ∙ sym c.deref.ensures) lt)

pub returns-in-Ok-clause-tells : goal.returns-in-Ok-clause-tells
returns-in-Ok-clause-tells c =
    let u = known c.args.self.now.desc in
    let v = known c.take_out.new.desc in
    let w = known c.copy_out.new.desc in
    let x = known c.see_callers.new.desc in
    let took = c.in-Ok.ensures in
    let copied = c.copy_out.ensures in
    let told = c.see_callers.ensures in
    let old = c.args.words.now in
    let new = c.copy_out.new.words in
    let table : c.see_callers.new.desc.table ≡ c.args.self.now.desc.table = told.same.table ∙ (copied.same.table ∙ took.same.table) in
    let who : c.see_callers.new.desc.who ≡ c.args.self.now.desc.who = told.same.who ∙ (copied.same.who ∙ took.same.who) in
    let seen : x.fenced.seen ≡ v.fenced.seen = ap (λ (f : Fenced). f.seen) told.range ∙ ap (λ (f : Fenced). f.seen) copied.range in
    let front : x.fenced.front ≡ v.fenced.front = ap (λ (f : Fenced). f.front) told.range ∙ ap (λ (f : Fenced). f.front) copied.range in
    let held : x.fenced.held ≡ v.fenced.held = ap (λ (f : Fenced). f.held) told.range ∙ ap (λ (f : Fenced). f.held) copied.range in
    let number : x.fenced.number ≡ v.fenced.number = ap (λ (f : Fenced). f.number) told.range ∙ ap (λ (f : Fenced). f.number) copied.range in
    let sized = c.deref-in-Ok.ensures in (
      c.in_ok-closing.ensures.fits,
      record { stm = refl; caller = record { table = table; who = who } },
      record {
        legal = subst (λ (h : List Entry). IsLegal Any (zeros (arc_value c.args.self.now.stm).config.words) (arc_value c.args.self.now.stm).config.clock h) (sym seen)
            (subst (λ (s : Stm AnyMem). IsLegal Any (zeros s.config.words) s.config.clock v.fenced.seen) c.deref-2.ensures took.taken.legal);
        callers = subst (λ (n : Who AnyMem). IsOfCallers (arc_value c.args.self.now.stm).config (caller_of n.role) x.made x.fenced.seen x.fenced.front) who
            (subst (λ (s : Stm AnyMem). IsOfCallers s.config (caller_of c.see_callers.new.desc.who.role) x.made x.fenced.seen x.fenced.front) c.deref-in-Ok-2.ensures told.callers);
        later = took.taken.later;
        seen = seen ∙ took.taken.seen;
        front = subst (λ (k : ℕ). u.front ≤ k) (sym front) took.taken.front;
        words = subst (λ (h : List Entry). (a : ℕ) → a < (arc_value c.args.self.now.stm).config.words → slice_index new a ≡ slice_index (memory_after h (zeros (arc_value c.args.self.now.stm).config.words)) a) (sym seen)
            (subst (λ (s : Stm AnyMem). (a : ℕ) → a < s.config.words → slice_index new a ≡ slice_index (memory_after v.fenced.seen (zeros s.config.words)) a) sized copied.words);
        beyond = subst (λ (s : Stm AnyMem). (a : ℕ) → s.config.words ≤ a → slice_index new a ≡ slice_index old a) sized copied.beyond;
        out = held ∙ took.taken.held;
        all = λ a lt. ap (λ k. fenced k a) number ∙ (took.taken.words a ∙ within a c.deref.result.now.config.words (subst (λ (s : Stm AnyMem). a < s.config.words) (sym c.deref.ensures) lt));
        grew = beside-trans u w x (beside-trans u v w took.grew copied.grew) (beside-stays w x told.stays);
        made = ap (λ (k : CallerState). k.made) told.stays.is ∙ (copied.made ∙ took.made);
        installs = ap (λ (k : CallerState). k.installs) told.stays.is ∙ (copied.installs ∙ took.installs);
        range = c.in_ok-closing.ensures.none;
        phase = refl;
        refusal = refl;
        counts = refl;
      },
    )
