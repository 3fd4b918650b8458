-- The row of a transaction that has ended.
use Rattle.std.proofs.Common.{ℕ, ◌≡◌, Bool, true, false, List, [], ◌∷◌, ◌++◌, length, refl, sym, ap, ◌∙◌, arith, subst}
use Rattle.std.specs.Prelude.{not, ◌||◌, slice_index_or}
use Rattle.std.proofs.Math.ListN.{length-replicate}
use Rattle.stm_model.specs.Memories.{overlay, Explains, is_empty}
use Rattle.stm_model.specs.Histories.{memory_at}
use Rattle.stm_model.specs.HistoryLaws.{length-memory_at}
use Rattle.work_script.specs.declared.op.Op.{Op}
use Rattle.data_regions.specs.declared.region.Region.{Region}
use Rattle.work_script.specs.declared.report.Kind.{Kind}
use Rattle.work_script.specs.declared.report.Kind.TheVariants.{W, R, C}
use Rattle.work_script.specs.declared.report.Row.{Row}
use Rattle.work_script.specs.declared.workload.Item.{Item}
use Rattle.work_script.specs.GrowthLaws.{grew-trans, worked-wrote, worked-read, worked-cancelled}
use Rattle.work_script.specs.Outputs.{Output}
use Rattle.work_script.specs.Parts.{Worked, RowOf}
use Rattle.work_script.specs.Reports.{RowFits, scripts_of, script_of, zeros}
use Rattle.work_script.specs.Scripts.{run, run_row, before_cancel, has_cancel, has_irrev}
use Rattle.work_script.specs.ScriptLaws.{GaveOver}
use Rattle.stm_model.specs.declared.config.Config.{Config}
use Rattle.stm_answers.specs.CallerState.{CallerState}
use Rattle.work_worker.proofs.Calls.{CommitsAt, QuitsAt}
use Rattle.work_worker.specs.Goings.{no_log, no_replies}
use Rattle.work_worker.specs.Workers.{Works, WorksSince}

zeros-length : (n : ℕ) → length (zeros n) ≡ n
zeros-length n = length-replicate n 0

wrote-none : (b c : Bool) → b ≡ true → not b ≡ false || c → c ≡ false
wrote-none b c e h = sym h ∙ ap not e

wrote-some : (b c : Bool) → b ≡ false → not b ≡ false || c → c ≡ true
wrote-some b c e h = sym h ∙ ap not e

abbrev pub row_of : Kind → ℕ → ℕ → ℕ → Output → Row
row_of kind time n seq out = record { kind = kind; place = time; caller = n; seq = seq; replies = out.replies; emits = out.emits }

module _ (good : List ℕ → Type 0) (regions : List Region) (all : List Item) (config : Config) (n : ℕ) (v w : CallerState) (rows : List Row) (script : List Op) (out : Output)
    (is : slice_index_or (scripts_of n all) (length rows) [] ≡ script) (h : WorksSince good config.words regions all n v rows) where
  pub row-wrote : (t : ℕ) → GaveOver good config.words (run regions script) no_log no_replies v.log out → CommitsAt t v w
      → Works good config.words regions all n w (rows ++ row_of W t n (length rows) out ∷ [])
  row-wrote t gave done =
      let words = config.words in
      let row = row_of W t n (length rows) out in
      let low = h.fresh in let later = done.later in
      let of : RowOf good (length (zeros words)) regions (script_of all row) row done.entry = record {
        time = done.timed;
        fits = λ m k len ex. (let at = gave m k (len ∙ zeros-length words) (subst (Explains m) done.reads ex) in record {
          replies = at.replied ∙ ap (λ s. (run regions s m).replies) (sym is);
          emits = at.emitted ∙ ap (λ s. (run regions s m).emits) (sym is);
          kind = ap (λ s. (run regions s m).wrote) is ∙ wrote-some (is_empty v.log.writes) (run regions script m).wrote done.wrote at.wrote;
        });
        left = λ m k len ex. ap (λ s. (run regions s m).memory) is ∙ (sym (gave m k (len ∙ zeros-length words) (subst (Explains m) done.reads ex)).left ∙ ap (overlay m) (sym done.writes));
      } in
      let grew = grew-trans h.seen h.front v.seen v.front w.seen w.front h.grew done.grows in
      subst (λ made. Worked good (zeros words) regions (script_of all) n made w.seen w.front (rows ++ row ∷ [])) (sym done.made)
      (worked-wrote good (zeros words) regions (script_of all) n v.made h.seen h.front w.seen w.front rows row done.entry grew h.works refl refl refl (omega arith) done.front of)

  pub row-read : (t : ℕ) → GaveOver good config.words (run regions script) no_log no_replies v.log out → QuitsAt good config t v w → is_empty v.log.writes ≡ true
      → Works good config.words regions all n w (rows ++ row_of R t n (length rows) out ∷ [])
  row-read t gave done nothing =
      let words = config.words in
      let row = row_of R t n (length rows) out in
      let m = memory_at t w.seen (zeros words) in
      let low = h.fresh in let start = done.start in
      let at = gave m done.kept (length-memory_at t w.seen (zeros words) ∙ zeros-length words) done.explained in
      let fit : RowFits regions (script_of all row) row m = record {
        replies = at.replied ∙ ap (λ s. (run regions s m).replies) (sym is);
        emits = at.emitted ∙ ap (λ s. (run regions s m).emits) (sym is);
        kind = ap (λ s. (run regions s m).wrote) is ∙ wrote-none (is_empty v.log.writes) (run regions script m).wrote nothing at.wrote;
      } in
      let grew = grew-trans h.seen h.front v.seen v.front w.seen w.front h.grew done.grows in
      subst (λ made. Worked good (zeros words) regions (script_of all) n made w.seen w.front (rows ++ row ∷ [])) (sym done.made)
      (worked-read good (zeros words) regions (script_of all) n v.made h.seen h.front w.seen w.front rows row grew h.works refl refl refl (omega arith) done.front fit)

  pub row-cancelled : (t : ℕ) (last : Output) → GaveOver good config.words (run regions (before_cancel script)) no_log no_replies v.log out
      → has_cancel script ≡ true → has_irrev (before_cancel script) ≡ false → QuitsAt good config t v w
      → last ≡ record out { replies = out.replies ++ 1 ∷ [] } → Works good config.words regions all n w (rows ++ row_of C t n (length rows) last ∷ [])
  row-cancelled t last gave cancels unasked done told =
      let words = config.words in
      let row = row_of C t n (length rows) last in
      let m = memory_at t w.seen (zeros words) in
      let low = h.fresh in let start = done.start in
      let at = gave m done.kept (length-memory_at t w.seen (zeros words) ∙ zeros-length words) done.explained in
      let fit : RowFits regions (script_of all row) row m = record {
        replies = ap (λ (o : Output). o.replies) told ∙ (ap (λ r. r ++ 1 ∷ []) at.replied ∙ ap (λ s. (run_row regions C s m).replies) (sym is));
        emits = ap (λ (o : Output). o.emits) told ∙ (at.emitted ∙ ap (λ s. (run_row regions C s m).emits) (sym is));
        kind = (ap has_cancel is ∙ cancels, ap (λ s. has_irrev (before_cancel s)) is ∙ unasked);
      } in
      let grew = grew-trans h.seen h.front v.seen v.front w.seen w.front h.grew done.grows in
      subst (λ made. Worked good (zeros words) regions (script_of all) n made w.seen w.front (rows ++ row ∷ [])) (sym done.made)
      (worked-cancelled good (zeros words) regions (script_of all) n v.made h.seen h.front w.seen w.front rows row grew h.works refl refl refl (omega arith) done.front fit)
