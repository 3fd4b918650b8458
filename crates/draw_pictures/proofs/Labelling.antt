-- The words of a box have no character that a tag is made of.
use Rattle.std.proofs.Common.{ℕ, ◌≡◌, List, [], ◌∷◌, ◌++◌, true, refl}
use Rattle.std.specs.Prelude.{Option, Some, None, codes}
use Rattle.std.specs.Fmt.{decimal}
use Rattle.stm_model.specs.Algorithms.{alg_name}
use Rattle.stm_model.specs.declared.alg.Alg.{Alg}
use Rattle.stm_model.specs.declared.alg.Alg.TheVariants.{Cgl}
use Rattle.stm_model.specs.declared.stop.Cause.{Cause}
use Rattle.stm_model.specs.declared.stop.Cause.TheVariants.{Clock, Record, Moved, Filter, Overrun}
use Rattle.stm_model.specs.declared.stop.Stop.{Stop}
use Rattle.stm_model.specs.declared.stop.Stop.TheVariants.{Conflict, Full, ClockFull}
use Rattle.work_script.specs.declared.op.Op.{Op}
use Rattle.work_script.specs.declared.op.Op.TheVariants.{Read}
use Rattle.work_script.specs.Operations.{op_name}
use Rattle.stm_answers.specs.declared.answers.Begin.TheVariants.{Begun, Closed, Held, ClockFull}
use Rattle.stm_answers.specs.declared.answers.Cancel.TheVariants.{Cancelled, Irrevocable}
use Rattle.stm_answers.specs.declared.answers.CloseGate.TheVariants.{Closed, Taken}
use Rattle.stm_answers.specs.declared.answers.Commit.TheVariants.{Committed, ReadOnly, Conflict, Again, ClockFull}
use Rattle.stm_answers.specs.declared.answers.Irrev.TheVariants as irrevs
use Rattle.stm_answers.specs.declared.answers.Look.TheVariants.{Quiet, Busy}
use Rattle.work_trace.specs.declared.line.Line.{Line}
use Rattle.work_trace.specs.declared.line.Line.TheVariants.{Of, Finish}
use Rattle.work_trace.specs.declared.said.Said.{Said}
use Rattle.work_trace.specs.declared.said.Said.TheVariants.{TryBegin, Reply, Stopped, TryCancel, TryIrrevocable, TryCommit, TryClose, Looked, Installed, Reserved, Idle, Dropped, Reopened}
use Rattle.work_trace.specs.Texts.{spaced, cause_bytes, stop_bytes, full_clock_bytes, said_bytes}
use Rattle.draw_pictures.specs.declared.step.Deed.{Deed}
use Rattle.draw_pictures.specs.declared.step.Step.{Step}
use Rattle.draw_pictures.specs.declared.style.TheConstants.{ARROW}
use Rattle.draw_pictures.specs.Labels.{region_numbers, operands, deed_bytes, done_bytes, told_bytes, words_of_line, label_of}
use Rattle.draw_pictures.proofs.Marking.{all_calm, Calm, calm, calm-append, calm-decimal}

alg-test : (alg : Alg) → all_calm (alg_name alg) ≡ true
alg-test Cgl = refl
alg-test alg = refl

pub alg-calm : (alg : Alg) → Calm (alg_name alg)
alg-calm alg = calm (alg_name alg) (alg-test alg)

op-test : (op : Op) → all_calm (op_name op) ≡ true
op-test (Read a) = refl
op-test op = refl

after : (w rest : List ℕ) → all_calm w ≡ true → Calm rest → Calm (w ++ rest)
after w rest t c = calm-append w rest (calm w t) c

spaced-calm : (ns : List ℕ) → Calm (spaced ns)
spaced-calm [] = calm [] refl
spaced-calm (n ∷ ns) = after (codes " ") (decimal n ++ spaced ns) refl (calm-append (decimal n) (spaced ns) (calm-decimal n) (spaced-calm ns))

numbers : (w : List ℕ) (ns : List ℕ) → all_calm w ≡ true → Calm (w ++ spaced ns)
numbers w ns t = after w (spaced ns) t (spaced-calm ns)

cause-calm : (cause : Cause) → Calm (cause_bytes cause)
cause-calm (Clock had now) = numbers (codes " conflict clock") (had ∷ now ∷ []) refl
cause-calm (Record index word start) = numbers (codes " conflict record") (index ∷ word ∷ start ∷ []) refl
cause-calm (Moved index before after) = numbers (codes " conflict moved") (index ∷ before ∷ after ∷ []) refl
cause-calm (Filter time bits) = numbers (codes " conflict filter") (time ∷ bits ∷ []) refl
cause-calm (Overrun start clock) = numbers (codes " conflict overrun") (start ∷ clock ∷ []) refl

full-calm : (clock : ℕ) → Calm (full_clock_bytes clock)
full-calm clock = numbers (codes " clockfull") (clock ∷ []) refl

stop-calm : (stop : Stop) → Calm (stop_bytes stop)
stop-calm (Conflict cause) = cause-calm cause
stop-calm (Full limit) = numbers (codes " full") (limit ∷ []) refl
stop-calm (ClockFull clock) = full-calm clock

op-calm : (op : Op) (rest : List ℕ) → Calm rest → Calm (codes " " ++ (op_name op ++ rest))
op-calm op rest c = after (codes " ") (op_name op ++ rest) refl (after (op_name op) rest (op-test op) c)

said-calm : (said : Said) → Calm (said_bytes said)
said-calm (TryBegin (Begun alg)) = after (codes " begin ") (alg_name alg) refl (alg-calm alg)
said-calm (TryBegin (Closed gate)) = numbers (codes " begin closed") (gate ∷ []) refl
said-calm (TryBegin (Held word)) = numbers (codes " begin held") (word ∷ []) refl
said-calm (TryBegin (ClockFull clock)) = after (codes " begin") (full_clock_bytes clock) refl (full-calm clock)
said-calm (Reply op reply) = op-calm op (spaced (reply ∷ [])) (spaced-calm (reply ∷ []))
said-calm (Stopped op stop) = op-calm op (stop_bytes stop) (stop-calm stop)
said-calm (TryCancel (Cancelled time)) = numbers (codes " cancel cancelled") (time ∷ []) refl
said-calm (TryCancel Irrevocable) = calm (codes " cancel irrevocable") refl
said-calm (TryIrrevocable irrevs.Granted) = calm (codes " irrev granted") refl
said-calm (TryIrrevocable (irrevs.Busy caller status)) = numbers (codes " irrev busy") (caller ∷ status ∷ []) refl
said-calm (TryIrrevocable (irrevs.Taken gate)) = numbers (codes " irrev taken") (gate ∷ []) refl
said-calm (TryIrrevocable (irrevs.Conflict cause)) = after (codes " irrev") (cause_bytes cause) refl (cause-calm cause)
said-calm (TryIrrevocable (irrevs.ClockFull clock)) = after (codes " irrev") (full_clock_bytes clock) refl (full-calm clock)
said-calm (TryCommit (Committed time)) = numbers (codes " commit committed") (time ∷ []) refl
said-calm (TryCommit (ReadOnly time)) = numbers (codes " commit readonly") (time ∷ []) refl
said-calm (TryCommit (Conflict cause)) = after (codes " commit") (cause_bytes cause) refl (cause-calm cause)
said-calm (TryCommit (Again word had now)) = numbers (codes " commit again") (word ∷ had ∷ now ∷ []) refl
said-calm (TryCommit (ClockFull clock)) = after (codes " commit") (full_clock_bytes clock) refl (full-calm clock)
said-calm (TryClose Closed) = calm (codes " close closed") refl
said-calm (TryClose (Taken gate)) = numbers (codes " close taken") (gate ∷ []) refl
said-calm (Looked Quiet) = calm (codes " look quiet") refl
said-calm (Looked (Busy caller status)) = numbers (codes " look busy") (caller ∷ status ∷ []) refl
said-calm (Installed alg) = after (codes " install ") (alg_name alg) refl (alg-calm alg)
said-calm (Reserved reads writes) = numbers (codes " reserve") (reads ∷ writes ∷ []) refl
said-calm Idle = calm (codes " idle") refl
said-calm Dropped = calm (codes " drop") refl
said-calm Reopened = calm (codes " reopen") refl

deed-calm : (deed : Deed) (rest : List ℕ) → Calm rest → Calm (deed_bytes deed ++ rest)
deed-calm deed rest c =
    let numbers : List ℕ = spaced (region_numbers deed.version deed.op) ++ spaced (operands deed.op) in
    calm-append (deed_bytes deed) rest
    (op-calm deed.op numbers (calm-append (spaced (region_numbers deed.version deed.op)) (spaced (operands deed.op)) (spaced-calm (region_numbers deed.version deed.op)) (spaced-calm (operands deed.op)))) c

done-calm : (deed : Deed) (said : Said) → Calm (done_bytes deed said)
done-calm deed (Reply op reply) = deed-calm deed (ARROW.now ++ spaced (reply ∷ [])) (after ARROW.now (spaced (reply ∷ [])) refl (spaced-calm (reply ∷ [])))
done-calm deed (Stopped op stop) = deed-calm deed (stop_bytes stop) (stop-calm stop)
done-calm deed said = said-calm said

told-calm : (deed : Option Deed) (said : Said) → Calm (told_bytes deed said)
told-calm (Some deed) said = done-calm deed said
told-calm None said = said-calm said

words-calm : (deed : Option Deed) (line : Line) → Calm (words_of_line deed line)
words-calm deed (Of caller said) = told-calm deed said
words-calm deed Finish = calm (codes " finish") refl

pub label-calm : (step : Step) → Calm (label_of step)
label-calm step = words-calm step.deed step.line
