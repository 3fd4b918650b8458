-- What is to be written where the words ask for a part.
use Rattle.std.proofs.Common.{ℕ, ◌≡◌, List, subst}
use Rattle.std.specs.Prelude.{Option, Some, None, Result, Ok, Err, IfOk}
use Rattle.draw_core.specs.declared.draw.Saying.{Saying}
use Rattle.draw_core.specs.declared.status.Status.{Status}
use Rattle.draw_core.specs.declared.status.Status.TheVariants.{Ok as Done, Help, Usage, Refused, ReadFault, WriteFault, Memory, NoPicture}
use Rattle.draw_pictures.specs.declared.part.Part.{Part}
use Rattle.draw_core.specs.Asking.{Asked, asked, help_of}
use Rattle.draw_core.specs.Outcomes.{Says, SaysOf}

module _ {S : Type 0} (left : S → Option (List ℕ)) (faults : S → ℕ) (source source' : S) (words : List (List ℕ)) (part : Part) (a : Asked)
    (no-help : help_of words ≡ None) (asks : asked words ≡ Some a) (same : part ≡ a.part) where
  says-asked : (status : Status) (said : List ℕ) → SaysOf left faults source source' part status said → Says left faults source source' words status said
  says-asked Done said h = rw (no-help, asks) (subst (λ (p : Part). SaysOf left faults source source' p Done said) same h)
  says-asked Help said h = absurd h
  says-asked Usage said h = absurd h
  says-asked (Refused line) said h = rw (no-help, asks) (subst (λ (p : Part). SaysOf left faults source source' p (Refused line) said) same h)
  says-asked ReadFault said h = rw (no-help, asks) (subst (λ (p : Part). SaysOf left faults source source' p ReadFault said) same h)
  says-asked WriteFault said h = h
  says-asked Memory said h = h
  says-asked (NoPicture boxes) said h = rw (no-help, asks) (subst (λ (p : Part). SaysOf left faults source source' p (NoPicture boxes) said) same h)

  pub ok-says : {E : Type 0} (r : Result Saying E) → IfOk r (λ s. SaysOf left faults source source' part s.status s.text.items) → IfOk r (λ s. Says left faults source source' words s.status s.text.items)
  ok-says (Ok s) h = says-asked s.status s.text.items h
  ok-says (Err e) h = tt
