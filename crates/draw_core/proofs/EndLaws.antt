-- Which status words come to.
use Rattle.std.proofs.Common.{ℕ, ◌≡◌, List, refl}
use Rattle.std.specs.Prelude.{Option, Some, None}
use Rattle.draw_core.specs.declared.status.Status.{Status}
use Rattle.draw_core.specs.declared.status.Status.TheVariants.{Ok as Done, Help, Usage, Refused, ReadFault, WriteFault, Memory, NoPicture}
use Rattle.draw_core.specs.declared.asking.Topic.{Topic}
use Rattle.draw_core.specs.Asking.{Asked, asked, help_of}
use Rattle.draw_core.specs.Outcomes.{EndsBy, IsOutcome, MayEnd, exit_code_of, says_by}

module _ {S : Type 0} (left : S → Option (List ℕ)) (faults : S → ℕ) (source source' : S) where
  -- what is said of a text
  told-by : (t : Option Topic) (a : Option Asked) (status : Status) (said : List ℕ) → (status ≡ Help → ⊥) → (status ≡ Usage → ⊥) → says_by left faults source source' t a status said
      → (t ≡ None) × ((x : Asked) × (a ≡ Some x))
  told-by (Some topic) a status said no-help no-usage h = absurd (no-help h.1)
  told-by None None status said no-help no-usage h = absurd (no-usage h.1)
  told-by None (Some x) status said no-help no-usage h = (refl, (x, refl))

  helped-by : (t : Option Topic) (a : Option Asked) (said : List ℕ) → says_by left faults source source' t a Help said → (topic : Topic) × (t ≡ Some topic)
  helped-by (Some topic) a said h = (topic, refl)
  helped-by None None said h = absurd cc
  helped-by None (Some x) said h = absurd h

  misused-by : (t : Option Topic) (a : Option Asked) (said : List ℕ) → says_by left faults source source' t a Usage said → (t ≡ None) × (a ≡ None)
  misused-by (Some topic) a said h = absurd cc
  misused-by None None said h = (refl, refl)
  misused-by None (Some x) said h = absurd h

  module _ {K : Type 0} (words : List (List ℕ)) (held : K → Option (List ℕ)) (broken : K → ℕ) (sink sink' : K) where
    may-end : (status : Status) → IsOutcome left faults source source' words held broken sink sink' status → MayEnd words status
    may-end Done h = told-by (help_of words) (asked words) Done h.said (λ e. absurd cc) (λ e. absurd cc) h.says
    may-end Help h = helped-by (help_of words) (asked words) h.said h.says
    may-end Usage h = misused-by (help_of words) (asked words) h.said h.says
    may-end (Refused line) h = told-by (help_of words) (asked words) (Refused line) h.said (λ e. absurd cc) (λ e. absurd cc) h.says
    may-end ReadFault h = told-by (help_of words) (asked words) ReadFault h.said (λ e. absurd cc) (λ e. absurd cc) h.says
    may-end WriteFault h = tt
    may-end Memory h = tt
    may-end (NoPicture boxes) h = told-by (help_of words) (asked words) (NoPicture boxes) h.said (λ e. absurd cc) (λ e. absurd cc) h.says

    pub ends_by : (status : Status) (exit : ℕ) → IsOutcome left faults source source' words held broken sink sink' status → exit ≡ exit_code_of status → EndsBy words exit
    ends_by status exit outcome is = record { status = status; is = is; may = may-end status outcome }
