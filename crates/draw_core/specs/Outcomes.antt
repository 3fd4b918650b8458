-- What a call of `draw` comes to.
use Rattle.std.specs.Prelude.{ℕ, ◌≡◌, ◌≤◌, List, ◌++◌, length, Option, Some, None, Ok, Err, codes}
use Rattle.std.specs.Fmt.{decimal}
use Rattle.work_io.specs.Ends.{Rose, Took, TookSome, IsText, Gained, GainedSome}
use Rattle.draw_core.specs.declared.status.Status.{Status}
use Rattle.draw_core.specs.declared.status.Status.TheVariants.{Ok as Done, Help, Usage, Refused, ReadFault, WriteFault, Memory, NoPicture}
use Rattle.draw_pictures.specs.declared.step.Step.{Step}
use Rattle.draw_pictures.specs.Markup.{IsMarkup}
use Rattle.draw_core.specs.declared.asking.Topic.{Topic}
use Rattle.draw_core.specs.declared.asking.Topic.TheVariants.{All, Version}
use Rattle.draw_pictures.specs.declared.picture.Leaf.{Leaf}
use Rattle.draw_core.specs.declared.asking.TheConstants.{HELP}
use Rattle.draw_core.specs.Asking.{Asked, asked, help_of}
use Rattle.draw_pictures.specs.Parts.{leaf_by, own_rows, rows_above, IsFew, IsUnfit}
use Rattle.draw_pictures.specs.declared.part.Part.{Part}
use Rattle.draw_pictures.specs.Rows.{rows_of}
use Rattle.draw_pictures.specs.Shapes.{Box, line_boxes}
use Rattle.draw_pictures.specs.Texts.{svg_of}
use Rattle.draw_core.specs.Whole.{steps_of}

abbrev pub exit_code_of : Status → ℕ
exit_code_of Done = 0
exit_code_of Help = 0
exit_code_of Usage = 1
exit_code_of (Refused line) = 2
exit_code_of ReadFault = 3
exit_code_of WriteFault = 4
exit_code_of Memory = 5
exit_code_of (NoPicture boxes) = 7

abbrev pub usage_line : List ℕ
usage_line = codes "usage: stm_draw [--lines A..B] [--callers N,N..] [FILE [TRACE]]\n"

abbrev pub read_fault_line : List ℕ
read_fault_line = codes "read fault\n"

abbrev pub refused_line : ℕ → List ℕ
refused_line line = codes "refused " ++ (decimal line ++ codes "\n")

abbrev pub boxes_line : ℕ → List ℕ
boxes_line boxes = codes "boxes " ++ (decimal boxes ++ codes "\n")

-- the rows of a text's trace: a box for each line, but one for idle turns of a caller that follow each other
abbrev pub rows_in : List Step → List Box
rows_in steps = rows_of (line_boxes 1 steps)

-- the boxes of the part, and what the picture has: those, below the rows before them that still stand
abbrev pub boxes_in : Part → List Step → List Box
boxes_in part steps = own_rows part (rows_in steps)

abbrev pub page_boxes : Part → List Step → List Box
page_boxes part steps = rows_above part (rows_in steps) ++ boxes_in part steps

abbrev pub leaf_of : Part → List Step → Leaf
leaf_of part steps = leaf_by part (rows_above part (rows_in steps))

-- WHAT IS SAID OF A PART of these steps: its picture, text that is markup, of 2,000 boxes at most where no lines are
-- named; or how many boxes it would have, where they are more, or where lines are named and have none
pub record IsDrawn (steps : List Step) (part : Part) (said : List ℕ) : Type 0 where
  pub few : IsFew part.lines (length (boxes_in part steps))
  pub is : said ≡ svg_of (leaf_of part steps) (page_boxes part steps)
  pub markup : IsMarkup said

pub record IsNotDrawn (steps : List Step) (part : Part) (boxes : ℕ) (said : List ℕ) : Type 0 where
  pub count : boxes ≡ length (boxes_in part steps)
  pub unfit : IsUnfit part.lines boxes
  pub is : said ≡ boxes_line boxes

abbrev pub SaidOfPart : List Step → Part → Status → List ℕ → Type 0
SaidOfPart steps part Done said = IsDrawn steps part said
SaidOfPart steps part (NoPicture boxes) said = IsNotDrawn steps part boxes said
SaidOfPart steps part status said = ⊥

-- the text has a trace, alone or below its workload, of these steps
abbrev pub SaidOfText : List ℕ → Part → Status → List ℕ → Type 0
SaidOfText text part status said = (steps : List Step) × (steps_of text ≡ Ok steps) × SaidOfPart steps part status said

-- what is said of a part of a text that was read, or its first line at fault
abbrev pub SaidOf : List ℕ → Part → Status → List ℕ → Type 0
SaidOf text part Done said = SaidOfText text part Done said
SaidOf text part (NoPicture boxes) said = SaidOfText text part (NoPicture boxes) said
SaidOf text part (Refused line) said = (steps_of text ≡ Err line) × (said ≡ refused_line line)
SaidOf text part status said = ⊥

-- the help that is asked for
abbrev pub help_text : Topic → List ℕ
help_text All = HELP.now
help_text Version = codes "stm_draw 1.0.0\n"

-- how many bytes are read at most: one more than a text may have
abbrev pub most_read : ℕ
most_read = 134217729

module _ {S : Type 0} (left : S → Option (List ℕ)) (faults : S → ℕ) (source source' : S) where
  pub record IsUntouched : Type 0 where
    pub same : left source' ≡ left source
    pub calm : faults source' ≡ faults source

  -- the source failed, and what was taken until then is gone
  pub record Unread : Type 0 where
    pub cause : Rose (faults source) (faults source')
    pub lost : TookSome most_read (left source) (left source')

  -- all that was left was read, or its first bytes, at most so many, and nothing more is gone from the source
  pub record HasRead (Of : List ℕ → Type 0) : Type 0 where
    pub text : List ℕ
    pub read : IsText most_read (left source) text
    pub within : length text ≤ most_read
    pub taken : Took (left source) (left source') text
    pub calm : faults source' ≡ faults source
    pub of : Of text

  -- what is to be written by each status of a part of what was read, and why
  abbrev pub SaysOf : Part → Status → List ℕ → Type 0
  SaysOf part Done said = HasRead (λ text. SaidOf text part Done said)
  SaysOf part (NoPicture boxes) said = HasRead (λ text. SaidOf text part (NoPicture boxes) said)
  SaysOf part (Refused line) said = HasRead (λ text. SaidOf text part (Refused line) said)
  SaysOf part ReadFault said = Unread × (said ≡ read_fault_line)
  SaysOf part status said = ⊥

  -- by the help that the words ask for, or else the part: words ask for one thing at most
  abbrev pub says_by : Option Topic → Option Asked → Status → List ℕ → Type 0
  says_by (Some topic) a status said = IsUntouched × (status ≡ Help) × (said ≡ help_text topic)
  says_by None None status said = IsUntouched × (status ≡ Usage) × (said ≡ usage_line)
  says_by None (Some a) status said = SaysOf a.part status said

  -- what is to be written by each status, and why
  abbrev pub Says : List (List ℕ) → Status → List ℕ → Type 0
  Says words WriteFault said = ⊥
  Says words Memory said = ⊥
  Says words status said = says_by (help_of words) (asked words) status said

  module _ {K : Type 0} (words : List (List ℕ)) (held : K → Option (List ℕ)) (broken : K → ℕ) (sink sink' : K) where
    -- the whole text was written, and no put failed
    pub record Wrote (status : Status) : Type 0 where
      pub said : List ℕ
      pub says : Says words status said
      pub written : Gained (held sink) (held sink') said
      pub whole : broken sink' ≡ broken sink

    -- the sink failed, and holds a prefix of the text that another status was to write
    pub record WroteSome : Type 0 where
      pub status : Status
      pub said : List ℕ
      pub says : Says words status said
      pub some : GainedSome (held sink) (held sink') said
      pub cause : Rose (broken sink) (broken sink')

    -- nothing was written, and no take failed
    pub record WroteNothing : Type 0 where
      pub lost : TookSome most_read (left source) (left source')
      pub calm : faults source' ≡ faults source
      pub nothing : held sink' ≡ held sink
      pub whole : broken sink' ≡ broken sink

    abbrev pub IsOutcome : Status → Type 0
    IsOutcome Done = Wrote Done
    IsOutcome Help = Wrote Help
    IsOutcome Usage = Wrote Usage
    IsOutcome (Refused line) = Wrote (Refused line)
    IsOutcome ReadFault = Wrote ReadFault
    IsOutcome WriteFault = WroteSome
    IsOutcome Memory = WroteNothing
    IsOutcome (NoPicture boxes) = Wrote (NoPicture boxes)

    -- the exit status is that of what came
    pub record Exits (status : Status) (exit : ℕ) : Type 0 where
      pub outcome : IsOutcome status
      pub is : exit ≡ exit_code_of status

-- WHICH STATUS WORDS MAY COME TO: want of memory and of an output is free
abbrev pub MayEnd : List (List ℕ) → Status → Type 0
MayEnd words Help = (topic : Topic) × (help_of words ≡ Some topic)
MayEnd words Usage = (help_of words ≡ None) × (asked words ≡ None)
MayEnd words WriteFault = Unit {0}
MayEnd words Memory = Unit {0}
MayEnd words status = (help_of words ≡ None) × ((a : Asked) × (asked words ≡ Some a))

-- the exit status is that of one
pub record EndsBy (words : List (List ℕ)) (exit : ℕ) : Type 0 where
  pub status : Status
  pub is : exit ≡ exit_code_of status
  pub may : MayEnd words status
