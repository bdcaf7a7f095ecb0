-- Whether a call may begin or end in a line of a record, by the lines before it, and what is said where it may not.
use Rattle.std.specs.Prelude.{◌≡◌, ◌<◌, ◌-◌, ◌==◌, ℕ, nat_lt, List, ◌++◌, Option, None, Some, MatchOption, codes, decimal, if◌then◌else◌}
use Rattle.ob_explained_lines.specs.CallNames.{Names}
use Rattle.ob_explained_lines.specs.Lines.{IsLine}
use Rattle.ob_explained_lines.specs.declared.record_line.Wanted.{Wanted}
use Rattle.ob_explained_lines.specs.declared.record_line.Wanted.TheVariants as Wants
use Rattle.ob_text_record.specs.RecordText.{id_text}
use Rattle.ob_text_words.specs.Words.{Word}
use Rattle.wf_history.specs.declared.event.CallId.{CallId}

-- the word names the call, p.k, by one of so many processes
pub record NamesWithin (processes : ℕ) (word : Word) (id : CallId) : Type 0 where
  pub names : Names word id
  pub below : id.process < processes

abbrev pub NamesNoCall : (processes : ℕ) → Word → Type 0
NamesNoCall processes word = (id : CallId) → NamesWithin processes word id → ⊥

-- the call that a word names, where it names one
abbrev pub IsCallWithin : (processes : ℕ) → Word → Option CallId → Type 0
IsCallWithin processes word id = MatchOption id (NamesNoCall processes word) (NamesWithin processes word)

-- the number of a line, where it stands before another one
abbrev pub before : (number : ℕ) → Option ℕ → Option ℕ
before number None = None
before number (Some line) = if nat_lt line number then Some line else None

-- the call before another one of its process
abbrev pub previous : CallId → CallId
previous id = record { process = id.process; number = id.number - 1 }

-- of a call that begins in a line before
abbrev pub begun_text : CallId → (line : ℕ) → List ℕ
begun_text id line = codes "call " ++ id_text id ++ codes " begins in line " ++ decimal line ++ codes " already"

abbrev pub zero_text : List ℕ
zero_text = codes "the calls of a process have the numbers 1, 2 and so on, in the order in which they begin"

-- of a call before which another one of its process is missing, and of one before which another one has no end
abbrev pub gap_text : CallId → List ℕ
gap_text id = codes "call " ++ id_text id ++ codes " comes behind call " ++ id_text (previous id) ++ codes ", which begins in no line before this one"

abbrev pub open_text : CallId → (line : ℕ) → List ℕ
open_text id line =
    codes "call " ++ id_text (previous id) ++ codes ", which begins in line " ++ decimal line
    ++ codes ", has no end before this line, and a process has one call open"

-- by the lines in which the call before it begins and ends
abbrev pub behind_text : CallId → (begin end : Option ℕ) → Option (List ℕ)
behind_text id None end = Some (gap_text id)
behind_text id (Some line) None = Some (open_text id line)
behind_text id (Some line) (Some other) = None

-- by the number of the call: the first one of its process has none before it
abbrev pub first_text : CallId → (begin end : Option ℕ) → Option (List ℕ)
first_text id begin end = if id.number == 0 then Some zero_text else if id.number == 1 then None else behind_text id begin end

-- why a call can't begin, by the line in which it begins already; none where it may
abbrev pub begin_text : CallId → (same begin end : Option ℕ) → Option (List ℕ)
begin_text id (Some line) begin end = Some (begun_text id line)
begin_text id None begin end = first_text id begin end

-- of a call that has not begun, and of one that ends in a line before
abbrev pub not_begun_text : CallId → List ℕ
not_begun_text id = codes "call " ++ id_text id ++ codes " ends here, and begins in no line before this one"

abbrev pub ended_text : CallId → (line : ℕ) → List ℕ
ended_text id line = codes "call " ++ id_text id ++ codes " ends in line " ++ decimal line ++ codes " already"

-- in a record, before the line of a number
module _ (text : List ℕ) (number : ℕ) where
  -- the first line of these that says what is looked for
  pub record IsLineBefore (wanted : Wanted) (line : Option ℕ) : Type 0 where
    pub first : Option ℕ
    pub is_first : IsLine text wanted first
    pub says : line ≡ before number first

  -- what is said of a call that begins in the line
  pub record IsBeginPlace (id : CallId) (said : Option (List ℕ)) : Type 0 where
    pub same : Option ℕ
    pub begins_before : IsLineBefore (Wants.Begin id) same
    pub begin : Option ℕ
    pub begins : IsLineBefore (Wants.Begin (previous id)) begin
    pub end : Option ℕ
    pub ends : IsLineBefore (Wants.End (previous id)) end
    pub says : said ≡ begin_text id same begin end
