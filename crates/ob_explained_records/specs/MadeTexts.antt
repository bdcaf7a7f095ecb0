-- What is said of a call that comes to another reply than its record says.
use Rattle.std.specs.Prelude.{ℕ, ◌-◌, ◌==◌, nat_lt, List, ◌++◌, Option, None, Some, codes, drop, if◌then◌else◌, length}
use Rattle.ob_object_calls.specs.MadeCalls.{MadeCall}
use Rattle.ob_text_words.specs.ReplyLines.{reply_text}
use Rattle.ob_text_record.specs.RecordText.{ids_text}
use Rattle.wf_history.specs.declared.event.CallId.{CallId}

-- at most so many calls are listed
abbrev pub most_listed : ℕ
most_listed = 8

-- the last ones of some calls
abbrev pub last_ids : List CallId → List CallId
last_ids ids = drop (length ids - most_listed) ids

-- the same as text, with two dots for those before them
abbrev pub last_calls : List CallId → List ℕ
last_calls ids = if nat_lt most_listed (length ids) then codes " .." ++ ids_text (last_ids ids) else ids_text ids

-- the calls that stand before one in an order
abbrev pub before_text : List CallId → List ℕ
before_text ids = if length ids == 0 then codes " as the first" else codes " after" ++ last_calls ids

-- what the record says of a call, and what it comes to behind the calls before it in the order
abbrev pub made_text : MadeCall → List ℕ
made_text made =
    codes " says" ++ reply_text made.told ++ codes "; made one at a time in the order," ++ before_text made.before ++ codes ", it is" ++ reply_text made.meant

-- the same, where it is known what the call comes to
abbrev pub other_reply_text : Option MadeCall → List ℕ
other_reply_text None = codes " has another reply when the calls are made one at a time in the order"
other_reply_text (Some made) = made_text made
