-- What each fault of a record's order says to people.
use Rattle.std.specs.Prelude.{◌≡◌, ℕ, Bool, true, false, List, [], ◌++◌, Option, None, Some, MatchOption, codes, decimal, option_map}
use Rattle.ob_explain_sentences.specs.Remarks.{Remark}
use Rattle.ob_explained_lines.specs.Lines.{IsLine}
use Rattle.ob_explained_records.specs.MadeTexts.{other_reply_text}
use Rattle.ob_explained_records.specs.OrderPlaces.{IsEndPlace, IsOrderPlace}
use Rattle.ob_explained_lines.specs.declared.record_line.Wanted.TheVariants as Wants
use Rattle.ob_object_run.specs.declared.order_checker.OrderFault.{OrderFault}
use Rattle.ob_object_run.specs.declared.order_checker.OrderFault.TheVariants as Order
use Rattle.ob_object_calls.specs.MadeCalls.{MadeCall}
use Rattle.ob_object_calls.specs.RecordCalls.{IsCallFound, IsCallOvertaken}
use Rattle.ob_text_record.specs.RecordText.{id_text}
use Rattle.wf_history.specs.declared.event.CallId.{CallId}

-- the number of a line behind some words, where there is that line
abbrev pub line_text : (before : List ℕ) → Option ℕ → List ℕ
line_text before None = []
line_text before (Some number) = before ++ decimal number

-- a remark at a place, where there is one
abbrev pub remark_at : (sentence : List ℕ) → (place : ℕ) → Remark
remark_at sentence place = record { place = place; sentence = sentence; hint = None }

abbrev pub told_at : Option ℕ → List ℕ → Option Remark
told_at place sentence = option_map (remark_at sentence) place

module _ (text : List ℕ) (id : CallId) where
  -- what is said of the call, with the lines in which it begins and ends
  pub record IsCallSentence (what sentence : List ℕ) : Type 0 where
    pub begin : Option ℕ
    pub begins : IsLine text (Wants.Begin id) begin
    pub end : Option ℕ
    pub ends : IsLine text (Wants.End id) end
    pub says :
        sentence ≡ codes "call " ++ id_text id ++ what ++ line_text (codes "; it begins in line ") begin ++ line_text (codes ", and ends in line ") end

  -- at the call's name in the line of its end
  pub record IsEndRemark (what : List ℕ) (remark : Option Remark) : Type 0 where
    pub place : Option ℕ
    pub stands : IsEndPlace text id place
    pub sentence : List ℕ
    pub says : IsCallSentence what sentence
    pub told : remark ≡ told_at place sentence

  -- at the call's name in the order, or where it stands there again
  pub record IsOrderLineRemark (again : Bool) (what : List ℕ) (remark : Option Remark) : Type 0 where
    pub place : Option ℕ
    pub stands : IsOrderPlace text id again place
    pub sentence : List ℕ
    pub says : IsCallSentence what sentence
    pub told : remark ≡ told_at place sentence

  -- a call that has begun stands there twice
  abbrev pub IsUnknownRemark : Option Remark → Type 0
  IsUnknownRemark remark =
      (begin : Option ℕ) × IsLine text (Wants.Begin id) begin
      × MatchOption begin (IsOrderLineRemark false (codes " never began, so it can't stand in the order") remark)
      (λ _. IsOrderLineRemark true (codes " stands in the order before, and a call stands there once") remark)

-- the call before which another one stands too early, and the line of its end, where they are known
abbrev pub early_text : Option CallId → (line : Option ℕ) → List ℕ
early_text None line = codes " stands in the order before a call that had ended when it began"
early_text (Some other) line =
    codes " stands in the order before " ++ id_text other ++ codes ", which ended" ++ line_text (codes " in line ") line ++ codes ", before it began"

-- the line of a call's end
abbrev pub IsEndLine : List ℕ → Option CallId → Option ℕ → Type 0
IsEndLine text None line = line ≡ None
IsEndLine text (Some id) line = IsLine text (Wants.End id) line

-- the other call stands behind this one in the order, and had ended when this one began
abbrev pub IsTooEarlyRemark : (object text : List ℕ) → CallId → Option Remark → Type 0
IsTooEarlyRemark object text id remark =
    (other : Option CallId) × IsCallOvertaken object text id other
    × (line : Option ℕ) × IsEndLine text other line × IsOrderLineRemark text id false (early_text other line) remark

-- what the call says in the record, and what it comes to in the order by the module
abbrev pub IsOtherReplyRemark : (object text : List ℕ) → CallId → Option Remark → Type 0
IsOtherReplyRemark object text id remark =
    (made : Option MadeCall) × IsCallFound object text id made × IsEndRemark text id (other_reply_text made) remark

-- of a module's text and a record
abbrev pub IsOrderRemark : (object text : List ℕ) → OrderFault → Option Remark → Type 0
IsOrderRemark object text (Order.Missing id) remark = IsEndRemark text id (codes " ended, and is missing in the order") remark
IsOrderRemark object text (Order.Unknown id) remark = IsUnknownRemark text id remark
IsOrderRemark object text (Order.TooEarly id) remark = IsTooEarlyRemark object text id remark
IsOrderRemark object text (Order.OtherReply id) remark = IsOtherReplyRemark object text id remark
IsOrderRemark object text Order.NoMemory remark = remark ≡ None
