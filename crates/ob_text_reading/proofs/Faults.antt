-- Faults of lines, from where they are found to where they stand in a text.
use Rattle.std.proofs.Common.{◌≡◌, ◌∙◌, ℕ, ◌+◌, ◌<◌, suc, List, [], ◌∷◌, ◌++◌, All, length, sym, ap, subst, arith, append_assoc, append-nil, length-append}
use Rattle.ob_interface.specs.Call.{ObjectCall, Reply}
use Rattle.ob_interface.specs.Export.{Signature}
use Rattle.ob_text_reading.specs.RecordLines as Lines
use Rattle.ob_text_reading.specs.RecordLines.{AreLines, IsEvent, IsNextEvent, IsOrder, IsTail, Line}
use Rattle.ob_text_reading.specs.LineReading as Reading
use Rattle.ob_text_reading.specs.LineReading.{BeginsLines, FailsBehind, FaultBehind, SaysNothing}
use Rattle.ob_text_values_reading.specs.RecordTexts.{IsFirstOther}
use Rattle.ob_text_reading.proofs.OneEvent.{applied_not_order, event_not_order}
use Rattle.ob_text_reading.proofs.LineRuns.{AreEvents, begins, ends_here, ends_missing, lines_behind, whole}
use Rattle.wf_history.specs.declared.event.CallId.{CallId}
use Rattle.wf_history.specs.History.{Event, Begin, Applied, End}
use Rattle.ob_text_values_reading.proofs.Ids.{id_below}

pub all_first : (P : Line → Type 0) (xs : List Line) (x : Line) (ys : List Line) → All P (xs ++ x ∷ ys) → P x
all_first P [] x ys h = h 0 x (omega arith)
all_first P (y ∷ xs) x ys h = all_first P xs x ys (λ i d within. let next : i + 1 ≡ suc i = omega arith in rw next at (h (i + 1) d (omega arith)))

module _ (processes : ℕ) (signatures : List Signature) (head : ℕ) where
  module _ (before : List Line) (line : Line) (rest : List Line) (b : List (Event ObjectCall Reply)) (so_far : AreEvents processes signatures [] before b) where
    -- a line that says nothing
    pub fails_here : SaysNothing processes signatures b line → FailsBehind processes signatures head (before ++ line ∷ rest) (head + length before + 1)
    fails_here s = Reading.misplaced before line rest (begins processes signatures so_far) (ends_here processes signatures so_far s)

    -- the O line
    pub told_here : (ids : List CallId) → IsOrder processes line ids → All IsTail rest → AreLines processes signatures [] (before ++ line ∷ rest) b ids
    told_here ids order tails = whole processes signatures so_far (Lines.order order tails)

    bad_tail : {all : List (Event ObjectCall Reply)} {ids ids' : List CallId} (tail : List Line) (other : Line) (more : List Line) → IsOrder processes line ids → ¬ IsTail other →
        AreLines processes signatures b (line ∷ ((tail ++ other ∷ []) ++ more)) all ids' → ⊥
    bad_tail tail other more order bad (Lines.event m h) = event_not_order processes signatures b m.form order
    bad_tail tail other more order bad (Lines.applied m h) = applied_not_order processes signatures b m order
    bad_tail tail other more order bad (Lines.order m tails) = bad (all_first IsTail tail other more (subst (λ (ls : List Line). All IsTail ls) (append_assoc tail (other ∷ []) more) tails))

    -- a line behind the O line
    pub fails_behind_order : (ids : List CallId) (k number : ℕ) → IsOrder processes line ids → IsFirstOther rest k → number ≡ head + length before + k + 2 →
        FailsBehind processes signatures head (before ++ line ∷ rest) number
    fails_behind_order ids k number order first n =
        let front : List Line = before ++ line ∷ first.before in
        let parts : before ++ line ∷ rest ≡ front ++ first.line ∷ first.rest =
        ap (λ (more : List Line). before ++ line ∷ more) first.parts ∙ sym (append_assoc before (line ∷ first.before) (first.line ∷ first.rest)) in
        let here : head + length front + 1 ≡ number =
        let long = length-append before (line ∷ first.before) in omega (arith, long, first.counted, n) in
        let good : BeginsLines processes signatures front =
        record { rest = []; all = b; ids = ids; whole = subst (λ (all : List Line). AreLines processes signatures [] all b ids) (sym (append-nil front)) (whole processes signatures so_far (Lines.order order first.tails)) } in
        let bad : ¬ BeginsLines processes signatures (front ++ first.line ∷ []) =
        λ h. bad_tail first.before first.line h.rest order first.other
        (lines_behind processes signatures before (line ∷ (first.before ++ first.line ∷ [])) h.rest so_far
        (subst (λ (all : List Line). AreLines processes signatures [] (all ++ h.rest) h.all h.ids) (append_assoc before (line ∷ first.before) (first.line ∷ [])) h.whole)) in
        subst (λ (m : ℕ). FailsBehind processes signatures head (before ++ line ∷ rest) m) here
        (subst (λ (all : List Line). FailsBehind processes signatures head all (head + length front + 1)) (sym parts)
        (Reading.misplaced front first.line first.rest good bad))

  pub fails_missing : (ls : List Line) (b : List (Event ObjectCall Reply)) → AreEvents processes signatures [] ls b → FailsBehind processes signatures head ls (head + length ls + 1)
  fails_missing ls b h = Reading.missing (begins processes signatures h) (λ all ids k. ends_missing processes signatures h k)

-- a line of an event names a process that there is
abbrev process_in : Event ObjectCall Reply → ℕ
process_in (Begin i call) = i.process
process_in (Applied ids) = 0
process_in (End i reply) = i.process

event_below : {processes : ℕ} {signatures : List Signature} {before : List (Event ObjectCall Reply)} {line : Line} {e : Event ObjectCall Reply} →
    IsEvent processes signatures before line e → process_in e < processes
event_below (Lines.begin names found fit) = id_below names
event_below (Lines.end names begun replies) = id_below names

pub begin_below : {processes : ℕ} {signatures : List Signature} {before : List (Event ObjectCall Reply)} {line : Line} {i : CallId} {call : ObjectCall} →
    IsNextEvent processes signatures before line (Begin i call) → i.process < processes
begin_below n = event_below n.form

pub end_below : {processes : ℕ} {signatures : List Signature} {before : List (Event ObjectCall Reply)} {line : Line} {i : CallId} {reply : Reply} →
    IsNextEvent processes signatures before line (End i reply) → i.process < processes
end_below n = event_below n.form
