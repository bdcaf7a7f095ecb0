-- No line of a record is a remark.
use Rattle.std.proofs.Common.{◌≡◌, ◌∙◌, ℕ, false, not, List, [], ◌∷◌, ◌++◌, All, Option, refl, sym, ap, subst}
use Rattle.std.proofs.lemmas.List.Elements.{All-head, All-tail, filter-append}
use Rattle.ob_checked.specs.Exports.{signatures}
use Rattle.ob_interface.specs.Call.{ObjectCall, Reply}
use Rattle.ob_interface.specs.Export.{Signature}
use Rattle.ob_meaning.specs.ByPositionStore.{Activation}
use Rattle.ob_text_reading.specs.Openings as Openings
use Rattle.ob_text_reading.specs.Openings.{AreOpenings}
use Rattle.ob_text_reading.specs.RecordLines as Lines
use Rattle.ob_text_reading.specs.RecordLines.{AreLines, IsApplied, IsBudget, IsCount, IsEvent, IsHead, IsOrder, IsRecord, IsRecordOf, IsTail, IsTitle, Line, Told, record_lines}
use Rattle.ob_text_values_reading.proofs.SaidLines.{said_on}
use Rattle.ob_text_values_reading.specs.Comments.{is_comment, said}
use Rattle.ob_text_words.specs.Words.{Word}
use Rattle.ob_typing.specs.Program.{Program, Variable}
use Rattle.wf_history.specs.declared.event.CallId.{CallId}
use Rattle.wf_history.specs.History.{Event}

one_more : (line : Line) (ls : List Line) → is_comment line ≡ false → said ls ≡ ls → said (line ∷ ls) ≡ line ∷ ls
one_more line ls is so_far = said_on line ls is ∙ ap (λ (xs : List Line). line ∷ xs) so_far

of_tail : {line : Line} → IsTail line → is_comment line ≡ false
of_tail Lines.schedule = refl
of_tail Lines.variable = refl

of_tails : (ls : List Line) → All IsTail ls → said ls ≡ ls
of_tails [] h = refl
of_tails (line ∷ ls) h = one_more line ls (of_tail (All-head IsTail line ls h)) (of_tails ls (All-tail IsTail line ls h))

of_title : {version : Word} {line : Line} → IsTitle version line → is_comment line ≡ false
of_title h = ap is_comment h

of_count : {line : Line} {n : ℕ} → IsCount line n → is_comment line ≡ false
of_count (Lines.count h least most) = refl

of_budget : {line : Line} {b : ℕ} → IsBudget line b → is_comment line ≡ false
of_budget (Lines.budget h most) = refl

of_openings : {variables : List Variable} {ls : List Line} {held : Activation} → AreOpenings variables ls held → said ls ≡ ls
of_openings Openings.none = refl
of_openings (Openings.more {line = line} {ls = ls} h hs) = one_more line ls (ap is_comment h.says.parts) (of_openings hs)

of_head : {variables : List Variable} {ls : List Line} {processes budget : ℕ} {carried : Option Activation} → IsHead variables ls processes budget carried → said ls ≡ ls
of_head (Lines.of_version_1 {title = a} {second = b} t c) = one_more a (b ∷ []) (of_title t) (one_more b [] (of_count c) refl)
of_head (Lines.of_version_2 {title = a} {second = b} {third = d} t c u) =
    one_more a (b ∷ d ∷ []) (of_title t) (one_more b (d ∷ []) (of_count c) (one_more d [] (of_budget u) refl))
of_head (Lines.of_version_3 {title = a} {second = b} {third = d} {openings = ls} t c u h) =
    one_more a (b ∷ d ∷ ls) (of_title t) (one_more b (d ∷ ls) (of_count c) (one_more d ls (of_budget u) (of_openings h)))

module _ (processes : ℕ) where
  of_applied : {line : Line} → IsApplied processes line → is_comment line ≡ false
  of_applied (Lines.applied h) = refl

  of_order : {line : Line} {ids : List CallId} → IsOrder processes line ids → is_comment line ≡ false
  of_order (Lines.order h) = refl

  module _ (exports : List Signature) where
    of_event : {before : List (Event ObjectCall Reply)} {line : Line} {e : Event ObjectCall Reply} → IsEvent processes exports before line e → is_comment line ≡ false
    of_event (Lines.begin names found fit) = refl
    of_event (Lines.end names begun replies) = refl

    of_lines : {before all : List (Event ObjectCall Reply)} {ls : List Line} {ids : List CallId} → AreLines processes exports before ls all ids → said ls ≡ ls
    of_lines (Lines.event {line = line} {rest = rest} n h) = one_more line rest (of_event n.form) (of_lines h)
    of_lines (Lines.applied {line = line} {rest = rest} m h) = one_more line rest (of_applied m) (of_lines h)
    of_lines (Lines.order {line = line} {rest = rest} m tails) = one_more line rest (of_order m) (of_tails rest tails)

pub all_said : (program : Program) (ls : List Line) (t : Told) → IsRecordOf program ls t → said ls ≡ ls
all_said program ls t h =
    ap said h.parts
    ∙ filter-append (λ (line : Line). not (is_comment line)) h.head h.behind
    ∙ ap (λ (xs : List Line). xs ++ said h.behind) (of_head h.heads)
    ∙ ap (λ (xs : List Line). h.head ++ xs) (of_lines t.processes (signatures program) h.tells)
    ∙ sym h.parts

-- so a text whose lines are those of a record is one
pub lines_are_read : (program : Program) (text : List ℕ) (t : Told) → IsRecordOf program (record_lines text) t → IsRecord program text t
lines_are_read program text t h = subst (λ (ls : List Line). IsRecordOf program ls t) (sym (all_said program (record_lines text) t h)) h

-- and one with remarks tells what it tells without them
pub remarks_tell_nothing : (program : Program) (text other : List ℕ) (t : Told) → said (record_lines text) ≡ said (record_lines other) → IsRecord program text t → IsRecord program other t
remarks_tell_nothing program text other t same h = subst (λ (ls : List Line). IsRecordOf program ls t) same h
