-- Schedules that go on until each call of a script has ended.
use Rattle.std.specs.Prelude.{◌≡◌, ℕ, List, [], ◌∷◌, ◌++◌, map}
use Rattle.ob_interface.specs.Export.{Signature}
use Rattle.ob_text_words.specs.ScriptCalls.{ScriptCall}
use Rattle.ob_text_words.specs.Words.{Word, IsProcess}
use Rattle.ob_text_scripts.specs.Script.{IsScript}
use Rattle.ob_text_words.specs.Schedule.{IsSchedule, item_words}
use Rattle.ob_text_words.specs.declared.item.Item.{Item}
use Rattle.ob_text_words.specs.declared.item.Item.TheVariants as Items

-- the item by which the process of a call answers
abbrev pub answer_item : ScriptCall → Item
answer_item c = Items.ToAnswer c.process

-- A text goes on from a schedule: the words of the schedule come first. Where that is a schedule of some items, and the other text a
-- script of calls by its processes, it says these items, and behind them for each call one by which its process answers.
pub record IsFinished (schedule script text : List ℕ) : Type 0 where
  pub behind : List Word
  pub words : item_words text ≡ item_words schedule ++ behind
  pub ends : (signatures : List Signature) (processes : ℕ) (calls : List ScriptCall) (items : List Item)
      → IsScript signatures processes script calls → IsSchedule processes schedule items
      → IsSchedule processes text (items ++ map answer_item calls)

-- the words by which a line of a script goes on: of a line that names a process first the item by which it answers
pub data AddsWords : List Word → List Word → Type 0 where
  nothing : AddsWords [] []
  unnamed : {first : Word} {rest : List Word} → ((p : ℕ) → IsProcess first p → ⊥) → AddsWords (first ∷ rest) []
  named : {first : Word} {rest : List Word} {p : ℕ} → IsProcess first p → AddsWords (first ∷ rest) ((first ++ 33 ∷ []) ∷ [])

-- the new text has these words behind those of the old one
pub record GoesOnBy (line : List Word) (old new : List ℕ) : Type 0 where
  pub behind : List Word
  pub adds : AddsWords line behind
  pub words : item_words new ≡ item_words old ++ behind
