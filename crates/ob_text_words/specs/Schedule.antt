-- Schedules: what each word says, of steps of so many processes.
use Rattle.std.specs.Prelude.{◌≡◌, ℕ, ◌-◌, ◌<◌, ◌≤◌, ◌==◌, Bool, false, List, [], ◌∷◌, ◌++◌, flat_map, take, slice_get, Some, if◌then◌else◌}
use Rattle.ob_text_words.specs.Words.{Word, IsDigits, IsProcess, lines, words}
use Rattle.ob_text_words.specs.LabelNames.{label_name}
use Rattle.ob_text_words.specs.declared.item.Item.{Item}
use Rattle.ob_text_words.specs.declared.item.Item.TheVariants as Items
use Rattle.ob_text_words.specs.declared.schedule_texts.ScheduleFault.{ScheduleFault}
use Rattle.ob_text_words.specs.declared.schedule_texts.ScheduleFault.TheVariants as Faults
use Rattle.wf_table.specs.declared.process.Label.{Label}

-- the words of a line are a comment where the first one begins with #
abbrev pub is_comment : List Word → Bool
is_comment [] = false
is_comment ([] ∷ ws) = false
is_comment ((b ∷ more) ∷ ws) = b == 35

-- what a line says: its words, and nothing where they are a comment
abbrev pub line_items : List ℕ → List Word
line_items line = if is_comment (words line) then [] else words line

-- the words of a schedule: what its lines say
abbrev pub item_words : List ℕ → List Word
item_words text = flat_map line_items (lines text)

-- p*k: so many steps, k of one to nine digits; p:LABEL: until it stands at the label; p!: until it answers
pub data IsItem : Word → Item → Type 0 where
  steps : {first second : Word} {p k : ℕ} → IsProcess first p → IsDigits 9 second k → IsItem (first ++ 42 ∷ second) (Items.Steps p k)
  until : {first : Word} {p : ℕ} {label : Label} → IsProcess first p → IsItem (first ++ 58 ∷ label_name label) (Items.Until p label)
  to_answer : {first : Word} {p : ℕ} → IsProcess first p → IsItem (first ++ 33 ∷ []) (Items.ToAnswer p)

-- who steps
abbrev pub process_of : Item → ℕ
process_of (Items.Steps p k) = p
process_of (Items.Until p label) = p
process_of (Items.ToAnswer p) = p

-- there are so many processes
module _ (processes : ℕ) where
  -- words, with the items that they say
  pub data AreItems : List Word → List Item → Type 0 where
    none : AreItems [] []
    more : {word : Word} {ws : List Word} {item : Item} {items : List Item} →
        IsItem word item → process_of item < processes → AreItems ws items → AreItems (word ∷ ws) (item ∷ items)

  -- a text is a schedule of these items
  abbrev pub IsSchedule : List ℕ → List Item → Type 0
  IsSchedule text items = AreItems (item_words text) items

  -- faults of a word

  abbrev pub HasNoForm : Word → Type 0
  HasNoForm word = (item : Item) → IsItem word item → ⊥

  -- an item of a process that there isn't
  pub record HasNoProcess (word : Word) : Type 0 where
    pub item : Item
    pub says : IsItem word item
    pub past : processes ≤ process_of item

  -- the item of this number, from 1, has this fault, and those before it are fine
  pub record FailsAtItem (text : List ℕ) (number : ℕ) (IsFault : Word → Type 0) : Type 0 where
    pub word : Word
    pub counted : 1 ≤ number
    pub here : slice_get (item_words text) (number - 1) ≡ Some word
    pub fails : IsFault word
    pub items : List Item
    pub before : AreItems (take (number - 1) (item_words text)) items

  abbrev pub FaultStands : List ℕ → ScheduleFault → Type 0
  FaultStands text (Faults.Form number) = FailsAtItem text number HasNoForm
  FaultStands text (Faults.Process number) = FailsAtItem text number HasNoProcess
  FaultStands text Faults.NoMemory = Unit {0}

  abbrev pub SaysNone : ScheduleFault → Type 0
  SaysNone Faults.NoMemory = ⊥
  SaysNone _ = Unit {0}

  -- the fault stands at its item, and the text is no schedule
  pub record IsScheduleFault (text : List ℕ) (fault : ScheduleFault) : Type 0 where
    pub stands : FaultStands text fault
    pub none : SaysNone fault → (items : List Item) → IsSchedule text items → ⊥
