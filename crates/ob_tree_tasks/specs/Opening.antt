-- What a task over a variable or a selector gives way to, and when its instructions have operands of 16 bits.
use Rattle.std.specs.Prelude.{◌≡◌, ℕ, ◌+◌, ◌<◌, ◌≤◌, Bool, true, false, List, [], ◌∷◌, ◌++◌, length}
use Rattle.ob_typing.specs.Program.{DataType, OfModule, Designated, Selectors, no_selector, field_of, element_of, Branches, no_branch}
use Rattle.ob_code_words.specs.declared.instr.Instr.TheVariants as Instrs
use Rattle.ob_code_scheme.specs.Types.{words, part_type, part_offset, Scope, word_in, space_at, type_at, scope_of}
use Rattle.ob_tree_law.specs.Work.{Task, Value, Operators, Address, Selecting, Handing, Doing, All, Choosing, Instruction, own_tasks, variable_tasks, selecting_left, opened_by, opened, work_nodes}
use Rattle.ob_tree_tasks.specs.WorkTasks.{WorkTasks}

-- a field, and selectors behind it
abbrev pub field_tasks : Scope → DataType → (position : ℕ) → Selectors → List Task → List Task
field_tasks own type position rest tasks =
    Instruction (Instrs.Field (part_offset type position)) ∷ (selecting_left own (part_type type position) rest ++ tasks)

-- what stands behind the index of an element, and selectors behind that
abbrev pub element_tasks : Scope → DataType → (length : ℕ) → Selectors → List Task → List Task
element_tasks own type length rest tasks =
    Instruction (Instrs.Index length (words (part_type type 0))) ∷ (selecting_left own (part_type type 0) rest ++ tasks)

-- a variable of the module, and selectors behind it
abbrev pub global_tasks : (globals own : Scope) → (position : ℕ) → Selectors → List Task → List Task
global_tasks globals own position rest tasks =
    variable_tasks globals own OfModule position (selecting_left own (type_at globals position) rest ++ tasks)

-- a variable of the procedure, and selectors behind it
abbrev pub own_variable_tasks : Scope → (position : ℕ) → Selectors → List Task → List Task
own_variable_tasks own position rest tasks =
    own_tasks (word_in own position) (space_at own position) (selecting_left own (type_at own position) rest ++ tasks)

-- the operands of the first selector have 16 bits
abbrev pub IsSmallSelector : DataType → Selectors → Type 0
IsSmallSelector type no_selector = Unit {0}
IsSmallSelector type (field_of position name rest) = part_offset type position ≤ 65535
IsSmallSelector type (element_of length index rest) = (length ≤ 65535) × (words (part_type type 0) ≤ 65535)

-- whether an alternative or ELSE follows
abbrev pub is_more : Branches → Bool
is_more no_branch = false
is_more _ = true

-- the instructions that a task gives way to have operands of 16 bits
abbrev pub IsSmallTask : (globals : Scope) → Task → Type 0
IsSmallTask globals (Address own (Designated slot selectors)) = word_in (scope_of globals own slot.owner) slot.position ≤ 65535
IsSmallTask globals (Selecting own type selectors) = IsSmallSelector type selectors
IsSmallTask globals _ = Unit {0}

-- whether a task gives way to its parts
abbrev pub is_silent : Task → Bool
is_silent (Value own e) = true
is_silent (Operators own rest) = true
is_silent (Address own d) = true
is_silent (Selecting own type selectors) = true
is_silent (Handing own actuals) = true
is_silent (Doing own s) = true
is_silent (All own ss) = true
is_silent (Choosing own branches) = true
is_silent _ = false

-- whether such a task is in front
abbrev pub starts_silent : List Task → Bool
starts_silent [] = false
starts_silent (t ∷ rest) = is_silent t

-- the task in front can give way to its parts
abbrev pub FirstFits : Scope → (room : ℕ) → List Task → Type 0
FirstFits globals room [] = Unit {0}
FirstFits globals room (t ∷ rest) = (length rest + 4 ≤ room) × IsSmallTask globals t

-- at each moment of opening
abbrev pub CanBeOpened : Scope → WorkTasks → Type 0
CanBeOpened globals w = (n : ℕ) → FirstFits globals w.room (opened_by globals n w.tasks)

-- silent tasks in front have given way: opening comes to the same, over fewer nodes of the tree
pub record GivesWay (globals : Scope) (old new : WorkTasks) : Type 0 where
  pub same : opened globals new.tasks ≡ opened globals old.tasks
  pub room : new.room ≡ old.room
  pub fits : CanBeOpened globals new
  pub fewer : work_nodes new.tasks < work_nodes old.tasks
