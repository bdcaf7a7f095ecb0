-- What a module's text is compiled to, and why it can't be.
use Rattle.std.specs.Prelude.{◌≡◌, ◌≢◌, ℕ, ◌<◌, ◌≤◌, ◌⊎◌, Bool, true, false, List, length}
use Rattle.ob_carry.specs.Carried.{IsCarryFault}
use Rattle.ob_carry.specs.declared.carrying.CarryFault.{CarryFault}
use Rattle.ob_carry.specs.declared.carrying.CarryFault.TheVariants as Carry
use Rattle.ob_meaning.specs.Same.{SameState}
use Rattle.ob_check.specs.CheckedText.{IsNumberedText, IsTextFault}
use Rattle.ob_code_correct.specs.CodeMeaning.{EngineParts}
use Rattle.ob_code_correct.specs.Compiled.{parts_of}
use Rattle.ob_layout.specs.Layout.{LayoutParts, layout_of}
use Rattle.ob_code_scheme.specs.Scheme.{code_of}
use Rattle.ob_grammar.specs.Texts.{IsTextOf}
use Rattle.ob_grammar.specs.Tree
use Rattle.ob_interface.specs.Processes.{most_processes}
use Rattle.ob_mean.specs.declared.openings.OpenFault.{OpenFault}
use Rattle.ob_mean.specs.declared.openings.OpenFault.TheVariants as Open
use Rattle.ob_meaning.specs.ByNameObject as Named
use Rattle.ob_meaning.specs.ByNameObject.{most_turns}
use Rattle.ob_object_compile.specs.Asked.{Asked, Beginning, BeginsWith, ByBody, ByValues, is_carried}
use Rattle.ob_object_compile.specs.declared.compiling.CompileFault.{CompileFault}
use Rattle.ob_object_compile.specs.declared.compiling.CompileFault.TheVariants as Faults
use Rattle.ob_meaning.specs.ByPositionStore.{Activation}
use Rattle.ob_typing.specs.ModuleText.{IsModule}
use Rattle.ob_typing.specs.Program.{Program}

-- the most instructions of a code
abbrev pub most_instructions : ℕ
most_instructions = 65535

-- the turns of a call where no budget is told
abbrev pub default_budget : ℕ
default_budget = 100000

-- the code of a program is not too long
abbrev pub IsShort : Program → Type 0
IsShort program = length (code_of program).instructions ≤ most_instructions

-- an object: how many processes share it, the tree and the program of its module, its layout, the engine over its code with the
-- budget of each call, the state in which it begins, with each variable at its position, and whether that was carried over
pub record ObjectParts : Type 0 where
  pub processes : ℕ
  pub tree : Tree.Module
  pub program : Program
  pub layout : LayoutParts
  pub engine : EngineParts
  pub opening : Activation
  pub carried : Bool

-- a program begins so with a state of the module, and this has it by position
pub record Opens (beginning : Beginning) (program : Program) (opening : Activation) : Type 0 where
  pub state : Named.State
  pub opens : BeginsWith beginning program state
  pub same : SameState program state opening

-- what each fault of an opening says of the meaning of a program
abbrev pub OpeningFails : Program → OpenFault → Type 0
OpeningFails program (Open.Trap k) = Named.OpeningTraps program k
OpeningFails program Open.NoMemory = Unit {0}

-- it is to begin by the module's body, of whose opening this fault is true
abbrev pub BodyFails : Beginning → Program → OpenFault → Type 0
BodyFails ByBody program e = OpeningFails program e
BodyFails (ByValues values) program e = ⊥

-- it is to begin with values, of which this fault is true
abbrev pub ValuesFail : Beginning → Program → CarryFault → Type 0
ValuesFail ByBody program e = ⊥
ValuesFail (ByValues values) program e = IsCarryFault program.variables values e

-- ---- where an object is asked for of certain programs alone

module _ (Allowed : Program → Type 0) where
  -- the object that is asked for: 1 to 16 processes, a budget that there may be, a module that is allowed, the engine over the code of
  -- the scheme, and the state with which it begins
  pub record IsObjectOf (a : Asked) (o : ObjectParts) : Type 0 where
    pub some : 0 < a.processes
    pub few : a.processes ≤ most_processes
    pub processes : o.processes ≡ a.processes
    pub within : a.budget ≤ most_turns
    pub tree_is : IsTextOf a.text o.tree
    pub is_module : IsModule a.text o.program
    pub layout_is : o.layout ≡ layout_of o.program
    pub allowed : Allowed o.program
    pub engine_is : o.engine ≡ parts_of o.program a.budget
    pub opens : Opens a.beginning o.program o.opening
    pub carried_is : o.carried ≡ is_carried a.beginning

  abbrev pub HasNone : Asked → Type 0
  HasNone a = (o : ObjectParts) → IsObjectOf a o → ⊥

  -- the text is of a module whose code is too long for it to be allowed
  pub record HasLongCode (text : List ℕ) : Type 0 where
    pub program : Program
    pub is_module : IsModule text program
    pub long : most_instructions < length (code_of program).instructions
    pub ruled_out : Allowed program → ⊥

  -- the text is of a module that is allowed, and whose body has this fault
  pub record OpensNot (a : Asked) (fault : OpenFault) : Type 0 where
    pub program : Program
    pub is_module : IsModule a.text program
    pub allowed : Allowed program
    pub fails : BodyFails a.beginning program fault

  -- the text is of a module that is allowed, to which the values can't be carried over for this fault
  pub record CarriesNot (a : Asked) (fault : CarryFault) : Type 0 where
    pub program : Program
    pub is_module : IsModule a.text program
    pub allowed : Allowed program
    pub fails : ValuesFail a.beginning program fault

  -- what each fault says
  abbrev pub IsObjectFault : Asked → CompileFault → Type 0
  IsObjectFault a Faults.Processes = (a.processes ≡ 0) ⊎ (most_processes < a.processes)
  IsObjectFault a Faults.Budget = most_turns < a.budget
  IsObjectFault a (Faults.Text e) = IsTextFault a.text e
  IsObjectFault a Faults.TooLong = HasLongCode a.text
  IsObjectFault a (Faults.Open e) = OpensNot a e
  IsObjectFault a (Faults.Carry e) = CarriesNot a e
  IsObjectFault a Faults.NoMemory = Unit {0}

-- ---- over code, which must not be too long

abbrev pub IsCompilation : Asked → ObjectParts → Type 0
IsCompilation = IsObjectOf IsShort

abbrev pub HasNoObject : Asked → Type 0
HasNoObject = HasNone IsShort

abbrev pub IsCompileFault : Asked → CompileFault → Type 0
IsCompileFault = IsObjectFault IsShort

-- ---- over the tree, without code

-- the code of the scheme may have any length: it is not made
abbrev pub IsAny : Program → Type 0
IsAny program = Unit {0}

-- ---- faults

-- want of memory is told by its own variant alone: a fault of the text has a number
abbrev pub TellsMemoryApart : CompileFault → Type 0
TellsMemoryApart (Faults.Text e) = IsNumberedText e
TellsMemoryApart (Faults.Open e) = e ≢ Open.NoMemory
TellsMemoryApart (Faults.Carry e) = e ≢ Carry.NoMemory
TellsMemoryApart _ = Unit {0}

abbrev pub is_want_of_memory : CompileFault → Bool
is_want_of_memory Faults.NoMemory = true
is_want_of_memory _ = false

-- a fault with a number, so no want of memory
abbrev pub IsNumbered : CompileFault → Type 0
IsNumbered fault = (is_want_of_memory fault ≡ false) × TellsMemoryApart fault

-- What is said with a fault of an object that is asked for: what the fault says of it; that where the fault has a number there is no
-- such object, whatever else is wrong; and that want of memory is told by its own variant alone.
pub record IsRefusal (Allowed : Program → Type 0) (a : Asked) (fault : CompileFault) : Type 0 where
  pub says : IsObjectFault Allowed a fault
  pub none : IsNumbered fault → HasNone Allowed a
  pub memory : TellsMemoryApart fault
