-- What object is asked for: of which module, for how many processes, with which budget, and how it begins.
use Rattle.std.specs.Prelude.{◌≡◌, ℕ, ◌<◌, ◌≤◌, ◌⊎◌, Bool, true, false, List, length}
use Rattle.ob_carry.specs.Carried.{Entry, IsCarried}
use Rattle.ob_check.specs.declared.module_text.TextFault.TheVariants as Text
use Rattle.ob_interface.specs.Processes.{most_processes}
use Rattle.ob_meaning.specs.ByNameObject as Named
use Rattle.ob_meaning.specs.ByNameObject.{most_turns}
use Rattle.ob_object_compile.specs.declared.compiling.CompileFault.{CompileFault}
use Rattle.ob_object_compile.specs.declared.compiling.CompileFault.TheVariants as Faults
use Rattle.ob_scan.specs.Limits.{longest_text}
use Rattle.ob_scan.specs.declared.fault.ScanFault.TheVariants as Scan
use Rattle.ob_typing.specs.Program.{Program}

-- how an object begins: by its module's body, or with values that are carried over
pub data Beginning : Type 0 where
  ByBody : Beginning
  ByValues : (values : List Entry) → Beginning

-- the text of its module, how many processes share it, the turns of each call, and how it begins
pub record Asked : Type 0 where
  pub text : List ℕ
  pub processes : ℕ
  pub budget : ℕ
  pub beginning : Beginning

-- one that begins by its module's body
abbrev pub by_body : (text : List ℕ) (processes budget : ℕ) → Asked
by_body text processes budget = record { text = text; processes = processes; budget = budget; beginning = ByBody }

-- one that begins with values
abbrev pub by_values : (text : List ℕ) (processes budget : ℕ) → List Entry → Asked
by_values text processes budget values = record { text = text; processes = processes; budget = budget; beginning = ByValues values }

abbrev pub is_carried : Beginning → Bool
is_carried ByBody = false
is_carried (ByValues values) = true

-- a state with which an object of the program begins so: the one that the module's body leaves, or the one that is carried over
abbrev pub BeginsWith : Beginning → Program → Named.State → Type 0
BeginsWith ByBody program state = Named.IsOpening program state
BeginsWith (ByValues values) program state = IsCarried program values state

-- a text over the scanner's bound
abbrev pub too_long : CompileFault
too_long = Faults.Text (Text.Scan Scan.TooLong)

-- What is told before the text is read, in this order: that the number of processes is not 1 to 16, that the budget has more turns than
-- there may be, and that the text is over the scanner's bound, whatever it says.
pub record TellsAtOnce (a : Asked) (Tells : CompileFault → Type 0) : Type 0 where
  pub processes : (a.processes ≡ 0) ⊎ (most_processes < a.processes) → Tells Faults.Processes
  pub budget : 0 < a.processes → a.processes ≤ most_processes → most_turns < a.budget → Tells Faults.Budget
  pub long : 0 < a.processes → a.processes ≤ most_processes → a.budget ≤ most_turns → longest_text < length a.text → Tells too_long
