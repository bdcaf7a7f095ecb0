-- Records whose text tells what they hold.
use Rattle.std.specs.Prelude.{◌≡◌, ℕ, ◌-◌, ◌<◌, ◌≤◌, ◌^◌, List, ◌∷◌, ◌++◌, All, slice_get, Option, Some, None}
use Rattle.ob_checked.specs.Exports.{signatures}
use Rattle.ob_code_correct.specs.Named.{CallMeans}
use Rattle.ob_code_scheme.specs.Correct.{IsInRange, values_of}
use Rattle.ob_code_scheme.specs.Types.{IsStateOf}
use Rattle.ob_grammar.specs.Texts.{HasText}
use Rattle.ob_grammar.specs.Tree.{Module}
use Rattle.ob_interface.specs.Call.{ObjectCall, Reply, Answers, Trapped}
use Rattle.ob_interface.specs.Export.{CallFits, ReplyFits, Signature}
use Rattle.ob_interface.specs.Processes.{most_processes}
use Rattle.ob_meaning.specs.ByNameObject.{State, most_turns}
use Rattle.ob_text_record.specs.Record.{Record}
use Rattle.ob_object_calls.specs.Beginnings.{BeginsNamed}
use Rattle.ob_object_calls.specs.RunRecords.{without_applied}
use Rattle.ob_object_calls.specs.Verified.{IsVerified}
use Rattle.ob_meaning.specs.ByPositionStore.{Activation}
use Rattle.ob_text_record.specs.RecordText.{record_text}
use Rattle.ob_text_reading.specs.RecordLines.{IsRecord, Told}
use Rattle.ob_typing.specs.Arithmetic.{no_turn_left}
use Rattle.ob_typing.specs.Declarations.{WellTyped}
use Rattle.ob_typing.specs.ModuleText.{IsModule}
use Rattle.ob_typing.specs.Program.{Program}
use Rattle.wf_history.specs.declared.event.CallId.{CallId}
use Rattle.wf_history.specs.History.{Event, Begin, Applied, End, IsHistory, own_calls}
use Rattle.wf_history.specs.Legal.{IsLegal}
use Rattle.wf_table.specs.declared.schedule.Turns.{Turns}

-- a process below the number of processes, and a number below 2^64
pub record IsNamed (processes : ℕ) (id : CallId) : Type 0 where
  pub below : id.process < processes
  pub small : id.number < 2 ^ 64

pub record IsCounted (turns : Turns) : Type 0 where
  pub process : turns.process < 2 ^ 64
  pub count : turns.count < 2 ^ 64

-- a trap has one of the numbers of traps
abbrev pub HasTrapNumber : Reply → Type 0
HasTrapNumber (Answers values) = Unit {0}
HasTrapNumber (Trapped k) = (1 ≤ k) × (k ≤ no_turn_left)

-- the program of the module
module _ (program : Program) where
  -- a call of an export, with a value for each value parameter, of its type and in its range
  pub record FitsExport (call : ObjectCall) : Type 0 where
    pub fits : CallFits (signatures program) call
    pub ranged : All IsInRange call.arguments

  -- a reply to a call of the export of a number: a value for each VAR parameter, of its type and in its range, or a trap
  pub record IsReplyOf (export : ℕ) (reply : Reply) : Type 0 where
    pub signature : Signature
    pub here : slice_get (signatures program) export ≡ Some signature
    pub fits : ReplyFits signature.formals reply
    pub ranged : All IsInRange (values_of reply)
    pub trap : HasTrapNumber reply

  -- a reply, behind these events, that fits the call of its name
  abbrev pub RepliesTo : List (Event ObjectCall Reply) → CallId → Reply → Type 0
  RepliesTo before id reply = (call : ObjectCall) → slice_get (own_calls id.process before) (id.number - 1) ≡ Some call → IsReplyOf call.export reply

  -- an event behind others
  abbrev pub IsWritableEvent : ℕ → List (Event ObjectCall Reply) → Event ObjectCall Reply → Type 0
  IsWritableEvent processes before (Begin id call) = IsNamed processes id × FitsExport call
  IsWritableEvent processes before (Applied ids) = All (IsNamed processes) ids
  IsWritableEvent processes before (End id reply) = IsNamed processes id × RepliesTo before id reply

  -- where values were carried over, each variable has one of its type
  abbrev pub AreCarried : Option Activation → Type 0
  AreCarried None = Unit {0}
  AreCarried (Some held) = IsStateOf program.variables held

  -- a record that fits the module: there are 1 to 16 processes, and the budget is one that a call may have; the events of each process
  -- take turns, calls and replies fit the exports, and each variable has a value of its type, as it has among the values carried over
  pub record IsWritable (r : Record) : Type 0 where
    pub least : 1 ≤ r.processes
    pub most : r.processes ≤ most_processes
    pub budget : r.budget ≤ most_turns
    pub carried : AreCarried r.carried
    pub whole : IsHistory r.history
    pub events : (before behind : List (Event ObjectCall Reply)) (e : Event ObjectCall Reply) → r.history ≡ before ++ e ∷ behind →
        IsWritableEvent r.processes before e
    pub order : All (IsNamed r.processes) r.order
    pub schedule : All IsCounted r.schedule
    pub variables : IsStateOf program.variables r.state

-- what the text of a record tells
abbrev pub told_by : Record → Told
told_by r = record { processes = r.processes; budget = r.budget; carried = r.carried; events = without_applied r.history; order = r.order }

-- the text of the record is a record of the module, which tells what was written
abbrev pub IsReadBack : Program → Record → Type 0
IsReadBack program r = IsRecord program (record_text program r) (told_by r)

-- so it is with each writable record of a program that a module with a text is well typed as
abbrev pub WellTypedIsRead : Type 0
WellTypedIsRead = (m : Module) (program : Program) (r : Record) → HasText m → WellTyped m program → IsWritable program r → IsReadBack program r

-- and of the program that a text stands for
abbrev pub ModulesAreRead : Type 0
ModulesAreRead = (text : List ℕ) (program : Program) (r : Record) → IsModule text program → IsWritable program r → IsReadBack program r

-- and where its order is a legal order of its history, from the state with which its calls begin and with its budget, the text is
-- verified
abbrev pub LegalIsVerified : Type 0
LegalIsVerified =
    (module_text : List ℕ) (program : Program) (opening last : State) (r : Record) → IsModule module_text program → BeginsNamed program r.carried opening →
    IsWritable program r → IsLegal (CallMeans program r.budget) opening r.history r.order last → IsVerified module_text (record_text program r)
