-- Records that are verified: from the bytes of a module and of a record.
use Rattle.std.specs.Prelude.{ℕ, List, Option}
use Rattle.ob_code_correct.specs.Named.{CallMeans}
use Rattle.ob_interface.specs.Call.{ObjectCall, Reply}
use Rattle.ob_object_calls.specs.Beginnings.{BeginsNamed}
use Rattle.ob_meaning.specs.ByPositionStore.{Activation}
use Rattle.ob_text_reading.specs.RecordLines.{IsRecord, Told}
use Rattle.ob_typing.specs.ModuleText.{IsModule}
use Rattle.ob_typing.specs.Program.{Program}
use Rattle.wf_history.specs.Legal.{IsLegal}

-- with which state the calls of a record begin, by the values that were carried over, and how calls with a budget lead from state to state
module _ {State : Type 0} (Begins : Program → Option Activation → State → Type 0) (Ends : Program → (budget : ℕ) → ObjectCall → State → State → Reply → Type 0) where
  -- the text is a record of the program's object, and there is a state with which its calls begin; from there the record's order is a
  -- legal order of its history, where each call has the record's budget
  pub record IsLegalRecord (program : Program) (text : List ℕ) : Type 0 where
    pub tells : Told
    pub is_record : IsRecord program text tells
    pub opening : State
    pub begins : Begins program tells.carried opening
    pub last : State
    pub legal : IsLegal (Ends program tells.budget) opening tells.events tells.order last

-- one text is a module, and the other one is such a record of its object, by what the module's body and its calls mean
pub record IsVerified (module_text record_text : List ℕ) : Type 0 where
  pub program : Program
  pub is_module : IsModule module_text program
  pub is_legal : IsLegalRecord BeginsNamed CallMeans program record_text
