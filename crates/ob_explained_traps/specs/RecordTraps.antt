-- What is told of the traps of a record's calls: from the bytes of a module and of a record to the bytes that are printed.
use Rattle.std.specs.Prelude.{◌≡◌, ℕ, List, All, Contains, Option, map, option_map}
use Rattle.std.specs.List.{AllZip}
use Rattle.ob_explained.specs.Sources.{Source}
use Rattle.ob_grammar.specs.Tree
use Rattle.ob_interface.specs.Call.{ObjectCall, Reply}
use Rattle.ob_meaning.specs.ByNameObject as Named
use Rattle.ob_meaning.specs.ByNameObject.{replies_to}
use Rattle.ob_meaning.specs.ByPositionStore.{Activation}
use Rattle.ob_meaning.specs.Same.{SameState}
use Rattle.ob_object_calls.specs.Beginnings.{BeginsNamed, BeginsPlaced}
use Rattle.ob_object_calls.specs.MadeCalls.{NeverBegan}
use Rattle.ob_object_run.specs.declared.order_checker.OrderFault.{OrderFault}
use Rattle.ob_object_run.specs.declared.order_checker.OrderFault.TheVariants as Order
use Rattle.ob_text_reading.specs.RecordLines.{IsRecord, Told}
use Rattle.ob_trap_places.specs.Sequence.{sites_from}
use Rattle.ob_trap_places.specs.Site.{Site}
use Rattle.ob_trap_places.specs.TrapOfCall.{trap_of}
use Rattle.ob_typing.specs.ModuleText.{IsModule}
use Rattle.ob_typing.specs.Program.{Program}
use Rattle.ob_explained_traps.specs.NamedCalls.{OfRecord}
use Rattle.ob_explained_traps.specs.TrapLines.{or_none, traps_lines}
use Rattle.ob_explained_traps.specs.TrapPlaces.{IsPlaced}
use Rattle.wf_history.specs.History.{Event}
use Rattle.wf_history.specs.Legal.{HasBegun}
use Rattle.wf_history.specs.declared.event.CallId.{CallId}

-- what is printed of the calls of an order whose traps come from these sites
abbrev pub order_text : (object : Source) → Tree.Module → (budget : ℕ) → (order : List CallId) → (sites : List (Option Site)) → List ℕ
order_text object tree budget order sites =
    or_none (traps_lines (record { object = object; tree = tree; calls = OfRecord order; budget = budget }) sites)

module _ (history : List (Event ObjectCall Reply)) (order : List CallId) where
  -- these are the calls of the order, each as it began
  abbrev pub AreBegun : List ObjectCall → Type 0
  AreBegun calls = AllZip (HasBegun history) order calls

  -- a call of the order never began
  abbrev pub IsUnbegun : OrderFault → Type 0
  IsUnbegun (Order.Unknown id) = Contains order id × NeverBegan history id
  IsUnbegun (Order.Missing id) = ⊥
  IsUnbegun (Order.TooEarly id) = ⊥
  IsUnbegun (Order.OtherReply id) = ⊥
  IsUnbegun Order.NoMemory = Unit {0}

-- What is told of a record of this program's object, by the text of its module: the calls of its order are made one at a time, from the
-- state with which they begin, each with the record's budget.
pub record IsToldOf (object : Source) (tree : Tree.Module) (program : Program) (record_text output : List ℕ) : Type 0 where
  pub tells : Told
  pub is_record : IsRecord program record_text tells
  pub opening : Activation
  pub begins : BeginsPlaced program tells.carried opening
  pub calls : List ObjectCall
  pub begun : AreBegun tells.events tells.order calls
  pub printed : output ≡ order_text object tree tells.budget tells.order (sites_from program tells.budget opening calls)

-- The same of texts. A call is told of where the meaning replies with a trap, from the state by name with which the calls begin, and with
-- the number of that.
pub record IsRecordTrapsText (object : Source) (record_text output : List ℕ) : Type 0 where
  pub program : Program
  pub is_module : IsModule object.text program
  pub told : IsToldOf object is_module.tree program record_text output
  pub state : Named.State
  pub begins : BeginsNamed program told.tells.carried state
  pub same : SameState program state told.opening
  pub trapped :
      map (option_map (λ site. site.number)) (sites_from program told.tells.budget told.opening told.calls)
      ≡ map trap_of (replies_to program told.tells.budget state told.calls)
  pub placed : All (IsPlaced is_module.tree) (sites_from program told.tells.budget told.opening told.calls)
