-- What a module's object means, and what is found of the parts of a history of it.
use Rattle.std.specs.Prelude.{ℕ, List, Option, option_map}
use Rattle.ob_checked.specs.CheckedModule.{program_in}
use Rattle.ob_interface.specs.Call.{ObjectCall, Reply}
use Rattle.ob_object_run.specs.LegalOrder.{CallEnds}
use Rattle.ob_object_search.specs.Kept.{kept_in}
use Rattle.ob_object_search.specs.NumberedParts as Parts
use Rattle.ob_object_search.specs.Parted.{PartOrder}
use Rattle.ob_object_search.specs.declared.fault.PartsFault.{PartsFault}
use Rattle.ob_object_search.specs.declared.instance.ModuleObject.{ModuleObject}
use Rattle.ob_object_search.specs.declared.kept_states.KeptState.{KeptState}
use Rattle.ob_meaning.specs.ByPositionStore.{Activation}
use Rattle.ob_store.specs.View.{state_of}
use Rattle.wf_order.specs.Rules.{IsOutcome}
use Rattle.wf_parts.specs.Numbering.{PartView}

-- how its calls lead from state to state, and with which state it begins
abbrev pub effect_in : ModuleObject → ObjectCall → Activation → Activation → Reply → Type 0
effect_in o = CallEnds (program_in o.checked.now) o.budget

abbrev pub opening_in : ModuleObject → Activation
opening_in o = state_of o.opening.now

-- of states as they are kept, the call leads from one to the other, with this reply
abbrev pub LeadsTo : ModuleObject → ObjectCall → (before after : KeptState) → Reply → Type 0
LeadsTo o call before after reply = effect_in o call (kept_in before) (kept_in after) reply

-- this comes of the call on the state, where its reply is the one that is known, if one is
abbrev pub ComesOf : ModuleObject → ObjectCall → (before : KeptState) → (known : Option Reply) → (after : Option KeptState) → Type 0
ComesOf o call before known after = IsOutcome (effect_in o call) (kept_in before) known (option_map kept_in after)

-- each part has its order, or this is why there are none
abbrev pub AreOrdersIn : ModuleObject → (names : List ℕ) → List PartView → List PartOrder → Type 0
AreOrdersIn o = Parts.AreOrdersHere (program_in o.checked.now) o.budget (opening_in o)

abbrev pub IsFaultIn : ModuleObject → (names : List ℕ) → (most : ℕ) → List PartView → PartsFault → Type 0
IsFaultIn o = Parts.IsFaultHere (program_in o.checked.now) o.budget (opening_in o)
