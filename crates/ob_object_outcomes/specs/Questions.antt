-- What is asked of a state, by an export of the module.
use Rattle.std.specs.Prelude.{◌≡◌, ℕ, true, List, [], ◌∷◌, length, ◌≤◌, Some}
use Rattle.ob_interface.specs.Call as Calls
use Rattle.ob_interface.specs.Call.{ObjectCall, Reply}
use Rattle.ob_interface.specs.Export.{Signature}
use Rattle.ob_interface.specs.declared.scalar.Scalar.TheVariants.{Bool as Truth}
use Rattle.ob_interface.specs.declared.scalar.ScalarType.TheVariants.{Boolean}
use Rattle.ob_text_words.specs.ExportNames.{export_named}
use Rattle.ob_text_words.specs.Words.{Word}
use Rattle.wf_history.specs.declared.event.CallId.{CallId}
use Rattle.wf_outcomes.specs.Merges.{Configuration, Leads, start}
use Rattle.wf_outcomes.specs.Outcomes.{Answers}

-- the export of this name has this number; it has no value parameter, and one VAR parameter, a BOOLEAN
pub record IsQuestion (signatures : List Signature) (name : Word) (number : ℕ) : Type 0 where
  pub signature : Signature
  pub named : export_named signatures name ≡ Some (number, signature)
  pub formals : signature.formals ≡ record { is_var = true; scalar_type = Boolean } ∷ []

abbrev pub question_call : (number : ℕ) → ObjectCall
question_call number = record { export = number; arguments = [] }

-- the reply to a question that the state passes
abbrev pub yes : Reply
yes = Calls.Answers (Truth true ∷ [])

-- the question, asked of the state, is answered by TRUE
abbrev pub Holds : {State : Type 0} → (ObjectCall → State → State → Reply → Type 0) → (number : ℕ) → State → Type 0
Holds {State} Effect number state = Answers Effect (question_call number) yes state

-- the calls lead to where the property fails, and no fewer calls do
pub record FailsFirst {State Call Reply : Type 0} (Effect : Call → State → State → Reply → Type 0) (scripts : List (List Call)) (opening : State) (IsGood : State → Type 0) (path : List CallId) : Type 0 where
  pub here : Configuration State
  pub leads : Leads Effect scripts (start Effect scripts opening) path here
  pub fails : ¬ IsGood here.state
  pub shortest : (ids : List CallId) (other : Configuration State) → Leads Effect scripts (start Effect scripts opening) ids other → ¬ IsGood other.state → length path ≤ length ids
