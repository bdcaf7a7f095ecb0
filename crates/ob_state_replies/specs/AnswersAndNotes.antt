-- The rule on texts by which a reply is known to depend on the state alone: a body is a list of assignments to whole variables.
-- First some answers, each of a literal or of a variable of the module to a VAR parameter, and then some notes, each of a literal
-- or of any variable to a variable of the module. What an answer reads no note has written yet, so it is of the state.
use Rattle.std.specs.Prelude.{◌≡◌, ◌⊎◌, Bool, true, false, List, map, slice_get, Some}
use Rattle.ob_typing.specs.Program as Program
use Rattle.ob_typing.specs.Program.{OfModule, Own, no_selector, Designator, Designated, Expression, Literal, ValueOf, Statement, Assign, Statements, no_statement, statement}
use Rattle.ob_checked.specs.declared.program.Parameter.{Parameter}
use Rattle.ob_checked.specs.declared.program.Procedure.{Procedure}
use Rattle.ob_checked.specs.View.{statements_in}

-- a variable, and no part of one
abbrev pub IsWhole : Designator → Type 0
IsWhole (Designated slot selectors) = selectors ≡ no_selector

-- a variable of the module, and no part of one
abbrev pub IsOfModule : Designator → Type 0
IsOfModule (Designated slot selectors) = (slot.owner ≡ OfModule) × (selectors ≡ no_selector)

-- a VAR parameter, where each parameter is one or not
abbrev pub IsResult : List Bool → Designator → Type 0
IsResult modes (Designated slot selectors) = (slot.owner ≡ Own) × (slice_get modes slot.position ≡ Some true) × (selectors ≡ no_selector)

-- a literal, or the value of such a variable
abbrev pub IsPlain : (Designator → Type 0) → Expression → Type 0
IsPlain Fits (Literal value) = Unit {0}
IsPlain Fits (ValueOf type variable) = Fits variable
IsPlain Fits _ = ⊥

-- an assignment to such a variable, of such a value
abbrev pub Assigns : (Designator → Type 0) → (Expression → Type 0) → Statement → Type 0
Assigns Fits Is (Assign target expression) = Fits target × Is expression
Assigns Fits Is _ = ⊥

abbrev pub IsAnswer : List Bool → Statement → Type 0
IsAnswer modes = Assigns (IsResult modes) (IsPlain IsOfModule)

abbrev pub IsNote : Statement → Type 0
IsNote = Assigns IsOfModule (IsPlain IsWhole)

-- answers, as long as they may come, and then notes
abbrev pub AnswersThenNotes : List Bool → (may_answer : Bool) → Statements → Type 0
AnswersThenNotes modes may_answer no_statement = Unit {0}
AnswersThenNotes modes may_answer (statement first rest) =
    ((may_answer ≡ true) × IsAnswer modes first × AnswersThenNotes modes true rest) ⊎ (IsNote first × AnswersThenNotes modes false rest)

-- the body of a procedure keeps the rule
abbrev pub KeepsTheRule : Program.Procedure → Type 0
KeepsTheRule p = AnswersThenNotes (map (λ q. q.is_var) p.parameters) true p.body

abbrev pub modes_of : List Parameter → List Bool
modes_of = map (λ q. q.is_var)

-- the same of a procedure of the checked tree
abbrev pub Keeps : Procedure → Type 0
Keeps p = AnswersThenNotes (modes_of p.parameters.items) true (statements_in p.body.items)

-- where it is told of a procedure, it keeps the rule
abbrev pub KeepsIf : Procedure → Bool → Type 0
KeepsIf p told = told ≡ true → Keeps p
