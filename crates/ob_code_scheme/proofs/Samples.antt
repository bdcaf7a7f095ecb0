-- Worked programs, and runs of their code beside their meaning. Each name is written as its bytes by `codes`.
use Rattle.std.proofs.Common.{◌≡◌, ℕ, suc, ◌*◌, ◌-◌, pos, true, false, List, [], ◌∷◌, length, Option, Some, None, codes}
use Rattle.std.specs.Prelude.{slice_get}
use Rattle.std.specs.Prelude as Prelude
use Rattle.ob_interface.specs.declared.scalar.Scalar.{Scalar}
use Rattle.ob_interface.specs.declared.scalar.Scalar.TheVariants.{Int, Bool}
use Rattle.ob_interface.specs.declared.scalar.ScalarType.TheVariants.{Integer, Boolean}
use Rattle.ob_interface.specs.Call.{Answers, Trapped as TrapReply}
use Rattle.ob_typing.specs.declared.operator.BinaryOperator.{BinaryOperator}
use Rattle.ob_typing.specs.declared.operator.BinaryOperator.TheVariants.{Plus, Minus, Times, Div, Mod, And, Or}
use Rattle.ob_typing.specs.declared.operator.Relation.TheVariants.{Equal, NotEqual, Less, Greater, GreaterOrEqual}
use Rattle.ob_typing.specs.Program
use Rattle.ob_typing.specs.Program.{Name, DataType, Simple, Array, Record, no_field, field, OfModule, Own, Expression, Literal, ValueOf, Negated, Complement, Computed, Compared, Operations, no_operation, operation, Designator, Designated, Selectors, no_selector, field_of, element_of, Actual, ByValue, ByPlace, Statement, Assign, Call, If, While, Repeat, Statements, no_statement, statement, no_branch, otherwise, branch, Parameter, Variable, Procedure}
use Rattle.ob_meaning.specs.ByPositionStatements.{begun}
use Rattle.ob_meaning.specs.ByPositionStore.{Activation}
use Rattle.ob_meaning.specs.ByPositionObject.{Effect, results_begun, outside_handed, effect_of_procedure}
use Rattle.ob_code_scheme.specs.Temporaries.{stack_words}
use Rattle.ob_code_scheme.specs.Types.{variables_scope, results_scope, parameters_scope}
use Rattle.ob_code_machine.specs.Machine.{Configuration, Outcome, Unfinished, Stuck, exec}
use Rattle.ob_code_scheme.specs.Scheme.{code_of, entry_of}
use Rattle.ob_code_scheme.specs.Image.{image}
use Rattle.ob_code_scheme.specs.Correct.{beginning, end_of}

-- ---- shorthands for programs

abbrev pub integer : DataType
integer = Simple Integer

abbrev pub boolean : DataType
boolean = Simple Boolean

abbrev pub int : ℕ → Expression
int n = Literal (Int (pos n))

-- a variable of the procedure, or of the module, at a position, or a part of it
abbrev pub own : ℕ → Name → Designator
own n x = Designated (record { owner = Own; position = n; name = x }) no_selector

abbrev pub global : ℕ → Name → Designator
global n x = Designated (record { owner = OfModule; position = n; name = x }) no_selector

abbrev pub within : ℕ → Name → Selectors → Designator
within n x selectors = Designated (record { owner = OfModule; position = n; name = x }) selectors

abbrev pub own_within : ℕ → Name → Selectors → Designator
own_within n x selectors = Designated (record { owner = Own; position = n; name = x }) selectors

abbrev pub element : ℕ → Expression → Selectors
element length i = element_of length i no_selector

abbrev pub read : Designator → Expression
read d = ValueOf Integer d

abbrev pub computed : Expression → BinaryOperator → Expression → Expression
computed e o f = Computed e (operation o f no_operation)

abbrev pub all : List Statement → Statements
all [] = no_statement
all (s ∷ ss) = statement s (all ss)

abbrev pub variable : Name → DataType → Variable
variable x t = record { name = x; type = t }

abbrev pub copied : Name → Parameter
copied x = record { name = x; is_var = false; type = integer }

abbrev pub shared : Name → DataType → Parameter
shared x t = record { name = x; is_var = true; type = t }

abbrev pub procedure : Prelude.Bool → Name → List Parameter → List Variable → List Statement → Procedure
procedure e p ps vs ss = record { name = p; is_exported = e; parameters = ps; variables = vs; body = all ss }

abbrev pub program : List Variable → List Procedure → Program.Program
program vs ps = record { variables = vs; procedures = ps; body = no_statement }

abbrev pub eight : {A : Type 0} → A → List A
eight a = a ∷ a ∷ a ∷ a ∷ a ∷ a ∷ a ∷ a ∷ []

-- all variables 0 or FALSE
abbrev pub start : Program.Program → Activation
start program = begun program.variables

-- ---- runs

-- the code of a procedure, by its number, called from outside, after so many instructions
abbrev pub run_of : Program.Program → (i : ℕ) → Option Procedure → List Scalar → (budget : ℕ) → Activation → (count : ℕ) → Outcome
run_of program i None arguments budget state count = Stuck
run_of program i (Some p) arguments budget state count =
    exec (code_of program).instructions (stack_words program.procedures) count
    (beginning (entry_of program.procedures i) program.variables p.parameters state arguments budget)

abbrev pub run : Program.Program → ℕ → List Scalar → ℕ → Activation → ℕ → Outcome
run program i arguments budget state count =
    run_of program i (slice_get program.procedures i) arguments budget state count

-- what the procedure means
abbrev pub meant : Program.Program → ℕ → List Scalar → ℕ → Activation → Effect
meant program i arguments budget state =
    effect_of_procedure program (slice_get program.procedures i) arguments budget state

-- the call leaves this state, and answers these values or traps
abbrev pub answered : Activation → List Scalar → Effect
answered state values = record { state = state; reply = Answers values }

abbrev pub failed : Activation → ℕ → Effect
failed state k = record { state = state; reply = TrapReply k }

abbrev pub is_over : Outcome → Prelude.Bool
is_over (Unfinished c) = false
is_over o = true

-- whether it is over one instruction before so many, and after them
abbrev pub end_at : Program.Program → ℕ → List Scalar → ℕ → Activation → ℕ → Prelude.Bool × Prelude.Bool
end_at program i arguments budget state count =
    (is_over (run program i arguments budget state (count - 1)), is_over (run program i arguments budget state count))

-- the image where a call from outside begins, before the procedure has its variables
abbrev pub first_image : Program.Program → Procedure → ℕ → Activation → List Scalar → (budget : ℕ) → Configuration
first_image program p entry state arguments budget =
    image (record { globals = variables_scope program.variables; lower = results_scope p.parameters ∷ []; own = parameters_scope p.parameters })
    [] (state ∷ results_begun p.parameters ∷ outside_handed 0 p.parameters arguments ∷ []) budget entry []

-- the machine begins there at the image of the store
abbrev pub Begins : Program.Program → Option Procedure → List Scalar → ℕ → Activation → Type 0
Begins program None arguments budget state = ⊥
Begins program (Some p) arguments budget state =
    beginning 0 program.variables p.parameters state arguments budget ≡ first_image program p 0 state arguments budget

-- they end alike, the machine within the bound on instructions
abbrev pub Agree : Program.Program → ℕ → List Scalar → ℕ → Activation → Type 0
Agree program i arguments budget state =
    run program i arguments budget state (suc budget * length (code_of program).instructions) ≡ end_of (meant program i arguments budget state)

-- ---- programs

-- an element's field, and a variable behind
abbrev pub element_field : Program.Program
element_field =
    program
    (variable (codes "a") (Array 20 3 (Record 31 (field (codes "p") integer (field (codes "q") boolean no_field))))
    ∷ variable (codes "z") integer ∷ [])
    (procedure true (codes "P") (copied (codes "i") ∷ shared (codes "b") boolean ∷ []) []
    (Assign (own 1 (codes "b")) (ValueOf Boolean (within 0 (codes "a") (element_of 3 (read (own 0 (codes "i"))) (field_of 1 (codes "q") no_selector)))) ∷ [])
    ∷ [])

-- a procedure that calls itself
abbrev pub down : Program.Program
down =
    program []
    (procedure true (codes "Down") (copied (codes "k") ∷ []) []
    (If (branch (Compared Greater (read (own 0 (codes "k"))) (int 1))
    (all (Call 0 (ByValue (computed (read (own 0 (codes "k"))) Minus (int 1)) ∷ []) ∷ []))
    no_branch) ∷ [])
    ∷ [])

-- REPEAT
abbrev pub up : Program.Program
up =
    program (variable (codes "x") integer ∷ [])
    (procedure true (codes "Up") (copied (codes "k") ∷ []) []
    (Repeat (all (Assign (global 0 (codes "x")) (computed (read (global 0 (codes "x"))) Plus (int 1)) ∷ []))
    (Compared GreaterOrEqual (read (global 0 (codes "x"))) (read (own 0 (codes "k")))) ∷ [])
    ∷ [])

abbrev pub counter : Program.Program
counter =
    program (variable (codes "x") integer ∷ [])
    (procedure true (codes "Inc") [] [] (Assign (global 0 (codes "x")) (computed (read (global 0 (codes "x"))) Plus (int 1)) ∷ [])
    ∷ procedure true (codes "Get") (shared (codes "v") integer ∷ []) [] (Assign (own 0 (codes "v")) (read (global 0 (codes "x"))) ∷ [])
    ∷ [])

-- a loop without an end
abbrev pub forever : Program.Program
forever =
    program [] (procedure true (codes "P") [] [] (While (Literal (Bool true)) no_statement ∷ []) ∷ [])

-- places handed on, elements among them, and local variables
abbrev pub sharing : Program.Program
sharing =
    program (variable (codes "x") integer ∷ variable (codes "a") (Array 20 2 integer) ∷ [])
    (procedure false (codes "Up") (shared (codes "p") integer ∷ shared (codes "q") integer ∷ []) []
    (Assign (own 0 (codes "p")) (computed (read (own 0 (codes "p"))) Plus (int 1))
    ∷ Assign (own 1 (codes "q")) (computed (read (own 1 (codes "q"))) Plus (int 1)) ∷ [])
    ∷ procedure false (codes "Swap") (shared (codes "p") integer ∷ shared (codes "q") integer ∷ []) (variable (codes "t") integer ∷ [])
    (Assign (own 2 (codes "t")) (read (own 0 (codes "p")))
    ∷ Assign (own 0 (codes "p")) (read (own 1 (codes "q")))
    ∷ Assign (own 1 (codes "q")) (read (own 2 (codes "t"))) ∷ [])
    ∷ procedure true (codes "Go") (shared (codes "r") integer ∷ shared (codes "s") integer ∷ []) []
    (Assign (global 0 (codes "x")) (int 0)
    ∷ Call 0 (ByPlace (global 0 (codes "x")) ∷ ByPlace (global 0 (codes "x")) ∷ [])
    ∷ Assign (own 0 (codes "r")) (read (global 0 (codes "x")))
    ∷ Assign (within 1 (codes "a") (element 2 (int 0))) (int 7)
    ∷ Assign (within 1 (codes "a") (element 2 (int 1))) (int 8)
    ∷ Call 1 (ByPlace (within 1 (codes "a") (element 2 (int 0))) ∷ ByPlace (within 1 (codes "a") (element 2 (int 1))) ∷ [])
    ∷ Call 1 (ByPlace (within 1 (codes "a") (element 2 (int 0))) ∷ ByPlace (within 1 (codes "a") (element 2 (int 0))) ∷ [])
    ∷ Assign (own 1 (codes "s")) (read (within 1 (codes "a") (element 2 (int 0)))) ∷ [])
    ∷ [])

-- the quotient and the rest, in two results
abbrev pub division : Program.Program
division =
    program []
    (procedure true (codes "Q") (copied (codes "x") ∷ copied (codes "y") ∷ shared (codes "q") integer ∷ shared (codes "r") integer ∷ []) []
    (Assign (own 2 (codes "q")) (computed (read (own 0 (codes "x"))) Div (read (own 1 (codes "y"))))
    ∷ Assign (own 3 (codes "r")) (computed (read (own 0 (codes "x"))) Mod (read (own 1 (codes "y")))) ∷ [])
    ∷ [])

abbrev by_zero : Expression
by_zero = Compared Equal (computed (int 1) Div (int 0)) (int 0)

-- what decides and what doesn't
abbrev pub logic : Program.Program
logic =
    program []
    (procedure true (codes "A") (shared (codes "b") boolean ∷ []) [] (Assign (own 0 (codes "b")) (computed (Literal (Bool false)) And by_zero) ∷ [])
    ∷ procedure true (codes "B") (shared (codes "b") boolean ∷ []) [] (Assign (own 0 (codes "b")) (computed by_zero And (Literal (Bool false))) ∷ [])
    ∷ procedure true (codes "C") (shared (codes "b") boolean ∷ []) []
    (Assign (own 0 (codes "b")) (Computed (Complement (Literal (Bool true))) (operation Or (Literal (Bool true)) (operation Or by_zero no_operation))) ∷ [])
    ∷ [])

-- alternatives: with ELSE, and with an empty ELSE; a count by WHILE in a local array of records behind a record without fields
abbrev pub choosing : Program.Program
choosing =
    program []
    (procedure true (codes "Sign") (copied (codes "k") ∷ shared (codes "s") integer ∷ []) []
    (If (branch (Compared Less (read (own 0 (codes "k"))) (int 0)) (all (Assign (own 1 (codes "s")) (Negated (int 1)) ∷ []))
    (branch (Compared Equal (read (own 0 (codes "k"))) (int 0)) no_statement
    (otherwise (all (Assign (own 1 (codes "s")) (int 1) ∷ [])))))
    ∷ If (branch (Compared NotEqual (read (own 1 (codes "s"))) (int 0)) (all (Assign (own 1 (codes "s")) (computed (read (own 1 (codes "s"))) Times (int 5)) ∷ []))
    (otherwise no_statement)) ∷ [])
    ∷ procedure true (codes "Sum") (copied (codes "k") ∷ shared (codes "s") integer ∷ [])
    (variable (codes "e") (Record 9 no_field) ∷ variable (codes "a") (Array 20 3 (Record 31 (field (codes "p") integer (field (codes "q") integer no_field)))) ∷ variable (codes "i") integer ∷ [])
    (While (Compared Less (read (own 4 (codes "i"))) (read (own 0 (codes "k"))))
    (all (Assign (own_within 3 (codes "a") (element_of 3 (read (own 4 (codes "i"))) (field_of 1 (codes "q") no_selector))) (computed (read (own 4 (codes "i"))) Plus (int 10))
    ∷ Assign (own 1 (codes "s")) (computed (read (own 1 (codes "s"))) Plus (read (own_within 3 (codes "a") (element_of 3 (read (own 4 (codes "i"))) (field_of 1 (codes "q") no_selector)))))
    ∷ Assign (own 4 (codes "i")) (computed (read (own 4 (codes "i"))) Plus (int 1)) ∷ [])) ∷ [])
    ∷ [])

-- places of arrays and records handed on, elements of a VAR parameter among them; REPEAT within what a WHILE calls
abbrev pub cell : DataType
cell = Record 31 (field (codes "p") integer (field (codes "q") boolean no_field))

abbrev pub cells : DataType
cells = Array 20 2 cell

abbrev pub handing : Program.Program
handing =
    program (variable (codes "g") cells ∷ variable (codes "n") integer ∷ [])
    (procedure false (codes "Set") (shared (codes "r") cell ∷ copied (codes "k") ∷ []) []
    (Assign (own_within 0 (codes "r") (field_of 0 (codes "p") no_selector)) (computed (read (own_within 0 (codes "r") (field_of 0 (codes "p") no_selector))) Plus (read (own 1 (codes "k"))))
    ∷ Assign (own_within 0 (codes "r") (field_of 1 (codes "q") no_selector)) (Compared Greater (read (own_within 0 (codes "r") (field_of 0 (codes "p") no_selector))) (int 5)) ∷ [])
    ∷ procedure false (codes "Each") (shared (codes "a") cells ∷ shared (codes "c") integer ∷ copied (codes "k") ∷ []) (variable (codes "i") integer ∷ [])
    (Repeat
    (all (Call 0 (ByPlace (own_within 0 (codes "a") (element 2 (read (own 3 (codes "i"))))) ∷ ByValue (read (own 2 (codes "k"))) ∷ [])
    ∷ If (branch (Computed (ValueOf Boolean (own_within 0 (codes "a") (element_of 2 (read (own 3 (codes "i"))) (field_of 1 (codes "q") no_selector)))) (operation And (Compared Greater (read (own 2 (codes "k"))) (int 0)) no_operation))
    (all (Assign (own 1 (codes "c")) (computed (read (own 1 (codes "c"))) Plus (int 1)) ∷ []))
    no_branch)
    ∷ Assign (own 3 (codes "i")) (computed (read (own 3 (codes "i"))) Plus (int 1)) ∷ []))
    (Compared GreaterOrEqual (read (own 3 (codes "i"))) (int 2)) ∷ [])
    ∷ procedure true (codes "Go") (copied (codes "k") ∷ shared (codes "c") integer ∷ []) []
    (While (Computed (Complement (ValueOf Boolean (within 0 (codes "g") (element_of 2 (int 1) (field_of 1 (codes "q") no_selector))))) (operation And (Compared Less (read (global 1 (codes "n"))) (int 4)) no_operation))
    (all (Assign (global 1 (codes "n")) (computed (read (global 1 (codes "n"))) Plus (int 1))
    ∷ Call 1 (ByPlace (global 0 (codes "g")) ∷ ByPlace (own 1 (codes "c")) ∷ ByValue (read (own 0 (codes "k"))) ∷ []) ∷ [])) ∷ [])
    ∷ [])

-- 8 results, and frames of 8 words without temporaries: the stack is filled to its last word
abbrev pub filling : Program.Program
filling =
    program []
    (procedure true (codes "P") (eight (shared (codes "v") integer)) [] (Call 1 [] ∷ [])
    ∷ procedure false (codes "Q") [] (eight (variable (codes "w") integer)) (Call 1 [] ∷ [])
    ∷ [])

-- the words of the stack after so many instructions
abbrev pub height_of : Outcome → Option ℕ
height_of (Unfinished c) = Some (length c.body.stack)
height_of o = None
