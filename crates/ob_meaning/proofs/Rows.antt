-- Worked programs, by computation. Each name is written as its bytes by `codes`.
use Rattle.std.proofs.Common.{◌≡◌, refl, ℕ, ℤ, pos, negsuc, true, false, List, [], ◌∷◌, codes}
use Rattle.std.specs.Prelude as Prelude
use Rattle.ob_interface.specs.declared.scalar.Scalar.{Scalar}
use Rattle.ob_interface.specs.declared.scalar.Scalar.TheVariants.{Int, Bool}
use Rattle.ob_interface.specs.declared.scalar.ScalarType.TheVariants.{Integer, Boolean}
use Rattle.ob_typing.specs.declared.operator.BinaryOperator.{BinaryOperator}
use Rattle.ob_typing.specs.declared.operator.BinaryOperator.TheVariants.{Plus, Minus, Div, Mod, And}
use Rattle.ob_typing.specs.declared.operator.Relation.TheVariants.{Equal, Less, Greater}
use Rattle.ob_typing.specs.Program
use Rattle.ob_typing.specs.Program.{Name, DataType, Simple, Array, OfModule, Own, Expression, Literal, ValueOf, Negated, Computed, Compared, no_operation, operation, Designator, Designated, no_selector, element_of, Actual, ByValue, ByPlace, Statement, Assign, Call, If, While, Repeat, Statements, no_statement, statement, no_branch, branch, Parameter, Variable, Procedure}
use Rattle.ob_meaning.specs.ByNameValue.{Single, Elements, no_value, value}
use Rattle.ob_meaning.specs.ByNameStore.{Holds}
use Rattle.ob_meaning.specs.ByNameStatements.{Done, Trap, begun}
use Rattle.ob_interface.specs.Call.{ObjectCall, Reply, Answers, Trapped}
use Rattle.ob_meaning.specs.ByNameObject.{State, Effect, effect, most_turns, opening, replies_to, state_behind}

-- Shorthands for programs.

abbrev integer : DataType
integer = Simple Integer

abbrev boolean : DataType
boolean = Simple Boolean

abbrev int : ℤ → Expression
int z = Literal (Int z)

-- a variable of the procedure, or of the module, at a position
abbrev own : ℕ → Name → Designator
own n x = Designated (record { owner = Own; position = n; name = x }) no_selector

abbrev global : ℕ → Name → Designator
global n x = Designated (record { owner = OfModule; position = n; name = x }) no_selector

abbrev element : ℕ → Name → ℕ → Expression → Designator
element n a length i = Designated (record { owner = OfModule; position = n; name = a }) (element_of length i no_selector)

abbrev read : Designator → Expression
read d = ValueOf Integer d

abbrev computed : Expression → BinaryOperator → Expression → Expression
computed e o f = Computed e (operation o f no_operation)

abbrev all : List Statement → Statements
all [] = no_statement
all (s ∷ ss) = statement s (all ss)

abbrev variable : Name → DataType → Variable
variable x t = record { name = x; type = t }

abbrev copied : Name → Parameter
copied x = record { name = x; is_var = false; type = integer }

abbrev shared : Name → DataType → Parameter
shared x t = record { name = x; is_var = true; type = t }

abbrev procedure : Prelude.Bool → Name → List Parameter → List Variable → List Statement → Procedure
procedure e p ps vs ss = record { name = p; is_exported = e; parameters = ps; variables = vs; body = all ss }

abbrev call : ℕ → List Scalar → ObjectCall
call n vs = record { export = n; arguments = vs }

abbrev ends : State → Reply → Effect
ends state reply = record { state = state; reply = reply }

abbrev replies : Program.Program → State → List ObjectCall → List Reply
replies program = replies_to program most_turns

abbrev start : Program.Program → State
start program = begun program.variables

-- Counter: two increments and a reading.

abbrev counter : Program.Program
counter = record {
  variables = variable (codes "x") integer ∷ [];
  procedures =
      procedure true (codes "Inc") [] [] (Assign (global 0 (codes "x")) (computed (read (global 0 (codes "x"))) Plus (int (pos 1))) ∷ [])
      ∷ procedure true (codes "Get") (shared (codes "v") integer ∷ []) [] (Assign (own 0 (codes "v")) (read (global 0 (codes "x"))) ∷ [])
      ∷ [];
  body = no_statement;
}

abbrev counter_state : ℤ → State
counter_state z = record { name = codes "x"; held = Holds (Single (Int z)) } ∷ []

row_counter : replies counter (counter_state (pos 0)) (call 0 [] ∷ call 0 [] ∷ call 1 [] ∷ []) ≡ Answers [] ∷ Answers [] ∷ Answers (Int (pos 2) ∷ []) ∷ []
row_counter = refl

row_counter_behind : state_behind counter most_turns (counter_state (pos 0)) (call 0 [] ∷ call 0 [] ∷ call 1 [] ∷ []) ≡ counter_state (pos 2)
row_counter_behind = refl

-- DIV and MOD: the remainder is never negative, a divisor of 0 is trap 3, and a sign applies to the whole first term.

abbrev division : Program.Program
division = record {
  variables = [];
  procedures =
      procedure true (codes "Q") (copied (codes "x") ∷ copied (codes "y") ∷ shared (codes "q") integer ∷ shared (codes "r") integer ∷ []) []
      (Assign (own 2 (codes "q")) (computed (read (own 0 (codes "x"))) Div (read (own 1 (codes "y"))))
      ∷ Assign (own 3 (codes "r")) (computed (read (own 0 (codes "x"))) Mod (read (own 1 (codes "y")))) ∷ [])
      ∷ procedure true (codes "Lit") (shared (codes "a") integer ∷ shared (codes "b") integer ∷ shared (codes "c") integer ∷ []) []
      (Assign (own 0 (codes "a")) (Negated (computed (int (pos 7)) Div (int (pos 2))))
      ∷ Assign (own 1 (codes "b")) (computed (Negated (int (pos 7))) Div (int (pos 2)))
      ∷ Assign (own 2 (codes "c")) (computed (computed (Negated (int (pos 2147483647))) Minus (int (pos 1))) Div (int (pos 1))) ∷ [])
      ∷ [];
  body = no_statement;
}

row_division : replies division [] (call 0 (Int (negsuc 6) ∷ Int (pos 2) ∷ []) ∷ call 0 (Int (negsuc 2147483647) ∷ Int (pos 1) ∷ []) ∷ call 0 (Int (pos 7) ∷ Int (pos 0) ∷ []) ∷ call 1 [] ∷ []) ≡ Answers (Int (negsuc 3) ∷ Int (pos 1) ∷ []) ∷ Answers (Int (negsuc 2147483647) ∷ Int (pos 0) ∷ []) ∷ Trapped 3 ∷ Answers (Int (negsuc 2) ∷ Int (negsuc 3) ∷ Int (negsuc 2147483647) ∷ []) ∷ []
row_division = refl

-- A call that traps leaves the module's variables as before it; the opening runs the body.

abbrev upper : Program.Program
upper = record {
  variables = variable (codes "x") integer ∷ variable (codes "y") integer ∷ [];
  procedures =
      procedure true (codes "Bad") [] []
      (Assign (global 1 (codes "y")) (int (pos 5))
      ∷ Assign (global 0 (codes "x")) (computed (read (global 0 (codes "x"))) Plus (int (pos 1))) ∷ [])
      ∷ procedure true (codes "See") (shared (codes "a") integer ∷ shared (codes "b") integer ∷ []) []
      (Assign (own 0 (codes "a")) (read (global 0 (codes "x"))) ∷ Assign (own 1 (codes "b")) (read (global 1 (codes "y"))) ∷ [])
      ∷ [];
  body = all (Assign (global 0 (codes "x")) (int (pos 2147483647)) ∷ []);
}

abbrev upper_state : State
upper_state = record { name = codes "x"; held = Holds (Single (Int (pos 2147483647))) } ∷ record { name = codes "y"; held = Holds (Single (Int (pos 0))) } ∷ []

row_opening : opening upper most_turns ≡ Done most_turns (upper_state ∷ [])
row_opening = refl

row_trap : replies upper upper_state (call 0 [] ∷ call 1 [] ∷ []) ≡ Trapped 1 ∷ Answers (Int (pos 2147483647) ∷ Int (pos 0) ∷ []) ∷ []
row_trap = refl

row_trap_behind : state_behind upper most_turns upper_state (call 0 [] ∷ call 1 [] ∷ []) ≡ upper_state
row_trap_behind = refl

-- The right side of & is evaluated only where the left doesn't decide.

abbrev division_by_zero : Expression
division_by_zero = Compared Equal (computed (int (pos 1)) Div (int (pos 0))) (int (pos 0))

abbrev logic : Program.Program
logic = record {
  variables = [];
  procedures =
      procedure true (codes "A") (shared (codes "b") boolean ∷ []) [] (Assign (own 0 (codes "b")) (computed (Literal (Bool false)) And division_by_zero) ∷ [])
      ∷ procedure true (codes "B") (shared (codes "b") boolean ∷ []) [] (Assign (own 0 (codes "b")) (computed division_by_zero And (Literal (Bool false))) ∷ [])
      ∷ [];
  body = no_statement;
}

row_logic : replies logic [] (call 0 [] ∷ call 1 [] ∷ []) ≡ Answers (Bool false ∷ []) ∷ Trapped 3 ∷ []
row_logic = refl

-- VAR parameters are the caller's places, also where two of them are one, or elements of an array.

abbrev sharing : Program.Program
sharing = record {
  variables = variable (codes "x") integer ∷ variable (codes "a") (Array 20 2 integer) ∷ [];
  procedures =
      procedure false (codes "Up") (shared (codes "p") integer ∷ shared (codes "q") integer ∷ []) []
      (Assign (own 0 (codes "p")) (computed (read (own 0 (codes "p"))) Plus (int (pos 1)))
      ∷ Assign (own 1 (codes "q")) (computed (read (own 1 (codes "q"))) Plus (int (pos 1))) ∷ [])
      ∷ procedure false (codes "Swap") (shared (codes "p") integer ∷ shared (codes "q") integer ∷ []) (variable (codes "t") integer ∷ [])
      (Assign (own 2 (codes "t")) (read (own 0 (codes "p")))
      ∷ Assign (own 0 (codes "p")) (read (own 1 (codes "q")))
      ∷ Assign (own 1 (codes "q")) (read (own 2 (codes "t"))) ∷ [])
      ∷ procedure true (codes "Go") (shared (codes "r") integer ∷ shared (codes "s") integer ∷ []) []
      (Assign (global 0 (codes "x")) (int (pos 0))
      ∷ Call 0 (ByPlace (global 0 (codes "x")) ∷ ByPlace (global 0 (codes "x")) ∷ [])
      ∷ Assign (own 0 (codes "r")) (read (global 0 (codes "x")))
      ∷ Assign (element 1 (codes "a") 2 (int (pos 0))) (int (pos 7))
      ∷ Assign (element 1 (codes "a") 2 (int (pos 1))) (int (pos 8))
      ∷ Call 1 (ByPlace (element 1 (codes "a") 2 (int (pos 0))) ∷ ByPlace (element 1 (codes "a") 2 (int (pos 1))) ∷ [])
      ∷ Call 1 (ByPlace (element 1 (codes "a") 2 (int (pos 0))) ∷ ByPlace (element 1 (codes "a") 2 (int (pos 0))) ∷ [])
      ∷ Assign (own 1 (codes "s")) (read (element 1 (codes "a") 2 (int (pos 0)))) ∷ [])
      ∷ [];
  body = no_statement;
}

row_sharing : replies sharing (start sharing) (call 0 [] ∷ []) ≡ Answers (Int (pos 2) ∷ Int (pos 8) ∷ []) ∷ []
row_sharing = refl

-- 64 activations may be active, and the 65th is trap 4.

abbrev down : Program.Program
down = record {
  variables = [];
  procedures =
      procedure true (codes "Down") (copied (codes "k") ∷ []) []
      (If (branch (Compared Greater (read (own 0 (codes "k"))) (int (pos 1)))
      (all (Call 0 (ByValue (computed (read (own 0 (codes "k"))) Minus (int (pos 1))) ∷ []) ∷ []))
      no_branch) ∷ [])
      ∷ [];
  body = no_statement;
}

row_depth : replies down [] (call 0 (Int (pos 64) ∷ []) ∷ call 0 (Int (pos 65) ∷ []) ∷ []) ≡ Answers [] ∷ Trapped 4 ∷ []
row_depth = refl

-- 63 turns suffice for 64 activations, since the call from outside takes none; with 62 it is trap 5. Trap 4 is found before a want
-- of turns.

row_turns_suffice : effect down (call 0 (Int (pos 64) ∷ [])) 63 [] ≡ ends [] (Answers [])
row_turns_suffice = refl

row_turns_lack : effect down (call 0 (Int (pos 64) ∷ [])) 62 [] ≡ ends [] (Trapped 5)
row_turns_lack = refl

row_trap_first : effect down (call 0 (Int (pos 65) ∷ [])) 63 [] ≡ ends [] (Trapped 4)
row_trap_first = refl

row_no_turn : effect down (call 0 (Int (pos 1) ∷ [])) 0 [] ≡ ends [] (Answers [])
row_no_turn = refl

row_no_turn_for_a_call : effect down (call 0 (Int (pos 2) ∷ [])) 0 [] ≡ ends [] (Trapped 5)
row_no_turn_for_a_call = refl

-- Loops. `Count` is WHILE x < 3, and `Again` REPEAT until x > 2; both count x up. `Spin` and `Turn` never end by themselves, and the
-- condition of `Fault` traps.

abbrev count_up : Statements
count_up = all (Assign (global 0 (codes "x")) (computed (read (global 0 (codes "x"))) Plus (int (pos 1))) ∷ [])

abbrev loops : Program.Program
loops = record {
  variables = variable (codes "x") integer ∷ [];
  procedures =
      procedure true (codes "Count") [] [] (While (Compared Less (read (global 0 (codes "x"))) (int (pos 3))) count_up ∷ [])
      ∷ procedure true (codes "Spin") [] [] (While (Literal (Bool true)) no_statement ∷ [])
      ∷ procedure true (codes "Again") [] [] (Repeat count_up (Compared Greater (read (global 0 (codes "x"))) (int (pos 2))) ∷ [])
      ∷ procedure true (codes "Turn") [] [] (Repeat count_up (Literal (Bool false)) ∷ [])
      ∷ procedure true (codes "Fault") [] [] (Repeat count_up division_by_zero ∷ [])
      ∷ [];
  body = all (Call 2 [] ∷ []);
}

-- A WHILE that counts to 3 takes three turns, and none where its condition does not hold.

row_while_lacks : effect loops (call 0 []) 2 (counter_state (pos 0)) ≡ ends (counter_state (pos 0)) (Trapped 5)
row_while_lacks = refl

row_while_done : effect loops (call 0 []) 3 (counter_state (pos 0)) ≡ ends (counter_state (pos 3)) (Answers [])
row_while_done = refl

row_while_takes_none : effect loops (call 0 []) 0 (counter_state (pos 3)) ≡ ends (counter_state (pos 3)) (Answers [])
row_while_takes_none = refl

row_while_never : effect loops (call 1 []) 1000 (counter_state (pos 0)) ≡ ends (counter_state (pos 0)) (Trapped 5)
row_while_never = refl

-- A REPEAT ends where its condition is TRUE, behind its statements, which run once at least: a turn each time.

row_repeat_lacks : effect loops (call 2 []) 2 (counter_state (pos 0)) ≡ ends (counter_state (pos 0)) (Trapped 5)
row_repeat_lacks = refl

row_repeat_done : effect loops (call 2 []) 3 (counter_state (pos 0)) ≡ ends (counter_state (pos 3)) (Answers [])
row_repeat_done = refl

row_repeat_once : effect loops (call 2 []) 1 (counter_state (pos 7)) ≡ ends (counter_state (pos 8)) (Answers [])
row_repeat_once = refl

row_repeat_no_turn : effect loops (call 2 []) 0 (counter_state (pos 7)) ≡ ends (counter_state (pos 7)) (Trapped 5)
row_repeat_no_turn = refl

row_repeat_never : effect loops (call 3 []) 1000 (counter_state (pos 0)) ≡ ends (counter_state (pos 0)) (Trapped 5)
row_repeat_never = refl

row_repeat_traps : effect loops (call 4 []) 1 (counter_state (pos 0)) ≡ ends (counter_state (pos 0)) (Trapped 3)
row_repeat_traps = refl

row_repeat_no_turn_first : effect loops (call 4 []) 0 (counter_state (pos 0)) ≡ ends (counter_state (pos 0)) (Trapped 5)
row_repeat_no_turn_first = refl

-- The opening of `loops` takes a turn for its call and three for the loop.

row_opening_turns : opening loops 10 ≡ Done 6 (counter_state (pos 3) ∷ [])
row_opening_turns = refl

row_opening_lacks : opening loops 3 ≡ Trap 5
row_opening_lacks = refl

-- An index below 0 or not below the length is trap 2; the calls that trap leave the array as it was.

abbrev array : Program.Program
array = record {
  variables = variable (codes "a") (Array 20 3 integer) ∷ [];
  procedures =
      procedure true (codes "Put") (copied (codes "i") ∷ copied (codes "v") ∷ []) []
      (Assign (element 0 (codes "a") 3 (read (own 0 (codes "i")))) (read (own 1 (codes "v"))) ∷ [])
      ∷ [];
  body = no_statement;
}

abbrev array_state : State
array_state = record { name = codes "a"; held = Holds (Elements (value (Single (Int (pos 0))) (value (Single (Int (pos 0))) (value (Single (Int (pos 9))) no_value)))) } ∷ []

abbrev array_calls : List ObjectCall
array_calls = call 0 (Int (pos 2) ∷ Int (pos 9) ∷ []) ∷ call 0 (Int (pos 3) ∷ Int (pos 9) ∷ []) ∷ call 0 (Int (negsuc 0) ∷ Int (pos 9) ∷ []) ∷ []

row_array : replies array (start array) array_calls ≡ Answers [] ∷ Trapped 2 ∷ Trapped 2 ∷ []
row_array = refl

row_array_behind : state_behind array most_turns (start array) array_calls ≡ array_state
row_array_behind = refl
