-- Small modules, each with its text: as what it is well typed, or which rule it breaks first.
use Rattle.std.specs.Prelude as Prelude
use Rattle.std.proofs.Common.{ℕ, pos, true, false, List, [], ◌∷◌, Option, Some, None, codes}
use Rattle.ob_grammar.specs.declared.tree.Operator.TheVariants as Written
use Rattle.ob_grammar.specs.Tree
use Rattle.ob_typing.specs.declared.rule.Rule.TheVariants.{UnknownName, DeclaredTwice, WrongKind, TypesDiffer, BadConstant, BadLength, BadActuals, WrongLevel, PassesLimit, BadExport}
use Rattle.ob_interface.specs.declared.scalar.Scalar.TheVariants.{Int, Bool}
use Rattle.ob_interface.specs.declared.scalar.ScalarType.TheVariants.{Integer, Boolean}
use Rattle.ob_typing.specs.declared.operator.BinaryOperator.TheVariants.{Plus, Div, And}
use Rattle.ob_typing.specs.declared.operator.Relation.TheVariants.{Less, Greater}
use Rattle.ob_typing.specs.Program
use Rattle.ob_typing.specs.Program.{DataType, Simple, Array, Record, field, no_field, Own, OfModule, Designator, Designated, Expression, Literal, ValueOf, Complement, Computed, Compared, no_operation, operation, ByValue, ByPlace}
use Rattle.ob_typing.specs.ExpressionFaults.{broken}
use Rattle.ob_typing.specs.Declarations.{WellTyped}
use Rattle.ob_typing.specs.DeclarationFaults.{Breaks}
use Rattle.ob_typing.proofs.ToldModules.{module_told}

-- Shorthands for trees.

abbrev named : List ℕ → ℕ → Tree.Name
named text place = record { text = text; place = place }

abbrev use' : List ℕ → ℕ → Tree.Expr
use' text place = Tree.Named (named text place) Tree.no_selector

abbrev number : ℕ → ℕ → Tree.Expr
number n place = Tree.Number (pos n) place

abbrev type' : List ℕ → ℕ → Tree.TypeExpr
type' text place = Tree.NamedType (named text place)

abbrev part : {A : Type 0} → ℕ → List A → Option (Tree.DeclarationPart A)
part place xs = Some (record { place = place; declared = xs })

abbrev variable : List ℕ → ℕ → Tree.TypeExpr → Tree.VarDecl
variable text place t = record { names = named text place ∷ []; of_type = t }

abbrev constant : List ℕ → ℕ → Tree.Expr → Tree.ConstDecl
constant text place e = record { name = named text place; value = e }

abbrev assignment : List ℕ → ℕ → Tree.Expr → Tree.Stmt
assignment text place e = Tree.Assign (named text place) Tree.no_selector e

abbrev one : Tree.Stmt → Option Tree.Stmts
one s = Some (Tree.stmt s Tree.no_stmt)

abbrev module' : Tree.Declarations → Option Tree.Stmts → Tree.Module
module' declarations body = record { name = named (codes "M") 7; declarations = declarations; body = body; end_name = named (codes "M") 0 }

abbrev of_constants : List Tree.ConstDecl → Tree.Module
of_constants xs = module' (Tree.Declared (part 10 xs) None None Tree.no_procedure) None

abbrev of_variables : List Tree.VarDecl → Option Tree.Stmts → Tree.Module
of_variables xs body = module' (Tree.Declared None None (part 10 xs) Tree.no_procedure) body

abbrev nothing : Tree.Declarations
nothing = Tree.Declared None None None Tree.no_procedure

-- MODULE M; VAR x: INTEGER; BEGIN x := TRUE END M.
abbrev other_type : Tree.Module
other_type = of_variables (variable (codes "x") 14 (type' (codes "INTEGER") 17) ∷ []) (one (assignment (codes "x") 32 (use' (codes "TRUE") 37)))

row_other_type : Breaks other_type (broken TypesDiffer 37)
row_other_type = module_told other_type

-- MODULE M; VAR a: ARRAY 0 OF INTEGER; END M.
abbrev no_length : Tree.Module
no_length = of_variables (variable (codes "a") 14 (Tree.Array 17 (number 0 23) (type' (codes "INTEGER") 28)) ∷ []) None

row_no_length : Breaks no_length (broken BadLength 23)
row_no_length = module_told no_length

-- MODULE M; CONST c = 2147483647 + 1; END M.
abbrev too_large : Tree.Module
too_large = of_constants (constant (codes "c") 16 (Tree.Sum None (number 2147483647 20) (Tree.operand Written.Plus 31 (number 1 33) Tree.no_operand)) ∷ [])

row_too_large : Breaks too_large (broken BadConstant 31)
row_too_large = module_told too_large

-- MODULE M; CONST c = FALSE & (1 DIV 0 = 0); END M.
abbrev not_computed : Tree.Module
not_computed = of_constants (constant (codes "c") 16 (Tree.Product (use' (codes "FALSE") 20) (Tree.operand Written.And 26
    (Tree.Parens 28 (Tree.Comparison (Tree.Product (number 1 29) (Tree.operand Written.Div 31 (number 0 35) Tree.no_operand)) Written.Equal 37 (number 0 39)))
    Tree.no_operand)) ∷ [])

row_not_computed : WellTyped not_computed (record { variables = []; procedures = []; body = Program.no_statement })
row_not_computed = module_told not_computed

-- MODULE M; CONST c = 1 & (1 DIV 0 = 0); END M.
abbrev number_decides_nothing : Tree.Module
number_decides_nothing = of_constants (constant (codes "c") 16 (Tree.Product (number 1 20) (Tree.operand Written.And 22
    (Tree.Parens 24 (Tree.Comparison (Tree.Product (number 1 25) (Tree.operand Written.Div 27 (number 0 31) Tree.no_operand)) Written.Equal 33 (number 0 35)))
    Tree.no_operand)) ∷ [])

row_number_decides_nothing : Breaks number_decides_nothing (broken BadConstant 27)
row_number_decides_nothing = module_told number_decides_nothing

-- a procedure with one parameter
abbrev of_parameter : Prelude.Bool → ℕ → Tree.TypeExpr → Tree.Module
of_parameter is_var place t = module' (Tree.Declared None None None (Tree.procedure
    (record { place = 10; name = named (codes "P") 20; is_exported = false; parameters = Some (record { is_var = is_var; names = named (codes "a") place ∷ []; of_type = t } ∷ []) })
    nothing None (named (codes "P") 0) Tree.no_procedure)) None

-- MODULE M; PROCEDURE P(VAR a: ARRAY 2 OF ARRAY 4096 OF INTEGER); END P; END M.
abbrev large_formal : Tree.Module
large_formal = of_parameter true 26 (Tree.Array 29 (number 2 35) (Tree.Array 40 (number 4096 46) (type' (codes "INTEGER") 54)))

row_large_formal : Breaks large_formal (broken WrongKind 29)
row_large_formal = module_told large_formal

-- MODULE M; PROCEDURE P(a: ARRAY 2 OF ARRAY 2 OF ARRAY 4096 OF INTEGER); END P; END M.
abbrev large_within_formal : Tree.Module
large_within_formal = of_parameter false 22 (Tree.Array 25 (number 2 31) (Tree.Array 36 (number 2 42) (Tree.Array 47 (number 4096 53) (type' (codes "INTEGER") 61))))

row_large_within_formal : Breaks large_within_formal (broken PassesLimit 36)
row_large_within_formal = module_told large_within_formal

-- MODULE M; PROCEDURE P(x: INTEGER); END P; BEGIN P END M.
abbrev no_actual : Tree.Module
no_actual = module' (Tree.Declared None None None (Tree.procedure
    (record { place = 10; name = named (codes "P") 20; is_exported = false; parameters = Some (record { is_var = false; names = named (codes "x") 22 ∷ []; of_type = type' (codes "INTEGER") 25 } ∷ []) })
    nothing None (named (codes "P") 39) Tree.no_procedure))
    (one (Tree.Call (named (codes "P") 48) None))

row_no_actual : Breaks no_actual (broken BadActuals 48)
row_no_actual = module_told no_actual

-- MODULE M; VAR a: ARRAY 4096 OF ARRAY 2 OF RECORD END; END M.
abbrev too_many_words : Tree.Module
too_many_words = of_variables (variable (codes "a") 14
    (Tree.Array 17 (number 4096 23) (Tree.Array 31 (number 2 37) (Tree.Record 42 (Tree.empty_list Tree.no_list)))) ∷ []) None

row_too_many_words : Breaks too_many_words (broken PassesLimit 17)
row_too_many_words = module_told too_many_words

-- MODULE M; PROCEDURE P; VAR a: INTEGER; PROCEDURE Q; BEGIN a := 1 END Q; END P; END M.
abbrev far_variable : Tree.Module
far_variable = module' (Tree.Declared None None None (Tree.procedure
    (record { place = 10; name = named (codes "P") 20; is_exported = false; parameters = None })
    (Tree.Declared None None (part 23 (variable (codes "a") 27 (type' (codes "INTEGER") 30) ∷ [])) (Tree.procedure
    (record { place = 39; name = named (codes "Q") 49; is_exported = false; parameters = None })
    nothing (one (assignment (codes "a") 58 (number 1 63))) (named (codes "Q") 69) Tree.no_procedure))
    None (named (codes "P") 76) Tree.no_procedure)) None

row_far_variable : Breaks far_variable (broken WrongLevel 58)
row_far_variable = module_told far_variable

-- MODULE M; TYPE T = RECORD x: INTEGER END; PROCEDURE P*(VAR r: T); END P; END M.
abbrev structured_export : Tree.Module
structured_export = module' (Tree.Declared None
    (part 10 (record { name = named (codes "T") 15; definition = Tree.Record 19 (Tree.fields (named (codes "x") 26 ∷ []) (type' (codes "INTEGER") 29) Tree.no_list) } ∷ [])) None
    (Tree.procedure
    (record { place = 42; name = named (codes "P") 52; is_exported = true; parameters = Some (record { is_var = true; names = named (codes "r") 59 ∷ []; of_type = type' (codes "T") 62 } ∷ []) })
    nothing None (named (codes "P") 70) Tree.no_procedure)) None

row_structured_export : Breaks structured_export (broken BadExport 52)
row_structured_export = module_told structured_export

-- MODULE M; VAR x: INTEGER; BEGIN x := 1 DIV 0 END M.
abbrev division : Tree.Module
division = of_variables (variable (codes "x") 14 (type' (codes "INTEGER") 17) ∷ [])
    (one (assignment (codes "x") 32 (Tree.Product (number 1 37) (Tree.operand Written.Div 39 (number 0 43) Tree.no_operand))))

row_division : WellTyped division (record {
  variables = record { name = codes "x"; type = Simple Integer } ∷ [];
  procedures = [];
  body = Program.statement (Program.Assign (Designated (record { owner = OfModule; position = 0; name = codes "x" }) Program.no_selector)
      (Computed (Literal (Int (pos 1))) (operation Div (Literal (Int (pos 0))) no_operation))) Program.no_statement;
})
row_division = module_told division

-- MODULE M; VAR x: INTEGER; BEGIN REPEAT x := x + 1 UNTIL x > 3 END M.
abbrev repeated : Tree.Module
repeated = of_variables (variable (codes "x") 14 (type' (codes "INTEGER") 17) ∷ [])
    (one (Tree.Repeat 32
    (Tree.stmt (assignment (codes "x") 39 (Tree.Sum None (use' (codes "x") 44) (Tree.operand Written.Plus 46 (number 1 48) Tree.no_operand))) Tree.no_stmt)
    (Tree.Comparison (use' (codes "x") 56) Written.Greater 58 (number 3 60))))

abbrev the_x : Designator
the_x = Designated (record { owner = OfModule; position = 0; name = codes "x" }) Program.no_selector

row_repeated : WellTyped repeated (record {
  variables = record { name = codes "x"; type = Simple Integer } ∷ [];
  procedures = [];
  body = Program.statement (Program.Repeat
      (Program.statement (Program.Assign the_x (Computed (ValueOf Integer the_x) (operation Plus (Literal (Int (pos 1))) no_operation))) Program.no_statement)
      (Compared Greater (ValueOf Integer the_x) (Literal (Int (pos 3))))) Program.no_statement;
})
row_repeated = module_told repeated

-- MODULE M; VAR x: INTEGER; BEGIN REPEAT x := 1 UNTIL x END M.
abbrev until_number : Tree.Module
until_number = of_variables (variable (codes "x") 14 (type' (codes "INTEGER") 17) ∷ [])
    (one (Tree.Repeat 32 (Tree.stmt (assignment (codes "x") 39 (number 1 44)) Tree.no_stmt) (use' (codes "x") 52)))

row_until_number : Breaks until_number (broken TypesDiffer 52)
row_until_number = module_told until_number

-- MODULE M; BEGIN REPEAT x := 1 UNTIL 1 END M.
abbrev unknown_in_repeat : Tree.Module
unknown_in_repeat = module' nothing (one (Tree.Repeat 16 (Tree.stmt (assignment (codes "x") 23 (number 1 28)) Tree.no_stmt) (number 1 36)))

row_unknown_in_repeat : Breaks unknown_in_repeat (broken UnknownName 23)
row_unknown_in_repeat = module_told unknown_in_repeat

-- MODULE M; VAR x, x: Y; END M.
abbrev twice : Tree.Module
twice = of_variables (record { names = named (codes "x") 14 ∷ named (codes "x") 17 ∷ []; of_type = type' (codes "Y") 20 } ∷ []) None

row_twice : Breaks twice (broken DeclaredTwice 17)
row_twice = module_told twice

-- MODULE M; VAR x: Y; END M.
abbrev unknown : Tree.Module
unknown = of_variables (variable (codes "x") 14 (type' (codes "Y") 17) ∷ []) None

row_unknown : Breaks unknown (broken UnknownName 17)
row_unknown = module_told unknown

-- MODULE M; VAR x: INTEGER; BEGIN x.y := 1 END M.
abbrev no_record : Tree.Module
no_record = of_variables (variable (codes "x") 14 (type' (codes "INTEGER") 17) ∷ [])
    (one (Tree.Assign (named (codes "x") 32) (Tree.field 33 (named (codes "y") 34) Tree.no_selector) (number 1 39)))

row_no_record : Breaks no_record (broken WrongKind 33)
row_no_record = module_told no_record

-- A module with a constant, a record, an array of it, a nested procedure, IF, WHILE and calls:
--   MODULE M; CONST n = 1 + 2; TYPE T = RECORD p: INTEGER; q: BOOLEAN END; VAR a: ARRAY n OF T; z: INTEGER;
--   PROCEDURE P(VAR t: T; i: INTEGER); PROCEDURE Q; BEGIN z := n END Q;
--   BEGIN IF t.q THEN t.p := i ELSIF i > 0 THEN Q ELSE P(a[i], i) END; WHILE ~t.q & (z < 3) DO t.q := TRUE END END P; END M.

abbrev dotted : ℕ → List ℕ → ℕ → Tree.Selectors
dotted dot text place = Tree.field dot (named text place) Tree.no_selector

abbrev branch_on_q : Tree.Stmt
branch_on_q = Tree.If 178
    (Tree.branch (Tree.Named (named (codes "t") 181) (dotted 182 (codes "q") 183))
    (Tree.stmt (Tree.Assign (named (codes "t") 190) (dotted 191 (codes "p") 192) (use' (codes "i") 197)) Tree.no_stmt)
    (Tree.branch (Tree.Comparison (use' (codes "i") 205) Written.Greater 207 (number 0 209))
    (Tree.stmt (Tree.Call (named (codes "Q") 216) None) Tree.no_stmt) Tree.no_branch))
    (Tree.else' (Tree.stmt (Tree.Call (named (codes "P") 223)
    (Some (Tree.Named (named (codes "a") 225) (Tree.index 226 (use' (codes "i") 227) Tree.no_selector) ∷ use' (codes "i") 231 ∷ []))) Tree.no_stmt))

abbrev loop_on_q : Tree.Stmt
loop_on_q = Tree.While 239
    (Tree.Product (Tree.Not 245 (Tree.Named (named (codes "t") 246) (dotted 247 (codes "q") 248)))
    (Tree.operand Written.And 250 (Tree.Parens 252 (Tree.Comparison (use' (codes "z") 253) Written.Less 255 (number 3 257))) Tree.no_operand))
    (Tree.stmt (Tree.Assign (named (codes "t") 263) (dotted 264 (codes "q") 265) (use' (codes "TRUE") 270)) Tree.no_stmt)

abbrev inner_procedure : Tree.Procedures
inner_procedure = Tree.procedure
    (record { place = 139; name = named (codes "Q") 149; is_exported = false; parameters = None })
    nothing (one (assignment (codes "z") 158 (use' (codes "n") 163))) (named (codes "Q") 169) Tree.no_procedure

abbrev outer_procedure : Tree.Procedures
outer_procedure = Tree.procedure
    (record {
      place = 104;
      name = named (codes "P") 114;
      is_exported = false;
      parameters = Some
          (record { is_var = true; names = named (codes "t") 120 ∷ []; of_type = type' (codes "T") 123 }
          ∷ record { is_var = false; names = named (codes "i") 126 ∷ []; of_type = type' (codes "INTEGER") 129 } ∷ []);
    })
    (Tree.Declared None None None inner_procedure)
    (Some (Tree.stmt branch_on_q (Tree.stmt loop_on_q Tree.no_stmt))) (named (codes "P") 283) Tree.no_procedure

abbrev many_parts : Tree.Module
many_parts = module' (Tree.Declared
    (part 10 (constant (codes "n") 16 (Tree.Sum None (number 1 20) (Tree.operand Written.Plus 22 (number 2 24) Tree.no_operand)) ∷ []))
    (part 27 (record {
      name = named (codes "T") 32;
      definition = Tree.Record 36
          (Tree.fields (named (codes "p") 43 ∷ []) (type' (codes "INTEGER") 46)
          (Tree.fields (named (codes "q") 55 ∷ []) (type' (codes "BOOLEAN") 58) Tree.no_list));
    } ∷ []))
    (part 71 (variable (codes "a") 75 (Tree.Array 78 (use' (codes "n") 84) (type' (codes "T") 89))
    ∷ variable (codes "z") 92 (type' (codes "INTEGER") 95) ∷ []))
    outer_procedure) None

-- its parts in the checked program

abbrev pair : DataType
pair = Record 36 (field (codes "p") (Simple Integer) (field (codes "q") (Simple Boolean) no_field))

abbrev of_own : ℕ → List ℕ → Program.Selectors → Designator
of_own n x path = Designated (record { owner = Own; position = n; name = x }) path

abbrev of_module : ℕ → List ℕ → Program.Selectors → Designator
of_module n x path = Designated (record { owner = OfModule; position = n; name = x }) path

abbrev field_q : Designator
field_q = of_own 0 (codes "t") (Program.field_of 1 (codes "q") Program.no_selector)

abbrev value_i : Expression
value_i = ValueOf Integer (of_own 1 (codes "i") Program.no_selector)

abbrev int : ℕ → Expression
int n = Literal (Int (pos n))

abbrev single : Program.Statement → Program.Statements
single s = Program.statement s Program.no_statement

row_many_parts : WellTyped many_parts (record {
  variables = record { name = codes "a"; type = Array 78 3 pair } ∷ record { name = codes "z"; type = Simple Integer } ∷ [];
  procedures =
      record {
        name = codes "P";
        is_exported = false;
        parameters = record { name = codes "t"; is_var = true; type = pair } ∷ record { name = codes "i"; is_var = false; type = Simple Integer } ∷ [];
        variables = [];
        body = Program.statement
            (Program.If
            (Program.branch (ValueOf Boolean field_q)
            (single (Program.Assign (of_own 0 (codes "t") (Program.field_of 0 (codes "p") Program.no_selector)) value_i))
            (Program.branch (Compared Greater value_i (int 0)) (single (Program.Call 1 []))
            (Program.otherwise (single (Program.Call 0
            (ByPlace (of_module 0 (codes "a") (Program.element_of 3 value_i Program.no_selector)) ∷ ByValue value_i ∷ [])))))))
            (single (Program.While
            (Computed (Complement (ValueOf Boolean field_q)) (operation And (Compared Less (ValueOf Integer (of_module 1 (codes "z") Program.no_selector)) (int 3)) no_operation))
            (single (Program.Assign field_q (Literal (Bool true))))));
      }
      ∷ record {
        name = codes "Q";
        is_exported = false;
        parameters = [];
        variables = [];
        body = single (Program.Assign (of_module 1 (codes "z") Program.no_selector) (int 3));
      } ∷ [];
  body = Program.no_statement;
})
row_many_parts = module_told many_parts
