-- The exports of a module as its text says them: the procedures with an asterisk, in text order, with their parameters.
use Rattle.std.specs.Prelude.{Bool, List, [], ◌∷◌, ◌++◌, map, if◌then◌else◌}
use Rattle.ob_grammar.specs.Tree
use Rattle.ob_grammar.specs.Tree.{Section, Declarations, Procedures, Module}
use Rattle.ob_typing.specs.Program.{Name, Procedure}
use Rattle.ob_typing.specs.Statements.{listed}

-- a parameter, as a caller sees it
pub record Formal : Type 0 where
  pub name : Name
  pub is_var : Bool

-- an export, as a caller sees it
pub record Export : Type 0 where
  pub name : Name
  pub parameters : List Formal

abbrev pub formals_in : List Section → List Formal
formals_in [] = []
formals_in (section ∷ sections) =
    map (λ name. record { name = name.text; is_var = section.is_var }) section.names ++ formals_in sections

-- those within others are passed over
abbrev pub exports_in : Procedures → List Export
exports_in Tree.no_procedure = []
exports_in (Tree.procedure heading inner body end_name rest) =
    if heading.is_exported
    then record { name = heading.name.text; parameters = formals_in (listed heading.parameters) } ∷ exports_in rest
    else exports_in rest

abbrev pub exports_declared : Declarations → List Export
exports_declared (Tree.Declared constants types variables procedures) = exports_in procedures

-- the exports of a module's text
abbrev pub exports_of : Module → List Export
exports_of m = exports_declared m.declarations

-- a procedure of the checked program, as a caller sees it
abbrev pub seen : Procedure → Export
seen p = record { name = p.name; parameters = map (λ q. record { name = q.name; is_var = q.is_var }) p.parameters }
