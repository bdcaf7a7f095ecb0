-- Code that grows at its end.
use Rattle.std.specs.Prelude.{ℕ, ◌+◌, Bool, true, false, List, [], ◌∷◌, ◌++◌}
use Rattle.ob_typing.specs.Program as Program
use Rattle.ob_code_scheme.specs.Scheme.{size, statements_size, code_at, statements_at}
use Rattle.ob_code_scheme.specs.Types.{Scope, part_type}
use Rattle.ob_code_machine.specs.Code.{CodeParts}
use Rattle.ob_code_words.specs.declared.instr.Instr.{Instr}
use Rattle.ob_code_words.specs.declared.instr.Instr.TheVariants as Instrs
use Rattle.ob_checked.specs.declared.program.Branch.{Branch}
use Rattle.ob_checked.specs.declared.program.Selector.{Selector}
use Rattle.ob_checked.specs.declared.program.Selector.TheVariants.{Field, Element}
use Rattle.ob_checked.specs.View.{expression_of, statements_in}

-- code with these instructions behind it
abbrev pub grown : CodeParts → List Instr → CodeParts
grown c is = record c { instructions = c.instructions ++ is }

-- the type that a selector leads to
abbrev pub selected : Program.DataType → Selector → Program.DataType
selected type (Field position name) = part_type type position
selected type (Element length index) = part_type type 0

-- there are alternatives
abbrev pub is_more : Program.Branches → Bool
is_more Program.no_branch = false
is_more _ = true

-- the jump over the alternatives behind, where there are any
abbrev pub over : Bool → ℕ → List Instr
over false end = []
over true end = Instrs.Jump end ∷ []

abbrev pub over_many : Bool → ℕ
over_many false = 0
over_many true = 1

-- in a procedure with these scopes, where the procedures begin at these places
module _ (globals own : Scope) (entry : ℕ → ℕ) where
  -- one alternative at a place, and the jump to the end, which is not known yet, where others stand behind it
  abbrev pub alternative_at : ℕ → Branch → Bool → List Instr
  alternative_at a b more =
      let m = a + size own (expression_of b.condition) + 1 in
      code_at globals own a (expression_of b.condition)
      ++ Instrs.JumpIfFalse (m + statements_size own (statements_in b.body.items) + over_many more)
      ∷ (statements_at globals own entry m (statements_in b.body.items) ++ over more 0)
