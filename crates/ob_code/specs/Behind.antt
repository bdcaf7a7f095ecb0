-- Code with that of a construct behind it, in a procedure with these scopes, where the procedures begin at these entries.
use Rattle.std.specs.Prelude.{ℕ, List, [], ◌∷◌, ◌++◌, ◌+◌, Bool, length, drop}
use Rattle.ob_typing.specs.Program as Program
use Rattle.ob_code_machine.specs.Code.{CodeParts}
use Rattle.ob_code_words.specs.declared.instr.Instr.TheVariants as Instrs
use Rattle.ob_code_scheme.specs.Scheme as Scheme
use Rattle.ob_code_scheme.specs.Types.{extent}
use Rattle.ob_checked.specs.declared.program.Branch.{Branch}
use Rattle.ob_checked.specs.declared.program.Operation.{Operation}
use Rattle.ob_checked.specs.declared.program.Procedure.{Procedure}
use Rattle.ob_checked.specs.declared.program.Slot.{Slot}
use Rattle.ob_checked.specs.View.{owner_of, expression_of, statements_in}
use Rattle.ob_code.specs.declared.entries.Entries.{Entries}
use Rattle.ob_code.specs.declared.scopes.Scopes.{Scopes}
use Rattle.ob_code.specs.Entering.{entry_in, with_procedure}
use Rattle.ob_code.specs.Growing.{grown, alternative_at}
use Rattle.ob_code.specs.Scoped.{globals_in, own_in}

module _ (s : Scopes) where
  abbrev pub variable_behind : CodeParts → Slot → CodeParts
  variable_behind c x = grown c (Scheme.variable_code (globals_in s) (own_in s) (owner_of x.owner) x.position)

  abbrev pub value_behind : CodeParts → Program.Expression → CodeParts
  value_behind c e = grown c (Scheme.code_at (globals_in s) (own_in s) (length c.instructions) e)

  abbrev pub operations_behind : CodeParts → Program.Operations → CodeParts
  operations_behind c os = grown c (Scheme.operations_at (globals_in s) (own_in s) (length c.instructions) os)

  -- an operator with its operand
  abbrev pub operation_behind : CodeParts → Operation → CodeParts
  operation_behind c o =
      let operand = expression_of o.operand in
      grown c (Scheme.operator_at (length c.instructions) o.operator (Scheme.size (own_in s) operand) (λ a. Scheme.code_at (globals_in s) (own_in s) a operand))

  abbrev pub designator_behind : CodeParts → Program.Designator → CodeParts
  designator_behind c d = grown c (Scheme.designator_at (globals_in s) (own_in s) (length c.instructions) d)

  -- selectors behind the address of something of a type
  abbrev pub selectors_behind : CodeParts → Program.DataType → Program.Selectors → CodeParts
  selectors_behind c type ss = grown c (Scheme.selectors_at (globals_in s) (own_in s) (length c.instructions) type ss)

  abbrev pub actual_behind : CodeParts → Program.Actual → CodeParts
  actual_behind c a = grown c (Scheme.actual_at (globals_in s) (own_in s) (length c.instructions) a)

  abbrev pub actuals_behind : CodeParts → List Program.Actual → CodeParts
  actuals_behind c actuals = grown c (Scheme.actuals_at (globals_in s) (own_in s) (length c.instructions) actuals)

  -- the address of the target, the value, PUT
  abbrev pub assignment_behind : CodeParts → Program.Designator → Program.Expression → CodeParts
  assignment_behind c target value =
      let a = length c.instructions in
      grown c (Scheme.designator_at (globals_in s) (own_in s) a target
      ++ (Scheme.code_at (globals_in s) (own_in s) (a + Scheme.designator_size (own_in s) target) value ++ Instrs.Put ∷ []))

  -- where the jump of an alternative over those behind it stands: behind the condition, JF and the statements
  abbrev pub jump_place : CodeParts → Branch → ℕ
  jump_place c b =
      length c.instructions + Scheme.size (own_in s) (expression_of b.condition) + 1 + Scheme.statements_size (own_in s) (statements_in b.body.items)

  module _ (e : Entries) where
    abbrev pub statement_behind : CodeParts → Program.Statement → CodeParts
    statement_behind c x = grown c (Scheme.statement_at (globals_in s) (own_in s) (entry_in e) (length c.instructions) x)

    abbrev pub statements_behind : CodeParts → Program.Statements → CodeParts
    statements_behind c xs = grown c (Scheme.statements_at (globals_in s) (own_in s) (entry_in e) (length c.instructions) xs)

    abbrev pub branches_behind : CodeParts → Program.Branches → CodeParts
    branches_behind c bs = grown c (Scheme.branches_at (globals_in s) (own_in s) (entry_in e) (length c.instructions) bs)

    -- one alternative, and a jump where others stand behind it
    abbrev pub alternative_behind : CodeParts → Branch → Bool → CodeParts
    alternative_behind c b more = grown c (alternative_at (globals_in s) (own_in s) (entry_in e) (length c.instructions) b more)

    abbrev pub procedure_behind : CodeParts → Procedure → CodeParts
    procedure_behind c p =
        with_procedure (globals_in s) (own_in s) (entry_in e) c (extent (drop (length p.parameters.items) (own_in s))) (statements_in p.body.items)
