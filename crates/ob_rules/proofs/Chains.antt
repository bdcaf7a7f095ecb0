-- Chains and selectors, one more at a time.
use Rattle.std.proofs.Common.{◌≡◌, List, [], ◌∷◌, ◌++◌, refl, ap}
use Rattle.ob_typing.specs.Program
use Rattle.ob_typing.specs.Verdict.{Verdict, Right}
use Rattle.ob_typing.specs.ExpressionVerdicts as Verdicts
use Rattle.ob_checked.specs.declared.program.Operation.{Operation}
use Rattle.ob_checked.specs.declared.program.Selector.{Selector}
use Rattle.ob_checked.specs.declared.program.Selector.TheVariants.{Field, Element}
use Rattle.ob_checked.specs.View.{expression_of, operations_in, selectors_in}
use Rattle.std.specs.Prelude.{string_bytes}

-- operations in front of others
abbrev pub operations_before : List Operation → Program.Operations → Program.Operations
operations_before [] rest = rest
operations_before (o ∷ os) rest = Program.operation o.operator (expression_of o.operand) (operations_before os rest)

pub operations_before-push : (os : List Operation) (o : Operation) (rest : Program.Operations) →
    operations_before os (Program.operation o.operator (expression_of o.operand) rest) ≡ operations_before (os ++ o ∷ []) rest
operations_before-push [] o rest = refl
operations_before-push (x ∷ os) o rest = ap (Program.operation x.operator (expression_of x.operand)) (operations_before-push os o rest)

pub operations_before-end : (os : List Operation) → operations_before os Program.no_operation ≡ operations_in os
operations_before-end [] = refl
operations_before-end (o ∷ os) = ap (Program.operation o.operator (expression_of o.operand)) (operations_before-end os)

-- what is left, behind what is done
abbrev pub resumed : List Operation → Verdicts.Chain → Verdict Verdicts.Chain
resumed done y = Right (record { operations = operations_before done y.operations; value = y.value })

-- selectors in front of others
abbrev pub selectors_before : List Selector → Program.Selectors → Program.Selectors
selectors_before [] rest = rest
selectors_before (Field position name ∷ ss) rest = Program.field_of position (string_bytes name) (selectors_before ss rest)
selectors_before (Element length i ∷ ss) rest = Program.element_of length (expression_of i) (selectors_before ss rest)

pub selectors_before-end : (ss : List Selector) → selectors_before ss Program.no_selector ≡ selectors_in ss
selectors_before-end [] = refl
selectors_before-end (Field position name ∷ ss) = ap (Program.field_of position (string_bytes name)) (selectors_before-end ss)
selectors_before-end (Element length i ∷ ss) = ap (Program.element_of length (expression_of i)) (selectors_before-end ss)

-- what is left of a path, behind what is done
abbrev pub walked : List Selector → Verdicts.Path → Verdict Verdicts.Path
walked done y = Right (record { type = y.type; selectors = selectors_before done y.selectors })
