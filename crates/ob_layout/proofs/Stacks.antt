-- The words of a stack within the limits of the language.
use Rattle.std.proofs.Common.{◌≡◌, arith}
use Rattle.ob_typing.specs.Program.{Program}
use Rattle.ob_code_scheme.specs.Temporaries.{stack_words}
use Rattle.ob_code_scheme.specs.WellFormed.{IsWellFormed}
use Rattle.ob_code_scheme.proofs.Small.{few_stack_words}
use Rattle.ob_layout.specs.Layout.{layout_of}

pub stacks_are_counted : (program : Program) → IsWellFormed program → (layout_of program).stack_words ≡ stack_words program.procedures
stacks_are_counted program formed = let few = few_stack_words program formed in omega (arith, few)
