-- Within the limits of a checked program its stack has few words, and each address, of the block or the stack, is a word.
use Rattle.std.proofs.Common.{◌+◌, ◌^◌, ◌<◌, ◌≤◌, List, [], ◌∷◌, All, arith}
use Rattle.std.proofs.lemmas.List.Elements.{All-head, All-tail}
use Rattle.ob_typing.specs.Program.{Procedure, Program}
use Rattle.ob_code_scheme.specs.Types.{extent, variables_scope}
use Rattle.ob_code_scheme.specs.Temporaries.{most_temporaries, largest_frame, stack_words}
use Rattle.ob_code_scheme.specs.WellFormed.{IsFineProcedure, IsWellFormed}

few_frame_words : (program : Program) (ps : List Procedure) → All (IsFineProcedure program) ps → largest_frame ps ≤ 1024
few_frame_words program [] fine = omega arith
few_frame_words program (p ∷ ps) fine =
    let first = All-head (IsFineProcedure program) p ps fine in
    let rest = few_frame_words program ps (All-tail (IsFineProcedure program) p ps fine) in
    omega (arith, first.frame, rest)

few_temporaries : (program : Program) (ps : List Procedure) → All (IsFineProcedure program) ps → most_temporaries ps ≤ 407
few_temporaries program [] fine = omega arith
few_temporaries program (p ∷ ps) fine =
    let first = All-head (IsFineProcedure program) p ps fine in
    let rest = few_temporaries program ps (All-tail (IsFineProcedure program) p ps fine) in
    omega (arith, first.temporaries, rest)

pub few_stack_words : (program : Program) → IsWellFormed program → stack_words program.procedures ≤ 91592
few_stack_words program fine =
    let frames = few_frame_words program program.procedures fine.procedures in
    let temporaries = few_temporaries program program.procedures fine.procedures in
    omega (arith, frames, temporaries)

pub addresses_are_words : (program : Program) → IsWellFormed program → extent (variables_scope program.variables) + stack_words program.procedures < 2 ^ 63
addresses_are_words program fine =
    let stack = few_stack_words program fine in
    let block = fine.variables in
    omega (arith, stack, block)
