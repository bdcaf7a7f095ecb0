-- The operands of the code of a well formed program have 16 bits, those of its calls too, where it is no longer than code can be.
use Rattle.std.proofs.Common.{◌≡◌, ℕ, zero, suc, ◌≤◌, List, [], ◌∷◌, length, Some, arith}
use Rattle.std.specs.Prelude.{slice_get}
use Rattle.ob_typing.specs.Program.{Procedure, Program}
use Rattle.ob_code_words.specs.declared.instr.Instr.{Instr}
use Rattle.ob_code_words.specs.declared.instr.Instr.TheVariants as Instrs
use Rattle.ob_code_scheme.specs.Types.{variables_scope}
use Rattle.ob_code_scheme.specs.Scheme.{entry_of, code_of}
use Rattle.ob_code_scheme.specs.Operands.{HasSmallOperands, IsSmallInstruction}
use Rattle.ob_code_scheme.specs.WellFormed.{IsWellFormed}
use Rattle.ob_code_scheme.proofs.Fine.{fine_procedure}
use Rattle.ob_code_scheme.proofs.Operands.{procedures_small}
use Rattle.ob_code.specs.Entering.{procedures_size}
use Rattle.ob_code.specs.Limits.{IsWithinLimits}
use Rattle.ob_code.proofs.Procedures.{procedures_long}

small : (i : Instr) → IsSmallInstruction i → HasSmallOperands i
small (Instrs.Call entry parameters) h = absurd h
small _ h = h

-- a procedure begins within the code
entry_within : (ps : List Procedure) (i : ℕ) → entry_of ps i ≤ procedures_size ps
entry_within [] i = omega arith
entry_within (p ∷ ps) zero = omega arith
entry_within (p ∷ ps) (suc i) = let rest = entry_within ps i in omega (arith, rest)

-- the code of a well formed program that is no longer than code can be is within the limits
module _ (program : Program) (fine : IsWellFormed program) (short : length (code_of program).instructions ≤ 65535) where
  call_small : (i : ℕ) (p : Procedure) → slice_get program.procedures i ≡ Some p →
      HasSmallOperands (Instrs.Call (entry_of program.procedures i) (length p.parameters))
  call_small i p is =
      let long = procedures_long (variables_scope program.variables) (entry_of program.procedures) 0 program.procedures in
      let within = entry_within program.procedures i in
      let few = (fine_procedure program i p fine is).few in
      omega (arith, within, long, short, few)

  pub code_within : IsWithinLimits (code_of program)
  code_within =
      record {
        short = short;
        operands = procedures_small HasSmallOperands small program fine (entry_of program.procedures) call_small 0 program.procedures fine.procedures;
      }
