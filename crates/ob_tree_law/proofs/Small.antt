-- The operands of the code of a well formed program have 16 bits, but for those of calls and jumps: these know places, and code may be of any length.
use Rattle.std.proofs.Common.{◌≡◌, ℕ, zero, suc, ◌≤◌, List, [], ◌∷◌, length, Some, subst, All, arith}
use Rattle.std.specs.Prelude.{slice_get}
use Rattle.std.proofs.lemmas.List.Elements.{All-head, All-tail}
use Rattle.ob_typing.specs.Program.{Procedure, Program}
use Rattle.ob_code_words.specs.declared.instr.Instr.{Instr}
use Rattle.ob_code_words.specs.declared.instr.Instr.TheVariants as Instrs
use Rattle.ob_code_scheme.specs.Scheme.{entry_of, code_of}
use Rattle.ob_code_scheme.specs.Operands.{IsSmallInstruction}
use Rattle.ob_code_scheme.specs.WellFormed.{IsWellFormed}
use Rattle.ob_code_scheme.proofs.Operands.{procedures_small}
use Rattle.ob_tree_law.specs.Operands.{HasSmallWords}

small : (i : Instr) → IsSmallInstruction i → HasSmallWords i
small (Instrs.Call entry parameters) h = absurd h
small _ h = h

call_small : (program : Program) (i : ℕ) (p : Procedure) → slice_get program.procedures i ≡ Some p →
    HasSmallWords (Instrs.Call (entry_of program.procedures i) (length p.parameters))
call_small program i p is = omega arith

-- of all its code
code_operands : (program : Program) → IsWellFormed program → All HasSmallWords (code_of program).instructions
code_operands program fine =
    procedures_small HasSmallWords small program fine (entry_of program.procedures) (call_small program) 0 program.procedures fine.procedures

-- and of what is fetched from it
small_found : (is : List Instr) (place : ℕ) (i : Instr) → All HasSmallWords is → slice_get is place ≡ Some i → HasSmallWords i
small_found [] place i h found = absurd (cc)
small_found (x ∷ is) zero i h found = let same : x ≡ i = cc in subst HasSmallWords same (All-head HasSmallWords x is h)
small_found (x ∷ is) (suc place) i h found = small_found is place i (All-tail HasSmallWords x is h) found

pub operands_found : (program : Program) (place : ℕ) (i : Instr) → IsWellFormed program → slice_get (code_of program).instructions place ≡ Some i → HasSmallWords i
operands_found program place i fine found = small_found (code_of program).instructions place i (code_operands program fine) found
