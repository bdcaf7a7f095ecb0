-- The code of a program is placed: each procedure stands at its entry, and nothing where another one would.
use Rattle.std.proofs.Common.{◌≡◌, ℕ, zero, suc, ◌+◌, List, [], ◌∷◌, length, None, refl, length-append, arith}
use Rattle.std.specs.Prelude.{slice_get}
use Rattle.std.proofs.lemmas.Option.{slice_get_past}
use Rattle.ob_typing.specs.Program.{Procedure, Program}
use Rattle.ob_code_scheme.specs.Types.{Scope, variables_scope}
use Rattle.ob_code_scheme.specs.Scheme.{procedure_size, entry_of, procedure_at, procedures_at, code_of}
use Rattle.ob_code_correct.proofs.Lengths.{procedure_long}
use Rattle.ob_code_correct.proofs.Entries.{procedure_stands}
use Rattle.ob_tree_law.specs.Places.{IsPlaced}

-- behind the last procedure the code ends
entry_past : (globals : Scope) (entry : ℕ → ℕ) (a : ℕ) (ps : List Procedure) (i : ℕ) → slice_get ps i ≡ None →
    length (procedures_at globals entry a ps) ≡ entry_of ps i
entry_past globals entry a [] i h = refl
entry_past globals entry a (p ∷ ps) zero h = absurd (cc)
entry_past globals entry a (p ∷ ps) (suc i) h =
    let long = length-append (procedure_at globals entry a p) (procedures_at globals entry (a + procedure_size p) ps) in
    let first = procedure_long globals entry a p in
    let behind = entry_past globals entry (a + procedure_size p) ps i h in
    omega (arith, long, first, behind)

pub is_placed : (program : Program) → IsPlaced program (code_of program).instructions
is_placed program = record {
  stand = procedure_stands program;
  none = λ i h.
      let past = entry_past (variables_scope program.variables) (entry_of program.procedures) 0 program.procedures i h in
      slice_get_past (code_of program).instructions (entry_of program.procedures i) (omega (arith, past));
}
