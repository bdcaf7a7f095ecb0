-- Words of frames, and what a well-formed program says of each of its procedures.
use Rattle.std.proofs.Common.{◌≡◌, ℕ, zero, suc, ◌+◌, ◌≤◌, Bool, true, false, List, [], ◌∷◌, ◌++◌, length, Some, refl, subst, All, arith}
use Rattle.std.specs.Prelude.{slice_get}
use Rattle.std.proofs.lemmas.Option.{slice_get_within, get_or_from_slice_get}
use Rattle.std.proofs.lemmas.List.Elements.{All-head, All-tail}
use Rattle.ob_typing.specs.Program.{DataType, Simple, Array, Record, Name, Parameter, Procedure, Program}
use Rattle.ob_code_scheme.specs.Types.{Scope, width, extent, parameter_space, parameters_scope}
use Rattle.ob_code_scheme.specs.Temporaries.{statements_temporaries, most_temporaries, frame_words, largest_frame}
use Rattle.ob_code_scheme.specs.WellFormed.{IsFineSpace, IsFineProcedure, IsWellFormed}

-- what a well-formed program says of a procedure
pub fine_procedure : (program : Program) (i : ℕ) (p : Procedure) → IsWellFormed program → slice_get program.procedures i ≡ Some p → IsFineProcedure program p
fine_procedure program i p fine is =
    subst (IsFineProcedure program) (get_or_from_slice_get program.procedures i p p is)
    (fine.procedures i p (slice_get_within program.procedures i p is))

-- ---- words of scopes

pub extent-append : (a b : Scope) → extent (a ++ b) ≡ extent a + extent b
extent-append [] b = omega arith
extent-append (s ∷ a) b = let rest = extent-append a b in omega (arith, rest)

-- a parameter takes a word, as a simple value or an address
one_word : (name : Name) (is_var : Bool) (type : DataType) → IsFineSpace (parameter_space (record { name = name; is_var = is_var; type = type })) →
    width (parameter_space (record { name = name; is_var = is_var; type = type })) ≡ 1
one_word name true type fine = refl
one_word name false (Simple t) fine = refl
one_word name false (Array place n element) fine = absurd fine
one_word name false (Record place fields) fine = absurd fine

pub parameters_words : (ps : List Parameter) → All IsFineSpace (parameters_scope ps) → extent (parameters_scope ps) ≡ length ps
parameters_words [] fine = refl
parameters_words (p ∷ ps) fine =
    let here = one_word p.name p.is_var p.type (All-head IsFineSpace (parameter_space p) (parameters_scope ps) fine) in
    let rest = parameters_words ps (All-tail IsFineSpace (parameter_space p) (parameters_scope ps) fine) in
    omega (arith, here, rest)

-- ---- no procedure takes more than the most

pub frame_largest : (ps : List Procedure) (i : ℕ) (p : Procedure) → slice_get ps i ≡ Some p → frame_words p ≤ largest_frame ps
frame_largest [] i p h = absurd (cc)
frame_largest (q ∷ ps) zero p h =
    let same : q ≡ p = cc in
    subst (λ (r : Procedure). frame_words r ≤ largest_frame (q ∷ ps)) same (omega arith)
frame_largest (q ∷ ps) (suc i) p h = let rest = frame_largest ps i p h in omega (arith, rest)

pub temporaries_most : (ps : List Procedure) (i : ℕ) (p : Procedure) → slice_get ps i ≡ Some p → statements_temporaries p.body ≤ most_temporaries ps
temporaries_most [] i p h = absurd (cc)
temporaries_most (q ∷ ps) zero p h =
    let same : q ≡ p = cc in
    subst (λ (r : Procedure). statements_temporaries r.body ≤ most_temporaries (q ∷ ps)) same (omega arith)
temporaries_most (q ∷ ps) (suc i) p h = let rest = temporaries_most ps i p h in omega (arith, rest)
