-- Within the limits of a checked program its variables and frames have few words.
use Rattle.std.proofs.Common.{◌≡◌, ◌+◌, ◌≤◌, Bool, true, false, List, [], ◌∷◌, length, refl, All, arith}
use Rattle.std.specs.Prelude.{◌||◌}
use Rattle.std.proofs.lemmas.List.Elements.{All-head, All-tail}
use Rattle.std.proofs.lemmas.List.Sums.{sum_by-append}
use Rattle.ob_typing.specs.Program.{DataType, Simple, Array, Record, Name, Parameter, Variable, Procedure}
use Rattle.ob_typing.specs.Scopes as Limits
use Rattle.ob_typing.specs.Limits.{variable_words, KeepsFrame}
use Rattle.ob_code_scheme.specs.Types.{width, extent, parameter_space, parameters_scope, variables_scope, frame_scope}
use Rattle.ob_code_scheme.specs.Temporaries.{largest_frame}
use Rattle.ob_code_scheme.proofs.Fine.{extent-append}
use Rattle.ob_layout.proofs.Laid.{words_limited}

one_more : (v : Variable) (vs : List Variable) → variable_words (v ∷ vs) ≡ Limits.words v.type + variable_words vs
one_more v vs =
    let a : variable_words (v ∷ vs) ≡ (0 + Limits.words v.type) + variable_words vs = sum_by-append (λ (w : Variable). Limits.words w.type) (v ∷ []) vs in
    omega (arith, a)

-- the words of variables, where a record without fields has none, are no more than where it counts as one
pub small_block : (vs : List Variable) → extent (variables_scope vs) ≤ variable_words vs
small_block [] = omega arith
small_block (v ∷ vs) =
    let first = words_limited v.type in
    let rest = small_block vs in
    let both = one_more v vs in
    omega (arith, first, rest, both)

-- a parameter takes a word, as a simple value or an address
one_word : (name : Name) (is_var : Bool) (type : DataType) → (is_var || Limits.is_simple type) ≡ true →
    width (parameter_space (record { name = name; is_var = is_var; type = type })) ≡ 1
one_word name true type simple = refl
one_word name false (Simple t) simple = refl
one_word name false (Array place n element) simple = absurd cc
one_word name false (Record place fields) simple = absurd cc

abbrev IsWord : Parameter → Type 0
IsWord p = (p.is_var || Limits.is_simple p.type) ≡ true

parameter_words : (ps : List Parameter) → All IsWord ps → extent (parameters_scope ps) ≡ length ps
parameter_words [] simple = refl
parameter_words (p ∷ ps) simple =
    let here = one_word p.name p.is_var p.type (All-head IsWord p ps simple) in
    let rest = parameter_words ps (All-tail IsWord p ps simple) in
    omega (arith, here, rest)

small_frame : (p : Procedure) → KeepsFrame p → extent (frame_scope p) ≤ 1024
small_frame p keeps =
    let both = extent-append (parameters_scope p.parameters) (variables_scope p.variables) in
    let parameters = parameter_words p.parameters keeps.values in
    let variables = small_block p.variables in
    omega (arith, both, parameters, variables, keeps.frame)

pub small_frames : (ps : List Procedure) → All KeepsFrame ps → largest_frame ps ≤ 1024
small_frames [] keep = omega arith
small_frames (p ∷ ps) keep =
    let first = small_frame p (All-head KeepsFrame p ps keep) in
    let rest = small_frames ps (All-tail KeepsFrame p ps keep) in
    omega (arith, first, rest)
