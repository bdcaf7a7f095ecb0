-- Arguments and replies that fit, as lists and parameter by parameter.
use Rattle.std.proofs.Common.{◌≡◌, ℕ, Bool, true, false, List, [], ◌∷◌, map, filter, refl, sym, ap, ◌∙◌, All, arith}
use Rattle.std.proofs.lemmas.List.Elements.{All-head, All-tail, All-cons}
use Rattle.ob_interface.specs.declared.scalar.Scalar.{Scalar}
use Rattle.ob_interface.specs.declared.scalar.Scalar.TheVariants.{Int, Bool as Truth}
use Rattle.ob_interface.specs.declared.scalar.ScalarType.{ScalarType}
use Rattle.ob_interface.specs.declared.scalar.ScalarType.TheVariants.{Integer, Boolean}
use Rattle.ob_interface.specs.Export.{type_of, value_types, var_types}
use Rattle.ob_typing.specs.Program.{DataType, Simple, Array, Record, Name, Parameter}
use Rattle.ob_code_scheme.specs.WellFormed.{IsSimple}
use Rattle.ob_code_scheme.specs.Correct.{scalar_type_of, formals_of, IsInRange}
use Rattle.ob_code_scheme.specs.Executing.{IsScalarIn, AreArgumentsOf, AreValuesOf}

abbrev one : Name → Bool → DataType → Parameter
one name is_var type = record { name = name; is_var = is_var; type = type }

abbrev IsSimpleParameter : Parameter → Type 0
IsSimpleParameter q = IsSimple q.type

abbrev first_type : List ScalarType → ScalarType
first_type [] = Integer
first_type (t ∷ types) = t

abbrev other_types : List ScalarType → List ScalarType
other_types [] = []
other_types (t ∷ types) = types

-- ---- arguments

scalar_in : (type : DataType) (s : Scalar) → IsSimple type → type_of s ≡ scalar_type_of type → IsInRange s → IsScalarIn type s
scalar_in (Simple Integer) (Int z) simple same range = range
scalar_in (Simple Integer) (Truth b) simple same range = absurd (cc)
scalar_in (Simple Boolean) (Int z) simple same range = absurd (cc)
scalar_in (Simple Boolean) (Truth b) simple same range = tt
scalar_in (Array place n element) s simple same range = absurd simple
scalar_in (Record place fields) s simple same range = absurd simple

arguments_one : (name : Name) (is_var : Bool) (type : DataType) (ps : List Parameter) (arguments : List Scalar) → IsSimple type →
    map type_of arguments ≡ value_types (formals_of (one name is_var type ∷ ps)) → All IsInRange arguments →
    ((args : List Scalar) → map type_of args ≡ value_types (formals_of ps) → All IsInRange args → AreArgumentsOf ps args) → AreArgumentsOf (one name is_var type ∷ ps) arguments
arguments_one name true type ps arguments simple same ranges further = further arguments same ranges
arguments_one name false type ps [] simple same ranges further = absurd (cc)
arguments_one name false type ps (a ∷ arguments) simple same ranges further = (
  scalar_in type a simple (ap first_type same) (All-head IsInRange a arguments ranges),
  further arguments (ap other_types same) (All-tail IsInRange a arguments ranges),
)

pub arguments_each : (ps : List Parameter) (arguments : List Scalar) → All IsSimpleParameter ps → map type_of arguments ≡ value_types (formals_of ps) → All IsInRange arguments → AreArgumentsOf ps arguments
arguments_each [] [] simple same ranges = refl
arguments_each [] (a ∷ arguments) simple same ranges = absurd (cc)
arguments_each (p ∷ ps) arguments simple same ranges =
    arguments_one p.name p.is_var p.type ps arguments (All-head IsSimpleParameter p ps simple) same ranges
    (λ args s r. arguments_each ps args (All-tail IsSimpleParameter p ps simple) s r)

-- ---- values of replies

scalar_out : (type : DataType) (s : Scalar) → IsScalarIn type s → (type_of s ≡ scalar_type_of type) × IsInRange s
scalar_out (Simple Integer) (Int z) h = (refl, h)
scalar_out (Simple Integer) (Truth b) h = absurd h
scalar_out (Simple Boolean) (Int z) h = absurd h
scalar_out (Simple Boolean) (Truth b) h = (refl, tt)
scalar_out (Array place n element) s h = absurd h
scalar_out (Record place fields) s h = absurd h

types_of : (qs : List Parameter) (values : List Scalar) → AreValuesOf qs values → map type_of values ≡ map (λ (q : Parameter). scalar_type_of q.type) qs
types_of [] [] h = refl
types_of [] (s ∷ values) h = absurd h
types_of (q ∷ qs) [] h = absurd h
types_of (q ∷ qs) (s ∷ values) h =
    ap (λ (t : ScalarType). t ∷ map type_of values) (scalar_out q.type s h.0).0 ∙ ap (λ (types : List ScalarType). scalar_type_of q.type ∷ types) (types_of qs values h.1)

pub values_in_range : (qs : List Parameter) (values : List Scalar) → AreValuesOf qs values → All IsInRange values
values_in_range [] [] h = λ k d below. absurd (omega (arith, below))
values_in_range [] (s ∷ values) h = absurd h
values_in_range (q ∷ qs) [] h = absurd h
values_in_range (q ∷ qs) (s ∷ values) h =
    All-cons IsInRange s values (scalar_out q.type s h.0).1 (values_in_range qs values h.1)

var_types_one : (name : Name) (is_var : Bool) (type : DataType) (ps : List Parameter) → var_types (formals_of ps) ≡ map (λ (q : Parameter). scalar_type_of q.type) (filter (λ (q : Parameter). q.is_var) ps) →
    var_types (formals_of (one name is_var type ∷ ps)) ≡ map (λ (q : Parameter). scalar_type_of q.type) (filter (λ (q : Parameter). q.is_var) (one name is_var type ∷ ps))
var_types_one name true type ps further = ap (λ (types : List ScalarType). scalar_type_of type ∷ types) further
var_types_one name false type ps further = further

var_types_are : (ps : List Parameter) → var_types (formals_of ps) ≡ map (λ (q : Parameter). scalar_type_of q.type) (filter (λ (q : Parameter). q.is_var) ps)
var_types_are [] = refl
var_types_are (p ∷ ps) = var_types_one p.name p.is_var p.type ps (var_types_are ps)

pub values_typed : (ps : List Parameter) (values : List Scalar) → AreValuesOf (filter (λ (q : Parameter). q.is_var) ps) values → map type_of values ≡ var_types (formals_of ps)
values_typed ps values h = types_of (filter (λ (q : Parameter). q.is_var) ps) values h ∙ sym (var_types_are ps)
