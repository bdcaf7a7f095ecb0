-- Values are what the words that are written of them say.
use Rattle.std.proofs.Common.{◌≡◌, List, [], ◌∷◌, All, map, refl}
use Rattle.std.proofs.lemmas.List.Elements.{All-head, All-tail}
use Rattle.ob_code_scheme.specs.Correct.{IsInRange}
use Rattle.ob_interface.specs.declared.scalar.Scalar.{Scalar}
use Rattle.ob_interface.specs.declared.scalar.Scalar.TheVariants as Scalars
use Rattle.ob_interface.specs.declared.scalar.ScalarType.{ScalarType}
use Rattle.ob_interface.specs.declared.scalar.ScalarType.TheVariants.{Integer, Boolean}
use Rattle.ob_interface.specs.Export.{type_of}
use Rattle.ob_text_words.specs.Values as Values
use Rattle.ob_text_words.specs.Values.{AreValues, IsValue}
use Rattle.ob_laws.proofs.Numbers.{integer_text}
use Rattle.ob_text_words.specs.ScalarTexts.{scalar_text}

value_read : (t : ScalarType) (s : Scalar) → type_of s ≡ t → IsInRange s → IsValue t (scalar_text s) s
value_read Integer (Scalars.Int z) e h = Values.integer (integer_text z h)
value_read Integer (Scalars.Bool b) e h = absurd (cc)
value_read Boolean (Scalars.Int z) e h = absurd (cc)
value_read Boolean (Scalars.Bool b) e h = Values.boolean refl

pub values_read : (types : List ScalarType) (ss : List Scalar) → map type_of ss ≡ types → All IsInRange ss → AreValues types (map scalar_text ss) ss
values_read [] [] e h = Values.none
values_read [] (s ∷ ss) e h = absurd (cc)
values_read (t ∷ types) [] e h = absurd (cc)
values_read (t ∷ types) (s ∷ ss) e h =
    let first : type_of s ≡ t = cc in
    let rest : map type_of ss ≡ types = cc in
    Values.more (value_read t s first (All-head IsInRange s ss h)) (values_read types ss rest (All-tail IsInRange s ss h))
