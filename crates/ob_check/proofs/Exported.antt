-- The exports among procedures, one procedure more at a time.
use Rattle.std.proofs.Common.{◌≡◌, true, false, List, [], ◌∷◌, ◌++◌, Some, None, map, filter, refl, ap, ◌∙◌, append_assoc}
use Rattle.std.specs.Prelude.{string_bytes}
use Rattle.std.proofs.lemmas.List.{map-append}
use Rattle.ob_interface.specs.declared.export.Export.{Export}
use Rattle.ob_interface.specs.declared.export.Formal.{Formal}
use Rattle.ob_interface.specs.declared.scalar.ScalarType.{ScalarType}
use Rattle.ob_interface.specs.declared.scalar.ScalarType.TheVariants.{Integer}
use Rattle.ob_interface.specs.Export.{Signature}
use Rattle.ob_interface.specs.View.{signature_of}
use Rattle.ob_typing.specs.Program as Program
use Rattle.ob_checked.specs.declared.program.Parameter.{Parameter}
use Rattle.ob_checked.specs.declared.program.Procedure.{Procedure}
use Rattle.ob_checked.specs.Exports.{formal_of, scalar_type_of, signature_in}
use Rattle.ob_checked.specs.Types.{Entry}
use Rattle.ob_checked.specs.View.{parameter_of, procedure_of}
use Rattle.ob_scopes.specs.SimpleTypes.{simple_type}

module _ (types : List Entry) where
  -- what callers know of the exported ones among these procedures
  abbrev pub known_of : List Procedure → List Signature
  known_of ps = map signature_in (filter (λ p. p.is_exported) (map (procedure_of types) ps))

  pub shown_more : (es : List Export) (e : Export) (p : Procedure) (ps : List Procedure) → p.is_exported ≡ true →
      signature_of e ≡ signature_in (procedure_of types p) → map signature_of (es ++ e ∷ []) ++ known_of ps ≡ map signature_of es ++ known_of (p ∷ ps)
  shown_more es e p ps shown same =
      ap (λ ss. ss ++ known_of ps) (map-append signature_of es (e ∷ [])) ∙ append_assoc (map signature_of es) (signature_of e ∷ []) (known_of ps)
      ∙ ap (λ s. map signature_of es ++ (s ∷ known_of ps)) same ∙ ap (λ ss. map signature_of es ++ ss) first
    where
      first : signature_in (procedure_of types p) ∷ known_of ps ≡ known_of (p ∷ ps)
      first = rw shown refl

  pub hidden_more : (p : Procedure) (ps : List Procedure) → p.is_exported ≡ false → known_of ps ≡ known_of (p ∷ ps)
  hidden_more p ps hidden = rw hidden refl

  pub same_signature : (e : Export) (p : Procedure) → string_bytes e.name ≡ string_bytes p.name →
      e.formals.items ≡ map formal_of (map (parameter_of types) p.parameters.items) → signature_of e ≡ signature_in (procedure_of types p)
  same_signature e p name formals = λ i. record { name = name i; formals = formals i }

-- one formal more
pub formals_more : (types : List Entry) (fs : List Formal) (f : Formal) (p : Parameter) (ps : List Parameter) → f ≡ formal_of (parameter_of types p) →
    (fs ++ f ∷ []) ++ map formal_of (map (parameter_of types) ps) ≡ fs ++ map formal_of (map (parameter_of types) (p ∷ ps))
formals_more types fs f p ps same =
    append_assoc fs (f ∷ []) (map formal_of (map (parameter_of types) ps)) ∙ ap (λ x. fs ++ (x ∷ map formal_of (map (parameter_of types) ps))) same

-- a type that is a scalar's, or is none
pub scalar_is : (t : Program.DataType) (s : ScalarType) → Some s ≡ simple_type t → s ≡ scalar_type_of t
scalar_is (Program.Simple u) s h = cc
scalar_is (Program.Array place length element) s h = absurd cc
scalar_is (Program.Record place fields) s h = absurd cc

pub no_scalar : (t : Program.DataType) → None ≡ simple_type t → Integer ≡ scalar_type_of t
no_scalar (Program.Simple u) h = absurd cc
no_scalar (Program.Array place length element) h = refl
no_scalar (Program.Record place fields) h = refl
