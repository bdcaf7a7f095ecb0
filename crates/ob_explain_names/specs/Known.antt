-- The names that declarations declare, each with its place and what it is declared as.
use Rattle.std.specs.Prelude.{ℕ, nat_lt, List, [], ◌∷◌, ◌++◌, flat_map, length, map, Option, if◌then◌else◌}
use Rattle.std.specs.Option.{option_map_or}
use Rattle.ob_grammar.specs.Tree.{Name, ConstDecl, TypeDecl, VarDecl, DeclarationPart, Section, Heading, Declarations, Declared, Procedures}
use Rattle.ob_grammar.specs.Tree.{no_procedure, procedure}
use Rattle.ob_explain_names.specs.declared.known.Known.{Known}
use Rattle.ob_explain_names.specs.declared.known.Sort.{Sort}
use Rattle.ob_explain_names.specs.declared.known.Sort.TheVariants.{Constant, TypeName, Variable, Procedure}

abbrev pub known_as : Sort → Name → Known
known_as sort name = record { place = name.place; sort = sort }

abbrev pub known_constants : Option (DeclarationPart ConstDecl) → List Known
known_constants constants = option_map_or (λ part. map (λ c. known_as Constant c.name) part.declared) constants []

abbrev pub known_types : Option (DeclarationPart TypeDecl) → List Known
known_types types = option_map_or (λ part. map (λ t. known_as TypeName t.name) part.declared) types []

abbrev pub known_variables : Option (DeclarationPart VarDecl) → List Known
known_variables variables = option_map_or (λ part. flat_map (λ v. map (known_as Variable) v.names) part.declared) variables []

abbrev pub known_parameters : Option (List Section) → List Known
known_parameters parameters = option_map_or (flat_map (λ section. map (known_as Variable) section.names)) parameters []

-- a procedure, with the number of its parameters
abbrev pub known_heading : Heading → Known
known_heading heading = known_as (Procedure (length (known_parameters heading.parameters))) heading.name

-- Of declarations all names, in their order. The parameters and the declarations of a procedure are known up to the name behind its
-- END: behind a place where that name stands before it, none of them is.
abbrev mutual
  pub known_in : ℕ → Declarations → List Known
  known_in at (Declared constants types variables procedures) =
      known_constants constants ++ (known_types types ++ (known_variables variables ++ known_procedures at procedures))

  pub known_procedures : ℕ → Procedures → List Known
  known_procedures at no_procedure = []
  known_procedures at (procedure heading inner body end_name rest) =
      known_heading heading
      ∷ ((if nat_lt end_name.place at then [] else (known_parameters heading.parameters ++ known_in at inner)) ++ known_procedures at rest)
