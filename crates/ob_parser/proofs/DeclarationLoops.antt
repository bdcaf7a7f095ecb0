-- What the loops on types and declarations have read, in front of what is left.
use Rattle.std.proofs.Common.{◌≡◌, List, [], ◌∷◌, ◌++◌, refl, ◌∙◌, ap, Vec, Global, Option, option_map}
use mathlib.Core.Former.{Count}
use Rattle.ob_grammar.specs.declared.tree.FieldList.{FieldList}
use Rattle.ob_grammar.specs.declared.tree.FieldList.TheVariants.{Empty, Fields}
use Rattle.ob_parser.specs.declared.parser.declarations.Heading.{Heading}
use Rattle.ob_grammar.specs.declared.tree.Name.{Name}
use Rattle.ob_grammar.specs.declared.tree.Stmt.{Stmt}
use Rattle.ob_grammar.specs.declared.tree.Constants.{Constants}
use Rattle.ob_grammar.specs.declared.tree.Types.{Types}
use Rattle.ob_grammar.specs.declared.tree.Variables.{Variables}
use Rattle.ob_grammar.specs.declared.tree.Procedure.{Procedure}
use Rattle.ob_grammar.specs.declared.tree.Declarations.{Declarations, Declarations', Row_of-Procedure, items_hidden-the_row-Procedure-0}
use Rattle.ob_grammar.specs.declared.tree.Declarations.TheViews.{roll-Declarations, roll-Procedure, out-Procedure}
use Rattle.ob_grammar.specs.declared.tree.Declarations.TheBlock.{hidden-the_row-Procedure-0}
use denote.Hole.Carrier.{roll, out}
use Rattle.ob_grammar.specs.Tree
use Rattle.ob_grammar.specs.Tree.{FieldLists, Procedures}
use Rattle.ob_grammar.specs.View.{fields_in, name_of, constants_of, types_of, variables_of, declarations_of, procedure_before, procedures_in, stmts_in}
use Rattle.ob_parser.specs.Forms.{list_in_front}
use Rattle.ob_parser.specs.Answers.{field_list_of, procedure_of, heading_in}
use Rattle.ob_grammar.proofs.Rows.{procedures_row}

-- field lists

abbrev pub fields_before : List FieldList → FieldLists → FieldLists
fields_before [] rest = rest
fields_before (x ∷ xs) rest = list_in_front (field_list_of x) (fields_before xs rest)

pub fields_before-push : (xs : List FieldList) (x : FieldList) (rest : FieldLists) →
    fields_before xs (list_in_front (field_list_of x) rest) ≡ fields_before (xs ++ x ∷ []) rest
fields_before-push [] x rest = refl
fields_before-push (y ∷ xs) x rest = ap (list_in_front (field_list_of y)) (fields_before-push xs x rest)

pub fields_before-end : (xs : List FieldList) → fields_before xs Tree.no_list ≡ fields_in xs
fields_before-end [] = refl
fields_before-end (Empty ∷ xs) = ap Tree.empty_list (fields_before-end xs)
fields_before-end (Fields names t ∷ xs) = ap (list_in_front (field_list_of (Fields names t))) (fields_before-end xs)

-- procedures

abbrev pub procedures_before : List Procedure → Procedures → Procedures
procedures_before [] rest = rest
procedures_before (p ∷ ps) rest = procedure_before p (procedures_before ps rest)

pub procedures_before-push : (ps : List Procedure) (p : Procedure) (rest : Procedures) →
    procedures_before ps (procedure_before p rest) ≡ procedures_before (ps ++ p ∷ []) rest
procedures_before-push [] p rest = refl
procedures_before-push (q ∷ ps) p rest = ap (procedure_before q) (procedures_before-push ps p rest)

pub procedures_before-end : (ps : List Procedure) → procedures_before ps Tree.no_procedure ≡ procedures_in ps
procedures_before-end [] = refl
procedures_before-end (p ∷ ps) = ap (procedure_before p) (procedures_before-end ps)

abbrev procedure_row_of : Declarations → (n : Count) × Row_of-Procedure n
procedure_row_of (Declarations' constants types variables shape procedures) = (_, procedures)

-- declarations, with their procedures as a list
pub declarations_of-declared : (constants : Option Constants) (types : Option Types) (variables : Option Variables)
    (procedures : Vec Procedure Global) →
    declarations_of (roll-Declarations (record { constants = constants; types = types; variables = variables; procedures = procedures }))
    ≡ Tree.Declared (option_map constants_of constants) (option_map types_of types)
    (option_map variables_of variables) (procedures_in procedures.items)
unfolding roll-Declarations hidden-the_row-Procedure-0 roll
declarations_of-declared constants types variables procedures =
    let made = roll-Declarations (record { constants = constants; types = types; variables = variables; procedures = procedures }) in
    let row = procedure_row_of made in
    ap (Tree.Declared (option_map constants_of constants) (option_map types_of types)
    (option_map variables_of variables))
    (procedures_row row.0 row.1 ∙ ap procedures_in (items_hidden-the_row-Procedure-0 procedures))

-- a procedure, from its parts
pub procedure_of-made : (heading : Heading) (declarations : Declarations) (body : Option (Vec Stmt Global)) (end_name : Name) →
    procedure_of (roll-Procedure (record {
      place = heading.place;
      name = heading.name;
      is_exported = heading.is_exported;
      parameters = heading.parameters;
      declarations = declarations;
      body = body;
      end_name = end_name;
    }))
    ≡ record { heading = heading_in heading; declarations = declarations_of declarations; body = option_map (λ ss. stmts_in ss.items) body; end_name = name_of end_name }
unfolding roll-Procedure out-Procedure roll out
procedure_of-made heading declarations body end_name = refl
