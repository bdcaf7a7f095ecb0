-- Declarations and the module: what is left of each, by the token that stands there.
use Rattle.std.proofs.Common.{◌≡◌, ℕ, ◌+◌, ◌<◌, Bool, false, List, [], ◌∷◌, ◌++◌, Option, Some, None, refl, sym, ap, arith, ◌⊎◌, inl, inr, flat_map, append_assoc}
use Rattle.std.proofs.lemmas.List.{append-nil}
use Rattle.ob_scan.specs.declared.token.Kind.{Kind}
use Rattle.ob_scan.specs.Lexemes.{lexeme}
use Rattle.ob_grammar.specs.Tree
use Rattle.ob_grammar.specs.Tree.{Name, Expr, Stmts, TypeExpr, ConstDecl, TypeDecl, VarDecl, DeclarationPart, Section, Heading, Declarations, Procedures, no_procedure, ProcedureTree, Module}
use Rattle.ob_grammar.specs.Grammar
use Rattle.ob_grammar.specs.Grammar.{Lexemes, Phrase, Takes, TakesAt, TakesName, TakesWord, Perhaps, Separated, Expression, IdentList, IsType, ConstDeclaration, TypeDeclaration, VarDeclaration, FPSection, FormalParameters, ProcedureHeading, BodyPart, DeclarationsPart, ProcedureDeclaration, ProcedureDeclarations, ModuleText}
use Rattle.ob_grammar.specs.Limits.{deepest_nesting}
use Rattle.ob_grammar.specs.EndNamesAndNesting.{differing, in_expr, in_type, in_constants, in_types, in_variables, in_parameters, in_declarations, in_body, in_procedures}
use Rattle.ob_parser.specs.Reading.{Form, Sequel, behind_part, Stops, Reads, kind_at}
use Rattle.ob_parser.specs.Forms as forms
use Rattle.ob_parser.specs.Forms.{token, opens, Both, both, linked}
use Rattle.ob_scan.specs.Sources.{State}
use Rattle.ob_parser.specs.Answers.{Went}
use Rattle.ob_parser.proofs.Steps.{Leads, Follows, Fills, Begins, Passes, takes_same, no_takes_same, same_token, stops_at, not_stopped, nothing_stops, weaker, before, closed, across, across_last, fill_token, fill_both}
use Rattle.ob_parser.proofs.Phrases.{Optional, Repeated, Listed, begins_part, fill_perhaps, fill_word, passes_perhaps}
use Rattle.ob_parser.proofs.States.{Path, past_linked}
use Rattle.ob_parser.proofs.Openings.{not_deep}
use Rattle.ob_parser.proofs.Names.{begins_name, begins_ident_list, fill_name, fill_end_name}
use Rattle.ob_parser.proofs.Types.{One}
use Rattle.ob_parser.proofs.Statements.{optional_body, fill_body}

-- a phrase that more kinds of token continue
abbrev pub widened : {A : Type 0} → (Kind → Bool) → Form A → Form A
widened C F = record { relation = F.relation; continues = C; breaches = F.breaches }

pub leads_widened : {A : Type 0} {F : Form A} {C : Kind → Bool} {tokens : Lexemes} {p : ℕ} → ((k : Kind) → C k ≡ false → F.continues k ≡ false) →
    Leads (widened C F) tokens p F p (λ x. x)
leads_widened h = record {
  order = omega arith;
  within = λ h. h;
  into = λ other same x rest d. d;
  onto = λ other same y rest d stops. (y, refl, d, weaker h stops);
  breaches = λ x. refl;
}

-- ident "=" expression ";"

constant_only : {a rest : Lexemes} {y : ConstDecl} → ConstDeclaration a y rest →
    (x : Name × (ℕ × (Expr × ℕ))) × (y ≡ record { name = x.0; value = x.1.1.0 })
    × Both TakesName (Both (One Kind.Equal) (Both Expression (One Kind.Semicolon))) a x rest
constant_only (Grammar.constant {x = x} d t e u) = ((x.name, (t.0, (x.value, u.0))), refl, (_, d, (_, t.1, (_, e, u.1))))

pub leads_const_declaration : {n : ℕ} {tokens : Lexemes} {p : ℕ} →
    Leads (forms.const_declaration n) tokens p (both forms.name (both (token Kind.Equal) (both (forms.expression n) (token Kind.Semicolon)))) p
    (λ x. record { name = x.0; value = x.1.1.0 })
leads_const_declaration {n = n} = record {
  order = omega arith;
  within = λ h. h;
  into = λ other same x rest d. Grammar.constant d.1 (x.1.0, d.2.1) d.2.2.1 (x.1.1.1, d.2.2.2);
  onto = λ other same y rest d stops. (let m = constant_only d in (m.0, m.1, m.2, nothing_stops rest));
  breaches = λ x. sym (append-nil (in_expr n x.1.1.0));
}

pub repeated_constants : {n : ℕ} → Repeated forms.ident (flat_map (λ (c : ConstDecl). in_expr n c.value)) (forms.const_declaration n) Kind.Ident
repeated_constants = record {
  begins = record { begins = λ a x rest d. (let m = constant_only d in begins_name.begins a m.0.0 m.2.0 m.2.1) };
  more = refl;
  stops = refl;
  inner = λ k e. refl;
  none = refl;
  some = λ x xs. refl;
}

-- ["CONST" {ident "=" expression ";"}]

ident_of_constants : (k : Kind) → forms.constants_go_on k ≡ false → forms.ident k ≡ false
ident_of_constants Kind.Ident h = h
ident_of_constants _ h = refl

pub optional_constants : {n : ℕ} →
    Optional forms.constants_go_on (in_constants n) (forms.part Kind.Const (forms.const_declarations n)) Kind.Const
optional_constants {n = n} = record { begins = begins_part (forms.const_declarations n); absent = refl; inner = ident_of_constants; none = refl; some = λ x. refl }

-- ident "=" type ";"

type_only : {a rest : Lexemes} {y : TypeDecl} → TypeDeclaration a y rest →
    (x : Name × (ℕ × (TypeExpr × ℕ))) × (y ≡ record { name = x.0; definition = x.1.1.0 })
    × Both TakesName (Both (One Kind.Equal) (Both IsType (One Kind.Semicolon))) a x rest
type_only (Grammar.type' {x = x} d t e u) = ((x.name, (t.0, (x.definition, u.0))), refl, (_, d, (_, t.1, (_, e, u.1))))

pub leads_type_declaration : {n : ℕ} {tokens : Lexemes} {p : ℕ} →
    Leads (forms.type_declaration n) tokens p (both forms.name (both (token Kind.Equal) (both (forms.type_expr n) (token Kind.Semicolon)))) p
    (λ x. record { name = x.0; definition = x.1.1.0 })
leads_type_declaration {n = n} = record {
  order = omega arith;
  within = λ h. h;
  into = λ other same x rest d. Grammar.type' d.1 (x.1.0, d.2.1) d.2.2.1 (x.1.1.1, d.2.2.2);
  onto = λ other same y rest d stops. (let m = type_only d in (m.0, m.1, m.2, nothing_stops rest));
  breaches = λ x. sym (append-nil (in_type n x.1.1.0));
}

pub repeated_types : {n : ℕ} → Repeated forms.ident (flat_map (λ (t : TypeDecl). in_type n t.definition)) (forms.type_declaration n) Kind.Ident
repeated_types = record {
  begins = record { begins = λ a x rest d. (let m = type_only d in begins_name.begins a m.0.0 m.2.0 m.2.1) };
  more = refl;
  stops = refl;
  inner = λ k e. refl;
  none = refl;
  some = λ x xs. refl;
}

-- ["TYPE" {ident "=" type ";"}]

ident_of_types : (k : Kind) → forms.types_go_on k ≡ false → forms.ident k ≡ false
ident_of_types Kind.Ident h = h
ident_of_types _ h = refl

pub optional_types : {n : ℕ} →
    Optional forms.types_go_on (in_types n) (forms.part Kind.«Type» (forms.type_declarations n)) Kind.«Type»
optional_types {n = n} = record { begins = begins_part (forms.type_declarations n); absent = refl; inner = ident_of_types; none = refl; some = λ x. refl }

-- IdentList ":" type ";"

variables_only : {a rest : Lexemes} {y : VarDecl} → VarDeclaration a y rest →
    (x : List Name × (ℕ × (TypeExpr × ℕ))) × (y ≡ record { names = x.0; of_type = x.1.1.0 })
    × Both IdentList (Both (One Kind.Colon) (Both IsType (One Kind.Semicolon))) a x rest
variables_only (Grammar.variables {x = x} d t e u) = ((x.names, (t.0, (x.of_type, u.0))), refl, (_, d, (_, t.1, (_, e, u.1))))

pub leads_var_declaration : {n : ℕ} {tokens : Lexemes} {p : ℕ} →
    Leads (forms.var_declaration n) tokens p
    (both forms.ident_list (both (token Kind.Colon) (both (forms.type_expr n) (token Kind.Semicolon)))) p
    (λ x. record { names = x.0; of_type = x.1.1.0 })
leads_var_declaration {n = n} = record {
  order = omega arith;
  within = λ h. h;
  into = λ other same x rest d. Grammar.variables d.1 (x.1.0, d.2.1) d.2.2.1 (x.1.1.1, d.2.2.2);
  onto = λ other same y rest d stops. (let m = variables_only d in (m.0, m.1, m.2, nothing_stops rest));
  breaches = λ x. sym (append-nil (in_type n x.1.1.0));
}

pub repeated_variables : {n : ℕ} → Repeated forms.ident (flat_map (λ (v : VarDecl). in_type n v.of_type)) (forms.var_declaration n) Kind.Ident
repeated_variables = record {
  begins = record { begins = λ a x rest d. (let m = variables_only d in begins_ident_list.begins a m.0.0 m.2.0 m.2.1) };
  more = refl;
  stops = refl;
  inner = λ k e. refl;
  none = refl;
  some = λ x xs. refl;
}

-- ["VAR" {IdentList ":" type ";"}]

ident_of_variables : (k : Kind) → forms.variables_go_on k ≡ false → forms.ident k ≡ false
ident_of_variables Kind.Ident h = h
ident_of_variables _ h = refl

pub optional_variables : {n : ℕ} →
    Optional forms.variables_go_on (in_variables n) (forms.part Kind.Var (forms.var_declarations n)) Kind.Var
optional_variables {n = n} = record { begins = begins_part (forms.var_declarations n); absent = refl; inner = ident_of_variables; none = refl; some = λ x. refl }

-- FPSection = ["VAR"] IdentList ":" type

section_only : {a rest : Lexemes} {y : Section} → FPSection a y rest →
    (x : Bool × (List Name × (ℕ × TypeExpr))) × (y ≡ record { is_var = x.0; names = x.1.0; of_type = x.1.1.1 })
    × Both (TakesWord Kind.Var) (Both IdentList (Both (One Kind.Colon) IsType)) a x rest
section_only (Grammar.section {x = x} d e t f) = ((x.is_var, (x.names, (t.0, x.of_type))), refl, (_, d, (_, e, (_, t.1, f))))

pub leads_section : {n : ℕ} {tokens : Lexemes} {p : ℕ} →
    Leads (forms.section n) tokens p (both (forms.word forms.var Kind.Var) (both forms.ident_list (both (token Kind.Colon) (forms.type_expr n)))) p
    (λ x. record { is_var = x.0; names = x.1.0; of_type = x.1.1.1 })
leads_section = record {
  order = omega arith;
  within = λ h. h;
  into = λ other same x rest d. Grammar.section d.1 d.2.1 (x.1.1.0, d.2.2.1) d.2.2.2;
  onto = λ other same y rest d stops. (let m = section_only d in (m.0, m.1, m.2, nothing_stops rest));
  breaches = λ x. refl;
}

pub var_follows : {B : Type 0} (G : Form B) → Follows (forms.word forms.var Kind.Var) (both forms.ident_list G)
var_follows G = record { stops = λ a x rest d s. stops_at refl (begins_ident_list.begins a x.0 d.0 d.1).2 }

pub listed_sections : {n : ℕ} → Listed Kind.Semicolon forms.semicolon (flat_map (λ (s : Section). in_type n s.of_type)) (forms.section n)
listed_sections = record { more = refl; stops = refl; inner = λ k e. refl; none = refl; some = λ x xs. refl }

-- FormalParameters = "(" [FPSection {";" FPSection}] ")"

-- [FPSection {";" FPSection}] ")"
pub data InParens : Lexemes → List Section → Lexemes → Type 0 where
  empty : {a b : Lexemes} {place : ℕ} → TakesAt Kind.RightParen place a b → InParens a [] b
  filled : {a b c : Lexemes} {xs : List Section} {place : ℕ} →
      Separated Kind.Semicolon FPSection a xs b → TakesAt Kind.RightParen place b c → InParens a xs c

abbrev pub in_parens : ℕ → Form (List Section)
in_parens n = record { relation = InParens; continues = forms.nothing; breaches = flat_map (λ (s : Section). in_type n s.of_type) }

parens_into : {a b c : Lexemes} {place : ℕ} {xs : List Section} → TakesAt Kind.LeftParen place a b → InParens b xs c → FormalParameters a xs c
parens_into {place = place} t (empty {place = q} u) = Grammar.no_formal (place, t) (q, u)
parens_into {place = place} t (filled {place = q} d u) = Grammar.sections (place, t) d (q, u)

parens_only : {a rest : Lexemes} {y : List Section} → FormalParameters a y rest →
    (x : ℕ × List Section) × (y ≡ x.1) × Both (One Kind.LeftParen) InParens a x rest
parens_only (Grammar.no_formal t u) = ((t.0, []), refl, (_, t.1, empty u.1))
parens_only (Grammar.sections {xs = xs} t d u) = ((t.0, xs), refl, (_, t.1, filled d u.1))

pub leads_parens : {n : ℕ} {tokens : Lexemes} {p : ℕ} →
    Leads (forms.formal_parameters n) tokens p (both (token Kind.LeftParen) (in_parens n)) p (λ x. x.1)
leads_parens = record {
  order = omega arith;
  within = λ h. h;
  into = λ other same x rest d. parens_into d.1 d.2;
  onto = λ other same y rest d stops. (let m = parens_only d in (m.0, m.1, m.2, nothing_stops rest));
  breaches = λ x. refl;
}

word_begins : {a b : Lexemes} {y : Bool} → TakesWord Kind.Var a y b →
    ((place : ℕ) × (c : Lexemes) × TakesAt Kind.Ident place b c) →
    ((place : ℕ) × (c : Lexemes) × TakesAt Kind.Var place a c) ⊎ ((place : ℕ) × (c : Lexemes) × TakesAt Kind.Ident place a c)
word_begins Grammar.absent h = inr h
word_begins (Grammar.present {b = b} t) h = inl (t.0, b, t.1)

-- no section begins with ")"
no_section : {a b rest : Lexemes} {place : ℕ} {y : Section} → TakesAt Kind.RightParen place a b → FPSection a y rest → ⊥
no_section t d =
    let m = section_only d in
    elim (word_begins m.2.1 (begins_ident_list.begins m.2.0 m.0.1.0 m.2.2.0 m.2.2.1)) [
      | inl v ↦ (let e = (same_token t v.2).0 in absurd (cc))
      | inr v ↦ (let e = (same_token t v.2).0 in absurd (cc))
    ]

no_sections : {a b rest : Lexemes} {place : ℕ} {y : List Section} → TakesAt Kind.RightParen place a b →
    Separated Kind.Semicolon FPSection a y rest → ⊥
no_sections t (Grammar.one d) = no_section t d
no_sections t (Grammar.more d u e) = no_section t d

empty_only : {a b rest : Lexemes} {place : ℕ} {y : List Section} → TakesAt Kind.RightParen place a b → InParens a y rest →
    (x : ℕ) × (y ≡ []) × TakesAt Kind.RightParen x a rest
empty_only t (empty {place = place} u) = (place, refl, u)
empty_only t (filled d u) = absurd (no_sections t d)

pub leads_empty : {n : ℕ} {tokens : Lexemes} {p : ℕ} → kind_at tokens p ≡ Some Kind.RightParen →
    Leads (in_parens n) tokens p (token Kind.RightParen) p (λ x. [])
leads_empty here = record {
  order = omega arith;
  within = λ h. h;
  into = λ other same x rest d. empty d;
  onto = λ other same y rest d stops. (let m = empty_only (takes_same other here same) d in (m.0, m.1, m.2, nothing_stops rest));
  breaches = λ x. refl;
}

filled_only : {a rest : Lexemes} {y : List Section} → ((place : ℕ) (b : Lexemes) → TakesAt Kind.RightParen place a b → ⊥) → InParens a y rest →
    (x : List Section × ℕ) × (y ≡ x.0) × Both (Separated Kind.Semicolon FPSection) (One Kind.RightParen) a x rest
filled_only h (empty {b = b} {place = place} u) = absurd (h place b u)
filled_only h (filled {xs = xs} {place = place} d u) = ((xs, place), refl, (_, d, u))

pub leads_filled : {n : ℕ} {tokens : Lexemes} {p : ℕ} → (kind_at tokens p ≡ Some Kind.RightParen → ⊥) →
    Leads (in_parens n) tokens p (both (forms.sections n) (token Kind.RightParen)) p (λ x. x.0)
leads_filled {n = n} missing = record {
  order = omega arith;
  within = λ h. h;
  into = λ other same x rest d. filled d.1 d.2;
  onto = λ other same y rest d stops.
      (let m = filled_only (λ place b t. no_takes_same missing same t) d in (m.0, m.1, m.2, nothing_stops rest));
  breaches = λ x. sym (append-nil (flat_map (λ (s : Section). in_type n s.of_type) x.0));
}

pub fill_in_parens : {n : ℕ} → Fills (in_parens n)
fill_in_parens =
    let f = fill_token {kind = Kind.RightParen} in
    record { more = f.more; tree = []; derives = λ rest. empty (f.derives rest); kept = refl }

-- [FormalParameters]

pub optional_parameters : {n : ℕ} → Optional forms.left_paren (in_parameters n) (forms.formal_parameters n) Kind.LeftParen
optional_parameters = record {
  begins = record { begins = λ a x rest d. (let m = parens_only d in (m.0.0, m.2.0, m.2.1)) };
  absent = refl;
  inner = λ k e. refl;
  none = refl;
  some = λ x. refl;
}

-- ProcedureHeading = "PROCEDURE" ident ["*"] [FormalParameters]

-- the parameters of a heading, where "*" may stand before them
abbrev pub last_parameters : ℕ → Form (Option (List Section))
last_parameters n = widened forms.heading_goes_on (forms.parameters n)

only_left_paren : (k : Kind) → forms.heading_goes_on k ≡ false → forms.left_paren k ≡ false
only_left_paren Kind.LeftParen h = h
only_left_paren _ h = refl

pub leads_parameters : {n : ℕ} {tokens : Lexemes} {p : ℕ} → Leads (last_parameters n) tokens p (forms.parameters n) p (λ x. x)
leads_parameters = leads_widened only_left_paren

-- what stands behind PROCEDURE
abbrev pub in_heading : ℕ → Form (Name × (Bool × Option (List Section)))
in_heading n = both forms.name (both (forms.word forms.times Kind.Times) (last_parameters (n + 1)))

heading_only : {a rest : Lexemes} {y : Heading} → ProcedureHeading a y rest →
    (x : ℕ × (Name × (Bool × Option (List Section))))
    × (y ≡ record { place = x.0; name = x.1.0; is_exported = x.1.1.0; parameters = x.1.1.1 })
    × Both (One Kind.Procedure) (Both TakesName (Both (TakesWord Kind.Times) (Perhaps FormalParameters))) a x rest
heading_only (Grammar.heading {h = h} t d w e) =
    ((h.place, (h.name, (h.is_exported, h.parameters))), refl, (_, t, (_, d, (_, w, e))))

pub leads_heading : (n : ℕ) {tokens : Lexemes} {p : ℕ} →
    Leads (forms.heading n) tokens p (both (opens n Kind.Procedure) (in_heading n)) p
    (λ x. record { place = x.0; name = x.1.0; is_exported = x.1.1.0; parameters = x.1.1.1 })
leads_heading n = record {
  order = omega arith;
  within = λ h. h;
  into = λ other same x rest d. Grammar.heading d.1 d.2.1 d.2.2.1 d.2.2.2;
  onto = λ other same y rest d stops. (let m = heading_only d in (m.0, m.1, m.2, stops));
  breaches = λ x. refl;
}

begins_heading : (n : ℕ) → Begins (forms.heading n) Kind.Procedure
begins_heading n = record { begins = λ a x rest d. (let m = heading_only d in (m.0.0, m.2.0, m.2.1)) }

only_times : (k : Kind) → forms.heading_goes_on k ≡ false → forms.times k ≡ false
only_times Kind.Times h = h
only_times _ h = refl

pub fill_last_parameters : {n : ℕ} → Fills (last_parameters n)
fill_last_parameters {n = n} =
    let f = fill_perhaps (optional_parameters {n = n}) in
    record { more = f.more; tree = f.tree; derives = f.derives; kept = f.kept }

pub fill_times : Fills (forms.word forms.times Kind.Times)
fill_times = fill_word

pub fill_in_heading : (n : ℕ) → Fills (in_heading n)
fill_in_heading n = fill_both fill_name (fill_both fill_times fill_last_parameters)

pub times_follows : {n : ℕ} → Follows (forms.word forms.times Kind.Times) (last_parameters n)
times_follows {n = n} =
    let p = passes_perhaps {F = forms.word forms.times Kind.Times} (optional_parameters {n = n}) refl in
    across_last (record { passes = p.passes }) only_times

-- the token that opens a procedure, where it may
pub leads_open : {n : ℕ} {kind : Kind} {tokens : Lexemes} {p : ℕ} → n < deepest_nesting → Leads (opens n kind) tokens p (token kind) p (λ x. x)
leads_open shallow = record {
  order = omega arith;
  within = λ h. h;
  into = λ other same x rest d. d;
  onto = λ other same y rest d stops. (y, refl, d, stops);
  breaches = λ place. not_deep shallow place;
}

-- ProcedureDeclaration = ProcedureHeading ";" declarations ["BEGIN" StatementSequence] "END" ident

-- what stands behind the heading of a procedure
abbrev pub behind_procedure : ℕ → Heading → Form (ℕ × (Declarations × (Option Stmts × (ℕ × Name))))
behind_procedure n h = forms.block (n + 1) h.name

abbrev pub behind_heading : ℕ → Sequel Heading (ℕ × (Declarations × (Option Stmts × (ℕ × Name))))
behind_heading n = record {
  relation = Both (One Kind.Semicolon) (Both DeclarationsPart (Both BodyPart (Both (One Kind.End) TakesName)));
  continues = forms.nothing;
  breaches = λ h. (behind_procedure n h).breaches;
}

procedure_only : {a rest : Lexemes} {y : ProcedureTree} → ProcedureDeclaration a y rest →
    (x : Heading × (ℕ × (Declarations × (Option Stmts × (ℕ × Name)))))
    × (y ≡ record { heading = x.0; declarations = x.1.1.0; body = x.1.1.1.0; end_name = x.1.1.1.1.1 })
    × Both ProcedureHeading (Both (One Kind.Semicolon) (Both DeclarationsPart (Both BodyPart (Both (One Kind.End) TakesName)))) a x rest
procedure_only (Grammar.declares {x = x} d t e f u g) = (
  (x.heading, (t.0, (x.declarations, (x.body, (u.0, x.end_name))))),
  refl,
  (_, d, (_, t.1, (_, e, (_, f, (_, u.1, g))))),
)

pub leads_procedure : (n : ℕ) {tokens : Lexemes} {p : ℕ} →
    Leads (forms.procedure_declaration n) tokens p (linked (forms.heading n) (behind_heading n)) p
    (λ x. record { heading = x.0; declarations = x.1.1.0; body = x.1.1.1.0; end_name = x.1.1.1.1.1 })
leads_procedure n = record {
  order = omega arith;
  within = λ h. h;
  into = λ other same x rest d. Grammar.declares d.1 (x.1.0, d.2.1) d.2.2.1 d.2.2.2.1 (x.1.1.1.1.0, d.2.2.2.2.1) d.2.2.2.2.2;
  onto = λ other same y rest d stops. (let m = procedure_only d in (m.0, m.1, m.2, nothing_stops rest));
  breaches = λ x. refl;
}

pub heading_follows : (n : ℕ) (h : Heading) → Follows (forms.heading n) (behind_part (behind_heading n) h)
heading_follows n h = record { stops = λ a x rest d s. stops_at refl d.1 }

-- what stands behind the declarations of a procedure with this name
pub fill_end : (n : ℕ) (name : Name) → Fills (both (forms.body n) (both (token Kind.End) (forms.end_name name)))
fill_end n name = fill_both fill_body (fill_both fill_token (fill_end_name name))

pub fill_declarations : {n : ℕ} → Fills (forms.declarations n)
fill_declarations = record {
  more = [];
  tree = Tree.Declared None None None no_procedure;
  derives = λ rest. Grammar.declarations Grammar.absent Grammar.absent Grammar.absent Grammar.no_more_procedures;
  kept = refl;
}

pub fill_block : (n : ℕ) (name : Name) → Fills (forms.block n name)
fill_block n name = fill_both fill_token (fill_both fill_declarations (fill_end n name))

pub fill_behind_heading : (n : ℕ) (h : Heading) → Fills (behind_part (behind_heading n) h)
fill_behind_heading n h = fill_block (n + 1) h.name

-- behind the heading
pub past_heading : {A : Type 0} {F : Form A} (n : ℕ) {s t u : State} {f : Heading × (ℕ × (Declarations × (Option Stmts × (ℕ × Name)))) → A} {x : Heading} →
    Path F s (linked (forms.heading n) (behind_heading n)) t f → Went (forms.heading n) t x u → Path F s (behind_procedure n x) u (λ y. f (x, y))
past_heading n way went = past_linked way (heading_follows n) went

-- what stands behind the declarations does not go on with them
pub declarations_follow : {B : Type 0} {n : ℕ} (G : Form B) → Follows (forms.declarations n) (both (forms.body n) (both (token Kind.End) G))
declarations_follow G = across (passes_perhaps optional_body refl) (before G refl)

-- {ProcedureDeclaration ";"}

procedures_into : {a b c d : Lexemes} {place : ℕ} {x : ProcedureTree} {rest : Procedures} →
    ProcedureDeclaration a x b → TakesAt Kind.Semicolon place b c → ProcedureDeclarations c rest d →
    ProcedureDeclarations a (Tree.procedure x.heading x.declarations x.body x.end_name rest) d
procedures_into {place = place} d v h = Grammar.procedure d (place, v) h

procedures_only : {a b rest : Lexemes} {place : ℕ} {y : Procedures} → TakesAt Kind.Procedure place a b → ProcedureDeclarations a y rest →
    Stops forms.procedures_go_on rest →
    (x : ProcedureTree × (ℕ × Procedures)) × (y ≡ Tree.procedure x.0.heading x.0.declarations x.0.body x.0.end_name x.1.1)
    × Both ProcedureDeclaration (Both (One Kind.Semicolon) ProcedureDeclarations) a x rest
procedures_only t Grammar.no_more_procedures s = absurd (not_stopped refl t s)
procedures_only t (Grammar.procedure {head = head} {inner = inner} {body = body} {end_name = end_name} {rest = rest} d w h) s =
    let x : ProcedureTree = record { heading = head; declarations = inner; body = body; end_name = end_name } in
    ((x, (w.0, rest)), refl, (_, d, (_, w.1, h)))

pub leads_procedures : {n : ℕ} {tokens : Lexemes} {p : ℕ} → kind_at tokens p ≡ Some Kind.Procedure →
    Leads (forms.procedures n) tokens p (both (forms.procedure_declaration n) (both (token Kind.Semicolon) (forms.procedures n))) p
    (λ x. Tree.procedure x.0.heading x.0.declarations x.0.body x.0.end_name x.1.1)
leads_procedures here = record {
  order = omega arith;
  within = λ h. h;
  into = λ other same x rest d. procedures_into d.1 d.2.1 d.2.2;
  onto = λ other same y rest d stops. (let m = procedures_only (takes_same other here same) d stops in (m.0, m.1, m.2, stops));
  breaches = λ x. refl;
}

no_procedures : {a rest : Lexemes} {y : Procedures} → ((place : ℕ) (b : Lexemes) → TakesAt Kind.Procedure place a b → ⊥) →
    ProcedureDeclarations a y rest → (y ≡ no_procedure) × (rest ≡ a)
no_procedures h Grammar.no_more_procedures = (refl, refl)
no_procedures h (Grammar.procedure {head = head} (Grammar.declares d u e f v g) w i) =
    let m = (begins_heading 0).begins _ head _ d in absurd (h m.0 m.1 m.2)

pub reads_no_procedures : {n : ℕ} {tokens : Lexemes} {p : ℕ} → (kind_at tokens p ≡ Some Kind.Procedure → ⊥) →
    Reads (forms.procedures n) tokens p no_procedure p
reads_no_procedures missing = record {
  order = omega arith;
  within = λ h. h;
  sound = λ other same. Grammar.no_more_procedures;
  only = λ other same y rest d stops. no_procedures (λ place b t. no_takes_same missing same t) d;
  kept = refl;
}

pub fill_procedures : {n : ℕ} → Fills (forms.procedures n)
fill_procedures = record { more = []; tree = no_procedure; derives = λ rest. Grammar.no_more_procedures; kept = refl }

procedures_stop : {C : Kind → Bool} {a rest : Lexemes} {y : Procedures} → C Kind.Procedure ≡ false → ProcedureDeclarations a y rest →
    Stops C rest → Stops C a
procedures_stop e Grammar.no_more_procedures s = s
procedures_stop e (Grammar.procedure {head = head} (Grammar.declares d u f g v h) w i) s = stops_at e ((begins_heading 0).begins _ head _ d).2

-- a procedure from its PROCEDURE on, with those behind it

-- what stands behind PROCEDURE
pub data BehindKeyword : Lexemes → ProcedureTree × Procedures → Lexemes → Type 0 where
  behind_keyword : {a b c d e f g h i j k : Lexemes} {x : ProcedureTree} {rest : Procedures} →
      TakesName a x.heading.name b → TakesWord Kind.Times b x.heading.is_exported c → Perhaps FormalParameters c x.heading.parameters d →
      Takes Kind.Semicolon d e → DeclarationsPart e x.declarations f → BodyPart f x.body g → Takes Kind.End g h →
      TakesName h x.end_name i → Takes Kind.Semicolon i j → ProcedureDeclarations j rest k →
      BehindKeyword a (x, rest) k

abbrev pub behind_keyword_form : ℕ → Form (ProcedureTree × Procedures)
behind_keyword_form n = record {
  relation = BehindKeyword;
  continues = forms.procedures_go_on;
  breaches = λ x.
      in_parameters (n + 1) x.0.heading.parameters
      ++ ((in_declarations (n + 1) x.0.declarations ++ (in_body (n + 1) x.0.body ++ differing x.0.heading.name x.0.end_name)) ++ in_procedures n x.1);
}

-- the procedure whose PROCEDURE stands at this place, in front of others
abbrev pub opened_procedure : ℕ × (ProcedureTree × Procedures) → Procedures
opened_procedure x =
    let h = x.1.0.heading in
    Tree.procedure (record { place = x.0; name = h.name; is_exported = h.is_exported; parameters = h.parameters })
    x.1.0.declarations x.1.0.body x.1.0.end_name x.1.1

opened_into : {a b c : Lexemes} {place : ℕ} {x : ProcedureTree × Procedures} → TakesAt Kind.Procedure place a b → BehindKeyword b x c →
    ProcedureDeclarations a (opened_procedure (place, x)) c
opened_into t (behind_keyword d w e u f g v h i k) = Grammar.procedure (Grammar.declares (Grammar.heading t d w e) u f g v h) i k

opened_only : {a b rest : Lexemes} {place : ℕ} {y : Procedures} → TakesAt Kind.Procedure place a b → ProcedureDeclarations a y rest →
    Stops forms.procedures_go_on rest →
    (x : ℕ × (ProcedureTree × Procedures)) × (y ≡ opened_procedure x) × Both (One Kind.Procedure) BehindKeyword a x rest
opened_only t Grammar.no_more_procedures s = absurd (not_stopped refl t s)
opened_only t
    (Grammar.procedure {head = head} {inner = inner} {body = body} {end_name = end_name} {rest = rest} (Grammar.declares (Grammar.heading k d w e) u f g v h) i j) s =
    let x : ProcedureTree = record { heading = head; declarations = inner; body = body; end_name = end_name } in
    ((head.place, (x, rest)), refl, (_, k, behind_keyword {x = x} d w e u f g v h i j))

pub leads_opened : {n : ℕ} {tokens : Lexemes} {p : ℕ} → kind_at tokens p ≡ Some Kind.Procedure →
    Leads (forms.procedures n) tokens p (both (opens n Kind.Procedure) (behind_keyword_form n)) p opened_procedure
leads_opened {n = n} here = record {
  order = omega arith;
  within = λ h. h;
  into = λ other same x rest d. opened_into d.1 d.2;
  onto = λ other same y rest d stops. (let m = opened_only (takes_same other here same) d stops in (m.0, m.1, m.2, stops));
  breaches = λ x. simp append_assoc;
}

pub fill_behind_keyword : (n : ℕ) → Fills (behind_keyword_form n)
fill_behind_keyword n =
    let name : Name = record { text = []; place = 0 } in
    let heading : Heading = record { place = 0; name = name; is_exported = false; parameters = None } in
    let semicolon = lexeme Kind.Semicolon 0 [] in
    let ident = lexeme Kind.Ident 0 [] in
    record {
      more = ident ∷ semicolon ∷ lexeme Kind.End 0 [] ∷ ident ∷ semicolon ∷ [];
      tree = (record { heading = heading; declarations = Tree.Declared None None None no_procedure; body = None; end_name = name }, no_procedure);
      derives = λ rest.
          behind_keyword Grammar.takes Grammar.absent Grammar.absent (0, Grammar.takes)
          (Grammar.declarations Grammar.absent Grammar.absent Grammar.absent Grammar.no_more_procedures) Grammar.absent (0, Grammar.takes)
          Grammar.takes (0, Grammar.takes) Grammar.no_more_procedures;
      kept = refl;
    }

-- declarations = ["CONST" {ident "=" expression ";"}] ["TYPE" {ident "=" type ";"}]
--   ["VAR" {IdentList ":" type ";"}] {ProcedureDeclaration ";"}

-- the procedures behind other declarations
abbrev pub last_procedures : ℕ → Form Procedures
last_procedures n = widened forms.declarations_go_on (forms.procedures n)

only_procedures : (k : Kind) → forms.declarations_go_on k ≡ false → forms.procedures_go_on k ≡ false
only_procedures Kind.Procedure h = h
only_procedures _ h = refl

pub leads_last_procedures : {n : ℕ} {tokens : Lexemes} {p : ℕ} → Leads (last_procedures n) tokens p (forms.procedures n) p (λ x. x)
leads_last_procedures = leads_widened only_procedures

pub fill_last_procedures : {n : ℕ} → Fills (last_procedures n)
fill_last_procedures = record { more = []; tree = no_procedure; derives = λ rest. Grammar.no_more_procedures; kept = refl }

passes_procedures : {A : Type 0} {F : Form A} {n : ℕ} → F.continues Kind.Procedure ≡ false → Passes F (last_procedures n)
passes_procedures e = record { passes = λ a x rest d s. procedures_stop e d s }

declarations_only : (n : ℕ) {a rest : Lexemes} {y : Declarations} → DeclarationsPart a y rest →
    (x : Option (DeclarationPart ConstDecl) × (Option (DeclarationPart TypeDecl) × (Option (DeclarationPart VarDecl) × Procedures)))
    × (y ≡ Tree.Declared x.0 x.1.0 x.1.1.0 x.1.1.1)
    × (both (forms.constants n) (both (forms.types n) (both (forms.variables n) (last_procedures n)))).relation a x rest
declarations_only n (Grammar.declarations {constants = constants} {types = types} {variables = variables} {procedures = procedures} d e f g) =
    ((constants, (types, (variables, procedures))), refl, (_, d, (_, e, (_, f, g))))

pub leads_declarations : {n : ℕ} {tokens : Lexemes} {p : ℕ} →
    Leads (forms.declarations n) tokens p (both (forms.constants n) (both (forms.types n) (both (forms.variables n) (last_procedures n)))) p
    (λ x. Tree.Declared x.0 x.1.0 x.1.1.0 x.1.1.1)
leads_declarations {n = n} = record {
  order = omega arith;
  within = λ h. h;
  into = λ other same x rest d. Grammar.declarations d.1 d.2.1 d.2.2.1 d.2.2.2;
  onto = λ other same y rest d stops. (let m = declarations_only n d in (m.0, m.1, m.2, stops));
  breaches = λ x. refl;
}

only_constants : (k : Kind) → forms.declarations_go_on k ≡ false → forms.constants_go_on k ≡ false
only_constants Kind.Const h = h
only_constants Kind.Ident h = h
only_constants _ h = refl

only_types : (k : Kind) → forms.declarations_go_on k ≡ false → forms.types_go_on k ≡ false
only_types Kind.«Type» h = h
only_types Kind.Ident h = h
only_types _ h = refl

only_variables : (k : Kind) → forms.declarations_go_on k ≡ false → forms.variables_go_on k ≡ false
only_variables Kind.Var h = h
only_variables Kind.Ident h = h
only_variables _ h = refl

pub constants_follow : {n : ℕ} → Follows (forms.constants n) (both (forms.types n) (both (forms.variables n) (last_procedures n)))
constants_follow =
    across (passes_perhaps optional_types refl) (across (passes_perhaps optional_variables refl) (across_last (passes_procedures refl) only_constants))

pub types_follow : {n : ℕ} → Follows (forms.types n) (both (forms.variables n) (last_procedures n))
types_follow = across (passes_perhaps optional_variables refl) (across_last (passes_procedures refl) only_types)

pub variables_follow : {n : ℕ} → Follows (forms.variables n) (last_procedures n)
variables_follow = across_last (passes_procedures refl) only_variables

pub fill_behind_types : {n : ℕ} → Fills (both (forms.variables n) (last_procedures n))
fill_behind_types = fill_both (fill_perhaps optional_variables) fill_last_procedures

pub fill_behind_constants : {n : ℕ} → Fills (both (forms.types n) (both (forms.variables n) (last_procedures n)))
fill_behind_constants = fill_both (fill_perhaps optional_types) fill_behind_types

-- module = "MODULE" ident ";" declarations ["BEGIN" StatementSequence] "END" ident "."

-- what stands behind the name of a module
abbrev pub in_module : Name → Form ((ℕ × (Declarations × (Option Stmts × (ℕ × Name)))) × ℕ)
in_module n = both (forms.block 0 n) (token Kind.Dot)

abbrev pub behind_name : Sequel Name ((ℕ × (Declarations × (Option Stmts × (ℕ × Name)))) × ℕ)
behind_name = record {
  relation = Both (Both (One Kind.Semicolon) (Both DeclarationsPart (Both BodyPart (Both (One Kind.End) TakesName)))) (One Kind.Dot);
  continues = forms.nothing;
  breaches = λ n. (in_module n).breaches;
}

module_only : {a rest : Lexemes} {y : Module} → ModuleText a y rest →
    (x : ℕ × (Name × ((ℕ × (Declarations × (Option Stmts × (ℕ × Name)))) × ℕ)))
    × (y ≡ record { name = x.1.0; declarations = x.1.1.0.1.0; body = x.1.1.0.1.1.0; end_name = x.1.1.0.1.1.1.1 })
    × Both (One Kind.Module) (Both TakesName behind_name.relation) a x rest
module_only (Grammar.module' {m = m} t d u e f v g w) = (
  (t.0, (m.name, ((u.0, (m.declarations, (m.body, (v.0, m.end_name)))), w.0))),
  refl,
  (_, t.1, (_, d, (_, (_, u.1, (_, e, (_, f, (_, v.1, g)))), w.1))),
)

pub leads_module : {tokens : Lexemes} {p : ℕ} →
    Leads forms.module_text tokens p (both (token Kind.Module) (linked forms.name behind_name)) p
    (λ x. record { name = x.1.0; declarations = x.1.1.0.1.0; body = x.1.1.0.1.1.0; end_name = x.1.1.0.1.1.1.1 })
leads_module = record {
  order = omega arith;
  within = λ h. h;
  into = λ other same x rest d.
      (let block = d.2.2.1 in
      Grammar.module' (x.0, d.1) d.2.1 (x.1.1.0.0, block.1) block.2.1 block.2.2.1 (x.1.1.0.1.1.1.0, block.2.2.2.1) block.2.2.2.2 (x.1.1.1, d.2.2.2));
  onto = λ other same y rest d stops. (let m = module_only d in (m.0, m.1, m.2, nothing_stops rest));
  breaches = λ x. sym (append-nil (in_declarations 0 x.1.1.0.1.0 ++ (in_body 0 x.1.1.0.1.1.0 ++ differing x.1.0 x.1.1.0.1.1.1.1)));
}

pub name_follows : (n : Name) → Follows forms.name (behind_part behind_name n)
name_follows n = closed (λ k. refl)

pub fill_behind_name : (n : Name) → Fills (behind_part behind_name n)
fill_behind_name n = fill_both (fill_block 0 n) fill_token

-- behind the name
pub past_name : {A : Type 0} {F : Form A} {s t u : State} {f : Name × ((ℕ × (Declarations × (Option Stmts × (ℕ × Name)))) × ℕ) → A} {x : Name} →
    Path F s (linked forms.name behind_name) t f → Went forms.name t x u → Path F s (in_module x) u (λ y. f (x, y))
past_name way went = past_linked way name_follows went
