-- A derivation keeps the words: the tokens of a phrase, printed, are the words of its tree.
use Rattle.std.proofs.Common.{◌≡◌, ℕ, pos, Bool, List, [], ◌∷◌, ◌++◌, Option, Some, refl, sym, ◌∙◌, ap, subst, map, append_assoc, append-nil, flat_map}
use Rattle.std.specs.Prelude.{if◌then◌else◌}
use Rattle.std.specs.Option.{unwrap_or}
use Rattle.std.specs.Fmt.{signed_decimal}
use Rattle.ob_scan.specs.declared.token.Kind.{Kind}
use Rattle.ob_scan.specs.Spelling.{fixed_spelling, number_value}
use Rattle.ob_scan.specs.Lexemes.{Lexeme, lexeme}
use Rattle.ob_grammar.specs.declared.tree.Operator.{Operator}
use Rattle.ob_grammar.specs.declared.tree.Sign.{Sign}
use Rattle.ob_grammar.specs.Tree.{Name, Expr, Operands, Selectors, TypeExpr, FieldLists, Stmt, Stmts, Branches, Otherwise, ConstDecl, TypeDecl, VarDecl, DeclarationPart, Section, Heading, Declarations, Procedures, Module}
use Rattle.ob_grammar.specs.Grammar
use Rattle.ob_grammar.specs.Grammar.{Lexemes, Phrase, TakesAt, Takes, TakesName, TakesWord, Each, Separated, Perhaps, Behind, PartBehind, IsRelation, IsAddition, IsMultiplication, TakesSign, Expression, SimpleExpression, Terms, Term, Factors, Factor, Selector, IdentList, IsType, FieldListSequence, MoreFields, ActualParameters, Statement, StatementSequence, MoreStatements, Alternative, MoreAlternatives, ElsePart, ConstDeclaration, TypeDeclaration, VarDeclaration, FPSection, FormalParameters, ProcedureHeading, BodyPart, DeclarationsPart, ProcedureDeclarations, ModuleText, Derives}
use Rattle.ob_syntax.specs.Printing.{Word, fixed, ident, operator_kind, sign_words, between, perhaps, name_words, expr_words, operand_words, selector_words, type_words, field_words, more_field_words, actual_words, stmt_words, stmts_words, more_stmts_words, branch_words, more_branch_words, else_words, body_words, const_words, type_decl_words, var_decl_words, section_words, parameter_words, heading_words, part_words, declaration_words, procedure_words, words_behind}

-- the bytes of a token that has no fixed spelling, as they are printed
abbrev pub free_bytes : Kind → List ℕ → List ℕ
free_bytes Kind.Number bytes = signed_decimal (pos (number_value bytes))
free_bytes kind bytes = bytes

-- a token as it is printed
abbrev pub word_of : Lexeme → Word
word_of (lexeme kind place bytes) = record { kind = kind; bytes = unwrap_or (fixed_spelling kind) (free_bytes kind bytes) }

-- these tokens are these words, up to those behind
record Worded (a : Lexemes) (ws : List Word) (b : Lexemes) : Type 0 where
  same : map word_of a ≡ ws ++ map word_of b

nothing : {a : Lexemes} → Worded a [] a
nothing = record { same = refl }

next : {a b c : Lexemes} {ws vs : List Word} → Worded a ws b → Worded b vs c → Worded a (ws ++ vs) c
next {c = c} {ws = ws} {vs = vs} p q = record {
  same = p.same ∙ ap (λ l. ws ++ l) q.same ∙ sym (append_assoc ws vs (map word_of c));
}

-- a token of a kind with a fixed spelling
at : {kind : Kind} {bytes : List ℕ} {place : ℕ} {a b : Lexemes} → fixed_spelling kind ≡ Some bytes → TakesAt kind place a b →
    Worded a (fixed kind ∷ []) b
at {kind = kind} e (Grammar.takes {bytes = own} {rest = rest}) =
    let word : Option (List ℕ) → List ℕ → Word = λ s other. record { kind = kind; bytes = unwrap_or s other } in
    let words : Option (List ℕ) → List ℕ → List Word = λ s other. word s other ∷ map word_of rest in
    record { same = ap (λ s. words s (free_bytes kind own)) e ∙ sym (ap (λ s. words s []) e) }

word : {kind : Kind} {bytes : List ℕ} {a b : Lexemes} → fixed_spelling kind ≡ Some bytes → Takes kind a b →
    Worded a (fixed kind ∷ []) b
word e t = at e t.1

name : {a b : Lexemes} {x : Name} → TakesName a x b → Worded a (ident x ∷ []) b
name Grammar.takes = record { same = refl }

relation : {kind : Kind} {operator : Operator} {place : ℕ} {a b : Lexemes} → IsRelation kind operator → TakesAt kind place a b →
    Worded a (fixed (operator_kind operator) ∷ []) b
relation Grammar.equal t = at refl t
relation Grammar.not_equal t = at refl t
relation Grammar.less t = at refl t
relation Grammar.less_or_equal t = at refl t
relation Grammar.greater t = at refl t
relation Grammar.greater_or_equal t = at refl t

addition : {kind : Kind} {operator : Operator} {place : ℕ} {a b : Lexemes} → IsAddition kind operator → TakesAt kind place a b →
    Worded a (fixed (operator_kind operator) ∷ []) b
addition Grammar.plus t = at refl t
addition Grammar.minus t = at refl t
addition Grammar.or t = at refl t

multiplication : {kind : Kind} {operator : Operator} {place : ℕ} {a b : Lexemes} → IsMultiplication kind operator →
    TakesAt kind place a b → Worded a (fixed (operator_kind operator) ∷ []) b
multiplication Grammar.times t = at refl t
multiplication Grammar.div t = at refl t
multiplication Grammar.mod' t = at refl t
multiplication Grammar.and t = at refl t

signs : {sign : Sign} {a b : Lexemes} → TakesSign a sign b → Worded a (sign_words (Some sign)) b
signs (Grammar.plus t) = at refl t
signs (Grammar.minus t) = at refl t

-- The forms of phrases, over any phrase that keeps the words.

-- a phrase keeps the words of its tree
record Keeps {A : Type 0} (R : Phrase A) (words : A → List Word) : Type 0 where
  keeps : {a b : Lexemes} {x : A} → R a x b → Worded a (words x) b

optional_word : {kind : Kind} {bytes : List ℕ} {a b : Lexemes} {x : Bool} → fixed_spelling kind ≡ Some bytes → TakesWord kind a x b →
    Worded a (if x then (fixed kind ∷ []) else []) b
optional_word e Grammar.absent = nothing
optional_word e (Grammar.present t) = word e t

each : {A : Type 0} {R : Phrase A} {words : A → List Word} {a b : Lexemes} {xs : List A} → Keeps R words → Each R a xs b →
    Worded a (flat_map words xs) b
each h Grammar.none = nothing
each h (Grammar.more p d) = next (h.keeps p) (each h d)

-- behind a first phrase
behind_first : {A : Type 0} {R : Phrase A} {separator : Kind} {a b : Lexemes} {xs : List A} (words : A → List Word) →
    Separated separator R a xs b → flat_map (λ y. fixed separator ∷ words y) xs ≡ fixed separator ∷ between separator words xs
behind_first words (Grammar.one p) = refl
behind_first words (Grammar.more p t d) = refl

separated : {A : Type 0} {R : Phrase A} {words : A → List Word} {separator : Kind} {bytes : List ℕ} {a b : Lexemes} {xs : List A} →
    Keeps R words → fixed_spelling separator ≡ Some bytes → Separated separator R a xs b →
    Worded a (between separator words xs) b
separated h e (Grammar.one p) = next (h.keeps p) nothing
separated {words = words} {b = b} h e (Grammar.more {a = a} {x = x} p t d) =
    let P : List Word → Type 0 = λ ws. Worded a (words x ++ ws) b in
    subst P (sym (behind_first words d)) (next (h.keeps p) (next (word e t) (separated h e d)))

optional : {A : Type 0} {R : Phrase A} {words : A → List Word} {a b : Lexemes} {x : Option A} → Keeps R words → Perhaps R a x b →
    Worded a (perhaps words x) b
optional h Grammar.absent = nothing
optional h (Grammar.present p) = h.keeps p

behind : {A : Type 0} {R : Phrase A} {words : A → List Word} {kind : Kind} {bytes : List ℕ} → fixed_spelling kind ≡ Some bytes →
    Keeps R words → Keeps (Behind kind R) (λ x. fixed kind ∷ words x)
behind e h = record { keeps = λ d. behind_words e h d }
  where
    behind_words : {A : Type 0} {R : Phrase A} {words : A → List Word} {kind : Kind} {bytes : List ℕ} {a b : Lexemes} {x : A} →
        fixed_spelling kind ≡ Some bytes → Keeps R words → Behind kind R a x b → Worded a (fixed kind ∷ words x) b
    behind_words e h (Grammar.behind t p) = next (word e t) (h.keeps p)

-- a keyword, and each declaration behind it
part : {A : Type 0} {R : Phrase A} {words : A → List Word} {kind : Kind} {bytes : List ℕ} {a b : Lexemes} {x : Option (DeclarationPart A)} →
    fixed_spelling kind ≡ Some bytes → Keeps R words → Perhaps (PartBehind kind (Each R)) a x b → Worded a (part_words kind words x) b
part e h d = optional (record { keeps = λ f. part_behind e h f }) d
  where
    part_behind : {A : Type 0} {R : Phrase A} {words : A → List Word} {kind : Kind} {bytes : List ℕ} {a b : Lexemes} {x : DeclarationPart A} →
        fixed_spelling kind ≡ Some bytes → Keeps R words → PartBehind kind (Each R) a x b → Worded a (fixed kind ∷ flat_map words x.declared) b
    part_behind e h (Grammar.part t p) = next (at e t) (each h p)

-- The productions.

mutual
  expression : {a b : Lexemes} {e : Expr} → Expression a e b → Worded a (expr_words e) b
  expression (Grammar.simple d) = simple_expression d
  expression (Grammar.comparison d r t f) = next (simple_expression d) (next (relation r t) (simple_expression f))

  simple_expression : {a b : Lexemes} {e : Expr} → SimpleExpression a e b → Worded a (expr_words e) b
  simple_expression (Grammar.one_term d) = term d
  simple_expression (Grammar.signed s d f) = next (signs s) (next (term d) (terms f))
  simple_expression (Grammar.sum d i t f g) = next (term d) (next (addition i t) (next (term f) (terms g)))

  terms : {a b : Lexemes} {es : Operands} → Terms a es b → Worded a (operand_words es) b
  terms Grammar.no_term = nothing
  terms (Grammar.more_terms i t d f) = next (addition i t) (next (term d) (terms f))

  term : {a b : Lexemes} {e : Expr} → Term a e b → Worded a (expr_words e) b
  term (Grammar.one_factor d) = factor d
  term (Grammar.product d i t f g) = next (factor d) (next (multiplication i t) (next (factor f) (factors g)))

  factors : {a b : Lexemes} {es : Operands} → Factors a es b → Worded a (operand_words es) b
  factors Grammar.no_factor = nothing
  factors (Grammar.more_factors i t d f) = next (multiplication i t) (next (factor d) (factors f))

  factor : {a b : Lexemes} {e : Expr} → Factor a e b → Worded a (expr_words e) b
  factor (Grammar.named n s) = next (name n) (selector s)
  factor Grammar.number = record { same = refl }
  factor (Grammar.parens t d u) = next (at refl t) (next (expression d) (word refl u))
  factor (Grammar.not t d) = next (at refl t) (factor d)

  selector : {a b : Lexemes} {s : Selectors} → Selector a s b → Worded a (selector_words s) b
  selector Grammar.no_more = nothing
  selector (Grammar.field t n s) = next (at refl t) (next (name n) (selector s))
  selector (Grammar.index t d u s) = next (at refl t) (next (expression d) (next (word refl u) (selector s)))

names : {a b : Lexemes} {ns : List Name} → IdentList a ns b → Worded a (name_words ns) b
names d = separated (record { keeps = λ n. name n }) refl d

-- lists behind a semicolon
more_lists : {a b : Lexemes} {lists : FieldLists} → FieldListSequence a lists b → more_field_words lists ≡ fixed Kind.Semicolon ∷ field_words lists
more_lists (Grammar.first_empty d f) = refl
more_lists (Grammar.first_fields d f) = refl

mutual
  is_type : {a b : Lexemes} {t : TypeExpr} → IsType a t b → Worded a (type_words t) b
  is_type (Grammar.named_type n) = name n
  is_type (Grammar.array t d u f) = next (at refl t) (next (expression d) (next (word refl u) (is_type f)))
  is_type (Grammar.record' t d u) = next (at refl t) (next (field_list d) (word refl u))

  field_list : {a b : Lexemes} {lists : FieldLists} → FieldListSequence a lists b → Worded a (field_words lists) b
  field_list (Grammar.first_empty Grammar.empty f) = more_fields f
  field_list (Grammar.first_fields (Grammar.fields n t d) f) = next (names n) (next (word refl t) (next (is_type d) (more_fields f)))

  more_fields : {a b : Lexemes} {lists : FieldLists} → MoreFields a lists b → Worded a (more_field_words lists) b
  more_fields Grammar.no_more_fields = nothing
  more_fields {b = b} (Grammar.more_fields {a = a} t d) =
      let P : List Word → Type 0 = λ ws. Worded a ws b in
      subst P (sym (more_lists d)) (next (word refl t) (field_list d))

actual_parameters : {a b : Lexemes} {es : List Expr} → ActualParameters a es b → Worded a (actual_words es) b
actual_parameters (Grammar.no_actual t u) = next (word refl t) (word refl u)
actual_parameters (Grammar.actuals t d u) =
    next (word refl t) (next (separated (record { keeps = λ e. expression e }) refl d) (word refl u))

-- statements behind a semicolon
more_sequence : {a b : Lexemes} {ss : Stmts} → StatementSequence a ss b → more_stmts_words ss ≡ fixed Kind.Semicolon ∷ stmts_words ss
more_sequence (Grammar.sequence s d) = refl

-- branches behind ELSIF
more_branches : {a b : Lexemes} {bs : Branches} → Alternative a bs b → more_branch_words bs ≡ fixed Kind.Elsif ∷ branch_words bs
more_branches (Grammar.alternative d t f g) = refl

mutual
  statement : {a b : Lexemes} {s : Stmt} → Statement a s b → Worded a (stmt_words s) b
  statement Grammar.empty = nothing
  statement (Grammar.assignment n s t d) = next (name n) (next (selector s) (next (word refl t) (expression d)))
  statement (Grammar.call n d) = next (name n) (optional (record { keeps = λ p. actual_parameters p }) d)
  statement (Grammar.if' t d f u) = next (at refl t) (next (alternative d) (next (else_part f) (word refl u)))
  statement (Grammar.while t d u f v) =
      next (at refl t) (next (expression d) (next (word refl u) (next (sequence f) (word refl v))))
  statement (Grammar.repeat t d u f) = next (at refl t) (next (sequence d) (next (word refl u) (expression f)))

  sequence : {a b : Lexemes} {ss : Stmts} → StatementSequence a ss b → Worded a (stmts_words ss) b
  sequence (Grammar.sequence s d) = next (statement s) (more_statements d)

  more_statements : {a b : Lexemes} {ss : Stmts} → MoreStatements a ss b → Worded a (more_stmts_words ss) b
  more_statements Grammar.no_more_statements = nothing
  more_statements {b = b} (Grammar.more_statements {a = a} t d) =
      let P : List Word → Type 0 = λ ws. Worded a ws b in
      subst P (sym (more_sequence d)) (next (word refl t) (sequence d))

  alternative : {a b : Lexemes} {bs : Branches} → Alternative a bs b → Worded a (branch_words bs) b
  alternative (Grammar.alternative d t f g) = next (expression d) (next (word refl t) (next (sequence f) (more_alternatives g)))

  more_alternatives : {a b : Lexemes} {bs : Branches} → MoreAlternatives a bs b → Worded a (more_branch_words bs) b
  more_alternatives Grammar.no_more_alternatives = nothing
  more_alternatives {b = b} (Grammar.elsif {a = a} t d) =
      let P : List Word → Type 0 = λ ws. Worded a ws b in
      subst P (sym (more_branches d)) (next (word refl t) (alternative d))

  else_part : {a b : Lexemes} {o : Otherwise} → ElsePart a o b → Worded a (else_words o) b
  else_part Grammar.no_else_part = nothing
  else_part (Grammar.else_part t d) = next (word refl t) (sequence d)

body : {a b : Lexemes} {x : Option Stmts} → BodyPart a x b → Worded a (body_words x) b
body d = optional (behind refl (record { keeps = λ s. sequence s })) d

constant : {a b : Lexemes} {x : ConstDecl} → ConstDeclaration a x b → Worded a (const_words x) b
constant (Grammar.constant n t d u) = next (name n) (next (word refl t) (next (expression d) (word refl u)))

type_declaration : {a b : Lexemes} {x : TypeDecl} → TypeDeclaration a x b → Worded a (type_decl_words x) b
type_declaration (Grammar.type' n t d u) = next (name n) (next (word refl t) (next (is_type d) (word refl u)))

variables : {a b : Lexemes} {x : VarDecl} → VarDeclaration a x b → Worded a (var_decl_words x) b
variables (Grammar.variables n t d u) = next (names n) (next (word refl t) (next (is_type d) (word refl u)))

section : {a b : Lexemes} {x : Section} → FPSection a x b → Worded a (section_words x) b
section (Grammar.section w n t d) = next (optional_word refl w) (next (names n) (next (word refl t) (is_type d)))

formal_parameters : {a b : Lexemes} {xs : List Section} → FormalParameters a xs b → Worded a (parameter_words xs) b
formal_parameters (Grammar.no_formal t u) = next (word refl t) (word refl u)
formal_parameters (Grammar.sections t d u) =
    next (word refl t) (next (separated (record { keeps = λ s. section s }) refl d) (word refl u))

heading : {a b : Lexemes} {h : Heading} → ProcedureHeading a h b → Worded a (heading_words h) b
heading (Grammar.heading t n w d) =
    next (at refl t) (next (name n) (next (optional_word refl w) (optional (record { keeps = λ p. formal_parameters p }) d)))

mutual
  declarations : {a b : Lexemes} {x : Declarations} → DeclarationsPart a x b → Worded a (declaration_words x) b
  declarations (Grammar.declarations c t v p) =
      next (part refl (record { keeps = λ d. constant d }) c)
      (next (part refl (record { keeps = λ d. type_declaration d }) t)
      (next (part refl (record { keeps = λ d. variables d }) v) (procedures p)))

  procedures : {a b : Lexemes} {x : Procedures} → ProcedureDeclarations a x b → Worded a (procedure_words x) b
  procedures Grammar.no_more_procedures = nothing
  procedures (Grammar.procedure (Grammar.declares h t d b u n) v p) =
      next (heading h)
      (next (word refl t)
      (next (declarations d) (next (body b) (next (word refl u) (next (name n) (next (word refl v) (procedures p)))))))

module_text : {a b : Lexemes} {m : Module} → ModuleText a m b → Worded a (fixed Kind.Module ∷ words_behind m) b
module_text (Grammar.module' t n u d b v e w) =
    next (word refl t)
    (next (name n) (next (word refl u) (next (declarations d) (next (body b) (next (word refl v) (next (name e) (word refl w)))))))

-- the tokens of a module, printed, are its words
pub derived_words : {tokens : Lexemes} {m : Module} → Derives tokens m → map word_of tokens ≡ fixed Kind.Module ∷ words_behind m
derived_words {m = m} d = (module_text d).same ∙ append-nil (fixed Kind.Module ∷ words_behind m)
