-- Tokens that the grammar reads alike: what it derives from the first it derives from the second, but for places.
use Rattle.std.proofs.Common.{◌≡◌, ℕ, pos, Bool, true, false, List, [], ◌∷◌, Option, Some, None, refl, sym, ap, subst, map, option_map}
use Rattle.ob_scan.specs.declared.token.Kind.{Kind}
use Rattle.ob_scan.specs.Spelling.{number_value}
use Rattle.ob_scan.specs.Lexemes.{lexeme}
use Rattle.ob_grammar.specs.declared.tree.Sign.{Sign}
use Rattle.ob_grammar.specs.Tree
use Rattle.ob_grammar.specs.Tree.{Name, Expr, Operands, no_operand, operand, Selectors, no_selector, TypeExpr, FieldLists, no_list, empty_list, Stmt, Stmts, no_stmt, stmt, Branches, no_branch, branch, Otherwise, no_else, else', ConstDecl, TypeDecl, VarDecl, DeclarationPart, Section, Heading, Declarations, Declared, Procedures, no_procedure, Module}
use Rattle.ob_grammar.specs.Grammar
use Rattle.ob_grammar.specs.Grammar.{Lexemes, Phrase, TakesAt, Takes, takes, TakesName, TakesWord, Each, Separated, Perhaps, Behind, PartBehind, TakesSign, Expression, SimpleExpression, Terms, Term, Factors, Factor, Selector, IdentList, IsType, FieldListSequence, MoreFields, ActualParameters, Statement, StatementSequence, MoreStatements, Alternative, MoreAlternatives, ElsePart, ConstDeclaration, TypeDeclaration, VarDeclaration, FPSection, FormalParameters, ProcedureHeading, BodyPart, DeclarationsPart, ProcedureDeclarations, ModuleText, Derives}
use Rattle.ob_syntax.specs.Places.{bare_name, bare_sign, bare_expr, bare_operands, bare_selectors, bare_type, bare_fields, bare_stmt, bare_stmts, bare_branches, bare_otherwise, bare_const, bare_type_decl, bare_variables, bare_part, bare_section, bare_heading, bare_declarations, bare_procedures, bare}

-- tokens of the same kinds, each name with the same bytes, each number with the same value
pub data Alike : Lexemes → Lexemes → Type 0 where
  none : Alike [] []
  more : {kind : Kind} {place other_place : ℕ} {bytes other_bytes : List ℕ} {rest other_rest : Lexemes} →
      (kind ≡ Kind.Ident → bytes ≡ other_bytes) →
      (kind ≡ Kind.Number → number_value bytes ≡ number_value other_bytes) →
      Alike rest other_rest →
      Alike (lexeme kind place bytes ∷ rest) (lexeme kind other_place other_bytes ∷ other_rest)

-- a phrase leads from these tokens to a tree that is bare the same, and to tokens that are alike those behind
record LeadsAlike {A : Type 0} (R : Phrase A) (bare_tree : A → A) (x : A) (behind tokens : Lexemes) : Type 0 where
  tree : A
  rest : Lexemes
  derives : R tokens tree rest
  same : bare_tree tree ≡ bare_tree x
  alike : Alike behind rest

-- what it derives from tokens it derives from tokens that are alike
record ReadsAlike {A : Type 0} (R : Phrase A) (bare_tree : A → A) : Type 0 where
  reads : {a b c : Lexemes} {x : A} → R a x b → Alike a c → LeadsAlike R bare_tree x b c

-- a token of the kind stands here, and behind it tokens that are alike
record TakesAlike (kind : Kind) (behind tokens : Lexemes) : Type 0 where
  place : ℕ
  rest : Lexemes
  taken : TakesAt kind place tokens rest
  alike : Alike behind rest

at : {kind : Kind} {place : ℕ} {a b c : Lexemes} → TakesAt kind place a b → Alike a c → TakesAlike kind b c
at takes (more names numbers l) = record { place = _; rest = _; taken = takes; alike = l }

word : {kind : Kind} {a b c : Lexemes} → Takes kind a b → Alike a c → TakesAlike kind b c
word t l = at t.1 l

abbrev takes_of : {kind : Kind} {b c : Lexemes} (t : TakesAlike kind b c) → Takes kind c t.rest
takes_of t = (t.place, t.taken)

name_first : {place : ℕ} {text : List ℕ} {rest c : Lexemes} → Alike (lexeme Kind.Ident place text ∷ rest) c →
    LeadsAlike TakesName bare_name (record { text = text; place = place }) rest c
name_first (more {other_place = place} {other_bytes = text} {other_rest = rest} names numbers l) =
    let named : List ℕ → Name = λ bytes. record { text = bytes; place = 0 } in
    record {
      tree = record { text = text; place = place };
      rest = rest;
      derives = Grammar.takes;
      same = ap named (sym (names refl));
      alike = l;
    }

name : {a b c : Lexemes} {x : Name} → TakesName a x b → Alike a c → LeadsAlike TakesName bare_name x b c
name Grammar.takes l = name_first l

sign : {a b c : Lexemes} {x : Sign} → TakesSign a x b → Alike a c → LeadsAlike TakesSign bare_sign x b c
sign (Grammar.plus t) l =
    let p = at t l in
    record {
      tree = record { is_minus = false; place = p.place };
      rest = p.rest;
      derives = Grammar.plus p.taken;
      same = refl;
      alike = p.alike;
    }
sign (Grammar.minus t) l =
    let p = at t l in
    record {
      tree = record { is_minus = true; place = p.place };
      rest = p.rest;
      derives = Grammar.minus p.taken;
      same = refl;
      alike = p.alike;
    }

-- The forms of phrases, over any phrase that reads alike.

optional_word : {kind : Kind} {a b c : Lexemes} {x : Bool} → TakesWord kind a x b → Alike a c →
    LeadsAlike (TakesWord kind) (λ y. y) x b c
optional_word Grammar.absent l = record { tree = false; rest = _; derives = Grammar.absent; same = refl; alike = l }
optional_word (Grammar.present t) l =
    let p = word t l in
    record { tree = true; rest = p.rest; derives = Grammar.present (takes_of p); same = refl; alike = p.alike }

each : {A : Type 0} {R : Phrase A} {f : A → A} {a b c : Lexemes} {xs : List A} → ReadsAlike R f → Each R a xs b → Alike a c →
    LeadsAlike (Each R) (map f) xs b c
each h Grammar.none l = record { tree = []; rest = _; derives = Grammar.none; same = refl; alike = l }
each h (Grammar.more d e) l =
    let p = h.reads d l in
    let q = each h e p.alike in
    record {
      tree = p.tree ∷ q.tree;
      rest = q.rest;
      derives = Grammar.more p.derives q.derives;
      same = λ i. p.same i ∷ q.same i;
      alike = q.alike;
    }

separated : {A : Type 0} {R : Phrase A} {f : A → A} {separator : Kind} {a b c : Lexemes} {xs : List A} → ReadsAlike R f →
    Separated separator R a xs b → Alike a c → LeadsAlike (Separated separator R) (map f) xs b c
separated h (Grammar.one d) l =
    let p = h.reads d l in
    record { tree = p.tree ∷ []; rest = p.rest; derives = Grammar.one p.derives; same = λ i. p.same i ∷ []; alike = p.alike }
separated h (Grammar.more d t e) l =
    let p = h.reads d l in
    let s = word t p.alike in
    let q = separated h e s.alike in
    record {
      tree = p.tree ∷ q.tree;
      rest = q.rest;
      derives = Grammar.more p.derives (takes_of s) q.derives;
      same = λ i. p.same i ∷ q.same i;
      alike = q.alike;
    }

optional : {A : Type 0} {R : Phrase A} {f : A → A} {a b c : Lexemes} {x : Option A} → ReadsAlike R f → Perhaps R a x b → Alike a c →
    LeadsAlike (Perhaps R) (option_map f) x b c
optional h Grammar.absent l = record { tree = None; rest = _; derives = Grammar.absent; same = refl; alike = l }
optional h (Grammar.present d) l =
    let p = h.reads d l in
    record { tree = Some p.tree; rest = p.rest; derives = Grammar.present p.derives; same = λ i. Some (p.same i); alike = p.alike }

behind : {A : Type 0} {R : Phrase A} {f : A → A} {kind : Kind} {a b c : Lexemes} {x : A} → ReadsAlike R f → Behind kind R a x b →
    Alike a c → LeadsAlike (Behind kind R) f x b c
behind h (Grammar.behind t d) l =
    let s = word t l in
    let p = h.reads d s.alike in
    record { tree = p.tree; rest = p.rest; derives = Grammar.behind (takes_of s) p.derives; same = p.same; alike = p.alike }

-- a keyword, and each declaration behind it
part_behind : {A : Type 0} {R : Phrase A} {f : A → A} {kind : Kind} {a b c : Lexemes} {x : DeclarationPart A} → ReadsAlike R f →
    PartBehind kind (Each R) a x b → Alike a c → LeadsAlike (PartBehind kind (Each R)) (bare_part f) x b c
part_behind h (Grammar.part t d) l =
    let s = at t l in
    let p = each h d s.alike in
    record {
      tree = record { place = s.place; declared = p.tree };
      rest = p.rest;
      derives = Grammar.part s.taken p.derives;
      same = λ i. record { place = 0; declared = p.same i };
      alike = p.alike;
    }

part : {A : Type 0} {R : Phrase A} {f : A → A} {kind : Kind} {a b c : Lexemes} {x : Option (DeclarationPart A)} → ReadsAlike R f →
    Perhaps (PartBehind kind (Each R)) a x b → Alike a c → LeadsAlike (Perhaps (PartBehind kind (Each R))) (option_map (bare_part f)) x b c
part h d l = optional (record { reads = λ e. part_behind h e }) d l

-- The productions.

mutual
  expression : {a b c : Lexemes} {x : Expr} → Expression a x b → Alike a c → LeadsAlike Expression bare_expr x b c
  expression (Grammar.simple d) l =
      let p = simple_expression d l in
      record { tree = p.tree; rest = p.rest; derives = Grammar.simple p.derives; same = p.same; alike = p.alike }
  expression (Grammar.comparison {operator = operator} d r t e) l =
      let p = simple_expression d l in
      let s = at t p.alike in
      let q = simple_expression e s.alike in
      record {
        tree = Tree.Comparison p.tree operator s.place q.tree;
        rest = q.rest;
        derives = Grammar.comparison p.derives r s.taken q.derives;
        same = λ i. Tree.Comparison (p.same i) operator 0 (q.same i);
        alike = q.alike;
      }

  simple_expression : {a b c : Lexemes} {x : Expr} → SimpleExpression a x b → Alike a c → LeadsAlike SimpleExpression bare_expr x b c
  simple_expression (Grammar.one_term d) l =
      let p = term d l in
      record { tree = p.tree; rest = p.rest; derives = Grammar.one_term p.derives; same = p.same; alike = p.alike }
  simple_expression (Grammar.signed g d e) l =
      let s = sign g l in
      let p = term d s.alike in
      let q = terms e p.alike in
      record {
        tree = Tree.Sum (Some s.tree) p.tree q.tree;
        rest = q.rest;
        derives = Grammar.signed s.derives p.derives q.derives;
        same = λ i. Tree.Sum (Some (s.same i)) (p.same i) (q.same i);
        alike = q.alike;
      }
  simple_expression (Grammar.sum {operator = operator} d o t e f) l =
      let p = term d l in
      let s = at t p.alike in
      let q = term e s.alike in
      let r = terms f q.alike in
      record {
        tree = Tree.Sum None p.tree (operand operator s.place q.tree r.tree);
        rest = r.rest;
        derives = Grammar.sum p.derives o s.taken q.derives r.derives;
        same = λ i. Tree.Sum None (p.same i) (operand operator 0 (q.same i) (r.same i));
        alike = r.alike;
      }

  terms : {a b c : Lexemes} {x : Operands} → Terms a x b → Alike a c → LeadsAlike Terms bare_operands x b c
  terms Grammar.no_term l = record { tree = no_operand; rest = _; derives = Grammar.no_term; same = refl; alike = l }
  terms (Grammar.more_terms {operator = operator} o t d e) l =
      let s = at t l in
      let p = term d s.alike in
      let q = terms e p.alike in
      record {
        tree = operand operator s.place p.tree q.tree;
        rest = q.rest;
        derives = Grammar.more_terms o s.taken p.derives q.derives;
        same = λ i. operand operator 0 (p.same i) (q.same i);
        alike = q.alike;
      }

  term : {a b c : Lexemes} {x : Expr} → Term a x b → Alike a c → LeadsAlike Term bare_expr x b c
  term (Grammar.one_factor d) l =
      let p = factor d l in
      record { tree = p.tree; rest = p.rest; derives = Grammar.one_factor p.derives; same = p.same; alike = p.alike }
  term (Grammar.product {operator = operator} d o t e f) l =
      let p = factor d l in
      let s = at t p.alike in
      let q = factor e s.alike in
      let r = factors f q.alike in
      record {
        tree = Tree.Product p.tree (operand operator s.place q.tree r.tree);
        rest = r.rest;
        derives = Grammar.product p.derives o s.taken q.derives r.derives;
        same = λ i. Tree.Product (p.same i) (operand operator 0 (q.same i) (r.same i));
        alike = r.alike;
      }

  factors : {a b c : Lexemes} {x : Operands} → Factors a x b → Alike a c → LeadsAlike Factors bare_operands x b c
  factors Grammar.no_factor l = record { tree = no_operand; rest = _; derives = Grammar.no_factor; same = refl; alike = l }
  factors (Grammar.more_factors {operator = operator} o t d e) l =
      let s = at t l in
      let p = factor d s.alike in
      let q = factors e p.alike in
      record {
        tree = operand operator s.place p.tree q.tree;
        rest = q.rest;
        derives = Grammar.more_factors o s.taken p.derives q.derives;
        same = λ i. operand operator 0 (p.same i) (q.same i);
        alike = q.alike;
      }

  factor : {a b c : Lexemes} {x : Expr} → Factor a x b → Alike a c → LeadsAlike Factor bare_expr x b c
  factor (Grammar.named n d) l =
      let p = name n l in
      let q = selector d p.alike in
      record {
        tree = Tree.Named p.tree q.tree;
        rest = q.rest;
        derives = Grammar.named p.derives q.derives;
        same = λ i. Tree.Named (p.same i) (q.same i);
        alike = q.alike;
      }
  factor Grammar.number (more {other_place = place} {other_bytes = bytes} names numbers l) =
      record {
        tree = Tree.Number (pos (number_value bytes)) place;
        rest = _;
        derives = Grammar.number;
        same = ap (λ v. Tree.Number (pos v) 0) (sym (numbers refl));
        alike = l;
      }
  factor (Grammar.parens t d u) l =
      let s = at t l in
      let p = expression d s.alike in
      let r = word u p.alike in
      record {
        tree = Tree.Parens s.place p.tree;
        rest = r.rest;
        derives = Grammar.parens s.taken p.derives (takes_of r);
        same = λ i. Tree.Parens 0 (p.same i);
        alike = r.alike;
      }
  factor (Grammar.not t d) l =
      let s = at t l in
      let p = factor d s.alike in
      record {
        tree = Tree.Not s.place p.tree;
        rest = p.rest;
        derives = Grammar.not s.taken p.derives;
        same = λ i. Tree.Not 0 (p.same i);
        alike = p.alike;
      }

  selector : {a b c : Lexemes} {x : Selectors} → Selector a x b → Alike a c → LeadsAlike Selector bare_selectors x b c
  selector Grammar.no_more l = record { tree = no_selector; rest = _; derives = Grammar.no_more; same = refl; alike = l }
  selector (Grammar.field t n d) l =
      let s = at t l in
      let p = name n s.alike in
      let q = selector d p.alike in
      record {
        tree = Tree.field s.place p.tree q.tree;
        rest = q.rest;
        derives = Grammar.field s.taken p.derives q.derives;
        same = λ i. Tree.field 0 (p.same i) (q.same i);
        alike = q.alike;
      }
  selector (Grammar.index t d u e) l =
      let s = at t l in
      let p = expression d s.alike in
      let r = word u p.alike in
      let q = selector e r.alike in
      record {
        tree = Tree.index s.place p.tree q.tree;
        rest = q.rest;
        derives = Grammar.index s.taken p.derives (takes_of r) q.derives;
        same = λ i. Tree.index 0 (p.same i) (q.same i);
        alike = q.alike;
      }

names : {a b c : Lexemes} {x : List Name} → IdentList a x b → Alike a c → LeadsAlike IdentList (map bare_name) x b c
names d l = separated (record { reads = λ n. name n }) d l

mutual
  is_type : {a b c : Lexemes} {x : TypeExpr} → IsType a x b → Alike a c → LeadsAlike IsType bare_type x b c
  is_type (Grammar.named_type n) l =
      let p = name n l in
      record {
        tree = Tree.NamedType p.tree;
        rest = p.rest;
        derives = Grammar.named_type p.derives;
        same = λ i. Tree.NamedType (p.same i);
        alike = p.alike;
      }
  is_type (Grammar.array t d u e) l =
      let s = at t l in
      let p = expression d s.alike in
      let r = word u p.alike in
      let q = is_type e r.alike in
      record {
        tree = Tree.Array s.place p.tree q.tree;
        rest = q.rest;
        derives = Grammar.array s.taken p.derives (takes_of r) q.derives;
        same = λ i. Tree.Array 0 (p.same i) (q.same i);
        alike = q.alike;
      }
  is_type (Grammar.record' t d u) l =
      let s = at t l in
      let p = field_list d s.alike in
      let r = word u p.alike in
      record {
        tree = Tree.Record s.place p.tree;
        rest = r.rest;
        derives = Grammar.record' s.taken p.derives (takes_of r);
        same = λ i. Tree.Record 0 (p.same i);
        alike = r.alike;
      }

  field_list : {a b c : Lexemes} {x : FieldLists} → FieldListSequence a x b → Alike a c → LeadsAlike FieldListSequence bare_fields x b c
  field_list (Grammar.first_empty Grammar.empty d) l =
      let p = more_fields d l in
      record {
        tree = empty_list p.tree;
        rest = p.rest;
        derives = Grammar.first_empty Grammar.empty p.derives;
        same = λ i. empty_list (p.same i);
        alike = p.alike;
      }
  field_list (Grammar.first_fields (Grammar.fields n t d) e) l =
      let p = names n l in
      let s = word t p.alike in
      let q = is_type d s.alike in
      let r = more_fields e q.alike in
      record {
        tree = Tree.fields p.tree q.tree r.tree;
        rest = r.rest;
        derives = Grammar.first_fields (Grammar.fields p.derives (takes_of s) q.derives) r.derives;
        same = λ i. Tree.fields (p.same i) (q.same i) (r.same i);
        alike = r.alike;
      }

  more_fields : {a b c : Lexemes} {x : FieldLists} → MoreFields a x b → Alike a c → LeadsAlike MoreFields bare_fields x b c
  more_fields Grammar.no_more_fields l = record { tree = no_list; rest = _; derives = Grammar.no_more_fields; same = refl; alike = l }
  more_fields (Grammar.more_fields t d) l =
      let s = word t l in
      let p = field_list d s.alike in
      record { tree = p.tree; rest = p.rest; derives = Grammar.more_fields (takes_of s) p.derives; same = p.same; alike = p.alike }

actual_parameters : {a b c : Lexemes} {x : List Expr} → ActualParameters a x b → Alike a c →
    LeadsAlike ActualParameters (map bare_expr) x b c
actual_parameters (Grammar.no_actual t u) l =
    let s = word t l in
    let r = word u s.alike in
    record { tree = []; rest = r.rest; derives = Grammar.no_actual (takes_of s) (takes_of r); same = refl; alike = r.alike }
actual_parameters (Grammar.actuals t d u) l =
    let s = word t l in
    let p = separated (record { reads = λ e. expression e }) d s.alike in
    let r = word u p.alike in
    record {
      tree = p.tree;
      rest = r.rest;
      derives = Grammar.actuals (takes_of s) p.derives (takes_of r);
      same = p.same;
      alike = r.alike;
    }

mutual
  statement : {a b c : Lexemes} {x : Stmt} → Statement a x b → Alike a c → LeadsAlike Statement bare_stmt x b c
  statement Grammar.empty l = record { tree = Tree.Empty; rest = _; derives = Grammar.empty; same = refl; alike = l }
  statement (Grammar.assignment n d t e) l =
      let p = name n l in
      let q = selector d p.alike in
      let s = word t q.alike in
      let r = expression e s.alike in
      record {
        tree = Tree.Assign p.tree q.tree r.tree;
        rest = r.rest;
        derives = Grammar.assignment p.derives q.derives (takes_of s) r.derives;
        same = λ i. Tree.Assign (p.same i) (q.same i) (r.same i);
        alike = r.alike;
      }
  statement (Grammar.call n d) l =
      let p = name n l in
      let q = optional (record { reads = λ e. actual_parameters e }) d p.alike in
      record {
        tree = Tree.Call p.tree q.tree;
        rest = q.rest;
        derives = Grammar.call p.derives q.derives;
        same = λ i. Tree.Call (p.same i) (q.same i);
        alike = q.alike;
      }
  statement (Grammar.if' t d e u) l =
      let s = at t l in
      let p = alternative d s.alike in
      let q = else_part e p.alike in
      let r = word u q.alike in
      record {
        tree = Tree.If s.place p.tree q.tree;
        rest = r.rest;
        derives = Grammar.if' s.taken p.derives q.derives (takes_of r);
        same = λ i. Tree.If 0 (p.same i) (q.same i);
        alike = r.alike;
      }
  statement (Grammar.while t d u e v) l =
      let s = at t l in
      let p = expression d s.alike in
      let k = word u p.alike in
      let q = sequence e k.alike in
      let r = word v q.alike in
      record {
        tree = Tree.While s.place p.tree q.tree;
        rest = r.rest;
        derives = Grammar.while s.taken p.derives (takes_of k) q.derives (takes_of r);
        same = λ i. Tree.While 0 (p.same i) (q.same i);
        alike = r.alike;
      }
  statement (Grammar.repeat t d u e) l =
      let s = at t l in
      let p = sequence d s.alike in
      let k = word u p.alike in
      let q = expression e k.alike in
      record {
        tree = Tree.Repeat s.place p.tree q.tree;
        rest = q.rest;
        derives = Grammar.repeat s.taken p.derives (takes_of k) q.derives;
        same = λ i. Tree.Repeat 0 (p.same i) (q.same i);
        alike = q.alike;
      }

  sequence : {a b c : Lexemes} {x : Stmts} → StatementSequence a x b → Alike a c → LeadsAlike StatementSequence bare_stmts x b c
  sequence (Grammar.sequence d e) l =
      let p = statement d l in
      let q = more_statements e p.alike in
      record {
        tree = stmt p.tree q.tree;
        rest = q.rest;
        derives = Grammar.sequence p.derives q.derives;
        same = λ i. stmt (p.same i) (q.same i);
        alike = q.alike;
      }

  more_statements : {a b c : Lexemes} {x : Stmts} → MoreStatements a x b → Alike a c → LeadsAlike MoreStatements bare_stmts x b c
  more_statements Grammar.no_more_statements l =
      record { tree = no_stmt; rest = _; derives = Grammar.no_more_statements; same = refl; alike = l }
  more_statements (Grammar.more_statements t d) l =
      let s = word t l in
      let p = sequence d s.alike in
      record { tree = p.tree; rest = p.rest; derives = Grammar.more_statements (takes_of s) p.derives; same = p.same; alike = p.alike }

  alternative : {a b c : Lexemes} {x : Branches} → Alternative a x b → Alike a c → LeadsAlike Alternative bare_branches x b c
  alternative (Grammar.alternative d t e f) l =
      let p = expression d l in
      let s = word t p.alike in
      let q = sequence e s.alike in
      let r = more_alternatives f q.alike in
      record {
        tree = branch p.tree q.tree r.tree;
        rest = r.rest;
        derives = Grammar.alternative p.derives (takes_of s) q.derives r.derives;
        same = λ i. branch (p.same i) (q.same i) (r.same i);
        alike = r.alike;
      }

  more_alternatives : {a b c : Lexemes} {x : Branches} → MoreAlternatives a x b → Alike a c →
      LeadsAlike MoreAlternatives bare_branches x b c
  more_alternatives Grammar.no_more_alternatives l =
      record { tree = no_branch; rest = _; derives = Grammar.no_more_alternatives; same = refl; alike = l }
  more_alternatives (Grammar.elsif t d) l =
      let s = word t l in
      let p = alternative d s.alike in
      record { tree = p.tree; rest = p.rest; derives = Grammar.elsif (takes_of s) p.derives; same = p.same; alike = p.alike }

  else_part : {a b c : Lexemes} {x : Otherwise} → ElsePart a x b → Alike a c → LeadsAlike ElsePart bare_otherwise x b c
  else_part Grammar.no_else_part l = record { tree = no_else; rest = _; derives = Grammar.no_else_part; same = refl; alike = l }
  else_part (Grammar.else_part t d) l =
      let s = word t l in
      let p = sequence d s.alike in
      record {
        tree = else' p.tree;
        rest = p.rest;
        derives = Grammar.else_part (takes_of s) p.derives;
        same = λ i. else' (p.same i);
        alike = p.alike;
      }

body : {a b c : Lexemes} {x : Option Stmts} → BodyPart a x b → Alike a c → LeadsAlike BodyPart (option_map bare_stmts) x b c
body d l = optional (record { reads = λ e. behind (record { reads = λ s. sequence s }) e }) d l

constant : {a b c : Lexemes} {x : ConstDecl} → ConstDeclaration a x b → Alike a c → LeadsAlike ConstDeclaration bare_const x b c
constant (Grammar.constant n t d u) l =
    let p = name n l in
    let s = word t p.alike in
    let q = expression d s.alike in
    let r = word u q.alike in
    record {
      tree = record { name = p.tree; value = q.tree };
      rest = r.rest;
      derives = Grammar.constant p.derives (takes_of s) q.derives (takes_of r);
      same = λ i. record { name = p.same i; value = q.same i };
      alike = r.alike;
    }

type_declaration : {a b c : Lexemes} {x : TypeDecl} → TypeDeclaration a x b → Alike a c → LeadsAlike TypeDeclaration bare_type_decl x b c
type_declaration (Grammar.type' n t d u) l =
    let p = name n l in
    let s = word t p.alike in
    let q = is_type d s.alike in
    let r = word u q.alike in
    record {
      tree = record { name = p.tree; definition = q.tree };
      rest = r.rest;
      derives = Grammar.type' p.derives (takes_of s) q.derives (takes_of r);
      same = λ i. record { name = p.same i; definition = q.same i };
      alike = r.alike;
    }

variables : {a b c : Lexemes} {x : VarDecl} → VarDeclaration a x b → Alike a c → LeadsAlike VarDeclaration bare_variables x b c
variables (Grammar.variables n t d u) l =
    let p = names n l in
    let s = word t p.alike in
    let q = is_type d s.alike in
    let r = word u q.alike in
    record {
      tree = record { names = p.tree; of_type = q.tree };
      rest = r.rest;
      derives = Grammar.variables p.derives (takes_of s) q.derives (takes_of r);
      same = λ i. record { names = p.same i; of_type = q.same i };
      alike = r.alike;
    }

section : {a b c : Lexemes} {x : Section} → FPSection a x b → Alike a c → LeadsAlike FPSection bare_section x b c
section (Grammar.section w n t d) l =
    let k = optional_word w l in
    let p = names n k.alike in
    let s = word t p.alike in
    let q = is_type d s.alike in
    record {
      tree = record { is_var = k.tree; names = p.tree; of_type = q.tree };
      rest = q.rest;
      derives = Grammar.section k.derives p.derives (takes_of s) q.derives;
      same = λ i. record { is_var = k.same i; names = p.same i; of_type = q.same i };
      alike = q.alike;
    }

formal_parameters : {a b c : Lexemes} {x : List Section} → FormalParameters a x b → Alike a c →
    LeadsAlike FormalParameters (map bare_section) x b c
formal_parameters (Grammar.no_formal t u) l =
    let s = word t l in
    let r = word u s.alike in
    record { tree = []; rest = r.rest; derives = Grammar.no_formal (takes_of s) (takes_of r); same = refl; alike = r.alike }
formal_parameters (Grammar.sections t d u) l =
    let s = word t l in
    let p = separated (record { reads = λ e. section e }) d s.alike in
    let r = word u p.alike in
    record {
      tree = p.tree;
      rest = r.rest;
      derives = Grammar.sections (takes_of s) p.derives (takes_of r);
      same = p.same;
      alike = r.alike;
    }

heading : {a b c : Lexemes} {x : Heading} → ProcedureHeading a x b → Alike a c → LeadsAlike ProcedureHeading bare_heading x b c
heading (Grammar.heading t n w d) l =
    let s = at t l in
    let p = name n s.alike in
    let k = optional_word w p.alike in
    let q = optional (record { reads = λ e. formal_parameters e }) d k.alike in
    record {
      tree = record { place = s.place; name = p.tree; is_exported = k.tree; parameters = q.tree };
      rest = q.rest;
      derives = Grammar.heading s.taken p.derives k.derives q.derives;
      same = λ i. record { place = 0; name = p.same i; is_exported = k.same i; parameters = q.same i };
      alike = q.alike;
    }

mutual
  declarations : {a b c : Lexemes} {x : Declarations} → DeclarationsPart a x b → Alike a c →
      LeadsAlike DeclarationsPart bare_declarations x b c
  declarations (Grammar.declarations d e f g) l =
      let p = part (record { reads = λ x. constant x }) d l in
      let q = part (record { reads = λ x. type_declaration x }) e p.alike in
      let r = part (record { reads = λ x. variables x }) f q.alike in
      let s = procedures g r.alike in
      record {
        tree = Declared p.tree q.tree r.tree s.tree;
        rest = s.rest;
        derives = Grammar.declarations p.derives q.derives r.derives s.derives;
        same = λ i. Declared (p.same i) (q.same i) (r.same i) (s.same i);
        alike = s.alike;
      }

  procedures : {a b c : Lexemes} {x : Procedures} → ProcedureDeclarations a x b → Alike a c →
      LeadsAlike ProcedureDeclarations bare_procedures x b c
  procedures Grammar.no_more_procedures l =
      record { tree = no_procedure; rest = _; derives = Grammar.no_more_procedures; same = refl; alike = l }
  procedures (Grammar.procedure (Grammar.declares h t d e u n) v f) l =
      let p = heading h l in
      let j = word t p.alike in
      let q = declarations d j.alike in
      let r = body e q.alike in
      let k = word u r.alike in
      let s = name n k.alike in
      let m = word v s.alike in
      let o = procedures f m.alike in
      record {
        tree = Tree.procedure p.tree q.tree r.tree s.tree o.tree;
        rest = o.rest;
        derives =
            Grammar.procedure (Grammar.declares p.derives (takes_of j) q.derives r.derives (takes_of k) s.derives) (takes_of m) o.derives;
        same = λ i. Tree.procedure (p.same i) (q.same i) (r.same i) (s.same i) (o.same i);
        alike = o.alike;
      }

module_text : {a b c : Lexemes} {x : Module} → ModuleText a x b → Alike a c → LeadsAlike ModuleText bare x b c
module_text (Grammar.module' t n u d e v f w) l =
    let g = word t l in
    let p = name n g.alike in
    let h = word u p.alike in
    let q = declarations d h.alike in
    let r = body e q.alike in
    let j = word v r.alike in
    let s = name f j.alike in
    let k = word w s.alike in
    record {
      tree = record { name = p.tree; declarations = q.tree; body = r.tree; end_name = s.tree };
      rest = k.rest;
      derives =
          Grammar.module' (takes_of g) p.derives (takes_of h) q.derives r.derives (takes_of j) s.derives (takes_of k);
      same = λ i. record { name = p.same i; declarations = q.same i; body = r.same i; end_name = s.same i };
      alike = k.alike;
    }

nothing_alike : {a : Lexemes} → Alike [] a → a ≡ []
nothing_alike none = refl

-- tokens alike those of a module derive the same module, but for places
pub derives_alike : {a c : Lexemes} {m : Module} → Derives a m → Alike a c → (tree : Module) × Derives c tree × (bare tree ≡ bare m)
derives_alike {c = c} d l =
    let p = module_text d l in
    (p.tree, subst (λ b. ModuleText c p.tree b) (nothing_alike p.alike) p.derives, p.same)
