-- What a method of the parser answers.
use Rattle.std.specs.Option.{option_map_or}
use Rattle.std.specs.Prelude.{◌≡◌, ◌≢◌, ℕ, ◌≤◌, true, List, length, Some, Option, option_map, Result, Ok, Err, map}
use Rattle.ob_parser.specs.declared.parser.ParseFault.{ParseFault}
use Rattle.ob_parser.specs.declared.parser.ParseFault.TheVariants.{Unexpected, TooDeep, NameDiffers, NoMemory}
use Rattle.ob_parser.specs.declared.parser.declarations.Heading.{Heading}
use Rattle.ob_parser.specs.declared.parser.declarations.Block.{Block}
use Rattle.ob_grammar.specs.declared.tree.Selector.{Selector}
use Rattle.ob_grammar.specs.declared.tree.Selector.TheVariants as Selectors
use Rattle.ob_grammar.specs.declared.tree.FieldList.{FieldList}
use Rattle.ob_grammar.specs.declared.tree.FieldList.TheVariants as Lists
use Rattle.ob_grammar.specs.declared.tree.Branch.{Branch}
use Rattle.ob_grammar.specs.declared.tree.Name.{Name}
use Rattle.ob_grammar.specs.declared.tree.Procedure.{Procedure, out-Procedure}
use Rattle.ob_scan.specs.declared.token.Kind.{Kind}
use Rattle.ob_scan.specs.Lexemes.{lexeme, place_of}
use Rattle.ob_scan.specs.Tokens.{TokenizedText}
use Rattle.ob_grammar.specs.Tree
use Rattle.ob_grammar.specs.View.{module_of, name_of, expr_of, type_of, stmts_in, declarations_of, heading_with, heading_of, inner_of, body_of}
use Rattle.ob_parser.specs.Forms as forms
use Rattle.ob_grammar.specs.Tree.{OneFieldList, ProcedureTree}
use Rattle.ob_scan.specs.Sources.{State, Stands}
use Rattle.ob_grammar.specs.EndNamesAndNesting.{name_differs, too_deep, KeepsConditions}
use Rattle.ob_grammar.specs.Grammar.{Derives}
use Rattle.ob_grammar.specs.declared.tree.ModuleTree.{ModuleTree}
use Rattle.ob_parser.specs.ParseFaults.{lexemes_of, HasPlace, IsParseFault}
use Rattle.ob_parser.specs.Reading.{Form, Reads, Reason, Refuses, unexpected, breaks, kind_of, place_at}

-- a token of this kind stands here
abbrev pub IsAt : State → Kind → Type 0
IsAt s kind = option_map kind_of s.here ≡ Some kind

-- a token stands here with which an assignment goes on behind its first name
abbrev pub GoesOnAsAssignment : State → Type 0
GoesOnAsAssignment s = (kind : Kind) × (forms.assignment_goes_on kind ≡ true) × IsAt s kind

-- where the token that stands here begins
abbrev pub place_here : State → ℕ
place_here s = option_map_or place_of s.here 0

-- where the token that stands here begins, or the end of the text
abbrev pub place_of_fault : State → ℕ
place_of_fault s = option_map_or place_of s.here (length s.text)

-- the token that stands here has these bytes
abbrev pub IsSpelledAt : State → List ℕ → Type 0
IsSpelledAt s bytes =
    (kind : Kind) (place : ℕ) (spelt : List ℕ) → s.here ≡ Some (lexeme kind place spelt) → bytes ≡ spelt

-- From s to t the parser read x, in whatever text with its tokens.
pub record Went {A : Type 0} (F : Form A) (s : State) (x : A) (t : State) : Type 0 where
  pub kept : t.text ≡ s.text
  pub onward : t.left ≤ s.left
  pub reads : (source : TokenizedText) (p : ℕ) → Stands s source p →
      (q : ℕ) × Stands t source q × Reads F (lexemes_of source) p x q

-- At such a token, in whatever text, the reason refuses a phrase from s on; the text is still that of s.
pub record Refused {A : Type 0} (F : Form A) (s t : State) (reason : Reason) (IsThere : TokenizedText → ℕ → Type 0) : Type 0 where
  pub kept : t.text ≡ s.text
  pub refuses : (source : TokenizedText) (p : ℕ) → Stands s source p →
      (i : ℕ) × IsThere source i × Refuses F (lexemes_of source) p reason i

-- the fault of a phrase from s on
abbrev pub Fails : {A : Type 0} → Form A → State → ParseFault → State → Type 0
Fails F s (Unexpected place) t =
    Refused F s t unexpected (λ source i. place ≡ place_at (length source.text) (lexemes_of source) i)
Fails F s (TooDeep place) t = Refused F s t (breaks (too_deep place)) (λ source i. HasPlace (lexemes_of source) i place)
Fails F s (NameDiffers place) t =
    Refused F s t (breaks (name_differs place)) (λ source i. HasPlace (lexemes_of source) i place)
Fails F s NoMemory t = Unit {0}

-- no token of this kind stands here, and this is at fault
abbrev pub FailsHere : Kind → State → ParseFault → State → Type 0
FailsHere kind s (Unexpected place) t = (t.text ≡ s.text) × (place ≡ place_of_fault s) × ¬ IsAt s kind
FailsHere kind s (TooDeep place) t = ⊥
FailsHere kind s (NameDiffers place) t = ⊥
FailsHere kind s NoMemory t = Unit {0}

abbrev pub Answers : {X A : Type 0} → (X → A) → Form A → State → Result X ParseFault → State → Type 0
Answers view F s (Ok x) t = Went F s (view x) t
Answers view F s (Err e) t = Fails F s e t

-- The same of a method that leaves out where the tokens of its phrase stand: with those places its value is what was read.
abbrev pub AnswersPart : {X P A : Type 0} → (X → P → A) → Form A → State → Result X ParseFault → State → Type 0
AnswersPart {P = P} whole F s (Ok x) t = (places : P) × Went F s (whole x places) t
AnswersPart whole F s (Err e) t = Fails F s e t

-- what stands between tokens at these places
abbrev pub between : {A : Type 0} → A → ℕ × ℕ → ℕ × (A × ℕ)
between x p = (p.0, (x, p.1))

-- a name, or a fault at the token that stands here
abbrev pub AnswersName : State → Result Name ParseFault → State → Type 0
AnswersName s (Ok n) t = Went forms.name s (name_of n) t
AnswersName s (Err e) t = FailsHere Kind.Ident s e t

-- the module that all tokens derive, in whatever text
pub record ReadsModule (s : State) (m : Tree.Module) (t : State) : Type 0 where
  pub kept : t.text ≡ s.text
  pub derives : (source : TokenizedText) → Stands s source 0 → Derives (lexemes_of source) m
  pub alone : (source : TokenizedText) → Stands s source 0 →
      (other : Tree.Module) → Derives (lexemes_of source) other → other ≡ m
  pub keeps : (source : TokenizedText) → Stands s source 0 → KeepsConditions m

-- why there is none, in whatever text
pub record FailsModule (s : State) (fault : ParseFault) (t : State) : Type 0 where
  pub kept : fault ≢ NoMemory → t.text ≡ s.text
  pub fails : (source : TokenizedText) → Stands s source 0 → IsParseFault source fault

abbrev pub AnswersModule : State → Result ModuleTree ParseFault → State → Type 0
AnswersModule s (Ok m) t = ReadsModule s (module_of m) t
AnswersModule s (Err e) t = FailsModule s e t

-- a heading that stands outside its procedure
abbrev pub heading_in : Heading → Tree.Heading
heading_in h = heading_with h.place h.name h.is_exported h.parameters

-- a block, with the places of its semicolon and its END
abbrev pub block_in : Block → ℕ × ℕ → ℕ × (Tree.Declarations × (Option Tree.Stmts × (ℕ × Tree.Name)))
block_in b p =
    (p.0, (declarations_of b.declarations, (option_map (λ ss. stmts_in ss.items) b.body, (p.1, name_of b.end_name))))

abbrev pub procedure_of : Procedure → ProcedureTree
procedure_of p =
    record {
      heading = heading_of p;
      declarations = inner_of p;
      body = body_of p;
      end_name = name_of (out-Procedure p).end_name;
    }

-- a selector, a field list and a branch that stand alone

abbrev pub selector_of : Selector → forms.OneSelector
selector_of (Selectors.Field place name) = forms.OneSelector.field place (name_of name)
selector_of (Selectors.Index place index) = forms.OneSelector.index place (expr_of index)

abbrev pub field_list_of : FieldList → OneFieldList
field_list_of Lists.Empty = OneFieldList.empty
field_list_of (Lists.Fields names of_type) = OneFieldList.fields (map name_of names.items) (type_of of_type)

abbrev pub branch_of : Branch → forms.OneBranch
branch_of b = record { condition = expr_of b.condition; body = stmts_in b.body.items }
