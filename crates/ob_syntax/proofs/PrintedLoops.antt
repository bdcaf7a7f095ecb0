-- What a loop of the printer has written so far, and the words that are left.
use Rattle.std.proofs.Common.{◌≡◌, ℕ, ◌+◌, ◌<◌, ◌≤◌, List, [], ◌∷◌, ◌++◌, Bool, true, false, Result, Ok, Err, OnOk, refl, sym, ◌∙◌, ap, map, length, get_or, drop, append_assoc}
use Rattle.std.specs.Bool.{if◌then◌else◌}
use Rattle.std.specs.List.{flat_map}
use Rattle.std.proofs.lemmas.List.{append-nil, drop_more, drop_all}
use Rattle.std.proofs.lemmas.Grind.{flat_map-append}
use Rattle.ob_scan.specs.declared.token.Kind.{Kind}
use Rattle.ob_grammar.specs.declared.tree.Selector.{Selector}
use Rattle.ob_grammar.specs.declared.tree.Selector.TheVariants.{Field, Index}
use Rattle.ob_grammar.specs.declared.tree.FieldList.{FieldList}
use Rattle.ob_grammar.specs.declared.tree.FieldList.TheVariants.{Empty, Fields}
use Rattle.ob_grammar.specs.declared.tree.Stmt.{Stmt}
use Rattle.ob_grammar.specs.declared.tree.Branch.{Branch}
use Rattle.ob_grammar.specs.declared.tree.Procedure.{Procedure}
use Rattle.ob_grammar.specs.Tree
use Rattle.ob_grammar.specs.View.{name_of, expr_of, selectors_in, type_of, fields_in, stmts_in, branches_in, procedures_in}
use Rattle.ob_syntax.specs.Printing.{Word, fixed, between, spaced, name_words, expr_words, selector_words, type_words, field_words, more_field_words, stmts_words, more_stmts_words, branch_words, more_branch_words, procedure_words}

-- the text now with what is left is the text before with all the words
pub record Written (before now : List ℕ) (left all : List Word) : Type 0 where
  pub same : now ++ spaced left ≡ before ++ spaced all

-- nothing is written yet
pub writes_all : (before : List ℕ) (all : List Word) → Written before before all all
writes_all before all = record { same = refl }

-- of what is left, words are written
pub writes : {before now : List ℕ} {left all : List Word} (words rest : List Word) {next : List ℕ} →
    Written before now left all → left ≡ words ++ rest → next ≡ now ++ spaced words → Written before next rest all
writes {now = now} words rest w e n = record {
  same =
      ap (λ t. t ++ spaced rest) n ∙ append_assoc now (spaced words) (spaced rest)
      ∙ ap (λ t. now ++ t) (sym (flat_map-append (λ w. 32 ∷ w.bytes) words rest) ∙ ap spaced (sym e)) ∙ w.same;
}

-- no word is left
pub written : {before now : List ℕ} {left all : List Word} → Written before now left all → left ≡ [] → now ≡ before ++ spaced all
written {now = now} w e = sym (append-nil now) ∙ ap (λ l. now ++ spaced l) (sym e) ∙ w.same

-- what stands before a part, where it is not the first
abbrev pub separation : Bool → Kind → List Word
separation is_first separator = if is_first then [] else (fixed separator ∷ [])

-- a separator, and then a part
pub writes_part : (now : List ℕ) {apart next : List ℕ} (is_first : Bool) (separator : Kind) (words : List Word) →
    apart ≡ now ++ (if is_first then [] else (32 ∷ (fixed separator).bytes)) → next ≡ apart ++ spaced words →
    next ≡ now ++ spaced (separation is_first separator ++ words)
writes_part now true separator words t n = n ∙ ap (λ l. l ++ spaced words) (t ∙ append-nil now)
writes_part now false separator words t n =
    n ∙ ap (λ l. l ++ spaced words) t ∙ append_assoc now (32 ∷ (fixed separator).bytes) (spaced words)

-- the words of the parts that are left
abbrev pub parts_left : {A : Type 0} → Kind → (A → List Word) → Bool → List A → List Word
parts_left separator words is_first xs =
    if is_first then (between separator words xs) else (flat_map (λ x. fixed separator ∷ words x) xs)

pub no_part_left : {A : Type 0} (separator : Kind) (words : A → List Word) (is_first : Bool) → parts_left separator words is_first [] ≡ []
no_part_left separator words true = refl
no_part_left separator words false = refl

pub part_left : {A : Type 0} (separator : Kind) (words : A → List Word) (is_first : Bool) (x : A) (xs : List A) →
    parts_left separator words is_first (x ∷ xs) ≡ separation is_first separator ++ words x ++ parts_left separator words false xs
part_left separator words true x xs = refl
part_left separator words false x xs = refl

-- the part at the loop's index is written
pub loop_writes : {X : Type 0} {before now next : List ℕ} {all : List Word} (left rest : List X → List Word) (words : List Word) (xs : List X) (i : ℕ) (x : X) →
    Written before now (left (drop i xs)) all → i < length xs → x ≡ get_or xs i x →
    ((ys : List X) → left (x ∷ ys) ≡ words ++ rest ys) → next ≡ now ++ spaced words →
    Written before next (rest (drop (i + 1) xs)) all
loop_writes left rest words xs i x w h e first n =
    writes words (rest (drop (i + 1) xs)) w
    (ap left (drop_more xs i x h ∙ ap (λ y. y ∷ drop (i + 1) xs) (sym e)) ∙ first (drop (i + 1) xs)) n

-- the loop has come to the end
pub loop_wrote : {X : Type 0} {before now : List ℕ} {all : List Word} (left : List X → List Word) (xs : List X) (i : ℕ) →
    Written before now (left (drop i xs)) all → left [] ≡ [] → length xs ≤ i → now ≡ before ++ spaced all
loop_wrote left xs i w e h = written w (ap left (drop_all i xs h) ∙ e)

-- words, and then further ones
pub writes_both : (now : List ℕ) {halfway next : List ℕ} (words more : List Word) →
    halfway ≡ now ++ spaced words → next ≡ halfway ++ spaced more → next ≡ now ++ spaced (words ++ more)
writes_both now words more b n =
    n ∙ ap (λ t. t ++ spaced more) b ∙ append_assoc now (spaced words) (spaced more)
    ∙ ap (λ t. now ++ t) (sym (flat_map-append (λ w. 32 ∷ w.bytes) words more))

-- the last of several calls, which may fail, writes the rest
pub writes_rest : {A E : Type 0} (r : Result A E) (now next : List ℕ) {halfway : List ℕ} (words more : List Word) {all : List Word} →
    halfway ≡ now ++ spaced words → all ≡ words ++ more → OnOk r (next ≡ halfway ++ spaced more) → OnOk r (next ≡ now ++ spaced all)
writes_rest (Err e) now next words more b a n = n
writes_rest (Ok x) now next words more b a n = writes_both now words more b n ∙ ap (λ ws. now ++ spaced ws) (sym a)

-- what is left of each list, and its first part

abbrev pub stmts_left : Bool → List Stmt → List Word
stmts_left is_first ss = if is_first then (stmts_words (stmts_in ss)) else (more_stmts_words (stmts_in ss))

abbrev pub branches_left : Bool → List Branch → List Word
branches_left is_first bs = if is_first then (branch_words (branches_in bs)) else (more_branch_words (branches_in bs))

-- fields of one type, in front of more
fields_join : (names : List Tree.Name) (t : Tree.TypeExpr) (more : List Word) →
    (name_words names ++ fixed Kind.Colon ∷ (type_words t ++ [])) ++ more ≡ name_words names ++ fixed Kind.Colon ∷ (type_words t ++ more)
fields_join names t more =
    append_assoc (name_words names) (fixed Kind.Colon ∷ (type_words t ++ [])) more
    ∙ ap (λ ws. name_words names ++ fixed Kind.Colon ∷ (ws ++ more)) (append-nil (type_words t))

pub selector_first : (s : Selector) (rest : List Selector) →
    selector_words (selectors_in (s ∷ rest)) ≡ selector_words (selectors_in (s ∷ [])) ++ selector_words (selectors_in rest)
selector_first (Field place name) rest = refl
selector_first (Index place i) rest =
    ap (λ ws. fixed Kind.LeftBracket ∷ ws) (sym (append_assoc (expr_words (expr_of i)) (fixed Kind.RightBracket ∷ []) (selector_words (selectors_in rest))))

abbrev pub fields_left : Bool → List FieldList → List Word
fields_left is_first lists = if is_first then (field_words (fields_in lists)) else (more_field_words (fields_in lists))

pub no_field_left : (is_first : Bool) → fields_left is_first [] ≡ []
no_field_left true = refl
no_field_left false = refl

pub field_list_first : (is_first : Bool) (x : FieldList) (rest : List FieldList) →
    fields_left is_first (x ∷ rest) ≡ separation is_first Kind.Semicolon ++ field_words (fields_in (x ∷ [])) ++ fields_left false rest
field_list_first true Empty rest = refl
field_list_first false Empty rest = refl
field_list_first true (Fields names t) rest = sym (fields_join (map name_of names.items) (type_of t) (fields_left false rest))
field_list_first false (Fields names t) rest =
    ap (λ ws. fixed Kind.Semicolon ∷ ws) (sym (fields_join (map name_of names.items) (type_of t) (fields_left false rest)))

pub procedure_first : (p : Procedure) (rest : List Procedure) →
    procedure_words (procedures_in (p ∷ rest)) ≡ procedure_words (procedures_in (p ∷ [])) ++ procedure_words (procedures_in rest)
procedure_first p rest = simp append_assoc
