-- What a loop has added so far, and what is left to add.
use Rattle.std.proofs.Common.{◌≡◌, ℕ, ◌+◌, ◌<◌, ◌≤◌, List, [], ◌∷◌, ◌++◌, Bool, true, false, cond, refl, sym, ◌∙◌, ap, length, get_or, drop, map, append_assoc}
use Rattle.std.specs.List.{flat_map}
use Rattle.std.proofs.lemmas.Bool.{false≢true}
use Rattle.std.proofs.lemmas.List.{append-nil, drop_more, drop_all}
use Rattle.ob_grammar.specs.declared.tree.ConstDecl.{ConstDecl}
use Rattle.ob_grammar.specs.declared.tree.Name.{Name}
use Rattle.ob_grammar.specs.declared.tree.Procedure.{Procedure}
use Rattle.ob_grammar.specs.declared.tree.Section.{Section}
use Rattle.ob_grammar.specs.declared.tree.TypeDecl.{TypeDecl}
use Rattle.ob_grammar.specs.declared.tree.VarDecl.{VarDecl}
use Rattle.ob_grammar.specs.View.{const_decl_of, name_of, procedures_in, section_of, type_decl_of, var_decl_of}
use Rattle.ob_explain_names.specs.declared.known.Known.{Known}
use Rattle.ob_explain_names.specs.declared.known.Sort.TheVariants.{Constant, TypeName, Variable}
use Rattle.ob_explain_names.specs.Known.{known_as, known_procedures}

-- the names now with those that are left are the names before with all
pub record Added (before now left all : List Known) : Type 0 where
  pub same : now ++ left ≡ before ++ all

-- nothing is added yet
pub adds_all : (before all : List Known) → Added before before all all
adds_all before all = record { same = refl }

-- of what is left, some are added
pub adds : {before now left all : List Known} (more rest : List Known) {next : List Known} →
    Added before now left all → left ≡ more ++ rest → next ≡ now ++ more → Added before next rest all
adds {now = now} more rest w e n = record {
  same = ap (λ t. t ++ rest) n ∙ append_assoc now more rest ∙ ap (λ t. now ++ t) (sym e) ∙ w.same;
}

-- none is left
pub added : {before now left all : List Known} → Added before now left all → left ≡ [] → now ≡ before ++ all
added {now = now} w e = sym (append-nil now) ∙ ap (λ l. now ++ l) (sym e) ∙ w.same

-- those of the part at the loop's index are added
pub loop_adds : {X : Type 0} {before now next all : List Known} (left : List X → List Known) (more : List Known) (xs : List X) (i : ℕ) (x : X) →
    Added before now (left (drop i xs)) all → i < length xs → x ≡ get_or xs i x →
    ((ys : List X) → left (x ∷ ys) ≡ more ++ left ys) → next ≡ now ++ more →
    Added before next (left (drop (i + 1) xs)) all
loop_adds left more xs i x w h e first n =
    adds more (left (drop (i + 1) xs)) w
    (ap left (drop_more xs i x h ∙ ap (λ y. y ∷ drop (i + 1) xs) (sym e)) ∙ first (drop (i + 1) xs)) n

-- the loop has come to the end
pub loop_added : {X : Type 0} {before now all : List Known} (left : List X → List Known) (xs : List X) (i : ℕ) →
    Added before now (left (drop i xs)) all → left [] ≡ [] → length xs ≤ i → now ≡ before ++ all
loop_added left xs i w e h = added w (ap left (drop_all i xs h) ∙ e)

-- names, and then further ones
pub adds_both : (now : List Known) {halfway next : List Known} (more further : List Known) →
    halfway ≡ now ++ more → next ≡ halfway ++ further → next ≡ now ++ (more ++ further)
adds_both now more further b n = n ∙ ap (λ t. t ++ further) b ∙ append_assoc now more further

-- a procedure before others
pub procedure_first : (at : ℕ) (p : Procedure) (rest : List Procedure) →
    known_procedures at (procedures_in (p ∷ rest)) ≡ known_procedures at (procedures_in (p ∷ [])) ++ known_procedures at (procedures_in rest)
procedure_first at p rest = simp append-nil

-- what a procedure that ends behind a place adds, and one that ends before it
pub kept : (hidden : Bool) (names : List Known) → hidden ≡ false → names ≡ cond hidden [] names ++ []
kept true names e = absurd (false≢true (sym e))
kept false names e = sym (append-nil names)

pub left_out : (hidden : Bool) (names : List Known) → hidden ≡ true → [] ≡ cond hidden [] names ++ []
left_out true names e = refl
left_out false names e = absurd (false≢true e)

-- the names of what is left of each list

abbrev pub constants_left : List ConstDecl → List Known
constants_left xs = map (λ c. known_as Constant c.name) (map const_decl_of xs)

abbrev pub types_left : List TypeDecl → List Known
types_left xs = map (λ t. known_as TypeName t.name) (map type_decl_of xs)

abbrev pub variables_left : List VarDecl → List Known
variables_left xs = flat_map (λ v. map (known_as Variable) v.names) (map var_decl_of xs)

abbrev pub sections_left : List Section → List Known
sections_left xs = flat_map (λ section. map (known_as Variable) section.names) (map section_of xs)

abbrev pub names_left : List Name → List Known
names_left xs = map (known_as Variable) (map name_of xs)
