-- Names as they are read, and the name behind an END.
use Rattle.std.proofs.Common.{drop, take, ◌≡◌, ℕ, suc, zero, ◌+◌, ◌≤◌, Bool, true, false, not, List, [], ◌∷◌, ◌++◌, Option, Some, refl, sym, ◌∙◌, ap, subst, arith, slice_get, length, Contains}
use Rattle.std.specs.Str.{bytes_eq}
use Rattle.std.proofs.lemmas.Slice.Eq.{bytes_eq-Decides}
use Rattle.std.proofs.lemmas.Option.{slice_get_within}
use Rattle.ob_scan.specs.declared.token.Kind.{Kind}
use Rattle.ob_scan.specs.Lexemes.{Lexeme, lexeme}
use Rattle.ob_grammar.specs.Tree.{Name}
use Rattle.ob_grammar.specs.Grammar
use Rattle.ob_grammar.specs.Grammar.{Lexemes, TakesAt, takes, TakesName}
use Rattle.ob_grammar.specs.EndNamesAndNesting.{Breach, name_differs, differing}
use Rattle.ob_parser.specs.Reading.{Reads, breaks, Refuses, kind_at, place_at}
use Rattle.ob_parser.specs.Forms as forms
use Rattle.ob_scan.specs.Sources.{State, Steps}
use Rattle.ob_parser.specs.ParseFaults.{lexemes_of}
use Rattle.ob_parser.specs.Answers.{IsAt, IsSpelledAt, place_here, Went}
use Rattle.ob_parser.proofs.States.{at_here, place_there, went_one}
use Rattle.ob_parser.proofs.Steps.{Fills, Begins, lexeme_there, itself, same_before, drop_before, alive_here}
use Rattle.ob_parser.proofs.Phrases.{Listed, fill_separated, begins_separated}

name_first : {t : Lexeme} {a b : Lexemes} {y : Name} → TakesName (t ∷ a) y b → (t ≡ lexeme Kind.Ident y.place y.text) × (b ≡ a)
name_first Grammar.takes = (refl, refl)

no_name : {b : Lexemes} {y : Name} → TakesName [] y b → ⊥
no_name h = elim h [ ]

pub name_only : (tokens : Lexemes) (p : ℕ) {y : Name} {b : Lexemes} → TakesName (drop p tokens) y b →
    (slice_get tokens p ≡ Some (lexeme Kind.Ident y.place y.text)) × (b ≡ drop (suc p) tokens)
name_only [] zero h = absurd (no_name h)
name_only [] (suc p) h = absurd (no_name h)
name_only (t ∷ tokens) zero h = let m = name_first h in (ap Some m.0, m.1)
name_only (t ∷ tokens) (suc p) h = name_only tokens p h

pub name_there : (tokens : Lexemes) (p : ℕ) (x : Name) → slice_get tokens p ≡ Some (lexeme Kind.Ident x.place x.text) →
    TakesName (drop p tokens) x (drop (suc p) tokens)
name_there [] p x e = absurd (cc)
name_there (t ∷ tokens) zero x e =
    let P : Lexeme → Type 0 = λ u. TakesName (u ∷ tokens) x tokens in
    let same : lexeme Kind.Ident x.place x.text ≡ t = cc in
    subst P same Grammar.takes
name_there (t ∷ tokens) (suc p) x e = name_there tokens p x e

takes_first : {a b : Lexemes} {x : Name} → TakesName a x b → (place : ℕ) × (c : Lexemes) × TakesAt Kind.Ident place a c
takes_first (Grammar.takes {name = name} {rest = rest}) = (name.place, rest, takes)

pub begins_name : Begins forms.name Kind.Ident
begins_name = record { begins = λ a x rest d. takes_first d }

pub fill_name : Fills forms.name
fill_name = record {
  more = lexeme Kind.Ident 0 [] ∷ [];
  tree = record { text = []; place = 0 };
  derives = λ rest. Grammar.takes;
  kept = refl;
}

-- the same token is the same name
one_name : (x y : Name) → Some (lexeme Kind.Ident x.place x.text) ≡ Some (lexeme Kind.Ident y.place y.text) → x ≡ y
one_name x y e =
    let place : x.place ≡ y.place = cc in
    let text : x.text ≡ y.text = cc in
    let with_place : ℕ → Name = λ q. record { text = x.text; place = q } in
    let with_text : List ℕ → Name = λ t. record { text = t; place = y.place } in
    ap with_place place ∙ ap with_text text

pub reads_name : {tokens : Lexemes} {p : ℕ} {x : Name} → slice_get tokens p ≡ Some (lexeme Kind.Ident x.place x.text) →
    Reads forms.name tokens p x (suc p)
reads_name {tokens = tokens} {p = p} {x = x} here = record {
  order = omega arith;
  within = λ h. (let k = slice_get_within tokens p _ here in omega arith);
  sound = λ other same. name_there other p x (same.at p (omega arith) ∙ here);
  only = λ other same y rest d stops.
      (let m = name_only other p d in
      (one_name y x (sym m.0 ∙ same.at p (omega arith) ∙ here), m.1));
  kept = refl;
}

-- the name that was read
pub name_read : {tokens : Lexemes} {p q : ℕ} {x : Name} → Reads forms.name tokens p x q →
    slice_get tokens p ≡ Some (lexeme Kind.Ident x.place x.text)
name_read {tokens = tokens} {p = p} {q = q} r = (name_only tokens p (r.sound tokens (itself q tokens))).0

-- a name that is read, from its token
pub went_name : {s t : State} (x : Name) (bytes : List ℕ) → Steps s t → IsAt s Kind.Ident → IsSpelledAt s bytes →
    x.text ≡ bytes → x.place ≡ place_here s → Went forms.name s x t
went_name x bytes steps here spelled text place =
    went_one steps
    (λ source p w.
    (let tokens = lexemes_of source in
    let there = lexeme_there tokens p (at_here w here) in
    let is : x.text ≡ there.0 = text ∙ spelled Kind.Ident (place_at 0 tokens p) there.0 (sym w.next ∙ there.1) in
    let with_place : ℕ → Option Lexeme = λ q. Some (lexeme Kind.Ident q there.0) in
    let with_text : List ℕ → Option Lexeme = λ u. Some (lexeme Kind.Ident x.place u) in
    reads_name (there.1 ∙ ap with_place (sym (place ∙ place_there w)) ∙ ap with_text (sym is))))

-- the name behind an END

pub differs : (same : Bool) → true ≡ not same → same ≡ false
differs true e = absurd (cc)
differs false e = refl

pub agrees : (same : Bool) → false ≡ not same → same ≡ true
agrees true e = refl
agrees false e = absurd (cc)

pub same_names : (n x : Name) → bytes_eq n.text x.text ≡ true → differing n x ≡ []
same_names n x e = rw e refl

pub other_names : (n x : Name) → bytes_eq n.text x.text ≡ false → differing n x ≡ name_differs x.place ∷ []
other_names n x e = rw e refl

pub fill_end_name : (n : Name) → Fills (forms.end_name n)
fill_end_name n =
    let x : Name = record { text = n.text; place = 0 } in record {
      more = lexeme Kind.Ident 0 n.text ∷ [];
      tree = x;
      derives = λ rest. Grammar.takes;
      kept = same_names n x ((bytes_eq-Decides n.text n.text).1 refl);
    }

pub begins_end_name : (n : Name) → Begins (forms.end_name n) Kind.Ident
begins_end_name n = record { begins = λ a x rest d. takes_first d }

pub reads_end_name : (n : Name) {tokens : Lexemes} {p q : ℕ} {x : Name} → bytes_eq n.text x.text ≡ true →
    Reads forms.name tokens p x q → Reads (forms.end_name n) tokens p x q
reads_end_name n {x = x} e r = record {
  order = r.order;
  within = r.within;
  sound = r.sound;
  only = r.only;
  kept = same_names n x e;
}

pub refuses_end_name : (n : Name) {tokens : Lexemes} {p : ℕ} {x : Name} → bytes_eq n.text x.text ≡ false →
    slice_get tokens p ≡ Some (lexeme Kind.Ident x.place x.text) →
    Refuses (forms.end_name n) tokens p (breaks (name_differs x.place)) p
refuses_end_name n {tokens = tokens} {p = p} {x = x} e here = record {
  order = omega arith;
  never = λ other same y rest d stops.
      (let m = name_only other p d in
      let one = one_name y x (sym m.0 ∙ same.at p (omega arith) ∙ here) in
      let P : List Breach → Type 0 = λ bs. Contains bs (name_differs x.place) in
      subst P (sym (ap (differing n) one ∙ other_names n x e)) (0, omega arith, refl));
  within = λ h. h;
  alive = alive_here tokens p (fill_end_name n);
  there = λ breach. slice_get_within tokens p _ here;
  reached = λ breach h. record {
    more = [];
    tree = x;
    derives = λ rest.
        (let below : suc p ≤ length tokens = (let k = slice_get_within tokens p _ here in omega arith) in
        let same = same_before tokens (suc p) rest below in
        let other : Lexemes = take (suc p) tokens ++ rest in
        let P : Lexemes → Type 0 = λ l. TakesName (drop p other) x l in
        subst P (drop_before tokens (suc p) rest below) (name_there other p x (same.at p (omega arith) ∙ here)));
  };
}

-- IdentList = ident {"," ident}

pub listed_names : Listed Kind.Comma forms.comma forms.none forms.name
listed_names = record { more = refl; stops = refl; inner = λ k e. refl; none = refl; some = λ x xs. refl }

pub begins_ident_list : Begins forms.ident_list Kind.Ident
begins_ident_list = begins_separated begins_name

pub fill_ident_list : Fills forms.ident_list
fill_ident_list = fill_separated listed_names fill_name
