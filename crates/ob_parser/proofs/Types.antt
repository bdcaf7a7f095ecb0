-- Types: what is left of each, by the token that stands there.
use Rattle.std.proofs.Common.{◌≡◌, ℕ, ◌+◌, false, List, [], ◌∷◌, ◌++◌, Some, refl, sym, ap, arith}
use Rattle.std.proofs.lemmas.List.{append-nil}
use Rattle.ob_scan.specs.declared.token.Kind.{Kind}
use Rattle.ob_scan.specs.Lexemes.{lexeme}
use Rattle.ob_grammar.specs.Tree
use Rattle.ob_grammar.specs.Tree.{Name, Expr, TypeExpr, FieldLists, OneFieldList, no_list}
use Rattle.ob_grammar.specs.Grammar
use Rattle.ob_grammar.specs.Grammar.{Lexemes, Takes, TakesAt, TakesName, Expression, IdentList, IsType, FieldList, FieldListSequence, MoreFields}
use Rattle.ob_grammar.specs.EndNamesAndNesting.{in_fields, opening}
use Rattle.ob_parser.specs.Reading.{Form, Stops, Reads, kind_at}
use Rattle.ob_parser.specs.Forms as forms
use Rattle.ob_parser.specs.Forms.{list_in_front, in_field_list, token, opens, Both, both}
use Rattle.ob_parser.proofs.Steps.{Leads, Follows, Fills, takes_same, no_takes_same, same_token, stops_at, not_stopped, nothing_stops, weaker, fill_token, fill_both}
use Rattle.ob_parser.proofs.Names.{begins_name, begins_ident_list}
use Rattle.ob_parser.proofs.Firsts.{fill_expression}

-- a token of a kind, as a phrase
abbrev pub One : Kind → Lexemes → ℕ → Lexemes → Type 0
One kind a place b = TakesAt kind place a b

pub fill_type : {n : ℕ} → Fills (forms.type_expr n)
fill_type = record {
  more = lexeme Kind.Ident 0 [] ∷ [];
  tree = Tree.NamedType (record { text = []; place = 0 });
  derives = λ rest. Grammar.named_type Grammar.takes;
  kept = refl;
}

-- another token does not begin a name
no_name : {kind : Kind} {a b c : Lexemes} {place : ℕ} {x : Name} → TakesAt kind place a b → TakesName a x c → kind ≡ Kind.Ident
no_name {a = a} {c = c} {x = x} t d = sym (same_token t (begins_name.begins a x c d).2).0

-- "ARRAY" expression "OF" type

-- what stands behind ARRAY
abbrev pub behind_array : ℕ → Form (Expr × (ℕ × TypeExpr))
behind_array n = both (forms.expression (n + 1)) (both (token Kind.Of) (forms.type_expr (n + 1)))

array_only : {a b rest : Lexemes} {place : ℕ} {y : TypeExpr} → TakesAt Kind.Array place a b → IsType a y rest →
    (x : ℕ × (Expr × (ℕ × TypeExpr))) × (y ≡ Tree.Array x.0 x.1.0 x.1.1.1)
    × Both (One Kind.Array) (Both Expression (Both (One Kind.Of) IsType)) a x rest
array_only t (Grammar.named_type d) = (let e = no_name t d in absurd (cc))
array_only t (Grammar.array {place = place} {length = length} {element = element} u d v e) =
    ((place, (length, (v.0, element))), refl, (_, u, (_, d, (_, v.1, e))))
array_only t (Grammar.record' u d v) = (let e = (same_token t u).0 in absurd (cc))

pub leads_array : {n : ℕ} {tokens : Lexemes} {p : ℕ} → kind_at tokens p ≡ Some Kind.Array →
    Leads (forms.type_expr n) tokens p (both (opens n Kind.Array) (behind_array n)) p (λ x. Tree.Array x.0 x.1.0 x.1.1.1)
leads_array here = record {
  order = omega arith;
  within = λ h. h;
  into = λ other same x rest d. Grammar.array d.1 d.2.1 (x.1.1.0, d.2.2.1) d.2.2.2;
  onto = λ other same y rest d stops. (let m = array_only (takes_same other here same) d in (m.0, m.1, m.2, stops));
  breaches = λ x. refl;
}

pub fill_behind_array : (n : ℕ) → Fills (behind_array n)
fill_behind_array n = fill_both fill_expression (fill_both fill_token fill_type)

-- FieldList = [IdentList ":" type]

pub fill_field_list : {n : ℕ} → Fills (forms.field_list n)
fill_field_list = record { more = []; tree = OneFieldList.empty; derives = λ rest. FieldList.empty; kept = refl }

list_only : {a b rest : Lexemes} {place : ℕ} {y : OneFieldList} → TakesAt Kind.Ident place a b → FieldList a y rest →
    Stops forms.ident rest →
    (x : List Name × (ℕ × TypeExpr)) × (y ≡ OneFieldList.fields x.0 x.1.1) × Both IdentList (Both (One Kind.Colon) IsType) a x rest
list_only t FieldList.empty s = absurd (not_stopped refl t s)
list_only t (FieldList.fields {names = names} {of_type = of_type} d u e) s = ((names, (u.0, of_type)), refl, (_, d, (_, u.1, e)))

pub leads_fields : {n : ℕ} {tokens : Lexemes} {p : ℕ} → kind_at tokens p ≡ Some Kind.Ident →
    Leads (forms.field_list n) tokens p (both forms.ident_list (both (token Kind.Colon) (forms.type_expr n))) p
    (λ x. OneFieldList.fields x.0 x.1.1)
leads_fields here = record {
  order = omega arith;
  within = λ h. h;
  into = λ other same x rest d. FieldList.fields d.1 (x.1.0, d.2.1) d.2.2;
  onto = λ other same y rest d stops.
      (let m = list_only (takes_same other here same) d stops in (m.0, m.1, m.2, nothing_stops rest));
  breaches = λ x. refl;
}

no_fields : {a rest : Lexemes} {y : OneFieldList} → ((place : ℕ) (b : Lexemes) → TakesAt Kind.Ident place a b → ⊥) →
    FieldList a y rest → (y ≡ OneFieldList.empty) × (rest ≡ a)
no_fields h FieldList.empty = (refl, refl)
no_fields {a = a} h (FieldList.fields {b = b} {names = names} d u e) =
    let m = begins_ident_list.begins a names b d in absurd (h m.0 m.1 m.2)

pub reads_no_fields : {n : ℕ} {tokens : Lexemes} {p : ℕ} → (kind_at tokens p ≡ Some Kind.Ident → ⊥) →
    Reads (forms.field_list n) tokens p OneFieldList.empty p
reads_no_fields missing = record {
  order = omega arith;
  within = λ h. h;
  sound = λ other same. FieldList.empty;
  only = λ other same y rest d stops. no_fields (λ place b t. no_takes_same missing same t) d;
  kept = refl;
}

-- FieldList {";" FieldList}

lists_into : {a b c : Lexemes} {x : OneFieldList} {rest : FieldLists} → FieldList a x b → MoreFields b rest c →
    FieldListSequence a (list_in_front x rest) c
lists_into {x = OneFieldList.empty} d e = Grammar.first_empty d e
lists_into {x = OneFieldList.fields names of_type} d e = Grammar.first_fields d e

lists_only : {a rest : Lexemes} {y : FieldLists} → FieldListSequence a y rest →
    (x : OneFieldList × FieldLists) × (y ≡ list_in_front x.0 x.1) × Both FieldList MoreFields a x rest
lists_only (Grammar.first_empty {rest = rest} d e) = ((OneFieldList.empty, rest), refl, (_, d, e))
lists_only (Grammar.first_fields {names = names} {of_type = of_type} {rest = rest} d e) =
    ((OneFieldList.fields names of_type, rest), refl, (_, d, e))

in_lists : (n : ℕ) (x : OneFieldList) (rest : FieldLists) → in_fields n (list_in_front x rest) ≡ in_field_list n x ++ in_fields n rest
in_lists n OneFieldList.empty rest = refl
in_lists n (OneFieldList.fields names of_type) rest = refl

pub leads_field_lists : {n : ℕ} {tokens : Lexemes} {p : ℕ} →
    Leads (forms.field_lists n) tokens p (both (forms.field_list n) (forms.more_fields n)) p (λ x. list_in_front x.0 x.1)
leads_field_lists {n = n} = record {
  order = omega arith;
  within = λ h. h;
  into = λ other same x rest d. lists_into d.1 d.2;
  onto = λ other same y rest d stops. (let m = lists_only d in (m.0, m.1, m.2, stops));
  breaches = λ x. in_lists n x.0 x.1;
}

pub fill_more_fields : {n : ℕ} → Fills (forms.more_fields n)
fill_more_fields = record { more = []; tree = no_list; derives = λ rest. Grammar.no_more_fields; kept = refl }

pub fill_field_lists : {n : ℕ} → Fills (forms.field_lists n)
fill_field_lists = record {
  more = [];
  tree = Tree.empty_list no_list;
  derives = λ rest. Grammar.first_empty FieldList.empty Grammar.no_more_fields;
  kept = refl;
}

only_ident : (k : Kind) → forms.fields_go_on k ≡ false → forms.ident k ≡ false
only_ident Kind.Ident h = h
only_ident _ h = refl

more_fields_stop : {a rest : Lexemes} {y : FieldLists} → MoreFields a y rest → Stops forms.fields_go_on rest → Stops forms.ident a
more_fields_stop Grammar.no_more_fields s = weaker only_ident s
more_fields_stop (Grammar.more_fields t d) s = stops_at refl t.1

-- a field list and those behind it
pub more_fields_follow : {n : ℕ} → Follows (forms.field_list n) (forms.more_fields n)
more_fields_follow = record { stops = λ a x rest d s. more_fields_stop d s }

-- {";" FieldList}

more_only : {a b rest : Lexemes} {place : ℕ} {y : FieldLists} → TakesAt Kind.Semicolon place a b → MoreFields a y rest →
    Stops forms.fields_go_on rest → (x : ℕ × FieldLists) × (y ≡ x.1) × Both (One Kind.Semicolon) FieldListSequence a x rest
more_only t Grammar.no_more_fields s = absurd (not_stopped refl t s)
more_only t (Grammar.more_fields {lists = lists} u d) s = ((u.0, lists), refl, (_, u.1, d))

pub leads_more_fields : {n : ℕ} {tokens : Lexemes} {p : ℕ} → kind_at tokens p ≡ Some Kind.Semicolon →
    Leads (forms.more_fields n) tokens p (both (token Kind.Semicolon) (forms.field_lists n)) p (λ x. x.1)
leads_more_fields here = record {
  order = omega arith;
  within = λ h. h;
  into = λ other same x rest d. Grammar.more_fields (x.0, d.1) d.2;
  onto = λ other same y rest d stops. (let m = more_only (takes_same other here same) d stops in (m.0, m.1, m.2, stops));
  breaches = λ x. refl;
}

no_more : {a rest : Lexemes} {y : FieldLists} → ((place : ℕ) (b : Lexemes) → TakesAt Kind.Semicolon place a b → ⊥) →
    MoreFields a y rest → (y ≡ no_list) × (rest ≡ a)
no_more h Grammar.no_more_fields = (refl, refl)
no_more h (Grammar.more_fields {b = b} t d) = absurd (h t.0 b t.1)

pub reads_no_more_fields : {n : ℕ} {tokens : Lexemes} {p : ℕ} → (kind_at tokens p ≡ Some Kind.Semicolon → ⊥) →
    Reads (forms.more_fields n) tokens p no_list p
reads_no_more_fields missing = record {
  order = omega arith;
  within = λ h. h;
  sound = λ other same. Grammar.no_more_fields;
  only = λ other same y rest d stops. no_more (λ place b t. no_takes_same missing same t) d;
  kept = refl;
}

-- "RECORD" FieldList {";" FieldList} "END"

-- what stands behind RECORD
abbrev pub behind_record : ℕ → Form (FieldLists × ℕ)
behind_record n = both (forms.field_lists (n + 1)) (token Kind.End)

record_only : {a b rest : Lexemes} {place : ℕ} {y : TypeExpr} → TakesAt Kind.Record place a b → IsType a y rest →
    (x : ℕ × (FieldLists × ℕ)) × (y ≡ Tree.Record x.0 x.1.0) × Both (One Kind.Record) (Both FieldListSequence (One Kind.End)) a x rest
record_only t (Grammar.named_type d) = (let e = no_name t d in absurd (cc))
record_only t (Grammar.array u d v e) = (let f = (same_token t u).0 in absurd (cc))
record_only t (Grammar.record' {place = place} {lists = lists} u d v) = ((place, (lists, v.0)), refl, (_, u, (_, d, v.1)))

pub leads_record : {n : ℕ} {tokens : Lexemes} {p : ℕ} → kind_at tokens p ≡ Some Kind.Record →
    Leads (forms.type_expr n) tokens p (both (opens n Kind.Record) (behind_record n)) p (λ x. Tree.Record x.0 x.1.0)
leads_record {n = n} here = record {
  order = omega arith;
  within = λ h. h;
  into = λ other same x rest d. Grammar.record' d.1 d.2.1 (x.1.1, d.2.2);
  onto = λ other same y rest d stops. (let m = record_only (takes_same other here same) d in (m.0, m.1, m.2, nothing_stops rest));
  breaches = λ x. ap (λ ds. opening n x.0 ++ ds) (sym (append-nil (in_fields (n + 1) x.1.0)));
}

pub fill_behind_record : (n : ℕ) → Fills (behind_record n)
fill_behind_record n = fill_both fill_field_lists fill_token

-- ident

called_only : {a rest : Lexemes} {y : TypeExpr} → ((place : ℕ) (b : Lexemes) → TakesAt Kind.Array place a b → ⊥) →
    ((place : ℕ) (b : Lexemes) → TakesAt Kind.Record place a b → ⊥) → IsType a y rest →
    (x : Name) × (y ≡ Tree.NamedType x) × TakesName a x rest
called_only g h (Grammar.named_type {name = name} d) = (name, refl, d)
called_only g h (Grammar.array {b = b} {place = place} t d u e) = absurd (g place b t)
called_only g h (Grammar.record' {b = b} {place = place} t d u) = absurd (h place b t)

pub leads_called : {n : ℕ} {tokens : Lexemes} {p : ℕ} → (kind_at tokens p ≡ Some Kind.Array → ⊥) →
    (kind_at tokens p ≡ Some Kind.Record → ⊥) → Leads (forms.type_expr n) tokens p forms.name p (λ x. Tree.NamedType x)
leads_called no_array no_record = record {
  order = omega arith;
  within = λ h. h;
  into = λ other same x rest d. Grammar.named_type d;
  onto = λ other same y rest d stops.
      (let m = called_only (λ place b t. no_takes_same no_array same t) (λ place b t. no_takes_same no_record same t) d in
      (m.0, m.1, m.2, stops));
  breaches = λ x. refl;
}
