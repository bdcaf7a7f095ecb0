-- A well typed module's program keeps the limits.
use Rattle.std.proofs.Common.{◌≡◌, refl, sym, ap, subst, arith, ℕ, suc, ◌+◌, ◌≤◌, Bool, true, false, List, [], ◌∷◌, ◌++◌, length, Option, Some, None, if◌then◌else◌, length-append}
use Rattle.std.specs.Prelude.{◌||◌, nat_le}
use Rattle.std.specs.List.{All}
use Rattle.std.proofs.lemmas.Bool.{leb-true}
use Rattle.std.proofs.lemmas.List.Elements.{All-nil, All-cons, All-append}
use Rattle.std.proofs.lemmas.List.Sums.{sum_by-append}
use Rattle.ob_grammar.specs.Tree
use Rattle.ob_grammar.specs.Tree.{VarDecl, Section, Declarations, Procedures, Module}
use Rattle.ob_typing.specs.Program
use Rattle.ob_typing.specs.Program.{DataType, Parameter, Variable, Procedure}
use Rattle.ob_typing.specs.Scopes.{Environment, is_simple, words}
use Rattle.ob_typing.specs.Declarations as Typing
use Rattle.ob_typing.specs.Declarations.{Room, with_words, first_beyond, room_behind, variables_of, parameters_of, most_parameters, Variables, Parameters, DeclaresProcedures, Declares, WellTyped}
use Rattle.ob_typing.proofs.Exports.{exports_within}
use Rattle.ob_typing.specs.Limits.{variable_words, KeepsFrame, KeepsLimits}

then_none : {A : Type 0} (b : Bool) (x : Option A) (a : A) → (if b then x else Some a) ≡ None → (b ≡ true) × (x ≡ None)
then_none true x a h = (refl, h)
then_none false x a h = absurd cc

one_more : (v : Variable) (vs : List Variable) → variable_words (v ∷ vs) ≡ words v.type + variable_words vs
one_more v vs =
    let a : variable_words (v ∷ vs) ≡ (0 + words v.type) + variable_words vs = sum_by-append (λ (w : Variable). words w.type) (v ∷ []) vs in
    omega (arith, a)

taken_behind : (t : DataType) (names : List Tree.Name) (room : Room) →
    (room_behind room t names).taken ≡ room.taken + variable_words (variables_of t names)
taken_behind t [] room = omega arith
taken_behind t (name ∷ names) room =
    let h : (room_behind (with_words room (words t)) t names).taken ≡ (room.taken + words t) + variable_words (variables_of t names) =
    taken_behind t names (with_words room (words t)) in
    let e : variable_words (variables_of t (name ∷ names)) ≡ words t + variable_words (variables_of t names) =
    one_more (record { name = name.text; type = t }) (variables_of t names) in
    omega (arith, h, e)

limit_behind : (t : DataType) (names : List Tree.Name) (room : Room) → (room_behind room t names).limit ≡ room.limit
limit_behind t [] room = refl
limit_behind t (name ∷ names) room = limit_behind t names (with_words room (words t))

within_behind : (t : DataType) (names : List Tree.Name) (room : Room) → first_beyond room (words t) names ≡ None →
    room.taken ≤ room.limit → (room_behind room t names).taken ≤ room.limit
within_behind t [] room h p = p
within_behind t (name ∷ names) room h p =
    let both = then_none (nat_le (room.taken + words t) room.limit) (first_beyond (with_words room (words t)) (words t) names) name h in
    within_behind t names (with_words room (words t)) both.1 (leb-true _ _ both.0)

variables_within : {env after : Environment} {room : Room} {xs : List VarDecl} {vs : List Variable} →
    Variables env room xs after vs → room.taken ≤ room.limit → room.taken + variable_words vs ≤ room.limit
variables_within (Typing.none {room = room}) p = let e : variable_words [] ≡ 0 = refl in omega (arith, p, e)
variables_within (Typing.more {room = room} {x = x} {t = t} {vs = vs} new h small k) p =
    let b = within_behind t x.names room small p in
    let l = limit_behind t x.names room in
    let e = taken_behind t x.names room in
    let rest = variables_within k (subst (λ n. (room_behind room t x.names).taken ≤ n) (sym l) b) in
    let a : variable_words (variables_of t x.names ++ vs) ≡ variable_words (variables_of t x.names) + variable_words vs =
    sum_by-append (λ (v : Variable). words v.type) (variables_of t x.names) vs in
    omega (arith, rest, e, l, a)

count_of : (is_var : Bool) (t : DataType) (names : List Tree.Name) → length (parameters_of is_var t names) ≡ length names
count_of is_var t [] = refl
count_of is_var t (name ∷ names) = ap suc (count_of is_var t names)

parameters_within : {env after : Environment} {count : ℕ} {xs : List Section} {ps : List Parameter} →
    Parameters env count xs after ps → count ≤ 8 → count + length ps ≤ 8
parameters_within (Typing.none {count = count}) p = let e : length {A = Parameter} [] ≡ 0 = refl in omega (arith, p, e)
parameters_within (Typing.more {count = count} {x = x} {t = t} {ps = ps} new h name simple k) p =
    let few = new.few in
    let e = count_of x.is_var t x.names in
    let a = length-append (parameters_of x.is_var t x.names) ps in
    let rest = parameters_within k (omega (arith, few)) in
    omega (arith, few, e, a, rest)

abbrev IsFormal : Parameter → Type 0
IsFormal q = (q.is_var || is_simple q.type) ≡ true

formals_of : (is_var : Bool) (t : DataType) (names : List Tree.Name) → (is_var || is_simple t) ≡ true → All IsFormal (parameters_of is_var t names)
formals_of is_var t [] h = All-nil IsFormal
formals_of is_var t (name ∷ names) h =
    All-cons IsFormal (record { name = name.text; is_var = is_var; type = t }) (parameters_of is_var t names) h (formals_of is_var t names h)

parameters_formal : {env after : Environment} {count : ℕ} {xs : List Section} {ps : List Parameter} → Parameters env count xs after ps → All IsFormal ps
parameters_formal Typing.none = All-nil IsFormal
parameters_formal (Typing.more {x = x} {t = t} {ps = ps} new h name simple k) =
    All-append IsFormal (parameters_of x.is_var t x.names) ps (formals_of x.is_var t x.names simple) (parameters_formal k)

frame_within : {env after : Environment} {n : ℕ} {room : Room} {d : Declarations} {vs : List Variable} {ps : List Procedure} →
    Declares env n room d after vs ps → room.taken ≤ room.limit → room.taken + variable_words vs ≤ room.limit
frame_within (Typing.declarations c t v p) h = variables_within v h

mutual
  procedures_within : {env after : Environment} {n exported : ℕ} {xs : Procedures} {ps : List Procedure} →
      DeclaresProcedures env n exported xs after ps → All KeepsFrame ps
  procedures_within Typing.none = All-nil KeepsFrame
  procedures_within (Typing.procedure {ps = ps} {nested = nested} {others = others} new p simple d b k) =
      let few : 0 + length ps ≤ 8 = parameters_within p (omega arith) in
      All-cons KeepsFrame _ (nested ++ others)
      (record { few = omega (arith, few); values = parameters_formal p; export = simple; frame = frame_within d (omega (arith, few)) })
      (All-append KeepsFrame nested others (nested_within d) (procedures_within k))

  nested_within : {env after : Environment} {n : ℕ} {room : Room} {d : Declarations} {vs : List Variable} {ps : List Procedure} →
      Declares env n room d after vs ps → All KeepsFrame ps
  nested_within (Typing.declarations c t v p) = procedures_within p

pub keeps_limits : (m : Module) (program : Program.Program) → WellTyped m program → KeepsLimits program
keeps_limits m program (Typing.well_typed d b) =
    let v = frame_within d (omega arith) in
    record { variables = omega (arith, v); procedures = nested_within d; exported = exports_within d (omega arith) }
