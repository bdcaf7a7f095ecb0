-- Entries that tell what variables have, one by one.
use Rattle.std.proofs.Common.{◌≡◌, ◌∙◌, ℕ, suc, ◌+◌, ◌<◌, ◌≤◌, Bool, true, false, List, [], ◌∷◌, ◌++◌, length, get_or, map, take, None, Some, string_bytes, refl, ap, ap₂, sym, subst, arith}
use Rattle.std.proofs.lemmas.Bool.{false≢true}
use Rattle.std.proofs.lemmas.List.{take_all, take_more}
use Rattle.std.proofs.lemmas.List.Elements.{All-cons, All-head, All-nil, All-tail}
use Rattle.std.proofs.lemmas.Slice.Eq.{bytes_eq-Decides}
use Rattle.std.specs.Prelude.{bytes_eq}
use Rattle.ob_meaning.proofs.SameValues.{if_true, if_false}
use Rattle.ob_meaning.specs.Resolved.{NoneCalled, as_parameter, module_scope}
use Rattle.ob_meaning.specs.Same.{SameActivation, SameHeld, Scopes}
use Rattle.ob_checked.specs.Types.{Entry as Entries}
use Rattle.ob_checked.specs.View.{variable_of}
use Rattle.ob_checked.specs.declared.program.Variable as Checked
use Rattle.ob_meaning.specs.ByNameObject.{State}
use Rattle.ob_meaning.specs.ByNameStore as Names
use Rattle.ob_meaning.specs.ByPositionStore.{Activation, Holds, Refers}
use Rattle.ob_store.specs.View.{value_in, variables_in}
use Rattle.ob_store.specs.declared.value.Value.{Value}
use Rattle.ob_typing.specs.Program.{Name, Program, Variable}
use Rattle.ob_carry.specs.Carried.{AreCarriable, Entry, IsCarriable, IsVariableFor, carried_to, given_or, value_given, value_or_initial, variable_named}
use Rattle.ob_carry.specs.Values.{IsValueOf}
use Rattle.ob_carry.specs.View.{entries_of, entry_of, named_in}
use Rattle.ob_carry.specs.declared.fields_by_name.NamedField.{NamedField}
use Rattle.ob_carry.specs.Names.{IsNameOf}
use Rattle.ob_carry.specs.NamedValues.{AreToldOf, CarryBack}

-- entries of variables, in their order, each with what its variable has

abbrev pub AllTold : List Variable → List Entry → Activation → Type 0
AllTold [] [] [] = Unit {0}
AllTold (v ∷ variables) (e ∷ entries) (Holds w ∷ held) = (e.name ≡ v.name) × (IsNameOf v.type e.value w × AllTold variables entries held)
AllTold variables entries held = ⊥

told_more : (variables : List Variable) (entries : List Entry) (held : Activation) (v : Variable) (e : Entry) (w : _) → AllTold variables entries held →
    e.name ≡ v.name → IsNameOf v.type e.value w → AllTold (variables ++ v ∷ []) (entries ++ e ∷ []) (held ++ Holds w ∷ [])
told_more [] [] [] v e w h name is = (name, (is, tt))
told_more [] [] (g ∷ held) v e w h name is = absurd h
told_more [] (x ∷ entries) held v e w h name is = absurd h
told_more (y ∷ variables) [] held v e w h name is = absurd h
told_more (y ∷ variables) (x ∷ entries) [] v e w h name is = absurd h
told_more (y ∷ variables) (x ∷ entries) (Holds u ∷ held) v e w h name is = (h.0, (h.1.0, told_more variables entries held v e w h.1.1 name is))
told_more (y ∷ variables) (x ∷ entries) (Refers p ∷ held) v e w h name is = absurd h

-- names

differ_too : (a b : Name) → bytes_eq a b ≡ false → bytes_eq b a ≡ false
differ_too a b h = at (bytes_eq b a) refl
  where
    at : (r : Bool) → bytes_eq b a ≡ r → bytes_eq b a ≡ false
    at true e = absurd (false≢true (sym h ∙ (bytes_eq-Decides a b).1 (sym ((bytes_eq-Decides b a).0 e))))
    at false e = e

-- a name that no variable has is given nothing
none_given : (variables : List Variable) (entries : List Entry) (held : Activation) (name : Name) → AllTold variables entries held → NoneCalled (map as_parameter variables) name →
    value_given entries name ≡ None
none_given [] [] [] name h none = refl
none_given [] [] (g ∷ held) name h none = absurd h
none_given [] (x ∷ entries) held name h none = absurd h
none_given (y ∷ variables) [] held name h none = absurd h
none_given (y ∷ variables) (x ∷ entries) [] name h none = absurd h
none_given (y ∷ variables) (x ∷ entries) (Holds w ∷ held) name h none =
    let other : bytes_eq name x.name ≡ false = differ_too x.name name (subst (λ n. bytes_eq n name ≡ false) (sym h.0) none.0) in
    ap (λ r. given_or r x name) (none_given variables entries held name h.1.1 none.1) ∙ if_false (bytes_eq name x.name) (Some x.value) None other
none_given (y ∷ variables) (x ∷ entries) (Refers p ∷ held) name h none = absurd h

-- each of these is what the entries give to its name
abbrev Counts : List Entry → List Entry → Type 0
Counts all [] = Unit {0}
Counts all (e ∷ entries) = (value_given all e.name ≡ Some e.value) × Counts all entries

counts_behind : (x : Entry) (all entries : List Entry) → Counts all entries → Counts (x ∷ all) entries
counts_behind x all [] h = tt
counts_behind x all (e ∷ entries) h = (ap (λ r. given_or r x e.name) h.0, counts_behind x all entries h.1)

-- a binding by its parts

abbrev binding_with : Name → Names.Held → Names.Binding
binding_with name held = record { name = name; held = held }

whole : {b : Names.Binding} {name : Name} {held : Names.Held} → b.name ≡ name → b.held ≡ held → b ≡ record { name = name; held = held }
whole name held = ap₂ binding_with name held

module _ (scopes : Scopes) (k : ℕ) where
  counts : (variables : List Variable) (entries : List Entry) (held : Activation) (state : State) → AllTold variables entries held →
      SameActivation scopes k (map as_parameter variables) state held → Counts entries entries
  counts [] [] [] state h same = tt
  counts [] [] (g ∷ held) state h same = absurd h
  counts [] (x ∷ entries) held state h same = absurd h
  counts (y ∷ variables) [] held state h same = absurd h
  counts (y ∷ variables) (x ∷ entries) [] state h same = absurd h
  counts (y ∷ variables) (x ∷ entries) (Refers p ∷ held) state h same = absurd h
  counts (y ∷ variables) (x ∷ entries) (Holds w ∷ held) [] h same = absurd same
  counts (y ∷ variables) (x ∷ entries) (Holds w ∷ held) (b ∷ state) h same =
      let none = none_given variables entries held x.name h.1.1 (subst (λ n. NoneCalled (map as_parameter variables) n) (sym h.0) same.0.1) in (
        ap (λ r. given_or r x x.name) none ∙ if_true (bytes_eq x.name x.name) (Some x.value) None ((bytes_eq-Decides x.name x.name).1 refl),
        counts_behind x entries entries (counts variables entries held state h.1.1 same.1.1),
      )

  binding : (v : Variable) (e : Entry) (all : List Entry) (b : Names.Binding) (w : _) → e.name ≡ v.name → IsNameOf v.type e.value w → value_given all e.name ≡ Some e.value →
      b.name ≡ v.name → SameHeld scopes k (as_parameter v) b.held (Holds w) →
      (b ≡ record { name = v.name; held = Names.Holds (value_or_initial v.type (value_given all v.name)) }) × IsValueOf v.type e.value
  binding v e all b w name is given own same = at b.held refl same
    where
      at : (held : Names.Held) → b.held ≡ held → SameHeld scopes k (as_parameter v) held (Holds w) →
          (b ≡ record { name = v.name; held = Names.Holds (value_or_initial v.type (value_given all v.name)) }) × IsValueOf v.type e.value
      at (Names.Holds u) here same =
          let named = is u same.1 in
          let there : value_given all v.name ≡ Some u = ap (λ n. value_given all n) (sym name) ∙ given ∙ ap Some (sym named.0) in
          (whole own (here ∙ ap (λ r. Names.Holds (value_or_initial v.type r)) (sym there)), named.1)
      at (Names.Refers p) here same = absurd same

  state_is : (variables : List Variable) (all entries : List Entry) (held : Activation) (state : State) → AllTold variables entries held → Counts all entries →
      SameActivation scopes k (map as_parameter variables) state held → state ≡ carried_to variables all
  state_is [] all [] [] [] h c same = refl
  state_is [] all [] [] (b ∷ state) h c same = absurd same
  state_is [] all [] (g ∷ held) state h c same = absurd h
  state_is [] all (x ∷ entries) held state h c same = absurd h
  state_is (y ∷ variables) all [] held state h c same = absurd h
  state_is (y ∷ variables) all (x ∷ entries) [] state h c same = absurd h
  state_is (y ∷ variables) all (x ∷ entries) (Refers p ∷ held) state h c same = absurd h
  state_is (y ∷ variables) all (x ∷ entries) (Holds w ∷ held) [] h c same = absurd same
  state_is (y ∷ variables) all (x ∷ entries) (Holds w ∷ held) (b ∷ state) h c same =
      ap₂ (λ a rest. a ∷ rest) (binding y x all b w h.0 h.1.0 c.0 same.0.0 same.1.0).0 (state_is variables all entries held state h.1.1 c.1 same.1.1)

  -- entries that are carriable, where one more variable stands before
  carriable_behind : (y : Variable) (whole variables : List Variable) (entries : List Entry) (held : Activation) → AllTold variables entries held → NoneCalled (map as_parameter variables) y.name →
      AreCarriable whole entries → AreCarriable (y ∷ whole) entries
  carriable_behind y whole [] [] [] h none all = All-nil (IsCarriable (y ∷ whole))
  carriable_behind y whole [] [] (g ∷ held) h none all = absurd h
  carriable_behind y whole [] (x ∷ entries) held h none all = absurd h
  carriable_behind y whole (v ∷ variables) [] held h none all = absurd h
  carriable_behind y whole (v ∷ variables) (x ∷ entries) [] h none all = absurd h
  carriable_behind y whole (v ∷ variables) (x ∷ entries) (Refers p ∷ held) h none all = absurd h
  carriable_behind y whole (v ∷ variables) (x ∷ entries) (Holds w ∷ held) h none all =
      let other : bytes_eq y.name x.name ≡ false = differ_too x.name y.name (subst (λ n. bytes_eq n y.name ≡ false) (sym h.0) none.0) in
      All-cons (IsCarriable (y ∷ whole)) x entries
      (subst (λ r. IsVariableFor r x.value) (sym (if_false (bytes_eq y.name x.name) (Some y) (variable_named whole x.name) other)) (All-head (IsCarriable whole) x entries all))
      (carriable_behind y whole variables entries held h.1.1 none.1 (All-tail (IsCarriable whole) x entries all))

  carriable : (variables : List Variable) (entries : List Entry) (held : Activation) (state : State) → AllTold variables entries held → Counts entries entries →
      SameActivation scopes k (map as_parameter variables) state held → AreCarriable variables entries
  carriable [] [] [] state h c same = All-nil (IsCarriable [])
  carriable [] [] (g ∷ held) state h c same = absurd h
  carriable [] (x ∷ entries) held state h c same = absurd h
  carriable (y ∷ variables) [] held state h c same = absurd h
  carriable (y ∷ variables) (x ∷ entries) [] state h c same = absurd h
  carriable (y ∷ variables) (x ∷ entries) (Refers p ∷ held) state h c same = absurd h
  carriable (y ∷ variables) (x ∷ entries) (Holds w ∷ held) [] h c same = absurd same
  carriable (y ∷ variables) (x ∷ entries) (Holds w ∷ held) (b ∷ state) h c same =
      let own = counts variables entries held state h.1.1 same.1.1 in
      let fits = (binding y x (x ∷ entries) b w h.0 h.1.0 c.0 same.0.0 same.1.0).1 in
      let here : bytes_eq y.name x.name ≡ true = (bytes_eq-Decides y.name x.name).1 (sym h.0) in
      All-cons (IsCarriable (y ∷ variables)) x entries
      (subst (λ r. IsVariableFor r x.value) (sym (if_true (bytes_eq y.name x.name) (Some y) (variable_named variables x.name) here)) fits)
      (carriable_behind y variables variables entries held h.1.1 same.0.1 (carriable variables entries held state h.1.1 own same.1.1))

all_told : (variables : List Variable) (entries : List Entry) (held : Activation) → AllTold variables entries held → AreToldOf variables entries held
all_told variables entries held h scopes k state same =
    let c = counts scopes k variables entries held state h same in
    record { carriable = carriable scopes k variables entries held state h c same; is = state_is scopes k variables entries entries held state h c same }

-- the same of checked variables and of values, from the first on

abbrev pub AllToldOf : List Entries → List Checked.Variable → List NamedField → List Value → Type 0
AllToldOf types variables fields values = AllTold (map (variable_of types) variables) (entries_of fields) (variables_in values)

of_more : {A B : Type 0} (f : A → B) (xs : List A) (i : ℕ) (x : A) → i < length xs → x ≡ get_or xs i x → map f (take (i + 1) xs) ≡ map f (take i xs) ++ f x ∷ []
of_more f xs i x below at =
    ap (map f) (take_more xs i x below ∙ ap (λ y. take i xs ++ y ∷ []) (sym at)) ∙ behind (take i xs)
  where
    behind : (ys : _) → map f (ys ++ x ∷ []) ≡ map f ys ++ f x ∷ []
    behind [] = refl
    behind (y ∷ ys) = ap (λ r. f y ∷ r) (behind ys)

of_one_more : {A B : Type 0} (f : A → B) (xs : List A) (x : A) → map f (xs ++ x ∷ []) ≡ map f xs ++ f x ∷ []
of_one_more f [] x = refl
of_one_more f (y ∷ ys) x = ap (λ r. f y ∷ r) (of_one_more f ys x)

pub told_step : (types : List Entries) (variables : List Checked.Variable) (fields next : List NamedField) (values : List Value) (i : ℕ) (v : Checked.Variable) (g : NamedField) (w : Value) →
    i < length variables → v ≡ get_or variables i v → i < length values → w ≡ get_or values i w → next ≡ fields ++ g ∷ [] →
    AllToldOf types (take i variables) fields (take i values) → string_bytes g.name ≡ string_bytes v.name →
    IsNameOf (variable_of types v).type (named_in g.value) (value_in w) → AllToldOf types (take (i + 1) variables) next (take (i + 1) values)
told_step types variables fields next values i v g w below at within here pushed so_far name is =
    rw (of_more (variable_of types) variables i v below at, of_more (λ (x : Value). Holds (value_in x)) values i w within here, pushed, of_one_more entry_of fields g)
    (told_more (map (variable_of types) (take i variables)) (entries_of fields) (variables_in (take i values)) (variable_of types v) (entry_of g) (value_in w) so_far name is)

pub told_end : (types : List Entries) (variables : List Checked.Variable) (fields : List NamedField) (values : List Value) (i : ℕ) → length values ≤ i → length values ≡ length variables →
    AllToldOf types (take i variables) fields (take i values) → AreToldOf (map (variable_of types) variables) (entries_of fields) (variables_in values)
told_end types variables fields values i end count h =
    let all : take i values ≡ values = take_all i values (omega (arith, end)) in
    let whole : take i variables ≡ variables = take_all i variables (omega (arith, end, count)) in
    all_told (map (variable_of types) variables) (entries_of fields) (variables_in values)
    (subst (λ ws. AllToldOf types variables fields ws) all (subst (λ vs. AllToldOf types vs fields (take i values)) whole h))

-- there are as many values as variables
count_of_variables : (scopes : Scopes) (k : ℕ) (types : List Entries) (variables : List Checked.Variable) (values : List Value) (state : State) →
    SameActivation scopes k (map as_parameter (map (variable_of types) variables)) state (variables_in values) → length values ≡ length variables
count_of_variables scopes k types [] [] state h = refl
count_of_variables scopes k types [] (w ∷ values) [] h = absurd h
count_of_variables scopes k types [] (w ∷ values) (b ∷ state) h = absurd h
count_of_variables scopes k types (v ∷ variables) values [] h = absurd h
count_of_variables scopes k types (v ∷ variables) [] (b ∷ state) h = absurd h
count_of_variables scopes k types (v ∷ variables) (w ∷ values) (b ∷ state) h = ap suc (count_of_variables scopes k types variables values state h.1.1)

pub no_state : (types : List Entries) (variables : List Checked.Variable) (entries : List Entry) (values : List Value) → (length values ≡ length variables → ⊥) →
    AreToldOf (map (variable_of types) variables) entries (variables_in values)
no_state types variables entries values differ scopes k state same = absurd (differ (count_of_variables scopes k types variables values state same))

-- of a program
pub carry_back : (program : Program) (entries : List Entry) (activation : Activation) → AreToldOf program.variables entries activation → CarryBack program entries activation
carry_back program entries activation h state same =
    let is = h (module_scope program ∷ []) 0 state same in
    record { carriable = is.carriable; is = is.is }
