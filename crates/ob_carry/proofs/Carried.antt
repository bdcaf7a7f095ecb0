-- States that are carried, one entry more at a time, and what the laws say of them.
use Rattle.std.proofs.Common.{◌≡◌, ◌∙◌, ℕ, zero, suc, ◌+◌, ◌<◌, ◌≤◌, List, [], ◌∷◌, ◌++◌, length, get_or, map, take, Some, None, true, false, refl, ap, ap₂, sym, subst, arith}
use Rattle.std.proofs.lemmas.Bool.{false≢true}
use Rattle.std.proofs.Math.ListN.{get_or-map}
use Rattle.std.proofs.lemmas.Int.{ints}
use Rattle.std.proofs.lemmas.List.{length-map, take_all, take_more}
use Rattle.std.proofs.lemmas.List.Elements.{All-head, All-more, All-tail}
use Rattle.std.proofs.lemmas.Option.{slice_get_read}
use Rattle.std.proofs.lemmas.Slice.Eq.{bytes_eq-Decides}
use Rattle.std.specs.Prelude.{Contains, bytes_eq, slice_get, string_bytes}
use Rattle.ob_meaning.proofs.SameStatements.{begun_same}
use Rattle.ob_meaning.proofs.SameValues.{if_true, if_false}
use Rattle.ob_meaning.specs.Resolved.{AreDistinct, NoneCalled, as_parameter, module_scope}
use Rattle.ob_meaning.specs.Same.{SameActivation, SameElements, SameFields, SameHeld, SameState, SameValue, Scopes}
use Rattle.ob_interface.specs.declared.scalar.Scalar.TheVariants as Scalars
use Rattle.ob_interface.specs.declared.scalar.ScalarType.{ScalarType}
use Rattle.ob_interface.specs.declared.scalar.ScalarType.TheVariants.{Integer, Boolean}
use Rattle.ob_meaning.specs.ByNameObject as Objects
use Rattle.ob_meaning.specs.ByNameStore as Names
use Rattle.ob_meaning.specs.ByNameValue as Named
use Rattle.ob_meaning.specs.ByPositionStore.{Activation, Held, Holds, Refers, begun, with_held, with_value}
use Rattle.ob_meaning.specs.ByPositionValue.{Value, Values, Single, Parts, no_part, part}
use Rattle.ob_typing.specs.Program.{Name, DataType, Simple, Array, Record, Fields, no_field, field, Variable, Program}
use Rattle.ob_checked.specs.View.{program_of}
use Rattle.ob_checked.specs.declared.program.Program as Checked
use Rattle.ob_carry.specs.Carried.{AreCarriable, AreDistinctEntries, AreValuesOf, Entry, IsCarriable, IsUnfit, IsUnknown, IsVariableFor, NoneNamed, carried, carried_to, given_or, position_from, value_given, value_or_initial}
use Rattle.ob_carry.specs.Values.{AreElements, AreFieldsOf, IsScalarOf, IsValueOf}
use Rattle.ob_carry.specs.View.{entries_of, entry_of, named_in}
use Rattle.ob_carry.specs.declared.fields_by_name.NamedField.{NamedField}
use Rattle.ob_carry.proofs.Variables.{IsFirst, first_named, none_named, stands_for}

-- what one entry more gives

given_same : (entries : List Entry) (e : Entry) (name : Name) → bytes_eq name e.name ≡ true → value_given (entries ++ e ∷ []) name ≡ Some e.value
given_same [] e name h = if_true (bytes_eq name e.name) (Some e.value) None h
given_same (x ∷ entries) e name h = ap (λ r. given_or r x name) (given_same entries e name h)

given_other : (entries : List Entry) (e : Entry) (name : Name) → bytes_eq name e.name ≡ false → value_given (entries ++ e ∷ []) name ≡ value_given entries name
given_other [] e name h = if_false (bytes_eq name e.name) (Some e.value) None h
given_other (x ∷ entries) e name h = ap (λ r. given_or r x name) (given_other entries e name h)

abbrev binding_of : List Entry → Variable → Names.Binding
binding_of entries v = record { name = v.name; held = Names.Holds (value_or_initial v.type (value_given entries v.name)) }

-- variables of other names keep theirs
carried_other : (variables : List Variable) (entries : List Entry) (e : Entry) → NoneCalled (map as_parameter variables) e.name →
    carried_to variables (entries ++ e ∷ []) ≡ carried_to variables entries
carried_other [] entries e h = refl
carried_other (v ∷ variables) entries e h =
    ap₂ (λ r rest. record { name = v.name; held = Names.Holds (value_or_initial v.type r) } ∷ rest) (given_other entries e v.name h.0) (carried_other variables entries e h.1)

module _ (scopes : Scopes) (k : ℕ) where
  held_given : (v : Variable) (old new : Named.Value) (h : Held) (w : Value) → SameHeld scopes k (as_parameter v) (Names.Holds old) h → SameValue v.type new w →
      SameHeld scopes k (as_parameter v) (Names.Holds new) (with_value h [] w)
  held_given v old new (Holds u) w h s = (refl, s)
  held_given v old new (Refers p) w h s = absurd h

  -- one entry more, for the first variable of its name
  pub carried_more : (variables : List Variable) (entries : List Entry) (e : Entry) (held : Activation) (i : ℕ) (v : Variable) (w : Value) →
      SameActivation scopes k (map as_parameter variables) (carried_to variables entries) held → IsFirst variables e.name i v → SameValue v.type e.value w →
      SameActivation scopes k (map as_parameter variables) (carried_to variables (entries ++ e ∷ [])) (with_held held i [] w)
  carried_more [] entries e held i v w h first s = absurd first
  carried_more (x ∷ variables) entries e [] i v w h first s = absurd h
  carried_more (x ∷ variables) entries e (g ∷ held) zero v w h first s =
      let same : x.name ≡ e.name = (bytes_eq-Decides x.name e.name).0 first.0 in
      let others : NoneCalled (map as_parameter variables) e.name = subst (λ n. NoneCalled (map as_parameter variables) n) same h.0.1 in
      let fits : SameValue x.type e.value w = subst (λ (y : Variable). SameValue y.type e.value w) (sym first.1) s in
      let given : value_given (entries ++ e ∷ []) x.name ≡ Some e.value = given_same entries e x.name first.0 in (
        (refl, h.0.1),
        (
          subst (λ r. SameHeld scopes k (as_parameter x) (Names.Holds (value_or_initial x.type r)) (with_value g [] w)) (sym given)
              (held_given x (value_or_initial x.type (value_given entries x.name)) e.value g w h.1.0 fits),
          subst (λ a. SameActivation scopes k (map as_parameter variables) a held) (sym (carried_other variables entries e others)) h.1.1,
        ),
      )
  carried_more (x ∷ variables) entries e (g ∷ held) (suc i) v w h first s = (
    (refl, h.0.1),
    (
      subst (λ r. SameHeld scopes k (as_parameter x) (Names.Holds (value_or_initial x.type r)) g) (sym (given_other entries e x.name first.0)) h.1.0,
      carried_more variables entries e held i v w h.1.1 first.1 s,
    ),
  )

-- nothing is carried at the beginning
pub carried_none : (program : Program) → AreDistinct (module_scope program) → SameState program (carried program []) (begun program.variables)
carried_none program h = begun_same (module_scope program ∷ []) 0 program.variables h

-- values of the variables' types

initial_scalar : (t : ScalarType) → IsScalarOf t (Named.first_scalar t)
initial_scalar Integer = record { low = omega (arith, ints); high = omega (arith, ints) }
initial_scalar Boolean = tt

copies_are : (P : Named.Value → Type 0) (n : ℕ) (v : Named.Value) → P v → AreElements P n (Named.copies n v)
copies_are P zero v h = tt
copies_are P (suc n) v h = (h, copies_are P n v h)

mutual
  initial_is : (t : DataType) → IsValueOf t (Named.initial t)
  initial_is (Simple t) = initial_scalar t
  initial_is (Array place n element) = copies_are (λ v. IsValueOf element v) n (Named.initial element) (initial_is element)
  initial_is (Record place fields) = initial_fields_are fields

  initial_fields_are : (fields : Fields) → AreFieldsOf fields (Named.initial_fields fields)
  initial_fields_are no_field = tt
  initial_fields_are (field name type rest) = (refl, (initial_is type, initial_fields_are rest))

values_none : (variables : List Variable) → AreValuesOf variables (carried_to variables [])
values_none [] = tt
values_none (v ∷ variables) = (refl, (initial_is v.type, values_none variables))

values_more : (variables : List Variable) (entries : List Entry) (e : Entry) (i : ℕ) (v : Variable) → AreDistinct (map as_parameter variables) →
    AreValuesOf variables (carried_to variables entries) → IsFirst variables e.name i v → IsValueOf v.type e.value → AreValuesOf variables (carried_to variables (entries ++ e ∷ []))
values_more [] entries e i v d h first fit = absurd first
values_more (x ∷ variables) entries e zero v d h first fit =
    let same : x.name ≡ e.name = (bytes_eq-Decides x.name e.name).0 first.0 in
    let others : NoneCalled (map as_parameter variables) e.name = subst (λ n. NoneCalled (map as_parameter variables) n) same d.0 in
    let own : IsValueOf x.type e.value = subst (λ (y : Variable). IsValueOf y.type e.value) (sym first.1) fit in (
      refl,
      (
        subst (λ r. IsValueOf x.type (value_or_initial x.type r)) (sym (given_same entries e x.name first.0)) own,
        subst (λ a. AreValuesOf variables a) (sym (carried_other variables entries e others)) h.1.1,
      ),
    )
values_more (x ∷ variables) entries e (suc i) v d h first fit = (
  refl,
  (
    subst (λ r. IsValueOf x.type (value_or_initial x.type r)) (sym (given_other entries e x.name first.0)) h.1.0,
    values_more variables entries e i v d.1 h.1.1 first.1 fit,
  ),
)

-- the value by position of a named one: the names are left out

abbrev mutual
  placed : Named.Value → Value
  placed (Named.Single s) = Single s
  placed (Named.Elements vs) = Parts (placed_elements vs)
  placed (Named.Named fs) = Parts (placed_fields fs)

  placed_elements : Named.Values → Values
  placed_elements Named.no_value = no_part
  placed_elements (Named.value v vs) = part (placed v) (placed_elements vs)

  placed_fields : Named.NamedValues → Values
  placed_fields Named.no_named = no_part
  placed_fields (Named.named name v fs) = part (placed v) (placed_fields fs)

mutual
  pub same_placed : (t : DataType) (v : Named.Value) (w : Value) → SameValue t v w → w ≡ placed v
  same_placed (Simple t) (Named.Single s) (Single r) h = ap Single (sym h.0)
  same_placed (Simple t) (Named.Single s) (Parts ws) h = absurd h
  same_placed (Simple t) (Named.Elements vs) w h = absurd h
  same_placed (Simple t) (Named.Named vs) w h = absurd h
  same_placed (Array place n element) (Named.Single s) w h = absurd h
  same_placed (Array place n element) (Named.Elements vs) (Single r) h = absurd h
  same_placed (Array place n element) (Named.Elements vs) (Parts ws) h = ap Parts (elements_placed n element vs ws h)
  same_placed (Array place n element) (Named.Named vs) w h = absurd h
  same_placed (Record place fields) (Named.Single s) w h = absurd h
  same_placed (Record place fields) (Named.Elements vs) w h = absurd h
  same_placed (Record place fields) (Named.Named vs) (Single r) h = absurd h
  same_placed (Record place fields) (Named.Named vs) (Parts ws) h = ap Parts (fields_placed fields vs ws h)

  elements_placed : (n : ℕ) (element : DataType) (vs : Named.Values) (ws : Values) → SameElements (SameValue element) n vs ws → ws ≡ placed_elements vs
  elements_placed zero element Named.no_value no_part h = refl
  elements_placed zero element Named.no_value (part w ws) h = absurd h
  elements_placed zero element (Named.value v vs) ws h = absurd h
  elements_placed (suc n) element Named.no_value ws h = absurd h
  elements_placed (suc n) element (Named.value v vs) no_part h = absurd h
  elements_placed (suc n) element (Named.value v vs) (part w ws) h = ap₂ part (same_placed element v w h.0) (elements_placed n element vs ws h.1)

  fields_placed : (fields : Fields) (vs : Named.NamedValues) (ws : Values) → SameFields fields vs ws → ws ≡ placed_fields vs
  fields_placed no_field Named.no_named no_part h = refl
  fields_placed no_field Named.no_named (part w ws) h = absurd h
  fields_placed no_field (Named.named other v vs) ws h = absurd h
  fields_placed (field name type rest) Named.no_named ws h = absurd h
  fields_placed (field name type rest) (Named.named other v vs) no_part h = absurd h
  fields_placed (field name type rest) (Named.named other v vs) (part w ws) h = ap₂ part (same_placed type v w h.1.0) (fields_placed rest vs ws h.1.1)

mutual
  placed_same : (t : DataType) (v : Named.Value) → IsValueOf t v → SameValue t v (placed v)
  placed_same (Simple Integer) (Named.Single (Scalars.Int z)) h = (refl, refl)
  placed_same (Simple Integer) (Named.Single (Scalars.Bool b)) h = absurd h
  placed_same (Simple Boolean) (Named.Single (Scalars.Int z)) h = absurd h
  placed_same (Simple Boolean) (Named.Single (Scalars.Bool b)) h = (refl, refl)
  placed_same (Simple t) (Named.Elements vs) h = absurd h
  placed_same (Simple t) (Named.Named vs) h = absurd h
  placed_same (Array place n element) (Named.Single s) h = absurd h
  placed_same (Array place n element) (Named.Elements vs) h = placed_elements_same n element vs h
  placed_same (Array place n element) (Named.Named vs) h = absurd h
  placed_same (Record place fields) (Named.Single s) h = absurd h
  placed_same (Record place fields) (Named.Elements vs) h = absurd h
  placed_same (Record place fields) (Named.Named vs) h = placed_fields_same fields vs h

  placed_elements_same : (n : ℕ) (element : DataType) (vs : Named.Values) → AreElements (λ v. IsValueOf element v) n vs → SameElements (SameValue element) n vs (placed_elements vs)
  placed_elements_same zero element Named.no_value h = tt
  placed_elements_same zero element (Named.value v vs) h = absurd h
  placed_elements_same (suc n) element Named.no_value h = absurd h
  placed_elements_same (suc n) element (Named.value v vs) h = (placed_same element v h.0, placed_elements_same n element vs h.1)

  placed_fields_same : (fields : Fields) (vs : Named.NamedValues) → AreFieldsOf fields vs → SameFields fields vs (placed_fields vs)
  placed_fields_same no_field Named.no_named h = tt
  placed_fields_same no_field (Named.named other v vs) h = absurd h
  placed_fields_same (field name type rest) Named.no_named h = absurd h
  placed_fields_same (field name type rest) (Named.named other v vs) h = (h.0, (placed_same type v h.1.0, placed_fields_same rest vs h.1.1))

-- what is carried over to a module is a state of it

module _ (program : Program) (distinct : AreDistinct (module_scope program)) (entries : List Entry) (carriable : AreCarriable program.variables entries) where
  abbrev IsStateTo : List Entry → Type 0
  IsStateTo es = (activation : Activation) × (SameState program (carried program es) activation × AreValuesOf program.variables (carried program es))

  abbrev Next : ℕ → List Entry → Type 0
  Next i es = (e : Entry) × ((take (suc i) es ≡ take i es ++ e ∷ []) × IsCarriable program.variables e)

  state_with : (i : ℕ) → IsStateTo (take i entries) → Next i entries → IsStateTo (take (suc i) entries)
  state_with i before next =
      let e : Entry = next.0 in
      let stands = stands_for program.variables e.name e.value next.1.1 in
      subst (λ es. IsStateTo es) (sym next.1.0) (
        with_held before.0 stands.0 [] (placed e.value),
        (
          carried_more (module_scope program ∷ []) 0 program.variables (take i entries) e before.0 stands.0 stands.1.0 (placed e.value) before.1.0 stands.1.1.0
              (placed_same stands.1.0.type e.value stands.1.1.1),
          values_more program.variables (take i entries) e stands.0 stands.1.0 distinct before.1.1 stands.1.1.0 stands.1.1.1,
        ),
      )

  next_of : (es : List Entry) (i : ℕ) → i < length es → AreCarriable program.variables es → Next i es
  next_of [] i below all = absurd (omega (arith, below))
  next_of (x ∷ es) zero below all = (x, (refl, All-head (IsCarriable program.variables) x es all))
  next_of (x ∷ es) (suc i) below all =
      let rest = next_of es i (omega (arith, below)) (All-tail (IsCarriable program.variables) x es all) in
      (rest.0, (ap (λ ys. x ∷ ys) rest.1.0, rest.1.1))

  state_to : (i : ℕ) → i ≤ length entries → IsStateTo (take i entries)
  state_to zero below = (begun program.variables, (carried_none program distinct, values_none program.variables))
  state_to (suc i) below = state_with i (state_to i (omega (arith, below))) (next_of entries i (omega (arith, below)) carriable)

  carried_whole : IsStateTo entries
  carried_whole = subst (λ es. IsStateTo es) (take_all (length entries) entries (omega arith)) (state_to (length entries) (omega arith))

  pub carried_state : (activation : Activation) × SameState program (carried program entries) activation
  carried_state = (carried_whole.0, carried_whole.1.0)

  pub carried_values : AreValuesOf program.variables (carried program entries)
  carried_values = carried_whole.1.1

-- a state by name is one by position

module _ (scopes : Scopes) (k : ℕ) where
  held_one : (v : Variable) (n : Names.Held) (h g : Held) → SameHeld scopes k (as_parameter v) n h → SameHeld scopes k (as_parameter v) n g → h ≡ g
  held_one v (Names.Holds a) (Holds b) (Holds c) same other = ap Holds (same_placed v.type a b same.1 ∙ sym (same_placed v.type a c other.1))
  held_one v (Names.Holds a) (Holds b) (Refers q) same other = absurd other
  held_one v (Names.Holds a) (Refers p) g same other = absurd same
  held_one v (Names.Refers a) (Holds b) g same other = absurd same
  held_one v (Names.Refers a) (Refers p) g same other = absurd (false≢true same.0)

  one_activation : (variables : List Variable) (state : Objects.State) (one other : Activation) → SameActivation scopes k (map as_parameter variables) state one →
      SameActivation scopes k (map as_parameter variables) state other → one ≡ other
  one_activation [] [] [] [] h g = refl
  one_activation [] [] [] (y ∷ other) h g = absurd g
  one_activation [] [] (x ∷ one) other h g = absurd h
  one_activation [] (b ∷ state) one other h g = absurd h
  one_activation (v ∷ variables) [] one other h g = absurd h
  one_activation (v ∷ variables) (b ∷ state) [] other h g = absurd h
  one_activation (v ∷ variables) (b ∷ state) (x ∷ one) [] h g = absurd g
  one_activation (v ∷ variables) (b ∷ state) (x ∷ one) (y ∷ other) h g =
      ap₂ (λ a rest. a ∷ rest) (held_one v b.held x y h.1.0 g.1.0) (one_activation variables state one other h.1.1 g.1.1)

pub one_state : (program : Program) (state : Objects.State) (one other : Activation) → SameState program state one → SameState program state other → one ≡ other
one_state program state one other h g = one_activation (module_scope program ∷ []) 0 program.variables state one other h g

-- each entry counts

none_given : (entries : List Entry) (name : Name) → NoneNamed entries name → value_given entries name ≡ None
none_given [] name h = refl
none_given (x ∷ entries) name h =
    ap (λ r. given_or r x name) (none_given entries name (All-tail (λ (e : Entry). bytes_eq name e.name ≡ false) x entries h))
    ∙ if_false (bytes_eq name x.name) (Some x.value) None (All-head (λ (e : Entry). bytes_eq name e.name ≡ false) x entries h)

itself : (name : Name) → bytes_eq name name ≡ true
itself name = (bytes_eq-Decides name name).1 refl

counts_at : (entries : List Entry) (e : Entry) (i : ℕ) → AreDistinctEntries entries → i < length entries → get_or entries i e ≡ e → value_given entries e.name ≡ Some e.value
counts_at [] e i h below at = absurd (omega (arith, below))
counts_at (x ∷ entries) e zero h below at =
    subst (λ (y : Entry). value_given (x ∷ entries) y.name ≡ Some y.value) at
    (ap (λ r. given_or r x x.name) (none_given entries x.name h.0) ∙ if_true (bytes_eq x.name x.name) (Some x.value) None (itself x.name))
counts_at (x ∷ entries) e (suc i) h below at = ap (λ r. given_or r x e.name) (counts_at entries e i h.1 (omega (arith, below)) at)

pub each_counts : (entries : List Entry) → AreDistinctEntries entries → (e : Entry) → Contains entries e → value_given entries e.name ≡ Some e.value
each_counts entries h e among = counts_at entries e among.0 h among.1 among.2

-- one value more of a list, for the variable at a position

module _ (program : Checked.Program) (values : List NamedField) (i : ℕ) (g : NamedField) (below : i < length values) (here : g ≡ get_or values i g) where
  entry_here : entry_of g ≡ get_or (entries_of values) i (entry_of g)
  entry_here = ap entry_of here ∙ sym (get_or-map entry_of values i g)

  entry_below : i < length (entries_of values)
  entry_below = let count = length-map values entry_of in omega (arith, count, below)

  entry_there : slice_get (entries_of values) i ≡ Some (entry_of g)
  entry_there = slice_get_read (entries_of values) (length (entries_of values)) i (entry_of g) refl entry_below entry_here

  module _ (so_far : AreCarriable (program_of program).variables (take i (entries_of values))) where
    pub unknown_at : None ≡ position_from 0 (program_of program).variables (string_bytes g.name) → IsUnknown (program_of program).variables (entries_of values) i
    unknown_at none =
        record {
          entry = entry_of g;
          there = entry_there;
          before = so_far;
          unknown = none_named (program_of program).variables (string_bytes g.name) none;
        }

    module _ (p : ℕ) (v : Variable) (first : IsFirst (program_of program).variables (string_bytes g.name) p v) where
      pub unfit_at : (IsValueOf v.type (named_in g.value) → ⊥) → IsUnfit (program_of program).variables (entries_of values) i
      unfit_at unfit =
          record {
            entry = entry_of g;
            there = entry_there;
            before = so_far;
            variable = v;
            known = first_named (program_of program).variables (string_bytes g.name) p v first;
            unfit = unfit;
          }

      pub carriable_more : IsValueOf v.type (named_in g.value) → AreCarriable (program_of program).variables (take (i + 1) (entries_of values))
      carriable_more fit =
          All-more (IsCarriable (program_of program).variables) (entries_of values) i (entry_of g) entry_below so_far
          (subst (λ e. IsCarriable (program_of program).variables e) entry_here
          (subst (λ r. IsVariableFor r (named_in g.value)) (sym (first_named (program_of program).variables (string_bytes g.name) p v first)) fit))

      pub state_more : (held next : Activation) (w : Value) → SameState (program_of program) (carried (program_of program) (take i (entries_of values))) held →
          SameValue v.type (named_in g.value) w → next ≡ with_held held p [] w → SameState (program_of program) (carried (program_of program) (take (i + 1) (entries_of values))) next
      state_more held next w same fit written =
          let more : take (i + 1) (entries_of values) ≡ take i (entries_of values) ++ entry_of g ∷ [] =
          take_more (entries_of values) i (entry_of g) entry_below ∙ ap (λ e. take i (entries_of values) ++ e ∷ []) (sym entry_here) in
          rw (more, written)
          (carried_more (module_scope (program_of program) ∷ []) 0 (program_of program).variables (take i (entries_of values)) (entry_of g) held p v w same first fit)
