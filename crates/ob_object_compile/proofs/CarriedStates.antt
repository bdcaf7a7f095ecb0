-- A carried state is one of the module's states by position: each variable has a value of its type.
use Rattle.std.proofs.Common.{ℕ, zero, suc, List, [], ◌∷◌, map, subst}
use Rattle.ob_meaning.specs.Resolved.{IsResolved, as_parameter, module_scope}
use Rattle.ob_meaning.specs.Same.{SameActivation, SameElements, SameFields, SameHeld, SameState, SameValue, Scopes}
use Rattle.ob_carry.proofs.Carried.{carried_values}
use Rattle.ob_carry.specs.Carried.{AreCarriable, AreValuesOf, Entry, IsHeldOf, carried}
use Rattle.ob_carry.specs.Values as Given
use Rattle.ob_code_scheme.specs.Types.{AreAll, AreFields, FitsActivation, FitsHeld, Holding, IsScalarOf, IsStateOf, IsValueOf, variables_scope}
use Rattle.ob_interface.specs.declared.scalar.Scalar.{Scalar}
use Rattle.ob_interface.specs.declared.scalar.Scalar.TheVariants as Scalars
use Rattle.ob_interface.specs.declared.scalar.ScalarType.{ScalarType}
use Rattle.ob_interface.specs.declared.scalar.ScalarType.TheVariants.{Integer, Boolean}
use Rattle.ob_meaning.specs.ByNameObject as Objects
use Rattle.ob_meaning.specs.ByNameStore as Names
use Rattle.ob_meaning.specs.ByNameValue as Named
use Rattle.ob_meaning.specs.ByPositionStore.{Activation, Held, Holds, Refers}
use Rattle.ob_meaning.specs.ByPositionValue.{Value, Values, Single, Parts, no_part, part}
use Rattle.ob_typing.specs.Program.{DataType, Simple, Array, Record, Fields, no_field, field, Variable, Program}

scalar_typed : (t : ScalarType) (s : Scalar) → Given.IsScalarOf t s → IsScalarOf t s
scalar_typed Integer (Scalars.Int z) h = record { low = h.low; high = h.high }
scalar_typed Integer (Scalars.Bool b) h = absurd h
scalar_typed Boolean (Scalars.Int z) h = absurd h
scalar_typed Boolean (Scalars.Bool b) h = tt

mutual
  pub value_typed : (t : DataType) (v : Named.Value) (w : Value) → Given.IsValueOf t v → SameValue t v w → IsValueOf t w
  value_typed (Simple t) (Named.Single s) (Single r) h same = scalar_typed t r (subst (λ (x : Scalar). Given.IsScalarOf t x) same.0 h)
  value_typed (Simple t) (Named.Single s) (Parts ws) h same = absurd same
  value_typed (Simple t) (Named.Elements vs) w h same = absurd h
  value_typed (Simple t) (Named.Named vs) w h same = absurd h
  value_typed (Array place n element) (Named.Single s) w h same = absurd h
  value_typed (Array place n element) (Named.Elements vs) (Single r) h same = absurd same
  value_typed (Array place n element) (Named.Elements vs) (Parts ws) h same = elements_typed n element vs ws h same
  value_typed (Array place n element) (Named.Named vs) w h same = absurd h
  value_typed (Record place fields) (Named.Single s) w h same = absurd h
  value_typed (Record place fields) (Named.Elements vs) w h same = absurd h
  value_typed (Record place fields) (Named.Named vs) (Single r) h same = absurd same
  value_typed (Record place fields) (Named.Named vs) (Parts ws) h same = fields_typed fields vs ws h same

  elements_typed : (n : ℕ) (element : DataType) (vs : Named.Values) (ws : Values) → Given.AreElements (λ v. Given.IsValueOf element v) n vs →
      SameElements (SameValue element) n vs ws → AreAll (λ w. IsValueOf element w) n ws
  elements_typed zero element Named.no_value no_part h same = tt
  elements_typed zero element Named.no_value (part w ws) h same = absurd same
  elements_typed zero element (Named.value v vs) ws h same = absurd h
  elements_typed (suc n) element Named.no_value ws h same = absurd h
  elements_typed (suc n) element (Named.value v vs) no_part h same = absurd same
  elements_typed (suc n) element (Named.value v vs) (part w ws) h same = (value_typed element v w h.0 same.0, elements_typed n element vs ws h.1 same.1)

  fields_typed : (fields : Fields) (vs : Named.NamedValues) (ws : Values) → Given.AreFieldsOf fields vs → SameFields fields vs ws → AreFields fields ws
  fields_typed no_field Named.no_named no_part h same = tt
  fields_typed no_field Named.no_named (part w ws) h same = absurd same
  fields_typed no_field (Named.named other v vs) ws h same = absurd h
  fields_typed (field name type rest) Named.no_named ws h same = absurd h
  fields_typed (field name type rest) (Named.named other v vs) no_part h same = absurd same
  fields_typed (field name type rest) (Named.named other v vs) (part w ws) h same = (value_typed type v w h.1.0 same.1.0, fields_typed rest vs ws h.1.1 same.1.1)

module _ (scopes : Scopes) (k : ℕ) where
  held_typed : (v : Variable) (n : Names.Held) (h : Held) → IsHeldOf v.type n → SameHeld scopes k (as_parameter v) n h → FitsHeld [] 0 (Holding v.type) h
  held_typed v (Names.Holds a) (Holds w) is same = value_typed v.type a w is same.1
  held_typed v (Names.Holds a) (Refers p) is same = absurd same
  held_typed v (Names.Refers a) h is same = absurd is

  variables_typed : (variables : List Variable) (state : Objects.State) (activation : Activation) → AreValuesOf variables state →
      SameActivation scopes k (map as_parameter variables) state activation → FitsActivation [] 0 (variables_scope variables) activation
  variables_typed [] [] [] is same = tt
  variables_typed [] [] (h ∷ activation) is same = absurd same
  variables_typed [] (b ∷ state) activation is same = absurd is
  variables_typed (v ∷ variables) [] activation is same = absurd is
  variables_typed (v ∷ variables) (b ∷ state) [] is same = absurd same
  variables_typed (v ∷ variables) (b ∷ state) (h ∷ activation) is same =
      (held_typed v b.held h is.1.0 same.1.0, variables_typed variables state activation is.1.1 same.1.1)

pub carried_state_typed : (program : Program) → IsResolved program → (values : List Entry) (activation : Activation) → AreCarriable program.variables values →
    SameState program (carried program values) activation → IsStateOf program.variables activation
carried_state_typed program good values activation carriable same =
    variables_typed (module_scope program ∷ []) 0 program.variables (carried program values) activation
    (carried_values program good.distinct values carriable) same
