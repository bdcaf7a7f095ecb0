-- A state by name is one state by position alone.
use Rattle.std.proofs.Common.{◌≡◌, ℕ, zero, suc, List, [], ◌∷◌, map, refl, sym, ap, ap₂, ◌∙◌}
use Rattle.std.proofs.lemmas.Bool.{false≢true}
use Rattle.ob_meaning.specs.Resolved.{as_parameter, module_scope}
use Rattle.ob_meaning.specs.Same.{SameActivation, SameElements, SameFields, SameHeld, SameState, SameValue, Scopes}
use Rattle.ob_meaning.specs.ByNameObject as Objects
use Rattle.ob_meaning.specs.ByNameStore as Names
use Rattle.ob_meaning.specs.ByNameValue as Named
use Rattle.ob_meaning.specs.ByPositionStore.{Activation, Held, Holds, Refers}
use Rattle.ob_meaning.specs.ByPositionValue.{Value, Values, Single, Parts, no_part, part}
use Rattle.ob_typing.specs.Program.{DataType, Simple, Array, Record, Fields, no_field, field, Variable, Program}

mutual
  one_value : (t : DataType) (v : Named.Value) (a b : Value) → SameValue t v a → SameValue t v b → a ≡ b
  one_value (Simple t) (Named.Single s) (Single x) (Single y) h k = ap Single (sym h.0 ∙ k.0)
  one_value (Simple t) (Named.Single s) (Single x) (Parts ys) h k = absurd k
  one_value (Simple t) (Named.Single s) (Parts xs) b h k = absurd h
  one_value (Simple t) (Named.Elements vs) a b h k = absurd h
  one_value (Simple t) (Named.Named vs) a b h k = absurd h
  one_value (Array place n element) (Named.Single s) a b h k = absurd h
  one_value (Array place n element) (Named.Elements vs) (Single x) b h k = absurd h
  one_value (Array place n element) (Named.Elements vs) (Parts xs) (Single y) h k = absurd k
  one_value (Array place n element) (Named.Elements vs) (Parts xs) (Parts ys) h k = ap Parts (same_elements n element vs xs ys h k)
  one_value (Array place n element) (Named.Named vs) a b h k = absurd h
  one_value (Record place fields) (Named.Single s) a b h k = absurd h
  one_value (Record place fields) (Named.Elements vs) a b h k = absurd h
  one_value (Record place fields) (Named.Named vs) (Single x) b h k = absurd h
  one_value (Record place fields) (Named.Named vs) (Parts xs) (Single y) h k = absurd k
  one_value (Record place fields) (Named.Named vs) (Parts xs) (Parts ys) h k = ap Parts (same_fields fields vs xs ys h k)

  same_elements : (size : ℕ) (element : DataType) (vs : Named.Values) (xs ys : Values) → SameElements (SameValue element) size vs xs → SameElements (SameValue element) size vs ys → xs ≡ ys
  same_elements zero element Named.no_value no_part no_part h k = refl
  same_elements zero element Named.no_value no_part (part y ys) h k = absurd k
  same_elements zero element Named.no_value (part x xs) ys h k = absurd h
  same_elements zero element (Named.value v vs) xs ys h k = absurd h
  same_elements (suc size) element Named.no_value xs ys h k = absurd h
  same_elements (suc size) element (Named.value v vs) no_part ys h k = absurd h
  same_elements (suc size) element (Named.value v vs) (part x xs) no_part h k = absurd k
  same_elements (suc size) element (Named.value v vs) (part x xs) (part y ys) h k =
      ap₂ part (one_value element v x y h.0 k.0) (same_elements size element vs xs ys h.1 k.1)

  same_fields : (fields : Fields) (vs : Named.NamedValues) (xs ys : Values) → SameFields fields vs xs → SameFields fields vs ys → xs ≡ ys
  same_fields no_field Named.no_named no_part no_part h k = refl
  same_fields no_field Named.no_named no_part (part y ys) h k = absurd k
  same_fields no_field Named.no_named (part x xs) ys h k = absurd h
  same_fields no_field (Named.named other v vs) xs ys h k = absurd h
  same_fields (field name type rest) Named.no_named xs ys h k = absurd h
  same_fields (field name type rest) (Named.named other v vs) no_part ys h k = absurd h
  same_fields (field name type rest) (Named.named other v vs) (part x xs) no_part h k = absurd k
  same_fields (field name type rest) (Named.named other v vs) (part x xs) (part y ys) h k =
      ap₂ part (one_value type v x y h.1.0 k.1.0) (same_fields rest vs xs ys h.1.1 k.1.1)

module _ (scopes : Scopes) (n : ℕ) where
  one_held : (v : Variable) (x : Names.Held) (a b : Held) → SameHeld scopes n (as_parameter v) x a → SameHeld scopes n (as_parameter v) x b → a ≡ b
  one_held v (Names.Holds x) (Holds a) (Holds b) h k = ap Holds (one_value v.type x a b h.1 k.1)
  one_held v (Names.Holds x) (Holds a) (Refers b) h k = absurd k
  one_held v (Names.Holds x) (Refers a) b h k = absurd h
  one_held v (Names.Refers x) (Holds a) b h k = absurd h
  one_held v (Names.Refers x) (Refers a) b h k = absurd (false≢true h.0)

  one_activation : (variables : List Variable) (state : Objects.State) (a b : Activation) →
      SameActivation scopes n (map as_parameter variables) state a → SameActivation scopes n (map as_parameter variables) state b → a ≡ b
  one_activation [] [] [] [] h k = refl
  one_activation [] [] [] (y ∷ b) h k = absurd k
  one_activation [] [] (x ∷ a) b h k = absurd h
  one_activation [] (s ∷ state) a b h k = absurd h
  one_activation (v ∷ variables) [] a b h k = absurd h
  one_activation (v ∷ variables) (s ∷ state) [] b h k = absurd h
  one_activation (v ∷ variables) (s ∷ state) (x ∷ a) [] h k = absurd k
  one_activation (v ∷ variables) (s ∷ state) (x ∷ a) (y ∷ b) h k =
      ap₂ (λ (z : Held) zs. z ∷ zs) (one_held v s.held x y h.1.0 k.1.0) (one_activation variables state a b h.1.1 k.1.1)

pub one_state : (program : Program) (state : Objects.State) (a b : Activation) → SameState program state a → SameState program state b → a ≡ b
one_state program state a b h k = one_activation (module_scope program ∷ []) 0 program.variables state a b h k
