-- One value has one text, by position as by name.
use Rattle.std.proofs.Common.{◌≡◌, ℕ, zero, suc, List, [], ◌∷◌, ◌++◌, codes, map, refl, sym, ap, ap₂}
use Rattle.std.proofs.lemmas.Bool.{false≢true}
use Rattle.ob_typing.specs.Program.{DataType, Simple, Array, Record, Fields, no_field, field, Variable, Program}
use Rattle.ob_meaning.specs.Resolved.{as_parameter, module_scope}
use Rattle.ob_meaning.specs.Same.{SameActivation, SameElements, SameFields, SameHeld, SameState, SameValue, Scopes}
use Rattle.ob_meaning.specs.ByNameObject as Objects
use Rattle.ob_meaning.specs.ByNameStore as Names
use Rattle.ob_meaning.specs.ByNameValue as Named
use Rattle.ob_meaning.specs.ByPositionStore.{Activation, Held, Holds, Refers, value_held}
use Rattle.ob_meaning.specs.ByPositionValue.{Value, Values, Single, Parts, no_part, part}
use Rattle.ob_text_words.specs.ScalarTexts.{scalar_text}
use Rattle.ob_text_record.specs.Named.{named_elements, named_fields, named_state_text, named_text}
use Rattle.ob_text_record.specs.Values.{elements_text, fields_text, separator, value_text}
use Rattle.ob_text_record.specs.Variables.{state_text}

mutual
  same_text : (t : DataType) (v : Named.Value) (w : Value) → SameValue t v w → value_text t w ≡ named_text v
  same_text (Simple t) (Named.Single s) (Single r) h = ap scalar_text (sym h.0)
  same_text (Simple t) (Named.Single s) (Parts ws) h = absurd h
  same_text (Simple t) (Named.Elements vs) w h = absurd h
  same_text (Simple t) (Named.Named vs) w h = absurd h
  same_text (Array place n element) (Named.Single s) w h = absurd h
  same_text (Array place n element) (Named.Elements vs) (Single r) h = absurd h
  same_text (Array place n element) (Named.Elements vs) (Parts ws) h =
      ap (λ e. codes "[" ++ e ++ codes "]") (same_elements n 0 element vs ws h)
  same_text (Array place n element) (Named.Named vs) w h = absurd h
  same_text (Record place fields) (Named.Single s) w h = absurd h
  same_text (Record place fields) (Named.Elements vs) w h = absurd h
  same_text (Record place fields) (Named.Named vs) (Single r) h = absurd h
  same_text (Record place fields) (Named.Named vs) (Parts ws) h =
      ap (λ e. codes "{" ++ e ++ codes "}") (same_fields 0 fields vs ws h)

  same_elements : (size n : ℕ) (element : DataType) (vs : Named.Values) (ws : Values) → SameElements (SameValue element) size vs ws →
      elements_text n element ws ≡ named_elements n vs
  same_elements zero n element Named.no_value no_part h = refl
  same_elements zero n element Named.no_value (part w ws) h = absurd h
  same_elements zero n element (Named.value v vs) ws h = absurd h
  same_elements (suc size) n element Named.no_value ws h = absurd h
  same_elements (suc size) n element (Named.value v vs) no_part h = absurd h
  same_elements (suc size) n element (Named.value v vs) (part w ws) h =
      ap₂ (λ a b. separator n ++ a ++ b) (same_text element v w h.0) (same_elements size (suc n) element vs ws h.1)

  same_fields : (n : ℕ) (fields : Fields) (vs : Named.NamedValues) (ws : Values) → SameFields fields vs ws → fields_text n fields ws ≡ named_fields n vs
  same_fields n no_field Named.no_named no_part h = refl
  same_fields n no_field Named.no_named (part w ws) h = absurd h
  same_fields n no_field (Named.named other v vs) ws h = absurd h
  same_fields n (field name type rest) Named.no_named ws h = absurd h
  same_fields n (field name type rest) (Named.named other v vs) no_part h = absurd h
  same_fields n (field name type rest) (Named.named other v vs) (part w ws) h =
      joined (separator n) name other _ _ _ _ (sym h.0) (same_text type v w h.1.0) (same_fields (suc n) rest vs ws h.1.1)
    where
      joined : (mark a b c d e f : List ℕ) → a ≡ b → c ≡ d → e ≡ f → mark ++ a ++ codes "=" ++ c ++ e ≡ mark ++ b ++ codes "=" ++ d ++ f
      joined mark a b c d e f x y z = rw (x, y, z) refl

module _ (scopes : Scopes) (k : ℕ) where
  held_text : (v : Variable) (h : Names.Held) (g : Held) → SameHeld scopes k (as_parameter v) h g → value_text v.type (value_held g) ≡ named_text (Names.value_held h)
  held_text v (Names.Holds a) (Holds b) same = same_text v.type a b same.1
  held_text v (Names.Holds a) (Refers b) same = absurd same
  held_text v (Names.Refers a) (Holds b) same = absurd same
  held_text v (Names.Refers a) (Refers b) same = absurd (false≢true same.0)

  lines : (variables : List Variable) (state : Objects.State) (activation : Activation) → SameActivation scopes k (map as_parameter variables) state activation →
      state_text variables activation ≡ named_state_text state
  lines [] [] [] h = refl
  lines [] [] (g ∷ activation) h = absurd h
  lines [] (b ∷ state) activation h = absurd h
  lines (v ∷ variables) [] activation h = absurd h
  lines (v ∷ variables) (b ∷ state) [] h = absurd h
  lines (v ∷ variables) (b ∷ state) (g ∷ activation) h =
      line v.name b.name _ _ _ _ (sym h.0.0) (held_text v b.held g h.1.0) (lines variables state activation h.1.1)
    where
      line : (a b c d e f : List ℕ) → a ≡ b → c ≡ d → e ≡ f →
          (codes "V " ++ a ++ codes " " ++ c ++ codes "\n") ++ e ≡ (codes "V " ++ b ++ codes " " ++ d ++ codes "\n") ++ f
      line a b c d e f x y z = rw (x, y, z) refl

pub same_state_text : (program : Program) (state : Objects.State) (activation : Activation) → SameState program state activation →
    state_text program.variables activation ≡ named_state_text state
same_state_text program state activation h = lines (module_scope program ∷ []) 0 program.variables state activation h
