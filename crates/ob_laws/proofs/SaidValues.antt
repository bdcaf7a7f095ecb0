-- What is written of a value of a type says that value by name.
use Rattle.std.proofs.Common.{◌≡◌, ℕ, ◌≤◌, zero, suc, List, [], ◌∷◌, ◌++◌, codes, refl, sym, ap, ap₂, subst, arith}
use Rattle.ob_meaning.specs.Same.{SameElements, SameFields, SameValue}
use Rattle.ob_carry.specs.Values as Given
use Rattle.ob_code_scheme.specs.Types.{AreAll, AreFields, IsScalarOf, IsStateOf, IsValueOf}
use Rattle.ob_interface.specs.declared.scalar.Scalar.{Scalar}
use Rattle.ob_interface.specs.declared.scalar.Scalar.TheVariants as Scalars
use Rattle.ob_interface.specs.declared.scalar.ScalarType.{ScalarType}
use Rattle.ob_interface.specs.declared.scalar.ScalarType.TheVariants.{Integer, Boolean}
use Rattle.ob_meaning.specs.ByNameValue as Named
use Rattle.ob_meaning.specs.ByPositionStore.{Activation, Holds, Refers}
use Rattle.ob_meaning.specs.ByPositionValue.{Value, Values, Single, Parts, no_part, part}
use Rattle.ob_laws.proofs.DeclaredNames.{AreWordedVariables, IsWordedVariable}
use Rattle.ob_laws.proofs.FieldNames.{HasNames, HaveNames}
use Rattle.ob_laws.proofs.WordLines.{value_line, value_lines}
use Rattle.ob_text_reading.specs.Openings as Openings
use Rattle.ob_text_reading.specs.Openings.{AreOpenings, IsOpening}
use Rattle.ob_text_record.specs.Named.{named_elements, named_fields, named_text}
use Rattle.ob_text_record.specs.Values.{elements_text, fields_text, separator, value_text}
use Rattle.ob_laws.proofs.PrintedValues.{printed}
use Rattle.ob_text_values_reading.specs.Printed.{AreSome, ArePrintable, ArePrintableFields, IsPrintable}
use Rattle.ob_text_values_reading.specs.ValueTexts.{IsValueText, depth_of, depth_of_elements, depth_of_fields}
use Rattle.ob_text_values_reading.specs.Variables as Variables
use Rattle.ob_text_words.specs.Words.{IsName, Word}
use Rattle.ob_typing.specs.Program.{DataType, Simple, Array, Record, Fields, no_field, field, Variable}
use Rattle.ob_typing.specs.Scopes.{depth, depth_of_fields as depth_within}

-- the same value by name, which can be printed, and which has the same text
pub record IsSaid (type : DataType) (w : Value) : Type 0 where
  pub value : Named.Value
  pub of_type : Given.IsValueOf type value
  pub same : SameValue type value w
  pub printable : IsPrintable value
  pub shallow : depth_of value ≤ depth type
  pub text : value_text type w ≡ named_text value

-- the same elements, behind n others
record AreSaid (element : DataType) (n count : ℕ) (ws : Values) : Type 0 where
  values : Named.Values
  of_type : Given.AreElements (λ v. Given.IsValueOf element v) count values
  same : SameElements (SameValue element) count values ws
  some : 1 ≤ count → AreSome values
  printable : ArePrintable values
  shallow : depth_of_elements values ≤ depth element
  text : elements_text n element ws ≡ named_elements n values

-- the same fields, behind n others
record AreSaidFields (fields : Fields) (n : ℕ) (ws : Values) : Type 0 where
  values : Named.NamedValues
  of_type : Given.AreFieldsOf fields values
  same : SameFields fields values ws
  printable : ArePrintableFields values
  shallow : depth_of_fields values ≤ depth_within fields
  text : fields_text n fields ws ≡ named_fields n values

scalar_said : (type : ScalarType) (s : Scalar) → IsScalarOf type s → IsSaid (Simple type) (Single s)
scalar_said Integer (Scalars.Int z) h = record {
  value = Named.Single (Scalars.Int z);
  of_type = record { low = h.low; high = h.high };
  same = (refl, refl);
  printable = record { low = h.low; high = h.high };
  shallow = omega arith;
  text = refl;
}
scalar_said Integer (Scalars.Bool b) h = absurd h
scalar_said Boolean (Scalars.Int z) h = absurd h
scalar_said Boolean (Scalars.Bool b) h =
    record { value = Named.Single (Scalars.Bool b); of_type = tt; same = (refl, refl); printable = tt; shallow = omega arith; text = refl }

one_more : (n : ℕ) (element : DataType) (count : ℕ) (w : Value) (ws : Values) → IsSaid element w → AreSaid element (suc n) count ws → AreSaid element n (suc count) (part w ws)
one_more n element count w ws v vs = record {
  values = Named.value v.value vs.values;
  of_type = (v.of_type, vs.of_type);
  same = (v.same, vs.same);
  some = λ h. tt;
  printable = (v.printable, vs.printable);
  shallow = omega (arith, v.shallow, vs.shallow);
  text = ap₂ (λ (a b : List ℕ). separator n ++ a ++ b) v.text vs.text;
}

one_field : (n : ℕ) (name : List ℕ) (type : DataType) (rest : Fields) (w : Value) (ws : Values) → IsName name → IsSaid type w → AreSaidFields rest (suc n) ws →
    AreSaidFields (field name type rest) n (part w ws)
one_field n name type rest w ws named v vs = record {
  values = Named.named name v.value vs.values;
  of_type = (refl, (v.of_type, vs.of_type));
  same = (refl, (v.same, vs.same));
  printable = (named, (v.printable, vs.printable));
  shallow = omega (arith, v.shallow, vs.shallow);
  text = ap₂ (λ (a b : List ℕ). separator n ++ name ++ codes "=" ++ a ++ b) v.text vs.text;
}

mutual
  said : (type : DataType) (w : Value) → HasNames type → IsValueOf type w → IsSaid type w
  said (Simple type) (Single s) k h = scalar_said type s h
  said (Simple type) (Parts ws) k h = absurd h
  said (Array place count element) (Single s) k h = absurd h
  said (Array place count element) (Parts ws) k h =
      let e = elements_said 0 element count ws k.1 h in
      record {
        value = Named.Elements e.values;
        of_type = e.of_type;
        same = e.same;
        printable = (e.some k.0, e.printable);
        shallow = omega (arith, e.shallow);
        text = ap (λ (inner : List ℕ). codes "[" ++ inner ++ codes "]") e.text;
      }
  said (Record place fields) (Single s) k h = absurd h
  said (Record place fields) (Parts ws) k h =
      let f = fields_said 0 fields ws k h in
      record {
        value = Named.Named f.values;
        of_type = f.of_type;
        same = f.same;
        printable = f.printable;
        shallow = omega (arith, f.shallow);
        text = ap (λ (inner : List ℕ). codes "{" ++ inner ++ codes "}") f.text;
      }

  elements_said : (n : ℕ) (element : DataType) (count : ℕ) (ws : Values) → HasNames element → AreAll (λ w. IsValueOf element w) count ws → AreSaid element n count ws
  elements_said n element zero no_part k h =
      record { values = Named.no_value; of_type = tt; same = tt; some = λ one. absurd (omega (arith, one)); printable = tt; shallow = omega arith; text = refl }
  elements_said n element zero (part w ws) k h = absurd h
  elements_said n element (suc count) no_part k h = absurd h
  elements_said n element (suc count) (part w ws) k h =
      one_more n element count w ws (said element w k h.0) (elements_said (suc n) element count ws k h.1)

  fields_said : (n : ℕ) (fields : Fields) (ws : Values) → HaveNames fields → AreFields fields ws → AreSaidFields fields n ws
  fields_said n no_field no_part k h = record { values = Named.no_named; of_type = tt; same = tt; printable = tt; shallow = omega arith; text = refl }
  fields_said n no_field (part w ws) k h = absurd h
  fields_said n (field name type rest) no_part k h = absurd h
  fields_said n (field name type rest) (part w ws) k h =
      one_field n name type rest w ws k.0 (said type w k.1 h.0) (fields_said (suc n) rest ws k.2 h.1)

-- the line of a variable's value is that of an opening
line_opens : (variable : Variable) (w : Value) → IsWordedVariable variable → IsValueOf variable.type w → IsOpening variable (value_line 73 variable w) w
line_opens variable w named h =
    let v = said variable.type w named.type.parts h in
    let says : IsValueText (value_text variable.type w) v.value = subst (λ (t : Word). IsValueText t v.value) (sym v.text) (printed v.value v.printable) in
    let shallow = named.type.shallow in
    record {
      entry = record { name = variable.name; value = v.value };
      says = record {
        ws = variable.name ∷ value_text variable.type w ∷ [];
        parts = refl;
        says = Variables.says named.name (record { says = says; shallow = omega (arith, v.shallow, shallow) });
      };
      named = refl;
      of_type = v.of_type;
      same = v.same;
    }

pub lines_open : (variables : List Variable) (held : Activation) → AreWordedVariables variables → IsStateOf variables held → AreOpenings variables (value_lines 73 variables held) held
lines_open [] [] named h = Openings.none
lines_open [] (x ∷ held) named h = absurd h
lines_open (variable ∷ variables) [] named h = absurd h
lines_open (variable ∷ variables) (Holds w ∷ held) named h = Openings.more (line_opens variable w named.0 h.0) (lines_open variables held named.1 h.1)
lines_open (variable ∷ variables) (Refers place ∷ held) named h = absurd h.0
