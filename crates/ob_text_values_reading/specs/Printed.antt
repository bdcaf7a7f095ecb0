-- Values that can be printed so that they are read back: INTEGERs in range, arrays with elements, and names of fields that are names.
use Rattle.ob_carry.specs.Values.{IsInteger}
use Rattle.ob_interface.specs.declared.scalar.Scalar.{Scalar}
use Rattle.ob_interface.specs.declared.scalar.Scalar.TheVariants.{Int, Bool}
use Rattle.ob_meaning.specs.ByNameValue.{Value, Single, Elements, Named, Values, no_value, value, NamedValues, no_named, named}
use Rattle.ob_text_words.specs.Words.{IsName}

abbrev pub IsPrintableScalar : Scalar → Type 0
IsPrintableScalar (Int z) = IsInteger z
IsPrintableScalar (Bool b) = Unit {0}

-- at least one element
abbrev pub AreSome : Values → Type 0
AreSome no_value = ⊥
AreSome (value v vs) = Unit {0}

abbrev mutual
  pub IsPrintable : Value → Type 0
  IsPrintable (Single s) = IsPrintableScalar s
  IsPrintable (Elements vs) = AreSome vs × ArePrintable vs
  IsPrintable (Named fs) = ArePrintableFields fs

  pub ArePrintable : Values → Type 0
  ArePrintable no_value = Unit {0}
  ArePrintable (value v vs) = IsPrintable v × ArePrintable vs

  pub ArePrintableFields : NamedValues → Type 0
  ArePrintableFields no_named = Unit {0}
  ArePrintableFields (named name v fs) = IsName name × (IsPrintable v × ArePrintableFields fs)
