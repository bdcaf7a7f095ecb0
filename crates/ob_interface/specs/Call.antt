-- Calls on an object, and their replies.
use Rattle.std.specs.Prelude.{ℕ, List}
use Rattle.ob_interface.specs.declared.scalar.Scalar.{Scalar}

-- a call on the object: the number of an export, and the value arguments in text order
pub record ObjectCall : Type 0 where
  pub export : ℕ
  pub arguments : List Scalar

-- the final values of the VAR parameters in text order, or a trap
pub data Reply : Type 0 where
  Answers : (values : List Scalar) → Reply
  Trapped : (number : ℕ) → Reply
