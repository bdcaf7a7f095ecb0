-- Scalars of calls and replies as words.
use Rattle.std.specs.Prelude.{◌&&◌, ℤ, pos, neg_ℤ, List, [], ◌∷◌, int_le, if◌then◌else◌}
use Rattle.ob_interface.specs.declared.scalar.Scalar.{Scalar}
use Rattle.ob_interface.specs.declared.scalar.Scalar.TheVariants as Scalars

abbrev pub argument_in : Scalar → ℤ
argument_in (Scalars.Int w) = w
argument_in (Scalars.Bool b) = pos 0

-- the first argument; 0 where there is none, or no INTEGER
abbrev pub argument_of : List Scalar → ℤ
argument_of [] = pos 0
argument_of (a ∷ arguments) = argument_in a

-- the word as an INTEGER; 0 where it is none
abbrev pub scalar_in : ℤ → Scalar
scalar_in w = if int_le (neg_ℤ (pos 2147483648)) w && int_le w (pos 2147483647) then Scalars.Int w else Scalars.Int (pos 0)
