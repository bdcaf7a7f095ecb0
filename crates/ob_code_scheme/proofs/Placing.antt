-- Rows of definitions of the proof, on the worked programs: images that are reached, and programs that are well formed.
use Rattle.std.proofs.Common.{◌≡◌, refl, ℕ, ◌<◌, pos, [], ◌∷◌, All, arith}
use Rattle.std.specs.Prelude.{slice_get}
use Rattle.std.proofs.lemmas.Int.{ints}
use Rattle.std.proofs.lemmas.List.Elements.{All-nil, All-cons}
use Rattle.ob_interface.specs.declared.scalar.Scalar.TheVariants.{Int}
use Rattle.ob_interface.specs.declared.scalar.ScalarType.TheVariants.{Integer, Boolean}
use Rattle.ob_meaning.specs.ByPositionValue.{Single, Parts, no_part, part}
use Rattle.ob_meaning.specs.ByPositionStore.{Place, Store, Holds, Refers}
use Rattle.ob_code_scheme.specs.Types.{IsInteger, Holding, Referring, Fits}
use Rattle.ob_code_scheme.specs.WellFormed.{IsSimple, IsFineSpace, IsSmall, IsFineProcedure, IsWellFormed}
use Rattle.ob_code_machine.specs.Machine.{Unfinished}
use Rattle.ob_code_scheme.specs.Image.{Scopes, all, image}
use Rattle.ob_typing.specs.Program.{Array, Parameter, Variable}
use Rattle.ob_code_scheme.proofs.Samples.{integer, run, Begins, division, handing, start, element_field, down, up, sharing}

-- ---- images

-- where calls from outside begin
division_begins : Begins division (slice_get division.procedures 0) (Int (pos 7) ∷ Int (pos 2) ∷ []) 5 []
division_begins = refl

handing_begins : Begins handing (slice_get handing.procedures 2) (Int (pos 7) ∷ []) 5 (start handing)
handing_begins = refl

-- behind CALL, before FRAME: the second activation has its parameter alone
down_called : run down 0 (Int (pos 3) ∷ []) 2 [] 11 ≡ Unfinished (image (record { globals = []; lower = [] ∷ (Holding integer ∷ []) ∷ []; own = Holding integer ∷ [] }) (record { pc = 11; fp = 0 } ∷ []) ([] ∷ [] ∷ (Holds (Single (Int (pos 3))) ∷ []) ∷ (Holds (Single (Int (pos 2))) ∷ []) ∷ []) 1 0 [])
down_called = refl

-- behind FRAME of a procedure with a variable, called with places of an array's elements: the results lie below the first frame, whose
-- parameters refer to them
abbrev swapping : Scopes
swapping = record {
  globals = Holding integer ∷ Holding (Array 20 2 integer) ∷ [];
  lower = (Holding integer ∷ Holding integer ∷ []) ∷ (Referring integer ∷ Referring integer ∷ []) ∷ [];
  own = Referring integer ∷ Referring integer ∷ Holding integer ∷ [];
}

abbrev in_array : ℕ → Place
in_array i = record { activation = 0; position = 1; path = i ∷ [] }

abbrev result : ℕ → Place
result i = record { activation = 1; position = i; path = [] }

abbrev swapping_store : Store
swapping_store =
    (Holds (Single (Int (pos 2))) ∷ Holds (Parts (part (Single (Int (pos 7))) (part (Single (Int (pos 8))) no_part))) ∷ [])
    ∷ (Holds (Single (Int (pos 2))) ∷ Holds (Single (Int (pos 0))) ∷ [])
    ∷ (Refers (result 0) ∷ Refers (result 1) ∷ [])
    ∷ (Refers (in_array 0) ∷ Refers (in_array 1) ∷ Holds (Single (Int (pos 0))) ∷ [])
    ∷ []

-- 7 instructions up to the first CALL, 18 of what it calls, 5 for each of three assignments, 6 of the actuals, CALL, FRAME
sharing_called : run sharing 2 [] 3 (start sharing) 48 ≡ Unfinished (image swapping (record { pc = 65; fp = 2 } ∷ []) swapping_store 1 19 [])
sharing_called = refl

-- ---- the store of that image fits, its places among it

zero_in : IsInteger (pos 0)
zero_in = record { low = omega (arith, ints); high = omega (arith, ints) }

small_in : (n : ℕ) → n < 9 → IsInteger (pos n)
small_in n h = record { low = omega (arith, ints); high = omega (arith, ints, h) }

swapping_fits : Fits (all swapping) swapping_store
swapping_fits = record {
  from = (
    (small_in 2 (omega arith), ((small_in 7 (omega arith), (small_in 8 (omega arith), tt)), tt)),
    (
      (small_in 2 (omega arith), (zero_in, tt)),
      (
        ((omega arith, refl), ((omega arith, refl), tt)),
        (
          ((omega arith, (omega arith, refl)), ((omega arith, (omega arith, refl)), (zero_in, tt))),
          tt,
        ),
      ),
    ),
  );
}

-- ---- programs that are well formed

-- of one thing, and of two
only : {A : Type 0} (P : A → Type 0) (a : A) → P a → All P (a ∷ [])
only P a h = All-cons P a [] h (All-nil P)

both : {A : Type 0} (P : A → Type 0) (a b : A) → P a → P b → All P (a ∷ b ∷ [])
both P a b h k = All-cons P a (b ∷ []) h (only P b k)

abbrev SmallParameter : Parameter → Type 0
SmallParameter q = IsSmall q.type

abbrev SmallVariable : Variable → Type 0
SmallVariable v = IsSmall v.type

abbrev SimpleParameter : Parameter → Type 0
SimpleParameter q = IsSimple q.type

element_field_fine : IsWellFormed element_field
element_field_fine = record {
  procedures = only (IsFineProcedure element_field) _ (record {
    few = omega arith;
    values = both IsFineSpace _ _ tt tt;
    results = λ e. both SimpleParameter _ _ tt tt;
    body = ((Boolean, (tt, refl), (tt, (refl, (tt, refl), (tt, refl)))), tt);
    small_parameters = both SmallParameter _ _ tt tt;
    small_variables = All-nil SmallVariable;
    frame = omega arith;
    temporaries = omega arith;
  });
  body = tt;
  small = both SmallVariable _ _ (omega arith, omega arith, (omega arith, (tt, (tt, tt)))) tt;
  variables = omega arith;
}

down_fine : IsWellFormed down
down_fine = record {
  procedures = only (IsFineProcedure down) _ (record {
    few = omega arith;
    values = only IsFineSpace _ tt;
    results = λ e. only SimpleParameter _ tt;
    body = ((((Integer, refl, (tt, refl), small_in 1 (omega arith)), ((((tt, refl), (refl, small_in 1 (omega arith), tt)), tt), tt), tt), tt));
    small_parameters = only SmallParameter _ tt;
    small_variables = All-nil SmallVariable;
    frame = omega arith;
    temporaries = omega arith;
  });
  body = tt;
  small = All-nil SmallVariable;
  variables = omega arith;
}

up_fine : IsWellFormed up
up_fine = record {
  procedures = only (IsFineProcedure up) _ (record {
    few = omega arith;
    values = only IsFineSpace _ tt;
    results = λ e. only SimpleParameter _ tt;
    body = ((((Integer, (tt, refl), ((tt, refl), (refl, small_in 1 (omega arith), tt))), tt), (Integer, refl, (tt, refl), (tt, refl))), tt);
    small_parameters = only SmallParameter _ tt;
    small_variables = All-nil SmallVariable;
    frame = omega arith;
    temporaries = omega arith;
  });
  body = tt;
  small = only SmallVariable _ tt;
  variables = omega arith;
}
