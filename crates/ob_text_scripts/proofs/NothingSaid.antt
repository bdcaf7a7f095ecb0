-- No words say the values of parameters that take none.
use Rattle.std.proofs.Common.{◌≡◌, List, [], ◌∷◌, length, map, ℕ, true, false, refl, arith}
use Rattle.std.specs.Borrow.{Bor}
use Rattle.std.proofs.lemmas.Bool.{and_parts}
use Rattle.std.specs.List.{list_all}
use Rattle.ob_interface.specs.declared.export.Formal.{Formal}
use Rattle.ob_interface.specs.declared.scalar.Scalar.{Scalar}
use Rattle.ob_interface.specs.declared.scalar.ScalarType.{ScalarType}
use Rattle.ob_text_words.specs.Values as Values
use Rattle.ob_text_words.specs.Values.{AreValues, types_of}

said_of : (types : List ScalarType) (words : List (Bor (List ℕ))) (values : List Scalar) → types ≡ [] → length words ≡ 0 → values ≡ [] →
    AreValues types (map (λ w. w.now) words) values
said_of [] [] [] e f h = Values.none
said_of [] [] (v ∷ values) e f h = absurd (cc)
said_of [] (w ∷ words) values e f h = absurd (omega (arith, f))
said_of (x ∷ types) words values e f h = absurd (cc)

pub nothing_said : (formals : List Formal) (words : List (Bor (List ℕ))) (values : List Scalar) → types_of false formals ≡ [] → length words ≡ 0 → values ≡ [] →
    AreValues (types_of false formals) (map (λ w. w.now) words) values
nothing_said formals words values e f h = said_of (types_of false formals) words values e f h

-- parameters that are all VAR parameters take no value
pub no_values : (formals : List Formal) → list_all (λ f. f.is_var) formals ≡ true → types_of false formals ≡ []
no_values [] all = refl
no_values (f ∷ formals) all =
    let parts = and_parts f.is_var (list_all (λ g. g.is_var) formals) all in
    rw parts.0 (no_values formals parts.1)
