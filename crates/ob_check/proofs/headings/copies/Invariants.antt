use Rattle.std.proofs.Common.{◌≡◌, ℕ, List, map, drop, ◌++◌, true}
use Rattle.ob_checked.specs.Types.{Entry}
use Rattle.ob_checked.specs.View.{parameter_of}
use Rattle.ob_scopes.specs.Objects.{known_parameters}
use Rattle.ob_check.proofs.headings.copies.Given as goal

-- what is copied stands for what was passed
abbrev pub invariant-loop-parameter : goal.invariant-loop-parameter
invariant-loop-parameter l = record {
  same : (types : List Entry) → map (parameter_of types) l.copied.items ++ map (parameter_of types) (drop l.parameter-index l.parameters) ≡ map (parameter_of types) l.parameters;
  known : (n : ℕ) → known_parameters n l.parameters ≡ true → (known_parameters n l.copied.items ≡ true) × (known_parameters n (drop l.parameter-index l.parameters) ≡ true);
}
