-- What is told of texts on the way: that statements spare the module's variables, where all procedures of a list do.
use Rattle.std.specs.Prelude.{◌≡◌, ℕ, Bool, true, false, List, Option, IfSome, MatchOption, get_or, slice_get, Some, Vec}
use Rattle.std.specs.List.{AllByRecursion, filter}
use Rattle.std.specs.declared.alloc.Global.{Global}
use Rattle.ob_checked.specs.declared.program.Procedure.{Procedure}
use Rattle.ob_checked.specs.View.{statements_in}
use Rattle.ob_carry.specs.ReadOnly.{AllSpareModule}

-- the set has all of these procedures
abbrev pub HasAll : (ℕ → Bool) → List ℕ → Type 0
HasAll is_quiet calls = AllByRecursion (λ number. is_quiet number ≡ true) calls

-- What has the new list has the old one; and where it is told, the fact holds of each set that has the new list.
abbrev pub IsTold : ((ℕ → Bool) → Type 0) → (old new : List ℕ) → Bool → Type 0
IsTold Fact old new told = (is_quiet : ℕ → Bool) → HasAll is_quiet new → HasAll is_quiet old × (told ≡ true → Fact is_quiet)

-- the statements of a procedure spare the module's variables, where those that it calls do
abbrev pub SparesBy : Procedure → List ℕ → Type 0
SparesBy p calls = (is_quiet : ℕ → Bool) → HasAll is_quiet calls → AllSpareModule is_quiet (statements_in p.body.items)

-- the calls of a procedure, if it is one that spares the module's variables by itself
abbrev pub AreCalls : Procedure → Option (Vec ℕ Global) → Type 0
AreCalls p found = IfSome found (λ calls. SparesBy p calls.items)

-- the set that flags tell
abbrev pub in_flags : List Bool → ℕ → Bool
in_flags flags number = get_or flags number false

-- the procedure with these calls is one of the set, as far as its calls go
abbrev pub StaysIn : List Bool → Option (Vec ℕ Global) → Type 0
StaysIn flags found = MatchOption found ⊥ (λ calls. HasAll (in_flags flags) calls.items)

-- each procedure of the set calls only such
abbrev pub IsClosed : List (Option (Vec ℕ Global)) → List Bool → Type 0
IsClosed found flags =
    (number : ℕ) (calls : Option (Vec ℕ Global)) → in_flags flags number ≡ true → slice_get found number ≡ Some calls → StaysIn flags calls

-- each procedure of the set keeps the rule
abbrev pub AllKeep : List Procedure → List Bool → Type 0
AllKeep procedures flags =
    (number : ℕ) (p : Procedure) → in_flags flags number ≡ true → slice_get procedures number ≡ Some p → AllSpareModule (in_flags flags) (statements_in p.body.items)

-- where it is told of a procedure, it keeps the rule with the set
abbrev pub SparesIf : List Bool → Procedure → Bool → Type 0
SparesIf flags p told = told ≡ true → AllSpareModule (in_flags flags) (statements_in p.body.items)

abbrev pub exported : List Procedure → List Procedure
exported procedures = filter (λ p. p.is_exported) procedures
