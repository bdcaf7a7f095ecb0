-- What holds of procedures that spare the module's variables.
use Rattle.std.specs.Prelude.{◌≡◌, ℕ, Bool, slice_get, Some}
use Rattle.ob_typing.specs.Program.{Procedure, Program, exports}
use Rattle.ob_carry.specs.ReadOnly.{IsReadOnly, AllSpareModule, KeepTheRule}

-- an export whose body keeps the rule, where the procedures that it may call keep it too, is read-only
abbrev pub ReadOnlyCallsLeaveTheState : Type 0
ReadOnlyCallsLeaveTheState =
    (program : Program) (is_quiet : ℕ → Bool) (export : ℕ) (p : Procedure) →
    KeepTheRule program is_quiet → slice_get (exports program) export ≡ Some p → AllSpareModule is_quiet p.body → IsReadOnly program export
