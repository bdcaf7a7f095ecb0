-- Values that can be carried have no fault.
use Rattle.std.proofs.Common.{◌≡◌, ◌≢◌, ℕ, List, Some, None, subst, refl}
use Rattle.std.proofs.lemmas.List.Elements.{All-get_or}
use Rattle.std.proofs.lemmas.Option.{get_or_from_slice_get, slice_get_within}
use Rattle.std.specs.Prelude.{Option, slice_get}
use Rattle.ob_carry.specs.Carried.{AreCarriable, Entry, IsCarriable, IsCarryFault, IsVariableFor}
use Rattle.ob_carry.specs.declared.carrying.CarryFault.{CarryFault}
use Rattle.ob_carry.specs.declared.carrying.CarryFault.TheVariants as Faults
use Rattle.ob_typing.specs.Program.{Variable}

entry_carriable : (variables : List Variable) (values : List Entry) (i : ℕ) (e : Entry) → slice_get values i ≡ Some e → AreCarriable variables values → IsCarriable variables e
entry_carriable variables values i e there carriable =
    subst (λ (x : Entry). IsCarriable variables x) (get_or_from_slice_get values i e e there)
    (All-get_or (IsCarriable variables) values i e (slice_get_within values i e there) carriable)

pub carriable_have_no_fault : (variables : List Variable) (values : List Entry) (e : CarryFault) → e ≢ Faults.NoMemory → AreCarriable variables values →
    IsCarryFault variables values e → ⊥
carriable_have_no_fault variables values (Faults.Unknown i) known carriable fault =
    subst (λ (v : Option Variable). IsVariableFor v fault.entry.value) fault.unknown (entry_carriable variables values i fault.entry fault.there carriable)
carriable_have_no_fault variables values (Faults.Unfit i) known carriable fault =
    fault.unfit (subst (λ (v : Option Variable). IsVariableFor v fault.entry.value) fault.known (entry_carriable variables values i fault.entry fault.there carriable))
carriable_have_no_fault variables values Faults.NoMemory known carriable fault = absurd (known refl)
