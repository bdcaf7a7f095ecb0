use Rattle.ob_object_search.proofs.instance.ModuleObject.new.Goals as goal

pub invariant_of-result : goal.invariant_of-result
invariant_of-result c = record { coded = c.in_ok-code.ensures; tells = ∣ c.in_ok-read_only.ensures ∣₁; tells_of_state = ∣ c.in_ok-of_state.ensures ∣₁ }
