-- What is remembered at first.
use Rattle.std.proofs.Common.{◌≡◌, sym, ap, ◌∙◌, ℕ, List, length, get_or, replicate, Option, Some, None, arith, inl, inr}
use Rattle.std.proofs.lemmas.Bool.{cases_lt}
use Rattle.std.proofs.lemmas.List.{get_or-replicate, get_or_past, length-replicate}
use Rattle.ob_interface.specs.Call.{ObjectCall, Reply}
use Rattle.wf_order.specs.declared.made_calls.MadeCall.{MadeCall}
use Rattle.wf_order.specs.declared.made_calls.MadeCalls.{MadeCalls}
use Rattle.wf_order.specs.MadeCalls.{AreMade}

nothing_at : {A : Type 0} (n k : ℕ) (none : A) → get_or (replicate n none) k none ≡ none
nothing_at n k none =
    elim (cases_lt k n) [
      | inl lt ↦ get_or-replicate n k none none lt
      | inr ge ↦ get_or_past (replicate n none) k none (let size = length-replicate n none in omega (arith, size, ge))
    ]

-- no call is
pub none_made : {S M : Type 0} (meaning : S → M) (words_of : M → List ℕ) (Effect : ObjectCall → M → M → Reply → Type 0) (calls : MadeCalls S) → calls.rows.items ≡ replicate 256 None → AreMade meaning words_of Effect calls
none_made {S} meaning words_of Effect calls is = record {
  whole = ap length is ∙ length-replicate {A = Option (MadeCall S)} 256 None;
  each = λ row made at.
      let none : ◌≡◌ {A = Option (MadeCall S)} None (Some made) = sym (nothing_at {A = Option (MadeCall S)} 256 row None) ∙ ap (λ (l : List (Option (MadeCall S))). get_or l row None) (sym is) ∙ at in
      absurd (cc);
}
