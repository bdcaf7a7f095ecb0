-- A legal order of a history leads to one state by what calls mean by name.
use Rattle.std.proofs.Common.{◌≡◌, ℕ, List, [], ◌∷◌, refl, sym, ap, ◌∙◌, subst}
use Rattle.ob_code_correct.specs.Named.{CallMeans}
use Rattle.ob_interface.specs.Call.{ObjectCall, Reply}
use Rattle.ob_meaning.specs.ByNameObject.{Effect, State, effect}
use Rattle.ob_typing.specs.Program.{Program}
use Rattle.wf_history.specs.declared.event.CallId.{CallId}
use Rattle.wf_history.specs.History.{Event, IsHistory}
use Rattle.wf_history.specs.Legal.{HasBegun, OneAtATime, more, none}
use Rattle.wf_table.proofs.Unique.{one_call}

module _ (program : Program) (budget : ℕ) (history : List (Event ObjectCall Reply)) (whole : IsHistory history) where
  abbrev Made : State → List CallId → List Reply → State → Type 0
  Made before ids replies after = OneAtATime (HasBegun history) (CallMeans program budget) before ids replies after

  no_more : (replies : List Reply) (s b : State) → Made s [] replies b → s ≡ b
  no_more replies s b none = refl

  pub one_end : (ids : List CallId) (ps qs : List Reply) (s a b : State) → Made s ids ps a → Made s ids qs b → a ≡ b
  one_end [] ps qs s a b none h = no_more qs s b h
  one_end (id ∷ ids) ps qs s a b (more {between = x} {call = c} {answers = others} begun does later) (more {between = y} {call = d} {answers = rest} other made behind) =
      let next : y ≡ x = sym (ap (λ (e : Effect). e.state) made) ∙ ap (λ (call : ObjectCall). (effect program call budget s).state) (one_call history whole id d c other begun)
      ∙ ap (λ (e : Effect). e.state) does in
      one_end ids others rest x a b later (subst (λ (z : State). Made z ids rest b) next behind)
