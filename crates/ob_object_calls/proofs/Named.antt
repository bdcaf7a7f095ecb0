-- Calls one at a time by position and by name.
use Rattle.std.proofs.Common.{◌≡◌, ℕ, List, [], ◌∷◌, map, refl, ap, ◌∙◌, All}
use Rattle.std.proofs.lemmas.List.Elements.{All-head, All-tail}
use Rattle.ob_meaning.specs.Resolved.{IsResolved}
use Rattle.ob_meaning.specs.Same.{SameState}
use Rattle.ob_meaning.proofs.SameCalls.{call_same}
use Rattle.ob_checked.specs.Exports.{signatures}
use Rattle.ob_interface.specs.Call.{ObjectCall}
use Rattle.ob_interface.specs.Export.{CallFits}
use Rattle.ob_mean.specs.Sequences as Positions
use Rattle.ob_meaning.specs.ByNameObject as Named
use Rattle.ob_meaning.specs.ByNameObject.{State, most_turns}
use Rattle.ob_meaning.specs.ByPositionObject as Objects
use Rattle.ob_meaning.specs.ByPositionStore.{Activation}
use Rattle.ob_typing.specs.Program.{Program}

module _ (program : Program) (good : IsResolved program) where
  pub replies_same : {A : Type 0} (asked : A → ObjectCall) (budget : ℕ) (calls : List A) → All (λ c. CallFits (signatures program) (asked c)) calls → (state : State) (activation : Activation) →
      SameState program state activation → Named.replies_to program budget state (map asked calls) ≡ Positions.replies_to program budget activation (map asked calls)
  replies_same asked budget [] fit state activation h = refl
  replies_same {A} asked budget (c ∷ calls) fit state activation h =
      let fits = All-head (λ (x : A). CallFits (signatures program) (asked x)) c calls fit in
      let one = call_same program good (asked c) fits budget state activation h in
      let by_name = Named.effect program (asked c) budget state in
      let found = Objects.effect program (asked c) budget activation in
      ap (λ r. r ∷ Named.replies_to program budget by_name.state (map asked calls)) one.reply
      ∙ ap (λ rs. found.reply ∷ rs) (replies_same asked budget calls (All-tail (λ (x : A). CallFits (signatures program) (asked x)) c calls fit) by_name.state found.state one.state)
