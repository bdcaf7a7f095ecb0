-- What an opening that is done leaves, and what stops one.
use Rattle.std.proofs.Common.{◌≡◌, ap, sym, ◌∙◌, ℕ, [], ◌∷◌, Ok, Err}
use Rattle.ob_typing.specs.Program.{Program, Statements}
use Rattle.ob_meaning.specs.ByNameObject.{most_activations, most_turns}
use Rattle.ob_meaning.specs.ByPositionStore.{Store, activation_at}
use Rattle.ob_meaning.specs.ByPositionStatements.{Outcome, Done, meaning_of_all, begun, calls}
use Rattle.ob_meaning.specs.ByPositionObject.{opening}
use Rattle.ob_mean.specs.declared.places.Stop.{Stop}
use Rattle.ob_mean.specs.declared.places.Stop.TheVariants as Stops
use Rattle.ob_store.specs.declared.state.State.{State}
use Rattle.ob_store.specs.View.{state_of}
use Rattle.ob_mean.specs.Faults.{IsOpenFault, of_stop}
use Rattle.ob_mean.specs.Running.{Comes}
use Rattle.ob_mean.specs.Outside.{Opens}
use Rattle.ob_mean.proofs.Kept.{kept_where_done, module_alone}

module _ (program : Program) (turns : ℕ) where
  pub opening_ran : (ss : Statements) (was : Store) → was ≡ begun program.variables ∷ [] → ss ≡ program.body →
      opening program turns ≡ meaning_of_all (calls program most_activations) ss turns was
  opening_ran ss was begins body =
      ap (meaning_of_all (calls program most_activations) program.body turns) (sym begins)
      ∙ ap (λ s. meaning_of_all (calls program most_activations) s turns was) (sym body)

  pub opening_done : (l : ℕ) (next : Store) (state : State) → opening program turns ≡ Done l next →
      state_of state ≡ activation_at next 0 → Opens program turns (Ok state)
  opening_done l next state done lasts =
      let first = begun program.variables in
      let kept = kept_where_done program most_activations program.body turns l (first ∷ []) next done in
      (l, done ∙ ap (Done l) (module_alone first next kept ∙ ap (λ a. a ∷ []) (sym lasts)))

  pub opening_stops : (o : Outcome) (stop : Stop) (after : Store) → opening program turns ≡ o → Comes o (Err stop) after → Opens program turns (Err stop)
  opening_stops o (Stops.Trap k) after ran comes = ran ∙ comes
  opening_stops o Stops.NoMemory after ran comes = tt

pub opening_fault : (program : Program) (stop : Stop) → Opens program most_turns (Err stop) → IsOpenFault program (of_stop stop)
opening_fault program (Stops.Trap k) opens = opens
opening_fault program Stops.NoMemory opens = tt
