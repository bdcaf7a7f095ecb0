-- Calls on the block of a state, and calls on scalars.
use Rattle.std.proofs.Common.{◌≡◌, ◌∙◌, ap, sym, subst, ℕ, List, map, Option, Some, None}
use Rattle.std.specs.Prelude.{ℤ, IfOk, IfSome, Result}
use Rattle.std.specs.declared.result.Result.TheVariants.{Ok, Err}
use Rattle.std.proofs.Math.Logic.{∥∥₁_map}
use Rattle.std.proofs.lemmas.Option.{same_Some}
use Rattle.ob_checked.specs.Types.{Entry}
use Rattle.ob_checked.specs.View.{variable_of}
use Rattle.ob_checked.specs.declared.program.Variable as Declared
use Rattle.ob_code_calls.specs.Calls.{IsMade, IsMadeThrough, block_behind, meaning_of}
use Rattle.ob_code_calls.specs.Led.{reply_behind}
use Rattle.ob_code_calls.specs.Scalars.{AreBehind, IsCodeWith, held_of}
use Rattle.ob_code_correct.proofs.CodeLaw.{lawful_decoded}
use Rattle.ob_code_correct.specs.CodeMeaning.{EngineParts}
use Rattle.ob_code_correct.specs.Parts.{IsLawfulFor}
use Rattle.ob_code_machine.specs.Body.{Run}
use Rattle.ob_code_scheme.specs.Layout.{IsEncoding, decoded}
use Rattle.ob_interface.specs.Call.{ObjectCall, Reply, Trapped}
use Rattle.ob_interface.specs.declared.scalar.Scalar.{Scalar}
use Rattle.ob_meaning.specs.ByPositionObject.{effect}
use Rattle.ob_meaning.specs.ByPositionStore.{Activation}
use Rattle.ob_typing.specs.Program.{Program, Variable}
use Rattle.wf_table.specs.Meaning.{kept}

pub some_at : {A : Type 0} (o : Option A) (x : A) (P : A → Type 0) → o ≡ Some x → IfSome o P → P x
some_at {A} o x P e h = subst (λ (q : Option A). IfSome q P) e h

-- what is known of something that may have been read, for each of some
pub under_all : {X A E : Type 0} (P : X → A → Type 0) (r : Result (Option A) E) → ((x : X) → IfOk r (λ o. IfSome o (P x))) → IfOk r (λ o. IfSome o (λ a. (x : X) → P x a))
under_all P (Ok (Some a)) h = h
under_all P (Ok None) h = tt
under_all P (Err e) h = tt

module _ (program : Program) (parts : EngineParts) (call : ObjectCall) (before : Activation) (block left : List ℤ) (run : Run) where
  -- where the body has returned
  pub through_left : (o : Option ℕ) → o ≡ None → IsMadeThrough program parts call before block left run o → (reply : Reply) →
      reply ≡ (meaning_of parts).reply call (kept (meaning_of parts) run) → IsMade program parts.budget call before left reply
  through_left o none made reply is =
      subst (λ (r : Reply). IsMade program parts.budget call before left r) (sym is)
      (subst (λ (t : Option ℕ). IsMadeThrough program parts call before block left run t) none made)

  pub through_returned : (o : Option ℕ) → o ≡ None → IsMadeThrough program parts call before block left run o → (reply : Reply) →
      reply ≡ (meaning_of parts).reply call (kept (meaning_of parts) run) → IsMade program parts.budget call before (block_behind reply block left) reply
  through_returned o none made reply is =
      subst (λ (r : Reply). IsMade program parts.budget call before (block_behind r block left) r) (sym is)
      (subst (λ (t : Option ℕ). IsMadeThrough program parts call before block left run t) none made)

  -- and where it traps
  pub through_trapped : (o : Option ℕ) (k : ℕ) → o ≡ Some k → IsMadeThrough program parts call before block left run o → IsMade program parts.budget call before block (Trapped k)
  through_trapped o k some made = subst (λ (t : Option ℕ). IsMadeThrough program parts call before block left run t) some made

  -- its reply, however it has ended
  pub reply_is : (o : Option ℕ) → IsMadeThrough program parts call before block left run o → (effect program call parts.budget before).reply ≡ reply_behind parts call run o
  reply_is None made = made.reply_is
  reply_is (Some number) made = made.reply_is

module _ (parts : EngineParts) (variables : List Declared.Variable) (scalars : List Scalar) (block : List ℤ)
    (laid : (types : List Entry) → IsEncoding (map (variable_of types) variables) (map held_of scalars) block) where
  -- the block of scalars is lawful
  pub lawful_scalars : ∥ IsCodeWith variables parts ∥₁ → ∥ IsLawfulFor parts block ∥₁
  lawful_scalars code =
      ∥∥₁_map code (λ h. record {
        program = h.program;
        compiled = h.compiled;
        is = record { state = map held_of scalars; encodes = subst (λ (vs : List Variable). IsEncoding vs (map held_of scalars) block) h.are (laid h.types) };
      })

module _ (program : Program) (parts : EngineParts) (variables : List Declared.Variable) (types : List Entry) (are : map (variable_of types) variables ≡ program.variables) (call : ObjectCall) (before : Activation) where
  -- what is read from the block behind a call is the state that it leads to
  pub state_is : (behind : List ℤ) (after : Activation) (reply : Reply) → IsMade program parts.budget call before behind reply → decoded (map (variable_of types) variables) behind ≡ Some after →
      (effect program call parts.budget before).state ≡ after
  state_is behind after reply m read =
      same_Some _ _ (sym (lawful_decoded program behind (effect program call parts.budget before).state m.block_is) ∙ ap (λ (vs : List Variable). decoded vs behind) (sym are) ∙ read)

  pub made_of : (behind : List ℤ) (after : Activation) (reply : Reply) → IsMade program parts.budget call before behind reply → decoded (map (variable_of types) variables) behind ≡ Some after →
      effect program call parts.budget before ≡ record { state = after; reply = reply }
  made_of behind after reply m read =
      ap (λ (s : Activation). record { state = s; reply = (effect program call parts.budget before).reply }) (state_is behind after reply m read)
      ∙ ap (λ (r : Reply). record { state = after; reply = r }) m.reply_is

  -- also where it is left as it was
  pub same_of : (block : List ℤ) → IsEncoding program.variables before block → decoded (map (variable_of types) variables) block ≡ Some before
  same_of block encodes = ap (λ (vs : List Variable). decoded vs block) are ∙ lawful_decoded program block before encodes

  -- the values behind a call are of the state that it leads to, however it has ended
  pub behind_is : (scalars after : List Scalar) (block left : List ℤ) (run : Run) (o : Option ℕ) → map held_of scalars ≡ before → IsEncoding program.variables before block →
      IsMadeThrough program parts call before block left run o → AreBehind variables scalars left o after → (effect program call parts.budget before).state ≡ map held_of after
  behind_is scalars after block left run None are_before encodes made behind = state_is left (map held_of after) _ made (behind types)
  behind_is scalars after block left run (Some number) are_before encodes made behind =
      state_is block before (Trapped number) made (same_of block encodes) ∙ sym are_before ∙ ap (map held_of) (sym behind)
