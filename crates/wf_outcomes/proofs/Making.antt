-- Calls that are remembered.
use Rattle.std.proofs.Common.{◌≡◌, refl, sym, ap, ◌∙◌, subst, ℕ, zero, suc, ◌≢◌, true, List, [], ◌∷◌, length, get_or, set, Some, inl, inr}
use Rattle.std.specs.Prelude.{nat_lt}
use Rattle.std.proofs.lemmas.Bool.{cases_eq, ltb-true}
use Rattle.std.proofs.lemmas.Option.{same_Some, slice_get-get_or}
use Rattle.std.specs.List.{slice_get}
use Rattle.ob_interface.specs.Call.{ObjectCall, Reply}
use Rattle.ob_interface.specs.View.{reply_of}
use Rattle.wf_history.specs.declared.kept.KeptCall.{KeptCall}
use Rattle.wf_history.specs.View.{kept_call}
use Rattle.wf_history.proofs.Positions.{place_push}
use Rattle.wf_outcomes.specs.declared.remembered_calls.Made.{Made}
use Rattle.wf_outcomes.specs.declared.seen.Stated.{Stated}
use Rattle.wf_outcomes.specs.RememberedCalls.{AreMade, IsAfter, IsMade, IsRecalled, IsRemembered, IsStated}
use Rattle.wf_outcomes.specs.Outcomes.{Answers}

-- what is read behind a write
pub set_same : {X : Type 0} (xs : List X) (p : ℕ) (x y : X) → slice_get (set xs p x) p ≡ Some y → y ≡ x
set_same [] p x y at = absurd (cc)
set_same (z ∷ xs) zero x y at = sym (same_Some x y at)
set_same (z ∷ xs) (suc p) x y at = set_same xs p x y at

pub set_other : {X : Type 0} (xs : List X) (p k : ℕ) (x : X) → k ≢ p → slice_get (set xs p x) k ≡ slice_get xs k
set_other [] p k x other = refl
set_other (z ∷ xs) zero zero x other = absurd (other refl)
set_other (z ∷ xs) zero (suc k) x other = refl
set_other (z ∷ xs) (suc p) zero x other = refl
set_other (z ∷ xs) (suc p) (suc k) x other = set_other xs p k x (λ e. other (ap suc e))

-- what is read at a place
pub item_at : {X : Type 0} (xs : List X) (p : ℕ) (x : X) → true ≡ nat_lt p (length xs) → x ≡ get_or xs p x → slice_get xs p ≡ Some x
item_at xs p x within is = slice_get-get_or xs p x (ltb-true p (length xs) (sym within)) ∙ ap Some (sym is)

module _ {State Meaning : Type 0} (meaning : State → Meaning) (words_of : Meaning → List ℕ) (Effect : ObjectCall → Meaning → Meaning → Reply → Type 0) where
  pub nothing_made : (calls : List (Made State)) → calls ≡ [] → AreMade meaning words_of Effect calls
  nothing_made calls none k made at =
      let e : slice_get [] k ≡ Some made = ap (λ (l : List (Made State)). slice_get l k) (sym none) ∙ at in absurd (cc)

  -- one more is remembered
  pub still_made : (calls more : List (Made State)) → AreMade meaning words_of Effect calls → (new : Made State) → IsMade meaning words_of Effect new → IsRemembered calls more new →
      AreMade meaning words_of Effect more
  still_made calls more are new is (inl over) =
      subst (λ (l : List (Made State)). AreMade meaning words_of Effect l) (sym over.1) (λ k made at. elim (cases_eq k over.0) [
        | inl here ↦
            let there : slice_get (set calls over.0 new) over.0 ≡ Some made = ap (slice_get (set calls over.0 new)) (sym here) ∙ at in
            subst (λ (m : Made State). IsMade meaning words_of Effect m) (sym (set_same calls over.0 new made there)) is
        | inr other ↦ are k made (sym (set_other calls over.0 k new other) ∙ at)
      ])
  still_made calls more are new is (inr behind) =
      subst (λ (l : List (Made State)). AreMade meaning words_of Effect l) (sym behind) (λ k made at. elim (place_push calls new k made at) [
        | inl old ↦ are k made old
        | inr last ↦ subst (λ (m : Made State). IsMade meaning words_of Effect m) last.1 is
      ])

  -- a call that was made now
  pub made_after : (before : Stated State) (call : KeptCall) (made : Made State) → IsMade meaning words_of Effect made → made.before.value ≡ before → made.call.now ≡ call → (after : Stated State) → after ≡ made.after.value →
      IsAfter meaning words_of Effect (kept_call call) before after
  made_after before call made is from by after to =
      subst (λ (s : Stated State). IsAfter meaning words_of Effect (kept_call call) before s) (sym to) (
        is.after,
        (
          reply_of made.reply,
          subst (λ (k : KeptCall). Effect (kept_call k) (meaning before.state) (meaning made.after.value.state) (reply_of made.reply)) by
              (subst (λ (s : Stated State). Effect (kept_call made.call.now) (meaning s.state) (meaning made.after.value.state) (reply_of made.reply)) from is.effect),
        ),
      )

  module _ (told_apart : (a b : Meaning) → words_of a ≡ words_of b → a ≡ b) (calls : List (Made State)) (are : AreMade meaning words_of Effect calls) (before : Stated State) (is : IsStated meaning words_of before) (call : KeptCall)
      (made : Made State) (r : IsRecalled calls before call made) where
    recalled_effect : Effect (kept_call call) (meaning before.state) (meaning made.after.value.state) (reply_of made.reply)
    recalled_effect =
        let m = are r.place made r.there in
        let same = told_apart (meaning made.before.value.state) (meaning before.state) (sym m.before ∙ r.words ∙ is) in
        subst (λ (k : ObjectCall). Effect k (meaning before.state) (meaning made.after.value.state) (reply_of made.reply)) r.call_same
        (subst (λ (s : Meaning). Effect (kept_call made.call.now) s (meaning made.after.value.state) (reply_of made.reply)) same m.effect)

    -- a call that is remembered
    pub recalled_after : (after : Stated State) → after ≡ made.after.value → IsAfter meaning words_of Effect (kept_call call) before after
    recalled_after after to =
        let m = are r.place made r.there in
        subst (λ (s : Stated State). IsAfter meaning words_of Effect (kept_call call) before s) (sym to) (m.after, (reply_of made.reply, recalled_effect))

    pub recalled_reply : (reply : Reply) → reply ≡ reply_of made.reply → Answers Effect (kept_call call) reply (meaning before.state)
    recalled_reply reply is_reply =
        subst (λ (a : Reply). Answers Effect (kept_call call) a (meaning before.state)) (sym is_reply) (meaning made.after.value.state, recalled_effect)
