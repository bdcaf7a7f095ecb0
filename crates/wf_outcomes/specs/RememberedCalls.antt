-- What is remembered of calls that were made.
use Rattle.std.specs.Prelude.{◌≡◌, ℕ, ◌⊎◌, List, [], ◌∷◌, ◌++◌, Some, slice_get, slice_set}
use Rattle.ob_interface.specs.Call.{ObjectCall, Reply}
use Rattle.ob_interface.specs.View.{reply_of}
use Rattle.wf_history.specs.declared.kept.KeptCall.{KeptCall}
use Rattle.wf_history.specs.View.{kept_call}
use Rattle.wf_outcomes.specs.declared.remembered_calls.Made as Rust
use Rattle.wf_outcomes.specs.declared.seen.Stated.{Stated}

-- the words that are kept of a state are its own
abbrev pub IsStated : {State Meaning : Type 0} → (State → Meaning) → (Meaning → List ℕ) → Stated State → Type 0
IsStated meaning words_of s = s.words.items ≡ words_of (meaning s.state)

-- the call, made on the one state, leads to the other one, with this reply
pub record IsMade {State Meaning : Type 0} (meaning : State → Meaning) (words_of : Meaning → List ℕ) (Effect : ObjectCall → Meaning → Meaning → Reply → Type 0) (made : Rust.Made State) : Type 0 where
  pub before : IsStated meaning words_of made.before.value
  pub after : IsStated meaning words_of made.after.value
  pub effect : Effect (kept_call made.call.now) (meaning made.before.value.state) (meaning made.after.value.state) (reply_of made.reply)

-- all calls that are remembered were made
abbrev pub AreMade : {State Meaning : Type 0} → (State → Meaning) → (Meaning → List ℕ) → (ObjectCall → Meaning → Meaning → Reply → Type 0) → List (Rust.Made State) → Type 0
AreMade {State} meaning words_of Effect calls = (k : ℕ) (made : Rust.Made State) → slice_get calls k ≡ Some made → IsMade meaning words_of Effect made

-- one more is remembered, in the place of another one or behind all
abbrev pub IsRemembered : {State : Type 0} → (calls more : List (Rust.Made State)) → Rust.Made State → Type 0
IsRemembered calls more made = ((place : ℕ) × (more ≡ slice_set calls place made)) ⊎ (more ≡ calls ++ made ∷ [])

-- it is remembered, of a state with the same words, and of the same call
pub record IsRecalled {State : Type 0} (calls : List (Rust.Made State)) (before : Stated State) (call : KeptCall) (made : Rust.Made State) : Type 0 where
  pub place : ℕ
  pub there : slice_get calls place ≡ Some made
  pub words : made.before.value.words.items ≡ before.words.items
  pub call_same : kept_call made.call.now ≡ kept_call call

-- the call, made on the one state, leads to the other one
abbrev pub IsAfter : {State Meaning : Type 0} → (State → Meaning) → (Meaning → List ℕ) → (ObjectCall → Meaning → Meaning → Reply → Type 0) → ObjectCall → (before after : Stated State) → Type 0
IsAfter meaning words_of Effect call before after =
    IsStated meaning words_of after × ((reply : Reply) × Effect call (meaning before.state) (meaning after.state) reply)
