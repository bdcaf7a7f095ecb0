-- The parts of a run: the calls of a script as they were read, and what is printed of their replies.
use Rattle.std.proofs.Common.{◌≡◌, ℕ, ◌<◌, List, [], ◌∷◌, map, refl, ap, All, subst}
use Rattle.std.proofs.lemmas.List.{length-map}
use Rattle.std.proofs.lemmas.List.Elements.{All-map}
use Rattle.std.proofs.Math.ListN.{get_or-map}
use Rattle.ob_meaning.specs.Resolved.{IsResolved}
use Rattle.ob_meaning.specs.Same.{SameState}
use Rattle.ob_checked.specs.Exports.{signatures}
use Rattle.ob_interface.specs.Export.{CallFits}
use Rattle.ob_mean.specs.Sequences as Positions
use Rattle.ob_meaning.specs.ByNameObject.{State}
use Rattle.ob_object_calls.specs.SequentialRun.{PrintsReplies}
use Rattle.ob_object_calls.proofs.Named.{replies_same}
use Rattle.ob_object_calls.specs.CallLines.{reply_lines}
use Rattle.ob_text_words.specs.declared.script_call.ScriptCall as Declared
use Rattle.ob_text_words.specs.ScriptCalls.{object_call, script_call_of}
use Rattle.ob_meaning.specs.ByPositionStore.{Activation}
use Rattle.ob_typing.specs.Program.{Program}

-- what holds of each of the views holds so of the values
pub each : {A B : Type 0} (P : B → Type 0) (f : A → B) (xs : List A) → All P (map f xs) → All (λ x. P (f x)) xs
each P f xs h = λ k d below. subst P (get_or-map f xs k d) (h k (f d) (rw length-map below))

pub callers_in : (xs : List Declared.ScriptCall) → map (λ c. c.process) (map script_call_of xs) ≡ map (λ c. c.process) xs
callers_in [] = refl
callers_in (x ∷ xs) = ap (λ ps. x.process ∷ ps) (callers_in xs)

pub calls_in : (xs : List Declared.ScriptCall) → map object_call (map script_call_of xs) ≡ map (λ c. object_call (script_call_of c)) xs
calls_in [] = refl
calls_in (x ∷ xs) = ap (λ cs. object_call (script_call_of x) ∷ cs) (calls_in xs)

pub callers_below : (n : ℕ) (xs : List Declared.ScriptCall) (callers : List ℕ) → callers ≡ map (λ c. c.process) xs → All (λ c. c.process < n) xs → All (λ p. p < n) callers
callers_below n xs callers is h = rw is (All-map (λ (p : ℕ). p < n) (λ (c : Declared.ScriptCall). c.process) xs h)

-- replies by position are those by name
pub prints : (program : Program) (good : IsResolved program) (budget : ℕ) (state : State) (activation : Activation) → SameState program state activation →
    (xs : List Declared.ScriptCall) → All (λ c. CallFits (signatures program) (object_call (script_call_of c))) xs →
    (output : List ℕ) → output ≡ reply_lines [] (map (λ c. c.process) xs) (Positions.replies_to program budget activation (map (λ c. object_call (script_call_of c)) xs)) →
    PrintsReplies program budget state (map script_call_of xs) output
prints program good budget state activation same xs fit output printed =
    let replies = replies_same program good (λ (c : Declared.ScriptCall). object_call (script_call_of c)) budget xs fit state activation same in
    rw (callers_in, calls_in, replies) printed
