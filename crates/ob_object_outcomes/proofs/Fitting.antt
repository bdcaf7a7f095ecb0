-- The calls of scripts fit, each by itself, and so does what is asked of a state.
use Rattle.std.proofs.Common.{ap, sym, ℕ, zero, suc, Bool, true, false, All, List, [], ◌∷◌, get_or, if◌then◌else◌}
use Rattle.std.proofs.lemmas.List.Elements.{All-head, All-tail, All-nil, All-cons, All-push, All-contains}
use Rattle.std.specs.Prelude.{nat_eq}
use Rattle.ob_interface.specs.Call.{ObjectCall}
use Rattle.ob_interface.specs.Export.{CallFits, Signature, value_types}
use Rattle.ob_object_outcomes.proofs.OutcomesSimulated.{EachFits}
use Rattle.ob_object_outcomes.specs.Questions.{IsQuestion, question_call}
use Rattle.ob_object_outcomes.specs.Scripts.{calls_by, scripts_by}
use Rattle.ob_text_words.proofs.ExportSearch.{export_there}
use Rattle.ob_text_words.specs.ScriptCalls.{ScriptCall, object_call}
use Rattle.wf_history.proofs.Positions.{contains_at}

module _ (fits : ObjectCall → Type 0) where
  own_fit : (process : ℕ) (calls : List ScriptCall) → All (λ c. fits (object_call c)) calls → All fits (calls_by process calls)
  own_fit process [] h = All-nil fits
  own_fit process (c ∷ calls) h =
      or_not (nat_eq c.process process) (All-head (λ (x : ScriptCall). fits (object_call x)) c calls h)
      (own_fit process calls (All-tail (λ (x : ScriptCall). fits (object_call x)) c calls h))
    where
      or_not : (b : Bool) → fits (object_call c) → All fits (calls_by process calls) → All fits (if b then object_call c ∷ calls_by process calls else calls_by process calls)
      or_not true one rest = All-cons fits (object_call c) (calls_by process calls) one rest
      or_not false one rest = rest

  pub all_fit : (processes : ℕ) (calls : List ScriptCall) → All (λ c. fits (object_call c)) calls → All (All fits) (scripts_by processes calls)
  all_fit zero calls h = All-nil (All fits)
  all_fit (suc process) calls h = All-push (All fits) (scripts_by process calls) (calls_by process calls) (all_fit process calls h) (own_fit process calls h)

  script_fits : (scripts : List (List ObjectCall)) → All (All fits) scripts → (process : ℕ) → All fits (get_or scripts process [])
  script_fits [] h process = All-nil fits
  script_fits (s ∷ scripts) h zero = All-head (All fits) s scripts h
  script_fits (s ∷ scripts) h (suc process) = script_fits scripts (All-tail (All fits) s scripts h) process

  pub each_fits : (scripts : List (List ObjectCall)) → All (All fits) scripts → EachFits fits scripts
  each_fits scripts h process k call at =
      All-contains fits (get_or scripts process []) call (script_fits scripts h process) (contains_at (get_or scripts process []) k call at)

-- the call of a question fits
pub question_fits : (signatures : List Signature) (name : List ℕ) (number : ℕ) → IsQuestion signatures name number → CallFits signatures (question_call number)
question_fits signatures name number q = record {
  signature = q.signature;
  here = export_there signatures name number q.signature q.named;
  fit = sym (ap value_types q.formals);
}
