-- Texts that were read, as they are asked for.
use Rattle.std.proofs.Common.{◌≡◌, ℕ, List, refl}
use Rattle.ob_answer_explained.specs.CommandTexts.{CallsTexts, RunTexts, calls_texts, first_or_none, run_texts_by}
use Rattle.ob_command.specs.CommandLine.{CallsRequest, RunRequest}
use Rattle.ob_object_compile.specs.Asked.{Asked, Beginning}
use Rattle.ob_object_perform.specs.Texts.{run_texts}

-- what is asked for of texts that were read, part by part
abbrev pub asked_with : CallsRequest → (text : List ℕ) (budget : ℕ) → Beginning → Asked
asked_with calls text budget beginning = record { text = text; processes = calls.processes; budget = budget; beginning = beginning }

pub calls_same : (calls : CallsRequest) (text part script script_now record_text : List ℕ) (record_bytes : List (List ℕ)) (budget : ℕ) (b b_now : Beginning)
    → text ≡ part → budget ≡ calls.budget → b_now ≡ b → script_now ≡ script → record_text ≡ first_or_none record_bytes
    → ◌≡◌ {A = CallsTexts} (record { calls = calls; asked = asked_with calls text budget b_now; script = script_now; record_text = record_text })
    (calls_texts calls part script record_bytes b)
calls_same calls text part script script_now record_text record_bytes budget b b_now text_is budget_is begins_is script_is record_is =
    rw (text_is, budget_is, begins_is, script_is, record_is) refl

pub run_same : (run : RunRequest) (text part script script_now schedule schedule_now record_text : List ℕ) (record_bytes : List (List ℕ)) (budget : ℕ) (b b_now : Beginning)
    → text ≡ part → budget ≡ run.calls.budget → b_now ≡ b → script_now ≡ script → schedule_now ≡ schedule → record_text ≡ first_or_none record_bytes
    → ◌≡◌ {A = RunTexts} (record { run = run; texts = run_texts (asked_with run.calls text budget b_now) script_now schedule_now; record_text = record_text })
    (run_texts_by run part script schedule record_bytes b)
run_same run text part script script_now schedule schedule_now record_text record_bytes budget b b_now text_is budget_is begins_is script_is schedule_is record_is =
    rw (text_is, budget_is, begins_is, script_is, schedule_is, record_is) refl
