-- From how an object begins to the answer of `live`.
use Rattle.std.proofs.Common.{◌≡◌, ◌++◌, ℕ, false, List, ◌∷◌, Result, Err, codes, subst}
use Rattle.ob_answer.specs.LiveAnswers.{IsLiveAnswer, IsLiveMade}
use Rattle.ob_answer_explained.specs.Beginnings.{Begins, TellsNoneOf, begun, untold}
use Rattle.ob_answer_explained.specs.CommandTexts.{CallsTexts, calls_texts, first_or_none, of_text, record_file}
use Rattle.ob_answer_explained.specs.Explains.{IsValuesFaultTold}
use Rattle.ob_answer_explained.proofs.AtOnce.{object_refused, refused_of_whole}
use Rattle.ob_answer_explained.proofs.Beginnings.{beginning}
use Rattle.ob_answer_files.specs.Printed.{IsRefused, refused}
use Rattle.ob_answer_files.specs.declared.answered.Answer.{Answer}
use Rattle.ob_command.specs.CommandLine.{CallsRequest}
use Rattle.ob_fault_lines.specs.CompileFaultLines.{compile_line}
use Rattle.ob_object_compile.specs.Asked.{Asked, Beginning, TellsAtOnce}
use Rattle.ob_object_compile.specs.Compilation.{IsNumbered, IsRefusal, IsShort}
use Rattle.ob_object_compile.specs.declared.compiling.CompileFault.{CompileFault}
use Rattle.ob_object_live.specs.declared.live_parts.Live.{Live}
use Rattle.ob_text_values_reading.specs.ReadValues.{SaysNone}
use Rattle.ob_text_values_reading.specs.declared.value_reading.ValuesFault.{ValuesFault}

module _ {C : Type 0} (Hears Tells : C → List ℕ → C → Type 0) (start end : C) where
  pub live_begun : (calls : CallsRequest) (part whole script : List ℕ) (record_bytes : List (List ℕ)) (beginning : Beginning) (t : CallsTexts) (a : Answer)
      → t ≡ calls_texts calls part script record_bytes beginning → Begins record_bytes beginning → IsLiveAnswer Hears Tells start end (of_text t.asked whole) a
      → IsLiveMade Hears Tells start end calls (whole ∷ record_bytes) a
  live_begun calls part whole script record_bytes beginning t a is begins h =
      begun beginning begins (subst (λ (u : CallsTexts). IsLiveAnswer Hears Tells start end (of_text u.asked whole) a) is h)

  pub live_untold : (calls : CallsRequest) (whole : List ℕ) (record_bytes : List (List ℕ)) (fault : ValuesFault) (record_text : List ℕ) (a : Answer)
      → record_text ≡ first_or_none record_bytes → IsValuesFaultTold false (record_file calls record_text) fault a → SaysNone fault → TellsNoneOf record_bytes fault
      → IsLiveMade Hears Tells start end calls (whole ∷ record_bytes) a
  live_untold calls whole record_bytes fault record_text a record_is told says none =
      untold fault (none says) (subst (λ (text : List ℕ). IsValuesFaultTold false (record_file calls text) fault a) record_is told)

  -- the line of a fault by which there is no object
  pub live_refused : (a : Asked) (e : CompileFault) (x : Answer) (whole : List ℕ) → a.text ≡ beginning whole → IsRefused x 1 (compile_line a.beginning e ++ codes "\n")
      → IsNumbered e → TellsAtOnce a (λ c. ◌≡◌ {A = Result Live CompileFault} (Err e) (Err c)) → IsRefusal IsShort (of_text a a.text) e
      → IsLiveAnswer Hears Tells start end (of_text a whole) x
  live_refused a e x whole is told numbered tells h =
      refused e (
        refused_of_whole {T = Live} {F = CompileFault} (λ c. c) a (λ t. IsRefusal IsShort (of_text a t)) e whole is tells
            (λ c longer at_once _. object_refused IsShort (of_text a whole) c longer at_once) h,
        numbered,
      ) told
