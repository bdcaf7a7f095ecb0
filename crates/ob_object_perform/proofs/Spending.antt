-- The calls that ended in a run over an object's engine are those of a run on the object, and of a run from the texts.
use Rattle.std.proofs.Common.{◌≡◌, ◌<◌, ◌∙◌, ◌^◌, ℕ, List, ap, length, subst}
use Rattle.std.specs.Prelude.{ℤ}
use Rattle.ob_code_correct.specs.CodeMeaning.{EngineParts, code_meaning}
use Rattle.ob_code_correct.specs.Compiled.{HasReserve}
use Rattle.ob_code_scheme.specs.Layout.{encoded}
use Rattle.ob_object_compile.specs.Compilation.{IsShort, ObjectParts}
use Rattle.ob_object_perform.specs.Performance.{AreReadOf, IsMeantIn, Shows}
use Rattle.ob_object_perform.specs.Texts.{Texts}
use Rattle.ob_text_record.specs.Record.{Record}
use Rattle.ob_object_run.specs.Recorded.{IsMeantOrder}
use Rattle.ob_object_perform.specs.Spent.{AreEndedIn, IsPrintedWithSteps, IsWithSteps, steps_text}
use Rattle.ob_text_words.specs.declared.item.Item.{Item}
use Rattle.ob_text_record.specs.RecordText.{record_text}
use Rattle.ob_text_words.specs.ScriptCalls.{ScriptCall}
use Rattle.ob_typing.specs.Program.{Program}
use Rattle.wf_play.specs.Played.{scripts_of}
use Rattle.wf_play.specs.Ended.{AreEndedOf}
use Rattle.wf_play.specs.declared.ended.EndedCall.{EndedCall}
use Rattle.wf_table.specs.Schedule.{steps_of}

-- of words and of steps that are the object's and the record's
pub ended_in : (o : ObjectParts) (calls : List ScriptCall) (r : Record) (ended : List EndedCall) (parts : EngineParts) (n : ℕ) (words : List ℤ) (made : List ScriptCall) (steps : List ℕ) →
    parts ≡ o.engine → n ≡ o.processes → words ≡ encoded o.opening → made ≡ calls → steps ≡ steps_of r.schedule →
    AreEndedOf (code_meaning parts) (HasReserve parts) n words (scripts_of made) steps ended → AreEndedIn o calls r ended
ended_in o calls r ended parts n words made steps parts_are n_is words_are made_are steps_are h =
    subst (λ (e : EngineParts). AreEndedOf (code_meaning e) (HasReserve e) o.processes (encoded o.opening) (scripts_of calls) (steps_of r.schedule) ended) parts_are
    (subst (λ (k : ℕ). AreEndedOf (code_meaning parts) (HasReserve parts) k (encoded o.opening) (scripts_of calls) (steps_of r.schedule) ended) n_is
    (subst (λ (ws : List ℤ). AreEndedOf (code_meaning parts) (HasReserve parts) n ws (scripts_of calls) (steps_of r.schedule) ended) words_are
    (subst (λ (cs : List ScriptCall). AreEndedOf (code_meaning parts) (HasReserve parts) n words (scripts_of cs) (steps_of r.schedule) ended) made_are
    (subst (λ (ps : List ℕ). AreEndedOf (code_meaning parts) (HasReserve parts) n words (scripts_of made) ps ended) steps_are h))))

module _ (t : Texts) where
  -- a run of what was read of the texts
  pub with_steps : (o : ObjectParts) (calls : List ScriptCall) (items : List Item) → AreReadOf IsShort t o calls items →
      (program : Program) (r : Record) (ended : List EndedCall) → Shows o calls items r → IsMeantIn o r → program ≡ o.program → AreEndedIn o calls r ended →
      IsWithSteps t program r ended
  with_steps o calls items read program r ended shown meant same are =
      let opens = read.compiled.opens in
      record {
        performs = record {
          object = o;
          compiled = read.compiled;
          calls = calls;
          calls_are = read.calls_are;
          items = items;
          items_are = read.items_are;
          shows = shown;
          legal = subst (λ (k : ℕ). ∥ IsMeantOrder o.program k opens.state r ∥₁) (ap (λ (e : EngineParts). e.budget) read.compiled.engine_is) (meant opens.state opens.same);
        };
        program_is = same;
        ended_are = are;
      }

  -- and what is printed of it
  pub printed : (program : Program) (r : Record) (ended : List EndedCall) (output lines : List ℕ) → IsWithSteps t program r ended →
      length r.history < 2 ^ 64 → output ≡ record_text program r → lines ≡ steps_text ended → IsPrintedWithSteps t output lines
  printed program r ended output lines is events written told = record {
    run = record { shown = r; performs = is.performs; events = events; printed = written ∙ ap (λ (p : Program). record_text p r) is.program_is };
    ended = ended;
    ended_are = is.ended_are;
    lines_are = told;
  }
