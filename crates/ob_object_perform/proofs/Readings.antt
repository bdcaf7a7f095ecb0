-- A run of what was read of texts is a run from the texts.
use Rattle.std.proofs.Common.{◌≡◌, ℕ, List, ap, subst}
use Rattle.ob_code_correct.specs.CodeMeaning.{EngineParts}
use Rattle.ob_object_compile.specs.Compilation.{IsShort, ObjectParts}
use Rattle.ob_object_perform.specs.Performance.{AreMakersIn, AreReadOf, IsMeantIn, IsRunOf, Shows}
use Rattle.ob_object_perform.specs.Pictured.{IsWithMakers}
use Rattle.ob_object_perform.specs.Texts.{Texts}
use Rattle.ob_text_record.specs.Record.{Record}
use Rattle.ob_object_run.specs.Recorded.{IsMeantOrder}
use Rattle.ob_text_words.specs.declared.item.Item.{Item}
use Rattle.ob_text_words.specs.ScriptCalls.{ScriptCall}
use Rattle.ob_typing.specs.Program.{Program}

module _ (Allowed : Program → Type 0) (t : Texts) (o : ObjectParts) (calls : List ScriptCall) (items : List Item) (read : AreReadOf Allowed t o calls items) where
  pub performs : (r : Record) → Shows o calls items r → IsMeantIn o r → IsRunOf Allowed t r
  performs r shown meant =
      let opens = read.compiled.opens in
      record {
        object = o;
        compiled = read.compiled;
        calls = calls;
        calls_are = read.calls_are;
        items = items;
        items_are = read.items_are;
        shows = shown;
        legal = subst (λ (k : ℕ). ∥ IsMeantOrder o.program k opens.state r ∥₁) (ap (λ (e : EngineParts). e.budget) read.compiled.engine_is) (meant opens.state opens.same);
      }

-- over code, with the processes whose steps showed the events
module _ (t : Texts) (o : ObjectParts) (calls : List ScriptCall) (items : List Item) (read : AreReadOf IsShort t o calls items) where
  pub with_makers : (program : Program) (r : Record) (makers : List ℕ) → Shows o calls items r → IsMeantIn o r → program ≡ o.program → AreMakersIn o calls r makers →
      IsWithMakers t program r makers
  unfolding performs
  with_makers program r makers shown meant same made =
      record { performs = performs IsShort t o calls items read r shown meant; program_is = same; made = made }
