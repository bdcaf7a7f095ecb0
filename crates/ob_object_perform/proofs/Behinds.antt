-- What an engine's machine is behind a run is what the object's is.
use Rattle.std.proofs.Common.{◌≡◌, ◌∙◌, ℕ, List, true, false, ap, subst}
use Rattle.std.specs.Prelude.{ℤ}
use Rattle.ob_code_correct.specs.CodeMeaning.{EngineParts, code_meaning}
use Rattle.ob_code_correct.specs.Compiled.{HasReserve, IsFitting}
use Rattle.ob_code_correct.specs.Parts.{IsLawfulFor}
use Rattle.ob_code_machine.specs.Body.{Run}
use Rattle.ob_code_scheme.specs.Layout.{encoded}
use Rattle.ob_object_compile.specs.Compilation.{IsShort, ObjectParts}
use Rattle.ob_object_perform.specs.Performance.{AreReadOf, IsRefusal, IsRunFault}
use Rattle.ob_object_perform.specs.declared.performing.PerformFault.TheVariants as Faults
use Rattle.ob_object_perform.specs.Texts.{Texts}
use Rattle.ob_object_perform.specs.Behind.{IsStateBehind, IsStatePrinted, sizes_in}
use Rattle.ob_text_words.specs.declared.item.Item.{Item}
use Rattle.ob_text_record.specs.StateText.{state_text}
use Rattle.ob_text_words.specs.ScriptCalls.{ScriptCall}
use Rattle.wf_play.specs.Played.{IsPlayed, IsPlayFault, scripts_of}
use Rattle.wf_play.specs.declared.playing.PlayFault.{PlayFault}
use Rattle.wf_table.specs.declared.process.Sizes.{Sizes}
use Rattle.wf_table.specs.Object.{State}
use Rattle.wf_table.specs.Start.{sizes_of}
use Rattle.ob_typing.specs.Program.{Program}

-- of an engine, a number of processes, words, calls and items that are the object's
module _ (o : ObjectParts) (calls : List ScriptCall) (items : List Item)
    (parts : EngineParts) (n : ℕ) (words : List ℤ) (made : List ScriptCall) (its : List Item)
    (parts_are : parts ≡ o.engine) (n_is : n ≡ o.processes) (words_are : words ≡ encoded o.opening) (made_are : made ≡ calls) (items_are : its ≡ items) where
  abbrev Plays : EngineParts → ℕ → List ℤ → List ScriptCall → List Item → State Run → Type 0
  Plays e k ws cs is s = IsPlayed (code_meaning e) (IsLawfulFor e) (IsFitting e.exports) (HasReserve e) k ws (scripts_of cs) is s

  pub behind_in : (s : State Run) → IsPlayed (code_meaning parts) (IsLawfulFor parts) (IsFitting parts.exports) (HasReserve parts) n words (scripts_of made) its s →
      IsStateBehind o calls items s
  behind_in s h =
      subst (λ (e : EngineParts). Plays e o.processes (encoded o.opening) calls items s) parts_are
      (subst (λ (k : ℕ). Plays parts k (encoded o.opening) calls items s) n_is
      (subst (λ (ws : List ℤ). Plays parts n ws calls items s) words_are
      (subst (λ (cs : List ScriptCall). Plays parts n words cs items s) made_are
      (subst (λ (is : List Item). Plays parts n words made is s) items_are h))))

  abbrev Fails : EngineParts → ℕ → List ℤ → List ScriptCall → List Item → PlayFault → Type 0
  Fails e k ws cs is fault = IsPlayFault (code_meaning e) (HasReserve e) k ws (scripts_of cs) is fault

  pub fault_in : (fault : PlayFault) → IsPlayFault (code_meaning parts) (HasReserve parts) n words (scripts_of made) its fault → IsRunFault o calls items fault
  fault_in fault h =
      subst (λ (e : EngineParts). Fails e o.processes (encoded o.opening) calls items fault) parts_are
      (subst (λ (k : ℕ). Fails parts k (encoded o.opening) calls items fault) n_is
      (subst (λ (ws : List ℤ). Fails parts n ws calls items fault) words_are
      (subst (λ (cs : List ScriptCall). Fails parts n words cs items fault) made_are
      (subst (λ (is : List Item). Fails parts n words made is fault) items_are h))))

  pub sizes_are : (z : Sizes) → z ≡ sizes_of (code_meaning parts) n → z ≡ sizes_in o
  sizes_are z h = h ∙ ap (λ (e : EngineParts). sizes_of (code_meaning e) n) parts_are ∙ ap (λ (k : ℕ). sizes_of (code_meaning o.engine) k) n_is

-- what is printed of a machine behind a run of what was read
pub printed : (t : Texts) (o : ObjectParts) (calls : List ScriptCall) (items : List Item) → AreReadOf IsShort t o calls items → (z : Sizes) (s : State Run) →
    z ≡ sizes_in o → IsStateBehind o calls items s → (output : List ℕ) → output ≡ state_text z s → IsStatePrinted t output
printed t o calls items read z s sizes behind output written = record {
  object = o;
  compiled = read.compiled;
  calls = calls;
  calls_are = read.calls_are;
  items = items;
  items_are = read.items_are;
  state = s;
  behind = behind;
  printed = written ∙ ap (λ (y : Sizes). state_text y s) sizes;
}

-- want of memory says nothing of the texts
pub memory_refused : (Allowed : Program → Type 0) (t : Texts) → IsRefusal Allowed t Faults.NoMemory
memory_refused Allowed t = record { says = tt; none = λ numbered. let bad : true ≡ false = numbered.0 in cc; unread = λ read. absurd read; memory = tt }
