-- Scripts: what each line says, of calls on the exports of a module by so many processes.
use Rattle.std.specs.Prelude.{◌≡◌, ℕ, ◌-◌, ◌<◌, ◌≤◌, List, [], ◌∷◌, map, take, slice_get, Some, None}
use Rattle.ob_interface.specs.declared.scalar.Scalar.{Scalar}
use Rattle.ob_interface.specs.Export.{Signature, value_types}
use Rattle.ob_text_words.specs.ScriptCalls.{ScriptCall}
use Rattle.ob_text_words.specs.Words.{Word, IsName, IsProcess, lines, words}
use Rattle.ob_text_words.specs.Values.{AreValues}
use Rattle.ob_text_words.specs.ExportNames.{export_named}
use Rattle.ob_text_scripts.specs.declared.script.ScriptFault.{ScriptFault}
use Rattle.ob_text_scripts.specs.declared.script.ScriptFault.TheVariants as Faults

-- a line with nothing to say: no word, or a first word that begins with `#`
pub data IsSkipped : List Word → Type 0 where
  blank : IsSkipped []
  comment : {word : Word} {ws : List Word} → IsSkipped ((35 ∷ word) ∷ ws)

-- the exports of a module, and how many processes there are
module _ (signatures : List Signature) (processes : ℕ) where
  -- a line that makes a call: process, procedure, value arguments
  pub data Makes : List Word → ScriptCall → Type 0 where
    makes : {first name : Word} {rest : List Word} {p n : ℕ} {signature : Signature} {arguments : List Scalar} →
        IsProcess first p → p < processes → IsName name →
        export_named signatures name ≡ Some (n, signature) → AreValues (value_types signature.formals) rest arguments →
        Makes (first ∷ name ∷ rest) (record { process = p; export = n; arguments = arguments })

  -- lines, with the calls that they make
  pub data AreLines : List (List Word) → List ScriptCall → Type 0 where
    none : AreLines [] []
    skipped : {line : List Word} {rest : List (List Word)} {calls : List ScriptCall} →
        IsSkipped line → AreLines rest calls → AreLines (line ∷ rest) calls
    call : {line : List Word} {rest : List (List Word)} {c : ScriptCall} {calls : List ScriptCall} →
        Makes line c → AreLines rest calls → AreLines (line ∷ rest) (c ∷ calls)

  -- a text is a script of these calls
  abbrev pub IsScript : List ℕ → List ScriptCall → Type 0
  IsScript text calls = AreLines (map words (lines text)) calls

  -- faults of a line that isn't skipped

  -- no process, or no name behind it
  pub data HasNoForm : List Word → Type 0 where
    no_process : {first : Word} {rest : List Word} → ((p : ℕ) → IsProcess first p → ⊥) → HasNoForm (first ∷ rest)
    no_second : {first : Word} → HasNoForm (first ∷ [])
    no_name : {first name : Word} {rest : List Word} → (IsName name → ⊥) → HasNoForm (first ∷ name ∷ rest)

  -- a process that there isn't
  pub data HasNoProcess : List Word → Type 0 where
    past : {first name : Word} {rest : List Word} {p : ℕ} →
        IsProcess first p → IsName name → processes ≤ p → HasNoProcess (first ∷ name ∷ rest)

  -- a name of no export
  pub data HasNoExport : List Word → Type 0 where
    unknown : {first name : Word} {rest : List Word} {p : ℕ} →
        IsProcess first p → p < processes → IsName name → export_named signatures name ≡ None →
        HasNoExport (first ∷ name ∷ rest)

  -- arguments that don't fit
  pub data HasBadArguments : List Word → Type 0 where
    differ : {first name : Word} {rest : List Word} {p n : ℕ} {signature : Signature} →
        IsProcess first p → p < processes → IsName name → export_named signatures name ≡ Some (n, signature) →
        ((arguments : List Scalar) → AreValues (value_types signature.formals) rest arguments → ⊥) →
        HasBadArguments (first ∷ name ∷ rest)

  -- the text says these calls and no others
  abbrev pub IsOnlyScript : List ℕ → List ScriptCall → Type 0
  IsOnlyScript text calls = (others : List ScriptCall) → IsScript text others → others ≡ calls

  -- the line of this number, from 1, has this fault, and the lines before it are fine
  pub record FailsAtLine (text : List ℕ) (number : ℕ) (IsFault : List Word → Type 0) : Type 0 where
    pub line : List Word
    pub counted : 1 ≤ number
    pub here : slice_get (map words (lines text)) (number - 1) ≡ Some line
    pub says : IsSkipped line → ⊥
    pub fails : IsFault line
    pub calls : List ScriptCall
    pub before : AreLines (take (number - 1) (map words (lines text))) calls

  abbrev pub FaultStands : List ℕ → ScriptFault → Type 0
  FaultStands text (Faults.Form line) = FailsAtLine text line HasNoForm
  FaultStands text (Faults.Procedure line) = FailsAtLine text line HasNoExport
  FaultStands text (Faults.Arguments line) = FailsAtLine text line HasBadArguments
  FaultStands text (Faults.Process line) = FailsAtLine text line HasNoProcess
  FaultStands text Faults.NoMemory = Unit {0}

  abbrev pub SaysNone : ScriptFault → Type 0
  SaysNone Faults.NoMemory = ⊥
  SaysNone _ = Unit {0}

  -- the fault stands at its line, and the text is no script
  pub record IsScriptFault (text : List ℕ) (fault : ScriptFault) : Type 0 where
    pub stands : FaultStands text fault
    pub none : SaysNone fault → (calls : List ScriptCall) → IsScript text calls → ⊥
