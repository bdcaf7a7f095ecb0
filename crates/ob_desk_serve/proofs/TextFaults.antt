-- What is said with the faults of serving texts, from what is said with those of its parts.
use Rattle.std.proofs.Common.{◌≡◌, ℕ, List, arith}
use Rattle.ob_desk_serve.specs.Rounds.{Hears, Says}
use Rattle.ob_object_compile.specs.Asked.{Asked}
use Rattle.ob_object_compile.specs.Compilation.{IsShort, ObjectParts}
use Rattle.ob_object_perform.specs.Performance as Performs
use Rattle.ob_object_perform.specs.declared.performing.PerformFault.{PerformFault}
use Rattle.ob_object_perform.specs.declared.performing.PerformFault.TheVariants as Perform
use Rattle.ob_desk_serve.specs.ServeFaults.{IsServeFault}
use Rattle.ob_desk_serve.specs.declared.fault.ServeFault.{ServeFault}
use Rattle.ob_desk_serve.specs.declared.fault.ServeFault.TheVariants as Serve
use Rattle.ob_desk_serve.specs.PromisesOfServeTexts.{AreReadCalls, IsOfTexts, IsServeRefusal, IsServeTextFault, IsUngatedRefusal, TellsMemoryApart, calls_texts, of_serve, of_texts}
use Rattle.ob_desk_serve.specs.declared.serving_texts.ServeTextFault.TheVariants as Faults
use Rattle.ob_text_words.specs.ScriptCalls.{ScriptCall}

module _ (passes refuses : Says) (hears : Hears) (limit : ℕ) (a : Asked) (scripts : List ℕ) where
  -- ---- of the texts

  texts_say : (e : PerformFault) → Performs.IsFaultOf IsShort (calls_texts a scripts) e → IsServeTextFault passes refuses hears limit a scripts (of_texts e)
  texts_say (Perform.Compile e) h = h
  texts_say (Perform.Script e) h = h
  texts_say (Perform.Schedule e) h = h
  texts_say (Perform.TooLong number) h = h
  texts_say Perform.NoMemory h = tt

  texts_own : (e : PerformFault) → IsOfTexts (of_texts e) → Performs.IsOfTexts e
  texts_own (Perform.Compile e) h = h
  texts_own (Perform.Script e) h = h
  texts_own (Perform.Schedule e) h = h
  texts_own (Perform.TooLong number) h = h
  texts_own Perform.NoMemory h = absurd h

  texts_apart : (e : PerformFault) → Performs.TellsMemoryApart e → TellsMemoryApart (of_texts e)
  texts_apart (Perform.Compile e) h = (h, λ bad. cc)
  texts_apart (Perform.Script e) h = (h, λ bad. cc)
  texts_apart (Perform.Schedule e) h = (h, λ bad. cc)
  texts_apart (Perform.TooLong number) h = (h, λ bad. cc)
  texts_apart Perform.NoMemory h = tt

  pub texts_refused : (e : PerformFault) → Performs.IsRefusal IsShort (calls_texts a scripts) e → IsServeRefusal passes refuses hears limit a scripts (of_texts e)
  texts_refused e h = record { says = texts_say e h.says; unread = λ own. h.unread (texts_own e own); memory = texts_apart e h.memory }

  -- ---- of the workers

  serve_says : (o : ObjectParts) (calls : List ScriptCall) → AreReadCalls a scripts o calls → (e : ServeFault) → IsServeFault passes refuses hears limit o calls e → IsServeTextFault passes refuses hears limit a scripts (of_serve e)
  serve_says o calls read (Serve.NotStarted p) h = record { object = o; calls = calls; read = read; fails = h }
  serve_says o calls read Serve.NoMemory h = tt
  serve_says o calls read (Serve.Refused p) h = record { object = o; calls = calls; read = read; fails = h }
  serve_says o calls read (Serve.Lost p) h = record { object = o; calls = calls; read = read; fails = h }
  serve_says o calls read (Serve.Close e) h = record { object = o; calls = calls; read = read; fails = h }

  not_of_texts : (e : ServeFault) → IsOfTexts (of_serve e) → ⊥
  not_of_texts (Serve.NotStarted p) h = h
  not_of_texts Serve.NoMemory h = h
  not_of_texts (Serve.Refused p) h = h
  not_of_texts (Serve.Lost p) h = h
  not_of_texts (Serve.Close e) h = h

  serve_apart : (e : ServeFault) → TellsMemoryApart (of_serve e)
  serve_apart (Serve.NotStarted p) = λ bad. cc
  serve_apart Serve.NoMemory = tt
  serve_apart (Serve.Refused p) = λ bad. cc
  serve_apart (Serve.Lost p) = λ bad. cc
  serve_apart (Serve.Close e) = λ bad. cc

  pub serve_refused : (o : ObjectParts) (calls : List ScriptCall) → AreReadCalls a scripts o calls → (e : ServeFault) → IsServeFault passes refuses hears limit o calls e → IsServeRefusal passes refuses hears limit a scripts (of_serve e)
  serve_refused o calls read e h = record { says = serve_says o calls read e h; unread = λ own. absurd (not_of_texts e own); memory = serve_apart e }

  -- ---- no memory

  pub memory_refused : IsServeRefusal passes refuses hears limit a scripts Faults.NoMemory
  memory_refused = record { says = tt; unread = λ own. absurd own; memory = tt }

-- a gate that never refuses has no V1
pub not_refused : (a : Asked) (scripts : List ℕ) (p : ℕ) → IsUngatedRefusal a scripts (Faults.Serve (Serve.Refused p)) → ⊥
not_refused a scripts p h = h.says.fails.1.1 0 (omega arith)
