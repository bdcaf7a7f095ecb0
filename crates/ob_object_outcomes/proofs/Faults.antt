-- What is said with each fault of the texts and of an exploration.
use Rattle.std.proofs.Common.{◌≡◌, ℕ, List, Option, refl}
use Rattle.ob_object_compile.specs.Asked.{Asked}
use Rattle.ob_object_outcomes.specs.OutcomesFaults.{HasMany, IsFaultHere, IsOutcomesFault, of_exploring, of_texts}
use Rattle.ob_object_outcomes.specs.Scripted.{ScriptedParts}
use Rattle.ob_object_calls.specs.SequentialRun.{IsSeqRefusal}
use Rattle.ob_object_calls.specs.declared.sequential.SeqTextFault.{SeqTextFault}
use Rattle.ob_object_calls.specs.declared.sequential.SeqTextFault.TheVariants as Seq
use Rattle.ob_text_words.specs.Words.{Word}
use Rattle.wf_outcomes.specs.declared.exploring.ExploreFault.{ExploreFault}
use Rattle.wf_outcomes.specs.declared.exploring.ExploreFault.TheVariants as Explore

pub texts_told : (a : Asked) (script : List ℕ) (asked : Option Word) (most : ℕ) (e : SeqTextFault) → IsSeqRefusal a script e → IsOutcomesFault a script asked most (of_texts e)
texts_told a script asked most (Seq.Compile e) h = (h, λ same. cc)
texts_told a script asked most (Seq.Script e) h = (h, λ same. cc)
texts_told a script asked most Seq.NoMemory h = tt

pub exploring_told : (s : ScriptedParts) (asked : Option Word) (most : ℕ) (e : ExploreFault) → (e ≡ Explore.TooMany → HasMany s asked most) → IsFaultHere s asked most (of_exploring e)
exploring_told s asked most Explore.TooMany h = h refl
exploring_told s asked most Explore.NoMemory h = tt
