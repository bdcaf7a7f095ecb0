-- What is told before a text is read, where it is too long.
use Rattle.std.proofs.Common.{◌≡◌, ◌<◌, ◌≤◌, ◌⊎◌, ℕ, List, Result, Ok, Err, length, inl, inr, subst, sym, arith, refl}
use Rattle.std.proofs.lemmas.Bool.{cases_lt}
use Rattle.ob_answer_explained.specs.CommandTexts.{of_text}
use Rattle.ob_answer_explained.proofs.Beginnings.{beginning, of_whole, of_whole_or_long}
use Rattle.ob_object_compile.specs.Asked.{Asked, TellsAtOnce, too_long}
use Rattle.ob_object_compile.specs.Compilation as Compiles
use Rattle.ob_object_compile.specs.Compilation.{IsObjectFault}
use Rattle.ob_object_compile.specs.declared.compiling.CompileFault.{CompileFault}
use Rattle.ob_object_compile.specs.declared.compiling.CompileFault.TheVariants as Compile
use Rattle.ob_object_perform.specs.Performance as Performs
use Rattle.ob_object_perform.specs.Texts.{Texts}
use Rattle.ob_object_perform.specs.declared.performing.PerformFault.TheVariants as Perform
use Rattle.ob_object_calls.specs.SequentialRun.{IsSeqRefusal}
use Rattle.ob_object_calls.specs.declared.sequential.SeqTextFault.TheVariants as Runs
use Rattle.ob_scan.specs.ScanFaults.{IsScanFault}
use Rattle.ob_scan.specs.declared.fault.ScanFault.TheVariants as Scan
use Rattle.ob_typing.specs.ModuleText.{IsModule}
use Rattle.ob_typing.specs.Program.{Program}

-- a text that is too long
pub too_long_scan : (text : List ℕ) → 65536 < length text → IsScanFault text Scan.TooLong
too_long_scan text long = record { stands = long; none = λ says. absurd says }

-- it is no module
pub no_module : (text : List ℕ) → 65536 < length text → (program : Program) → IsModule text program → ⊥
no_module text longer program m =
    let short = m.short in
    omega arith

-- what is told of it, whatever it says
pub data IsAtOnce (a : Asked) : CompileFault → Type 0 where
  of_processes : (a.processes ≡ 0) ⊎ (16 < a.processes) → IsAtOnce a Compile.Processes
  of_budget : 1000000 < a.budget → IsAtOnce a Compile.Budget
  of_text_itself : 65536 < length a.text → IsAtOnce a too_long

record Told (a : Asked) (Tells : CompileFault → Type 0) : Type 0 where
  fault : CompileFault
  at_once : IsAtOnce a fault
  tells : Tells fault

told_of_budget : (a : Asked) (Tells : CompileFault → Type 0) → TellsAtOnce a Tells → 65536 < length a.text → 0 < a.processes → a.processes ≤ 16 → Told a Tells
told_of_budget a Tells tells long some few =
    elim (cases_lt 1000000 a.budget) [
      | inl much ↦ record { fault = Compile.Budget; at_once = of_budget much; tells = tells.budget some few much }
      | inr within ↦ record { fault = too_long; at_once = of_text_itself long; tells = tells.long some few within long }
    ]

told_at_once : (a : Asked) (Tells : CompileFault → Type 0) → TellsAtOnce a Tells → 65536 < length a.text → Told a Tells
told_at_once a Tells tells long =
    elim (cases_lt 0 a.processes) [
      | inr none ↦
          let is : a.processes ≡ 0 = omega (arith, none) in
          record { fault = Compile.Processes; at_once = of_processes (inl is); tells = tells.processes (inl is) }
      | inl some ↦
          elim (cases_lt 16 a.processes) [
            | inl many ↦ record { fault = Compile.Processes; at_once = of_processes (inr many); tells = tells.processes (inr many) }
            | inr few ↦ told_of_budget a Tells tells long some few
          ]
    ]

-- the same is told of a longer text
of_longer : (a : Asked) (whole : List ℕ) (c : CompileFault) → 65536 < length whole → IsAtOnce a c → IsAtOnce (of_text a whole) c
of_longer a whole c longer (of_processes h) = of_processes h
of_longer a whole c longer (of_budget h) = of_budget h
of_longer a whole c longer (of_text_itself h) = of_text_itself longer

-- ---- where something is told of a text all the same, it is not too long: what holds of the beginning holds of the whole text

not_refused : {T F : Type 0} (x : T) (e : F) → Ok x ≡ Err e → ⊥
not_refused x e is = let bad = is in cc

pub holds_of_whole : {T F : Type 0} (compiling : CompileFault → F) (a : Asked) (P : List ℕ → Type 0) (x : T) (whole : List ℕ)
    → a.text ≡ beginning whole → TellsAtOnce a (λ c. Ok x ≡ Err (compiling c)) → P a.text → P whole
holds_of_whole compiling a P x whole is tells h =
    of_whole P a.text whole is (λ long. let told = told_at_once a _ tells long in not_refused x (compiling told.fault) told.tells) h

-- ---- and a fault of the beginning is one of the whole text

fault_of : {T F : Type 0} (e f : F) → ◌≡◌ {A = Result T F} (Err e) (Err f) → e ≡ f
fault_of e f is = let same = is in cc

pub refused_of_whole : {T F : Type 0} (compiling : CompileFault → F) (a : Asked) (R : List ℕ → F → Type 0) (e : F) (whole : List ℕ)
    → a.text ≡ beginning whole → TellsAtOnce a (λ c. ◌≡◌ {A = Result T F} (Err e) (Err (compiling c)))
    → ((c : CompileFault) → 65536 < length whole → IsAtOnce (of_text a whole) c → R a.text (compiling c) → R whole (compiling c))
    → R a.text e → R whole e
refused_of_whole compiling a R e whole is tells longer_is h =
    of_whole_or_long (λ t. R t e) a.text whole is
    (λ long longer.
    let told = told_at_once a _ tells long in
    let same = fault_of e (compiling told.fault) told.tells in
    subst (R whole) (sym same) (longer_is told.fault longer (of_longer a whole told.fault longer told.at_once) (subst (R a.text) same h)))
    h

-- ---- what is said with such a fault

at_once_says : (Allowed : Program → Type 0) (a : Asked) (c : CompileFault) → IsAtOnce a c → IsObjectFault Allowed a c
at_once_says Allowed a c (of_processes h) = h
at_once_says Allowed a c (of_budget h) = h
at_once_says Allowed a c (of_text_itself h) = too_long_scan a.text h

pub at_once_numbered : (a : Asked) (c : CompileFault) → IsAtOnce a c → Compiles.IsNumbered c
at_once_numbered a c (of_processes h) = (refl, tt)
at_once_numbered a c (of_budget h) = (refl, tt)
at_once_numbered a c (of_text_itself h) = (refl, (refl, λ is. let bad = is in cc))

run_numbered : (a : Asked) (c : CompileFault) → IsAtOnce a c → Performs.TellsMemoryApart (Perform.Compile c)
run_numbered a c (of_processes h) = (tt, λ is. let bad = is in cc)
run_numbered a c (of_budget h) = (tt, λ is. let bad = is in cc)
run_numbered a c (of_text_itself h) = ((refl, λ is. let bad = is in cc), λ is. let bad = is in cc)

pub object_refused : (Allowed : Program → Type 0) (a : Asked) (c : CompileFault) → 65536 < length a.text → IsAtOnce a c → Compiles.IsRefusal Allowed a c
object_refused Allowed a c longer at_once = record {
  says = at_once_says Allowed a c at_once;
  none = λ _ o compiled. no_module a.text longer o.program compiled.is_module;
  memory = (at_once_numbered a c at_once).1;
}

pub calls_refused : (a : Asked) (script : List ℕ) (c : CompileFault) → 65536 < length a.text → IsAtOnce a c → IsSeqRefusal a script (Runs.Compile c)
calls_refused a script c longer at_once = record {
  says = at_once_says Compiles.IsShort a c at_once;
  none = λ _ output run. no_module a.text longer run.object.program run.compiled.is_module;
  memory = at_once_numbered a c at_once;
}

pub run_refused : (Allowed : Program → Type 0) (t : Texts) (c : CompileFault) → 65536 < length t.asked.text → IsAtOnce t.asked c
    → Performs.IsRefusal Allowed t (Perform.Compile c)
run_refused Allowed t c longer at_once = record {
  says = at_once_says Allowed t.asked c at_once;
  none = λ _ r run. no_module t.asked.text longer run.object.program run.compiled.is_module;
  unread = λ _ o calls items compiled calls_are items_are. no_module t.asked.text longer o.program compiled.is_module;
  memory = run_numbered t.asked c at_once;
}
