-- The texts of a run.
use Rattle.std.specs.Prelude.{ℕ, List}
use Rattle.ob_object_compile.specs.Asked.{Asked}
use Rattle.ob_object_compile.specs.View.{asked_of}
use Rattle.ob_object_perform.specs.declared.run_texts.Texts as Rust

-- what object is asked for, the scripts of its calls, and the schedule
pub record Texts : Type 0 where
  pub asked : Asked
  pub scripts : List ℕ
  pub schedule : List ℕ

abbrev pub texts_of : Rust.Texts → Texts
texts_of t = record { asked = asked_of t.asked; scripts = t.scripts.now; schedule = t.schedule.now }

-- of an object that is asked for so
abbrev pub run_texts : Asked → (scripts schedule : List ℕ) → Texts
run_texts asked scripts schedule = record { asked = asked; scripts = scripts; schedule = schedule }
