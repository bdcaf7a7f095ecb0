-- The engine over a tree stands for that of the object; and a run over the tree of a module that has code is one over the code.
use Rattle.std.proofs.Common.{◌≡◌, ◌∙◌, ℕ, ap, subst, sym}
use Rattle.ob_code_correct.specs.CodeMeaning.{EngineParts}
use Rattle.ob_code_correct.specs.Compiled.{parts_of}
use Rattle.ob_object_compile.specs.Asked.{Asked}
use Rattle.ob_object_compile.specs.Compilation.{IsAny, IsObjectOf, IsShort, ObjectParts}
use Rattle.ob_object_compile.specs.Sound.{IsSoundObject}
use Rattle.ob_object_perform.specs.Performance.{IsTreePerformance}
use Rattle.ob_object_perform.specs.Texts.{Texts}
use Rattle.ob_text_record.specs.Record.{Record}
use Rattle.ob_object_perform.specs.TreeRuns.{IsOfCode}
use Rattle.ob_typing.specs.ModuleText.{IsModule}
use Rattle.ob_typing.specs.Program.{Program}

-- an engine that was made of the object's module and budget
pub engine_is : (o : ObjectParts) → IsSoundObject o → (parts : EngineParts) (program : Program) (budget : ℕ) → parts ≡ parts_of program budget → program ≡ o.program → budget ≡ o.engine.budget → parts ≡ o.engine
engine_is o sound parts program budget made program_is budget_is =
    made ∙ ap (λ (q : Program). parts_of q budget) program_is ∙ ap (λ (k : ℕ). parts_of o.program k) budget_is ∙ sym sound.engine_is

-- an object over the tree is one over code where that is short enough
abbrev short_of : (a : Asked) (o : ObjectParts) → IsObjectOf IsAny a o → IsShort o.program → IsObjectOf IsShort a o
short_of a o h short = record {
  some = h.some;
  few = h.few;
  processes = h.processes;
  within = h.within;
  tree_is = h.tree_is;
  is_module = h.is_module;
  layout_is = h.layout_is;
  allowed = short;
  engine_is = h.engine_is;
  opens = h.opens;
  carried_is = h.carried_is;
}

-- where a text has one program
pub of_code : (t : Texts) (q : Program) → ((other : Program) → IsModule t.asked.text other → other ≡ q) → (r : Record) → IsTreePerformance t r → IsOfCode t r
of_code t q alone r p program is short = record {
  object = p.object;
  compiled = short_of t.asked p.object p.compiled (subst IsShort (alone program is ∙ sym (alone p.object.program p.compiled.is_module)) short);
  calls = p.calls;
  calls_are = p.calls_are;
  items = p.items;
  items_are = p.items_are;
  shows = p.shows;
  legal = p.legal;
}
