-- A compilation, from what its parts are.
use Rattle.std.proofs.Common.{◌≡◌, ℕ, ◌<◌, ◌≤◌, Bool, refl, subst, sym}
use Rattle.ob_code_correct.specs.CodeMeaning.{EngineParts}
use Rattle.ob_code_correct.specs.Compiled.{parts_of}
use Rattle.ob_layout.specs.Layout.{LayoutParts, layout_of}
use Rattle.ob_grammar.specs.Texts.{IsTextOf}
use Rattle.ob_grammar.specs.Tree
use Rattle.ob_interface.specs.Processes.{most_processes}
use Rattle.ob_meaning.specs.ByNameObject.{most_turns}
use Rattle.ob_object_compile.specs.Asked.{Asked, is_carried}
use Rattle.ob_object_compile.specs.Compilation.{IsObjectOf, ObjectParts}
use Rattle.ob_object_compile.specs.CompilationParts.{BeginsByPosition}
use Rattle.ob_object_compile.proofs.Openings.{begins_named, module_resolved}
use Rattle.ob_meaning.specs.ByPositionStore.{Activation}
use Rattle.ob_typing.specs.ModuleText.{IsModule}
use Rattle.ob_typing.specs.Program.{Program}

module _ (Allowed : Program → Type 0) (a : Asked) (tree : Tree.Module) (program : Program) (layout : LayoutParts) (engine : EngineParts) (opening : Activation) (carried : Bool) where
  abbrev the_parts : ObjectParts
  the_parts = record { processes = a.processes; tree = tree; program = program; layout = layout; engine = engine; opening = opening; carried = carried }

  -- what is known of the parts
  pub record ArePartsOf : Type 0 where
    pub some : 0 < a.processes
    pub few : a.processes ≤ most_processes
    pub within : a.budget ≤ most_turns
    pub tree_is : IsTextOf a.text tree
    pub is_module : IsModule a.text program
    pub layout_is : layout ≡ layout_of program
    pub allowed : Allowed program
    pub engine_is : engine ≡ parts_of program a.budget
    pub begins : BeginsByPosition a.beginning program opening
    pub carried_is : carried ≡ is_carried a.beginning

  -- an object has these parts
  pub record HasParts (o : ObjectParts) : Type 0 where
    pub processes : o.processes ≡ a.processes
    pub tree_is : o.tree ≡ tree
    pub program_is : o.program ≡ program
    pub layout_is : o.layout ≡ layout
    pub engine_is : o.engine ≡ engine
    pub opening_is : o.opening ≡ opening
    pub carried_is : o.carried ≡ carried

  of_parts : ArePartsOf → IsObjectOf Allowed a the_parts
  of_parts h = record {
    some = h.some;
    few = h.few;
    processes = refl;
    within = h.within;
    tree_is = h.tree_is;
    is_module = h.is_module;
    layout_is = h.layout_is;
    allowed = h.allowed;
    engine_is = h.engine_is;
    opens = begins_named program (module_resolved a.text program h.is_module) a.beginning opening h.begins;
    carried_is = h.carried_is;
  }

  same_parts : (o : ObjectParts) → HasParts o → o ≡ the_parts
  same_parts o h i = record {
    processes = h.processes i;
    tree = h.tree_is i;
    program = h.program_is i;
    layout = h.layout_is i;
    engine = h.engine_is i;
    opening = h.opening_is i;
    carried = h.carried_is i;
  }

  pub compilation : (o : ObjectParts) → HasParts o → ArePartsOf → IsObjectOf Allowed a o
  compilation o is h = subst (IsObjectOf Allowed a) (sym (same_parts o is)) (of_parts h)
