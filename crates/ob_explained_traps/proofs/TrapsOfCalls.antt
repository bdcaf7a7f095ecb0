-- What is printed of the calls of a script on an object is what is told of them.
use Rattle.std.proofs.Common.{◌≡◌, ◌∙◌, refl, ap, sym, subst, ℕ, List, [], ◌∷◌, All, length, map, Option, Some, None}
use Rattle.std.proofs.lemmas.List.{length-map}
use Rattle.std.proofs.lemmas.List.Elements.{All-cons, All-nil}
use Rattle.ob_checked.specs.Exports.{signatures}
use Rattle.ob_explained.specs.Sources.{Source}
use Rattle.ob_grammar.specs.Texts.{IsTextOf}
use Rattle.ob_grammar.specs.Tree
use Rattle.ob_interface.specs.Call.{ObjectCall}
use Rattle.ob_interface.specs.Export.{CallFits}
use Rattle.ob_code_correct.specs.CodeMeaning.{EngineParts}
use Rattle.ob_mean.specs.Sequences.{replies_to}
use Rattle.ob_object_compile.proofs.Openings.{module_resolved}
use Rattle.ob_object_compile.specs.Asked.{Asked}
use Rattle.ob_object_compile.specs.Compilation.{IsCompilation, ObjectParts}
use Rattle.ob_object_calls.proofs.Named.{replies_same}
use Rattle.ob_meaning.specs.ByPositionObject.{effect}
use Rattle.ob_meaning.specs.ByPositionStore.{Activation}
use Rattle.ob_text_scripts.specs.Script.{IsScript}
use Rattle.ob_text_words.specs.ScriptCalls.{ScriptCall, object_call, script_call_of}
use Rattle.ob_text_words.specs.declared.script_call.ScriptCall as Declared
use Rattle.ob_trap_places.proofs.PlacedCalls.{call_placed}
use Rattle.ob_trap_places.specs.Places.{place_of}
use Rattle.ob_trap_places.proofs.Sited.{length-sites, numbers_answered}
use Rattle.ob_trap_places.specs.Sequence.{sites_from}
use Rattle.ob_trap_places.specs.TrapOfCall.{site_of_call, trap_of}
use Rattle.ob_trap_places.specs.Site.{Site}
use Rattle.ob_typing.specs.Declarations.{WellTyped}
use Rattle.ob_typing.specs.Program.{Program}
use Rattle.ob_explained_traps.specs.CallLines.{call_lines}
use Rattle.ob_explained_traps.specs.NamedCalls.{OfScript}
use Rattle.ob_explained_traps.specs.TrapLines.{Setting, or_none, traps_lines}
use Rattle.ob_explained_traps.specs.TrapPlaces.{IsPlaced}
use Rattle.ob_explained_traps.specs.ScriptTraps.{IsTrapsText, traps_text}

one_placed : (tree : Tree.Module) (found : Option Site) → ((site : Site) → found ≡ Some site → (place : ℕ) × (place_of tree site ≡ Some place)) → IsPlaced tree found
one_placed tree None h = tt
one_placed tree (Some site) h = h site refl

pub each_placed : (tree : Tree.Module) (program : Program) → WellTyped tree program → (budget : ℕ) (state : Activation) (calls : List ObjectCall) →
    All (IsPlaced tree) (sites_from program budget state calls)
each_placed tree program typed budget state [] = All-nil (IsPlaced tree)
each_placed tree program typed budget state (call ∷ calls) =
    let after = (effect program call budget state).state in
    All-cons (IsPlaced tree) (site_of_call program call budget state) (sites_from program budget after calls)
    (one_placed tree (site_of_call program call budget state) (λ site e. call_placed tree program call budget state site typed e))
    (each_placed tree program typed budget after calls)

pub all_told : (name : List ℕ) (a : Asked) (script : Source) (object : ObjectParts) (calls : List ScriptCall) (output : List ℕ) →
    IsCompilation a object → ((other : Tree.Module) → IsTextOf a.text other → other ≡ object.tree) →
    IsScript (signatures object.program) a.processes script.text calls → All (λ c. CallFits (signatures object.program) (object_call c)) calls →
    output ≡ traps_text (record { name = name; text = a.text }) script object calls → IsTrapsText name a script output
all_told name a script object calls output compiled one_tree read fit printed =
    let program = object.program in
    let good = module_resolved a.text program compiled.is_module in
    let typed = subst (λ (t : Tree.Module). WellTyped t program) (one_tree compiled.is_module.tree compiled.is_module.text_of) compiled.is_module.typed in
    let asked = map object_call calls in
    let budget_is : object.engine.budget ≡ a.budget = ap (λ (e : EngineParts). e.budget) compiled.engine_is in
    let named = replies_same program good object_call a.budget calls fit compiled.opens.state object.opening compiled.opens.same in
    record {
      object = object;
      calls = calls;
      compiled = compiled;
      read = read;
      trapped =
          numbers_answered program object.engine.budget object.opening asked
          ∙ ap (λ (b : ℕ). map trap_of (replies_to program b object.opening asked)) budget_is ∙ ap (map trap_of) (sym named);
      placed = each_placed object.tree program typed object.engine.budget object.opening asked;
      printed = printed;
    }

-- ---- from the parts of a call of `traps_told` to the text

processes_in : (xs : List Declared.ScriptCall) → map (λ c. c.process) (map script_call_of xs) ≡ map (λ c. c.process) xs
processes_in [] = refl
processes_in (x ∷ xs) = ap (λ ps. x.process ∷ ps) (processes_in xs)

asked_in : (xs : List Declared.ScriptCall) → map object_call (map script_call_of xs) ≡ map (λ c. object_call (script_call_of c)) xs
asked_in [] = refl
asked_in (x ∷ xs) = ap (λ cs. object_call (script_call_of x) ∷ cs) (asked_in xs)

module _ (text script : Source) (object : ObjectParts) (xs : List Declared.ScriptCall) where
  abbrev setting_with : Tree.Module → (callers numbers : List ℕ) → (budget : ℕ) → Setting
  setting_with tree callers numbers budget = record { object = text; tree = tree; calls = OfScript script.name callers numbers; budget = budget }

  pub lines_of_calls : (tree : Tree.Module) (program : Program) (budget : ℕ) (opening : Activation) (callers numbers : List ℕ) (asked : List ObjectCall) (sites : List (Option Site)) (told : List ℕ) →
      tree ≡ object.tree → program ≡ object.program → budget ≡ object.engine.budget → opening ≡ object.opening → callers ≡ map (λ c. c.process) xs →
      asked ≡ map (λ c. object_call (script_call_of c)) xs → numbers ≡ call_lines script.text → sites ≡ sites_from program budget opening asked →
      told ≡ or_none (traps_lines (setting_with tree callers numbers budget) sites) → told ≡ traps_text text script object (map script_call_of xs)
  lines_of_calls tree program budget opening callers numbers asked sites told of_tree of_program of_budget of_opening of_callers of_asked of_numbers of_sites is =
      let b = object.engine.budget in
      let found = of_sites ∙ ap (λ p. sites_from p budget opening asked) of_program ∙ ap (λ (k : ℕ). sites_from object.program k opening asked) of_budget
      ∙ ap (λ s. sites_from object.program b s asked) of_opening ∙ ap (sites_from object.program b object.opening) (of_asked ∙ sym (asked_in xs)) in
      let named = of_callers ∙ sym (processes_in xs) in
      let processes = map (λ c. c.process) (map script_call_of xs) in
      is
      ∙ ap or_none
      (ap (λ t. traps_lines (setting_with t callers numbers budget) sites) of_tree
      ∙ ap (λ (k : ℕ). traps_lines (setting_with object.tree callers numbers k) sites) of_budget
      ∙ ap (λ ps. traps_lines (setting_with object.tree ps numbers b) sites) named
      ∙ ap (λ ns. traps_lines (setting_with object.tree processes ns b) sites) of_numbers
      ∙ ap (traps_lines (setting_with object.tree processes (call_lines script.text) b)) found)

-- there are as many sites as calls
pub sites_long : {A : Type 0} (view : A → Option Site) (found : List A) (program : Program) (budget : ℕ) (opening : Activation) (asked : List ObjectCall) (n : ℕ) →
    map view found ≡ sites_from program budget opening asked → length asked ≡ n → length found ≡ n
sites_long view found program budget opening asked n of_sites long =
    sym (length-map found view) ∙ ap length of_sites ∙ length-sites program budget opening asked ∙ long

pub callers_long : (callers : List ℕ) (xs : List Declared.ScriptCall) → callers ≡ map (λ c. c.process) xs → length callers ≡ length xs
callers_long callers xs is = ap length is ∙ length-map xs (λ c. c.process)

pub asked_long : (asked : List ObjectCall) (xs : List Declared.ScriptCall) → asked ≡ map (λ c. object_call (script_call_of c)) xs → length asked ≡ length xs
asked_long asked xs is = ap length is ∙ length-map xs (λ c. object_call (script_call_of c))
