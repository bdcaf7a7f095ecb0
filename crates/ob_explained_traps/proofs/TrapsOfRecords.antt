-- What is printed of the calls of a record's order is what is told of them, by position and by name.
use Rattle.std.proofs.Common.{◌≡◌, ◌∙◌, ℕ, List, [], ◌∷◌, All, ap, map, refl, subst, sym}
use Rattle.ob_checked.specs.Exports.{signatures}
use Rattle.ob_explained.specs.Sources.{Source}
use Rattle.ob_explained_traps.proofs.Begun.{begun_fit}
use Rattle.ob_explained_traps.proofs.TrapsOfCalls.{each_placed}
use Rattle.ob_explained_traps.specs.RecordTraps.{IsRecordTrapsText, IsToldOf}
use Rattle.ob_grammar.specs.Texts.{IsTextOf}
use Rattle.ob_grammar.specs.Tree
use Rattle.ob_interface.specs.Call.{ObjectCall}
use Rattle.ob_interface.specs.Export.{CallFits}
use Rattle.ob_mean.specs.Sequences as Positions
use Rattle.ob_meaning.specs.ByNameObject as Named
use Rattle.ob_meaning.specs.ByPositionStore.{Activation}
use Rattle.ob_meaning.specs.Resolved.{IsResolved}
use Rattle.ob_meaning.specs.Same.{SameState}
use Rattle.ob_object_calls.proofs.Beginnings.{beginning_named, record_opened}
use Rattle.ob_object_calls.proofs.Named.{replies_same}
use Rattle.ob_object_calls.proofs.Openings.{module_resolved}
use Rattle.ob_object_calls.proofs.VerifyFitting.{calls_fit}
use Rattle.ob_trap_places.proofs.Sited.{numbers_answered}
use Rattle.ob_trap_places.specs.TrapOfCall.{trap_of}
use Rattle.ob_typing.specs.ModuleText.{IsModule}
use Rattle.ob_typing.specs.Program.{Program}

same_calls : (calls : List ObjectCall) → map (λ c. c) calls ≡ calls
same_calls [] = refl
same_calls (call ∷ calls) = ap (λ cs. call ∷ cs) (same_calls calls)

-- the replies by name are those by position
replies_alike : (program : Program) → IsResolved program → (budget : ℕ) (calls : List ObjectCall) → All (λ c. CallFits (signatures program) c) calls →
    (state : Named.State) (activation : Activation) → SameState program state activation →
    Named.replies_to program budget state calls ≡ Positions.replies_to program budget activation calls
replies_alike program good budget calls fit state activation same =
    ap (Named.replies_to program budget state) (sym (same_calls calls))
    ∙ replies_same program good (λ c. c) budget calls fit state activation same
    ∙ ap (Positions.replies_to program budget activation) (same_calls calls)

pub record_told : (object : Source) (record_text output : List ℕ) (tree : Tree.Module) (program : Program) (is_module : IsModule object.text program) →
    ((other : Tree.Module) → IsTextOf object.text other → other ≡ tree) → IsToldOf object tree program record_text output →
    IsRecordTrapsText object record_text output
record_told object record_text output tree program is_module one_tree found =
    let good = module_resolved object.text program is_module in
    let told = subst (λ (m : Tree.Module). IsToldOf object m program record_text output) (sym (one_tree is_module.tree is_module.text_of)) found in
    let opened = record_opened program record_text told.tells told.is_record in
    let s = beginning_named program good told.tells.carried opened told.opening told.begins in
    let fit = begun_fit program told.tells.events (calls_fit program record_text told.tells told.is_record) told.tells.order told.calls told.begun in
    record {
      program = program;
      is_module = is_module;
      told = told;
      state = s.0;
      begins = s.1;
      same = s.2;
      trapped =
          numbers_answered program told.tells.budget told.opening told.calls
          ∙ ap (map trap_of) (sym (replies_alike program good told.tells.budget told.calls fit s.0 told.opening s.2));
      placed = each_placed is_module.tree program is_module.typed told.tells.budget told.opening told.calls;
    }
