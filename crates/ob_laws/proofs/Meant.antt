-- Each merge of calls by name is one by position and one by words, which the machine shows; and what it shows is legal by name.
use Rattle.std.proofs.Common.{◌≡◌, ◌∙◌, ℕ, List, [], Some, Option, None, get_or, refl, sym, ap, subst}
use Rattle.std.specs.Prelude.{ℤ, slice_get}
use Rattle.std.proofs.Math.Logic.{∥∥₁_map}
use Rattle.std.proofs.lemmas.Option.{slice_get_within, get_or_from_slice_get}
use Rattle.ob_meaning.specs.Resolved.{IsResolved}
use Rattle.ob_meaning.specs.Same.{SameState}
use Rattle.ob_code_correct.specs.Carried.{IsOfState, Simulates, WordsCarryLegal}
use Rattle.ob_code_correct.specs.Compiled.{parts_of, engine_of, body_limit, Fits, HasReserve, IsLawfulBlock, IsEffect, CallEnds}
use Rattle.ob_code_correct.specs.Named.{CallMeans}
use Rattle.ob_code_correct.proofs.CodeLaw.{called_effect, code_lawful, effect_called, scripts_end}
use Rattle.ob_code_correct.proofs.Named.{positions_carry, positions_simulate}
use Rattle.ob_code_machine.specs.Body.{Run}
use Rattle.ob_code_scheme.specs.Layout.{encoded, IsEncoding}
use Rattle.ob_code_scheme.specs.WellFormed.{IsWellFormed}
use Rattle.ob_interface.specs.Call.{ObjectCall}
use Rattle.ob_meaning.specs.ByNameObject as Named
use Rattle.ob_meaning.specs.ByPositionObject.{Effect, effect}
use Rattle.ob_meaning.specs.ByPositionStore.{Activation}
use Rattle.ob_typing.specs.Program.{Program}
use Rattle.wf_history.specs.declared.event.CallId.{CallId}
use Rattle.wf_history.specs.Legal.{HasBegun, IsLegal}
use Rattle.wf_outcomes.specs.Merges.{Leads, start, full}
use Rattle.wf_table.specs.Each.{Each}
use Rattle.wf_table.specs.Object.{State, script_by, script_of}
use Rattle.wf_table.specs.Runs.{submissions}
use Rattle.wf_table.specs.Scripts.{CallsFit}
use Rattle.wf_table.specs.StepTable.{Process}
use Rattle.wf_table.proofs.TableRuns.{run_sound}
use Rattle.wf_outcome_laws.specs.Shown.{scripts_in}
use Rattle.wf_outcome_laws.proofs.Merged.{one_last}
use Rattle.wf_outcome_laws.proofs.Shows.{every_merge}
use Rattle.wf_outcome_laws.proofs.Submitting.{calls_fit}
use Rattle.ob_laws.specs.Meant.{CodeShowsMerges, IsCodeRun, ShowsMeant}
use Rattle.ob_laws.proofs.Carried.{leads_there}

script_fits : {A : Type 0} (fits : ObjectCall → Type 0) (o : Option (Process A)) → ((q : Process A) → o ≡ Some q → CallsFit fits q) →
    (k : ℕ) (call : ObjectCall) → slice_get (script_by o) k ≡ Some call → fits call
script_fits fits None h k call is = absurd (cc)
script_fits fits (Some q) h k call is =
    subst fits (get_or_from_slice_get q.calls k call (record { export = 0; arguments = [] }) is) ((h q refl).fit k (slice_get_within q.calls k call is))

module _ (words_carry : WordsCarryLegal) (program : Program) (budget n : ℕ) (well : IsWellFormed program) (resolved : IsResolved program) where
  -- a state by position and its words
  abbrev IsWords : Activation → List ℤ → Type 0
  IsWords state block = IsOfState program block state

  words_simulate : Simulates (Fits program) IsWords (CallEnds program budget) (IsEffect program budget)
  words_simulate call here after there reply fit is does =
      let e = called_effect program budget well call here there fit is in
      let words = (effect_called program budget call here there (encoded (effect program call budget here).state) (effect program call budget here).reply is e).1 in
      record {
        next = encoded after;
        ends = subst (λ (x : Effect). IsEffect program budget call there (encoded x.state) x.reply) does e;
        is = subst (λ (x : Effect). IsEncoding program.variables x.state (encoded x.state)) does words;
      }

  abbrev IsPlaced : Named.State → Activation → Type 0
  IsPlaced state placed = SameState program state placed

  module _ (opening last : Named.State) (placed : Activation) (block : List ℤ) (calls : List (ℕ × ObjectCall)) (s : State Run) (order : List CallId) (same : SameState program opening placed) (encodes : IsEncoding program.variables placed block)
      (r : IsCodeRun program budget n block (submissions calls) s) (leads : Leads (CallMeans program budget) (scripts_in s) (start (CallMeans program budget) (scripts_in s) opening) order (full (CallMeans program budget) (scripts_in s) last)) where
    all_fit : Each (λ _ q. CallsFit (Fits program) q) s.processes
    all_fit = (run_sound (engine_of program budget) (IsLawfulBlock program) (Fits program) (HasReserve (parts_of program budget)) (IsEffect program budget) (code_lawful program budget well) n block (submissions calls) s r).calls_fit

    each : (p k : ℕ) (call : ObjectCall) → slice_get (get_or (scripts_in s) p []) k ≡ Some call → Fits program call
    each p k call at = calls_fit (Fits program) s all_fit p k call at

    shown : ∥ ShowsMeant program budget n opening last block (submissions calls) s order ∥₁
    shown =
        let scripts = scripts_in s in
        let by_place = leads_there (Fits program) IsPlaced (CallMeans program budget) (CallEnds program budget) (positions_simulate program budget resolved) scripts each leads placed same in
        let by_words = leads_there (Fits program) IsWords (CallEnds program budget) (IsEffect program budget) words_simulate scripts each by_place.leads block encodes in
        let ends = scripts_end program budget well (script_of s) block (λ p k call at. script_fits (Fits program) (slice_get s.processes p) (λ q there. all_fit p q there) k call at) r.opens in
        ∥∥₁_map (every_merge (engine_of program budget) (IsLawfulBlock program) (Fits program) (HasReserve (parts_of program budget)) (IsEffect program budget) (code_lawful program budget well)
        n (body_limit program budget) block by_words.last calls s order r ends by_words.leads) (λ shows.
        let history = shows.after.records.history in
        let begun : (id : CallId) (call : ObjectCall) → HasBegun history id call → Fits program call = λ id call h. each id.process _ call (shows.alone.run.begins id call h).1 in
        let there = words_carry program budget history order block by_words.last placed begun encodes shows.alone.legal in
        let named = positions_carry program budget resolved history order placed there.end opening begun same there.legal in
        let is : named.end ≡ last = one_last (CallMeans program budget) scripts (λ _. Unit {0}) (λ _. Unit {0})
        (λ before after other call reply another ok fit does so. ap (λ (e : Named.Effect). e.state) (sym does ∙ so))
        (λ before after call reply ok fit does. tt) (λ p k call at. tt)
        opening last named.end order history tt leads shows.alone.run named.legal in
        record {
          placed = by_place.last;
          same = by_place.is;
          words = by_words.last;
          encodes = by_words.is;
          shows = shows;
          legal = subst (λ (x : Named.State). IsLegal (CallMeans program budget) opening history order x) is named.legal;
        })

pub code_shows : WordsCarryLegal → CodeShowsMerges
code_shows words_carry program budget n well resolved opening last placed block calls s order same encodes r leads = shown words_carry program budget n well resolved opening last placed block calls s order same encodes r leads
