-- What is drawn where variables go by their positions is what is drawn by their names.
use Rattle.std.proofs.Common.{ℕ, ◌+◌, List, Option, Some, None, take}
use Rattle.ob_meaning.specs.Resolved.{IsResolved}
use Rattle.ob_meaning.specs.Same.{SameState}
use Rattle.ob_code_correct.proofs.Named.{names_simulate, positions_simulate}
use Rattle.ob_code_correct.specs.Carried.{BegunFit}
use Rattle.ob_code_correct.specs.Compiled.{Fits}
use Rattle.ob_code_correct.specs.Named.{CallMeans}
use Rattle.ob_interface.specs.Call.{ObjectCall, Reply}
use Rattle.ob_meaning.specs.ByNameObject.{State}
use Rattle.ob_object_run.specs.LegalOrder.{CallEnds}
use Rattle.ob_object_search.proofs.Crossing.{has_named, has_placed}
use Rattle.ob_object_search.proofs.Fitting.{calls_fit, front_fits, history_opened}
use Rattle.ob_object_search.specs.Searched.{budget_of}
use Rattle.ob_object_draw.specs.HistoryPictures.{HasPicture, HasRangeFault}
use Rattle.ob_object_draw.specs.Parts.{IsShown, ShowsPart}
use Rattle.ob_object_calls.proofs.Beginnings.{beginning_named, beginning_placed}
use Rattle.ob_object_calls.proofs.Simulated.{legal_there}
use Rattle.ob_object_calls.specs.Beginnings.{BeginsNamed, BeginsPlaced}
use Rattle.ob_meaning.specs.ByPositionStore.{Activation}
use Rattle.ob_picture_chart.specs.declared.charts.CallRange.{CallRange}
use Rattle.ob_picture_chart.specs.declared.fault.PictureFault.{PictureFault}
use Rattle.ob_typing.specs.Program.{Program}
use Rattle.wf_history.specs.History.{Event}
use Rattle.wf_history.specs.declared.event.CallId.{CallId}

module _ (program : Program) (good : IsResolved program) where
  -- a state by position is one by name
  abbrev IsNamed : Activation → State → Type 0
  IsNamed activation state = SameState program state activation

  abbrev IsPlaced : State → Activation → Type 0
  IsPlaced state activation = SameState program state activation

  module _ (budget : ℕ) (activation : Activation) (state : State) (is : SameState program state activation) (events : List (Event ObjectCall Reply)) (fit : BegunFit (Fits program) events) where
    shown_named : (count : ℕ) (order : List CallId) (ceases : Option CallId) → IsShown (CallEnds program budget) activation events count order ceases →
        IsShown (CallMeans program budget) state events count order ceases
    shown_named count order None s =
        let l = legal_there (Fits program) IsNamed (CallEnds program budget) (CallMeans program budget) (names_simulate program budget good) events order fit activation state is s.0 s.1 in
        (l.end, l.legal, s.2)
    shown_named count order (Some id) s =
        let l = legal_there (Fits program) IsNamed (CallEnds program budget) (CallMeans program budget) (names_simulate program budget good) (take s.place events) order
        (front_fits program events s.place fit) activation state is s.last s.legal in
        record {
          place = s.place;
          reply = s.reply;
          ends = s.ends;
          behind = s.behind;
          last = l.end;
          legal = l.legal;
          none = λ h. s.none (has_placed program good budget activation state is (take (s.place + 1) events) (front_fits program events (s.place + 1) fit) h);
        }

    -- and the other way round
    shown_placed : (count : ℕ) (order : List CallId) (ceases : Option CallId) → IsShown (CallMeans program budget) state events count order ceases →
        IsShown (CallEnds program budget) activation events count order ceases
    shown_placed count order None s =
        let l = legal_there (Fits program) IsPlaced (CallMeans program budget) (CallEnds program budget) (positions_simulate program budget good) events order fit state activation is s.0 s.1 in
        (l.end, l.legal, s.2)
    shown_placed count order (Some id) s =
        let l = legal_there (Fits program) IsPlaced (CallMeans program budget) (CallEnds program budget) (positions_simulate program budget good) (take s.place events) order
        (front_fits program events s.place fit) state activation is s.last s.legal in
        record {
          place = s.place;
          reply = s.reply;
          ends = s.ends;
          behind = s.behind;
          last = l.end;
          legal = l.legal;
          none = λ h. s.none (has_named program good budget activation state is (take (s.place + 1) events) (front_fits program events (s.place + 1) fit) h);
        }

  module _ (text : List ℕ) (asked : Option ℕ) where
    part_named : (count : ℕ) (order : List CallId) (ceases : Option CallId) → ShowsPart BeginsPlaced CallEnds program text asked count order ceases → ShowsPart BeginsNamed CallMeans program text asked count order ceases
    part_named count order ceases p =
        let t = p.start.tells in
        let o = beginning_named program good t.carried (history_opened program text t p.start.is_history) p.start.opening p.start.begins in
        record {
          start = record { tells = t; is_history = p.start.is_history; opening = o.0; begins = o.1 };
          few = p.few;
          shown = shown_named (budget_of asked t.budget) p.start.opening o.0 o.2 t.events (calls_fit program text t p.start.is_history) count order ceases p.shown;
        }

    pub part_placed : (count : ℕ) (order : List CallId) (ceases : Option CallId) → ShowsPart BeginsNamed CallMeans program text asked count order ceases → ShowsPart BeginsPlaced CallEnds program text asked count order ceases
    part_placed count order ceases p =
        let t = p.start.tells in
        let o = beginning_placed program good t.carried p.start.opening p.start.begins in
        record {
          start = record { tells = t; is_history = p.start.is_history; opening = o.0; begins = o.1 };
          few = p.few;
          shown = shown_placed (budget_of asked t.budget) o.0 p.start.opening o.2 t.events (calls_fit program text t p.start.is_history) count order ceases p.shown;
        }

    pub picture_named : (calls : Option CallRange) (output : List ℕ) → HasPicture BeginsPlaced CallEnds program text asked calls output → HasPicture BeginsNamed CallMeans program text asked calls output
    unfolding part_named
    picture_named calls output p =
        record { count = p.count; order = p.order; ceases = p.ceases; part = part_named p.count p.order p.ceases p.part; drawn = p.drawn }

    pub range_named : (calls : Option CallRange) (e : PictureFault) → HasRangeFault BeginsPlaced CallEnds program text asked calls e → HasRangeFault BeginsNamed CallMeans program text asked calls e
    unfolding part_named
    range_named calls e p =
        record { count = p.count; order = p.order; ceases = p.ceases; part = part_named p.count p.order p.ceases p.part; fails = p.fails }
