-- The rows with one event more.
use Rattle.std.proofs.Common.{◌≡◌, refl, set, ◌<◌, ◌++◌, ◌∷◌, [], List, map, sym, subst, arith, ◌∙◌, vec_len}
use Rattle.std.proofs.lemmas.List.{length-map}
use Rattle.std.proofs.lemmas.Result.{on_ok_weaker}
use Rattle.ob_interface.specs.Call.{ObjectCall, Reply}
use Rattle.wf_history.specs.declared.event.CallId.{CallId}
use Rattle.wf_history.specs.History.{Event, Applied, IsHistory}
use Rattle.wf_history.specs.View.{event_of}
use Rattle.wf_order.specs.declared.rows.Begun.{Begun}
use Rattle.wf_order.specs.declared.rows.Ended.{Ended}
use Rattle.wf_order.specs.Rows.{AreNoted, row_of}
use Rattle.wf_lookup.specs.Beginnings.{IsOfProcesses}
use Rattle.wf_order.proofs.Noting.{noted_begin, noted_end, noted_other}
use Rattle.wf_order.proofs.rows.note.Goals as goal

abbrev begun_more : List (List Begun) → CallId → Begun → List (List Begun)
begun_more begun id b = set begun id.process (row_of begun id.process ++ b ∷ [])

abbrev ended_more : List (List Ended) → CallId → Ended → List (List Ended)
ended_more ended id e = set ended id.process (row_of ended id.process ++ e ∷ [])

pub returns-in-Begin : goal.returns-in-Begin
returns-in-Begin c = λ history processes whole place h.
    let begun = map (λ row. row.items) c.args.begun.now.items in
    let ended = map (λ row. row.items) c.args.ended.now.items in
    let id = c.in-Begin.id in
    let b : Begun = record { call = c.in-Begin.call; place = c.args.place } in
    let within : id.process < vec_len c.args.begun.now = subst (λ (e : Event ObjectCall Reply). IsOfProcesses (vec_len c.args.begun.now) e) (sym c.in-Begin.ensures) c.requires.begun in
    let size : vec_len c.args.begun.now ≡ processes = c.args.begun.now.ok.0 ∙ sym (length-map c.args.begun.now.items (λ row. row.items)) ∙ h.begun_count in
    let few : id.process < processes = omega (arith, within, size) in
    on_ok_weaker c.push_at.result
    (λ pushed.
    subst (λ (rows : List (List Begun)). AreNoted (history ++ event_of c.args.event.now ∷ []) processes rows ended) (sym pushed)
    (subst (λ (e : Event ObjectCall Reply). AreNoted (history ++ e ∷ []) processes (begun_more begun id b) ended) c.in-Begin.ensures
    (noted_begin history processes begun ended h id b few place
    (subst (λ (e : Event ObjectCall Reply). IsHistory (history ++ e ∷ [])) (sym c.in-Begin.ensures) whole))))
    c.push_at.ensures

pub returns-in-Applied : goal.returns-in-Applied
returns-in-Applied c = λ history processes whole place h.
    subst (λ (e : Event ObjectCall Reply). AreNoted (history ++ e ∷ []) processes (map (λ row. row.items) c.args.begun.now.items) (map (λ row. row.items) c.args.ended.now.items)) c.in-Applied.ensures
    (noted_other history (Applied c.in-Applied.field-0.now) processes (map (λ row. row.items) c.args.begun.now.items) (map (λ row. row.items) c.args.ended.now.items) (λ p. refl) (λ p. refl) h)

pub returns-in-End : goal.returns-in-End
returns-in-End c = λ history processes whole place h.
    let begun = map (λ row. row.items) c.args.begun.now.items in
    let ended = map (λ row. row.items) c.args.ended.now.items in
    let id = c.in-End.id in
    let x : Ended = record { reply = c.in-End.reply; place = c.args.place } in
    let within : id.process < vec_len c.args.ended.now = subst (λ (e : Event ObjectCall Reply). IsOfProcesses (vec_len c.args.ended.now) e) (sym c.in-End.ensures) c.requires.ended in
    let size : vec_len c.args.ended.now ≡ processes = c.args.ended.now.ok.0 ∙ sym (length-map c.args.ended.now.items (λ row. row.items)) ∙ h.ended_count in
    let few : id.process < processes = omega (arith, within, size) in
    on_ok_weaker c.push_at-in-End.result
    (λ pushed.
    subst (λ (rows : List (List Ended)). AreNoted (history ++ event_of c.args.event.now ∷ []) processes begun rows) (sym pushed)
    (subst (λ (e : Event ObjectCall Reply). AreNoted (history ++ e ∷ []) processes begun (ended_more ended id x)) c.in-End.ensures
    (noted_end history processes begun ended h id x few place
    (subst (λ (e : Event ObjectCall Reply). IsHistory (history ++ e ∷ [])) (sym c.in-End.ensures) whole))))
    c.push_at-in-End.ensures
