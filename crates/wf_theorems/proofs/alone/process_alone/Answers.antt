use Rattle.std.proofs.Common.{List, arith, subst}
use Rattle.std.proofs.lemmas.List.Elements.{recursion_from_All}
use Rattle.wf_history.specs.declared.event.CallId.{CallId}
use Rattle.wf_table.specs.Below.{IdBelow}
use Rattle.wf_table.proofs.TableRuns.{run_sound}
use Rattle.wf_theorems.specs.FirstCalls.{AreFirstCalls, submitted}
use Rattle.wf_theorems.proofs.FirstOnes.{all_own, first_calls}
use Rattle.wf_theorems.proofs.alone.process_alone.Goals as goal

pub returns : goal.returns
returns g c = λ e opening acts s leads.
    let i = g.E.Engine in
    let law = g.met.E.Engine.law e in
    let sound = run_sound (i.meaning e) (i.lawful e) (i.fits e) (i.ready e) (i.effect e) law 1 opening acts s leads in
    subst (λ (ids : List CallId). AreFirstCalls 0 (submitted 0 acts) s.records.history ids) (all_own s.records.order (recursion_from_All (IdBelow 1) s.records.order sound.below.order))
    (first_calls (i.meaning e) (i.lawful e) (i.fits e) (i.ready e) (i.effect e) law 1 opening acts s leads 0 (omega arith))
