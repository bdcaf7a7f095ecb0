-- What holds of every run of an object over a lawful engine, and is used here.
use Rattle.std.proofs.Common.{◌++◌, List, refl, sym, subst}
use Rattle.std.specs.Prelude.{ℤ}
use Rattle.ob_interface.specs.Call.{ObjectCall}
use Rattle.wf_table.specs.Law.{Effects, IsLawful}
use Rattle.wf_table.specs.Meaning.{Meaning}
use Rattle.wf_table.specs.Runs.{Act, ActsFit, run}
use Rattle.wf_table.specs.Start.{sizes_of}
use Rattle.wf_table.proofs.TableRuns.{run_sound}
use Rattle.wf_table.specs.declared.spent.Spent.{Spent}
use Rattle.wf_table.specs.Limit.{IsWithinLimit}
use Rattle.wf_table.proofs.Calls.{call_is_counted, stands_last}
use Rattle.wf_table.proofs.Limits.{run_limited}
use Rattle.wf_table.proofs.BoundRuns.{run_within}
use Rattle.wf_table.proofs.Legal.{run_legal}
use Rattle.wf_theorems.specs.Bodies.{EveryRunIsSound}
use Rattle.wf_theorems.specs.Limits.{EveryRunStaysBelow, OwnStepsAreLimited}
use Rattle.wf_theorems.specs.Replies.{EveryOrderIsLegal}
use Rattle.wf_theorems.proofs.Ends.{run_ends}

pub record Laws {Run : Type 0} (m : Meaning Run) (lawful : List ℤ → Type 0) (fits : ObjectCall → Type 0) (ready : Run → Type 0) (Effect : Effects) : Type 0 where
  pub sound : EveryRunIsSound m lawful fits ready
  pub legal : EveryOrderIsLegal m lawful fits ready Effect
  pub limited : OwnStepsAreLimited m lawful fits ready
  pub below : EveryRunStaysBelow m lawful fits ready Effect

module _ {Run : Type 0} (m : Meaning Run) (lawful : List ℤ → Type 0) (fits : ObjectCall → Type 0) (ready : Run → Type 0) (Effect : Effects) (law : IsLawful m lawful fits ready Effect) where
  every_sound : EveryRunIsSound m lawful fits ready
  every_sound n opening acts s r = run_sound m lawful fits ready Effect law n opening acts s r

  every_limited : OwnStepsAreLimited m lawful fits ready
  every_limited n limit opening first acts s p last r below one =
      let z = sizes_of m n in
      let sound = λ (more : List Act) (fit : ActsFit fits more). every_sound n opening more (run m z more r.start) (record { some = r.some; few = r.few; opens = r.opens; fit = fit; start = r.start; begins = r.begins; leads = refl }) in
      let bound = run_within m z fits (first ++ acts) r.start (sound (first ++ acts) r.fit).sized (λ more fit. (sound more fit).in_range) r.fit (λ k q at. (r.begins.idle k q at).label) in
      let within = run_limited m z limit (first ++ acts) r.start (λ k q at. (r.begins.idle k q at).label) below bound in
      subst (λ (x : Spent). IsWithinLimit z limit x) (sym (call_is_counted m z first acts r.start p last one)) (within p last (stands_last m z first acts r.start p last one))

  pub laws_of : Laws m lawful fits ready Effect
  laws_of = record {
    sound = every_sound;
    legal = λ n opening acts s r. run_legal m lawful fits ready Effect law n opening acts s r;
    limited = every_limited;
    below = λ n limit opening acts s r all. run_ends m lawful fits ready Effect law n limit opening acts s r all;
  }
