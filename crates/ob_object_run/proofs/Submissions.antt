-- What the scripts submit to a process, and the acts behind a beginning of a schedule.
use Rattle.std.proofs.Common.{◌≡◌, ℕ, ◌<◌, Bool, true, false, List, [], ◌∷◌, ◌++◌, map, refl, sym, ap, ◌∙◌, arith, cond, eqb, subst, append_assoc}
use Rattle.std.specs.List.{AllByRecursion, filter}
use Rattle.std.proofs.lemmas.Bool.{eq-eqb}
use Rattle.ob_interface.specs.Call.{ObjectCall}
use Rattle.ob_object_run.specs.OwnCalls.{calls_by}
use Rattle.wf_table.specs.declared.schedule.Turns.{Turns}
use Rattle.wf_table.specs.Runs.{Act, ActsFit, Steps, performed, submissions, turns}
use Rattle.wf_table.specs.Schedule.{steps_of}
use Rattle.wf_theorems.specs.FirstCalls.{submitted}

none_submitted : (p : ℕ) (ps : List ℕ) → submitted p (turns ps) ≡ []
none_submitted p [] = refl
none_submitted p (k ∷ ps) = none_submitted p ps

by_owner : (b : Bool) (c : ℕ × ObjectCall) (scripts : List (ℕ × ObjectCall)) (calls : List ObjectCall) → calls ≡ map (λ c. c.1) scripts → cond b (c.1 ∷ calls) calls ≡ map (λ c. c.1) (cond b (c ∷ scripts) scripts)
by_owner true c scripts calls rest = ap (λ (l : List ObjectCall). c.1 ∷ l) rest
by_owner false c scripts calls rest = rest

-- the scripts submit to a process its calls
pub submitted_by : (p : ℕ) (scripts : List (ℕ × ObjectCall)) (ps : List ℕ) → submitted p (submissions scripts ++ turns ps) ≡ calls_by p scripts
submitted_by p [] ps = none_submitted p ps
submitted_by p (c ∷ scripts) ps = by_owner (eqb c.0 p) c (filter (λ x. eqb x.0 p) scripts) (submitted p (submissions scripts ++ turns ps)) (submitted_by p scripts ps)

-- where there is one process, all calls are its own
pub all_calls : (scripts : List (ℕ × ObjectCall)) → AllByRecursion (λ c. c.0 < 1) scripts → calls_by 0 scripts ≡ map (λ c. c.1) scripts
all_calls [] h = refl
all_calls (c ∷ scripts) h =
    ap (λ (b : Bool). map (λ c. c.1) (cond b (c ∷ filter (λ x. eqb x.0 0) scripts) (filter (λ x. eqb x.0 0) scripts))) (eq-eqb c.0 0 (omega (arith, h.0)))
    ∙ ap (λ (l : List ObjectCall). c.1 ∷ l) (all_calls scripts h.1)

turns-append : (ps qs : List ℕ) → turns (ps ++ qs) ≡ turns ps ++ turns qs
turns-append [] qs = refl
turns-append (p ∷ ps) qs = ap (λ (acts : List Act). Steps p ∷ acts) (turns-append ps qs)

-- the acts up to here, and those behind
pub acts_split : (scripts : List (ℕ × ObjectCall)) (schedule : List Turns) (first rest : List ℕ) → steps_of schedule ≡ first ++ rest → performed scripts schedule ≡ (submissions scripts ++ turns first) ++ turns rest
acts_split scripts schedule first rest split =
    ap (λ (ps : List ℕ). submissions scripts ++ turns ps) split
    ∙ ap (λ (acts : List Act). submissions scripts ++ acts) (turns-append first rest)
    ∙ sym (append_assoc (submissions scripts) (turns first) (turns rest))

-- those of two pieces of a schedule
pub two_pieces : (scripts : List (ℕ × ObjectCall)) (first piece : List ℕ) → submissions scripts ++ turns (first ++ piece) ≡ (submissions scripts ++ turns first) ++ turns piece
two_pieces scripts first piece = ap (λ (acts : List Act). submissions scripts ++ acts) (turns-append first piece) ∙ sym (append_assoc (submissions scripts) (turns first) (turns piece))

fit_first : (fits : ObjectCall → Type 0) (acts more : List Act) → ActsFit fits (acts ++ more) → ActsFit fits acts
fit_first fits [] more h = tt
fit_first fits (act ∷ acts) more h = (h.0, fit_first fits acts more h.1)

-- what fits in all acts fits in a beginning of them
pub fits_first : (fits : ObjectCall → Type 0) (all acts more : List Act) → all ≡ acts ++ more → ActsFit fits all → ActsFit fits acts
fits_first fits all acts more split h = fit_first fits acts more (subst (ActsFit fits) split h)
