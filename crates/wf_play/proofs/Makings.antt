-- The processes found step by step are the makers of the events.
use Rattle.std.proofs.Common.{◌≡◌, ℕ, zero, suc, ◌+◌, ◌<◌, ◌⊎◌, List, [], ◌∷◌, ◌++◌, Bool, true, false, cond, length, replicate, take, refl, sym, ap, ◌∙◌, arith, subst, inl, inr, append_assoc, append-nil, length-append}
use Rattle.std.specs.Prelude.{ℤ, Option, Some, None, nat_lt, slice_get}
use Rattle.std.proofs.lemmas.Bool.Decides.{nat_tests}
use Rattle.std.proofs.lemmas.List.{replicate-append-replicate}
use Rattle.ob_interface.specs.Call.{ObjectCall, Reply}
use Rattle.wf_history.proofs.Positions.{place_push, take_next}
use Rattle.wf_history.specs.History.{Event}
use Rattle.wf_object.specs.InARow.{AreQuiet, after_steps}
use Rattle.wf_object.specs.Quiet.{is_quiet}
use Rattle.wf_object.specs.View.{Object}
use Rattle.wf_play.specs.Played.{IsSameObject}
use Rattle.wf_play.proofs.Ends.{same_quiet, same_steps}
use Rattle.wf_play.proofs.Items.{step_first, steps_run}
use Rattle.wf_play.proofs.Plays.{submitted_records}
use Rattle.wf_table.specs.Start.{IsStart, sizes_of}
use Rattle.wf_play.specs.Makers.{AreMakers, AreMakersOf, Shows, maker_at, makers_in}
use Rattle.wf_table.specs.declared.process.Label.{Label}
use Rattle.wf_table.specs.declared.process.Label.TheVariants.{Next, Commit, Give}
use Rattle.wf_table.specs.declared.process.Sizes.{Sizes}
use Rattle.wf_table.specs.declared.schedule.Turns.{Turns}
use Rattle.wf_table.specs.Meaning.{Meaning}
use Rattle.wf_table.specs.Object.{Records, State, event_at, history_after, label_by, label_of, step_by, step_of}
use Rattle.wf_table.specs.Runs.{run, submissions, turns}
use Rattle.wf_table.specs.Schedule.{steps_of}
use Rattle.wf_table.specs.StepTable.{Process}

-- a step shows one event at most
one_event : (h : List (Event ObjectCall Reply)) (e : Option (Event ObjectCall Reply)) → (length (history_after h e) ≡ length h) ⊎ (length (history_after h e) ≡ length h + 1)
one_event h None = inl refl
one_event h (Some e) = inr (length-append h (e ∷ []))

module _ {Run : Type 0} (m : Meaning Run) (z : Sizes) where
  step_event : (s : State Run) (p : ℕ) (o : Option (Process Run)) → (length (step_by m z s p o).records.history ≡ length s.records.history) ⊎ (length (step_by m z s p o).records.history ≡ length s.records.history + 1)
  step_event s p None = inl refl
  step_event s p (Some q) = one_event s.records.history (event_at q.label m z s.cell s.processes p q)

  run_more : (ps qs : List ℕ) (s : State Run) → run m z (turns (ps ++ qs)) s ≡ run m z (turns qs) (run m z (turns ps) s)
  run_more [] qs s = refl
  run_more (p ∷ ps) qs s = run_more ps qs (step_of m z s p)

  makers_more : (ps qs : List ℕ) (s : State Run) → makers_in m z (ps ++ qs) s ≡ makers_in m z ps s ++ makers_in m z qs (run m z (turns ps) s)
  makers_more [] qs s = refl
  makers_more (p ∷ ps) qs s = ap (λ (xs : List ℕ). maker_at m z s p ++ xs) (makers_more ps qs (step_of m z s p)) ∙ sym (append_assoc (maker_at m z s p) (makers_in m z ps (step_of m z s p)) (makers_in m z qs (run m z (turns ps) (step_of m z s p))))

  -- one step more
  pub state_more : (ps : List ℕ) (p : ℕ) (s t u : State Run) → t ≡ run m z (turns ps) s → u ≡ step_of m z t p → u ≡ run m z (turns (ps ++ p ∷ [])) s
  state_more ps p s t u at step = step ∙ ap (λ (v : State Run). step_of m z v p) at ∙ sym (run_more ps (p ∷ []) s)

  pub makers_next : (ps : List ℕ) (p : ℕ) (s t : State Run) (before now later : List ℕ) → t ≡ run m z (turns ps) s → now ≡ before ++ makers_in m z ps s → later ≡ now ++ maker_at m z t p → later ≡ before ++ makers_in m z (ps ++ p ∷ []) s
  makers_next ps p s t before now later at so_far next =
      next ∙ ap (λ (xs : List ℕ). xs ++ maker_at m z t p) so_far ∙ append_assoc before (makers_in m z ps s) (maker_at m z t p)
      ∙ ap (λ (v : State Run). before ++ (makers_in m z ps s ++ maker_at m z v p)) at
      ∙ ap (λ (xs : List ℕ). before ++ (makers_in m z ps s ++ xs)) (sym (append-nil (maker_at m z (run m z (turns ps) s) p)))
      ∙ ap (λ (xs : List ℕ). before ++ xs) (sym (makers_more ps (p ∷ []) s))

  -- so many steps more
  pub state_later : (ps qs : List ℕ) (s t u : State Run) → t ≡ run m z (turns ps) s → u ≡ run m z (turns qs) t → u ≡ run m z (turns (ps ++ qs)) s
  state_later ps qs s t u at steps = steps ∙ ap (run m z (turns qs)) at ∙ sym (run_more ps qs s)

  pub makers_later : (ps qs : List ℕ) (s t : State Run) (before now later : List ℕ) → t ≡ run m z (turns ps) s → now ≡ before ++ makers_in m z ps s → later ≡ now ++ makers_in m z qs t → later ≡ before ++ makers_in m z (ps ++ qs) s
  makers_later ps qs s t before now later at so_far next =
      next ∙ ap (λ (xs : List ℕ). xs ++ makers_in m z qs t) so_far ∙ append_assoc before (makers_in m z ps s) (makers_in m z qs t)
      ∙ ap (λ (v : State Run). before ++ (makers_in m z ps s ++ makers_in m z qs v)) at ∙ ap (λ (xs : List ℕ). before ++ xs) (sym (makers_more ps qs s))

  -- quiet steps show nothing
  no_event : (l : Label) (s : State Run) (p : ℕ) (q : Process Run) → is_quiet l ≡ true → event_at l m z s.cell s.processes p q ≡ None
  no_event Next s p q is = absurd (cc)
  no_event Commit s p q is = absurd (cc)
  no_event Give s p q is = absurd (cc)
  no_event _ s p q is = refl

  same_history : (s : State Run) (p : ℕ) (o : Option (Process Run)) → is_quiet (label_by o) ≡ true → (step_by m z s p o).records.history ≡ s.records.history
  same_history s p None is = refl
  same_history s p (Some q) is = ap (history_after s.records.history) (no_event q.label s p q is)

  no_maker : (s : State Run) (p : ℕ) → is_quiet (label_of s p) ≡ true → maker_at m z s p ≡ []
  no_maker s p is =
      let same : length (step_of m z s p).records.history ≡ length s.records.history = ap length (same_history s p (slice_get s.processes p) is) in
      let test : nat_lt (length s.records.history) (length (step_of m z s p).records.history) ≡ false = grind (arith, nat_tests, same) in
      ap (λ (b : Bool). cond b (p ∷ []) []) test

  no_makers : (j : ℕ) (s : State Run) (p : ℕ) → AreQuiet m z p j s → makers_in m z (replicate j p) s ≡ []
  no_makers zero s p quiet = refl
  no_makers (suc j) s p quiet =
      ap (λ (xs : List ℕ). xs ++ makers_in m z (replicate j p) (step_of m z s p)) (no_maker s p (quiet 0 (omega arith)))
      ∙ no_makers j (step_of m z s p) p (λ i lt. ap (λ (t : State Run). is_quiet (label_of t p)) (step_first m z p i s) ∙ quiet (suc i) (omega (arith, lt)))

  as_run : (p j : ℕ) (s : State Run) → after_steps m z p j s ≡ run m z (turns (replicate j p)) s
  as_run p j s = sym (ap (λ (ps : List ℕ). run m z (turns ps) s) (sym (append-nil (replicate j p))) ∙ steps_run m z p j [] s)

  -- a shown event stays shown with more steps
  shows_more : (ps qs : List ℕ) (s : State Run) (place p : ℕ) → Shows m z ps s place p → Shows m z (ps ++ qs) s place p
  shows_more ps qs s place p h = record {
    first = h.first;
    rest = h.rest ++ qs;
    split = ap (λ (xs : List ℕ). xs ++ qs) h.split ∙ append_assoc h.first (p ∷ h.rest) qs;
    before = h.before;
    behind = h.behind;
  }

  -- what is found behind some steps whose makers are known
  found : (ps : List ℕ) (p : ℕ) (s : State Run) (makers : List ℕ) (b : Bool) → nat_lt (length (run m z (turns ps) s).records.history) (length (step_of m z (run m z (turns ps) s) p).records.history) ≡ b → AreMakers m z ps s makers →
      AreMakers m z (ps ++ p ∷ []) s (makers ++ cond b (p ∷ []) [])
  found ps p s makers true e h =
      let t = run m z (turns ps) s in
      let more : length t.records.history < length (step_of m z t p).records.history = grind (arith, nat_tests, e) in
      let grows : length (step_of m z t p).records.history ≡ length t.records.history + 1 = elim (step_event t p (slice_get t.processes p)) [ inl same ↦ absurd (omega (arith, more, same)) | inr one ↦ one ] in
      let counted : length (run m z (turns (ps ++ p ∷ [])) s).records.history ≡ length t.records.history + 1 = ap (λ (v : State Run). length v.records.history) (run_more ps (p ∷ []) s) ∙ grows in
      record {
        count = length-append makers (p ∷ []) ∙ ap (λ (k : ℕ). k + 1) h.count ∙ sym counted;
        shown = λ place q at. elim (place_push makers p place q at) [
          | inl old ↦ shows_more ps (p ∷ []) s place q (h.shown place q old)
          | inr new ↦
              subst (λ (k : ℕ). Shows m z (ps ++ p ∷ []) s k q) (sym (new.0 ∙ h.count))
              (subst (λ (k : ℕ). Shows m z (ps ++ p ∷ []) s (length t.records.history) k) new.1
              (record { first = ps; rest = []; split = refl; before = refl; behind = counted }))
        ];
      }
  found ps p s makers false e h =
      let t = run m z (turns ps) s in
      let no_more : (length t.records.history < length (step_of m z t p).records.history) → ⊥ = λ less. (let bad : false ≡ true = sym e ∙ grind (arith, nat_tests, less) in absurd (cc)) in
      let stays : length (step_of m z t p).records.history ≡ length t.records.history = elim (step_event t p (slice_get t.processes p)) [ inl same ↦ same | inr one ↦ absurd (no_more (omega (arith, one))) ] in
      record {
        count = ap length (append-nil makers) ∙ h.count ∙ sym (ap (λ (v : State Run). length v.records.history) (run_more ps (p ∷ []) s) ∙ stays);
        shown = λ place q at. shows_more ps (p ∷ []) s place q (h.shown place q (ap (λ (xs : List ℕ). slice_get xs place) (sym (append-nil makers)) ∙ at));
      }

  are_from : (ps qs : List ℕ) (s : State Run) (makers : List ℕ) → AreMakers m z ps s makers → AreMakers m z (ps ++ qs) s (makers ++ makers_in m z qs (run m z (turns ps) s))
  are_from ps [] s makers h = subst (λ (xs : List ℕ). AreMakers m z xs s (makers ++ [])) (sym (append-nil ps)) (subst (λ (xs : List ℕ). AreMakers m z ps s xs) (sym (append-nil makers)) h)
  are_from ps (q ∷ qs) s makers h =
      let t = run m z (turns ps) s in
      let next = found ps q s makers (nat_lt (length t.records.history) (length (step_of m z t q).records.history)) refl h in
      let later = are_from (ps ++ q ∷ []) qs s (makers ++ maker_at m z t q) next in
      let steps : (ps ++ q ∷ []) ++ qs ≡ ps ++ q ∷ qs = append_assoc ps (q ∷ []) qs in
      let rest : (makers ++ maker_at m z t q) ++ makers_in m z qs (run m z (turns (ps ++ q ∷ [])) s) ≡ makers ++ makers_in m z (q ∷ qs) t =
      append_assoc makers (maker_at m z t q) (makers_in m z qs (run m z (turns (ps ++ q ∷ [])) s)) ∙ ap (λ (v : State Run). makers ++ (maker_at m z t q ++ makers_in m z qs v)) (run_more ps (q ∷ []) s) in
      subst (λ (xs : List ℕ). AreMakers m z xs s (makers ++ makers_in m z (q ∷ qs) t)) steps
      (subst (λ (xs : List ℕ). AreMakers m z ((ps ++ q ∷ []) ++ qs) s xs) rest later)

  -- from a state where nothing was seen
  pub are_makers : (steps : List ℕ) (s : State Run) → length s.records.history ≡ 0 → AreMakers m z steps s (makers_in m z steps s)
  are_makers steps s nothing = are_from [] steps s [] (record { count = sym nothing; shown = λ place p at. absurd (cc) })

module _ {E Run : Type 0} (meaning : E → Meaning Run) where
  -- what holds of an object's engine and sizes holds of those of the same object
  abbrev same_run : (a b : Object E Run) (ps : List ℕ) (s u : State Run) → IsSameObject b a → u ≡ run (meaning b.engine) b.sizes (turns ps) s → u ≡ run (meaning a.engine) a.sizes (turns ps) s
  same_run a b ps s u same e = e ∙ ap (λ (x : E). run (meaning x) b.sizes (turns ps) s) same.engine ∙ ap (λ (y : Sizes). run (meaning a.engine) y (turns ps) s) same.sizes

  same_object : (a b d : Object E Run) → IsSameObject b a → IsSameObject d b → IsSameObject d a
  same_object a b d h k = record { engine = k.engine ∙ h.engine; sizes = k.sizes ∙ h.sizes; opening = k.opening ∙ h.opening }

  -- one turn more of a process
  pub turns_next : (a b d : Object E Run) (p k : ℕ) (before now later : List ℕ) → IsSameObject b a → b.state ≡ run (meaning a.engine) a.sizes (turns (replicate k p)) a.state → now ≡ before ++ makers_in (meaning a.engine) a.sizes (replicate k p) a.state →
      IsSameObject d b → d.state ≡ step_of (meaning b.engine) b.sizes b.state p → later ≡ now ++ maker_at (meaning b.engine) b.sizes b.state p →
      IsSameObject d a × (d.state ≡ run (meaning a.engine) a.sizes (turns (replicate (k + 1) p)) a.state) × (later ≡ before ++ makers_in (meaning a.engine) a.sizes (replicate (k + 1) p) a.state)
  turns_next a b d p k before now later same state so_far next step made =
      let m = meaning a.engine in
      let z = a.sizes in
      let longer : replicate k p ++ p ∷ [] ≡ replicate (k + 1) p = replicate-append-replicate k 1 p in
      let stepped : d.state ≡ step_of m z b.state p = step ∙ ap (λ (x : E). step_of (meaning x) b.sizes b.state p) same.engine ∙ ap (λ (y : Sizes). step_of m y b.state p) same.sizes in
      let maker : later ≡ now ++ maker_at m z b.state p = made ∙ ap (λ (x : E). now ++ maker_at (meaning x) b.sizes b.state p) same.engine ∙ ap (λ (y : Sizes). now ++ maker_at m y b.state p) same.sizes in (
        same_object a b d same next,
        state_more m z (replicate k p) p a.state b.state d.state state stepped ∙ ap (λ (ps : List ℕ). run m z (turns ps) a.state) longer,
        makers_next m z (replicate k p) p a.state b.state before now later state so_far maker ∙ ap (λ (ps : List ℕ). before ++ makers_in m z ps a.state) longer,
      )

  -- more turns of it that show nothing
  pub turns_quiet : (a b d : Object E Run) (p k j : ℕ) (before now : List ℕ) → IsSameObject b a → b.state ≡ run (meaning a.engine) a.sizes (turns (replicate k p)) a.state → now ≡ before ++ makers_in (meaning a.engine) a.sizes (replicate k p) a.state →
      IsSameObject d b → d.state ≡ after_steps (meaning b.engine) b.sizes p j b.state → AreQuiet (meaning b.engine) b.sizes p j b.state →
      IsSameObject d a × (d.state ≡ run (meaning a.engine) a.sizes (turns (replicate (k + j) p)) a.state) × (now ≡ before ++ makers_in (meaning a.engine) a.sizes (replicate (k + j) p) a.state)
  turns_quiet a b d p k j before now same state so_far next steps quiet =
      let m = meaning a.engine in
      let z = a.sizes in
      let longer : replicate k p ++ replicate j p ≡ replicate (k + j) p = replicate-append-replicate k j p in
      let stepped : d.state ≡ run m z (turns (replicate j p)) b.state = same_steps meaning a b d.state p j same steps ∙ as_run m z p j b.state in
      let none : makers_in m z (replicate j p) b.state ≡ [] = no_makers m z j b.state p (same_quiet meaning a b p j same quiet) in
      let made : now ≡ now ++ makers_in m z (replicate j p) b.state = sym (append-nil now) ∙ ap (λ (xs : List ℕ). now ++ xs) (sym none) in (
        same_object a b d same next,
        state_later m z (replicate k p) (replicate j p) a.state b.state d.state state stepped ∙ ap (λ (ps : List ℕ). run m z (turns ps) a.state) longer,
        makers_later m z (replicate k p) (replicate j p) a.state b.state before now now state so_far made ∙ ap (λ (ps : List ℕ). before ++ makers_in m z ps a.state) longer,
      )

  steps_more : (ts : List Turns) (t : Turns) → steps_of (ts ++ t ∷ []) ≡ steps_of ts ++ replicate t.count t.process
  steps_more [] t = append-nil (replicate t.count t.process)
  steps_more (x ∷ ts) t = ap (λ (ps : List ℕ). replicate x.count x.process ++ ps) (steps_more ts t) ∙ sym (append_assoc (replicate x.count x.process) (steps_of ts) (replicate t.count t.process))

  -- one run of turns more
  pub schedule_next : (a b d : Object E Run) (ts : List Turns) (i : ℕ) (t : Turns) (before now later : List ℕ) → slice_get ts i ≡ Some t → IsSameObject b a → b.state ≡ run (meaning a.engine) a.sizes (turns (steps_of (take i ts))) a.state → now ≡ before ++ makers_in (meaning a.engine) a.sizes (steps_of (take i ts)) a.state →
      IsSameObject d b → d.state ≡ run (meaning b.engine) b.sizes (turns (replicate t.count t.process)) b.state → later ≡ now ++ makers_in (meaning b.engine) b.sizes (replicate t.count t.process) b.state →
      IsSameObject d a × (d.state ≡ run (meaning a.engine) a.sizes (turns (steps_of (take (i + 1) ts))) a.state) × (later ≡ before ++ makers_in (meaning a.engine) a.sizes (steps_of (take (i + 1) ts)) a.state)
  schedule_next a b d ts i t before now later here same state so_far next steps made =
      let m = meaning a.engine in
      let z = a.sizes in
      let more : i + 1 ≡ suc i = omega arith in
      let longer : steps_of (take i ts) ++ replicate t.count t.process ≡ steps_of (take (i + 1) ts) = sym (ap (λ (j : ℕ). steps_of (take j ts)) more ∙ ap steps_of (take_next ts i t here) ∙ steps_more (take i ts) t) in
      let stepped : d.state ≡ run m z (turns (replicate t.count t.process)) b.state = same_run a b (replicate t.count t.process) b.state d.state same steps in
      let maker : later ≡ now ++ makers_in m z (replicate t.count t.process) b.state =
      made ∙ ap (λ (x : E). now ++ makers_in (meaning x) b.sizes (replicate t.count t.process) b.state) same.engine ∙ ap (λ (y : Sizes). now ++ makers_in m y (replicate t.count t.process) b.state) same.sizes in (
        same_object a b d same next,
        state_later m z (steps_of (take i ts)) (replicate t.count t.process) a.state b.state d.state state stepped ∙ ap (λ (ps : List ℕ). run m z (turns ps) a.state) longer,
        makers_later m z (steps_of (take i ts)) (replicate t.count t.process) a.state b.state before now later state so_far maker ∙ ap (λ (ps : List ℕ). before ++ makers_in m z ps a.state) longer,
      )

pub makers_of_run : {Run : Type 0} (m : Meaning Run) (ready : Run → Type 0) (n : ℕ) (opening : List ℤ) (scripts : List (ℕ × ObjectCall)) (steps makers : List ℕ) (start : State Run) → IsStart ready (sizes_of m n) opening start →
    makers ≡ makers_in m (sizes_of m n) steps (run m (sizes_of m n) (submissions scripts) start) → AreMakersOf m ready n opening scripts steps makers
makers_of_run m ready n opening scripts steps makers start begins is =
    let z = sizes_of m n in
    let submitted = run m z (submissions scripts) start in
    let nothing : length submitted.records.history ≡ 0 = ap (λ (r : Records). length r.history) (submitted_records m z scripts start ∙ begins.records) in
    record { start = start; begins = begins; are = subst (λ (xs : List ℕ). AreMakers m z steps submitted xs) (sym is) (are_makers m z steps submitted nothing) }
