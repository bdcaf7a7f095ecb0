-- Where the loops over the steps of an item end.
use Rattle.std.proofs.Common.{◌≡◌, ℕ, ◌+◌, ◌-◌, zero, suc, ◌<◌, ◌≤◌, ◌⊎◌, ◌↔◌, IsTrue, Bool, true, false, List, ◌++◌, replicate, refl, sym, ap, ◌∙◌, arith, subst, inl, inr, below_more, append_assoc, [], ◌∷◌}
use Rattle.std.proofs.lemmas.List.{replicate-append-replicate}
use Rattle.std.proofs.lemmas.Bool.{cases_eq, cases_lt}
use Rattle.std.specs.Prelude.{Option, Some, None, slice_get, ◌&&◌, not}
use Rattle.ob_text_words.specs.declared.item.Item.{Item}
use Rattle.ob_text_words.specs.declared.item.Item.TheVariants as Items
use Rattle.ob_text_words.specs.Schedule.{process_of}
use Rattle.wf_object.specs.Halted.{is_halted, is_halted_by}
use Rattle.wf_object.specs.View.{Object}
use Rattle.wf_play.specs.Played.{IsSameObject}
use Rattle.wf_object.specs.InARow.{AreInBody, AreQuiet, after_steps}
use Rattle.wf_object.specs.Quiet.{is_quiet}
use Rattle.wf_play.specs.ItemSteps.{EndsWithAnswer, IsAtEnd, IsBeyond, IsItemPlayed, IsItemRun, IsReply}
use Rattle.wf_object.specs.View.{seen_in}
use Rattle.wf_records.specs.declared.records.Seen.{Seen}
use Rattle.wf_records.specs.declared.records.Seen.TheVariants as Shows
use Rattle.wf_table.specs.declared.process.Label.{Label}
use Rattle.wf_table.specs.declared.process.Label.TheVariants.{Next, Body, Commit, Give}
use Rattle.wf_table.specs.declared.process.Sizes.{Sizes}
use Rattle.wf_table.specs.Meaning.{Meaning}
use Rattle.wf_table.specs.declared.spent.Spent.{Spent}
use Rattle.wf_table.specs.Spent.{has_more}
use Rattle.wf_table.specs.Labels.{at_next}
use Rattle.wf_table.specs.StepTable.{Process}
use Rattle.wf_table.specs.Object.{Answer, GoesOn, Begins, Replies, Halts, State, answer_by, answer_of, event_at, label_by, label_of, seen_by, step_of}
use Rattle.wf_table.specs.Schedule.{steps_of}

module _ {Run : Type 0} (m : Meaning Run) (z : Sizes) where
  -- what holds of no number below k, nor of k, holds of none up to k
  none_up_to : (item : Item) (k limit : ℕ) (s : State Run) → limit ≤ k → ((j : ℕ) → j < k → IsAtEnd m z item j s → ⊥) → (IsAtEnd m z item k s → ⊥) → IsBeyond m z limit item s
  none_up_to item k limit s last below here j few at = elim (cases_eq j k) [
    | inl same ↦ here (subst (λ (i : ℕ). IsAtEnd m z item i s) same at)
    | inr apart ↦ below j (omega (arith, few, last, apart)) at
  ]

  pub played_by : (item : Item) (k limit : ℕ) (s t : State Run) (b : Bool) → limit ≤ k → k ≤ limit → ((j : ℕ) → j < k → IsAtEnd m z item j s → ⊥) → (IsTrue b ↔ IsAtEnd m z item k s) → t ≡ after_steps m z (process_of item) k s →
      steps_of t.records.schedule ≡ steps_of s.records.schedule ++ replicate k (process_of item) → IsItemPlayed m z limit item s b t
  played_by item k limit s t true last few below here leads turns = record { steps = k; stands = record { ends = here.0 refl; least = below }; few = few; leads = leads; turns = turns }
  played_by item k limit s t false last few below here leads turns = none_up_to item k limit s last below (λ at. let both : false ≡ true = here.1 at in absurd (cc))

  -- the process is where p:LABEL ends
  -- a step at which the test is false is not the last one
  pub goes_on : (item : Item) (k : ℕ) (s : State Run) (b : Bool) → b ≡ false → ((j : ℕ) → j < k → IsAtEnd m z item j s → ⊥) → (IsTrue b ↔ IsAtEnd m z item k s) → (j : ℕ) → j < k + 1 → IsAtEnd m z item j s → ⊥
  goes_on item k s b fails below here = below_more _ _ below (λ at. let holds : b ≡ true = here.1 at in absurd (cc))

  -- the process stands where p:LABEL ends
  pub there : (p k : ℕ) (label : Label) (s t : State Run) (b : Bool) → t ≡ after_steps m z p k s → (IsTrue b ↔ ((label_of t p ≡ label) ⊎ (is_halted t p ≡ true))) → (IsTrue b ↔ IsAtEnd m z (Items.Until p label) k s)
  there p k label s t b leads h =
      let At = λ (u : State Run). (label_of u p ≡ label) ⊎ (is_halted u p ≡ true) in
      (λ e. subst At leads (h.0 e), λ at. h.1 (subst At (sym leads) at))

  -- where no step has answered yet, p! ends where the process is halted
  pub halted : (p k : ℕ) (s t : State Run) (b : Bool) → t ≡ after_steps m z p k s → (EndsWithAnswer m z p k s → ⊥) → b ≡ is_halted t p → (IsTrue b ↔ IsAtEnd m z (Items.ToAnswer p) k s)
  halted p k s t b leads silent h =
      let is : b ≡ is_halted (after_steps m z p k s) p = h ∙ ap (λ (u : State Run). is_halted u p) leads in
      (λ e. inr (sym is ∙ e), λ at. elim at [ inl answers ↦ absurd (silent answers) | inr halts ↦ is ∙ halts ])

  pub one_more : (p k : ℕ) (s t u : State Run) → t ≡ after_steps m z p k s → u ≡ step_of m z t p → u ≡ after_steps m z p (k + 1) s
  one_more p k s t u leads step =
      let more : k + 1 ≡ suc k = omega arith in
      step ∙ ap (λ (v : State Run). step_of m z v p) leads ∙ ap (λ (i : ℕ). after_steps m z p i s) (sym more)

  -- a step that answers nothing
  pub silent : (p k : ℕ) (s t : State Run) → t ≡ after_steps m z p k s → (IsReply (answer_of m z t p) → ⊥) → EndsWithAnswer m z p (k + 1) s → ⊥
  silent p k s t leads none ends =
      let more : k + 1 ≡ suc k = omega arith in
      let here : EndsWithAnswer m z p (suc k) s = subst (λ (i : ℕ). EndsWithAnswer m z p i s) more ends in
      none (subst (λ (v : State Run). IsReply (answer_of m z v p)) (sym leads) here)

  -- a step that answers ends p!
  pub answered : (p k limit : ℕ) (s t u : State Run) → k < limit → ((j : ℕ) → j < k + 1 → IsAtEnd m z (Items.ToAnswer p) j s → ⊥) → t ≡ after_steps m z p k s → u ≡ step_of m z t p → IsReply (answer_of m z t p) →
      steps_of u.records.schedule ≡ steps_of s.records.schedule ++ replicate (k + 1) p → IsItemRun m z limit (Items.ToAnswer p) s u
  answered p k limit s t u few below leads steps reply turns =
      let more : k + 1 ≡ suc k = omega arith in
      record {
        steps = suc k;
        stands = record { ends = inl (subst (λ (v : State Run). IsReply (answer_of m z v p)) leads reply); least = λ j lt. below j (omega (arith, lt)) };
        few = omega (arith, few);
        leads = steps ∙ ap (λ (v : State Run). step_of m z v p) leads;
        turns = turns ∙ ap (λ (i : ℕ). steps_of s.records.schedule ++ replicate i p) more;
      }

  -- ---- steps that show nothing

  steps_join : (p k j : ℕ) (s : State Run) → after_steps m z p j (after_steps m z p k s) ≡ after_steps m z p (k + j) s
  steps_join p k zero s = let none : k ≡ k + 0 = omega arith in ap (λ (i : ℕ). after_steps m z p i s) none
  steps_join p k (suc j) s =
      let more : suc (k + j) ≡ k + suc j = omega arith in
      ap (λ (t : State Run). step_of m z t p) (steps_join p k j s) ∙ ap (λ (i : ℕ). after_steps m z p i s) more

  -- a step, and more of them behind it
  pub more_behind : (p k j : ℕ) (s t u v : State Run) → t ≡ after_steps m z p k s → u ≡ step_of m z t p → v ≡ after_steps m z p j u → v ≡ after_steps m z p (k + 1 + j) s
  more_behind p k j s t u v leads step steps = steps ∙ ap (after_steps m z p j) (one_more p k s t u leads step) ∙ steps_join p (k + 1) j s

  -- a process is not halted at a label that shows nothing
  not_next : (l : Label) → is_quiet l ≡ true → at_next l ≡ false
  not_next Next is = absurd (cc)
  not_next _ is = refl

  not_halted_by : (o : Option (Process Run)) → is_quiet (label_by o) ≡ true → is_halted_by o ≡ true → ⊥
  not_halted_by None is halted = absurd (cc)
  not_halted_by (Some q) is halted =
      let no : at_next q.label ≡ false = not_next q.label is in
      let both : false ≡ true = sym (ap (λ (b : Bool). b && not (has_more q)) no) ∙ halted in
      absurd (cc)

  -- nor does it answer
  no_reply_at : (l : Label) (t : State Run) (p : ℕ) (q : Process Run) → is_quiet l ≡ true → IsReply (answer_by l (event_at l m z t.cell t.processes p q)) → ⊥
  no_reply_at Next t p q is reply = absurd (cc)
  no_reply_at Commit t p q is reply = absurd (cc)
  no_reply_at Give t p q is reply = absurd (cc)
  no_reply_at _ t p q is reply = reply

  no_reply_by : (t : State Run) (p : ℕ) (o : Option (Process Run)) → is_quiet (label_by o) ≡ true → IsReply (answer_by (label_by o) (seen_by m z t.cell t.processes p o)) → ⊥
  no_reply_by t p None is reply = absurd (cc)
  no_reply_by t p (Some q) is reply = no_reply_at q.label t p q is reply

  -- steps within a body show nothing
  pub quiet_inside : (p j : ℕ) (u : State Run) → AreInBody m z p j u → AreQuiet m z p j u
  quiet_inside p j u inside i lt = ap is_quiet (inside i lt)

  module _ (p k j : ℕ) (s u : State Run) (leads : u ≡ after_steps m z p (k + 1) s) (quiet : AreQuiet m z p j u) where
    state_in : (d : ℕ) → after_steps m z p (k + 1 + d) s ≡ after_steps m z p d u
    state_in d = sym (steps_join p (k + 1) d s) ∙ ap (after_steps m z p d) (sym leads)

    quiet_in : (d : ℕ) → d < j → is_quiet (label_of (after_steps m z p (k + 1 + d) s) p) ≡ true
    quiet_in d lt = ap (λ (t : State Run). is_quiet (label_of t p)) (state_in d) ∙ quiet d lt

    halted_nowhere : (d : ℕ) → d < j → is_halted (after_steps m z p (k + 1 + d) s) p ≡ true → ⊥
    halted_nowhere d lt halted = not_halted_by (slice_get (after_steps m z p (k + 1 + d) s).processes p) (quiet_in d lt) halted

    -- p:LABEL does not end in a body, where the label is another one
    pub elsewhere : AreInBody m z p j u → (label : Label) → (0 < j → label ≡ Body → ⊥) → ((i : ℕ) → i < k + 1 → IsAtEnd m z (Items.Until p label) i s → ⊥) → (i : ℕ) → i < k + 1 + j → IsAtEnd m z (Items.Until p label) i s → ⊥
    elsewhere inside label other below i lt at = elim (cases_lt i (k + 1)) [
      | inl less ↦ below i less at
      | inr more ↦
          let d : ℕ = i - (k + 1) in
          let is : i ≡ k + 1 + d = omega (arith, more) in
          let in_body : d < j = omega (arith, more, lt) in
          let here = subst (λ (n : ℕ). IsAtEnd m z (Items.Until p label) n s) is at in
          elim here [
            | inl there ↦ other (omega (arith, in_body)) (sym there ∙ ap (λ (t : State Run). label_of t p) (state_in d) ∙ inside d in_body)
            | inr halts ↦ halted_nowhere d in_body halts
          ]
    ]

    -- none of them answers
    pub still_silent : (d : ℕ) → d ≤ j → (EndsWithAnswer m z p (k + 1) s → ⊥) → EndsWithAnswer m z p (k + 1 + d) s → ⊥
    still_silent zero le first ends = let none : k + 1 + 0 ≡ k + 1 = omega arith in first (subst (λ (n : ℕ). EndsWithAnswer m z p n s) none ends)
    still_silent (suc d) le first ends =
        let more : k + 1 + suc d ≡ suc (k + 1 + d) = omega arith in
        let here : EndsWithAnswer m z p (suc (k + 1 + d)) s = subst (λ (n : ℕ). EndsWithAnswer m z p n s) more ends in
        let t = after_steps m z p (k + 1 + d) s in
        no_reply_by t p (slice_get t.processes p) (quiet_in d (omega (arith, le))) here

    -- nor does p! end there
    pub unanswered : (EndsWithAnswer m z p (k + 1) s → ⊥) → ((i : ℕ) → i < k + 1 → IsAtEnd m z (Items.ToAnswer p) i s → ⊥) → (i : ℕ) → i < k + 1 + j → IsAtEnd m z (Items.ToAnswer p) i s → ⊥
    unanswered first below i lt at = elim (cases_lt i (k + 1)) [
      | inl less ↦ below i less at
      | inr more ↦
          let d : ℕ = i - (k + 1) in
          let is : i ≡ k + 1 + d = omega (arith, more) in
          let in_body : d < j = omega (arith, more, lt) in
          let here = subst (λ (n : ℕ). IsAtEnd m z (Items.ToAnswer p) n s) is at in
          elim here [
            | inl answers ↦ still_silent d (omega (arith, in_body)) first answers
            | inr halts ↦ halted_nowhere d in_body halts
          ]
    ]

  -- p*count is at its end
  pub played_times : (p count limit k : ℕ) (s t : State Run) → k ≡ count → count ≤ limit → t ≡ after_steps m z p k s → steps_of t.records.schedule ≡ steps_of s.records.schedule ++ replicate k p → IsItemRun m z limit (Items.Steps p count) s t
  played_times p count limit k s t all few leads turns = record {
    steps = k;
    stands = record { ends = all; least = λ j lt at. omega (arith, all, lt, at) };
    few = omega (arith, all, few);
    leads = leads;
    turns = turns;
  }

-- one turn more
pub one_turn_more : (before now later : List ℕ) (k p : ℕ) → now ≡ before ++ replicate k p → later ≡ now ++ p ∷ [] → later ≡ before ++ replicate (k + 1) p
one_turn_more before now later k p so_far turn =
    turn ∙ ap (λ (ps : List ℕ). ps ++ p ∷ []) so_far ∙ append_assoc before (replicate k p) (p ∷ []) ∙ ap (λ (ps : List ℕ). before ++ ps) (replicate-append-replicate k 1 p)

-- a turn more, and more of them behind it
pub turns_behind : (before now later last : List ℕ) (k j p : ℕ) → now ≡ before ++ replicate k p → later ≡ now ++ p ∷ [] → last ≡ later ++ replicate j p → last ≡ before ++ replicate (k + 1 + j) p
turns_behind before now later last k j p so_far turn turns =
    turns
    ∙ ap (λ (ps : List ℕ). ps ++ replicate j p) (one_turn_more before now later k p so_far turn)
    ∙ append_assoc before (replicate (k + 1) p) (replicate j p)
    ∙ ap (λ (ps : List ℕ). before ++ ps) (replicate-append-replicate (k + 1) j p)

-- a step that does not show an answer makes no reply
pub no_reply : (seen : Seen) (answer : Answer) → seen ≡ seen_in answer → (seen ≡ Shows.Answered → ⊥) → IsReply answer → ⊥
no_reply seen GoesOn e other reply = reply
no_reply seen (Begins id) e other reply = reply
no_reply seen (Replies id r) e other reply = other e
no_reply seen Halts e other reply = reply

-- and one that shows it makes one
pub is_reply : (seen : Seen) (answer : Answer) → seen ≡ seen_in answer → seen ≡ Shows.Answered → IsReply answer
is_reply seen GoesOn e is = absurd (cc)
is_reply seen (Begins id) e is = absurd (cc)
is_reply seen (Replies id r) e is = tt
is_reply seen Halts e is = absurd (cc)

-- a step of an object is one of the same object as it was before
pub same_step : {E Run : Type 0} (meaning : E → Meaning Run) (a b : Object E Run) (s : State Run) (p : ℕ) → IsSameObject b a → s ≡ step_of (meaning b.engine) b.sizes b.state p → s ≡ step_of (meaning a.engine) a.sizes b.state p
same_step {E} meaning a b s p same e = e ∙ ap (λ (x : E). step_of (meaning x) b.sizes b.state p) same.engine ∙ ap (λ (z : Sizes). step_of (meaning a.engine) z b.state p) same.sizes

pub same_seen : {E Run : Type 0} (meaning : E → Meaning Run) (a b : Object E Run) (seen : Seen) (p : ℕ) → IsSameObject b a → seen ≡ seen_in (answer_of (meaning b.engine) b.sizes b.state p) → seen ≡ seen_in (answer_of (meaning a.engine) a.sizes b.state p)
same_seen {E} meaning a b seen p same e =
    e
    ∙ ap (λ (x : E). seen_in (answer_of (meaning x) b.sizes b.state p)) same.engine
    ∙ ap (λ (z : Sizes). seen_in (answer_of (meaning a.engine) z b.state p)) same.sizes

-- and so are steps in a row
pub same_steps : {E Run : Type 0} (meaning : E → Meaning Run) (a b : Object E Run) (s : State Run) (p j : ℕ) → IsSameObject b a → s ≡ after_steps (meaning b.engine) b.sizes p j b.state → s ≡ after_steps (meaning a.engine) a.sizes p j b.state
same_steps {E} meaning a b s p j same e = e ∙ ap (λ (x : E). after_steps (meaning x) b.sizes p j b.state) same.engine ∙ ap (λ (z : Sizes). after_steps (meaning a.engine) z p j b.state) same.sizes

pub same_inside : {E Run : Type 0} (meaning : E → Meaning Run) (a b : Object E Run) (p j : ℕ) → IsSameObject b a → AreInBody (meaning b.engine) b.sizes p j b.state → AreInBody (meaning a.engine) a.sizes p j b.state
same_inside {E} meaning a b p j same h =
    subst (λ (z : Sizes). AreInBody (meaning a.engine) z p j b.state) same.sizes (subst (λ (x : E). AreInBody (meaning x) b.sizes p j b.state) same.engine h)

pub same_quiet : {E Run : Type 0} (meaning : E → Meaning Run) (a b : Object E Run) (p j : ℕ) → IsSameObject b a → AreQuiet (meaning b.engine) b.sizes p j b.state → AreQuiet (meaning a.engine) a.sizes p j b.state
same_quiet {E} meaning a b p j same h =
    subst (λ (z : Sizes). AreQuiet (meaning a.engine) z p j b.state) same.sizes (subst (λ (x : E). AreQuiet (meaning x) b.sizes p j b.state) same.engine h)

-- a state of its own, and what is spent, make no other object
pub still_same : {E Run : Type 0} (a b o : Object E Run) (s : State Run) (xs : List Spent) → b ≡ record a { state = s; spent = xs } → IsSameObject a o → IsSameObject b o
still_same {E} {Run} a b o s xs e h = record {
  engine = ap (λ (x : Object E Run). x.engine) e ∙ h.engine;
  sizes = ap (λ (x : Object E Run). x.sizes) e ∙ h.sizes;
  opening = ap (λ (x : Object E Run). x.opening) e ∙ h.opening;
}

pub same_object : {E Run : Type 0} (a b o : Object E Run) → IsSameObject b a → IsSameObject a o → IsSameObject b o
same_object a b o h h' = record { engine = h.engine ∙ h'.engine; sizes = h.sizes ∙ h'.sizes; opening = h.opening ∙ h'.opening }
