-- Items stand for the same steps from states that look alike, over engines in lock-step; so from all states that begin with one block.
use Rattle.std.proofs.Common.{◌≡◌, ℕ, zero, suc, ◌-◌, List, take, refl, sym, ap, ◌∙◌, subst, inl, inr}
use Rattle.std.specs.Prelude.{ℤ}
use Rattle.ob_interface.specs.Call.{ObjectCall}
use Rattle.ob_text_words.specs.declared.item.Item.{Item}
use Rattle.ob_text_words.specs.declared.item.Item.TheVariants as Items
use Rattle.ob_text_words.specs.Schedule.{process_of}
use Rattle.wf_play.proofs.Alike.{LooksAlike, Back, alike_back, lock_back, other_start, other_starts, run_alike, same_answer, same_cell, same_halted, same_label, same_records, starts_alike, step_alike}
use Rattle.wf_play.proofs.Items.{items_run, none_beyond, one_run, run-append}
use Rattle.wf_play.specs.LockStep.{AreInLockStep}
use Rattle.wf_play.specs.Played.{IsPlayed, IsPlayFault, IsTooLong, most_steps}
use Rattle.wf_play.specs.declared.playing.PlayFault.{PlayFault}
use Rattle.wf_play.specs.declared.playing.PlayFault.TheVariants as Faults
use Rattle.wf_object.specs.InARow.{after_steps}
use Rattle.wf_play.specs.ItemSteps.{AreItemSteps, EndsWithAnswer, IsAtEnd, IsBeyond, IsFirstBeyond, IsHaltedAfter, IsReply, StandsFor, more, none}
use Rattle.wf_table.specs.declared.process.Sizes.{Sizes}
use Rattle.wf_table.specs.Meaning.{Meaning}
use Rattle.wf_table.specs.Object.{Records, State}
use Rattle.wf_table.specs.Runs.{ActsFit, performed, run, submissions, turns}
use Rattle.wf_table.specs.Schedule.{steps_of}
use Rattle.wf_table.specs.Start.{IsStart, sizes_of}

module _ {Run Other : Type 0} (Same : Run → Other → Type 0) (m : Meaning Run) (m' : Meaning Other) (lock : AreInLockStep m m' Same) (z : Sizes) where
  steps_alike : (p k : ℕ) (s : State Run) (t : State Other) → LooksAlike Same s t → LooksAlike Same (after_steps m z p k s) (after_steps m' z p k t)
  steps_alike p zero s t h = h
  steps_alike p (suc k) s t h = step_alike Same m m' lock z (after_steps m z p k s) (after_steps m' z p k t) p (steps_alike p k s t h)

  halted_alike : (p k : ℕ) (s : State Run) (t : State Other) → LooksAlike Same s t → IsHaltedAfter m z p k s → IsHaltedAfter m' z p k t
  halted_alike p k s t h halted = same_halted Same (after_steps m z p k s) (after_steps m' z p k t) p (steps_alike p k s t h) ∙ halted

  answers_alike : (p k : ℕ) (s : State Run) (t : State Other) → LooksAlike Same s t → EndsWithAnswer m z p k s → EndsWithAnswer m' z p k t
  answers_alike p zero s t h answers = answers
  answers_alike p (suc k) s t h answers =
      subst IsReply (sym (same_answer Same m m' lock z (after_steps m z p k s) (after_steps m' z p k t) p (steps_alike p k s t h))) answers

  pub end_alike : (item : Item) (k : ℕ) (s : State Run) (t : State Other) → LooksAlike Same s t → IsAtEnd m z item k s → IsAtEnd m' z item k t
  end_alike (Items.Steps p count) k s t h at = at
  end_alike (Items.Until p label) k s t h (inl there) = inl (same_label Same (after_steps m z p k s) (after_steps m' z p k t) p (steps_alike p k s t h) ∙ there)
  end_alike (Items.Until p label) k s t h (inr halted) = inr (halted_alike p k s t h halted)
  end_alike (Items.ToAnswer p) k s t h (inl answers) = inl (answers_alike p k s t h answers)
  end_alike (Items.ToAnswer p) k s t h (inr halted) = inr (halted_alike p k s t h halted)

module _ {Run Other : Type 0} (Same : Run → Other → Type 0) (m : Meaning Run) (m' : Meaning Other) (lock : AreInLockStep m m' Same) (z : Sizes) where
  -- an end there is an end here
  end_back : (item : Item) (k : ℕ) (s : State Run) (t : State Other) → LooksAlike Same s t → IsAtEnd m' z item k t → IsAtEnd m z item k s
  end_back item k s t h at = end_alike (Back Same) m' m (lock_back Same m m' lock) z item k t s (alike_back Same s t h) at

  stands_alike : (item : Item) (k : ℕ) (s : State Run) (t : State Other) → LooksAlike Same s t → StandsFor m z item k s → StandsFor m' z item k t
  stands_alike item k s t h stands =
      record { ends = end_alike Same m m' lock z item k s t h stands.ends; least = λ j less at. stands.least j less (end_back item j s t h at) }

  -- the same steps, to a state that looks alike
  pub items_alike : (limit : ℕ) (items : List Item) (s : State Run) (t : State Other) (after : State Run) (steps : List ℕ) → LooksAlike Same s t → AreItemSteps m z limit items s steps after →
      (another : State Other) × (LooksAlike Same after another × AreItemSteps m' z limit items t steps another)
  items_alike limit items s t after steps h none = (t, (h, none))
  items_alike limit items s t after steps h (more {item = item} {items = rest} {k = k} {steps = those} stands few plays) =
      let p = process_of item in
      let next = items_alike limit rest (after_steps m z p k s) (after_steps m' z p k t) after those (steps_alike Same m m' lock z p k s t h) plays in
      (next.0, (next.1.0, more (stands_alike item k s t h stands) few next.1.1))

  beyond_alike : (limit : ℕ) (item : Item) (s : State Run) (t : State Other) → LooksAlike Same s t → IsBeyond m z limit item s → IsBeyond m' z limit item t
  beyond_alike limit item s t h beyond = λ k few at. beyond k few (end_back item k s t h at)

  -- the same item is the first one that is too long
  pub first_alike : (limit : ℕ) (items : List Item) (s : State Run) (t : State Other) (number : ℕ) → LooksAlike Same s t → IsFirstBeyond m z limit items s number → IsFirstBeyond m' z limit items t number
  first_alike limit items s t number h first =
      let moved = items_alike limit (take (number - 1) items) s t first.state first.steps h first.before in
      record {
        item = first.item;
        counted = first.counted;
        here = first.here;
        steps = first.steps;
        state = moved.0;
        before = moved.1.1;
        beyond = beyond_alike limit first.item first.state moved.0 moved.1.0 first.beyond;
      }

-- an engine is in lock-step with itself
pub with_itself : {Run : Type 0} (m : Meaning Run) → AreInLockStep m m (λ r o. r ≡ o)
with_itself {Run} m = record {
  variables = refl;
  replies = refl;
  arguments = refl;
  lay = λ c. refl;
  reply = λ c words. refl;
  start = λ words. refl;
  turn = λ r o b same. ap (λ (x : Run). (m.step x b).turn) (sym same);
  block = λ r o b same. ap (λ (x : Run). (m.step x b).block) (sym same);
  run = λ r o b same. ap (λ (x : Run). (m.step x b).run) same;
  result = λ r o i same. ap (λ (x : Run). m.result x i) (sym same);
}

module _ {Run : Type 0} (m : Meaning Run) (ready : Run → Type 0) (n : ℕ) (opening : List ℤ) (scripts : List (ℕ × ObjectCall)) where
  abbrev Equal : Run → Run → Type 0
  Equal r o = r ≡ o

  abbrev behind : State Run → State Run
  behind start = run m (sizes_of m n) (submissions scripts) start

  -- behind the scripts too
  behind_alike : (s t : State Run) → IsStart ready (sizes_of m n) opening s → IsStart ready (sizes_of m n) opening t → LooksAlike Equal (behind s) (behind t)
  behind_alike s t h h' = run_alike Equal m m (with_itself m) (sizes_of m n) (submissions scripts) s t (starts_alike Equal ready ready (sizes_of m n) opening s t h h')

  -- too long from one beginning is too long from each
  pub is_too_long : (items : List Item) (number : ℕ) (start : State Run) → IsStart ready (sizes_of m n) opening start → IsFirstBeyond m (sizes_of m n) most_steps items (behind start) number → IsTooLong m ready n opening scripts items number
  is_too_long items number start begins first =
      let each = λ (other : State Run) (h : IsStart ready (sizes_of m n) opening other). first_alike Equal m m (with_itself m) (sizes_of m n) most_steps items (behind start) (behind other) number (behind_alike start other begins h) first in
      record {
        start = start;
        begins = begins;
        first = each;
        none = λ other after steps h plays. none_beyond m (sizes_of m n) most_steps items (behind other) after number steps (each other h) plays;
      }

  module _ (lawful : List ℤ → Type 0) (fits : ObjectCall → Type 0) where
    pub too_long_no_run : (items : List Item) (number : ℕ) (s : State Run) → IsTooLong m ready n opening scripts items number → IsPlayed m lawful fits ready n opening scripts items s → ⊥
    too_long_no_run items number s long played = long.none played.runs.start s (steps_of s.records.schedule) played.runs.begins played.plays

    played_alike : (items : List Item) (s t : State Run) → IsPlayed m lawful fits ready n opening scripts items s → IsPlayed m lawful fits ready n opening scripts items t → LooksAlike Equal s t
    played_alike items s t h h' =
        let first = behind h.runs.start in
        let second = behind h'.runs.start in
        let moved = items_alike Equal m m (with_itself m) (sizes_of m n) most_steps items first second s (steps_of s.records.schedule) (behind_alike h.runs.start h'.runs.start h.runs.begins h'.runs.begins) h.plays in
        let same = one_run m (sizes_of m n) most_steps items second moved.0 t (steps_of s.records.schedule) (steps_of t.records.schedule) moved.1.1 h'.plays in
        subst (LooksAlike Equal s) same.1 moved.1.0

    pub one_cell : (items : List Item) (s t : State Run) → IsPlayed m lawful fits ready n opening scripts items s → IsPlayed m lawful fits ready n opening scripts items t → s.cell ≡ t.cell
    one_cell items s t h h' = same_cell Equal s t (played_alike items s t h h')

    pub one_record : (items : List Item) (s t : State Run) → IsPlayed m lawful fits ready n opening scripts items s → IsPlayed m lawful fits ready n opening scripts items t → s.records ≡ t.records
    one_record items s t h h' = same_records Equal s t (played_alike items s t h h')

-- ---- runs over engines in lock-step

-- a run over the one engine is one over the other, which leaves the same cell and shows the same
pub record PlaysAlike {Run Other : Type 0} (s : State Run) (Played : State Other → Type 0) : Type 0 where
  pub state : State Other
  pub played : Played state
  pub cell : s.cell ≡ state.cell
  pub records : s.records ≡ state.records

module _ {Run Other : Type 0} (Same : Run → Other → Type 0) (m : Meaning Run) (m' : Meaning Other) (lock : AreInLockStep m m' Same) (ready : Run → Type 0) (ready' : Other → Type 0) (n : ℕ) (opening : List ℤ) (scripts : List (ℕ × ObjectCall)) where
  sizes_same : sizes_of m' n ≡ sizes_of m n
  sizes_same = rw (lock.variables, lock.replies, lock.arguments) refl

  abbrev z : Sizes
  z = sizes_of m n

  -- from starts of both, behind the scripts
  both_behind : (s : State Run) (t : State Other) → IsStart ready z opening s → IsStart ready' z opening t → LooksAlike Same (run m z (submissions scripts) s) (run m' z (submissions scripts) t)
  both_behind s t h h' = run_alike Same m m' lock z (submissions scripts) s t (starts_alike Same ready ready' z opening s t h h')

  -- with a run of the other engine, for an object over it to begin with
  module _ (r' : Other) (is_ready : ready' r') (lawful : List ℤ → Type 0) (fits : ObjectCall → Type 0) where
    pub plays_alike : (items : List Item) (s : State Run) → IsPlayed m lawful fits ready n opening scripts items s → PlaysAlike s (IsPlayed m' lawful fits ready' n opening scripts items)
    plays_alike items s h =
        let t = other_start ready ready' r' is_ready z h.runs.start in
        let begins = other_starts ready ready' r' is_ready z opening h.runs.start h.runs.begins in
        let moved = items_alike Same m m' lock z most_steps items (run m z (submissions scripts) h.runs.start) (run m' z (submissions scripts) t) s (steps_of s.records.schedule) (both_behind h.runs.start t h.runs.begins begins) h.plays in
        let last = moved.0 in
        let records = same_records Same s last moved.1.0 in
        let steps = steps_of s.records.schedule in
        let leads : run m' z (performed scripts s.records.schedule) t ≡ last =
        run-append m' z (submissions scripts) (turns steps) t ∙ items_run m' z most_steps items (run m' z (submissions scripts) t) last steps moved.1.1 in
        record {
          state = last;
          played = record {
            runs = record {
              some = h.runs.some;
              few = h.runs.few;
              opens = h.runs.opens;
              fit = subst (λ (r : Records). ActsFit fits (performed scripts r.schedule)) records h.runs.fit;
              start = t;
              begins = subst (λ (y : Sizes). IsStart ready' y opening t) (sym sizes_same) begins;
              leads = subst (λ (y : Sizes). run m' y (performed scripts last.records.schedule) t ≡ last) (sym sizes_same)
                  (subst (λ (r : Records). run m' z (performed scripts r.schedule) t ≡ last) records leads);
            };
            plays = subst (λ (y : Sizes). AreItemSteps m' y most_steps items (run m' y (submissions scripts) t) (steps_of last.records.schedule) last) (sym sizes_same)
                (subst (λ (r : Records). AreItemSteps m' z most_steps items (run m' z (submissions scripts) t) (steps_of r.schedule) last) records moved.1.1);
          };
          cell = same_cell Same s last moved.1.0;
          records = records;
        }

    too_long_alike : (items : List Item) (number : ℕ) → IsTooLong m ready n opening scripts items number → IsTooLong m' ready' n opening scripts items number
    too_long_alike items number long =
        let at = λ (other : State Other) (h : IsStart ready' (sizes_of m' n) opening other). subst (λ (y : Sizes). IsStart ready' y opening other) sizes_same h in
        let first = λ (other : State Other) (h : IsStart ready' (sizes_of m' n) opening other).
        subst (λ (y : Sizes). IsFirstBeyond m' y most_steps items (run m' y (submissions scripts) other) number) (sym sizes_same)
        (first_alike Same m m' lock z most_steps items (run m z (submissions scripts) long.start) (run m' z (submissions scripts) other) number (both_behind long.start other long.begins (at other h)) (long.first long.start long.begins)) in
        record {
          start = other_start ready ready' r' is_ready z long.start;
          begins = subst (λ (y : Sizes). IsStart ready' y opening (other_start ready ready' r' is_ready z long.start)) (sym sizes_same) (other_starts ready ready' r' is_ready z opening long.start long.begins);
          first = first;
          none = λ other after steps h plays. none_beyond m' (sizes_of m' n) most_steps items (run m' (sizes_of m' n) (submissions scripts) other) after number steps (first other h) plays;
        }

    -- the same fault is true of the other engine
    pub fault_alike : (items : List Item) (e : PlayFault) → IsPlayFault m ready n opening scripts items e → IsPlayFault m' ready' n opening scripts items e
    fault_alike items Faults.Processes h = h
    fault_alike items (Faults.TooLong number) h = too_long_alike items number h
    fault_alike items Faults.NoMemory h = tt
