-- The least budget with which calls have the same replies.
use Rattle.std.proofs.Common.{◌≡◌, refl, sym, ap, subst, ◌∙◌, arith, ℕ, ◌+◌, ◌-◌, ◌<◌, ◌≤◌, max, Bool, true, false, not, List, [], ◌∷◌, ◌++◌, length, drop, get_or, append_assoc, inl, inr, Option, Some, None}
use Rattle.std.proofs.lemmas.Bool.{cases_lt}
use Rattle.std.proofs.lemmas.Bool.Decides.{eqb_tells}
use Rattle.std.proofs.lemmas.List.{append-nil}
use Rattle.std.proofs.Math.Nat.{le-max_left, le-max_right, max-le}
use Rattle.std.specs.Prelude.{slice_get}
use Rattle.ob_interface.specs.Call.{ObjectCall, Reply, Trapped}
use Rattle.ob_interface.specs.declared.scalar.Scalar.{Scalar}
use Rattle.ob_mean.specs.Sequences.{replies_to}
use Rattle.ob_mean.proofs.Runs.{drop_here, drop_beyond}
use Rattle.ob_typing.specs.Arithmetic.{no_turn_left}
use Rattle.ob_typing.specs.Program.{Procedure, Program, exports}
use Rattle.ob_meaning.specs.ByNameObject.{most_activations}
use Rattle.ob_meaning.specs.OverStore.{Outcome, Done, Trap}
use Rattle.ob_meaning.specs.ByPositionObject.{Effect, effect, effect_of, effect_of_procedure, outside_handed, results_begun}
use Rattle.ob_meaning.specs.ByPositionStatements.{activation_of, calls, meaning_of_all}
use Rattle.ob_meaning.specs.ByPositionStore.{Activation, Store}
use Rattle.ob_mean.specs.Turns.{IsLeastBudget, all_turns_at, is_out_of_turns, turns_at}
use Rattle.ob_mean.proofs.Calls.{more_at}
use Rattle.ob_mean.proofs.Counting.{first_is, first_least, first_passes, first_within}

-- a call that ran out of turns left this
abbrev nothing_done : Activation → Effect
nothing_done state = record { state = state; reply = Trapped no_turn_left }

outcome_out : (before : Activation) (o : Outcome Store) → is_out_of_turns (effect_of before o).reply ≡ true → effect_of before o ≡ nothing_done before
outcome_out before (Done l s) out = let bad : false ≡ true = out in absurd (cc bad)
outcome_out before (Trap k) out =
    elim (eqb_tells k no_turn_left) [
      | inl same ↦ rw same.1 refl
      | inr other ↦ let bad : false ≡ true = sym other.0 ∙ out in absurd (cc bad)
    ]

procedure_out : (program : Program) (p : Option Procedure) (arguments : List Scalar) (turns : ℕ) (state : Activation) →
    is_out_of_turns (effect_of_procedure program p arguments turns state).reply ≡ true → effect_of_procedure program p arguments turns state ≡ nothing_done state
procedure_out program None arguments turns state out = let bad : false ≡ true = out in absurd (cc bad)
procedure_out program (Some p) arguments turns state out =
    outcome_out state (meaning_of_all (calls program (most_activations - 1)) p.body turns
    (state ∷ results_begun p.parameters ∷ activation_of p (outside_handed 0 p.parameters arguments) ∷ [])) out

call_out : (program : Program) (call : ObjectCall) (turns : ℕ) (state : Activation) →
    is_out_of_turns (effect program call turns state).reply ≡ true → effect program call turns state ≡ nothing_done state
call_out program call turns state out = procedure_out program (slice_get (exports program) call.export) call.arguments turns state out

not_out : (b : Bool) → not b ≡ true → b ≡ false
not_out true h = let bad : false ≡ true = h in absurd (cc bad)
not_out false h = refl

module _ (program : Program) (budget : ℕ) where
  module _ (call : ObjectCall) (state : Activation) where
    abbrev out_with : ℕ → Bool
    out_with n = is_out_of_turns (effect program call n state).reply

    pub turns_within : turns_at program call budget state ≤ budget
    turns_within = let h = first_within (λ n. not (out_with n)) 0 budget in omega (arith, h)

    enough_if : (t : ℕ) → t ≤ budget → (t < budget → not (out_with t) ≡ true) → out_with budget ≡ false → out_with t ≡ false
    enough_if t le passes enough =
        elim (cases_lt t budget) [
          | inl less ↦ not_out (out_with t) (passes less)
          | inr past ↦ let same : t ≡ budget = omega (arith, le, past) in rw same enough
        ]

    -- where the budget is enough, so are the turns that are taken
    turns_enough : out_with budget ≡ false → out_with (turns_at program call budget state) ≡ false
    turns_enough enough =
        enough_if (turns_at program call budget state) turns_within
        (λ less. first_passes (λ n. not (is_out_of_turns (effect program call n state).reply)) 0 budget (omega (arith, less))) enough

    -- a number of turns with which the reply is the same is as many as the call takes
    turns_least : (other : ℕ) → (effect program call other state).reply ≡ (effect program call budget state).reply → out_with budget ≡ false →
        turns_at program call budget state ≤ other
    turns_least other same enough =
        first_least (λ n. not (out_with n)) 0 budget other (omega arith) (ap (λ r. not (is_out_of_turns r)) same ∙ ap not enough)

    kept_if : (other : ℕ) → other ≤ budget → (out_with budget ≡ false → turns_at program call budget state ≤ other) →
        (b : Bool) → out_with budget ≡ b → (c : Bool) → out_with other ≡ c → effect program call other state ≡ effect program call budget state
    kept_if other le needs b e false out = sym (more_at program call other budget state le out)
    kept_if other le needs true e true out = call_out program call other state out ∙ sym (call_out program call budget state e)
    kept_if other le needs false e true out =
        let more = more_at program call (turns_at program call budget state) other state (needs e) (turns_enough e) in
        more ∙ sym (more_at program call (turns_at program call budget state) budget state turns_within (turns_enough e))

    -- with fewer turns than the budget the call leaves and answers the same, where these are as many as it takes or where it takes more than
    -- the budget
    effect_kept : (other : ℕ) → other ≤ budget → (out_with budget ≡ false → turns_at program call budget state ≤ other) →
        effect program call other state ≡ effect program call budget state
    effect_kept other le needs = kept_if other le needs (out_with budget) refl (out_with other) refl

    -- the most that is needed so far, and behind the call: where this runs out of its turns, no more
    abbrev pub raised : Bool → ℕ → ℕ
    raised true least = least
    raised false least = max (turns_at program call budget state) least

    raised_least : (b : Bool) (least : ℕ) → least ≤ raised b least
    raised_least true least = omega arith
    raised_least false least = le-max_right (turns_at program call budget state) least

    raised_within : (b : Bool) (least : ℕ) → least ≤ budget → raised b least ≤ budget
    raised_within true least h = h
    raised_within false least h = max-le turns_within h

    raised_needs : (b : Bool) → out_with budget ≡ b → (least other : ℕ) → raised b least ≤ other →
        out_with budget ≡ false → turns_at program call budget state ≤ other
    raised_needs true e least other h enough = let bad = sym e ∙ enough in absurd (cc bad)
    raised_needs false e least other h enough = let one = le-max_left (turns_at program call budget state) least in omega (arith, one, h)

    raised_few : (b : Bool) → out_with budget ≡ b → (least other : ℕ) → least ≤ other →
        (effect program call other state).reply ≡ (effect program call budget state).reply → raised b least ≤ other
    raised_few true e least other h same = h
    raised_few false e least other h same = max-le (turns_least other same e) h

    pub raised_more : (b : Bool) (least turns new : ℕ) → b ≡ false → turns ≡ turns_at program call budget state → new ≡ max turns least → new ≡ raised b least
    raised_more true least turns new enough taken is = let bad : true ≡ false = enough in absurd (cc bad)
    raised_more false least turns new enough taken is = is ∙ ap (λ t. max t least) taken

    pub raised_none : (b : Bool) (least new : ℕ) → b ≡ true → new ≡ least → new ≡ raised b least
    raised_none true least new out is = is
    raised_none false least new out is = let bad : false ≡ true = out in absurd (cc bad)

    -- ---- the search

    -- fewer turns than one number are too few, and those that are tried from another on are enough
    pub record Narrowed (low high : ℕ) : Type 0 where
      pub least : low ≤ high
      pub most : high ≤ budget
      pub few : (n : ℕ) → n < low → out_with n ≡ true
      pub enough : high < budget → out_with high ≡ false

    pub narrowed_first : Narrowed 0 budget
    narrowed_first =
        record { least = omega arith; most = omega arith; few = λ n below. absurd (omega (arith, below)); enough = λ below. absurd (omega (arith, below)) }

    out_if : (b : Bool) (n t : ℕ) → out_with n ≡ b → n ≤ t → out_with t ≡ true → out_with n ≡ true
    out_if true n t e le out = e
    out_if false n t e le out =
        let same : out_with t ≡ out_with n = ap (λ f. is_out_of_turns f.reply) (more_at program call n t state le e) in
        let bad : false ≡ true = sym e ∙ (sym same ∙ out) in
        absurd (cc bad)

    pub narrowed_out : (low high t : ℕ) → Narrowed low high → t < high → out_with t ≡ true → Narrowed (t + 1) high
    narrowed_out low high t h below out =
        record {
          least = omega (arith, below);
          most = h.most;
          few = λ n less. out_if (out_with n) n t refl (omega (arith, less)) out;
          enough = h.enough;
        }

    pub narrowed_enough : (low high t : ℕ) → Narrowed low high → low ≤ t → t < high → out_with t ≡ false → Narrowed low t
    narrowed_enough low high t h above below enough =
        let most = h.most in
        record { least = above; most = omega (arith, below, most); few = h.few; enough = λ less. enough }

    pub narrowed_last : (low high : ℕ) → Narrowed low high → high ≤ low → low ≡ turns_at program call budget state
    narrowed_last low high h past =
        let least = h.least in
        let most = h.most in
        let same : high ≡ low = omega (arith, least, past) in
        sym (first_is (λ n. not (out_with n)) 0 budget low (omega arith) (omega (arith, least, most))
        (λ n above below. ap not (h.few n below))
        (λ below. ap not (subst (λ k. out_with k ≡ false) same (h.enough (omega (arith, below, same))))))

  -- the most that is needed behind the calls
  abbrev pub needed_from : ℕ → Activation → List ObjectCall → ℕ
  needed_from least state [] = least
  needed_from least state (call ∷ calls) =
      needed_from (raised call state (is_out_of_turns (effect program call budget state).reply) least) (effect program call budget state).state calls

  all_least : (least : ℕ) (state : Activation) (calls : List ObjectCall) → least ≤ needed_from least state calls
  all_least least state [] = omega arith
  all_least least state (call ∷ calls) =
      let more = raised call state (out_with call state budget) least in
      let one = raised_least call state (out_with call state budget) least in
      let others = all_least more (effect program call budget state).state calls in
      omega (arith, one, others)

  all_within : (least : ℕ) → least ≤ budget → (state : Activation) (calls : List ObjectCall) → needed_from least state calls ≤ budget
  all_within least h state [] = h
  all_within least h state (call ∷ calls) =
      let b = out_with call state budget in
      all_within (raised call state b least) (raised_within call state b least h) (effect program call budget state).state calls

  -- with as many all replies are the same
  all_kept : (other : ℕ) → other ≤ budget → (least : ℕ) (state : Activation) (calls : List ObjectCall) → needed_from least state calls ≤ other →
      replies_to program other state calls ≡ replies_to program budget state calls
  all_kept other le least state [] most = refl
  all_kept other le least state (call ∷ calls) most =
      let b = out_with call state budget in
      let next = (effect program call budget state).state in
      let more = raised call state b least in
      let behind = all_least more next calls in
      let same = effect_kept call state other le (raised_needs call state b refl least other (omega (arith, behind, most))) in
      ap (λ e. e.reply ∷ replies_to program other e.state calls) same
      ∙ ap (λ rs. (effect program call budget state).reply ∷ rs) (all_kept other le more next calls most)

  -- and where they are, there are as many
  all_few : (other : ℕ) → other ≤ budget → (least : ℕ) → least ≤ other → (state : Activation) (calls : List ObjectCall) →
      replies_to program other state calls ≡ replies_to program budget state calls → needed_from least state calls ≤ other
  all_few other le least h state [] same = h
  all_few other le least h state (call ∷ calls) same =
      let b = out_with call state budget in
      let next = (effect program call budget state).state in
      let reply : (effect program call other state).reply ≡ (effect program call budget state).reply = cc same in
      let one = raised_few call state b refl least other h reply in
      let kept = effect_kept call state other le (raised_needs call state b refl least other one) in
      let rest : replies_to program other (effect program call other state).state calls ≡ replies_to program budget next calls = cc same in
      all_few other le (raised call state b least) one next calls (sym (ap (λ e. replies_to program other e.state calls) kept) ∙ rest)

  pub least_is : (state : Activation) (calls : List ObjectCall) →
      IsLeastBudget (λ b. replies_to program b state calls) budget (needed_from 0 state calls)
  least_is state calls =
      let within = all_within 0 (omega arith) state calls in
      record {
        same = all_kept (needed_from 0 state calls) within 0 state calls (omega arith);
        others = λ fewer less same.
            let few = all_few fewer (omega (arith, less, within)) 0 (omega arith) state calls same in absurd (omega (arith, few, less));
      }

  -- ---- one call more

  module _ (all : List ObjectCall) where
    pub taken_next : (position : ℕ) (call : ObjectCall) (state next : Activation) (reply : Reply) (taken made : List ℕ) → position < length all →
        call ≡ get_or all position call → effect program call budget state ≡ record { state = next; reply = reply } →
        taken ++ all_turns_at program budget state (drop position all) ≡ made →
        (taken ++ turns_at program call budget state ∷ []) ++ all_turns_at program budget next (drop (position + 1) all) ≡ made
    taken_next position call state next reply taken made below here gives before =
        let rest = drop (position + 1) all in
        let calls : drop position all ≡ call ∷ rest = drop_here all position call below ∙ ap (λ c. c ∷ rest) (sym here) in
        append_assoc taken (turns_at program call budget state ∷ []) (all_turns_at program budget next rest)
        ∙ sym (ap (λ e. taken ++ turns_at program call budget state ∷ all_turns_at program budget e.state rest) gives)
        ∙ sym (ap (λ cs. taken ++ all_turns_at program budget state cs) calls)
        ∙ before

    pub taken_last : (position : ℕ) (state : Activation) (taken made : List ℕ) → length all ≤ position →
        taken ++ all_turns_at program budget state (drop position all) ≡ made → taken ≡ made
    taken_last position state taken made beyond before =
        sym (append-nil taken) ∙ sym (ap (λ cs. taken ++ all_turns_at program budget state cs) (drop_beyond all position beyond)) ∙ before

    pub needed_next : (position : ℕ) (call : ObjectCall) (state next : Activation) (reply : Reply) (least most : ℕ) → position < length all →
        call ≡ get_or all position call → effect program call budget state ≡ record { state = next; reply = reply } →
        needed_from least state (drop position all) ≡ most →
        needed_from (raised call state (is_out_of_turns reply) least) next (drop (position + 1) all) ≡ most
    needed_next position call state next reply least most below here gives before =
        let rest = drop (position + 1) all in
        let calls : drop position all ≡ call ∷ rest = drop_here all position call below ∙ ap (λ c. c ∷ rest) (sym here) in
        sym (ap (λ e. needed_from (raised call state (is_out_of_turns e.reply) least) e.state rest) gives)
        ∙ sym (ap (λ cs. needed_from least state cs) calls)
        ∙ before

    pub needed_last : (position : ℕ) (state : Activation) (least most : ℕ) → length all ≤ position →
        needed_from least state (drop position all) ≡ most → least ≡ most
    needed_last position state least most beyond before = sym (ap (λ cs. needed_from least state cs) (drop_beyond all position beyond)) ∙ before
