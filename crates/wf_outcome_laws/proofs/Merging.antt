-- From the steps of a legal order to those of a merge.
use Rattle.std.proofs.Common.{◌≡◌, refl, sym, ap, ◌∙◌, subst, ℕ, ◌+◌, ◌-◌, ◌<◌, ◌≤◌, zero, suc, List, [], ◌∷◌, ◌++◌, length, get_or, set, map, replicate, Some, arith, inl, inr, get_or-set_same, get_or-set_other}
use Rattle.std.proofs.lemmas.Bool.{cases_eq, cases_lt}
use Rattle.std.proofs.lemmas.List.{length-replicate}
use Rattle.std.proofs.lemmas.Option.{same_Some, slice_get_within}
use Rattle.std.specs.List.{slice_get, Contains}
use Rattle.wf_history.proofs.Positions.{place_of}
use Rattle.wf_history.specs.declared.event.CallId.{CallId}
use Rattle.wf_history.specs.History.{Event, End}
use Rattle.wf_history.specs.Legal as Legal
use Rattle.wf_history.specs.Legal.{HasBegun, IsLegal, OneAtATime, RepliesAgree}
use Rattle.wf_outcome_laws.specs.ScriptRuns.{IsRunOfScripts, LegalOrdersAreMerges}
use Rattle.wf_order.proofs.Completeness.{complete}
use Rattle.wf_order.specs.Steps as Search
use Rattle.wf_outcomes.proofs.Growing.{leads_push, size_step}
use Rattle.wf_outcomes.proofs.OutcomesLists.{same_configuration}
use Rattle.wf_outcomes.specs.Merges.{Configuration, IsStep, Leads, none, more, start, IsPossible, IsReached}

-- only a script that there is has calls
script_there : {Call : Type 0} (scripts : List (List Call)) (process k : ℕ) (call : Call) → slice_get (get_or scripts process []) k ≡ Some call → process < length scripts
script_there [] process k call at = absurd (cc)
script_there (s ∷ scripts) zero k call at = omega arith
script_there (s ∷ scripts) (suc process) k call at = let r = script_there scripts process k call at in omega (arith, r)

item_there : {A : Type 0} (xs : List A) (k : ℕ) → k < length xs → (x : A) × (slice_get xs k ≡ Some x)
item_there [] k lt = absurd (omega arith)
item_there (x ∷ xs) zero lt = (x, refl)
item_there (x ∷ xs) (suc k) lt = item_there xs k (omega arith)

none_there : (n p : ℕ) → get_or (replicate {A = ℕ} n 0) p 0 ≡ 0
none_there zero p = refl
none_there (suc n) zero = refl
none_there (suc n) (suc p) = none_there n p

-- counts that are the lengths of the scripts, one by one
all_lengths : {Call : Type 0} (scripts : List (List Call)) (counts : List ℕ) → length counts ≡ length scripts → ((p : ℕ) → get_or counts p 0 ≡ length (get_or scripts p [])) → counts ≡ map length scripts
all_lengths [] [] size same = refl
all_lengths [] (c ∷ counts) size same = absurd (omega (arith, size))
all_lengths (s ∷ scripts) [] size same = absurd (omega (arith, size))
all_lengths (s ∷ scripts) (c ∷ counts) size same =
    ap (λ (n : ℕ). n ∷ counts) (same 0) ∙ ap (λ (l : List ℕ). length s ∷ l) (all_lengths scripts counts (omega (arith, size)) (λ p. same (suc p)))

module _ {State Call Reply : Type 0} (Effect : Call → State → State → Reply → Type 0) (scripts : List (List Call)) where
  -- no more calls of a process are made than its script has
  at_most : {c e : Configuration State} {ids : List CallId} → Leads Effect scripts c ids e → ((p : ℕ) → get_or c.counts p 0 ≤ length (get_or scripts p [])) → (p : ℕ) → get_or e.counts p 0 ≤ length (get_or scripts p [])
  at_most none small = small
  at_most (more {c} {d} {e} {id} {ids} r s l) small = at_most l (λ p.
      let counts : get_or d.counts p 0 ≡ get_or (set c.counts id.process id.number) p 0 = ap (λ (k : List ℕ). get_or k p 0) s.counts in
      elim (cases_eq p id.process) [
        | inl same ↦
            let less = slice_get_within (get_or scripts id.process []) (get_or c.counts id.process 0) s.call s.listed in
            let now = get_or-set_same c.counts id.process id.number 0 s.process in
            let number = s.number in
            let here : get_or d.counts p 0 ≡ id.number = counts ∙ ap (λ (q : ℕ). get_or (set c.counts id.process id.number) q 0) same ∙ now in
            subst (λ (q : ℕ). get_or d.counts p 0 ≤ length (get_or scripts q [])) (sym same) (omega (arith, here, number, less))
        | inr other ↦ let now = get_or-set_other c.counts id.process p id.number 0 other in let b = small p in omega (arith, counts, now, b)
      ])

  sizes : {c e : Configuration State} {ids : List CallId} → Leads Effect scripts c ids e → length e.counts ≡ length c.counts
  sizes none = refl
  sizes (more {c} {d} {e} {id} {ids} r s l) = sizes l ∙ size_step Effect scripts c d id r s

  module _ (history : List (Event Call Reply)) (run : IsRunOfScripts scripts history) where
    -- with a state of its own
    abbrev pub over : Search.Configuration State → State → Configuration State
    over c state = record { counts = c.counts; state = state }

    pub step_merged : (c d : Search.Configuration State) (id : CallId) → Search.IsStep Effect history c id d → (call : Call) → HasBegun history id call → (before after : State) (reply : Reply) →
        Effect call before after reply → IsStep Effect scripts (over c before) id reply (over d after)
    step_merged c d id s call begun before after reply does =
        let b = run.begins id call begun in
        let number = s.number in
        let here : get_or c.counts id.process 0 ≡ id.number - 1 = omega (arith, number) in
        record {
          call = call;
          process = s.process;
          listed = ap (slice_get (get_or scripts id.process [])) here ∙ b.1;
          number = s.number;
          effect = does;
          counts = s.counts;
        }

    leads_merged : {c e : Search.Configuration State} {ids : List CallId} → Search.Leads Effect history c ids e → (before last : State) (answers : List Reply) →
        OneAtATime (HasBegun history) Effect before ids answers last → Leads Effect scripts (over c before) ids (over e last)
    leads_merged Search.none before last answers Legal.none = none
    leads_merged (Search.more {c} {d} {e} {id} {ids} s l) before last answers (Legal.more {between = between} {call = call} {answer = answer} {answers = others} begun does later) =
        more answer (step_merged c d id s call begun before between answer does) (leads_merged l between last others later)

    -- the reply that the run has of a call on the way
    possible_at : (opening : State) {c e : Search.Configuration State} {ids : List CallId} → Search.Leads Effect history c ids e → (before last : State) (answers : List Reply) →
        OneAtATime (HasBegun history) Effect before ids answers last → RepliesAgree history ids answers → IsReached Effect scripts opening (over c before) →
        (k : ℕ) (id : CallId) → slice_get ids k ≡ Some id → (reply : Reply) → Contains history (End id reply) → IsPossible Effect scripts opening id reply
    possible_at opening Search.none before last answers made agree reached k id at reply ended = absurd (cc)
    possible_at opening (Search.more {c = c} {d = d} {e = e} {id = first} {ids = ids} s l) before last answers (Legal.more {between = between} {call = call} {answer = answer} {answers = others} begun does later)
        (Legal.more same_reply agree) reached zero id at reply ended =
        let same : first ≡ id = same_Some first id at in
        let answered : answer ≡ reply = sym (same_reply reply (subst (λ (i : CallId). Contains history (End i reply)) (sym same) ended)) in
        subst (λ (i : CallId). IsPossible Effect scripts opening i reply) same
        (subst (λ (r : Reply). IsPossible Effect scripts opening first r) answered (over c before, over d between, reached, step_merged c d first s call begun before between answer does))
    possible_at opening (Search.more {c = c} {d = d} {e = e} {id = first} {ids = ids} s l) before last answers (Legal.more {between = between} {call = call} {answer = answer} {answers = others} begun does later)
        (Legal.more same_reply agree) reached (suc k) id at reply ended =
        possible_at opening l between last others later agree
        (reached.0 ++ first ∷ [], leads_push Effect scripts answer reached.1 (step_merged c d first s call begun before between answer does)) k id at reply ended

    few : (id : CallId) (call : Call) → HasBegun history id call → id.process < length scripts
    few id call begun = let b = run.begins id call begun in script_there scripts id.process (id.number - 1) call b.1

    all_made : (e : Search.Configuration State) → Search.IsDone Effect history e → ((p : ℕ) → get_or e.counts p 0 ≤ length (get_or scripts p [])) → (p : ℕ) → get_or e.counts p 0 ≡ length (get_or scripts p [])
    all_made e done small p =
        elim (cases_lt (get_or e.counts p 0) (length (get_or scripts p []))) [
          | inl less ↦
              let call = item_there (get_or scripts p []) (get_or e.counts p 0) less in
              let ended = run.ends p (get_or e.counts p 0) call.0 call.1 in
              let taken = done (record { process = p; number = get_or e.counts p 0 + 1 }) ended.0 ended.1 in
              let le = taken.1 in
              absurd (omega (arith, le))
          | inr enough ↦ let b = small p in omega (arith, enough, b)
        ]

-- the steps along a legal order of a run come to where all calls of the scripts are made
pub all_steps : {State Call Reply : Type 0} (Effect : Call → State → State → Reply → Type 0) (scripts : List (List Call)) (opening : State) (history : List (Event Call Reply)) (order : List CallId) (last : State) →
    IsRunOfScripts scripts history → IsLegal Effect opening history order last →
    (e : Search.Configuration State) × Search.Leads Effect history (record { counts = replicate (length scripts) 0; state = opening }) order e × (e.counts ≡ map length scripts)
all_steps {State} {Call} {Reply} Effect scripts opening history order last run legal =
    let all = complete Effect history run.whole (length scripts) (few Effect scripts history run) opening last order legal in
    let leads = leads_merged Effect scripts history run all.1 opening last legal.replies legal.made in
    let small = at_most Effect scripts leads (λ p. let z = none_there (length scripts) p in omega (arith, z)) in
    let size = sizes Effect scripts leads in
    let many = length-replicate {A = ℕ} (length scripts) 0 in
    (all.0, all.1, all_lengths scripts all.0.counts (omega (arith, size, many)) (all_made Effect scripts history run all.0 all.2 small))

pub are_merges : {State Call Reply : Type 0} (Effect : Call → State → State → Reply → Type 0) (scripts : List (List Call)) (opening : State) → LegalOrdersAreMerges Effect scripts opening
are_merges {State} {Call} {Reply} Effect scripts opening history order last run legal =
    let all = all_steps Effect scripts opening history order last run legal in
    let leads = leads_merged Effect scripts history run all.1 opening last legal.replies legal.made in
    record {
      leads = subst (λ (c : Configuration State). Leads Effect scripts (start Effect scripts opening) order c) (same_configuration all.2 refl) leads;
      replies = λ id reply ended.
          let p = place_of order id (legal.ended id reply ended) in
          possible_at Effect scripts history run opening all.1 opening last legal.replies legal.made legal.agree ([], none) p.0 id p.1 reply ended;
    }
