-- A merge leads to one state, and what was seen of its calls, one after the other, is a run of the scripts.
use Rattle.std.proofs.Common.{◌≡◌, ℕ, ◌+◌, ◌-◌, ◌<◌, List, [], ◌∷◌, get_or, refl, sym, ap, ◌∙◌, arith, subst, inl, inr}
use Rattle.std.specs.Prelude.{ℤ, Some, slice_get, Contains}
use Rattle.std.proofs.lemmas.Option.{same_Some}
use Rattle.ob_interface.specs.Call.{ObjectCall, Reply}
use Rattle.wf_history.specs.declared.event.CallId.{CallId}
use Rattle.wf_history.specs.History.{Event, Begin, Applied, End, IsHistory}
use Rattle.wf_history.specs.Legal.{HasBegun, IsLegal}
use Rattle.wf_outcome_laws.specs.ScriptRuns as Runs
use Rattle.wf_outcome_laws.specs.ScriptRuns.{IsOneByOne, IsRunOfScripts}
use Rattle.wf_outcome_laws.proofs.Alone.{are_legal_orders}
use Rattle.wf_outcome_laws.proofs.Merging.{are_merges}
use Rattle.wf_outcomes.specs.Merges.{Configuration, IsStep, Leads, none, more, start, full}
use Rattle.wf_outcomes.proofs.OutcomesLists.{same_configuration}
use Rattle.wf_table.specs.Law.{Effects}
use Rattle.wf_outcome_laws.proofs.Lists.{first_or_rest, in_none, in_rest, is_first}
use Rattle.wf_outcome_laws.proofs.Showing.{Events}

ended_in : {Call Reply : Type 0} (ids : List CallId) (events : List (Event Call Reply)) → IsOneByOne ids events → (id : CallId) → Contains ids id → (reply : Reply) × Contains events (End id reply)
ended_in ids events Runs.none id h = absurd (in_none id h)
ended_in {Call} {Reply} ids events (Runs.more {ids = others} {events = rest} first call reply one) id h =
    let all : List (Event Call Reply) = Begin first call ∷ Applied (first ∷ []) ∷ End first reply ∷ rest in
    elim (first_or_rest first others id h) [
      | inl same ↦ (
        reply,
        subst (λ (i : CallId). Contains all (End i reply)) same
            (in_rest (Begin first call) (Applied (first ∷ []) ∷ End first reply ∷ rest) (End first reply) (in_rest (Applied (first ∷ [])) (End first reply ∷ rest) (End first reply) (is_first (End first reply) rest))),
      )
      | inr later ↦ (let found = ended_in others rest one id later in
          let it : Event Call Reply = End id found.0 in
          (found.0, in_rest (Begin first call) (Applied (first ∷ []) ∷ End first reply ∷ rest) it (in_rest (Applied (first ∷ [])) (End first reply ∷ rest) it (in_rest (End first reply) rest it found.1))))
    ]

module _ (Effect : Effects) (scripts : List (List ObjectCall)) where
  -- each call of the steps is seen by itself, with some reply
  abbrev pub Shown : {c e : Configuration (List ℤ)} {ids : List CallId} → Leads Effect scripts c ids e → Events → Type 0
  Shown none seen = seen ≡ []
  Shown (more {c} {d} {e} {id} {ids} reply s l) seen = (answer : Reply) × (rest : Events) × (seen ≡ Begin id s.call ∷ Applied (id ∷ []) ∷ End id answer ∷ rest) × Shown l rest

  pub one_by_one : {c e : Configuration (List ℤ)} {ids : List CallId} (l : Leads Effect scripts c ids e) (seen : Events) → Shown l seen → IsOneByOne ids seen
  one_by_one none seen h = subst (IsOneByOne []) (sym h) Runs.none
  one_by_one (more {c} {d} {e} {id} {ids} reply s l) seen h = subst (IsOneByOne (id ∷ ids)) (sym h.2) (Runs.more id s.call h.0 (one_by_one l h.1 h.3))

  -- each call that begins is its script's
  begun : {c e : Configuration (List ℤ)} {ids : List CallId} (l : Leads Effect scripts c ids e) (seen : Events) → Shown l seen → (id : CallId) (call : ObjectCall) → HasBegun seen id call →
      (0 < id.number) × (slice_get (get_or scripts id.process []) (id.number - 1) ≡ Some call)
  begun none seen h id call began = absurd (in_none (Begin id call) (subst (λ (es : Events). Contains es (Begin id call)) h began))
  begun (more {c} {d} {e} {id = first} {ids} reply s l) seen h id call began =
      elim (first_or_rest (Begin first s.call) (Applied (first ∷ []) ∷ End first h.0 ∷ h.1) (Begin id call) (subst (λ (es : Events). Contains es (Begin id call)) h.2 began)) [
        | inl same ↦
            let is : first ≡ id = cc in
            let calls : s.call ≡ call = cc in
            let number = s.number in
            let place : get_or c.counts first.process 0 ≡ first.number - 1 = omega (arith, number) in
            subst (λ (i : CallId). (0 < i.number) × (slice_get (get_or scripts i.process []) (i.number - 1) ≡ Some call)) is
            (omega (arith, number), ap (slice_get (get_or scripts first.process [])) (sym place) ∙ s.listed ∙ ap Some calls)
        | inr later ↦ elim (first_or_rest (Applied (first ∷ [])) (End first h.0 ∷ h.1) (Begin id call) later) [
          | inl same ↦ absurd (cc)
          | inr last ↦ elim (first_or_rest (End first h.0) h.1 (Begin id call) last) [
            | inl same ↦ absurd (cc)
            | inr rest ↦ begun l h.1 h.3 id call rest
          ]
        ]
      ]

  -- such a history is one of a run of the scripts
  pub run_of_scripts : (opening last : List ℤ) (order : List CallId) (l : Leads Effect scripts (start Effect scripts opening) order (full Effect scripts last)) (seen : Events) → Shown l seen → IsHistory seen → IsRunOfScripts scripts seen
  run_of_scripts opening last order l seen h history =
      let other = are_legal_orders Effect scripts opening order last l in
      record {
        whole = history;
        begins = begun l seen h;
        ends = λ process k call at.
            let there = other.1.run.ends process k call at in
            let id : CallId = record { process = process; number = k + 1 } in
            ended_in order seen (one_by_one l seen h) id (other.1.legal.ended id there.0 there.1);
      }

-- where each call has one effect, the steps of a merge lead to one state
module _ {State Call Reply : Type 0} (Effect : Call → State → State → Reply → Type 0) (scripts : List (List Call)) (good : State → Type 0) (fits : Call → Type 0)
    (functional : (before after other : State) (call : Call) (reply another : Reply) → good before → fits call → Effect call before after reply → Effect call before other another → after ≡ other)
    (keeps : (before after : State) (call : Call) (reply : Reply) → good before → fits call → Effect call before after reply → good after)
    (fit : (p k : ℕ) (call : Call) → slice_get (get_or scripts p []) k ≡ Some call → fits call) where
  one_step : (c d e : Configuration State) (id : CallId) (reply another : Reply) → good c.state → IsStep Effect scripts c id reply d → IsStep Effect scripts c id another e → (d ≡ e) × good d.state
  one_step c d e id reply another ok s t =
      let call : t.call ≡ s.call = same_Some t.call s.call (sym t.listed ∙ s.listed) in
      let effect : Effect s.call c.state e.state another = subst (λ (x : Call). Effect x c.state e.state another) call t.effect in
      let fitting = fit id.process (get_or c.counts id.process 0) s.call s.listed in (
        same_configuration (s.counts ∙ sym t.counts) (functional c.state d.state e.state s.call reply another ok fitting s.effect effect),
        keeps c.state d.state s.call reply ok fitting s.effect,
      )

  one_end : (ids : List CallId) (c d e : Configuration State) → good c.state → Leads Effect scripts c ids d → Leads Effect scripts c ids e → d ≡ e
  one_end ids c d e ok none none = refl
  one_end ids c d e ok (more {d = f} {id = id} {ids = rest} reply s l) (more {d = g} another t k) =
      let same = one_step c f g id reply another ok s t in
      one_end rest f d e same.1 l (subst (λ (x : Configuration State). Leads Effect scripts x rest e) (sym same.0) k)

  -- a legal order of a run of the scripts that is this merge leads there
  pub one_last : (opening last other : State) (order : List CallId) (seen : List (Event Call Reply)) → good opening → Leads Effect scripts (start Effect scripts opening) order (full Effect scripts last) →
      IsRunOfScripts scripts seen → IsLegal Effect opening seen order other → other ≡ last
  one_last opening last other order seen ok l run legal =
      let merge = are_merges Effect scripts opening seen order other run legal in
      ap (λ (c : Configuration State). c.state) (one_end order (start Effect scripts opening) (full Effect scripts other) (full Effect scripts last) ok merge.leads l)
