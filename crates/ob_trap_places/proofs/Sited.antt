-- Sites of calls made one at a time: of one call by what it answers, and of one call more.
use Rattle.std.proofs.Common.{◌≡◌, refl, ap, sym, ◌∙◌, ℕ, suc, List, [], ◌∷◌, ◌++◌, ◌<◌, ◌≤◌, ◌+◌, length, drop, get_or, map, append_assoc, Option, Some, None}
use Rattle.std.specs.Prelude.{option_map, slice_get}
use Rattle.std.proofs.lemmas.List.{append-nil}
use Rattle.ob_interface.specs.Call.{ObjectCall, Reply, Answers, Trapped}
use Rattle.ob_interface.specs.declared.scalar.Scalar.{Scalar}
use Rattle.ob_mean.proofs.Runs.{drop_here, drop_beyond}
use Rattle.ob_mean.specs.Sequences.{replies_to}
use Rattle.ob_meaning.specs.ByPositionObject.{Effect, effect, effect_of, effect_of_procedure}
use Rattle.ob_meaning.specs.ByPositionStatements.{Outcome, Done, Trap}
use Rattle.ob_meaning.specs.ByPositionStore.{Activation}
use Rattle.ob_trap_places.proofs.CallSites.{call_trap}
use Rattle.ob_trap_places.specs.TrapOfCall.{site_of_call, trap_of}
use Rattle.ob_trap_places.specs.Site.{Site}
use Rattle.ob_typing.specs.Program.{Procedure, Program, exports}
use Rattle.ob_trap_places.specs.Sequence.{sites_from}

-- ---- one call

kept_by : (state : Activation) (o : Outcome) (k : ℕ) → (effect_of state o).reply ≡ Trapped k → (effect_of state o).state ≡ state
kept_by state (Done left store) k e = absurd cc
kept_by state (Trap j) k e = refl

kept_of : (program : Program) (p : Option Procedure) (arguments : List Scalar) (budget : ℕ) (state : Activation) (k : ℕ) →
    (effect_of_procedure program p arguments budget state).reply ≡ Trapped k → (effect_of_procedure program p arguments budget state).state ≡ state
kept_of program None arguments budget state k e = refl
kept_of program (Some p) arguments budget state k e = kept_by state _ k e

-- a call that traps leaves the state as it was
pub trap_keeps : (program : Program) (call : ObjectCall) (budget : ℕ) (state : Activation) (k : ℕ) → (effect program call budget state).reply ≡ Trapped k →
    (effect program call budget state).state ≡ state
trap_keeps program call budget state k e = kept_of program (slice_get (exports program) call.export) call.arguments budget state k e

no_number : (o : Option Site) → option_map (λ site. site.number) o ≡ None → o ≡ None
no_number None e = refl
no_number (Some site) e = absurd cc

-- a call that answers has no site
pub answers_unsited : (program : Program) (call : ObjectCall) (budget : ℕ) (state : Activation) (values : List Scalar) →
    (effect program call budget state).reply ≡ Answers values → site_of_call program call budget state ≡ None
answers_unsited program call budget state values e = no_number (site_of_call program call budget state) (call_trap program call budget state ∙ ap trap_of e)

-- ---- calls one at a time

module _ (program : Program) (budget : ℕ) (all : List ObjectCall) (made : List (Option Site)) where
  -- behind the call at a position
  pub sites_next : (position : ℕ) (call : ObjectCall) (state next : Activation) (so_far : List (Option Site)) (site : Option Site) → position < length all →
      call ≡ get_or all position call → next ≡ (effect program call budget state).state → site ≡ site_of_call program call budget state →
      so_far ++ sites_from program budget state (drop position all) ≡ made →
      (so_far ++ site ∷ []) ++ sites_from program budget next (drop (position + 1) all) ≡ made
  sites_next position call state next so_far site below here moved sited before =
      let rest = drop (position + 1) all in
      let calls : drop position all ≡ call ∷ rest = drop_here all position call below ∙ ap (λ c. c ∷ rest) (sym here) in
      append_assoc so_far (site ∷ []) (sites_from program budget next rest)
      ∙ ap (λ s. so_far ++ site ∷ sites_from program budget s rest) moved
      ∙ ap (λ o. so_far ++ o ∷ sites_from program budget (effect program call budget state).state rest) sited
      ∙ sym (ap (λ cs. so_far ++ sites_from program budget state cs) calls)
      ∙ before

  -- behind all calls
  pub all_sited : (position : ℕ) (state : Activation) (so_far : List (Option Site)) → length all ≤ position →
      so_far ++ sites_from program budget state (drop position all) ≡ made → so_far ≡ made
  all_sited position state so_far beyond before =
      sym (append-nil so_far) ∙ sym (ap (λ cs. so_far ++ sites_from program budget state cs) (drop_beyond all position beyond)) ∙ before

-- the sites have the numbers of the traps that are answered
pub numbers_answered : (program : Program) (budget : ℕ) (state : Activation) (calls : List ObjectCall) →
    map (option_map (λ site. site.number)) (sites_from program budget state calls) ≡ map trap_of (replies_to program budget state calls)
numbers_answered program budget state [] = refl
numbers_answered program budget state (call ∷ calls) =
    let after = (effect program call budget state).state in
    ap (λ n. n ∷ map (option_map (λ site. site.number)) (sites_from program budget after calls)) (call_trap program call budget state)
    ∙ ap (λ ns. trap_of (effect program call budget state).reply ∷ ns) (numbers_answered program budget after calls)

-- each call has its place among the sites
pub length-sites : (program : Program) (budget : ℕ) (state : Activation) (calls : List ObjectCall) → length (sites_from program budget state calls) ≡ length calls
length-sites program budget state [] = refl
length-sites program budget state (call ∷ calls) = ap (λ n. suc n) (length-sites program budget (effect program call budget state).state calls)
