-- The calls of a record fit the program whose object's record it is.
use Rattle.std.proofs.Common.{◌≡◌, ℕ, zero, suc, ℤ, List, [], ◌∷◌, ◌++◌, All, Some, map, slice_get, refl, subst, arith, inl, inr}
use Rattle.std.proofs.lemmas.Int.{ints}
use Rattle.std.proofs.lemmas.List.Elements.{All-cons, All-nil, Contains-append_cases}
use Rattle.std.proofs.lemmas.Option.{same_Some}
use Rattle.std.specs.List.{Contains}
use Rattle.ob_checked.specs.Exports.{signatures}
use Rattle.ob_code_correct.proofs.CodeLaw.{fitting_signed}
use Rattle.ob_code_correct.specs.Carried.{BegunFit}
use Rattle.ob_code_correct.specs.Compiled.{Fits}
use Rattle.ob_code_scheme.specs.Correct.{IsInRange}
use Rattle.ob_code_scheme.specs.Types as Types
use Rattle.ob_interface.specs.Call.{ObjectCall, Reply}
use Rattle.ob_interface.specs.Export.{type_of, value_types, Signature}
use Rattle.ob_interface.specs.declared.scalar.Scalar.{Scalar}
use Rattle.ob_interface.specs.declared.scalar.ScalarType.{ScalarType}
use Rattle.ob_text_words.proofs.ExportSearch.{export_there}
use Rattle.ob_text_words.specs.ExportNames.{export_named}
use Rattle.ob_text_words.specs.Values as Values
use Rattle.ob_text_words.specs.Values.{AreValues, IsValue}
use Rattle.ob_text_reading.specs.RecordLines as Lines
use Rattle.ob_text_reading.specs.RecordLines.{AreLines, IsEvent, IsRecord, Line, Told}
use Rattle.ob_text_words.specs.Words as Words
use Rattle.ob_text_words.specs.Words.{IsInteger, Word}
use Rattle.ob_typing.specs.Program.{Program}
use Rattle.wf_history.proofs.Positions.{place_of}
use Rattle.wf_history.specs.declared.event.CallId.{CallId}
use Rattle.wf_history.specs.History.{Event, Begin}

-- values that words say are of their types and in range

value_fits : {t : ScalarType} {word : Word} {s : Scalar} → IsValue t word s → type_of s ≡ t
value_fits (Values.integer h) = refl
value_fits (Values.boolean h) = refl

integer_ranged : {word : Word} {z : ℤ} → IsInteger word z → Types.IsInteger z
integer_ranged (Words.positive {n = n} h small) = record { low = omega (arith, ints); high = omega (arith, ints) }
integer_ranged (Words.negative {n = n} h small) = record { low = omega (arith, ints); high = omega (arith, ints) }

value_ranged : {t : ScalarType} {word : Word} {s : Scalar} → IsValue t word s → IsInRange s
value_ranged (Values.integer h) = integer_ranged h
value_ranged (Values.boolean h) = tt

values_fit : {ts : List ScalarType} {ws : List Word} {ss : List Scalar} → AreValues ts ws ss → map type_of ss ≡ ts
values_fit Values.none = refl
values_fit (Values.more {type = t} {types = ts} {s = s} {ss = ss} h hs) =
    let first = value_fits h in
    let rest = values_fit hs in
    cc

values_ranged : {ts : List ScalarType} {ws : List Word} {ss : List Scalar} → AreValues ts ws ss → All IsInRange ss
values_ranged Values.none = All-nil IsInRange
values_ranged (Values.more {s = s} {ss = ss} h hs) = All-cons IsInRange s ss (value_ranged h) (values_ranged hs)

-- an event of a list of one
at_only : (e x : Event ObjectCall Reply) (k : ℕ) → slice_get (e ∷ []) k ≡ Some x → e ≡ x
at_only e x zero at = same_Some e x at
at_only e x (suc k) at = absurd (cc)

only : (e x : Event ObjectCall Reply) → Contains (e ∷ []) x → e ≡ x
only e x h = let p = place_of (e ∷ []) x h in at_only e x p.0 p.1

module _ (program : Program) where
  call_fits : (name : Word) (rest : List Word) (n : ℕ) (signature : Signature) (arguments : List Scalar) → export_named (signatures program) name ≡ Some (n, signature) →
      AreValues (value_types signature.formals) rest arguments → Fits program (record { export = n; arguments = arguments })
  call_fits name rest n signature arguments found fit =
      let call : ObjectCall = record { export = n; arguments = arguments } in
      let here : slice_get (signatures program) n ≡ Some signature = export_there (signatures program) name n signature found in
      (fitting_signed program call).fits (record { signature = signature; here = here; fit = values_fit fit }) (values_ranged fit)

  -- an event of a line that begins a call, begins one that fits
  abbrev pub FitsIfBegun : Event ObjectCall Reply → Type 0
  FitsIfBegun e = (id : CallId) (call : ObjectCall) → e ≡ Begin id call → Fits program call

  abbrev begun_as : CallId → ObjectCall → Event ObjectCall Reply
  begun_as id call = Begin id call

  call_of : (i j : CallId) (a b : ObjectCall) → begun_as i a ≡ begun_as j b → a ≡ b
  call_of i j a b e = cc

  pub event_fits : (processes : ℕ) (before : List (Event ObjectCall Reply)) (line : Line) (e : Event ObjectCall Reply) → IsEvent processes (signatures program) before line e → FitsIfBegun e
  event_fits processes before line e (Lines.begin {name = name} {rest = rest} {id = i} {n = n} {signature = signature} {arguments = arguments} names found fit) =
      λ id call is. subst (λ (c : ObjectCall). Fits program c) (call_of i id _ call is) (call_fits name rest n signature arguments found fit)
  event_fits processes before line e (Lines.end names begun replies) = λ id call is. absurd (cc)

  pub one_more : (before : List (Event ObjectCall Reply)) (e : Event ObjectCall Reply) → BegunFit (Fits program) before → FitsIfBegun e → BegunFit (Fits program) (before ++ e ∷ [])
  one_more before e fit here id call begun =
      elim (Contains-append_cases before (e ∷ []) (Begin id call) begun) [
        | inl early ↦ fit id call early
        | inr last ↦ here id call (only e (Begin id call) last)
      ]

  lines_fit : (processes : ℕ) {before all : List (Event ObjectCall Reply)} {ls : List Line} {ids : List CallId} → AreLines processes (signatures program) before ls all ids →
      BegunFit (Fits program) before → BegunFit (Fits program) all
  lines_fit processes {before} (Lines.event {line = line} {e = e} next rest) fit =
      lines_fit processes rest (one_more before e fit (event_fits processes before line e next.form))
  lines_fit processes (Lines.applied says rest) fit = lines_fit processes rest fit
  lines_fit processes (Lines.order says tails) fit = fit

  pub none_begun : BegunFit {Reply = Reply} (Fits program) []
  none_begun id call begun = let p = place_of [] (Begin id call) begun in absurd (cc (p.1))

  -- each call of a record fits
  pub calls_fit : (text : List ℕ) (tells : Told) → IsRecord program text tells → BegunFit (Fits program) tells.events
  calls_fit text tells r = lines_fit tells.processes r.tells none_begun
