-- The calls of a script are by its processes, and fit the exports.
use Rattle.std.proofs.Common.{◌≡◌, refl, ap, ◌∙◌, arith, ℕ, suc, ◌+◌, ◌<◌, Bool, true, false, List, [], ◌∷◌, map, All, Option, Some, None, bytes_eq}
use Rattle.std.specs.Prelude.{slice_get, if◌then◌else◌}
use Rattle.std.specs.List.{find, enumerate_from}
use Rattle.std.proofs.lemmas.List.Elements.{All-cons, All-nil}
use Rattle.ob_interface.specs.declared.scalar.Scalar.{Scalar}
use Rattle.ob_interface.specs.declared.scalar.ScalarType.{ScalarType}
use Rattle.ob_interface.specs.Export.{Signature, CallFits, type_of}
use Rattle.ob_text_words.specs.ScriptCalls.{ScriptCall, object_call}
use Rattle.ob_text_words.specs.Words.{Word}
use Rattle.ob_text_words.specs.ExportNames.{export_named}
use Rattle.ob_text_words.specs.Values.{IsValue, integer, boolean, AreValues, more}
use Rattle.ob_text_words.specs.Values as Values
use Rattle.ob_text_scripts.specs.Script.{AreLines, IsScript, Makes, makes, none, skipped, call}

abbrev the_number : Option (ℕ × Signature) → ℕ
the_number None = 0
the_number (Some f) = f.0

abbrev the_signature : Option (ℕ × Signature) → Option Signature
the_signature None = None
the_signature (Some f) = Some f.1

found_if : (test : Bool) (n k : ℕ) (p q : Signature) (rest : Option (ℕ × Signature)) (ps : List Signature) →
    (rest ≡ Some (n, p) → (m : ℕ) × ((n ≡ (k + 1) + m) × (slice_get ps m ≡ Some p))) →
    (if test then Some (k, q) else rest) ≡ Some (n, p) → (m : ℕ) × ((n ≡ k + m) × (slice_get (q ∷ ps) m ≡ Some p))
found_if true n k p q rest ps again e =
    let same : k ≡ n = ap the_number e in
    let first : n ≡ k + 0 = omega (arith, same) in
    (0, (first, ap the_signature e))
found_if false n k p q rest ps again e =
    let (m, (is, at)) = again e in
    let further : n ≡ k + suc m = omega (arith, is) in
    (suc m, (further, at))

found : (test : ℕ × Signature → Bool) (k : ℕ) (ps : List Signature) (n : ℕ) (p : Signature) → find test (enumerate_from k ps) ≡ Some (n, p) →
    (m : ℕ) × ((n ≡ k + m) × (slice_get ps m ≡ Some p))
found test k [] n p e = absurd cc
found test k (q ∷ ps) n p e =
    found_if (test (k, q)) n k p q (find test (enumerate_from (k + 1) ps)) ps (λ h. found test (k + 1) ps n p h) e

-- the export of a name is the one of its number
pub export_there : (signatures : List Signature) (name : Word) (n : ℕ) (p : Signature) → export_named signatures name ≡ Some (n, p) → slice_get signatures n ≡ Some p
export_there signatures name n p h =
    let (m, (is, at)) = found (λ e. bytes_eq e.1.name name) 0 signatures n p h in
    let same : n ≡ m = omega (arith, is) in
    ap (slice_get signatures) same ∙ at

-- a value is of its type
value_type : {t : ScalarType} {word : Word} {s : Scalar} → IsValue t word s → type_of s ≡ t
value_type (integer h) = refl
value_type (boolean h) = refl

pub values_types : {ts : List ScalarType} {ws : List Word} {ss : List Scalar} → AreValues ts ws ss → map type_of ss ≡ ts
values_types Values.none = refl
values_types (more h hs) =
    let first = value_type h in
    let rest = values_types hs in
    cc

module _ (signatures : List Signature) (processes : ℕ) where
  Makes-below : {line : List Word} {c : ScriptCall} → Makes signatures processes line c → c.process < processes
  Makes-below (makes process below is_name named fit) = below

  Makes-fits : {line : List Word} {c : ScriptCall} → Makes signatures processes line c → CallFits signatures (object_call c)
  Makes-fits (makes {name = name} {n = n} {signature = signature} process below is_name named fit) =
      record { signature = signature; here = export_there signatures name n signature named; fit = values_types fit }

  lines_below : {ls : List (List Word)} {cs : List ScriptCall} → AreLines signatures processes ls cs → All (λ c. c.process < processes) cs
  lines_below none = All-nil (λ (c : ScriptCall). c.process < processes)
  lines_below (skipped s h) = lines_below h
  lines_below (call {c = c} {calls = calls} m h) = All-cons (λ (d : ScriptCall). d.process < processes) c calls (Makes-below m) (lines_below h)

  lines_fit : {ls : List (List Word)} {cs : List ScriptCall} → AreLines signatures processes ls cs → All (λ c. CallFits signatures (object_call c)) cs
  lines_fit none = All-nil (λ (c : ScriptCall). CallFits signatures (object_call c))
  lines_fit (skipped s h) = lines_fit h
  lines_fit (call {c = c} {calls = calls} m h) = All-cons (λ (d : ScriptCall). CallFits signatures (object_call d)) c calls (Makes-fits m) (lines_fit h)

  pub calls_below : (text : List ℕ) {cs : List ScriptCall} → IsScript signatures processes text cs → All (λ c. c.process < processes) cs
  calls_below text h = lines_below h

  pub calls_fit : (text : List ℕ) {cs : List ScriptCall} → IsScript signatures processes text cs → All (λ c. CallFits signatures (object_call c)) cs
  calls_fit text h = lines_fit h
