-- The search of a name among exports, and where the export that it finds stands.
use Rattle.std.proofs.Common.{◌≡◌, refl, ap, sym, ◌∙◌, ℕ, ◌+◌, suc, Bool, true, false, List, [], ◌∷◌, map, Option, Some, None, option_map, Bor, if◌then◌else◌, arith}
use Rattle.std.specs.Prelude.{bytes_eq, slice_get, string_bytes}
use Rattle.std.specs.List.{find, enumerate_from}
use Rattle.ob_interface.specs.declared.export.Export.{Export}
use Rattle.ob_interface.specs.Export.{Signature}
use Rattle.ob_interface.specs.View.{signature_of}
use Rattle.ob_text_words.specs.ExportNames.{export_named}
use Rattle.ob_text_words.specs.Words.{Word}

module _ {X Y : Type 0} (f : X → Y) where
  abbrev numbered : ℕ × X → ℕ × Y
  numbered e = (e.0, f e.1)

  find-map : (test : ℕ × Y → Bool) (n : ℕ) (xs : List X) →
      find test (enumerate_from n (map f xs)) ≡ option_map numbered (find (λ e. test (numbered e)) (enumerate_from n xs))
  find-map test n [] = refl
  find-map test n (x ∷ xs) = by (test (n, f x)) (find-map test (n + 1) xs)
    where
      behind : Option (ℕ × X)
      behind = find (λ e. test (numbered e)) (enumerate_from (n + 1) xs)

      by : (b : Bool) → find test (enumerate_from (n + 1) (map f xs)) ≡ option_map numbered behind →
          (if b then Some (n, f x) else find test (enumerate_from (n + 1) (map f xs))) ≡ option_map numbered (if b then Some (n, x) else behind)
      by true rest = refl
      by false rest = rest

  lent : (r : Option (ℕ × Bor X)) → option_map (λ (e : ℕ × Bor X). (e.0, f e.1.now)) r ≡ option_map numbered (option_map (λ (e : ℕ × Bor X). (e.0, e.1.now)) r)
  lent None = refl
  lent (Some e) = refl

-- what was found among the program's exports is the export of the name
pub export_found : (exports : List Export) (name : Word) (r : Option (ℕ × Bor Export)) →
    option_map (λ (e : ℕ × Bor Export). (e.0, e.1.now)) r ≡ find (λ (e : ℕ × Export). bytes_eq (string_bytes e.1.name) name) (enumerate_from 0 exports) →
    option_map (λ (e : ℕ × Bor Export). (e.0, signature_of e.1.now)) r ≡ export_named (map signature_of exports) name
export_found exports name r found =
    let test : ℕ × Signature → Bool = λ e. bytes_eq e.1.name name in
    lent signature_of r ∙ ap (option_map (numbered signature_of)) found ∙ sym (find-map signature_of test 0 exports)

export_if : (test : Bool) (n k : ℕ) (p q : Signature) (rest : Option (ℕ × Signature)) (ps : List Signature) →
    (rest ≡ Some (n, p) → (m : ℕ) × ((n ≡ (k + 1) + m) × (slice_get ps m ≡ Some p))) →
    (if test then Some (k, q) else rest) ≡ Some (n, p) → (m : ℕ) × ((n ≡ k + m) × (slice_get (q ∷ ps) m ≡ Some p))
export_if true n k p q rest ps again e =
    let same : k ≡ n = ap the_number e in
    let first : n ≡ k + 0 = omega (arith, same) in
    (0, (first, ap the_signature e))
  where
    the_number : Option (ℕ × Signature) → ℕ
    the_number None = 0
    the_number (Some f) = f.0

    the_signature : Option (ℕ × Signature) → Option Signature
    the_signature None = None
    the_signature (Some f) = Some f.1
export_if false n k p q rest ps again e =
    let (m, (is, at)) = again e in
    let further : n ≡ k + suc m = omega (arith, is) in
    (suc m, (further, at))

found_from : (test : ℕ × Signature → Bool) (k : ℕ) (ps : List Signature) (n : ℕ) (p : Signature) → find test (enumerate_from k ps) ≡ Some (n, p) →
    (m : ℕ) × ((n ≡ k + m) × (slice_get ps m ≡ Some p))
found_from test k [] n p e = absurd cc
found_from test k (q ∷ ps) n p e =
    export_if (test (k, q)) n k p q (find test (enumerate_from (k + 1) ps)) ps (λ h. found_from test (k + 1) ps n p h) e

-- the export of a name stands at its number
pub export_there : (signatures : List Signature) (name : Word) (n : ℕ) (p : Signature) → export_named signatures name ≡ Some (n, p) → slice_get signatures n ≡ Some p
export_there signatures name n p h =
    let (m, (is, at)) = found_from (λ e. bytes_eq e.1.name name) 0 signatures n p h in
    let same : n ≡ m = omega (arith, is) in
    ap (slice_get signatures) same ∙ at
