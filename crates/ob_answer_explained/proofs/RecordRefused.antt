-- A record that is refused with the beginning of a module.
use Rattle.std.proofs.Common.{◌≡◌, ◌≢◌, ◌<◌, ℕ, List, inl, inr, length, subst, sym}
use Rattle.ob_answer_explained.specs.Refusals.{RefusesRecord}
use Rattle.ob_answer_explained.proofs.AtOnce.{no_module, too_long_scan}
use Rattle.ob_answer_explained.proofs.Beginnings.{beginning, of_whole_or_long}
use Rattle.ob_object_calls.specs.Verified.{IsVerified}
use Rattle.ob_object_calls.specs.VerifyFaults as Verifies
use Rattle.ob_object_calls.specs.VerifyFaults.{IsVerifyFault}
use Rattle.ob_object_calls.specs.declared.verifying.VerifyFault.{VerifyFault}
use Rattle.ob_object_calls.specs.declared.verifying.VerifyFault.TheVariants as Verify

pub numbered_verify : (e : VerifyFault) → e ≢ Verify.NoMemory → Verifies.TellsMemoryApart e → Verifies.IsNumbered e
numbered_verify e known apart = elim apart [ inl is ↦ absurd (known is) | inr h ↦ h ]

-- a refusal of the beginning of a module's text is one of the whole
pub record_refused : (part text : List ℕ) (e : VerifyFault) → e ≢ Verify.NoMemory
    → IsVerifyFault part text e → Verifies.TellsMemoryApart e → (Verifies.IsNumbered e → IsVerified part text → ⊥)
    → (65536 < length part → e ≡ Verifies.too_long)
    → (whole : List ℕ) → part ≡ beginning whole → RefusesRecord whole text e
record_refused part text e known stands apart none too_long whole is = record {
  says = of_whole_or_long (λ t. IsVerifyFault t text e) part whole is
      (λ long longer. subst (λ (x : VerifyFault). IsVerifyFault whole text x) (sym (too_long long)) (too_long_scan whole longer)) stands;
  none = of_whole_or_long (λ t. IsVerified t text → ⊥) part whole is (λ long longer v. no_module whole longer v.program v.is_module)
      (none (numbered_verify e known apart));
  numbered = numbered_verify e known apart;
}
