-- With a fault before one of its order a record has no picture.
use Rattle.std.proofs.Common.{◌≡◌, ◌≢◌, ap, ℕ, List, Option, Some, None, ◌⊎◌, inl, inr, option_map, refl}
use Rattle.std.proofs.lemmas.Bool.{both_ways}
use Rattle.ob_check.specs.CheckedText.{IsNumberedText, is_text_memory}
use Rattle.ob_check.specs.declared.module_text.TextFault.{TextFault}
use Rattle.ob_check.specs.declared.module_text.TextFault.TheVariants as Text
use Rattle.ob_mean.specs.declared.openings.OpenFault.TheVariants as Open
use Rattle.ob_object_draw.specs.Marks.{IsCallMarked, IsOf, of_verify}
use Rattle.ob_object_draw.specs.RecordPictures.{HasNoPicture, IsRecordPicture, IsRefusal}
use Rattle.ob_object_draw.specs.declared.record_pictures.DrawRecordFault.TheVariants as Faults
use Rattle.ob_object_run.specs.declared.order_checker.OrderFault.{OrderFault}
use Rattle.ob_object_run.specs.declared.order_checker.OrderFault.TheVariants as Order
use Rattle.ob_object_calls.specs.Verified.{IsVerified}
use Rattle.ob_object_calls.specs.VerifyFaults as Verifies
use Rattle.ob_object_calls.specs.VerifyFaults.{IsFaultOfRecord, IsVerifyFault}
use Rattle.ob_object_calls.specs.declared.verifying.VerifyFault.{VerifyFault}
use Rattle.ob_object_calls.specs.declared.verifying.VerifyFault.TheVariants as Verify
use Rattle.ob_picture_chart.specs.declared.charts.CallRange.{CallRange}
use Rattle.wf_history.specs.declared.event.CallId.{CallId}

-- a fault of a call is no want of memory
known : (fault : OrderFault) (id : CallId) → IsOf fault id → fault ≢ Order.NoMemory
known (Order.Missing call) id is bad = cc
known (Order.Unknown call) id is bad = cc
known (Order.TooEarly call) id is bad = cc
known (Order.OtherReply call) id is bad = cc
known Order.NoMemory id is bad = is

text_numbered : (e : TextFault) → Verifies.TellsMemoryApart (Verify.Text e) → IsNumberedText e
text_numbered e memory = elim memory [ inl bad ↦ absurd (cc) | inr numbered ↦ numbered ]

no_text_memory : (e : TextFault) → IsNumberedText e → e ≢ Text.NoMemory
no_text_memory e numbered bad = both_ways (is_text_memory e) numbered.0 (ap is_text_memory bad)

module _ (module_text record_text : List ℕ) where
  no_call : (none : IsVerified module_text record_text → ⊥) → (never : (fault : OrderFault) → fault ≢ Order.NoMemory → IsFaultOfRecord module_text record_text (Verify.Order fault) → ⊥) →
      (id : Option CallId) → IsCallMarked module_text record_text id → ⊥
  no_call none never None is = none is
  no_call none never (Some id) is = never is.fault (known is.fault id is.is_of) is.fails

  -- neither is its order legal nor has it a fault
  no_picture : (none : IsVerified module_text record_text → ⊥) → (never : (fault : OrderFault) → fault ≢ Order.NoMemory → IsFaultOfRecord module_text record_text (Verify.Order fault) → ⊥) →
      (calls : Option CallRange) → HasNoPicture module_text record_text calls
  no_picture none never calls output p = no_call none never (option_map (λ m. m.id) p.mark) p.marks

  pub refused : (e : VerifyFault) → IsVerifyFault module_text record_text e → (Verifies.IsNumbered e → IsVerified module_text record_text → ⊥) →
      ((fault : VerifyFault) → Verifies.IsNumbered fault → IsFaultOfRecord module_text record_text fault → (e ≡ fault) ⊎ (e ≡ Verify.NoMemory)) →
      Verifies.TellsMemoryApart e → IsRefusal module_text record_text (of_verify e)
  refused (Verify.Text e) says none only memory =
      record {
        says = λ calls. says;
        none = λ numbered calls. no_picture (none (text_numbered e memory)) (λ fault is fails. elim (only (Verify.Order fault) is fails) [ inl bad ↦ cc | inr bad ↦ cc ]) calls;
        memory = ((text_numbered e memory).1, no_text_memory e (text_numbered e memory));
      }
  refused (Verify.Form line) says none only memory =
      record {
        says = λ calls. record { program = says.program; is_module = says.is_module; fails = says.fails };
        none = λ numbered calls. no_picture (none tt) (λ fault is fails. elim (only (Verify.Order fault) is fails) [ inl bad ↦ cc | inr bad ↦ cc ]) calls;
        memory = tt;
      }
  refused (Verify.Open e) says none only memory =
      record {
        says = λ calls. says;
        none = λ numbered calls. no_picture (none numbered.1) (λ fault is fails. elim (only (Verify.Order fault) is fails) [ inl bad ↦ cc | inr bad ↦ cc ]) calls;
        memory = elim memory [ inl bad ↦ absurd (cc) | inr numbered ↦ numbered ];
      }
  refused (Verify.Order e) says none only memory = record { says = λ calls. tt; none = λ numbered calls. absurd (numbered.0 refl); memory = tt }
  refused Verify.NoMemory says none only memory = record { says = λ calls. tt; none = λ numbered calls. absurd (numbered.0 refl); memory = tt }
