-- With a fault that has a number the texts have no picture.
use Rattle.std.proofs.Common.{◌≡◌, ◌≢◌, ℕ, List, Option, Some, None, length, inl, inr, refl, subst, arith}
use Rattle.ob_check.specs.CheckedText.{IsNumberedText}
use Rattle.ob_check.specs.declared.module_text.TextFault.{TextFault}
use Rattle.ob_check.specs.declared.module_text.TextFault.TheVariants as Text
use Rattle.ob_object_draw.specs.RecordPictures.{HasNoPicture, IsNumbered, IsRecordPicture, moments_of, of_picture, of_record, of_text}
use Rattle.ob_picture_chart.specs.Charts.{begun}
use Rattle.ob_picture_chart.specs.Faults.{IsRangeFault, MayBeShown}
use Rattle.ob_picture_chart.specs.Moments.{Moment}
use Rattle.ob_picture_chart.specs.declared.charts.CallRange.{CallRange}
use Rattle.ob_picture_chart.specs.declared.fault.PictureFault.{PictureFault}
use Rattle.ob_picture_chart.specs.declared.fault.PictureFault.TheVariants as Pictures
use Rattle.ob_text_reading.specs.RecordLines.{IsRecord, IsRecordFault, Told}
use Rattle.ob_text_reading.specs.declared.record_reading.RecordFault.{RecordFault}
use Rattle.ob_text_reading.specs.declared.record_reading.RecordFault.TheVariants as Record
use Rattle.ob_typing.specs.ModuleText.{IsModule}
use Rattle.ob_typing.specs.Program.{Program}

-- a range with a fault has no calls, or more than a picture
pub not_shown : (total : ℕ) (calls : Option CallRange) (e : PictureFault) → e ≢ Pictures.NoMemory → IsRangeFault total calls e → MayBeShown total calls → ⊥
not_shown total None (Pictures.NoCalls all) known h shown = h.1
not_shown total (Some range) (Pictures.NoCalls all) known h shown =
    let first = shown.some.0 in
    let last = shown.some.1 in
    elim h.1 [ inl z ↦ omega (arith, z, first) | inr z ↦ omega (arith, z, last) ]
not_shown total calls (Pictures.TooMany number) known h shown =
    let same = h.1 in
    let many = h.2 in
    let few = shown.few in
    omega (arith, same, many, few)
not_shown total calls Pictures.NoMemory known h shown = known refl

module _ (module_text record_text : List ℕ) (calls : Option CallRange) where
  pub no_module : (e : TextFault) → (IsNumberedText e → (program : Program) → IsModule module_text program → ⊥) → IsNumbered (of_text e) → HasNoPicture module_text record_text calls
  no_module (Text.Scan e) none numbered output p = none (refl, numbered.1.0) p.program p.read.is_module
  no_module (Text.Parse e) none numbered output p = none (refl, numbered.1.0) p.program p.read.is_module
  no_module (Text.Check e) none numbered output p = none (refl, numbered.1.0) p.program p.read.is_module
  no_module Text.NoMemory none numbered output p = numbered.0 refl

  module _ (program : Program) (only : (other : Program) → IsModule module_text other → other ≡ program) where
    -- the record of a picture is one of this program's object
    record_here : (output : List ℕ) (p : IsRecordPicture module_text record_text calls output) → IsRecord program record_text p.tells
    record_here output p =
        subst (λ (q : Program). IsRecord q record_text p.tells) (only p.program p.read.is_module) p.read.is_record

    pub no_record : (e : RecordFault) → IsRecordFault program record_text e → IsNumbered (of_record e) → HasNoPicture module_text record_text calls
    no_record (Record.Form line) h numbered output p = h.none tt p.tells (record_here output p)
    no_record Record.NoMemory h numbered output p = numbered.0 refl

    module _ (tells : Told) (alone : (other : Told) → IsRecord program record_text other → other ≡ tells) (seen : List Moment) (same : seen ≡ moments_of tells) where
      shown_here : (output : List ℕ) → IsRecordPicture module_text record_text calls output → MayBeShown (length (begun seen)) calls
      shown_here output p =
          rw same
          (subst (λ (t : Told). MayBeShown (length (begun (moments_of t))) calls) (alone p.tells (record_here output p)) p.drawn.within)

      pub no_range : (e : PictureFault) → IsRangeFault (length (begun seen)) calls e → IsNumbered (of_picture e) → HasNoPicture module_text record_text calls
      no_range (Pictures.NoCalls all) h numbered output p = not_shown (length (begun seen)) calls (Pictures.NoCalls all) numbered.1 h (shown_here output p)
      no_range (Pictures.TooMany number) h numbered output p = not_shown (length (begun seen)) calls (Pictures.TooMany number) numbered.1 h (shown_here output p)
      no_range Pictures.NoMemory h numbered output p = numbered.0 refl
