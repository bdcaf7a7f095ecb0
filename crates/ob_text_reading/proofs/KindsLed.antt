-- What a line of one kind leads to.
use Rattle.std.proofs.Common.{◌≡◌, Result, IfOk, Option, sym, subst}
use Rattle.ob_text_reading.specs.Reading.{Heard, Leads, LeadsAs}
use Rattle.ob_text_values_reading.specs.LineKinds.{kind_of}
use Rattle.ob_text_reading.specs.HistoryContents.{heard_of}
use Rattle.ob_text_values_reading.specs.declared.kind.LineKind.{LineKind}
use Rattle.ob_text_reading.specs.declared.line_reader.Reader.{Reader}
use Rattle.ob_text_reading.specs.RecordLines.{Line}
use Rattle.ob_text_words.specs.Finding.{FindsAs}
use Rattle.ob_typing.specs.Program.{Program}

module _ (program : Program) (h : Heard) (line : Line) (found kind : LineKind) (kinds : found ≡ kind_of line) (is : found ≡ kind) where
  same_kind : kind_of line ≡ kind
  same_kind = subst (λ (k : LineKind). k ≡ kind) kinds is

  pub found_as : (r : Option Reader) → FindsAs heard_of (LeadsAs program h line kind) r → FindsAs heard_of (Leads program h line) r
  found_as r f = subst (λ (k : LineKind). FindsAs heard_of (LeadsAs program h line k) r) (sym same_kind) f

  pub read_as : {E : Type 0} (r : Result (Option Reader) E) → IfOk r (FindsAs heard_of (LeadsAs program h line kind)) → IfOk r (FindsAs heard_of (Leads program h line))
  read_as r f = subst (λ (k : LineKind). IfOk r (FindsAs heard_of (LeadsAs program h line k))) (sym same_kind) f
