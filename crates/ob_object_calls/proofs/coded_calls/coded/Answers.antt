use Rattle.std.proofs.Common.{◌∙◌, ap, sym, subst}
use Rattle.ob_code_correct.specs.CodeMeaning.{EngineParts}
use Rattle.ob_code_correct.specs.Compiled.{parts_of}
use Rattle.ob_layout.specs.Layout.{layout_of}
use Rattle.ob_object_compile.specs.View.{object_in}
use Rattle.ob_object_calls.proofs.SequenceByCode.{compiled_to, opens_lawfully}
use Rattle.ob_object_calls.proofs.coded_calls.coded.Goals as goal
