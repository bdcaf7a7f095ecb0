-- What a line may be, as its first byte tells, and in which order lines come.
use Rattle.std.specs.Prelude.{ℕ, ◌==◌, ◌||◌, [], ◌∷◌, if◌then◌else◌}
use Rattle.ob_text_values_reading.specs.RecordTexts.{Line}
use Rattle.ob_text_values_reading.specs.declared.kind.LineKind.{LineKind}
use Rattle.ob_text_values_reading.specs.declared.kind.LineKind.TheVariants as Kinds
use Rattle.ob_text_values_reading.specs.declared.kind.Stage.{Stage}
use Rattle.ob_text_values_reading.specs.declared.kind.Stage.TheVariants as Stages

-- what the first byte of a line tells of its kind
abbrev pub kind_of_byte : ℕ → LineKind
kind_of_byte b =
    if b == 35 then Kinds.Comment else
    (if b == 111 then Kinds.Title else
    (if b == 110 then Kinds.Count else
    (if b == 98 then Kinds.Budget else
    (if b == 73 then Kinds.Opening else
    (if (b == 66) || (b == 69) then Kinds.Event else
    (if b == 65 then Kinds.Applied else
    (if b == 79 then Kinds.Order else
    (if (b == 83) || (b == 86) then Kinds.Tail else Kinds.Other))))))))

abbrev pub kind_of : Line → LineKind
kind_of [] = Kinds.Comment
kind_of ([] ∷ ws) = Kinds.Other
kind_of ((b ∷ more) ∷ ws) = kind_of_byte b

-- stages come in this order
abbrev pub place : Stage → ℕ
place Stages.Start = 0
place Stages.Title = 1
place Stages.Count = 2
place Stages.Budget = 3
place Stages.Openings = 4
place Stages.Events = 5
place Stages.Order = 6
