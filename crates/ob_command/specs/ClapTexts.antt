-- What is kept of a text in which clap tells a mistake.
use Rattle.std.specs.Prelude.{◌≡◌, ◌≢◌, ◌⊎◌, ◌≤◌, ◌++◌, [], codes, length}
use Rattle.ob_command.specs.CommandLine.{Text}

-- A text, the mark, and a text make up the whole, and the mark stands nowhere before that.
pub record IsFirst (mark whole before behind : Text) : Type 0 where
  pub whole_is : whole ≡ before ++ (mark ++ behind)
  pub first : (front back : Text) → whole ≡ front ++ (mark ++ back) → length before ≤ length front

-- the mark stands nowhere in it
abbrev pub LacksMark : (mark whole : Text) → Type 0
LacksMark mark whole = (front back : Text) → whole ≢ front ++ (mark ++ back)

-- behind this mark clap tells the rule that a value breaks
abbrev pub rule_mark : Text
rule_mark = codes ">': "

-- The mistake of a value up to the first mark and with it; where there is none, `error: ` alone.
abbrev pub IsBeforeRule : (mistake text : Text) → Type 0
IsBeforeRule mistake text =
    (LacksMark rule_mark mistake × (text ≡ codes "error: "))
    ⊎ ((before behind : Text) × IsFirst rule_mark mistake before behind × (text ≡ before ++ rule_mark))

-- with this mark clap begins its tip to pass a word as a value
abbrev pub tip_mark : Text
tip_mark = codes "\n\n  tip: to pass "

abbrev pub empty_line : Text
empty_line = codes "\n\n"

-- What stands behind a tip: from the first empty line on, or nothing where there is none.
abbrev pub IsBehindTip : (tip rest : Text) → Type 0
IsBehindTip tip rest =
    (LacksMark empty_line tip × (rest ≡ []))
    ⊎ ((inside behind : Text) × IsFirst empty_line tip inside behind × (rest ≡ empty_line ++ behind))

-- A mistake without its first tip, or as it is where it has none.
abbrev pub IsWithoutTip : (mistake text : Text) → Type 0
IsWithoutTip mistake text =
    (LacksMark tip_mark mistake × (text ≡ mistake))
    ⊎ ((before tip rest : Text) × IsFirst tip_mark mistake before tip × IsBehindTip tip rest × (text ≡ before ++ rest))
